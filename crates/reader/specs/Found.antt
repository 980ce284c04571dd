-- What the pass over a sheet finds, in the words of the rules: the header's fields, the homes, their spare bits, the byte at which the
-- commands start, and whether a spare bit is set in one of them. Of more than 4,096 commands only the first 4,096 are read.
use Rattle.std.specs.Prelude.{ℕ, List}
use Rattle.rules.specs.Sheet.{form_of, nodes_of, processes_of, objects_of, header_spare, process_homes, object_homes, spare_in_homes, commands_start, command_count, after_homes, any_spare}
use Rattle.reader.specs.declared.Found.{Found}
use Rattle.reader.specs.Place.{least}

-- "Header, 16 bits .. Then 3 bits of home for each process, then for each object, then spare bits to the byte's end. Then commands of 16 bits"
abbrev pub found_in : List ℕ → Found
found_in s = record {
  form = form_of s;
  nodes = nodes_of s;
  processes = processes_of s;
  objects = objects_of s;
  spare = header_spare s;
  process_home = process_homes s;
  object_home = object_homes s;
  homes_spare = spare_in_homes s;
  start = commands_start s;
  commands_spare = any_spare (after_homes s) (least 4096 (command_count (after_homes s)));
}
