-- The pass over a sheet finds what the rules say: each part is read where the one before it ended, on the sheet that was passed.
use Rattle.std.proofs.Common.{ap}
use Rattle.std.proofs.Common.{Bor, List, ℕ}
use Rattle.reader.proofs.Heads.{pass_is}
use Rattle.reader.proofs.read_sheet.Goals as goal

pub returns : goal.returns
returns c =
    let bytes = λ (b : Bor (List ℕ)). b.now in
    let made = c.new-r.ensures in
    let head = c.read-header.ensures in
    let first = c.homes-process_home.ensures in
    let second = c.homes-object_home.ensures in
    let over = c.read-homes_spare.ensures in
    pass_is c.args.s.now (ap bytes made.0) made.1 head.0 (ap bytes head.1) head.2 first.0 (ap bytes first.1) first.2 second.0 (ap bytes second.1) second.2
    c.left-left.ensures over.0 (ap bytes over.1) over.2 c.commands-commands_spare.ensures.0
