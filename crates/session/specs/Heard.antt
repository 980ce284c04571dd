-- What is heard of a typed line: the bytes that its room holds. Of a line longer than the room nothing is heard.
use Rattle.std.specs.Prelude.{ℕ, List, [], leb, length, take}
use Rattle.rules.specs.Tables.{pick}

unfoldable pub heard : List ℕ → ℕ → List ℕ
heard room count = pick (leb count (length room)) (take count room) []
