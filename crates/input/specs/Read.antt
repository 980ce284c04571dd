-- How many bytes of an input were read, whether a read failed or not.
use Rattle.std.specs.Prelude.{ℕ, Result, Ok, Err}
use Rattle.input.specs.declared.Broken.{Broken}

abbrev pub count_read : Result ℕ Broken → ℕ
count_read (Ok n) = n
count_read (Err broken) = broken.count
