-- A ring that grows by one.
use Rattle.std.specs.Prelude.{ℕ, ◌+◌, set}
use Rattle.rules.specs.declared.Ring.{Ring}

abbrev pub extended : Ring → ℕ → Ring
extended r p = record { processes = set r.processes r.count p; count = r.count + 1 }
