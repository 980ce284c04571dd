-- A list that grows, in rows beside its count: no entry is asked next while it does.
use Rattle.std.specs.Prelude.{ℕ}
use Rattle.rules.specs.declared.Entries.{Entries}
use Rattle.lists.specs.declared.gather.Rows.{Rows}

abbrev pub list_in : Rows → ℕ → Entries
list_in rows count = record { who = rows.who; leads = rows.leads; count = count; next = 0 }
