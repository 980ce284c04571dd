-- How a list goes on: from the home of the entry asked next, and from an object. A home needs no more of a list than the place of the
-- entry asked next and the count of the entries.
use Rattle.std.specs.Prelude.{ℕ, ◌+◌, Bool, ◌&&◌, List, ltb}
use Rattle.rules.specs.declared.Wait.{Wait}
use Rattle.rules.specs.declared.Wait.TheVariants.{NotWaiting, Waiting}
use Rattle.rules.specs.declared.Kind.{Kind}
use Rattle.rules.specs.declared.Kind.TheVariants.{Free, ListToHome, ListToObject}
use Rattle.rules.specs.declared.Entries.{Entries}
use Rattle.rules.specs.declared.Object.{Object}
use Rattle.lists.specs.declared.Leg.{Leg}
use Rattle.rules.specs.Tables.{pick, among}
use Rattle.rules.specs.Book.{mode_at, waited_for}
use Rattle.rules.specs.Lists.{starter_of, asked_of, add_all, with_next}

-- "the list goes to the home of the next entry, or ends if there is none"
abbrev pub asks_next : ℕ → ℕ → Kind
asks_next next count = pick (ltb next count) ListToHome Free

-- "if the process waits for an object, the list goes to that object's home with the object's number; otherwise the entry is done"
abbrev pub onward : ℕ → ℕ → Wait → Leg
onward next count NotWaiting = record { kind = asks_next (next + 1) count; next = pick (ltb (next + 1) count) (next + 1) 0 }
onward next count (Waiting o m) = record { kind = ListToObject o; next = next }

-- those that the process asked next waits for at place k of the line
abbrev pub asked_waits_for : Entries → Object → ℕ → List ℕ
asked_waits_for l o k = waited_for o (asked_of l) (mode_at o k) k

-- the process stands in the line, "and the starter is among those it waits for"
abbrev pub closes : Entries → Object → ℕ → Bool
closes l o k = ltb k o.line_count && among (starter_of l) (asked_waits_for l o k)

-- "those it waits for that are not yet listed are added in the order above, and the entry is done"; none where the process is not in the line
abbrev pub grown : Entries → Object → ℕ → Entries
grown l o k = with_next (pick (ltb k o.line_count) (add_all l l.next (asked_waits_for l o k)) l) (l.next + 1)
