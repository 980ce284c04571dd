-- The book of one object: its holders, its line, whom one in the line waits for, and how a request and a release change it.
use Rattle.std.specs.Prelude.{ℕ, zero, suc, ◌+◌, ◌-◌, ◌/◌, Bool, true, false, not, ◌&&◌, List, [], ◌∷◌, ◌++◌, eqb, ltb, set, drop, get_or}
use Rattle.std.proofs.Math.Option.{Option, none, some}
use Rattle.rules.specs.declared.Mode.{Mode}
use Rattle.rules.specs.declared.Mode.TheVariants.{Shared, Exclusive}
use Rattle.rules.specs.declared.Object.{Object}
use Rattle.rules.specs.Tables.{pick, either, collect, place_of, nobody}
use Rattle.rules.specs.Bits.{taken, without_bit, marked}

-- ---- modes
abbrev pub is_exclusive : Mode → Bool
is_exclusive Shared = false
is_exclusive Exclusive = true

abbrev pub mode_if : Bool → Mode
mode_if x = pick x Exclusive Shared

-- "Two holds by different processes conflict unless both are shared."
abbrev pub conflict : Mode → Mode → Bool
conflict m n = either (is_exclusive m) (is_exclusive n)

-- ---- holds: what two sets, one for each mode, note of number k
unfoldable pub hold_in : ℕ → ℕ → ℕ → Option Mode
hold_in shared exclusive k = pick (taken exclusive k) (some Exclusive) (pick (taken shared k) (some Shared) none)

-- a hold, if it is there, conflicts with mode m
abbrev pub against : Mode → Option Mode → Bool
against m none = false
against m (some n) = conflict m n

-- ---- holders
abbrev pub holder_at : Object → ℕ → Option Mode
holder_at o q = hold_in o.shared o.exclusive q

-- process q, other than p, holds the object in conflict with mode m
unfoldable pub rival : Object → ℕ → Mode → ℕ → Bool
rival o p m q = not (eqb q p) && against m (holder_at o q)

-- "first holders by rising number"
unfoldable pub rivals : Object → ℕ → Mode → List ℕ
rivals o p m = collect (rival o p m) (λ q. q) 16

-- no holder conflicts with process p in mode m; its own hold never does
unfoldable pub clear : Object → ℕ → Mode → Bool
clear o p m = nobody (rivals o p m)

abbrev pub with_holders : Object → ℕ → ℕ → Object
with_holders o s x = record { shared = s; exclusive = x; line = o.line; line_exclusive = o.line_exclusive; line_count = o.line_count }

-- "becoming a holder replaces any hold the process already has there"
abbrev pub held : Object → ℕ → Mode → Object
held o p m = with_holders o (marked o.shared p (not (is_exclusive m))) (marked o.exclusive p (is_exclusive m))

-- "The holder, if it is there, is struck."
abbrev pub struck : Object → ℕ → Object
struck o p = with_holders o (without_bit o.shared p) (without_bit o.exclusive p)

-- ---- the line
abbrev pub who_at : Object → ℕ → ℕ
who_at o k = get_or o.line k 0

abbrev pub mode_at : Object → ℕ → Mode
mode_at o k = mode_if (taken o.line_exclusive k)

-- the place of p in the line; the line's length where it is not there
unfoldable pub place_in : Object → ℕ → ℕ
place_in o p = place_of o.line_count (who_at o) p

abbrev pub with_line : Object → List ℕ → ℕ → ℕ → Object
with_line o l x n = record { shared = o.shared; exclusive = o.exclusive; line = l; line_exclusive = x; line_count = n }

-- "Otherwise it joins the end of the line." A line of 16 does not grow.
unfoldable pub joined : Object → ℕ → Mode → Object
joined o p m = let n = o.line_count in
    pick (ltb n 16) (with_line o (set o.line n p) (marked o.line_exclusive n (is_exclusive m)) (n + 1)) o

-- the front "leaves the line"
abbrev pub without_front : Object → Object
without_front o = with_line o (drop 1 o.line ++ 0 ∷ []) (o.line_exclusive / 2) (o.line_count - 1)

-- ---- whom a process waits for
-- the one at place k, other than p, conflicts with mode m
abbrev pub bars : Object → ℕ → Mode → ℕ → Bool
bars o p m k = not (eqb (who_at o k) p) && conflict m (mode_at o k)

-- "then those ahead in line from the front", of place k
unfoldable pub ahead : Object → ℕ → Mode → ℕ → List ℕ
ahead o p m k = collect (bars o p m) (who_at o) k

-- "A process in a line waits for each other process that holds the object in conflict with it, and for each process ahead of it
-- in that line whose mode conflicts": whom p waits for in mode m at place k, in the order of a list.
-- One that both holds and stands ahead is named first as a holder; a list takes each process once. The relation `Waits`, of which the
-- promises speak, names the same processes (`listed_waits` and `waits_listed` in proofs/).
unfoldable pub waited_for : Object → ℕ → Mode → ℕ → List ℕ
waited_for o p m k = rivals o p m ++ ahead o p m k

-- ---- a request arrives
-- "If the line is empty and no holder conflicts"
unfoldable pub welcome : Object → ℕ → Mode → Bool
welcome o p m = eqb o.line_count 0 && clear o p m

-- ---- a release arrives
-- the book then, and those granted, in order, with their modes
pub record Settled : Type 0 where
  pub object : Object
  pub grants : List (ℕ × Mode)

abbrev pub granted_first : ℕ × Mode → Settled → Settled
granted_first g s = record { object = s.object; grants = g ∷ s.grants }

abbrev pub front_clear : Object → Bool
front_clear o = clear o (who_at o 0) (mode_at o 0)

-- the front "becomes a holder, leaves the line"
abbrev pub front_granted : Object → Object
front_granted o = without_front (held o (who_at o 0) (mode_at o 0))

-- "while the front of the line conflicts with no holder, it becomes a holder, leaves the line, and a grant is sent"; n is the line's length
unfoldable pub settled : ℕ → Object → Settled
settled zero o = record { object = o; grants = [] }
settled (suc n) o = elim (front_clear o) [
  | true ↦ granted_first (who_at o 0, mode_at o 0) (settled n (front_granted o))
  | false ↦ record { object = o; grants = [] }
]

unfoldable pub release_arrives : Object → ℕ → Settled
release_arrives o p = settled o.line_count (struck o p)
