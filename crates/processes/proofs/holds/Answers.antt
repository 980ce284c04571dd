-- `holds` meets its contract: a hold stands in one of the two sets.
use Rattle.rules.specs.Bits.{taken}
use Rattle.std.proofs.Common.{◌≡◌, refl, ◌∙◌, Bool, true, false}
use mathlib.Core.Option.{some, none}
use Rattle.rules.specs.declared.Mode.TheVariants.{Shared, Exclusive}
use Rattle.rules.specs.Tables.{pick, either}
use Rattle.rules.specs.Home.{is_hold}
use Rattle.rules.proofs.Bits.{taken_or}
use Rattle.rules.specs.Book.{hold_in}
use Rattle.processes.proofs.holds.Goals as goal

-- a hold stands in one of two sets
hold-either : (s x : Bool) → either s x ≡ is_hold (pick x (some Exclusive) (pick s (some Shared) none))
hold-either true true = refl
hold-either true false = refl
hold-either false true = refl
hold-either false false = refl

pub returns : goal.returns
unfolding hold_in
returns c =
    let p = c.args.p in
    let o = c.args.o in
    c.has.ensures ∙ taken_or p.shared p.exclusive o ∙ hold-either (taken p.shared o) (taken p.exclusive o)
