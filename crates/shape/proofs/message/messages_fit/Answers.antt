-- The test of each message, with its number and its list. Assumes nothing.
use borrow.Author.Rules.{rules}
use borrow.Author.Tests.{tests}
use mathlib.Core.Path.{◌≡◌, ◌∙◌}
use mathlib.Core.Bool.{◌&&◌}
use Prim.Native.Nat.{ℕ}
use lib.ListN.{length}
use Rattle.std.proofs.lemmas.Iterator.{YieldsList-from_slice, YieldsList-from_zip}
use Rattle.std.proofs.lemmas.Iterator.Consumers.{YieldsList-from_enumerate}
use Rattle.std.proofs.lemmas.Iterator.Search.{all_from_yields_List}
use Rattle.rules.specs.declared.Flight.{Flight}
use Rattle.rules.specs.declared.Entries.{Entries}
use Rattle.rules.specs.Bits.{taken, digit}
use Rattle.rules.specs.Lists.{no_entries}
use Rattle.rules.specs.Board.{no_flight, is_message}
use Rattle.rules.specs.Shape.{kind_fits, same}
use Rattle.sums.proofs.Sums.{length_mapped}
use Rattle.shape.proofs.Tabled.{paired}
use Rattle.shape.proofs.message.messages_fit.Goals as goal

pub returns : goal.returns
unfolding taken digit
returns c =
    let sizes : (length c.args.flights ≡ 64) × (length c.args.lists ≡ 64) = (search (rules, length_mapped), search (rules, length_mapped)) in
    let test = λ (x : ℕ × (Flight × Entries)). same (taken c.args.occupied x.0) (is_message x.1.0.kind) && kind_fits x.1.0.kind x.1.1 c.args.pc c.args.oc in
    all_from_yields_List test c.all.new.self _ _ c.all.ensures.ran (YieldsList-from_enumerate (YieldsList-from_zip (YieldsList-from_slice c.args.flights cc) (YieldsList-from_slice c.args.lists cc)) cc) (λ x b q k. search (rules, tests))
    ∙ paired test c.args.flights c.args.lists no_flight no_entries 64 sizes.0 sizes.1
