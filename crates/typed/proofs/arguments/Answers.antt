-- `typed::arguments` meets its contract: word by word (Lines). Assumes nothing.
use Rattle.std.proofs.Common.{ap, sym, ◌∙◌, arith, length}
use Rattle.typed.specs.declared.Typed.{Typed}
use Rattle.typed.proofs.Lines.{turned, no_more}
use Rattle.typed.proofs.arguments.Goals as goal

pub loop-word-preserved-in-Some-meaning : goal.loop-word-preserved-in-Some-meaning
loop-word-preserved-in-Some-meaning c =
    let n = c.in-Some.ensures.steps in (
      omega (arith, c.loop-word.invariant.0, ap length n, ap (λ (x : Typed). x.count) c.with_number-t.ensures),
      turned c.loop-word.t _ _ _ _ _ _ n c.in-Some-meaning.ensures c.with_number-t.ensures c.loop-word.invariant.1,
    )

pub loop-word-preserved : goal.loop-word-preserved
loop-word-preserved c =
    let n = c.in-Some.ensures.steps in (
      omega (arith, c.loop-word.invariant.0, ap length n, ap (λ (x : Typed). x.count) c.with_odd-t.ensures),
      turned c.loop-word.t _ _ _ _ _ _ n c.in-None-meaning.ensures c.with_odd-t.ensures c.loop-word.invariant.1,
    )

pub returns : goal.returns
returns c = sym (no_more c.loop-word.t _ c.in-None.ensures.steps.0) ∙ c.loop-word.invariant.1
