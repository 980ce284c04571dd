-- `typed::read` meets its contract: what the words before the comment say (Lines). Assumes nothing.
use Rattle.std.proofs.Common.{◌<◌, ◌^◌, ap, arith, rules, length}
use Rattle.typed.specs.declared.Typed.{Typed}
use Rattle.typed.proofs.Lines.{no_word, a_verb, few_words}
use Rattle.typed.proofs.read.Goals as goal

pub arguments-requires : goal.arguments-requires
arguments-requires c =
    let few = few_words c.args.line.now _ _ c.uncommented.ensures c.new-words.ensures in
    let bound : length c.args.line.now < 2 ^ 64 = search rules in
    omega (arith, few, bound, ap length c.in-Some.ensures.steps, ap (λ (x : Typed). x.count) c.begun.ensures)

pub returns-in-Some : goal.returns-in-Some
returns-in-Some c =
    a_verb _ _ _ c.uncommented.ensures c.new-words.ensures _ _ _ _ _ c.in-Some.ensures.steps c.verb_of.ensures c.begun.ensures c.arguments.ensures

pub returns-in-None : goal.returns-in-None
returns-in-None c = no_word _ _ _ c.uncommented.ensures c.new-words.ensures _ c.in-None.ensures.steps.0 c.begun-in-None.ensures
