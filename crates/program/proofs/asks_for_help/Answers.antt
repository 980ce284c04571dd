-- `program::asks_for_help` meets its contract: either test is one of the definition. Assumes nothing.
use Rattle.program.proofs.Arguments.{is_word, first_word, second_word}
use Rattle.program.proofs.asks_for_help.Goals as goal

pub returns-then-eq : goal.returns-then-eq
returns-then-eq c = first_word _ (is_word _ _ c.eq.ensures c.as_slice.ensures) c.if-eq.true

pub returns-else-eq : goal.returns-else-eq
returns-else-eq c =
    second_word _ (is_word _ _ c.eq.ensures c.as_slice.ensures) c.if-eq.false (is_word _ _ c.eq-else-eq.ensures c.as_slice-else-eq.ensures)
