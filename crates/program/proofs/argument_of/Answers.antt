-- `program::argument_of` meets its contract: each test is one of the definition. Assumes nothing.
use Rattle.program.proofs.Arguments.{is_word, is_help, is_input, is_unknown, is_file}
use Rattle.program.proofs.argument_of.Goals as goal

pub returns-then-asks_for_help : goal.returns-then-asks_for_help
returns-then-asks_for_help c = is_help _ c.asks_for_help.ensures c.if-asks_for_help.true

pub returns-then-eq : goal.returns-then-eq
returns-then-eq c = is_input _ c.asks_for_help.ensures (is_word _ _ c.eq.ensures c.as_slice.ensures) c.if-asks_for_help.false c.if-eq.true

pub returns-then-starts_with : goal.returns-then-starts_with
returns-then-starts_with c =
    is_unknown _ c.asks_for_help.ensures (is_word _ _ c.eq.ensures c.as_slice.ensures) c.if-asks_for_help.false c.starts_with.ensures.value c.if-eq.false c.if-starts_with.true

pub returns-else-starts_with : goal.returns-else-starts_with
returns-else-starts_with c =
    is_file _ c.asks_for_help.ensures (is_word _ _ c.eq.ensures c.as_slice.ensures) c.if-asks_for_help.false c.starts_with.ensures.value c.if-eq.false c.if-starts_with.false
