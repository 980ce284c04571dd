-- `typed::words::next_word` meets its contract: a run of blanks, and then a run of other bytes (Runs). Assumes nothing.
use Rattle.std.proofs.Common.{◌∙◌, ap, List, ℕ}
use Rattle.std.specs.List.{position_or_len}
use Rattle.typed.specs.Words.{blank}
use Rattle.typed.proofs.Runs.{no_word, rest_is, up_to, a_word}
use Rattle.typed.proofs.words.next_word.Goals as goal

pub returns-in_err-rest : goal.returns-in_err-rest
returns-in_err-rest c = rw c.from_residual.ensures (no_word _ c.in_err-rest.ensures)

pub split_at-requires : goal.split_at-requires
split_at-requires c = (up_to _ _ _ _ c.word_end.ensures c.unwrap_or.ensures).1

pub returns : goal.returns
returns c = let s = c.args.line.now in
    let k = c.in_ok-rest.field-0 in
    let d = c.split_at.ensures in
    let r = rest_is s k in
    let e = (up_to _ _ _ _ c.word_end.ensures c.unwrap_or.ensures).0 ∙ ap (λ (x : List ℕ). position_or_len (λ c. blank c) x) r in
    rw (d.front, d.back, r) (a_word s k c.unwrap_or.result c.in_ok-rest.ensures e)
