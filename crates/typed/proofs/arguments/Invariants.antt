-- `typed::arguments` meets its contract. The loop's invariant: the words left, taken after those passed, make the whole; no more words
-- were counted than passed. Assumes nothing.
use Rattle.std.proofs.Common.{◌≡◌, ◌+◌, ◌≤◌, length}
use Rattle.typed.specs.Reading.{with_words}
use Rattle.typed.specs.Spans.{words_left}
use Rattle.typed.proofs.arguments.Given as goal

abbrev pub invariant-loop-word : goal.invariant-loop-word
invariant-loop-word l =
    (l.t.count + length (words_left l.word-iterator) ≤ l.initial.t.count + length (words_left l.fn.words))
    × (with_words l.t (words_left l.word-iterator) ≡ with_words l.initial.t (words_left l.fn.words))
