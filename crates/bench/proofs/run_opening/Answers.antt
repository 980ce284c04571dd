-- `bench::run_opening` meets its contract: the opening, an odd byte and the room, then the engine. Assumes nothing.
use mathlib.Core.Path.{◌≡◌, refl, ap, ◌∙◌}
use mathlib.Core.List.{List, []}
use Prim.Native.Nat.{ℕ}
use Rattle.rules.specs.declared.Answer.{Answer}
use Rattle.rules.specs.declared.Board.{Board}
use Rattle.rules.specs.declared.Ran.{Ran}
use Rattle.rules.specs.Commands.{zero_board}
use Rattle.rules.specs.Sheet.{Run, refused_run}
use Rattle.bench.proofs.Calls.{both, opening_load, opening_ends, opening_ready, opening_refused, opening_whole}
use Rattle.engine.proofs.Working.{for_sheet}
use Rattle.bench.proofs.run_opening.Goals as goal

-- a refusal hands back the board of zeros
zeros : {x : Run} {a : Answer} {b : Board} {r : Ran} {room : List ℕ} → x ≡ refused_run a zero_board room → b ≡ zero_board → r ≡ (refused_run a b []).ran → (r ≡ x.ran) × (room ≡ x.room)
zeros {a = a} {room = room} e f g = both e (g ∙ ap (λ (b : Board). (refused_run a b room).ran) f) refl

pub returns-then-not-is_done : goal.returns-then-not-is_done
returns-then-not-is_done c =
    let a = c.args in
    let o = a.opening.now in
    zeros (opening_ends o.nodes o.processes o.objects o.process_home o.object_home c.answer-answer.result c.answer-answer.ensures c.is_done.result c.is_done.ensures a.s.now a.room.now c.if-not-is_done.true) c.zero_board.ensures c.refused.ensures

pub turns-requires : goal.turns-requires
turns-requires c =
    let a = c.args in
    let o = a.opening.now in
    (opening_ready o.nodes o.processes o.objects o.process_home o.object_home c.answer-answer.result c.answer-answer.ensures c.is_done.result c.is_done.ensures a.s.now a.room.now c.if-not-is_done.false c.board.result c.board.ensures, for_sheet _ _ _ c.in-Ok.ensures.0 c.in-Ok.ensures.1, opening_load o.nodes o.processes o.objects o.process_home o.object_home c.answer-answer.result c.answer-answer.ensures c.is_done.result c.is_done.ensures a.s.now a.room.now c.if-not-is_done.false c.board.result c.board.ensures)

pub returns-in-Ok : goal.returns-in-Ok
returns-in-Ok c =
    let a = c.args in
    let o = a.opening.now in
    let w = c.turns.ensures.sheet refl in
    both (opening_whole o.nodes o.processes o.objects o.process_home o.object_home c.answer-answer.result c.answer-answer.ensures c.is_done.result c.is_done.ensures a.s.now a.room.now c.if-not-is_done.false c.board.result c.board.ensures c.in-Ok.n c.in-Ok.ensures.0 c.in-Ok.ensures.2) w.0 w.1

pub returns-in-Err : goal.returns-in-Err
returns-in-Err c =
    let a = c.args in
    let o = a.opening.now in
    zeros (opening_refused o.nodes o.processes o.objects o.process_home o.object_home c.answer-answer.result c.answer-answer.ensures c.is_done.result c.is_done.ensures a.s.now a.room.now c.if-not-is_done.false c.in-Err.answer c.in-Err.ensures.0 c.in-Err.ensures.1) c.zero_board-in-Err.ensures c.refused-in-Err.ensures
