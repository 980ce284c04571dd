-- `Opening::open` meets its contract: the answer first, then the board of zeros or the empty board.
use Rattle.opening.proofs.Opened.{opening_refused, opening_taken}
use Rattle.opening.proofs.Opening.open.Goals as goal

pub returns-then-ne : goal.returns-then-ne
returns-then-ne c =
    let a = c.args.self.now in
    opening_refused a.nodes a.processes a.objects a.process_home a.object_home c.answer-answer.result c.answer-answer.ensures c.ne.result c.ne.ensures c.if-ne.true c.zero_board.result c.zero_board.ensures

pub returns : goal.returns
returns c =
    let a = c.args.self.now in
    opening_taken a.nodes a.processes a.objects a.process_home a.object_home c.answer-answer.result c.answer-answer.ensures c.ne.result c.ne.ensures c.if-ne.false c.board.result c.board.ensures
