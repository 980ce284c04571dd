-- `typed::words::uncommented` meets its contract: it ends where the comment begins (Runs). Assumes nothing.
use Rattle.std.proofs.Common.{ℕ, ap, take}
use Rattle.typed.proofs.Runs.{comment_is}
use Rattle.typed.proofs.words.uncommented.Goals as goal

pub returns : goal.returns
returns c = ap (λ (n : ℕ). take n c.args.line.now) (comment_is _ _ _ c.comment_at.ensures c.unwrap_or.ensures).0
