-- `arcs` meets its contract: process by process.
use Rattle.std.proofs.Common.{sym, ap, ◌∙◌, ℕ, ◌%◌, ◌<◌, rules, arith, ext_get_or}
use Rattle.rules.specs.Tables.{rows}
use Rattle.rules.proofs.Tables.{rows_length, rows_at}
use Rattle.objects.proofs.Shift.{made}
use Rattle.search.specs.Numbers.{set_of}
use Rattle.search.specs.Waiting.{waits_for, arcs}
use Rattle.search.proofs.Sets.{set-of}
use Rattle.search.proofs.arcs.Goals as goal

pub returns : goal.returns
unfolding arcs
returns c =
    let waits = waits_for c.args.b in
    let f : ℕ → ℕ = λ p. set_of 16 (waits p) in
    let m = c.from_fn.ensures.items in
    ext_get_or 0 c.from_fn.result (rows 16 f) (m.long ∙ sym (rows_length 16 f))
    (λ k l.
    let s : k < 16 = omega (arith, m.long) in
    made _ _ (λ p. f (p % 256)) c.from_fn.result 0 (λ i y q call. (search rules, set-of (waits (i % 256)) y (search rules))) 16 m k s ∙ ap f (omega arith) ∙ sym (rows_at 16 f k 0 s))
