-- `bench::commands::pack` meets its contract: the first tests refuse what no packed field holds; the rest is packed. Assumes nothing.
use native.Mathlib.Omega.{arith}
use Rattle.std.proofs.lemmas.Result.{err_from_is_err_and}
use Rattle.bench.proofs.Packing.{request_outside, release_outside, no_mode, no_message, packed_request, packed_release, packed_deliver}
use Rattle.bench.proofs.commands.pack.Goals as goal

pub returns-in_err-known-in-Request : goal.returns-in_err-known-in-Request
returns-in_err-known-in-Request c =
    let r = c.in-Request in
    let p = err_from_is_err_and c.from_residual.result c.from_residual.ensures.1 in
    rw (p.1, p.2, r.is) (request_outside r.p r.o c.args.pc c.args.oc _ r.m c.in_err-known-in-Request.ensures)

pub returns-then-m-gt1 : goal.returns-then-m-gt1
returns-then-m-gt1 c =
    let r = c.in-Request in
    rw r.is (λ b e f. no_mode b r.p r.o r.m (omega (arith, e)) (omega (arith, f)) c.if-m-gt1.true)

pub returns-else-m-gt1 : goal.returns-else-m-gt1
returns-else-m-gt1 c =
    let r = c.in-Request in
    rw (r.is, c.at_home.ensures) (packed_request r.p r.o (omega arith) (omega arith) r.m (omega arith))

pub returns-in_err-known-in-Release : goal.returns-in_err-known-in-Release
returns-in_err-known-in-Release c =
    let r = c.in-Release in
    let f = c.from_residual-in_err-known-in-Release in
    let p = err_from_is_err_and f.result f.ensures.1 in
    rw (p.1, p.2, r.is) (release_outside r.p r.o c.args.pc c.args.oc _ c.in_err-known-in-Release.ensures)

pub returns-in_ok-known-in-Release : goal.returns-in_ok-known-in-Release
returns-in_ok-known-in-Release c =
    let r = c.in-Release in
    rw (r.is, c.at_home-in-Release.ensures) (packed_release r.p r.o (omega arith) (omega arith))

pub returns-in-Deliver : goal.returns-in-Deliver
returns-in-Deliver c = rw c.in-Deliver.is (packed_deliver c.in-Deliver.n c.if-n-lt64.true)

pub returns-in-Deliver-2 : goal.returns-in-Deliver-2
returns-in-Deliver-2 c = rw c.in-Deliver.is (λ b e f. no_message b c.in-Deliver.n (omega arith))
