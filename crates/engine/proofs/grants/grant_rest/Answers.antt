-- `engine::grants::grant_rest` meets its contract: each turn of its loop sends the next grant, and where the others lead stays the same.
-- Assumes nothing.
use mathlib.Core.Path.{sym, ap, ◌∙◌}
use Prim.Native.Nat.{◌-◌}
use native.Mathlib.Omega.{arith}
use Rattle.rules.specs.declared.Message.{Message}
use Rattle.rules.specs.Board.{is_message, send_grants}
use Rattle.engine.specs.Grants.{places_from}
use Rattle.engine.proofs.Granting.{grant_sent, grants_full, grants_over}
use Rattle.engine.proofs.Sends.{put_sends}
use Rattle.engine.proofs.grants.grant_rest.Goals as goal

pub loop-k-preserved : goal.loop-k-preserved
loop-k-preserved c =
    let v = c.loop-k in
    let a = c.args in
    let none = c.no_entries-none in
    let m : Message = record { kind = c.grant_at.result; list = none.result } in
    let to = c.lowest_free-to in (
      v.invariant.0,
      grant_sent v.b a.o a.book v.k a.granted (send_grants a.start a.o (places_from a.book 1 (a.granted - 1))) v.invariant.1 c.loop-k-test.true m.kind m.list c.grant_at.ensures none.ensures _
          (put_sends v.b m to.result c.with.result to.ensures.0 c.with.ensures c.if-to-ge64.false (ap is_message c.grant_at.ensures)),
    )

pub returns-after-loop-k : goal.returns-after-loop-k
returns-after-loop-k c =
    let v = c.loop-k in
    let a = c.args in
    sym (grants_over v.b a.o a.book v.k (a.granted - v.k) (omega arith)) ∙ v.invariant.1

pub returns-then-to-ge64 : goal.returns-then-to-ge64
returns-then-to-ge64 c =
    let v = c.loop-k in
    let a = c.args in
    sym (grants_full (places_from a.book v.k (a.granted - v.k)) v.b a.o (omega (arith, c.lowest_free-to.ensures.0, c.if-to-ge64.true))) ∙ v.invariant.1
