-- The front of a line is let in: one turn of the rule, and lines stay ranged.
use Rattle.std.proofs.Common.{◌≡◌, refl, true, false, ◌&&◌, ℕ, zero, suc, ◌-◌, ◌<◌, arith, lt-ltb, ltb-true, ltb}
use Rattle.rules.specs.declared.Object.{Object}
use Rattle.rules.specs.Book.{who_at, mode_at, held, front_clear, front_granted, settled}
use Rattle.rules.specs.Ranges.{LineRanged}
use Rattle.rules.proofs.Tables.{both_left, both_right}
use Rattle.rules.proofs.Book.{front_left_size, front_left_who}
use Rattle.objects.specs.Fronts.{front_goes, let_in}

-- nobody is let in
pub let_in_ends : (o : Object) → front_goes o ≡ false → let_in o ≡ o
unfolding settled
let_in_ends o = go o.line_count
  where
    go : (n : ℕ) → ltb 0 n && front_clear o ≡ false → (settled n o).object ≡ o
    go zero e = refl
    go (suc n) e = let f : front_clear o ≡ false = rw (lt-ltb 0 (suc n) (omega arith)) at e in rw (settled, f)

-- the front is let in, and then those after it
pub let_in_goes : (o : Object) → front_goes o ≡ true → let_in o ≡ let_in (front_granted o)
unfolding settled
let_in_goes o = go o.line_count
  where
    go : (n : ℕ) → ltb 0 n && front_clear o ≡ true → (settled n o).object ≡ (settled (n - 1) (front_granted o)).object
    go zero e = absurd (omega (arith, ltb-true 0 0 (both_left (ltb 0 0) (front_clear o) e)))
    go (suc n) e = let z : suc n - 1 ≡ n = omega arith in rw (settled, both_right (ltb 0 (suc n)) (front_clear o) e, z)

pub some_stand : (o : Object) → front_goes o ≡ true → 0 < o.line_count
some_stand o f = ltb-true 0 o.line_count (both_left (ltb 0 o.line_count) (front_clear o) f)

pub granted_line : (o : Object) → LineRanged o → LineRanged (front_granted o)
granted_line o r = let h = held o (who_at o 0) (mode_at o 0) in record { size = front_left_size h r.size; count = omega (arith, r.count); who = λ k. rw (front_left_who h k) (r.who (suc k)) }
