-- Books stay in shape: what each rule writes into the book of a process or of an object.
use mathlib.Core.Path.{◌≡◌, sym, ◌∙◌}
use mathlib.Core.Bool.{Bool, true, not, true≢false}
use mathlib.Core.Option.{none, some}
use Prim.Native.Nat.{ℕ, zero, suc, ◌+◌, ◌-◌, ◌/◌, ◌^◌, ◌≤◌, ◌<◌}
use native.Mathlib.Omega.{arith}
use native.Mathlib.Decide.{ℕ_discrete, dec_lt}
use lib.Dec.{ltb}
use lib.ListN.{length, set}
use lib.Seq.{get_or-set_same, get_or-set_other}
use lib.Pow.{pow_mono}
use borrow.Author.Tests.{ltb-true, not-true}
use Rattle.rules.specs.declared.Mode.{Mode}
use Rattle.rules.specs.declared.Process.{Process}
use Rattle.rules.specs.declared.Object.{Object}
use Rattle.rules.specs.Bits.{taken, marked, without_bit}
use Rattle.rules.specs.Book.{is_exclusive, who_at, mode_at, held, struck, joined, with_line, without_front, waited_for, front_granted}
use Rattle.rules.specs.Home.{asking, dropping, granted}
use Rattle.rules.proofs.Bits.{two_pow, marked_same, marked_other, without_same, without_other, without_below, marked_below}
use Rattle.rules.specs.Waits.{Among}
use Rattle.rules.proofs.Book.{hold_above, front_left_who, Awaited, holding, standing, awaited}
use Rattle.laws.specs.Shape.{Row, HoldsShaped, ProcessShaped, ObjectShaped}
use Rattle.laws.proofs.Tables.{by_pick}

-- ---- holds
module _ (s x c : ℕ) (h : HoldsShaped s x c) where
  pub noted_shaped : (k : ℕ) (m : Mode) → k < c → HoldsShaped (marked s k (not (is_exclusive m))) (marked x k (is_exclusive m)) c
  noted_shaped k m g = record {
    shared = marked_below s k (not (is_exclusive m)) c h.shared g;
    exclusive = marked_below x k (is_exclusive m) c h.exclusive g;
    once = λ j e f. elim (ℕ_discrete j k) [
      | yes z ↦ never (is_exclusive m) (rw (z, marked_same) at e) (rw (z, marked_same) at f)
      | no w ↦ h.once j (sym (marked_other s k (not (is_exclusive m)) j w) ∙ e) (sym (marked_other x k (is_exclusive m) j w) ∙ f)
    ];
  }
    where
      never : (t : Bool) → not t ≡ true → t ≡ true → ⊥
      never t e f = true≢false (sym f ∙ not-true t e)

  pub dropped_shaped : (k : ℕ) → HoldsShaped (without_bit s k) (without_bit x k) c
  dropped_shaped k = record {
    shared = without_below s k c h.shared;
    exclusive = without_below x k c h.exclusive;
    once = λ j e f. h.once j (stood s j e) (stood x j f);
  }
    where
      stood : (n j : ℕ) → taken (without_bit n k) j ≡ true → taken n j ≡ true
      stood n j e = elim (ℕ_discrete j k) [
        | yes z ↦ absurd (true≢false (sym e ∙ rw (z, without_same)))
        | no w ↦ sym (without_other n k j w) ∙ e
      ]

-- ---- the book of a process
module _ (x : Process) (c o : ℕ) (h : ProcessShaped x c) (lo : o < c) where
  pub asking_shaped : (m : Mode) → ProcessShaped (asking x o m) c
  asking_shaped m = record { holds = h.holds; wait = lo; released = h.released }

  pub dropping_shaped : ProcessShaped (dropping x o) c
  dropping_shaped = record { holds = dropped_shaped _ _ c h.holds o; wait = h.wait; released = λ e. omega arith }

  pub granted_shaped : (m : Mode) → ProcessShaped (granted x o m) c
  granted_shaped m = record { holds = noted_shaped _ _ c h.holds o m lo; wait = tt; released = h.released }

-- ---- the book of an object
module _ (x : Object) (c : ℕ) (h : ObjectShaped x c) where
  pub held_shaped : (p : ℕ) (m : Mode) → p < c → ObjectShaped (held x p m) c
  held_shaped p m g = record { holders = noted_shaped _ _ c h.holders p m g; count = h.count; line = h.line; modes = h.modes }

  pub struck_shaped : (p : ℕ) → ObjectShaped (struck x p) c
  struck_shaped p = record { holders = dropped_shaped _ _ c h.holders p; count = h.count; line = h.line; modes = h.modes }

  -- a row grows by one
  row_longer : (p : ℕ) → p < c → length x.line ≡ 16 → x.line_count < 16 → Row (set x.line x.line_count p) (x.line_count + 1) c
  row_longer p g s room = record {
    used = λ k l. elim (ℕ_discrete k x.line_count) [
      | yes z ↦ rw (z, get_or-set_same x.line x.line_count p 0 (omega arith)) g
      | no w ↦ rw (get_or-set_other x.line x.line_count k p 0 w) (h.line.used k (omega arith))
    ];
    rest = λ k l. get_or-set_other x.line x.line_count k p 0 (λ z. omega arith) ∙ h.line.rest k (omega arith);
  }

  pub joined_shaped : (p : ℕ) (m : Mode) → p < c → length x.line ≡ 16 → ObjectShaped (joined x p m) c
  unfolding joined
  joined_shaped p m g s = by_pick (λ (y : Object). ObjectShaped y c) (ltb x.line_count 16) (λ e. longer (ltb-true x.line_count 16 e)) (λ e. h)
    where
      longer : x.line_count < 16 → ObjectShaped (with_line x (set x.line x.line_count p) (marked x.line_exclusive x.line_count (is_exclusive m)) (x.line_count + 1)) c
      longer room = record {
        holders = h.holders;
        count = omega arith;
        line = row_longer p g s room;
        modes = marked_below x.line_exclusive x.line_count (is_exclusive m) (x.line_count + 1) (omega (arith, h.modes, pow_mono {i = x.line_count} {j = x.line_count + 1} (omega arith))) (omega arith);
      }

  pub front_left_shaped : 0 < x.line_count → ObjectShaped (without_front x) c
  front_left_shaped stands = record {
    holders = h.holders;
    count = omega (arith, h.count);
    line = record {
      used = λ k l. rw (front_left_who x k) (h.line.used (suc k) (omega arith));
      rest = λ k l. front_left_who x k ∙ h.line.rest (suc k) (omega arith);
    };
    modes = half x.line_exclusive x.line_count stands h.modes;
  }
    where
      half : (n d : ℕ) → 0 < d → n < 2 ^ d → n / 2 < 2 ^ (d - 1)
      half n zero l e = absurd (omega arith)
      half n (suc d) l e = let z : suc d - 1 ≡ d = omega arith in rw z (omega (arith, two_pow d))

  -- whom a process waits for is below the count
  pub waited_below : (p : ℕ) (m : Mode) (k q : ℕ) → k ≤ x.line_count → Among q (waited_for x p m k) → q < c
  waited_below p m k q l a = go (awaited x p m k q a)
    where
      clash : (n : Mode) → none ≡ some n → ⊥
      clash n z = let w : ◌≡◌ {A = ℕ} 0 1 = cc in omega arith

      go : Awaited x p m k q → q < c
      go (holding n _ f e _) = elim (dec_lt q c) [
        | yes z ↦ z
        | no w ↦ absurd (clash n (sym (hold_above x.shared x.exclusive q c h.holders.shared h.holders.exclusive (omega arith)) ∙ e))
      ]
      go (standing j g f e _) = rw (← e) (h.line.used j (omega arith))

-- the front becomes a holder and leaves the line
pub front_granted_shaped : (x : Object) (c : ℕ) → ObjectShaped x c → 0 < x.line_count → ObjectShaped (front_granted x) c
front_granted_shaped x c h stands = front_left_shaped _ c (held_shaped x c h (who_at x 0) (mode_at x 0) (h.line.used 0 stands)) stands
