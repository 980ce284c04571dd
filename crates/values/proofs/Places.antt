-- The set of the places of a row where a test holds, place by place: what the test gave of those before, and no number from there on.
use Rattle.std.proofs.Common.{◌≡◌, sym, subst, ◌∙◌, ℕ, ◌+◌, ◌<◌, ◌≤◌, Bool, false, List, length, get_or, arith}
use Rattle.std.proofs.lemmas.List.{get_or_read}
use Rattle.std.specs.Fn.{FnReturnsAt}
use denote.Param.Members.{Shared}
use denote.Ref.{Bor}
use borrow.Author.Count.{below_more}
use Rattle.rules.specs.Bits.{taken, marked}
use Rattle.rules.proofs.Bits.{taken_zero, marked_same, marked_other}

module _ {F X : Type 0} (g : Shared F (Bor X × Unit {0}) Bool) (test : F) (row : List X) where
  pub record Told (n set : ℕ) : Type 0 where
    pub at : (k : ℕ) (x : X) → k < n → FnReturnsAt g test (get_or row k x) (taken set k)
    pub past : (k : ℕ) → n ≤ k → taken set k ≡ false

  pub told_none : Told 0 0
  told_none = record { at = λ k x h. absurd (omega arith); past = λ k h. taken_zero k }

  -- the test gave b at the thing that was read at place n: the set has that there, and is as it was elsewhere
  pub told_next : (n set : ℕ) → Told n set → (thing : X) → n < length row → thing ≡ get_or row n thing → (b : Bool) → FnReturnsAt g test thing b → Told (n + 1) (marked set n b)
  told_next n set t thing inside read b gave = record {
    at = λ k x h. below_more (λ j. FnReturnsAt g test (get_or row j x) (taken (marked set n b) j)) n
        (λ j l. subst (λ (w : Bool). FnReturnsAt g test (get_or row j x) w) (sym (marked_other set n b j (λ e. absurd (omega arith)))) (t.at j x l))
        (subst (λ (w : Bool). FnReturnsAt g test (get_or row n x) w) (sym (marked_same set n b)) (subst (λ (y : X). FnReturnsAt g test y b) (get_or_read row n thing inside read x) gave)) k h;
    past = λ k h. marked_other set n b k (λ e. absurd (omega arith)) ∙ t.past k (omega arith);
  }
