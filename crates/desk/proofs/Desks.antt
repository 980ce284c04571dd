-- Laws of deliveries one after another. Assumes nothing.
use Rattle.std.proofs.Common.{◌≡◌, refl, ap, ◌∙◌, ℕ, ◌+◌, add-one}
use Rattle.typed.specs.declared.Typed.{Typed}
use Rattle.desk.specs.declared.Desk.{Desk}
use Rattle.desk.specs.Desks.{drained_once, drained_times}

module _ (d : Desk) (t : Typed) where
  pub drain_none : d ≡ drained_times 0 d t
  unfolding drained_times
  drain_none = refl

  pub drain_next : (x y : Desk) (i : ℕ) → x ≡ drained_times i d t → y ≡ drained_once x t → y ≡ drained_times (i + 1) d t
  unfolding drained_times
  drain_next x y i e f = rw add-one (f ∙ ap (λ (z : Desk). drained_once z t) e)
