-- Laws of tests and lists of records: what holds of every record, also after one is written.
use mathlib.Core.Path.{◌≡◌, refl}
use mathlib.Core.Bool.{Bool, true, false}
use mathlib.Core.List.{List, [], ◌∷◌}
use Prim.Native.Nat.{ℕ, zero, suc}
use lib.ListN.{get_or, set, replicate}
use Rattle.rules.specs.Tables.{pick}

-- what holds of both holds of the one that a test picks
pub by_pick : {A : Type 0} (P : A → Type 0) (t : Bool) {x y : A} → (t ≡ true → P x) → (t ≡ false → P y) → P (pick t x y)
by_pick P true f g = f refl
by_pick P false f g = g refl

-- each record, with its number, after one is written
pub each_set : {A : Type 0} (P : ℕ → A → Type 0) (l : List A) (i : ℕ) (x d : A) → P i x → ((j : ℕ) → P j (get_or l j d)) → (j : ℕ) → P j (get_or (set l i x) j d)
each_set P [] i x d h k j = k j
each_set P (y ∷ l) zero x d h k zero = h
each_set P (y ∷ l) zero x d h k (suc j) = k (suc j)
each_set P (y ∷ l) (suc i) x d h k zero = k zero
each_set P (y ∷ l) (suc i) x d h k (suc j) = each_set (λ j. P (suc j)) l i x d h (λ j. k (suc j)) j

-- one value all along, past the end too
pub replicate_at : {A : Type 0} (n k : ℕ) (a : A) → get_or (replicate n a) k a ≡ a
replicate_at zero k a = refl
replicate_at (suc n) zero a = refl
replicate_at (suc n) (suc k) a = replicate_at n k a
