-- Small tables: choice by a test, the first n values of a function, those that pass a test, the first place of a number, sums.
-- The tables (rows, collect, all, sum) recur at the end, as a loop that counts up does.
use Rattle.std.specs.Prelude.{ℕ, zero, suc, ◌+◌, Bool, true, false, ◌&&◌, List, [], ◌∷◌, ◌++◌, eqb}

-- one of two, by a test
abbrev pub pick {ℓ} : {A : Type ℓ} → Bool → A → A → A
pick true a b = a
pick false a b = b

-- one test or the other
abbrev pub either : Bool → Bool → Bool
either true n = true
either false n = n

-- f 0, f 1, .. f (n - 1)
unfoldable pub rows : {A : Type 0} → ℕ → (ℕ → A) → List A
rows zero f = []
rows (suc n) f = rows n f ++ f n ∷ []

-- f k for each k below n that passes the test, rising
unfoldable pub collect : (ℕ → Bool) → (ℕ → ℕ) → ℕ → List ℕ
collect t f zero = []
collect t f (suc k) = collect t f k ++ pick (t k) (f k ∷ []) []

-- the first k below n at which f is p; n where there is none
unfoldable pub place_of : ℕ → (ℕ → ℕ) → ℕ → ℕ
place_of zero f p = 0
place_of (suc n) f p = elim (eqb (f 0) p) [ true ↦ 0 | false ↦ suc (place_of n (λ k. f (suc k)) p) ]

unfoldable pub among : ℕ → List ℕ → Bool
among q [] = false
among q (x ∷ xs) = pick (eqb x q) true (among q xs)

abbrev pub nobody : List ℕ → Bool
nobody [] = true
nobody (x ∷ xs) = false

-- every k below n passes the test
unfoldable pub all : ℕ → (ℕ → Bool) → Bool
all zero t = true
all (suc n) t = all n t && t n

-- f 0 + f 1 + .. + f (n - 1)
unfoldable pub sum : ℕ → (ℕ → ℕ) → ℕ
sum zero f = 0
sum (suc n) f = sum n f + f n

-- how many k below n pass the test
abbrev pub count_of : ℕ → (ℕ → Bool) → ℕ
count_of n t = sum n (λ k. pick (t k) 1 0)
