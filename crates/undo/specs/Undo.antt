-- Undo: a ring of 65 places that stands for the desk and at most 64 desks before it, newest first. What a desk is does not matter here.
use Rattle.std.specs.Prelude.{ℕ, suc, ◌+◌, ◌-◌, ◌%◌, Bool, true, List, [], ◌∷◌, eqb, ltb, get_or, take}
use Rattle.rules.specs.Tables.{pick, rows}
use Rattle.undo.specs.declared.Kept.{Kept}

-- ---- places of the ring
abbrev pub place : Kept → ℕ
place k = k.top % 65

-- the place i changes before the desk's own
abbrev pub back : Kept → ℕ → ℕ
back k i = (k.top % 65 + 65 - i) % 65

abbrev pub next : Kept → Kept
next k = pick (ltb k.count 64)
    (record { top = k.top % 65 + 1; count = k.count + 1; dropped = k.dropped })
    (record { top = k.top % 65 + 1; count = 64; dropped = true })

-- one change more, where there was one; after 64 the oldest is dropped
unfoldable pub one_step_more : Kept → Bool → Kept
one_step_more k changed = pick changed (next k) k

abbrev pub before : Kept → Kept
before k = pick (eqb k.count 0) k (record { top = k.top % 65 + 64; count = k.count - 1; dropped = k.dropped })

-- the last change taken back, where that is asked for and one is kept
unfoldable pub one_less : Kept → Bool → Kept
one_less k asked = pick asked (before k) k

-- ---- what the ring stands for: the desk, then the one before its last change, and so on
unfoldable pub history : {A : Type 0} → A → List A → Kept → List A
history zeros past k = rows (suc k.count) (λ i. get_or past (back k i) zeros)

-- a change: the desk goes in front, and of those before it 64 are kept
abbrev pub pushed : {A : Type 0} → A → List A → List A
pushed x h = take 65 (x ∷ h)

-- an undo: the desk before the last change; the only desk stays
abbrev pub popped : {A : Type 0} → List A → List A
popped [] = []
popped (x ∷ []) = x ∷ []
popped (x ∷ y ∷ h) = y ∷ h

-- what a line makes of it: it may change the desk, and may ask for an undo
abbrev pub changed_by : {A : Type 0} → Bool → A → List A → List A
changed_by changed x h = pick changed (pushed x h) h

abbrev pub undone_by : {A : Type 0} → Bool → List A → List A
undone_by asked h = pick asked (popped h) h
