-- One object's book: its holders as a table, its line as a list, and the waits at this object.
use Rattle.std.specs.Prelude.{◌≡◌, ◌⊎◌, ◌≢◌, Bool, true, false, List, [], ◌∷◌, ◌++◌, ℕ, zero, suc}
use Rattle.std.proofs.Math.Logic.{ite}
use Rattle.std.proofs.Math.Option.{Option, none, some}
use Rattle.std.proofs.Math.Decide.{ℕ_discrete}
use Rattle.model.specs.Lists.{Any, is_empty}
use Rattle.model.specs.Tables.{put}

-- "its line: waiting processes with modes, oldest first". The mode is true where it is exclusive.
pub record Waiter : Type 0 where
  pub who : ℕ
  pub mode : Bool

abbrev pub standing : ℕ → Bool → Waiter
standing p m = record { who = p; mode = m }

abbrev pub Line : Type 0
Line = List Waiter

-- "its holders with modes"
abbrev pub Holders : Type 0
Holders = ℕ → Option Bool

-- "Two holds by different processes conflict unless both are shared."
abbrev pub conflict : Bool → Bool → Bool
conflict true n = true
conflict false n = n

-- p stands in the line with mode m
abbrev pub In : ℕ → Bool → Line → Type 0
In p m l = Any (λ (e : Waiter). (e.who ≡ p) × (e.mode ≡ m)) l

-- p stands in the line with mode m, and q ahead of it with mode n
abbrev pub Ahead : ℕ → Bool → ℕ → Bool → Line → Type 0
Ahead p m q n [] = ⊥
Ahead p m q n (e ∷ l) = (((e.who ≡ q) × (e.mode ≡ n)) × In p m l) ⊎ Ahead p m q n l

-- "A process in a line waits for each other process that holds the object in conflict with it, and for each
-- process ahead of it in that line whose mode conflicts."
pub data WaitsAt (h : Holders) (l : Line) (p q : ℕ) : Type 0 where
  held : (m n : Bool) → p ≢ q → conflict m n ≡ true → In p m l → h q ≡ some n → WaitsAt h l p q
  ahead : (m n : Bool) → p ≢ q → conflict m n ≡ true → Ahead p m q n l → WaitsAt h l p q

-- ---- whom a process waits for, computed
abbrev pub only_if : Bool → ℕ → List ℕ
only_if true q = q ∷ []
only_if false q = []

-- k, if it is another and holds, with x, in conflict with mode m
abbrev pub holder_against : {P : Type 0} → Dec P → Option Bool → Bool → ℕ → List ℕ
holder_against (yes e) x m k = []
holder_against (no f) none m k = []
holder_against (no f) (some n) m k = only_if (conflict m n) k

-- "first holders by rising number": those below k, other than p, in conflict with mode m
unfoldable pub holders_against : ℕ → Holders → ℕ → Bool → List ℕ
holders_against zero h p m = []
holders_against (suc k) h p m = holders_against k h p m ++ holder_against (ℕ_discrete k p) (h k) m k

-- "then those ahead in line from the front": those ahead of p in conflict with mode m
abbrev pub unless_same : {P : Type 0} → Dec P → List ℕ → List ℕ
unless_same (yes e) l = []
unless_same (no f) l = l

unfoldable pub ahead_of : ℕ → Bool → Line → List ℕ
ahead_of p m [] = []
ahead_of p m (e ∷ l) = unless_same (ℕ_discrete e.who p) (only_if (conflict m e.mode) e.who ++ ahead_of p m l)

-- the mode with which p stands in the line, if it does
unfoldable pub mode_in : ℕ → Line → Option Bool
mode_in p [] = none
mode_in p (e ∷ l) = ite (ℕ_discrete e.who p) (some e.mode) (mode_in p l)

abbrev pub waited_for_in : Option Bool → Holders → Line → ℕ → List ℕ
waited_for_in none h l p = []
waited_for_in (some m) h l p = holders_against 16 h p m ++ ahead_of p m l

-- those whom p waits for, if it stands in the line
unfoldable pub waited_for : Holders → Line → ℕ → List ℕ
waited_for h l p = waited_for_in (mode_in p l) h l p

-- ---- grants
-- no other holder conflicts
unfoldable pub clear : Holders → ℕ → Bool → Bool
clear h p m = is_empty (holders_against 16 h p m)

-- a book after grants, and who was granted
pub record Settled : Type 0 where
  pub holders : Holders
  pub line : Line
  pub grants : Line

abbrev pub grant_then : Waiter → Settled → Settled
grant_then e s = record { holders = s.holders; line = s.line; grants = e ∷ s.grants }

-- "while the front of the line conflicts with no holder, it becomes a holder, leaves the line, and a grant is sent"
unfoldable pub settle : Holders → Line → Settled
settle h [] = record { holders = h; line = []; grants = [] }
settle h (e ∷ l) = elim (clear h e.who e.mode) [
  | true ↦ grant_then e (settle (put h e.who (some e.mode)) l)
  | false ↦ record { holders = h; line = e ∷ l; grants = [] }
]

-- "The holder, if it is there, is struck." Then grants follow.
unfoldable pub strike : Holders → Line → ℕ → Settled
strike h l p = settle (put h p none) l
