-- A list arrives: at most another list is sent in its place, which is no token and keeps no hold.
use mathlib.Core.Path.{◌≡◌, refl, ap}
use mathlib.Core.Logic.{◌⊎◌, inl, inr, ⊎_elim}
use mathlib.Core.Option.{Option, some}
use mathlib.Core.List.{List}
use Prim.Native.Nat.{ℕ, ◌+◌, ◌≤◌, ◌<◌}
use native.Mathlib.Omega.{arith}
use Rattle.model.specs.Tables.{Numbered, send, InFlight}
use Rattle.model.specs.Board.{Entry, Message, list, Board, with_messages, with_place, without}
use Rattle.model.specs.Totals.{weigh, total, load_of}
use Rattle.model.proofs.Flight.{send_weigh, send_new, take_weigh, take_new, kind}
use Rattle.model.proofs.Agreement.{token_of, keeps_hold, Agreement}

-- f with at most one message more, a list
pub record OnlyLists (f g : Numbered Message) : Type 0 where
  pub weighs : (w : Message → ℕ) → ((es : List Entry) (n : ℕ) (t : Option ℕ) → w (list es n t) ≡ 0) → weigh w g ≡ weigh w f
  pub light : weigh load_of g ≤ weigh load_of f + 1
  pub new : (y : Message) → InFlight g y → InFlight f y ⊎ ((es : List Entry) × (n : ℕ) × (t : Option ℕ) × (y ≡ list es n t))

pub only_lists_none : (f : Numbered Message) → OnlyLists f f
only_lists_none f = record { weighs = λ w z. refl; light = omega arith; new = λ y h. inl h }

pub only_lists_send : (f : Numbered Message) (es : List Entry) (n : ℕ) (t : Option ℕ) → weigh (λ _. 1) f < 64 → OnlyLists f (send (list es n t) f)
only_lists_send f es n t h = record {
  weighs = λ w z. omega (arith, send_weigh f (list es n t) h w, z es n t);
  light = omega (arith, send_weigh f (list es n t) h load_of);
  new = λ y a. ⊎_elim (λ e. inr (es, n, t, e)) (λ e. inl e) (send_new f (list es n t) y a);
}

pub only_lists_other : (f g : Numbered Message) → OnlyLists f g → (y : Message) → (kind y ≡ 3 → ⊥) → InFlight g y → InFlight f y
only_lists_other f g o y d h = ⊎_elim (λ a. a) (λ a. absurd (d (ap kind a.3))) (o.new y h)

-- ---- the board with other messages, and other recorded rings
module _ (b : Board) (k : Agreement b) (i : ℕ) (es : List Entry) (n : ℕ) (t : Option ℕ) (lt : i < 64) (here : b.messages i ≡ some (list es n t)) (g : Numbered Message) (pl : ℕ → List ℕ) (sends : OnlyLists (without b i) g) where
  weighs_before : (w : Message → ℕ) → weigh w (without b i) + w (list es n t) ≡ weigh w b.messages
  weighs_before = take_weigh b.messages i (list es n t) lt here

  was_there : (y : Message) → (kind y ≡ 3 → ⊥) → InFlight g y → InFlight b.messages y
  was_there y d h = take_new b.messages i (list es n t) lt here y (only_lists_other (without b i) g sends y d h)

  pub list_agrees : Agreement (with_place (with_messages b g) pl)
  unfolding total
  list_agrees = record {
    fit = k.fit;
    compatible = k.compatible;
    in_line = k.in_line;
    requests = λ p o m h. k.requests p o m (was_there _ (omega arith) h);
    grants = λ p o m h. k.grants p o m (was_there _ (omega arith) h);
    releases = λ p o h. k.releases p o (was_there _ (omega arith) h);
    idle = k.idle;
    unheld = k.unheld;
    tokens = λ p. omega (arith, sends.weighs (token_of p) (λ _ _ _. refl), weighs_before (token_of p), k.tokens p);
    kept = λ p o. omega (arith, sends.weighs (keeps_hold p o) (λ _ _ _. refl), weighs_before (keeps_hold p o), k.kept p o);
    modes = k.modes;
    load = omega (arith, sends.light, weighs_before load_of, k.load);
  }
