-- What holds of each outcome of an arrival holds of the board after it.
use mathlib.Core.Path.{◌≡◌, refl}
use mathlib.Core.Bool.{Bool, true, false, ◌&&◌}
use mathlib.Core.Option.{Option, none, some}
use mathlib.Core.List.{List, [], ◌∷◌, ◌++◌}
use Prim.Native.Nat.{ℕ}
use native.Mathlib.Omega.{arith}
use Rattle.model.specs.Lists.{is_empty, Has, has?}
use Rattle.model.specs.Tables.{Numbered, send}
use Rattle.model.specs.Book.{Line, mode_in, waited_for, clear}
use Rattle.model.specs.Board.{Entry, entry_at, along_leads, Wanted, Message, list, Board, with_messages, granted, joined, answered, request_arrives, entry_done, home_says, at_home, record_ring, added, closes, line_says, at_object}

module _ (P : Board → Type 0) (b : Board) (f : Numbered Message) where
  pub request_arrives_either : (p o : ℕ) (m : Bool) → (b.line o ≡ [] → clear (b.holder o) p m ≡ true → P (granted b f p o m)) → ((b.line o ≡ [] → clear (b.holder o) p m ≡ false) → P (joined b f p o m)) → P (request_arrives b f p o m)
  unfolding request_arrives
  request_arrives_either p o m now later = go (b.line o) refl (clear (b.holder o) p m) refl
    where
      go : (l : Line) → b.line o ≡ l → (c : Bool) → clear (b.holder o) p m ≡ c → P (answered (is_empty l && c) b f p o m)
      go [] e true z = now e z
      go [] e false z = later (λ _. z)
      go (x ∷ l) e c z = later (λ n. let y : ◌≡◌ {A = ℕ} 0 1 = cc in absurd (omega arith))

  module _ (es : List Entry) (n : ℕ) where
    pub at_home_either : P (entry_done b f es n) → ((a : Wanted) → P (with_messages b (send (list es n (some a.object)) f))) → P (at_home b f es n)
    unfolding at_home
    at_home_either done goes = go (b.wait (entry_at es n).who)
      where
        go : (x : Option Wanted) → P (home_says x b f es n)
        go none = done
        go (some a) = goes a

    pub at_object_either : (o : ℕ) → ((xs : List Entry) → P (entry_done b f xs n)) → P (record_ring b f (entry_at es 0).who (along_leads n es n [])) → P (at_object b f es n o)
    unfolding at_object
    at_object_either o done records = go (mode_in (entry_at es n).who (b.line o))
      where
        qs : List ℕ
        qs = waited_for (b.holder o) (b.line o) (entry_at es n).who

        among : (d : Dec (Has (entry_at es 0).who qs)) → P (closes d qs b f es n)
        among (yes h) = records
        among (no h) = done (es ++ added es n qs)

        go : (x : Option Bool) → P (line_says x qs b f es n)
        go none = done es
        go (some m) = among (has? (entry_at es 0).who qs)
