-- A request and a release are local: each writes the book of its process and sends one message, and its tests read that book, the counts
-- and the load.
use mathlib.Core.Path.{◌≡◌, refl, ap, sym, ◌∙◌}
use mathlib.Core.Bool.{Bool, true, false, not}
use mathlib.Core.List.{List, [], ◌∷◌}
use Prim.Native.Nat.{ℕ}
use lib.Dec.{ltb, leb}
use lib.ListN.{length, get_or}
use lib.Seq.{get_or-set_other}
use Rattle.rules.specs.declared.Message.{Message}
use Rattle.rules.specs.declared.Process.{Process}
use Rattle.rules.specs.declared.Object.{Object}
use Rattle.rules.specs.declared.Board.{Board}
use Rattle.rules.specs.declared.Command.{Command}
use Rattle.rules.specs.declared.Answer.TheVariants.{Done, NoProcess, NoObject, NoMode, ProcessWaits, HasReleased, HoldsAlready, HoldsNot, LoadTooHigh}
use Rattle.rules.specs.Tables.{pick}
use Rattle.rules.specs.Bits.{lowest_free}
use Rattle.rules.specs.Answers.{done, first_of}
use Rattle.rules.specs.Home.{is_waiting, holding}
use Rattle.rules.specs.Board.{no_process, no_object, process_at, put_process, put_message, send}
use Rattle.rules.specs.Commands.{requested, released, effect, answer_to, turn}
use Rattle.rules.specs.Shape.{in_shape}
use Rattle.rules.proofs.Load.{send_sent}
use Rattle.laws.specs.Shape.{Sized}
use Rattle.laws.specs.Local.{home_of_process, SameTable, SameCounts, Elsewhere, CommandOf, request, release, noted, sent_by, overloaded, OnlyBook, SameCommand, CommandLocal}
use Rattle.laws.proofs.Tables.{by_pick}
use Rattle.laws.proofs.Local.{same_table, send_untouched, set_agree}
use Rattle.laws.proofs.Sizes.{send_rings}
use Rattle.laws.proofs.Kept.{turn_done}
use Rattle.laws.proofs.Room.{room_enough}

-- ---- the book of its process is written, and its message sent
abbrev after : Board → ℕ → Command → Board
after b p x = send (put_process b p (noted x (process_at b p))) (sent_by x)

does : (b : Board) (p : ℕ) (x : Command) → CommandOf p x → effect b x ≡ after b p x
unfolding effect requested released
does b p x (request o m) = refl
does b p x (release o) = refl

-- what holds of the board before and of the one after holds of the one that is handed back
by_turn : (P : Board → Type 0) (b : Board) (p : ℕ) (x : Command) → CommandOf p x → P b → P (after b p x) → P (turn b x).board
unfolding turn
by_turn P b p x k h g = by_pick P (done (answer_to b x)) (λ _. rw (does b p x k) g) (λ _. h)

module _ (b : Board) (p : ℕ) (y : Process) (m : Message) where
  put_table : SameTable b (send (put_process b p y) m)
  put_table = let t = (send_untouched (put_process b p y) m).table in record { nodes = t.nodes; count_of_processes = t.count_of_processes; count_of_objects = t.count_of_objects; home_of_process = t.home_of_process; home_of_object = t.home_of_object }

  put_only : OnlyBook b (send (put_process b p y) m) p
  put_only =
      let u = send_untouched (put_process b p y) m in
      record { processes = λ q f. ap (λ (ps : List Process). get_or ps q no_process) u.processes ∙ get_or-set_other b.processes p q y no_process f; objects = u.objects; rings = send_rings (put_process b p y) m }

module _ (b : Board) (p : ℕ) (x : Command) (k : CommandOf p x) where
  command_table : SameTable b (turn b x).board
  command_table = by_turn (SameTable b) b p x k (same_table b) (put_table b p (noted x (process_at b p)) (sent_by x))

  command_only : OnlyBook b (turn b x).board p
  command_only = by_turn (λ (c : Board). OnlyBook b c p) b p x k (record { processes = λ q f. refl; objects = refl; rings = refl }) (put_only b p (noted x (process_at b p)) (sent_by x))

  command_elsewhere : Elsewhere b (turn b x).board (home_of_process b p)
  command_elsewhere = record {
    processes = λ q f. command_only.processes q (λ z. f (ap (home_of_process b) z));
    objects = λ o f. ap (λ (os : List Object). get_or os o no_object) command_only.objects;
  }

-- an accepted one finds a free number
command_all : (b : Board) (p : ℕ) (x : Command) → CommandOf p x → Sized b → in_shape b ≡ true → (turn b x).answer ≡ Done
    → (turn b x).board ≡ put_message (put_process b p (noted x (process_at b p))) (lowest_free b.occupied) (sent_by x)
command_all b p x k s e a = turn_done b x a ∙ does b p x k ∙ sent x k a
  where
    sent : (z : Command) → CommandOf p z → (turn b z).answer ≡ Done → after b p z ≡ put_message (put_process b p (noted z (process_at b p))) (lowest_free b.occupied) (sent_by z)
    sent z (request o m) d = send_sent _ _ refl (room_enough.request b p o m s e d)
    sent z (release o) d = send_sent _ _ refl (room_enough.release b p o s e d)

-- ---- two boards that agree on the counts, on the book of the process and on the load's being too high
module _ (b c : Board) (p : ℕ) (t : SameCounts b c) (e : process_at b p ≡ process_at c p) where
  answer_same : (x : Command) → CommandOf p x → overloaded x b ≡ overloaded x c → answer_to b x ≡ answer_to c x
  unfolding answer_to
  answer_same x (request o m) w = λ i. first_of ((leb (t.count_of_processes i) p, NoProcess) ∷ (leb (t.count_of_objects i) o, NoObject) ∷ (ltb 1 m, NoMode) ∷ (is_waiting (e i).wait, ProcessWaits) ∷ ((e i).released, HasReleased) ∷ (holding (e i) o, HoldsAlready) ∷ (w i, LoadTooHigh) ∷ [])
  answer_same x (release o) w = λ i. first_of ((leb (t.count_of_processes i) p, NoProcess) ∷ (leb (t.count_of_objects i) o, NoObject) ∷ (is_waiting (e i).wait, ProcessWaits) ∷ (not (holding (e i) o), HoldsNot) ∷ (w i, LoadTooHigh) ∷ [])

  module _ (s : length b.processes ≡ length c.processes) (x : Command) (k : CommandOf p x) (w : overloaded x b ≡ overloaded x c) where
    book_at : (d : Board) → process_at (after d p x) p ≡ process_at (put_process d p (noted x (process_at d p))) p
    book_at d = ap (λ (ps : List Process). get_or ps p no_process) (send_untouched (put_process d p (noted x (process_at d p))) (sent_by x)).processes

    book-after : process_at (after b p x) p ≡ process_at (after c p x) p
    book-after = book_at b ∙ set_agree b.processes c.processes p p _ _ no_process s (ap (noted x) e) e ∙ sym (book_at c)

    command_same : SameCommand b c x p
    unfolding turn
    command_same = record { answer = answer_same x k w; book = rw (does b p x k, does c p x k, answer_same x k w) (by_picks (done (answer_to c x))) }
      where
        by_picks : (u : Bool) → process_at (pick u (after b p x) b) p ≡ process_at (pick u (after c p x) c) p
        by_picks true = book-after
        by_picks false = e

pub command_local : CommandLocal
command_local = record {
  all = command_all;
  table = command_table;
  only = command_only;
  elsewhere = command_elsewhere;
  same = λ b c p x k sb sc t e w. command_same b c p t e (sb.processes ∙ sym sc.processes) x k w;
}
