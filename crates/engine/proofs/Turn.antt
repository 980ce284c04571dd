-- What a turn answers and makes, by the parts that the engine asks: the refusals but the load, then the load, or the number in flight.
use mathlib.Core.Path.{◌≡◌, refl, sym, ap, ◌∙◌}
use mathlib.Core.Logic.{◌≢◌}
use mathlib.Core.Bool.{Bool, true, false, not}
use mathlib.Core.List.{List, [], ◌∷◌}
use Prim.Native.Nat.{ℕ, zero, suc, ◌≤◌, ◌<◌}
use native.Mathlib.Omega.{arith}
use borrow.Author.Tests.{ne_eqb, lt-ltb, le-ltb, ltb-false}
use lib.Dec.{eqb, ltb, leb}
use Rattle.rules.specs.declared.Board.{Board}
use Rattle.rules.specs.declared.Process.{Process}
use Rattle.rules.specs.declared.Kind.{Kind}
use Rattle.rules.specs.declared.Kind.TheVariants.{Request, Release}
use Rattle.rules.specs.declared.Entries.{Entries}
use Rattle.rules.specs.declared.Command.{Command}
use Rattle.rules.specs.declared.Command.TheVariants as Do
use Rattle.rules.specs.declared.Answer.{Answer}
use Rattle.rules.specs.declared.Answer.TheVariants.{Done, NoProcess, NoObject, NoMode, ProcessWaits, HasReleased, HoldsAlready, HoldsNot, LoadTooHigh, NoMessage}
use Rattle.rules.specs.Tables.{pick}
use Rattle.rules.specs.Bits.{taken}
use Rattle.rules.specs.Answers.{number, done, first_of}
use Rattle.rules.proofs.Tables.{true_not_false}
use Rattle.rules.specs.Home.{is_waiting, holding}
use Rattle.rules.specs.Lists.{no_entries, plain}
use Rattle.rules.specs.Board.{process_at, put_process, send, kind_load, load}
use Rattle.rules.specs.Commands.{mode_of, requested, released, delivered, effect, answer_to, turn}
use Rattle.rules.specs.Sheet.{by_kind}
use Rattle.processes.specs.Tests.{home_request_tests, home_release_tests}
use Rattle.engine.specs.Packed.{book_answer, top_load, load_tested, book_after, kind_sent}

-- the answer's number and the board of a turn
pub record Turns (b : Board) (c : Command) (n : ℕ) (y : Board) : Type 0 where
  pub answer : number (turn b c).answer ≡ n
  pub board : (turn b c).board ≡ y

refuses : (b : Board) (c : Command) (a : Answer) → answer_to b c ≡ a → done a ≡ false → Turns b c (number a) b
unfolding turn
refuses b c a e f = record { answer = rw e; board = rw (e, f) }

accepts : (b : Board) (c : Command) (a : Answer) → answer_to b c ≡ a → done a ≡ true → Turns b c (number a) (effect b c)
unfolding turn
accepts b c a e f = record { answer = rw e; board = rw (e, f) }

-- ---- the load is the last test
abbrev with_load : Answer → Bool → Answer
with_load a heavy = pick (done a) (pick heavy LoadTooHigh Done) a

-- what is done is not above the load's limit
light : (a : Answer) (heavy : Bool) → done (with_load a heavy) ≡ true → heavy ≡ false
light a heavy e = go (done a) heavy refl e
  where
    go : (d heavy : Bool) → done a ≡ d → done (pick d (pick heavy LoadTooHigh Done) a) ≡ true → heavy ≡ false
    go true true f g = absurd (true_not_false (sym g))
    go true false f g = refl
    go false heavy f g = absurd (true_not_false (sym g ∙ f))

request_chain : (t3 t4 t6 t7 t8 heavy : Bool)
    → first_of ((t3, NoProcess) ∷ (t4, NoObject) ∷ (false, NoMode) ∷ (t6, ProcessWaits) ∷ (t7, HasReleased) ∷ (t8, HoldsAlready) ∷ (heavy, LoadTooHigh) ∷ [])
    ≡ with_load (first_of ((t3, NoProcess) ∷ (t4, NoObject) ∷ (t6, ProcessWaits) ∷ (t7, HasReleased) ∷ (t8, HoldsAlready) ∷ [])) heavy
unfolding first_of
request_chain true t4 t6 t7 t8 heavy = refl
request_chain false true t6 t7 t8 heavy = refl
request_chain false false true t7 t8 heavy = refl
request_chain false false false true t8 heavy = refl
request_chain false false false false true heavy = refl
request_chain false false false false false heavy = refl

release_chain : (t3 t4 t6 t9 heavy : Bool)
    → first_of ((t3, NoProcess) ∷ (t4, NoObject) ∷ (t6, ProcessWaits) ∷ (t9, HoldsNot) ∷ (heavy, LoadTooHigh) ∷ [])
    ≡ with_load (first_of ((t3, NoProcess) ∷ (t4, NoObject) ∷ (t6, ProcessWaits) ∷ (t9, HoldsNot) ∷ [])) heavy
unfolding first_of
release_chain true t4 t6 t9 heavy = refl
release_chain false true t6 t9 heavy = refl
release_chain false false true t9 heavy = refl
release_chain false false false true heavy = refl
release_chain false false false false heavy = refl

-- the ways of a request or a release, by the number n of its home's answer, and whether that is done, at load w; the highest load at
-- which it is taken
pub record HomeWays (b : Board) (c : Command) (n : ℕ) (d : Bool) (most w : ℕ) (new : Board) : Type 0 where
  pub refused : d ≡ false → Turns b c n b
  pub accepted : d ≡ true → Turns b c n new
  pub fits : d ≡ true → w ≤ most

-- ---- a command by its kind
module _ (b : Board) (p o n : ℕ) where
  abbrev pub packed : ℕ → Command
  packed k = by_kind k (Do.Request p o k) (Do.Release p o) (Do.Deliver n)

  abbrev home_tests : ℕ → Process → List (Bool × Answer)
  home_tests k book = pick (eqb k 2) (home_release_tests p o b.process_count b.object_count book) (home_request_tests p o b.process_count b.object_count book)

  abbrev pub made : ℕ → Board
  made k = send (put_process b p (book_after k (process_at b p) o)) (plain (kind_sent k p o))

  home_answers : (k : ℕ) → k < 3 → answer_to b (packed k) ≡ with_load (first_of (home_tests k (process_at b p))) (ltb (top_load k) (load b))
  unfolding answer_to
  home_answers zero h = request_chain (leb b.process_count p) (leb b.object_count o) (is_waiting (process_at b p).wait) (process_at b p).released (holding (process_at b p) o) (ltb 62 (load b))
  home_answers (suc zero) h = request_chain (leb b.process_count p) (leb b.object_count o) (is_waiting (process_at b p).wait) (process_at b p).released (holding (process_at b p) o) (ltb 62 (load b))
  home_answers (suc (suc zero)) h = release_chain (leb b.process_count p) (leb b.object_count o) (is_waiting (process_at b p).wait) (not (holding (process_at b p) o)) (ltb 63 (load b))
  home_answers (suc (suc (suc k))) h = absurd (omega (arith, h))

  home_makes : (k : ℕ) → k < 3 → effect b (packed k) ≡ made k
  unfolding effect requested released book_after kind_sent
  home_makes zero h = refl
  home_makes (suc zero) h = refl
  home_makes (suc (suc zero)) h = refl
  home_makes (suc (suc (suc k))) h = absurd (omega (arith, h))

  delivery : (k : ℕ) → k < 4 → 3 ≤ k → packed k ≡ Do.Deliver n
  delivery k h l = rw (le-ltb k 2 (omega arith), ne_eqb k 2 (λ e. omega (arith, e)))

  -- ---- the ways of a turn, by the answer that the code has in hand
  module _ (k : ℕ) (h : k < 3) (book : Process) (eb : book ≡ process_at b p) (w : ℕ) (ew : w ≡ load b) where
    abbrev at_home : Answer
    at_home = book_answer k p o b.process_count b.object_count book

    chain : answer_to b (packed k) ≡ load_tested at_home (top_load k) w
    unfolding book_answer
    chain = home_answers k h ∙ rw (eb, ew)

    pub home_ways : (a : Answer) → a ≡ load_tested at_home (top_load k) w → (i : ℕ) → i ≡ number a → (d : Bool) → d ≡ done a → HomeWays b (packed k) i d (top_load k) w (made k)
    home_ways a ea i ei d ed =
        let e : answer_to b (packed k) ≡ a = chain ∙ sym ea in record {
          refused = λ f. rw ei (refuses b (packed k) a e (sym ed ∙ f));
          accepted = λ f. rw (ei, ← home_makes k h) (accepts b (packed k) a e (sym ed ∙ f));
          fits = λ f. ltb-false (top_load k) w (light at_home (ltb (top_load k) w) (sym (ap done ea) ∙ sym ed ∙ f));
        }

    -- what the code writes and sends
    pub makes : (i : ℕ) (new : Process) (out : Kind) (none : Entries) → i ≡ p → new ≡ book_after k book o → out ≡ kind_sent k p o → none ≡ no_entries
        → send (put_process b i new) (record { kind = out; list = none }) ≡ made k
    makes i new out none ei en es ez = rw (ei, en, es, ez, eb)

  -- the ways of a delivery
  module _ (k : ℕ) (h : k < 4) (l : 3 ≤ k) (g : n < 64) (a : Answer) (e : a ≡ pick (taken b.occupied n) Done NoMessage) where
    answers : answer_to b (packed k) ≡ a
    unfolding answer_to first_of
    answers = rw (delivery k h l, lt-ltb n 64 g, e) (go (taken b.occupied n))
      where
        go : (t : Bool) → first_of ((not t, NoMessage) ∷ []) ≡ pick t Done NoMessage
        go true = refl
        go false = refl

    module _ (i : ℕ) (ei : i ≡ number a) (d : Bool) (ed : d ≡ done a) where
      pub absent : d ≡ false → Turns b (packed k) i b
      absent f = rw ei (refuses b (packed k) a answers (sym ed ∙ f))

      pub present : d ≡ true → Turns b (packed k) i (delivered b n)
      unfolding effect
      present f = rw (ei, delivery k h l) (accepts b (Do.Deliver n) a (rw (← delivery k h l) answers) (sym ed ∙ f))

pub top_most : (k : ℕ) → top_load k ≤ 63
top_most k = go (eqb k 2)
  where
    go : (t : Bool) → pick t 63 62 ≤ 63
    go true = omega arith
    go false = omega arith

-- a request and a release count
pub sent_counts : (k p o : ℕ) → kind_load (kind_sent k p o) ≢ 0
unfolding kind_sent
sent_counts k p o = go (eqb k 2)
  where
    go : (t : Bool) → kind_load (pick t (Release p o) (Request p o (mode_of k))) ≢ 0
    go true e = omega (arith, e)
    go false e = omega (arith, e)
