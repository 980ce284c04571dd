-- The engine's loop, turn by turn: the board, the room and the load after i commands of a slice; or, in a drain, what is left of the
-- budget drains the board in hand.
use mathlib.Core.Path.{◌≡◌, refl, sym, ap, ◌∙◌}
use mathlib.Core.Logic.{◌⊎◌, inl, inr, ⊎_elim}
use mathlib.Core.Bool.{Bool, true, false}
use mathlib.Core.List.{List}
use Prim.Native.Nat.{ℕ, zero, suc, ◌+◌, ◌-◌, ◌*◌, ◌/◌, ◌%◌, ◌≤◌, ◌<◌}
use native.Mathlib.Omega.{arith}
use native.Mathlib.Numerals.{add-one}
use borrow.Author.Tests.{lt-ltb, le-ltb, ltb-true, ltb-false, not-true, not-false}
use lib.Dec.{ltb}
use lib.ListN.{length, get_or, set, length-set}
use Rattle.rules.specs.declared.Board.{Board}
use Rattle.rules.specs.declared.Command.{Command}
use Rattle.rules.specs.declared.Command.TheVariants as Do
use Rattle.rules.specs.declared.Answer.{Answer}
use Rattle.rules.specs.declared.Answer.TheVariants.{Done}
use Rattle.rules.specs.declared.Stepped.{Stepped}
use Rattle.rules.specs.declared.Drained.{Drained}
use Rattle.rules.specs.declared.Ran.{Ran}
use Rattle.rules.specs.Tables.{pick}
use Rattle.rules.specs.Bits.{lowest_taken}
use Rattle.rules.specs.Answers.{number, first_of}
use Rattle.rules.specs.Board.{load}
use Rattle.rules.specs.Commands.{answer_to, effect, delivered, turn, one_step_more, draining}
use Rattle.rules.specs.Sheet.{command_at, board_after, room_after}
use Rattle.rules.proofs.Bits.{lowest-taken}
use Rattle.rules.proofs.Tables.{by_test, true_not_false}
use Rattle.rules.proofs.Sheet.{of_bytes, command_bytes}
use Rattle.engine.specs.Ready.{Ready}
use Rattle.engine.specs.Next.{is_over, first_byte, second_byte}
use Rattle.engine.specs.Work.{Reach, Worked}
use Rattle.engine.proofs.Ready.{turn_ready}
use Rattle.engine.proofs.Sends.{Made}
use Rattle.engine.proofs.Turn.{Turns}

-- ---- a drain: k deliveries before those of d
abbrev with_made : Drained → ℕ → Drained
with_made d k = record { answer = d.answer; made = k; board = d.board }

abbrev more : ℕ → Drained → Drained
more k d = with_made d (k + d.made)

-- a message that is in flight is delivered; where none is, nothing is
one_drained : (n : ℕ) (b : Board) → lowest_taken b.occupied < 64 → draining (suc n) b ≡ one_step_more (draining n (delivered b (lowest_taken b.occupied)))
unfolding draining
one_drained n b h = rw (draining, lt-ltb (lowest_taken b.occupied) 64 h)

none_drained : (n : ℕ) (b : Board) → (n ≡ 0) ⊎ (64 ≤ lowest_taken b.occupied) → draining n b ≡ record { answer = Done; made = 0; board = b }
unfolding draining
none_drained zero b h = refl
none_drained (suc n) b (inl e) = absurd (omega (arith, e))
none_drained (suc n) b (inr h) = rw (draining, le-ltb (lowest_taken b.occupied) 64 h)

delivers : (b : Board) → lowest_taken b.occupied < 64 → (turn b (Do.Deliver (lowest_taken b.occupied))).board ≡ delivered b (lowest_taken b.occupied)
unfolding turn answer_to first_of effect
delivers b h = rw (lt-ltb (lowest_taken b.occupied) 64 h, lowest-taken b.occupied h)

-- after i deliveries, what is left of the budget n drains the board in hand
abbrev Drains : ℕ → Board → ℕ → Board → Type 0
Drains n b₀ i b = more i (draining (n - i) b) ≡ draining n b₀

drains_start : (n : ℕ) (b : Board) → Drains n b 0 b
drains_start n b = let e : n - 0 ≡ n = omega arith in rw e (ap (with_made (draining n b)) (omega arith))

drains_on : (n : ℕ) (b₀ : Board) (i : ℕ) (b : Board) → Drains n b₀ i b → i < n → lowest_taken b.occupied < 64 → (x : Board) → x ≡ (turn b (Do.Deliver (lowest_taken b.occupied))).board → Drains n b₀ (i + 1) x
drains_on n b₀ i b v l g x f =
    let d = n - (i + 1) in
    let z : n - i ≡ suc d = omega arith in
    let m = delivered b (lowest_taken b.occupied) in
    rw (f, delivers b g) (ap (with_made (draining d m)) (omega arith) ∙ ap (more i) (sym (one_drained d b g)) ∙ rw (← z) v)

drains_end : (n : ℕ) (b₀ : Board) (i : ℕ) (b : Board) → Drains n b₀ i b → i ≤ n → (i ≡ n) ⊎ (64 ≤ lowest_taken b.occupied) → record { answer = Done; made = i; board = b } ≡ draining n b₀
drains_end n b₀ i b v l h = ap (λ (k : ℕ). record { answer = Done; made = k; board = b }) (omega arith) ∙ ap (more i) (sym (none_drained (n - i) b (⊎_elim (λ e. inl (omega (arith, e))) inr h))) ∙ v

-- ---- the loop
pub record Working (drains : Bool) (b₀ : Board) (s r₀ : List ℕ) (most i : ℕ) (b : Board) (r : List ℕ) (w : ℕ) : Type 0 where
  pub within : i ≤ most
  pub size : length r ≡ length r₀
  pub reach : Reach drains s most r₀
  pub ready : Ready b
  pub loaded : w ≡ load b
  pub sheet : drains ≡ false → (b ≡ board_after b₀ s i) × (r ≡ room_after b₀ s r₀ i)
  pub drain : drains ≡ true → Drains most b₀ i b

pub working_starts : (drains : Bool) (b : Board) (s r : List ℕ) (most w : ℕ) → Ready b → Reach drains s most r → w ≡ load b → Working drains b s r most 0 b r w
unfolding board_after room_after
working_starts drains b s r most w h g e = record { within = omega arith; size = refl; reach = g; ready = h; loaded = e; sheet = λ _. (refl, refl); drain = λ _. drains_start most b }

-- ---- a turn
module _ (drains : Bool) (b₀ : Board) (s r₀ : List ℕ) (most i : ℕ) (b : Board) (r : List ℕ) (w : ℕ) (v : Working drains b₀ s r₀ most i b r w) (l : i < most) where
  -- two bytes of the slice, and a byte of the room
  pub bytes_there : drains ≡ false → 2 * i + 1 < length s
  bytes_there e = omega (arith, (v.reach.sheet e).0)

  pub place_there : (at : ℕ) → at ≡ pick drains 0 i → at < length r
  place_there at e = go drains refl
    where
      go : (t : Bool) → drains ≡ t → at < length r
      go true f = let z : at ≡ 0 = rw f at e in omega (arith, v.size, v.reach.drain f)
      go false f = let z : at ≡ i = rw f at e in omega (arith, v.size, (v.reach.sheet f).1)

  module _ (no_end : is_over drains b.occupied ≡ false)
      (hi lo at a : ℕ) (eh : hi ≡ first_byte drains s i b.occupied) (hs : hi < 256) (el : lo ≡ second_byte drains s i) (ls : lo < 256) (ea : at ≡ pick drains 0 i)
      (y : Board) (t : Turns b (of_bytes hi lo) a y) (x : Board) (u : ℕ) (m : Made x u y) where
    is_turn : x ≡ (turn b (of_bytes hi lo)).board
    is_turn = m.board ∙ sym t.board

    -- a command of the slice
    module _ (e : drains ≡ false) where
      hi_is : hi ≡ get_or s (2 * i) 0
      hi_is = rw e at eh

      lo_is : lo ≡ get_or s (2 * i + 1) 0
      lo_is = rw e at el

      command_is : command_at s i ≡ of_bytes hi lo
      command_is = rw (hi_is, lo_is) (command_bytes s i (rw (← hi_is) hs) (rw (← lo_is) ls))

      turned : turn (board_after b₀ s i) (command_at s i) ≡ turn b (of_bytes hi lo)
      turned = rw (← (v.sheet e).0, command_is)

      sheet_on : (x ≡ board_after b₀ s (i + 1)) × (set r at a ≡ room_after b₀ s r₀ (i + 1))
      unfolding board_after room_after
      sheet_on =
          let p : at ≡ i = rw e at ea in (
            rw add-one (is_turn ∙ ap (λ (z : Stepped). z.board) (sym turned)),
            rw (add-one, p, (v.sheet e).1) (ap (set (room_after b₀ s r₀ i) i) (sym t.answer ∙ ap (λ (z : Stepped). number z.answer) (sym turned))),
          )

    -- the lowest number in flight
    module _ (e : drains ≡ true) where
      flies : lowest_taken b.occupied < 64
      flies = ltb-true (lowest_taken b.occupied) 64 (not-false _ (rw e at no_end))

      delivery_is : of_bytes hi lo ≡ Do.Deliver (lowest_taken b.occupied)
      delivery_is =
          let h : hi ≡ 192 + lowest_taken b.occupied % 64 = rw e at eh in
          let k : hi / 64 ≡ 3 = omega arith in
          let n : hi % 64 ≡ lowest_taken b.occupied = omega (arith, flies) in
          rw (k, n)

      drain_on : Drains most b₀ (i + 1) x
      drain_on = drains_on most b₀ i b (v.drain e) l flies x (is_turn ∙ ap (λ (c : Command). (turn b c).board) delivery_is)

    pub working_on : Working drains b₀ s r₀ most (i + 1) x (set r at a) u
    working_on = record {
      within = omega arith;
      size = length-set r at a ∙ v.size;
      reach = v.reach;
      ready = rw is_turn (turn_ready b (of_bytes hi lo) v.ready);
      loaded = m.loaded;
      sheet = sheet_on;
      drain = drain_on;
    }

-- ---- the end
module _ (drains : Bool) (b₀ : Board) (s r₀ : List ℕ) (most i : ℕ) (b : Board) (r : List ℕ) (w : ℕ) (v : Working drains b₀ s r₀ most i b r w) where
  drained : drains ≡ true → (i ≡ most) ⊎ (64 ≤ lowest_taken b.occupied) → ◌≡◌ {A = Ran} (record { answer = Done; commands = i; board = b }) (record { answer = Done; commands = (draining most b₀).made; board = (draining most b₀).board })
  drained e h = ap (λ (d : Drained). record { answer = Done; commands = d.made; board = d.board }) (drains_end most b₀ i b (v.drain e) v.within h)

  pub all_done : i ≡ most → Worked drains b₀ s most r₀ (record { answer = Done; commands = i; board = b }) r
  all_done e = record { sheet = λ f. (ends e (v.sheet f).0, rw (← e) (v.sheet f).1); drain = λ f. drained f (inl e) }
    where
      ends : i ≡ most → b ≡ board_after b₀ s i → ◌≡◌ {A = Ran} (record { answer = Done; commands = i; board = b }) (record { answer = Done; commands = most; board = board_after b₀ s most })
      ends e g = rw (g, e)

  pub none_left : is_over drains b.occupied ≡ true → Worked drains b₀ s most r₀ (record { answer = Done; commands = i; board = b }) r
  none_left z = record {
    sheet = λ f. absurd (true_not_false (sym (rw f at z)));
    drain = λ f. drained f (inr (ltb-false (lowest_taken b.occupied) 64 (not-true _ (rw f at z))));
  }

-- ---- the uses
pub for_sheet : (s : List ℕ) (most : ℕ) (room : List ℕ) → most ≡ length s / 2 → most ≤ length room → Reach false s most room
for_sheet s most room e l = record { sheet = λ _. (e, l); drain = λ f. absurd (true_not_false (sym f)) }

pub for_drain : (s : List ℕ) (most : ℕ) (room : List ℕ) → 0 < length room → Reach true s most room
for_drain s most room l = record { sheet = λ f. absurd (true_not_false f); drain = λ _. l }

draining_answers : (n : ℕ) (b : Board) → (draining n b).answer ≡ Done
unfolding draining
draining_answers zero b = refl
draining_answers (suc n) b = by_test (ltb (lowest_taken b.occupied) 64)
    (λ e. rw (draining, e) (draining_answers n (delivered b (lowest_taken b.occupied))))
    (λ e. rw (draining, e))

pub drained_is : (s : List ℕ) (n : ℕ) (b : Board) (room after : List ℕ) (r : Ran) → Worked true b s n room r after → record { answer = Done; made = r.commands; board = r.board } ≡ draining n b
drained_is s n b room after r w = rw (w.drain refl) (ap (λ (a : Answer). record { answer = a; made = (draining n b).made; board = (draining n b).board }) (sym (draining_answers n b)))
