-- How often a process stands, over all lines and requests in flight: what writing a book, freeing a number and sending do to it.
use mathlib.Core.Path.{◌≡◌, refl, ap}
use mathlib.Core.Bool.{true}
use mathlib.Core.List.{List, [], ◌∷◌}
use Prim.Native.Nat.{ℕ, zero, suc, ◌+◌, ◌-◌, ◌≤◌, ◌<◌}
use native.Mathlib.Omega.{arith}
use native.Mathlib.Numerals.{add-one}
use lib.Dec.{eqb, ltb}
use lib.ListN.{length, get_or, set}
use lib.Seq.{get_or-set_same, get_or-set_other}
use borrow.Author.Tests.{ltb-true}
use Rattle.rules.specs.declared.Mode.{Mode}
use Rattle.rules.specs.declared.Kind.{Kind}
use Rattle.rules.specs.declared.Kind.TheVariants.{Grant}
use Rattle.rules.specs.declared.Message.{Message}
use Rattle.rules.specs.declared.Process.{Process}
use Rattle.rules.specs.declared.Object.{Object}
use Rattle.rules.specs.declared.Ring.{Ring}
use Rattle.rules.specs.declared.Board.{Board}
use Rattle.rules.specs.Tables.{pick, sum, count_of}
use Rattle.rules.specs.Bits.{lowest_free}
use Rattle.rules.specs.Book.{who_at, joined, without_front, front_granted, settled}
use Rattle.rules.specs.Lists.{plain}
use Rattle.rules.specs.Board.{no_object, object_at, kind_at, put_process, put_object, put_message, freed, is_message, put_first, send, send_grants, load}
use Rattle.rules.specs.Commands.{recording}
use Rattle.rules.specs.Shape.{request_of, standing}
use Rattle.rules.proofs.Bits.{lowest-free}
use Rattle.rules.proofs.Tables.{sum_ext, sum_front, sum_change}
use Rattle.rules.proofs.Book.{front_left_who, settled_keeps}
use Rattle.rules.proofs.Load.{Matched, kind_same, kind_other, freed_same, freed_other, matched_free, matched_send, sized_send, room_below, send_sent}
use Rattle.laws.proofs.Tables.{by_pick}

-- one for a request of q, one for each place where q stands
abbrev is : ℕ → ℕ → ℕ
is q p = pick (eqb p q) 1 0

abbrev pub asks : ℕ → Kind → ℕ
asks q k = pick (request_of q k) 1 0

abbrev pub stands : ℕ → Object → ℕ
stands q x = count_of x.line_count (λ k. eqb (who_at x k) q)

-- ---- the line of one object
-- one who joins stands once more, and nobody else does
pub stands_joined : (q : ℕ) (x : Object) (p : ℕ) (m : Mode) → length x.line ≡ 16 → stands q (joined x p m) ≤ stands q x + is q p
unfolding joined sum
stands_joined q x p m s = by_pick (λ (y : Object). stands q y ≤ stands q x + is q p) (ltb x.line_count 16) (λ e. more (ltb-true x.line_count 16 e)) (λ e. omega arith)
  where
    more : x.line_count < 16 → count_of (x.line_count + 1) (λ k. eqb (get_or (set x.line x.line_count p) k 0) q) ≤ stands q x + is q p
    more room =
        let t : ℕ → ℕ = λ k. is q (get_or (set x.line x.line_count p) k 0) in
        let same = sum_ext x.line_count t (λ k. is q (who_at x k)) (λ k l. ap (is q) (get_or-set_other x.line x.line_count k p 0 (λ z. omega arith))) in
        let new = ap (is q) (get_or-set_same x.line x.line_count p 0 (omega arith)) in
        rw (add-one x.line_count, sum) (omega (arith, same, new))

-- where the front leaves, nobody stands more often
stands_front_left : (q : ℕ) (x : Object) → 0 < x.line_count → stands q (front_granted x) ≤ stands q x
stands_front_left q x h = go x.line_count h
  where
    go : (n : ℕ) → 0 < n → count_of (n - 1) (λ k. eqb (who_at (without_front x) k) q) ≤ count_of n (λ k. eqb (who_at x k) q)
    go zero h = absurd (omega arith)
    go (suc n) h =
        let z : suc n - 1 ≡ n = omega arith in
        rw z (omega (arith, sum_front n (λ k. is q (who_at x k)), sum_ext n (λ k. is q (who_at (without_front x) k)) (λ k. is q (who_at x (suc k))) (λ k l. ap (is q) (front_left_who x k))))

pub stands_settled : (q n : ℕ) (x : Object) → x.line_count ≡ n → stands q (settled n x).object ≤ stands q x
stands_settled q n x e = settled_keeps (λ (y : Object). stands q y ≤ stands q x) (λ y a h _. omega (arith, stands_front_left q y h)) n x e (omega arith)

-- ---- the board
module _ (b : Board) (q : ℕ) where
  -- the books of processes and the rings do not count
  pub standing_process : (p : ℕ) (x : Process) → standing (put_process b p x) q ≡ standing b q
  unfolding standing
  standing_process p x = refl

  pub standing_recorded : (s : ℕ) (x : Ring) → standing (recording b s x) q ≡ standing b q
  unfolding standing recording
  standing_recorded s x = by_pick (λ (c : Board). standing c q ≡ standing b q) (eqb x.count 0) (λ e. refl) (λ e. refl)

  pub standing_freed : (n : ℕ) → n < 64 → standing (freed b n) q + asks q (kind_at b n) ≡ standing b q
  unfolding standing
  standing_freed n h =
      omega (arith, ap (asks q) (freed_same b n), sum_change 64 (λ k. asks q (kind_at b k)) (λ k. asks q (kind_at (freed b n) k)) n h (λ k l f. ap (asks q) (freed_other b n k f)))

  standing_message : (n : ℕ) (m : Message) → n < 64 → n < length b.flights → standing (put_message b n m) q + asks q (kind_at b n) ≡ standing b q + asks q m.kind
  unfolding standing
  standing_message n m h l =
      omega (arith, ap (asks q) (kind_same b n m l), sum_change 64 (λ k. asks q (kind_at b k)) (λ k. asks q (kind_at (put_message b n m) k)) n h (λ k z f. ap (asks q) (kind_other b n k m f)))

  pub standing_object : (o : ℕ) (x : Object) → o < 16 → o < length b.objects → standing (put_object b o x) q + stands q (object_at b o) ≡ standing b q + stands q x
  unfolding standing
  standing_object o x h l =
      omega (
        arith,
        ap (stands q) (get_or-set_same b.objects o x no_object l),
        sum_change 16 (λ k. stands q (object_at b k)) (λ k. stands q (object_at (put_object b o x) k)) o h (λ k z f. ap (stands q) (get_or-set_other b.objects o k x no_object f)),
      )

  -- a message that is sent counts for itself at most, and just for itself where the load leaves room
  pub standing_send_le : (m : Message) → length b.flights ≡ 64 → standing (send b m) q ≤ standing b q + asks q m.kind
  unfolding send put_first
  standing_send_le m s =
      by_pick (λ (c : Board). standing c q ≤ standing b q + asks q m.kind) (is_message m.kind)
      (λ e. by_pick (λ (c : Board). standing c q ≤ standing b q + asks q m.kind) (ltb (lowest_free b.occupied) 64)
      (λ l. let n : lowest_free b.occupied < 64 = ltb-true _ 64 l in omega (arith, standing_message (lowest_free b.occupied) m n (omega arith))) (λ l. omega arith))
      (λ e. omega arith)

  pub standing_send : (m : Message) → length b.flights ≡ 64 → Matched b → load b < 64 → is_message m.kind ≡ true → standing (send b m) q ≡ standing b q + asks q m.kind
  standing_send m s h l e =
      let n : lowest_free b.occupied < 64 = room_below b h l in
      rw (send_sent b m e n) (omega (arith, standing_message (lowest_free b.occupied) m n (omega arith), ap (asks q) (matched_free b h (lowest_free b.occupied) n (lowest-free b.occupied n))))

-- nobody stands by a grant
pub standing_grants : (gs : List (ℕ × Mode)) (b : Board) (o q : ℕ) → length b.flights ≡ 64 → Matched b → standing (send_grants b o gs) q ≤ standing b q
unfolding send_grants
standing_grants [] b o q s h = omega arith
standing_grants (g ∷ gs) b o q s h =
    let m = plain (Grant g.0 o g.1) in
    omega (arith, standing_grants gs (send b m) o q (sized_send b s h m) (matched_send b s h m), standing_send_le b q m s)
