-- An object's book: whom one in its line waits for, and how a request and a release change it. The rules and the model agree.
use mathlib.Core.Path.{◌≡◌, refl, ap, ap₂, sym, ◌∙◌, fun_ext, subst}
use mathlib.Core.Logic.{◌≢◌}
use mathlib.Core.Bool.{Bool, true, false, not, ◌&&◌}
use mathlib.Core.Option.{Option, none, some}
use mathlib.Core.List.{List, [], ◌∷◌, ◌++◌, map, map-append}
use Prim.Native.Nat.{ℕ, zero, suc, ◌<◌}
use native.Mathlib.Omega.{arith}
use native.Mathlib.Decide.{ℕ_discrete}
use lib.Dec.{eqb}
use lib.ListN.{length}
use borrow.Author.Tests.{eq-eqb, ne_eqb}
use Rattle.rules.specs.declared.Object.{Object}
use Rattle.rules.specs.declared.Mode.{Mode}
use Rattle.rules.specs.declared.Mode.TheVariants.{Shared, Exclusive}
use Rattle.rules.specs.Bits.{without_bit, marked}
use Rattle.rules.specs.Tables.{pick, rows, collect, nobody}
use Rattle.rules.specs.Book.{is_exclusive, conflict, hold_in, against, holder_at, rival, rivals, clear, held, struck, who_at, mode_at, joined, without_front, ahead, waited_for, Settled, granted_first, front_granted, settled, release_arrives}
use Rattle.rules.proofs.Tables.{rows_map, collect_ext}
use Rattle.rules.proofs.Book.{noted_same, noted_other, dropped_same, dropped_other, line_of, joined_holder, joined_count, joined_who, joined_mode, joined_who_other, joined_mode_other, joined_line, front_left_line}
use Rattle.model.specs.Lists.{is_empty}
use Rattle.model.specs.Tables.{put}
use Rattle.model.specs.Book.{Waiter, Line, Holders, standing, mode_in, settle, strike, grant_then, holder_against, holders_against, conflict as conflictM, clear as clearM, waited_for as waitedForM, Settled as SettledM}
use Rattle.promises.proofs.Seen.Tables.{pick_conflict, those, stand_mode, stand_ahead, away_mode, put_view}
use Rattle.promises.proofs.Seen.{hold_seen, holders_seen, exclusive_at, line_seen}

-- ---- a hold noted, and a hold struck
module _ (s x k : ℕ) where
  pub noted : (m : Mode) → (λ j. hold_seen (hold_in (marked s k (not (is_exclusive m))) (marked x k (is_exclusive m)) j)) ≡ put (λ j. hold_seen (hold_in s x j)) k (some (is_exclusive m))
  noted m = put_view _ _ k _ (ap hold_seen (noted_same s x k m)) (λ j e. ap hold_seen (noted_other s x k m j e))

  pub dropped : (λ j. hold_seen (hold_in (without_bit s k) (without_bit x k) j)) ≡ put (λ j. hold_seen (hold_in s x j)) k none
  dropped = put_view _ _ k _ (ap hold_seen (dropped_same s x k)) (λ j e. ap hold_seen (dropped_other s x k j e))

-- ---- who holds in conflict
pub conflict_view : (m n : Mode) → conflict m n ≡ conflictM (is_exclusive m) (is_exclusive n)
conflict_view Shared n = refl
conflict_view Exclusive n = refl

module _ (o : Object) (p : ℕ) (m : Mode) where
  one_rival : (k : ℕ) → pick (rival o p m k) (k ∷ []) [] ≡ holder_against (ℕ_discrete k p) (holders_seen o k) (is_exclusive m) k
  unfolding rival
  one_rival k = go (ℕ_discrete k p) (holder_at o k)
    where
      go : (d : Dec (k ≡ p)) (x : Option Mode) → pick (not (eqb k p) && against m x) (k ∷ []) [] ≡ holder_against d (hold_seen x) (is_exclusive m) k
      go (yes e) x = rw (eq-eqb k p e)
      go (no f) none = rw (ne_eqb k p f)
      go (no f) (some n) = rw (ne_eqb k p f, conflict_view m n) (pick_conflict (is_exclusive m) (is_exclusive n) k)

  rivals_below : (n : ℕ) → collect (rival o p m) (λ q. q) n ≡ holders_against n (holders_seen o) p (is_exclusive m)
  unfolding collect holders_against
  rivals_below zero = refl
  rivals_below (suc n) = ap₂ (λ (a b : List ℕ). a ++ b) (rivals_below n) (one_rival n)

  rivals_view : rivals o p m ≡ holders_against 16 (holders_seen o) p (is_exclusive m)
  unfolding rivals
  rivals_view = rivals_below 16

  pub clear_view : clear o p m ≡ clearM (holders_seen o) p (is_exclusive m)
  unfolding clear clearM
  clear_view = go (rivals o p m) ∙ ap is_empty rivals_view
    where
      go : (l : List ℕ) → nobody l ≡ is_empty l
      go [] = refl
      go (x ∷ l) = refl

-- those ahead, none of whom is p
ahead_view : (o : Object) (p : ℕ) (m : Mode) (at : ℕ) → ((k : ℕ) → k < at → who_at o k ≢ p) → ahead o p m at ≡ those (is_exclusive m) at (who_at o) (exclusive_at o)
unfolding ahead
ahead_view o p m at f = collect_ext _ _ _ _ at (λ k h. rw (ne_eqb (who_at o k) p (f k h)) (conflict_view m (mode_at o k))) (λ k h. refl)

-- ---- the book written
abbrev pub waiter_of : ℕ × Mode → Waiter
waiter_of g = standing g.0 (is_exclusive g.1)

line_view : (o : Object) → map waiter_of (line_of o) ≡ line_seen o
line_view o = rows_map waiter_of o.line_count _

pub held_view : (o : Object) (p : ℕ) (m : Mode) → holders_seen (held o p m) ≡ put (holders_seen o) p (some (is_exclusive m))
held_view o p m = noted o.shared o.exclusive p m

pub joined_seen : (o : Object) (p : ℕ) (m : Mode) → length o.line ≡ 16 → o.line_count < 16 → line_seen (joined o p m) ≡ line_seen o ++ standing p (is_exclusive m) ∷ []
joined_seen o p m s h = sym (line_view (joined o p m)) ∙ ap (map waiter_of) (joined_line o p m h s) ∙ map-append waiter_of (line_of o) ((p, m) ∷ []) ∙ ap (λ (l : Line). l ++ standing p (is_exclusive m) ∷ []) (line_view o)

pub joined_holders : (o : Object) (p : ℕ) (m : Mode) → holders_seen (joined o p m) ≡ holders_seen o
joined_holders o p m = fun_ext (λ q. ap hold_seen (joined_holder o p m q))

-- ---- whom a process in the line waits for
module _ (o : Object) (q : ℕ) where
  -- at place k, and at no earlier one
  pub place_view : (k : ℕ) → k < o.line_count → ((j : ℕ) → j < k → who_at o j ≢ q) → who_at o k ≡ q
      → (mode_in q (line_seen o) ≡ some (exclusive_at o k)) × (waited_for o q (mode_at o k) k ≡ waitedForM (holders_seen o) (line_seen o) q)
  unfolding waited_for waitedForM
  place_view k h f e =
      let z = stand_mode q o.line_count (who_at o) (exclusive_at o) k h f e in
      (z, rw z (ap₂ (λ (a c : List ℕ). a ++ c) (rivals_view o q (mode_at o k)) (ahead_view o q (mode_at o k) k f ∙ sym (stand_ahead q (exclusive_at o k) o.line_count (who_at o) (exclusive_at o) k h f e))))

  pub away_view : ((k : ℕ) → k < o.line_count → who_at o k ≢ q) → mode_in q (line_seen o) ≡ none
  away_view f = away_mode q o.line_count (who_at o) (exclusive_at o) f

-- a process that stands nowhere joins: it waits for all ahead that conflict
pub join_view : (o : Object) (p : ℕ) (m : Mode) → length o.line ≡ 16 → o.line_count < 16 → ((k : ℕ) → k < o.line_count → who_at o k ≢ p)
    → waited_for o p m o.line_count ≡ waitedForM (holders_seen o) (line_seen o ++ standing p (is_exclusive m) ∷ []) p
unfolding waited_for rivals rival ahead
join_view o p m s h f =
    let n = o.line_count in
    let y = joined o p m in
    let who : (k : ℕ) → k < n → who_at y k ≡ who_at o k = λ k l. joined_who_other o p m h k (omega arith) in
    let v = (place_view y p n (omega (arith, joined_count o p m h)) (λ k l e. f k l (sym (who k l) ∙ e)) (joined_who o p m h s)).1 in
    sym (ap₂ (λ (a c : List ℕ). a ++ c)
    (collect_ext _ _ _ _ 16 (λ q l. ap (λ (x : Option Mode). not (eqb q p) && against m x) (joined_holder o p m q)) (λ q l. refl))
    (collect_ext _ _ _ _ n (λ k l. ap₂ (λ (q : ℕ) (x : Mode). not (eqb q p) && conflict m x) (who k l) (joined_mode_other o p m h k (omega arith))) who))
    ∙ (rw (joined_mode o p m h) at v) ∙ ap₂ (λ (a : Holders) (l : Line). waitedForM a l p) (joined_holders o p m) (joined_seen o p m s h)

-- ---- the release
front_line : (o : Object) (n : ℕ) → o.line_count ≡ suc n → line_seen o ≡ standing (who_at o 0) (exclusive_at o 0) ∷ line_seen (without_front o)
front_line o n e = sym (line_view o) ∙ ap (map waiter_of) (front_left_line o n e) ∙ ap (λ (l : Line). standing (who_at o 0) (exclusive_at o 0) ∷ l) (line_view (without_front o))

pub record Same (l : Settled) (s : SettledM) : Type 0 where
  pub holders : holders_seen l.object ≡ s.holders
  pub line : line_seen l.object ≡ s.line
  pub grants : map waiter_of l.grants ≡ s.grants

more_same : (g : ℕ × Mode) (l : Settled) (s : SettledM) → Same l s → Same (granted_first g l) (grant_then (waiter_of g) s)
more_same g l s k = record { holders = k.holders; line = k.line; grants = ap (λ (y : Line). waiter_of g ∷ y) k.grants }

empty_line : (o : Object) → o.line_count ≡ 0 → line_seen o ≡ []
unfolding rows
empty_line o e = ap (λ (n : ℕ). rows n (λ k. standing (who_at o k) (exclusive_at o k))) e

settled_view : (n : ℕ) (o : Object) → o.line_count ≡ n → Same (settled n o) (settle (holders_seen o) (line_seen o))
unfolding settled settle rows
settled_view zero o e = subst (λ (l : Line). Same (settled 0 o) (settle (holders_seen o) l)) (sym (empty_line o e)) (record { holders = refl; line = empty_line o e; grants = refl })
settled_view (suc n) o e =
    rw (front_line o n e) (go (clear o (who_at o 0) (mode_at o 0)) (clear_view o (who_at o 0) (mode_at o 0)) (settled_view n (front_granted o) (omega arith)))
  where
    l : Line
    l = line_seen (without_front o)

    a : Waiter
    a = standing (who_at o 0) (exclusive_at o 0)

    go : (t : Bool) → t ≡ clearM (holders_seen o) (who_at o 0) (exclusive_at o 0) → Same (settled n (front_granted o)) (settle (holders_seen (front_granted o)) l)
        → Same (elim t [ true ↦ granted_first (who_at o 0, mode_at o 0) (settled n (front_granted o)) | false ↦ record { object = o; grants = [] } ]) (settle (holders_seen o) (a ∷ l))
    go true z k = rw (← z, settle) (more_same (who_at o 0, mode_at o 0) _ _ (rw (held_view o (who_at o 0) (mode_at o 0)) at k))
    go false z k = rw (← z, settle) (record { holders = refl; line = front_line o n e; grants = refl })

pub release_same : (o : Object) (p : ℕ) → Same (release_arrives o p) (strike (holders_seen o) (line_seen o) p)
unfolding release_arrives strike
release_same o p = rw (dropped o.shared o.exclusive p) at (settled_view o.line_count (struck o p) refl)
