-- The grants of one release go to those at the first places of the line, in their order; each is sent under the lowest free number.
use mathlib.Core.List.{List, [], ◌∷◌}
use mathlib.Core.Path.{◌≡◌, refl, sym, ap, ◌∙◌}
use mathlib.Core.Bool.{true}
use Prim.Native.Nat.{ℕ, zero, suc, ◌+◌, ◌-◌, ◌≤◌, ◌<◌}
use native.Mathlib.Numerals.{add-one}
use native.Mathlib.Omega.{arith}
use lib.ListN.{length}
use Rattle.rules.specs.declared.Board.{Board}
use Rattle.rules.specs.declared.Mode.{Mode}
use Rattle.rules.specs.declared.Object.{Object}
use Rattle.rules.specs.declared.Message.{Message}
use Rattle.rules.specs.declared.Kind.{Kind}
use Rattle.rules.specs.declared.Kind.TheVariants.{Grant}
use Rattle.rules.specs.declared.Entries.{Entries}
use Rattle.rules.specs.Bits.{lowest_free}
use Rattle.rules.specs.Book.{who_at, mode_at, held, front_clear, front_granted, settled}
use Rattle.rules.specs.Lists.{no_entries, plain}
use Rattle.rules.specs.Board.{send, send_grants}
use Rattle.rules.proofs.Tables.{by_test}
use Rattle.rules.proofs.Book.{front_left_who, front_left_mode, settled_count}
use Rattle.rules.proofs.Load.{send_full}
use Rattle.objects.specs.Fronts.{front_goes, let_in}
use Rattle.objects.proofs.Fronts.{let_in_goes, some_stand}
use Rattle.engine.specs.Grants.{places_from}

-- ---- those let in
-- once the front has left, each stands one place ahead
places_on : (o : Object) (k n : ℕ) → places_from (front_granted o) k n ≡ places_from o (suc k) n
unfolding places_from
places_on o k zero = refl
places_on o k (suc n) =
    let h = held o (who_at o 0) (mode_at o 0) in
    rw (front_left_who h k, front_left_mode h k) (ap (λ (l : List (ℕ × Mode)). (who_at o (suc k), mode_at o (suc k)) ∷ l) (places_on o (suc k) n))

settled_places : (n : ℕ) (o : Object) → (settled n o).grants ≡ places_from o 0 (length (settled n o).grants)
unfolding settled places_from
settled_places zero o = refl
settled_places (suc n) o = by_test (front_clear o)
    (λ e. rw (settled, e) (ap (λ (l : List (ℕ × Mode)). (who_at o 0, mode_at o 0) ∷ l) (settled_places n (front_granted o) ∙ places_on o 0 (length (settled n (front_granted o)).grants))))
    (λ e. rw (settled, e))

-- the line falls by as many as are let in
pub line_falls : (o : Object) → length (settled o.line_count o).grants + (let_in o).line_count ≡ o.line_count
line_falls o = settled_count o.line_count o refl

pub those_let_in : (o : Object) (n : ℕ) → n ≡ o.line_count - (let_in o).line_count → (settled o.line_count o).grants ≡ places_from o 0 n
those_let_in o n e = settled_places o.line_count o ∙ ap (places_from o 0) (omega (arith, e, line_falls o))

pub one_let_in : (o : Object) → front_goes o ≡ true → (let_in o).line_count < o.line_count
one_let_in o f = omega (arith, some_stand o f, line_falls (front_granted o), ap (λ (x : Object). x.line_count) (let_in_goes o f))

-- ---- what is sent to them
pub grants_first : (b : Board) (o : ℕ) (line : Object) (k n m : ℕ) → n ≡ m + 1 → send_grants b o (places_from line k n) ≡ send_grants (send b (plain (Grant (who_at line k) o (mode_at line k)))) o (places_from line (k + 1) m)
unfolding send_grants places_from
grants_first b o line k n m e = rw (e, add-one m, add-one k)

-- the next is sent, and where the others lead stays the same
pub grant_sent : (b : Board) (o : ℕ) (line : Object) (k n : ℕ) (last : Board) → send_grants b o (places_from line k (n - k)) ≡ last → k < n
    → (out : Kind) (none : Entries) → out ≡ Grant (who_at line k) o (mode_at line k) → none ≡ no_entries
    → (x : Board) → x ≡ send b (record { kind = out; list = none }) → send_grants x o (places_from line (k + 1) (n - (k + 1))) ≡ last
grant_sent b o line k n last e l out none eo ez x ex = rw (ex, eo, ez) (sym (grants_first b o line k (n - k) (n - (k + 1)) (omega arith)) ∙ e)

-- no number is free: nothing is sent
pub grants_full : (gs : List (ℕ × Mode)) (b : Board) (o : ℕ) → 64 ≤ lowest_free b.occupied → send_grants b o gs ≡ b
unfolding send_grants
grants_full [] b o h = refl
grants_full (g ∷ gs) b o h = let m : Message = plain (Grant g.0 o g.1) in rw (send_full b m h) (grants_full gs b o h)

-- nobody is left: nothing is sent
pub grants_over : (b : Board) (o : ℕ) (line : Object) (k n : ℕ) → n ≡ 0 → send_grants b o (places_from line k n) ≡ b
unfolding send_grants places_from
grants_over b o line k n e = rw e
