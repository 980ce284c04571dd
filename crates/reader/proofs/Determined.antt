-- The contracts of the crate's public functions determine what they answer: value, reading place, and the bytes of what is left.
use Rattle.std.proofs.Common.{◌≡◌, refl, sym, ◌∙◌, ℕ, ◌+◌, ◌*◌, ◌/◌, Bool, List, length, drop}
use seplogic.Ra.Ura.{Ura}
use base.Logic.{SProp}
use prog.Memory.{Memory}
use prog.Routine.{Routine}
use types.Logic.{Logic}
use contract.Monad.{Fun}
use denote.Ref.{Bor}
use denote.Triple.Clauses.{Ended, Clauses}
use Rattle.rules.specs.Sheet as Sheet
use Rattle.rules.specs.Determined.{View, Determined}
use Rattle.rules.proofs.Determined.{Given, Says, by_fact, by_equation, by_equations}
use Rattle.reader.specs.Place as Place
use Rattle.reader.specs.Found as Found
use Rattle.reader.specs.contracts.Reader.new as new
use Rattle.reader.specs.contracts.Reader.read as read
use Rattle.reader.specs.contracts.Reader.homes as homes
use Rattle.reader.specs.contracts.Reader.rest as rest
use Rattle.reader.specs.contracts.Reader.commands as commands
use Rattle.reader.specs.contracts.read_sheet as read-sheet
use Rattle.reader.specs.contracts.rest_from as rest-from

-- what is read, the sheet, and where the reading place stands then
moved : {M : Type 1} {𝓤 : Ura M} {T : Ended} {c : Clauses 𝓤 T} {R S L : Type 0} {view : View T (R × S × L)} (x : Given T R) (y : Given T S) (z : Given T L)
    → Says T c (λ κs a r e. ((view κs r e).0 ≡ x κs a) × ((view κs r e).1 ≡ y κs a) × ((view κs r e).2 ≡ z κs a)) → Determined T c view
moved {view = view} x y z says =
    by_fact (λ κs a r e. ((view κs r e).0 ≡ x κs a) × ((view κs r e).1 ≡ y κs a) × ((view κs r e).2 ≡ z κs a))
    (λ κs a r other e left p q i. ((p.0 ∙ sym q.0) i, (p.1 ∙ sym q.1) i, (p.2 ∙ sym q.2) i)) says

module _ {M : Type 1} {𝓤 : Ura M} (𝓛 : Logic 𝓤) (mem : Memory → SProp 𝓤) (run : Routine → Fun 𝓤) where
  pub new_determined : Determined new.ended (new.clauses 𝓛 mem run) {S = Bor (List ℕ) × ℕ} (λ κs r e. (r.sheet, r.at))
  new_determined = by_equations (λ κs a. a.0) (λ κs a. 0) (λ κs a g r e. refl)

  pub read_determined : Determined read.ended (read.clauses 𝓛 mem run) {S = ℕ × Bor (List ℕ) × ℕ} (λ κs r e. (r, e.0.now.sheet, e.0.now.at))
  read_determined = moved (λ κs a. Sheet.field a.0.now.sheet.now a.0.now.at (Place.within a.0.now.at a.1.0)) (λ κs a. a.0.now.sheet) (λ κs a. a.0.now.at + Place.within a.0.now.at a.1.0) (λ κs a g r e. refl)

  pub homes_determined : Determined homes.ended (homes.clauses 𝓛 mem run) {S = List ℕ × Bor (List ℕ) × ℕ} (λ κs r e. (r, e.0.now.sheet, e.0.now.at))
  homes_determined = moved (λ κs a. Sheet.homes_from a.0.now.sheet.now a.0.now.at (Place.within a.0.now.at a.1.0)) (λ κs a. a.0.now.sheet) (λ κs a. a.0.now.at + 3 * Place.within a.0.now.at a.1.0) (λ κs a g r e. refl)

  pub commands_determined : Determined commands.ended (commands.clauses 𝓛 mem run) {S = Bool × Bor (List ℕ) × ℕ} (λ κs r e. (r, e.0.now.sheet, e.0.now.at))
  commands_determined = moved (λ κs a. Sheet.any_spare (drop (a.0.now.at / 8) a.0.now.sheet.now) (Place.commands_within (length a.0.now.sheet.now) a.0.now.at a.1.0)) (λ κs a. a.0.now.sheet) (λ κs a. a.0.now.at + 16 * Place.commands_within (length a.0.now.sheet.now) a.0.now.at a.1.0) (λ κs a g r e. refl)

  pub rest_determined : Determined rest.ended (rest.clauses 𝓛 mem run) (λ κs r e. r.now)
  rest_determined = by_equation (λ κs a. drop (Place.byte_up a.0.at) a.0.sheet.now) (λ κs a g r e. refl)

  pub read_sheet_determined : Determined read-sheet.ended (read-sheet.clauses 𝓛 mem run) (λ κs r e. r)
  read_sheet_determined = by_equation (λ κs a. Found.found_in a.0.now) (λ κs a g r e. refl)

  pub rest_from_determined : Determined rest-from.ended (rest-from.clauses 𝓛 mem run) (λ κs r e. r.now)
  rest_from_determined = by_equation (λ κs a. drop (Place.byte_up a.1.0) a.0.now) (λ κs a g r e. refl)
