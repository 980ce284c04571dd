-- An opening: refused with the board of zeros, or taken with empty books.
use Rattle.std.proofs.Common.{◌≡◌, ◌∙◌, ap, Bool, true, false, not, List, ℕ, replicate}
use denote.Enum.Bare.{sameb}
use Rattle.rules.specs.declared.Board.{Board}
use Rattle.rules.specs.declared.Answer.{Answer}
use Rattle.rules.specs.declared.Answer.TheVariants.{Done}
use Rattle.rules.specs.declared.Entries.{Entries}
use Rattle.rules.specs.declared.Flight.{Flight}
use Rattle.rules.specs.declared.Object.{Object}
use Rattle.rules.specs.declared.Process.{Process}
use Rattle.rules.specs.declared.Ring.{Ring}
use Rattle.rules.specs.declared.Stepped.{Stepped}
use Rattle.rules.specs.contracts.Answer as answer
use Rattle.rules.specs.Answers.{done, first_of}
use Rattle.rules.specs.Board.{no_process, no_object, no_flight}
use Rattle.rules.specs.Lists.{no_entries, no_ring}
use Rattle.rules.specs.Commands.{zero_board, empty_board, homes_of, opening_tests, opening}
use Rattle.opening.specs.declared.Opening.{Opening}
use Rattle.values.proofs.Answers.{refuses}
use Rattle.values.proofs.Defaults.{Zeros, zeros}

-- tables of empty records
pub empty_of : (n p o : ℕ) (hp ho : List ℕ) (a : Process) (b : Object) (f : Flight) (e : Entries) (r : Ring) → a ≡ no_process → b ≡ no_object → f ≡ no_flight → e ≡ no_entries → r ≡ no_ring → ◌≡◌ {A = Board} (record { nodes = n; process_count = p; object_count = o; process_home = hp; object_home = ho; processes = replicate 16 a; objects = replicate 16 b; occupied = 0; flights = replicate 64 f; lists = replicate 64 e; rings = replicate 16 r }) (empty_board n p o hp ho)
empty_of n p o hp ho a b f e r h i j k l = rw (h, i, j, k, l)

zero_of : (n p o : ℕ) (hp ho : List ℕ) → n ≡ 0 → p ≡ 0 → o ≡ 0 → hp ≡ replicate 16 0 → ho ≡ replicate 16 0 → empty_board n p o hp ho ≡ zero_board
zero_of n p o hp ho e f g h i = rw (e, f, g, h, i)

-- the default opening is one of zeros
pub zero_default : (a : Opening) → (a.nodes ≡ 0) × ((a.processes ≡ 0) × ((a.objects ≡ 0) × (Zeros a.process_home 16 × Zeros a.object_home 16))) → empty_board a.nodes a.processes a.objects a.process_home a.object_home ≡ zero_board
zero_default a (n, (p, (o, (hp, ho)))) = zero_of a.nodes a.processes a.objects a.process_home a.object_home n p o (zeros a.process_home 16 hp) (zeros a.object_home 16 ho)

module _ (n p o : ℕ) (hp ho : List ℕ) (a : Answer) (e : a ≡ first_of (opening_tests n p o hp ho)) (t : Bool) (g : t ≡ not (sameb answer.the_type a Done)) where
  pub opening_refused : t ≡ true → (z : Board) → z ≡ zero_board → ◌≡◌ {A = Stepped} (record { answer = a; board = z }) (opening n p o hp ho)
  unfolding opening
  opening_refused h z f =
      let d : done a ≡ false = refuses a t g ∙ ap not h in
      rw (f, ← e, d)

  pub opening_taken : t ≡ false → (z : Board) → z ≡ empty_board n p o (homes_of p hp) (homes_of o ho) → ◌≡◌ {A = Stepped} (record { answer = a; board = z }) (opening n p o hp ho)
  unfolding opening
  opening_taken h z f =
      let d : done a ≡ true = refuses a t g ∙ ap not h in
      rw (f, ← e, d)
