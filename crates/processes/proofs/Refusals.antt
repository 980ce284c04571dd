-- Tests in order, of which the first are asked apart: a refusal by those is the answer, and without one the others decide.
use Rattle.std.proofs.Common.{◌≡◌, refl, ℕ, Bool, true, false, not, List, [], ◌∷◌, ◌++◌, Option, Some, None}
use Rattle.rules.specs.declared.Answer.{Answer}
use Rattle.rules.specs.declared.Answer.TheVariants.{HasReleased, HoldsAlready, HoldsNot}
use Rattle.rules.specs.declared.Process.{Process}
use Rattle.rules.specs.Tables.{pick}
use Rattle.rules.specs.Home.{holding}
use Rattle.rules.specs.Answers.{first_of}
use Rattle.processes.specs.Tests.{home_request_tests, home_release_tests, common_tests, refusal_of}

refused_by : (b : Bool) (a r : Answer) (o : Option Answer) (x : Answer) → (Some r ≡ o → r ≡ x) → Some r ≡ pick b (Some a) o → r ≡ pick b a x
refused_by true a r o x f e = cc
refused_by false a r o x f e = f e

passed_by : (b : Bool) (a : Answer) (o : Option Answer) (y x : Answer) → (None ≡ o → y ≡ x) → None ≡ pick b (Some a) o → y ≡ pick b a x
passed_by true a o y x f e = absurd (cc)
passed_by false a o y x f e = f e

refused : (ts us : List (Bool × Answer)) (r : Answer) → Some r ≡ refusal_of ts → r ≡ first_of (ts ++ us)
unfolding first_of
refused [] us r e = absurd (cc)
refused (t ∷ ts) us r e = refused_by t.0 t.1 r (refusal_of ts) (first_of (ts ++ us)) (refused ts us r) e

passed : (ts us : List (Bool × Answer)) → ◌≡◌ {A = Option Answer} None (refusal_of ts) → first_of us ≡ first_of (ts ++ us)
unfolding first_of
passed [] us e = refl
passed (t ∷ ts) us e = passed_by t.0 t.1 (refusal_of ts) (first_of us) (first_of (ts ++ us)) (passed ts us) e

module _ (p o processes objects : ℕ) (book : Process) where
  -- the tests of a request alone, and of a release alone
  abbrev pub request_rest : List (Bool × Answer)
  request_rest = (book.released, HasReleased) ∷ (holding book o, HoldsAlready) ∷ []

  abbrev pub release_rest : List (Bool × Answer)
  release_rest = (not (holding book o), HoldsNot) ∷ []

  pub request_refused : (r : Answer) → Some r ≡ refusal_of (common_tests p o processes objects book) → r ≡ first_of (home_request_tests p o processes objects book)
  request_refused r e = refused (common_tests p o processes objects book) request_rest r e

  pub request_passed : ◌≡◌ {A = Option Answer} None (refusal_of (common_tests p o processes objects book)) → first_of request_rest ≡ first_of (home_request_tests p o processes objects book)
  request_passed e = passed (common_tests p o processes objects book) request_rest e

  pub release_refused : (r : Answer) → Some r ≡ refusal_of (common_tests p o processes objects book) → r ≡ first_of (home_release_tests p o processes objects book)
  release_refused r e = refused (common_tests p o processes objects book) release_rest r e

  pub release_passed : ◌≡◌ {A = Option Answer} None (refusal_of (common_tests p o processes objects book)) → first_of release_rest ≡ first_of (home_release_tests p o processes objects book)
  release_passed e = passed (common_tests p o processes objects book) release_rest e
