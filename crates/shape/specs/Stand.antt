-- Those who stand somewhere, noted one after another; and what tables must have shown before their processes can be noted.
use Rattle.std.specs.Prelude.{ℕ, zero, suc, ◌≤◌, ◌<◌, List, get_or, Option, Some, None, option_and_then}
use Rattle.rules.specs.declared.Kind.{Kind}
use Rattle.rules.specs.declared.Kind.TheVariants.{Free, Request, Grant, Release, ListToHome, ListToObject}
use Rattle.rules.specs.declared.Flight.{Flight}
use Rattle.rules.specs.declared.Object.{Object}
use Rattle.rules.specs.Tables.{pick}
use Rattle.rules.specs.Bits.{taken, with_bit}
use Rattle.rules.specs.Board.{no_flight, no_object}

-- the first n of a row are processes
pub record RowFits (row : List ℕ) (n : ℕ) : Type 0 where
  pub count : n ≤ 16
  pub below : (k : ℕ) → k < n → get_or row k 0 < 16

-- the process of a request is below 16
abbrev pub AskerFits : Kind → Type 0
AskerFits Free = Unit {0}
AskerFits (Request p o m) = p < 16
AskerFits (Grant p o m) = Unit {0}
AskerFits (Release p o) = Unit {0}
AskerFits ListToHome = Unit {0}
AskerFits (ListToObject o) = Unit {0}

-- the kind under a number, and the book of an object, in their tables
abbrev pub kind_in : List Flight → ℕ → Kind
kind_in flights n = (get_or flights n no_flight).kind

abbrev pub book_in : List Object → ℕ → Object
book_in books o = get_or books o no_object

-- requests and lines that have passed their tests
abbrev pub AskersFit : List Flight → Type 0
AskersFit flights = (n : ℕ) → n < 64 → AskerFits (kind_in flights n)

abbrev pub LinesFit : List Object → Type 0
LinesFit books = (o : ℕ) → o < 16 → RowFits (book_in books o).line (book_in books o).line_count

-- ---- noting: those who stand are a set, and there is none once one stands twice
-- p stands too
abbrev pub noted : ℕ → ℕ → Option ℕ
noted s p = pick (taken s p) None (Some (with_bit s p))

-- what stands at the places 0, 1, .. n - 1, noted one after another
unfoldable pub each_noted : (ℕ → ℕ → Option ℕ) → ℕ → ℕ → Option ℕ
each_noted note s zero = Some s
each_noted note s (suc k) = option_and_then (note k) (each_noted note s k)

abbrev pub noted_row : ℕ → List ℕ → ℕ → Option ℕ
noted_row s row n = each_noted (λ k t. noted t (get_or row k 0)) s n

-- of messages only a request has its process standing
abbrev pub noted_kind : ℕ → Kind → Option ℕ
noted_kind s Free = Some s
noted_kind s (Request p o m) = noted s p
noted_kind s (Grant p o m) = Some s
noted_kind s (Release p o) = Some s
noted_kind s ListToHome = Some s
noted_kind s (ListToObject o) = Some s

abbrev pub noted_requests : List Flight → ℕ → Option ℕ
noted_requests flights n = each_noted (λ k t. noted_kind t (kind_in flights k)) 0 n

abbrev pub noted_lines : ℕ → List Object → ℕ → Option ℕ
noted_lines s books n = each_noted (λ o t. noted_row t (book_in books o).line (book_in books o).line_count) s n
