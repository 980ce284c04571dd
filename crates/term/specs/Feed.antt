-- A stream taken in byte by byte: what a byte makes of a chart and of the lent buffer that holds one sheet.
use Rattle.std.specs.Prelude.{ℕ, ◌+◌, ◌-◌, Bool, false, List, [], ◌∷◌, eqb}
use Rattle.rules.specs.Tables.{pick}
use Rattle.text.specs.Text.{at_most, behind}
use Rattle.totals.specs.declared.Totals.{Totals}
use Rattle.totals.specs.Stream.{Sheet, cut, buffer, length_of, sized}
use Rattle.totals.specs.Totals.{came, noted, totals_of}
use Rattle.term.specs.declared.Place.{Place}
use Rattle.term.specs.declared.Place.TheVariants.{Between, Length, Inside, Ended}
use Rattle.term.specs.declared.Chart.{Chart}

-- a chart, and the buffer beside it
pub record Fed : Type 0 where
  pub chart : Chart
  pub sheet : List ℕ

abbrev pub beside : Chart → List ℕ → Fed
beside chart sheet = record { chart = chart; sheet = sheet }

abbrev pub at : Totals → Place → List ℕ → Fed
at t place sheet = beside (record { totals = t; place = place }) sheet

-- nothing has come
abbrev pub new : Chart
new = record { totals = totals_of []; place = Between }

-- one sheet more is counted
abbrev pub counted : Totals → Sheet → Totals
counted t s = noted t (came s)

-- a sheet is whole where no byte of it is to come
abbrev pub is_whole : Place → Bool
is_whole Between = false
is_whole (Length high) = false
is_whole (Inside held left) = eqb left 0
is_whole Ended = false

-- how many bytes of it came
abbrev pub held_in : Place → ℕ
held_in Between = 0
held_in (Length high) = 0
held_in (Inside held left) = held
held_in Ended = 0

-- a whole sheet is counted, and the stream stands behind it
unfoldable pub settled : Totals → Place → List ℕ → Fed
settled t place sheet = pick (is_whole place) (at (counted t (sized (held_in place) sheet)) Between sheet) (at t place sheet)

abbrev pub onward : Totals → ℕ → ℕ → List ℕ → Fed
onward t held left sheet = settled t (Inside held left) sheet

-- one byte: of a length, or of a sheet, and then it is kept if the buffer has room for it
unfoldable pub byte : Totals → Place → List ℕ → ℕ → Fed
byte t Between sheet x = at t (Length x) sheet
byte t (Length high) sheet x = onward t 0 (length_of high x) sheet
byte t (Inside held left) sheet x = onward t (at_most (buffer + 1) (held + 1)) (left - 1) (behind buffer sheet held (x ∷ []))
byte t Ended sheet x = at t Ended sheet

-- a piece of any size
unfoldable pub fed : Fed → List ℕ → Fed
fed f [] = f
fed f (x ∷ w) = fed (byte f.chart.totals f.chart.place f.sheet x) w

-- how many bytes can be taken at once: inside a sheet, all that are to come
abbrev pub at_once : Place → ℕ
at_once Between = 1
at_once (Length high) = 1
at_once (Inside held left) = pick (eqb left 0) 1 left
at_once Ended = 1

-- "A stream that ends inside a length or a sheet, of any length, counts that sheet with 12 and stops."
unfoldable pub end_at : Totals → Place → Totals
end_at t Between = t
end_at t (Length high) = counted t cut
end_at t (Inside held left) = counted t cut
end_at t Ended = t

abbrev pub closed : Totals → Chart
closed t = record { totals = t; place = Ended }

unfoldable pub ended : Chart → Chart
ended c = closed (end_at c.totals c.place)
