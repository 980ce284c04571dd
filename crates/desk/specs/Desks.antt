-- What a typed line does to a desk: a board, the node that sent each message in flight, and the command that was the last to change it.
use Rattle.std.specs.Prelude.{ℕ, zero, suc, [], eqb, replicate, Option, None}
use Rattle.rules.specs.declared.Answer.{Answer}
use Rattle.rules.specs.declared.Answer.TheVariants.{Done}
use Rattle.rules.specs.declared.Board.{Board}
use Rattle.rules.specs.declared.Stepped.{Stepped}
use Rattle.rules.specs.declared.Drained.{Drained}
use Rattle.rules.specs.Tables.{pick, either}
use Rattle.rules.specs.Bits.{lowest_taken}
use Rattle.rules.specs.Answers.{done}
use Rattle.rules.specs.Commands.{zero_board}
use Rattle.rules.specs.Shape as Rules
use Rattle.typed.specs.declared.Verb.{Verb}
use Rattle.typed.specs.declared.Verb.TheVariants.{Open, Request, Release, Deliver, Drain, Follow, Undo, Quit}
use Rattle.typed.specs.declared.Typed.{Typed}
use Rattle.typed.specs.Verbs.{is}
use Rattle.typed.specs.Reading.{reading}
use Rattle.desk.specs.declared.senders.Site.{Site}
use Rattle.desk.specs.declared.Desk.{Desk}
use Rattle.desk.specs.declared.Acted.{Acted}
use Rattle.desk.specs.declared.Follows.{Follows}
use Rattle.desk.specs.declared.Follows.TheVariants as Then
use Rattle.asked.specs.Lines.{is_whole}
use Rattle.asked.specs.Asked as Asked
use Rattle.desk.specs.Senders as Senders

-- ---- desks
-- a board that has no message
abbrev pub cleared : Board → Typed → Desk
cleared b t = record { board = b; senders = replicate 64 0; command = t }

-- before the first opening
abbrev pub closed : Desk
closed = cleared zero_board (reading [])

-- the board that an accepted command made of the desk's own
abbrev pub moved : Desk → Board → Site → Typed → Desk
moved d b s t = record { board = b; senders = Senders.after d.senders d.board.occupied b.occupied s; command = t }

-- ---- what came of a line: the desk and the answer; deliveries made; the message that arrived, none where none did; what follows
abbrev pub told : Desk → Answer → ℕ → Option ℕ → Follows → Acted
told d a made n f = record { desk = d; answer = a; made = made; arrived = n; follows = f }

-- nothing was asked of the board; the last change is to be taken back, or the input is left
abbrev pub silent : Desk → Follows → Acted
silent d f = told d Done 0 None f

abbrev pub stay : Desk → Acted
stay d = silent d Then.Nothing

-- an opening: a new desk where it is not refused
abbrev pub opened_by : Stepped → Desk → Typed → Acted
opened_by s d t = pick (done s.answer) (told (cleared s.board t) s.answer 0 None Then.Change) (told d s.answer 0 None Then.Nothing)

unfoldable pub opened : Desk → Typed → Acted
opened d t = opened_by (Asked.opened t) d t

-- a command: the board that it made where it is not refused
abbrev pub stepped_by : Stepped → Site → Desk → Typed → Acted
stepped_by s w d t = pick (done s.answer) (told (moved d s.board w t) s.answer 0 w.freed Then.Change) (told d s.answer 0 None Then.Nothing)

unfoldable pub stepped : Desk → Typed → Acted
stepped d t = stepped_by (Rules.step d.board (Asked.command t)) (Senders.acts_at d.board (Asked.command t)) d t

-- a drain: one delivery after another, of the lowest number in flight, as many as the board makes of it
unfoldable pub drained_once : Desk → Typed → Desk
drained_once d t = moved d (Rules.drain d.board 1).board (Senders.delivery d.board (lowest_taken d.board.occupied)) t

unfoldable pub drained_times : ℕ → Desk → Typed → Desk
drained_times zero d t = d
drained_times (suc n) d t = drained_once (drained_times n d t) t

abbrev pub drained_by : Drained → Desk → Typed → Acted
drained_by r d t = told (drained_times r.made d t) r.answer r.made None (pick (eqb r.made 0) Then.Nothing Then.Change)

unfoldable pub drained : Desk → Typed → Acted
drained d t = drained_by (Rules.drain d.board (Asked.budget t)) d t

-- ---- by the verb; a follow is a drain, and a verb that is not named here leaves the desk as it was
unfoldable pub by_verb : Verb → Desk → Typed → Acted
by_verb v d t =
    pick (is v Open) (opened d t)
    (pick (either (is v Request) (either (is v Release) (is v Deliver))) (stepped d t)
    (pick (either (is v Drain) (is v Follow)) (drained d t)
    (silent d (pick (is v Undo) Then.Undo (pick (is v Quit) Then.End Then.Nothing)))))

-- a line that is no whole command does nothing
unfoldable pub acted : Desk → Typed → Acted
acted d t = pick (is_whole t) (by_verb t.verb d t) (stay d)
