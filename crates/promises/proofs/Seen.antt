-- A board of records seen as the model's board of functions. A name that ends in M is the model's.
pub mod Tables
pub mod Objects
pub mod Lists
pub mod Waits
use mathlib.Core.Path.{◌≡◌}
use mathlib.Core.Bool.{Bool}
use mathlib.Core.Option.{Option, none, some}
use mathlib.Core.List.{List}
use Prim.Native.Nat.{ℕ}
use Rattle.rules.specs.declared.Mode.{Mode}
use Rattle.rules.specs.declared.Wait.{Wait}
use Rattle.rules.specs.declared.Wait.TheVariants.{NotWaiting, Waiting}
use Rattle.rules.specs.declared.Kind.{Kind}
use Rattle.rules.specs.declared.Kind.TheVariants.{Free, Request, Grant, Release, ListToHome, ListToObject}
use Rattle.rules.specs.declared.Entries.{Entries}
use Rattle.rules.specs.declared.Message.{Message}
use Rattle.rules.specs.declared.Process.{Process}
use Rattle.rules.specs.declared.Object.{Object}
use Rattle.rules.specs.declared.Board.{Board}
use Rattle.rules.specs.Tables.{rows}
use Rattle.rules.specs.Book.{is_exclusive, holder_at, who_at, mode_at}
use Rattle.rules.specs.Home.{hold_at}
use Rattle.rules.specs.Lists.{entry_at, lead_at}
use Rattle.rules.specs.Board.{process_at, object_at, kind_at, list_at}
use Rattle.rules.specs.Waits.{recorded}
use Rattle.model.specs.Book.{Line, Holders, standing}
use Rattle.model.specs.Board.{Wanted, wants, Entry, led_by, Message as MessageM, request, grant, release, list, Board as BoardM}

-- ---- the books. A mode is seen as 'is it exclusive'.
abbrev pub hold_seen : Option Mode → Option Bool
hold_seen none = none
hold_seen (some m) = some (is_exclusive m)

abbrev pub holders_seen : Object → Holders
holders_seen o = λ q. hold_seen (holder_at o q)

-- the one at place k stands in exclusive mode
abbrev pub exclusive_at : Object → ℕ → Bool
exclusive_at o k = is_exclusive (mode_at o k)

abbrev pub line_seen : Object → Line
line_seen o = rows o.line_count (λ k. standing (who_at o k) (exclusive_at o k))

abbrev pub wait_seen : Wait → Option Wanted
wait_seen NotWaiting = none
wait_seen (Waiting o m) = wants o (is_exclusive m)

abbrev pub holds_seen : Process → ℕ → Option Bool
holds_seen p = λ o. hold_seen (hold_at p o)

-- ---- messages
abbrev pub entries_seen : Entries → List Entry
entries_seen l = rows l.count (λ k. led_by (lead_at l k) (entry_at l k))

abbrev pub message_seen : Kind → Entries → Option MessageM
message_seen Free l = none
message_seen (Request p o m) l = some (request p o (is_exclusive m))
message_seen (Grant p o m) l = some (grant p o (is_exclusive m))
message_seen (Release p o) l = some (release p o)
message_seen ListToHome l = some (list (entries_seen l) l.next none)
message_seen (ListToObject o) l = some (list (entries_seen l) l.next (some o))

abbrev pub sent_seen : Message → Option MessageM
sent_seen m = message_seen m.kind m.list

-- ---- the board
abbrev pub seen : Board → BoardM
seen b = record {
  wait = λ p. wait_seen (process_at b p).wait;
  hold = λ p. holds_seen (process_at b p);
  released = λ p. (process_at b p).released;
  holder = λ o. holders_seen (object_at b o);
  line = λ o. line_seen (object_at b o);
  messages = λ n. message_seen (kind_at b n) (list_at b n);
  place = λ s. recorded b s;
}

pub board_path : (a b : BoardM) → a.wait ≡ b.wait → a.hold ≡ b.hold → a.released ≡ b.released → a.holder ≡ b.holder
    → a.line ≡ b.line → a.messages ≡ b.messages → a.place ≡ b.place → a ≡ b
board_path a b e1 e2 e3 e4 e5 e6 e7 = λ i. record { wait = e1 i; hold = e2 i; released = e3 i; holder = e4 i; line = e5 i; messages = e6 i; place = e7 i }
