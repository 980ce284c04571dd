-- The board as tables, its commands and its deliveries. In a delivery f is what is in flight besides the
-- message: its number is freed first, then it acts.
use Rattle.std.proofs.Math.Logic.{ite}
use Rattle.std.specs.Prelude.{Bool, true, false, ◌&&◌, List, [], ◌∷◌, ◌++◌, map, ℕ, zero, suc, length, get_or}
use Rattle.std.proofs.Math.Option.{Option, none, some}
use Rattle.std.proofs.Math.Decide.{ℕ_discrete, dec_lt}
use Rattle.model.specs.Lists.{is_empty, has?, fresh}
use Rattle.model.specs.Tables.{put, put_pair, Numbered, send}
use Rattle.model.specs.Book.{standing, Line, Holders, WaitsAt, mode_in, waited_for, clear, strike}

-- ---- the entries of a list
-- "each later entry names the earlier entry that led to it", by its place
pub record Entry : Type 0 where
  pub who : ℕ
  pub lead : ℕ

abbrev pub led_by : ℕ → ℕ → Entry
led_by j q = record { who = q; lead = j }

abbrev pub no_entry : Entry
no_entry = record { who = 0; lead = 0 }

abbrev pub entry_at : List Entry → ℕ → Entry
entry_at es j = get_or es j no_entry

abbrev pub names : List Entry → List ℕ
names es = map (λ (e : Entry). e.who) es

-- "The ring is written by going back along the leads, each of which points to an earlier entry."
unfoldable pub along_leads : ℕ → List Entry → ℕ → List ℕ → List ℕ
along_leads zero es j acc = (entry_at es j).who ∷ acc
along_leads (suc f) es j acc = ite (ℕ_discrete j 0) ((entry_at es j).who ∷ acc) (along_leads f es (entry_at es j).lead ((entry_at es j).who ∷ acc))

-- ---- the board
-- "the object it waits for and the mode (or none)"
pub record Wanted : Type 0 where
  pub object : ℕ
  pub mode : Bool

abbrev pub wants : ℕ → Bool → Option Wanted
wants o m = some (record { object = o; mode = m })

-- "A message is a request, a grant, a release or a list." Of a list: its entries, the place of the next entry,
-- and the object that it is on its way to (none: to the home of the next entry).
pub data Message : Type 0 where
  request : ℕ → ℕ → Bool → Message
  grant : ℕ → ℕ → Bool → Message
  release : ℕ → ℕ → Message
  list : List Entry → ℕ → Option ℕ → Message

-- The homes of processes note wait, hold and released; those of objects holder and line. The recorded rings
-- stand in place: one for each starter, empty where none is recorded.
pub record Board : Type 0 where
  pub wait : ℕ → Option Wanted
  pub hold : ℕ → ℕ → Option Bool
  pub released : ℕ → Bool
  pub holder : ℕ → Holders
  pub line : ℕ → Line
  pub messages : Numbered Message
  pub place : ℕ → List ℕ

-- p waits for q, at some object
unfoldable pub Waits : Board → ℕ → ℕ → Type 0
Waits b p q = (o : ℕ) × WaitsAt (b.holder o) (b.line o) p q

-- a ring is recorded
abbrev pub Filled : List ℕ → Type 0
Filled [] = ⊥
Filled (x ∷ l) = Unit {0}

-- ---- a board with one part changed
abbrev pub with_wait : Board → (ℕ → Option Wanted) → Board
with_wait b x = record { wait = x; hold = b.hold; released = b.released; holder = b.holder; line = b.line; messages = b.messages; place = b.place }

abbrev pub with_hold : Board → (ℕ → ℕ → Option Bool) → Board
with_hold b x = record { wait = b.wait; hold = x; released = b.released; holder = b.holder; line = b.line; messages = b.messages; place = b.place }

abbrev pub with_released : Board → (ℕ → Bool) → Board
with_released b x = record { wait = b.wait; hold = b.hold; released = x; holder = b.holder; line = b.line; messages = b.messages; place = b.place }

abbrev pub with_holder : Board → (ℕ → Holders) → Board
with_holder b x = record { wait = b.wait; hold = b.hold; released = b.released; holder = x; line = b.line; messages = b.messages; place = b.place }

abbrev pub with_line : Board → (ℕ → Line) → Board
with_line b x = record { wait = b.wait; hold = b.hold; released = b.released; holder = b.holder; line = x; messages = b.messages; place = b.place }

abbrev pub with_messages : Board → Numbered Message → Board
with_messages b x = record { wait = b.wait; hold = b.hold; released = b.released; holder = b.holder; line = b.line; messages = x; place = b.place }

abbrev pub with_place : Board → (ℕ → List ℕ) → Board
with_place b x = record { wait = b.wait; hold = b.hold; released = b.released; holder = b.holder; line = b.line; messages = b.messages; place = x }

-- ---- commands
-- "the home notes the wait and sends a request"
unfoldable pub request_made : Board → ℕ → ℕ → Bool → Board
request_made b p o m = with_messages (with_wait b (put b.wait p (wants o m))) (send (request p o m) b.messages)

-- "the home drops the hold, notes that the process has released, and sends a release"
unfoldable pub release_made : Board → ℕ → ℕ → Board
release_made b p o = with_messages (with_released (with_hold b (put_pair b.hold p o none)) (put b.released p true)) (send (release p o) b.messages)

-- ---- a grant arrives
-- "The home ends any wait of the process and notes the hold in the granted mode."
unfoldable pub grant_arrives : Board → Numbered Message → ℕ → ℕ → Bool → Board
grant_arrives b f p o m = with_messages (with_hold (with_wait b (put b.wait p none)) (put_pair b.hold p o (some m))) f

-- ---- a request arrives
-- "the process becomes a holder and a grant is sent"
unfoldable pub granted : Board → Numbered Message → ℕ → ℕ → Bool → Board
granted b f p o m = with_messages (with_holder b (put_pair b.holder o p (some m))) (send (grant p o m) f)

-- "the entries are the starter and those it waits for"; "none if it waits for nobody"
abbrev pub start_list : ℕ → List ℕ → Numbered Message → Numbered Message
start_list p [] f = f
start_list p (q ∷ qs) f = send (list (led_by 0 p ∷ map (led_by 0) (q ∷ qs)) 1 none) f

-- "it joins the end of the line, and a list is started"
unfoldable pub joined : Board → Numbered Message → ℕ → ℕ → Bool → Board
joined b f p o m = let l = b.line o ++ standing p m ∷ [] in with_messages (with_line b (put b.line o l)) (start_list p (fresh (p ∷ []) (waited_for (b.holder o) l p)) f)

abbrev pub answered : Bool → Board → Numbered Message → ℕ → ℕ → Bool → Board
answered true b f p o m = granted b f p o m
answered false b f p o m = joined b f p o m

-- "If the line is empty and no holder conflicts" it is granted, otherwise it joins.
unfoldable pub request_arrives : Board → Numbered Message → ℕ → ℕ → Bool → Board
request_arrives b f p o m = answered (is_empty (b.line o) && clear (b.holder o) p m) b f p o m

-- ---- a release arrives
unfoldable pub send_grants : ℕ → Line → Numbered Message → Numbered Message
send_grants o [] f = f
send_grants o (e ∷ g) f = send_grants o g (send (grant e.who o e.mode) f)

-- "The holder, if it is there, is struck. Then, while the front of the line conflicts with no holder, it becomes
-- a holder, leaves the line, and a grant is sent."
unfoldable pub release_arrives : Board → Numbered Message → ℕ → ℕ → Board
release_arrives b f p o = let s = strike (b.holder o) (b.line o) p in with_messages (with_line (with_holder b (put b.holder o s.holders)) (put b.line o s.line)) (send_grants o s.grants f)

-- ---- a list arrives
-- "After a done entry the list goes to the home of the next entry, or ends if there is none."
unfoldable pub entry_done : Board → Numbered Message → List Entry → ℕ → Board
entry_done b f es n = with_messages b (ite (dec_lt (suc n) (length es)) (send (list es (suc n) none) f) f)

-- "At a home: if the process waits for an object, the list goes to that object's home with the object's number;
-- otherwise the entry is done."
abbrev pub home_says : Option Wanted → Board → Numbered Message → List Entry → ℕ → Board
home_says none b f es n = entry_done b f es n
home_says (some a) b f es n = with_messages b (send (list es n (some a.object)) f)

unfoldable pub at_home : Board → Numbered Message → List Entry → ℕ → Board
at_home b f es n = home_says (b.wait (entry_at es n).who) b f es n

-- "one place for each starter; a filled place is kept"
abbrev pub keep_filled : List ℕ → List ℕ → List ℕ
keep_filled [] r = r
keep_filled (x ∷ xs) r = x ∷ xs

abbrev pub with_ring : (ℕ → List ℕ) → ℕ → List ℕ → ℕ → List ℕ
with_ring place s r = put place s (keep_filled (place s) r)

unfoldable pub record_ring : Board → Numbered Message → ℕ → List ℕ → Board
record_ring b f s r = with_place (with_messages b f) (with_ring b.place s r)

-- "those it waits for that are not yet listed", led by the entry at j
unfoldable pub added : List Entry → ℕ → List ℕ → List Entry
added es j qs = map (led_by j) (fresh (names es) qs)

-- "If it is, and the starter is among those it waits for, a ring is recorded: starter first, then along the leads
-- to this process, and the list ends. If not, those it waits for that are not yet listed are added".
abbrev pub closes : {P : Type 0} → Dec P → List ℕ → Board → Numbered Message → List Entry → ℕ → Board
closes (yes h) qs b f es n = record_ring b f (entry_at es 0).who (along_leads n es n [])
closes (no h) qs b f es n = entry_done b f (es ++ added es n qs) n

-- "At an object: if the process is not in this line, the entry is done."
abbrev pub line_says : Option Bool → List ℕ → Board → Numbered Message → List Entry → ℕ → Board
line_says none qs b f es n = entry_done b f es n
line_says (some m) qs b f es n = closes (has? (entry_at es 0).who qs) qs b f es n

unfoldable pub at_object : Board → Numbered Message → List Entry → ℕ → ℕ → Board
at_object b f es n o = line_says (mode_in (entry_at es n).who (b.line o)) (waited_for (b.holder o) (b.line o) (entry_at es n).who) b f es n

-- ---- a delivery
unfoldable pub act : Board → Numbered Message → Message → Board
act b f (request p o m) = request_arrives b f p o m
act b f (grant p o m) = grant_arrives b f p o m
act b f (release p o) = release_arrives b f p o
act b f (list es n none) = at_home b f es n
act b f (list es n (some o)) = at_object b f es n o

-- what is in flight without the message of the number i
abbrev pub without : Board → ℕ → Numbered Message
without b i = put b.messages i none

-- "the number is freed first, then the message acts"
unfoldable pub deliver : Board → ℕ → Message → Board
deliver b i m = act b (without b i) m
