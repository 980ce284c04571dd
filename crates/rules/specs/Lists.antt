-- Messages and lists: how a list is started, grows and goes on, and the ring that is written along its leads.
use Rattle.std.specs.Prelude.{ℕ, zero, suc, ◌+◌, ◌-◌, Bool, true, false, List, [], ◌∷◌, ◌++◌, eqb, ltb, set, get_or, replicate, length}
use Rattle.rules.specs.declared.Mode.{Mode}
use Rattle.rules.specs.declared.Wait.{Wait}
use Rattle.rules.specs.declared.Wait.TheVariants.{NotWaiting, Waiting}
use Rattle.rules.specs.declared.Kind.{Kind}
use Rattle.rules.specs.declared.Kind.TheVariants.{Free, Grant, ListToHome, ListToObject}
use Rattle.rules.specs.declared.Entries.{Entries}
use Rattle.rules.specs.declared.Message.{Message}
use Rattle.rules.specs.declared.Object.{Object}
use Rattle.rules.specs.declared.Ring.{Ring}
use Rattle.rules.specs.declared.Arrived.{Arrived}
use Rattle.rules.specs.declared.Looked.{Looked}
use Rattle.rules.specs.Tables.{pick, rows, among}
use Rattle.rules.specs.Book.{mode_at, held, joined, place_in, waited_for, welcome}

-- ---- messages
-- "Unused places hold zero": no list
abbrev pub no_entries : Entries
no_entries = record { who = replicate 16 0; leads = replicate 16 0; count = 0; next = 0 }

-- a message that is no list
abbrev pub plain : Kind → Message
plain k = record { kind = k; list = no_entries }

-- nothing to send, and an unused number
abbrev pub nothing : Message
nothing = plain Free

-- ---- entries
abbrev pub entry_at : Entries → ℕ → ℕ
entry_at l k = get_or l.who k 0

abbrev pub lead_at : Entries → ℕ → ℕ
lead_at l k = get_or l.leads k 0

abbrev pub starter_of : Entries → ℕ
starter_of l = entry_at l 0

-- the process that is asked next
abbrev pub asked_of : Entries → ℕ
asked_of l = entry_at l l.next

unfoldable pub listed : Entries → ℕ → Bool
listed l q = among q (rows l.count (entry_at l))

-- "each later entry names the earlier entry that led to it"
abbrev pub longer : Entries → ℕ → ℕ → Entries
longer l q lead = record { who = set l.who l.count q; leads = set l.leads l.count lead; count = l.count + 1; next = l.next }

-- "Its entries are different processes": one that is listed is not added. A list of 16 does not grow.
unfoldable pub add_one : Entries → ℕ → ℕ → Entries
add_one l lead q = pick (listed l q) l (pick (ltb l.count 16) (longer l q lead) l)

-- "those it waits for that are not yet listed are added in the order above"
unfoldable pub add_all : Entries → ℕ → List ℕ → Entries
add_all l lead [] = l
add_all l lead (q ∷ qs) = add_all (add_one l lead q) lead qs

-- ---- where a list goes
abbrev pub with_next : Entries → ℕ → Entries
with_next l n = record { who = l.who; leads = l.leads; count = l.count; next = n }

abbrev pub to_home : Entries → Message
to_home l = record { kind = ListToHome; list = l }

abbrev pub to_an_object : Entries → ℕ → Message
to_an_object l o = record { kind = ListToObject o; list = l }

-- "After a done entry the list goes to the home of the next entry, or ends if there is none."
unfoldable pub entry_done : Entries → Message
entry_done l = pick (ltb (l.next + 1) l.count) (to_home (with_next l (l.next + 1))) nothing

-- "the first is the starter"; "The list goes to the home of the next entry not yet asked (the second, at first)."
abbrev pub starter : ℕ → Entries
starter p = record { who = set (replicate 16 0) 0 p; leads = replicate 16 0; count = 1; next = 1 }

-- "On starting, the entries are the starter and those it waits for"; "none if it waits for nobody"
unfoldable pub started : ℕ → List ℕ → Message
started p qs = let l = add_all (starter p) 0 qs in pick (ltb 1 l.count) (to_home l) nothing

-- ---- at a home: "if the process waits for an object, the list goes to that object's home with the object's number; otherwise the entry is done"
abbrev pub list_at_home : Entries → Wait → Message
list_at_home l NotWaiting = entry_done l
list_at_home l (Waiting o m) = to_an_object l o

-- ---- at an object
-- "starter first, then along the leads to this process": to the entry at a place. Each lead points to an earlier entry, so the place falls.
unfoldable pub along_leads : ℕ → Entries → ℕ → List ℕ
along_leads zero l at = entry_at l at ∷ []
along_leads (suc d) l at = elim (ltb (lead_at l at) at) [ true ↦ along_leads d l (lead_at l at) ++ entry_at l at ∷ [] | false ↦ entry_at l at ∷ [] ]

abbrev pub ring_of : List ℕ → Ring
ring_of ps = record { processes = ps ++ replicate (16 - length ps) 0; count = length ps }

abbrev pub no_ring : Ring
no_ring = ring_of []

-- "If it is, and the starter is among those it waits for, a ring is recorded .. and the list ends. If not, those it waits for that are
-- not yet listed are added in the order above, and the entry is done."
abbrev pub looking : Bool → Entries → List ℕ → Looked
looking true l qs = record { sent = nothing; ring = ring_of (along_leads l.next l l.next) }
looking false l qs = record { sent = entry_done (add_all l l.next qs); ring = no_ring }

-- "if the process is not in this line, the entry is done"
unfoldable pub list_at_object : Entries → Object → Looked
list_at_object l o =
    let k = place_in o (asked_of l) in
    let qs = waited_for o (asked_of l) (mode_at o k) k in
    pick (ltb k o.line_count) (looking (among (starter_of l) qs) l qs) (record { sent = entry_done l; ring = no_ring })

-- "one place for each starter; a filled place is kept"
unfoldable pub keeping : Ring → Ring → Ring
keeping old new = pick (eqb old.count 0) new old

-- ---- a request at its object: "the process becomes a holder and a grant is sent"; "Otherwise it joins the end of the line, and a list is started"
unfoldable pub request_arrives : Object → ℕ → ℕ → Mode → Arrived
request_arrives ob p o m = pick (welcome ob p m)
    (record { object = held ob p m; sent = plain (Grant p o m) })
    (record { object = joined ob p m; sent = started p (waited_for ob p m ob.line_count) })
