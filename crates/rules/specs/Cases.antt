-- The paper's own examples as one table: "Marked (P) are proved, as a single table under one statement."
-- A row is what the rules make of a board with commands, or of a sheet, beside what the paper says and what follows from it: the
-- answers, the whole board at the end, whom each process waits for there, and the tally. What is printed for the sheets among them is a
-- table of the crate `printed`.
use Rattle.std.specs.Prelude.{ℕ, ◌≡◌, Bool, true, false, List, [], ◌∷◌, ◌++◌, ltb, get_or, length, replicate}
use Rattle.rules.specs.declared.Mode.TheVariants.{Shared, Exclusive}
use Rattle.rules.specs.declared.Wait.{Wait}
use Rattle.rules.specs.declared.Wait.TheVariants.{NotWaiting, Waiting}
use Rattle.rules.specs.declared.Kind.TheVariants as Kind
use Rattle.rules.specs.declared.Message.{Message}
use Rattle.rules.specs.declared.Process.{Process}
use Rattle.rules.specs.declared.Object.{Object}
use Rattle.rules.specs.declared.Board.{Board}
use Rattle.rules.specs.declared.Command.{Command}
use Rattle.rules.specs.declared.Command.TheVariants.{Request, Release, Deliver}
use Rattle.rules.specs.Tables.{pick, rows}
use Rattle.rules.specs.Answers.{number}
use Rattle.rules.specs.Book.{mode_at, place_in, waited_for}
use Rattle.rules.specs.Lists.{plain, nothing, ring_of}
use Rattle.rules.specs.Board.{no_process, no_object, object_at, tally}
use Rattle.rules.specs.Commands.{zero_board, opening}
use Rattle.rules.specs.Shape.{step, drain}
use Rattle.rules.specs.Sheet.{run_sheet}

-- ---- a board as a row says it. A set is written in binary, digit k for number k; what is not named holds zero.
-- the book of a process: the objects that it holds shared and those that it holds exclusive, its wait, and whether it has released
abbrev home : ℕ → ℕ → Wait → Bool → Process
home s x w r = record { shared = s; exclusive = x; wait = w; released = r }

-- the book of an object: the shared holders and the exclusive ones, the line from the front, and the places in it that are exclusive
abbrev book : ℕ → ℕ → List ℕ → ℕ → Object
book s x l e = record { shared = s; exclusive = x; line = rows 16 (λ k. get_or l k 0); line_exclusive = e; line_count = length l }

-- nodes, homes of processes and of objects; the books of both; the ring at each process's place; the numbers in flight, and the messages
unfoldable pub board_of : ℕ → List ℕ → List ℕ → List Process → List Object → List (List ℕ) → ℕ → List Message → Board
board_of n hp ho ps os rs occ ms = record {
  nodes = n;
  process_count = length hp;
  object_count = length ho;
  process_home = rows 16 (λ p. get_or hp p 0);
  object_home = rows 16 (λ o. get_or ho o 0);
  processes = rows 16 (λ p. get_or ps p no_process);
  objects = rows 16 (λ o. get_or os o no_object);
  occupied = occ;
  flights = rows 64 (λ k. record { kind = (get_or ms k nothing).kind });
  lists = rows 64 (λ k. (get_or ms k nothing).list);
  rings = rows 16 (λ s. ring_of (get_or rs s []));
}

-- ---- what is compared
pub record Outcome : Type 0 where
  pub answers : List ℕ
  pub board : Board
  -- whom each process waits for
  pub waits : List (List ℕ)
  pub tally : ℕ

abbrev waits_at : Object → ℕ → List ℕ
waits_at o p = let k = place_in o p in pick (ltb k o.line_count) (waited_for o p (mode_at o k) k) []

unfoldable pub join_all : List (List ℕ) → List ℕ
join_all [] = []
join_all (l ∷ ls) = l ++ join_all ls

unfoldable pub shown : List ℕ → Board → Outcome
shown ns b = record {
  answers = ns;
  board = b;
  waits = rows b.process_count (λ p. join_all (rows b.object_count (λ o. waits_at (object_at b o) p)));
  tally = tally b;
}

-- ---- what the rules make of it
-- a command, or a drain of everything
pub data Deed : Type 0 where
  does : Command → Deed
  drains : Deed

abbrev answering : ℕ → Outcome → Outcome
answering n r = record { answers = n ∷ r.answers; board = r.board; waits = r.waits; tally = r.tally }

-- at most 64 messages, each of at most 30 deliveries
abbrev enough : ℕ
enough = 1920

-- a command writes its answer's number; a drain its own, and how many deliveries it made
unfoldable pub outcome : Board → List Deed → Outcome
outcome b [] = shown [] b
outcome b (does c ∷ ds) = let r = step b c in answering (number r.answer) (outcome r.board ds)
outcome b (drains ∷ ds) = let r = drain b enough in answering (number r.answer) (answering r.made (outcome r.board ds))

-- a sheet writes its own answer's number, then every byte of a room of n bytes, each 99 before
unfoldable pub sheet_outcome : List ℕ → ℕ → Outcome
sheet_outcome s n = let r = run_sheet s (replicate n 99) in shown (number r.ran.answer ∷ r.room) r.ran.board

-- ---- the table
pub record Row : Type 0 where
  pub made : Outcome
  pub said : Outcome

-- three processes on nodes 0, 1, 0 and two objects, a = 0 and b = 1, on nodes 0, 1: its opening, and the same board with other books
unfoldable pub small_board : Board
small_board = (opening 2 3 2 (0 ∷ 1 ∷ 0 ∷ []) (0 ∷ 1 ∷ [])).board

abbrev small : List Process → List Object → List (List ℕ) → ℕ → List Message → Board
small ps os rs occ ms = board_of 2 (0 ∷ 1 ∷ 0 ∷ []) (0 ∷ 1 ∷ []) ps os rs occ ms

-- a book that notes nothing, of a process and of an object
abbrev idle : Process
idle = home 0 0 NotWaiting false

abbrev free : Object
free = book 0 0 [] 0

abbrev refused_sheet : List ℕ → ℕ → Row
refused_sheet s n = record { made = sheet_outcome s 2; said = record { answers = n ∷ 99 ∷ 99 ∷ []; board = zero_board; waits = []; tally = 0 } }

-- 12 22 04 10 40 00 C0 00 C0 00 44 40 C0 00 C0 00 40 40 44 00 C0 00 C1 00 C0 00 C0 00 C1 00 C0 00 C0 00
abbrev pub in_full : List ℕ
in_full = 18 ∷ 34 ∷ 4 ∷ 16 ∷ 64 ∷ 0 ∷ 192 ∷ 0 ∷ 192 ∷ 0 ∷ 68 ∷ 64 ∷ 192 ∷ 0 ∷ 192 ∷ 0 ∷ 64 ∷ 64 ∷ 68 ∷ 0 ∷ 192 ∷ 0 ∷ 193 ∷ 0 ∷ 192 ∷ 0 ∷ 192 ∷ 0 ∷ 193 ∷ 0 ∷ 192 ∷ 0 ∷ 192 ∷ 0 ∷ []

-- p0 shared on a, p1 exclusive in line, p2 shared in line
abbrev queued : List Deed
queued = does (Request 0 0 0) ∷ drains ∷ does (Request 1 0 1) ∷ drains ∷ does (Request 2 0 0) ∷ drains ∷ []

unfoldable pub table : List Row
table =
    -- the run in full, in a room of 16 bytes: 15 answers, and the last byte stays
    record {
      made = sheet_outcome in_full 16;
      said = record {
        answers = 0 ∷ 0 ∷ 0 ∷ 0 ∷ 0 ∷ 0 ∷ 0 ∷ 0 ∷ 0 ∷ 0 ∷ 0 ∷ 0 ∷ 0 ∷ 0 ∷ 0 ∷ 11 ∷ 99 ∷ [];
        board = board_of 2 (0 ∷ 1 ∷ []) (0 ∷ 1 ∷ [])
            (home 0 0b01 (Waiting 1 Exclusive) false ∷ home 0 0b10 (Waiting 0 Exclusive) false ∷ [])
            (book 0 0b01 (1 ∷ []) 0b1 ∷ book 0 0b10 (0 ∷ []) 0b1 ∷ [])
            ((0 ∷ 1 ∷ []) ∷ (1 ∷ 0 ∷ []) ∷ []) 0 [];
        waits = (1 ∷ []) ∷ (0 ∷ []) ∷ [];
        tally = 2;
      };
    }
    -- p0 and p1 shared on a, both granted; p2 exclusive waits for both
    ∷ record {
      made = outcome small_board (does (Request 0 0 0) ∷ drains ∷ does (Request 1 0 0) ∷ drains ∷ does (Request 2 0 1) ∷ drains ∷ []);
      said = record {
        answers = 0 ∷ 0 ∷ 2 ∷ 0 ∷ 0 ∷ 2 ∷ 0 ∷ 0 ∷ 3 ∷ [];
        board = small
            (home 0b01 0 NotWaiting false ∷ home 0b01 0 NotWaiting false ∷ home 0 0 (Waiting 0 Exclusive) false ∷ [])
            (book 0b11 0 (2 ∷ []) 0b1 ∷ free ∷ []) [] 0 [];
        waits = [] ∷ [] ∷ (0 ∷ 1 ∷ []) ∷ [];
        tally = 0;
      };
    }
    -- p0 shared on a, p1 exclusive in line, p2 shared in line: p2 waits for p1 only
    ∷ record {
      made = outcome small_board queued;
      said = record {
        answers = 0 ∷ 0 ∷ 2 ∷ 0 ∷ 0 ∷ 2 ∷ 0 ∷ 0 ∷ 4 ∷ [];
        board = small
            (home 0b01 0 NotWaiting false ∷ home 0 0 (Waiting 0 Exclusive) false ∷ home 0 0 (Waiting 0 Shared) false ∷ [])
            (book 0b01 0 (1 ∷ 2 ∷ []) 0b01 ∷ free ∷ []) [] 0 [];
        waits = [] ∷ (0 ∷ []) ∷ (1 ∷ []) ∷ [];
        tally = 0;
      };
    }
    -- then p0 releases: p1 holds, p2 stays in line. Until the release is delivered the object's book is as before.
    ∷ record {
      made = outcome small_board (queued ++ does (Release 0 0) ∷ []);
      said = record {
        answers = 0 ∷ 0 ∷ 2 ∷ 0 ∷ 0 ∷ 2 ∷ 0 ∷ 0 ∷ 4 ∷ 0 ∷ [];
        board = small
            (home 0 0 NotWaiting true ∷ home 0 0 (Waiting 0 Exclusive) false ∷ home 0 0 (Waiting 0 Shared) false ∷ [])
            (book 0b01 0 (1 ∷ 2 ∷ []) 0b01 ∷ free ∷ []) [] 0b1 (plain (Kind.Release 0 0) ∷ []);
        waits = [] ∷ (0 ∷ []) ∷ (1 ∷ []) ∷ [];
        tally = 0;
      };
    }
    -- then it is delivered
    ∷ record {
      made = outcome small_board (queued ++ does (Release 0 0) ∷ drains ∷ []);
      said = record {
        answers = 0 ∷ 0 ∷ 2 ∷ 0 ∷ 0 ∷ 2 ∷ 0 ∷ 0 ∷ 4 ∷ 0 ∷ 0 ∷ 2 ∷ [];
        board = small
            (home 0 0 NotWaiting true ∷ home 0 0b01 NotWaiting false ∷ home 0 0 (Waiting 0 Shared) false ∷ [])
            (book 0 0b10 (2 ∷ []) 0b0 ∷ free ∷ []) [] 0 [];
        waits = [] ∷ [] ∷ (1 ∷ []) ∷ [];
        tally = 0;
      };
    }
    -- p0 shared on a; p1 exclusive in line on a; p2 holds b and is in line, shared, on a; p0 asks exclusive for b: ring p0, p2, p1
    ∷ record {
      made = outcome small_board (does (Request 0 0 0) ∷ drains ∷ does (Request 1 0 1) ∷ drains ∷ does (Request 2 1 1) ∷ drains ∷ does (Request 2 0 0) ∷ drains ∷ does (Request 0 1 1) ∷ drains ∷ []);
      said = record {
        answers = 0 ∷ 0 ∷ 2 ∷ 0 ∷ 0 ∷ 2 ∷ 0 ∷ 0 ∷ 2 ∷ 0 ∷ 0 ∷ 4 ∷ 0 ∷ 0 ∷ 5 ∷ [];
        board = small
            (home 0b01 0 (Waiting 1 Exclusive) false ∷ home 0 0 (Waiting 0 Exclusive) false ∷ home 0 0b10 (Waiting 0 Shared) false ∷ [])
            (book 0b01 0 (1 ∷ 2 ∷ []) 0b01 ∷ book 0 0b100 (0 ∷ []) 0b1 ∷ [])
            ((0 ∷ 2 ∷ 1 ∷ []) ∷ []) 0 [];
        waits = (2 ∷ []) ∷ (0 ∷ []) ∷ (1 ∷ []) ∷ [];
        tally = 1;
      };
    }
    -- shared request of a held object: 8; release of one not held: 9
    ∷ record {
      made = outcome small_board (does (Request 0 0 0) ∷ drains ∷ does (Request 0 0 0) ∷ does (Release 0 1) ∷ []);
      said = record {
        answers = 0 ∷ 0 ∷ 2 ∷ 8 ∷ 9 ∷ [];
        board = small (home 0b01 0 NotWaiting false ∷ idle ∷ idle ∷ []) (book 0b01 0 [] 0 ∷ free ∷ []) [] 0 [];
        waits = [] ∷ [] ∷ [] ∷ [];
        tally = 0;
      };
    }
    -- request after a release: 7
    ∷ record {
      made = outcome small_board (does (Request 0 0 0) ∷ drains ∷ does (Release 0 0) ∷ does (Request 0 1 0) ∷ drains ∷ does (Request 0 1 0) ∷ []);
      said = record {
        answers = 0 ∷ 0 ∷ 2 ∷ 0 ∷ 7 ∷ 0 ∷ 1 ∷ 7 ∷ [];
        board = small (home 0 0 NotWaiting true ∷ idle ∷ idle ∷ []) (free ∷ free ∷ []) [] 0 [];
        waits = [] ∷ [] ∷ [] ∷ [];
        tally = 0;
      };
    }
    -- deliver 63 when empty: 11; deliver 64: 11
    ∷ record {
      made = outcome small_board (does (Deliver 63) ∷ does (Deliver 64) ∷ []);
      said = record {
        answers = 11 ∷ 11 ∷ [];
        board = small (idle ∷ idle ∷ idle ∷ []) (free ∷ free ∷ []) [] 0 [];
        waits = [] ∷ [] ∷ [] ∷ [];
        tally = 0;
      };
    }
    -- empty sheet 12; 12 22 04: 12; 22 22: 13; 12 23 04 10: 14; 12 22 E4 10: 2
    ∷ refused_sheet [] 12
    ∷ refused_sheet (18 ∷ 34 ∷ 4 ∷ []) 12
    ∷ refused_sheet (34 ∷ 34 ∷ []) 13
    ∷ refused_sheet (18 ∷ 35 ∷ 4 ∷ 16 ∷ []) 14
    ∷ refused_sheet (18 ∷ 34 ∷ 228 ∷ 16 ∷ []) 2
    ∷ []

-- every row comes out as the paper says
abbrev AllHold : List Row → Type 0
AllHold [] = Unit {0}
AllHold (r ∷ rs) = (r.made ≡ r.said) × AllHold rs

abbrev pub TableHolds : Type 0
TableHolds = AllHold table
