-- An opening that is not refused is in shape: its tests give the counts and the homes, and every book holds zero. The board of a refused
-- one is all zeros, which is out of shape.
use mathlib.Core.Path.{◌≡◌, refl, ap, sym, ◌∙◌, subst}
use mathlib.Core.Logic.{◌≢◌}
use mathlib.Core.Bool.{Bool, true, false, true≢false}
use mathlib.Core.List.{List}
use Prim.Native.Nat.{ℕ, ◌≤◌, ◌<◌}
use native.Mathlib.Omega.{arith}
use native.Mathlib.Decide.{dec_lt}
use lib.Dec.{ltb, leb}
use lib.ListN.{length, get_or, replicate, get_or-eq_default}
use borrow.Author.Tests.{ltb-true, leb-true, lt-ltb, le-ltb, not-false}
use Rattle.rules.specs.declared.Flight.{Flight}
use Rattle.rules.specs.declared.Entries.{Entries}
use Rattle.rules.specs.declared.Process.{Process}
use Rattle.rules.specs.declared.Object.{Object}
use Rattle.rules.specs.declared.Ring.{Ring}
use Rattle.rules.specs.declared.Board.{Board}
use Rattle.rules.specs.declared.Answer.{Answer}
use Rattle.rules.specs.declared.Answer.TheVariants.{Done, CountOutside, HomeOutside}
use Rattle.rules.specs.Tables.{pick, sum}
use Rattle.rules.specs.Answers.{done, first_of}
use Rattle.rules.specs.Lists.{no_entries, no_ring}
use Rattle.rules.specs.Board.{no_process, no_object, no_flight, is_message, load}
use Rattle.rules.specs.Commands.{outside, homes_of, home_outside, opening_tests, empty_board, zero_board, opening}
use Rattle.rules.specs.Shape.{up_to, standing, counts_fit, in_shape}
use Rattle.rules.specs.Sheet.{command_count, commands_part, opening_of, sheet_answer, Run, refused_run, whole_run, opening_run_tests, run_opening, run_sheet}
use Rattle.rules.proofs.Bits.{taken_zero}
use Rattle.laws.specs.Shape.{Sized, Within, Row, ProcessShaped, ObjectShaped, RingShaped, Shaped, OpeningShaped, RefusedZeros}
use Rattle.rules.proofs.Tables.{rows_length, rows_at, all_at}
use Rattle.laws.proofs.Tables.{by_pick, replicate_at}
use Rattle.laws.proofs.Tests.{parts, done_is}
use Rattle.laws.proofs.Ranges.{passed}
use Rattle.laws.proofs.Shape.{no_process_shaped, no_object_shaped, no_ring_shaped, unused, tested}

-- ---- counts and homes
inside : (n top : ℕ) → outside n top ≡ false → Within n top
inside n top e = let a = parts (ltb 0 n) (leb n top) (not-false _ e) in (ltb-true 0 n a.0, leb-true n top a.1)

homes_length : (c : ℕ) (hs : List ℕ) → length (homes_of c hs) ≡ 16
unfolding homes_of
homes_length c hs = rows_length 16 _

homes_at : (c : ℕ) (hs : List ℕ) (k : ℕ) → k < 16 → get_or (homes_of c hs) k 0 ≡ pick (ltb k c) (get_or hs k 0) 0
unfolding homes_of
homes_at c hs k h = rows_at 16 _ k 0 h

homes_row : (n c : ℕ) (hs : List ℕ) → c ≤ 16 → home_outside n c hs ≡ false → Row (homes_of c hs) c n
homes_row n c hs h e = record {
  used = λ k g. rw (homes_at c hs k (omega arith), lt-ltb k c g) (ltb-true _ n (all_at c _ (not-false _ e) k g));
  rest = λ k g. elim (dec_lt k 16) [
    | yes z ↦ homes_at c hs k z ∙ ap (λ (t : Bool). pick t (get_or hs k 0) 0) (le-ltb k c g)
    | no z ↦ get_or-eq_default (homes_of c hs) 0 (omega (arith, homes_length c hs))
  ];
}

-- ---- a board of empty books
module _ (n p o : ℕ) (hp ho : List ℕ) where
  abbrev empty : Board
  empty = empty_board n p o hp ho

  pub empty_sized : length hp ≡ 16 → length ho ≡ 16 → Sized empty
  empty_sized e f = record {
    home_of_process = e;
    home_of_object = f;
    processes = refl;
    objects = refl;
    flights = refl;
    lists = refl;
    rings = refl;
    line = λ k. ap (λ (x : Object). length x.line) (replicate_at {A = Object} 16 k no_object);
    who = λ k. ap (λ (x : Entries). length x.who) (replicate_at {A = Entries} 64 k no_entries);
    leads = λ k. ap (λ (x : Entries). length x.leads) (replicate_at {A = Entries} 64 k no_entries);
    ring = λ k. ap (λ (x : Ring). length x.processes) (replicate_at {A = Ring} 16 k no_ring);
  }

  pub empty_load : load empty ≡ 0
  unfolding load sum
  empty_load = refl

  empty_standing : (q : ℕ) → standing empty q ≡ 0
  unfolding standing sum
  empty_standing q = refl

  empty_kind : (k : ℕ) → get_or (replicate 64 no_flight) k no_flight ≡ no_flight
  empty_kind k = replicate_at {A = Flight} 64 k no_flight

  pub empty_shaped : Within n 8 → Within p 16 → Within o 16 → Row hp p n → Row ho o n → Shaped empty
  empty_shaped hn hpc hoc rp ro = record {
    records = record {
      table = record { nodes = hn; count_of_processes = hpc; count_of_objects = hoc; home_of_process = rp; home_of_object = ro };
      processes = λ k. subst (λ (x : Process). ProcessShaped x (up_to k p o)) (sym (replicate_at 16 k no_process)) (no_process_shaped _);
      objects = λ k. subst (λ (x : Object). ObjectShaped x (up_to k o p)) (sym (replicate_at 16 k no_object)) (no_object_shaped _);
      messages = λ k. unused _ _ p o (ap (λ (x : Flight). x.kind) (empty_kind k)) (replicate_at {A = Entries} 64 k no_entries);
      flying = λ k h. taken_zero k ∙ sym (ap (λ (x : Flight). is_message x.kind) (empty_kind k));
      rings = λ k. subst (λ (x : Ring). RingShaped x k p) (sym (replicate_at 16 k no_ring)) (no_ring_shaped k p);
    };
    standing = λ q h. omega (arith, empty_standing q);
    load = omega (arith, empty_load);
  }

-- ---- the opening
module _ (n p o : ℕ) (hp ho : List ℕ) where
  pub opening_sized : Sized (opening n p o hp ho).board
  unfolding opening
  opening_sized = by_pick Sized (done (first_of (opening_tests n p o hp ho))) (λ e. empty_sized n p o _ _ (homes_length p hp) (homes_length o ho)) (λ e. empty_sized 0 0 0 _ _ refl refl)

  accepted : done (first_of (opening_tests n p o hp ho)) ≡ true → Shaped (empty_board n p o (homes_of p hp) (homes_of o ho))
  accepted e =
      let a1 = passed _ CountOutside _ refl e in
      let a2 = passed _ CountOutside _ refl a1.1 in
      let a3 = passed _ CountOutside _ refl a2.1 in
      let a4 = passed _ HomeOutside _ refl a3.1 in
      let a5 = passed _ HomeOutside _ refl a4.1 in
      let ps = inside p 16 a2.0 in
      let os = inside o 16 a3.0 in
      empty_shaped n p o _ _ (inside n 8 a1.0) ps os (homes_row n p hp ps.1 a4.0) (homes_row n o ho os.1 a5.0)

  pub opening_shaped : (opening n p o hp ho).answer ≡ Done → Shaped (opening n p o hp ho).board
  unfolding opening
  opening_shaped e = go (done (first_of (opening_tests n p o hp ho))) refl (ap done e)
    where
      go : (t : Bool) → done (first_of (opening_tests n p o hp ho)) ≡ t → t ≡ true → Shaped (pick t (empty_board n p o (homes_of p hp) (homes_of o ho)) zero_board)
      go true f z = accepted f
      go false f z = absurd (true≢false (sym z))

pub opening_in_shape : OpeningShaped
opening_in_shape = record { in_shape = λ n p o hp ho e. tested _ (opening_shaped n p o hp ho e); sized = opening_sized }

-- ---- a refused opening or sheet hands back zeros
opening_zeros : (n p o : ℕ) (hp ho : List ℕ) → (opening n p o hp ho).answer ≢ Done → (opening n p o hp ho).board ≡ zero_board
unfolding opening
opening_zeros n p o hp ho f = by_pick (λ (b : Board). b ≡ zero_board) (done (first_of (opening_tests n p o hp ho))) (λ e. absurd (f (done_is _ e))) (λ e. refl)

-- a run that is refused, and one that is done
run_zeros : (t : Bool) (r : Run) (a : Answer) (room : List ℕ) → r.ran.answer ≡ Done → (pick t r (refused_run a zero_board room)).ran.answer ≢ Done → (pick t r (refused_run a zero_board room)).ran.board ≡ zero_board
run_zeros true r a room e f = absurd (f e)
run_zeros false r a room e f = refl

sheet_zeros : (s room : List ℕ) → (run_sheet s room).ran.answer ≢ Done → (run_sheet s room).ran.board ≡ zero_board
unfolding run_sheet
sheet_zeros s room = run_zeros (done (sheet_answer s room)) (whole_run (opening_of s) (commands_part s) room (command_count (commands_part s))) (sheet_answer s room) room refl

opening_run_zeros : (n p o : ℕ) (hp ho s room : List ℕ) → (run_opening n p o hp ho s room).ran.answer ≢ Done → (run_opening n p o hp ho s room).ran.board ≡ zero_board
unfolding run_opening
opening_run_zeros n p o hp ho s room =
    let b = opening n p o hp ho in
    let a = first_of (opening_run_tests b.answer s room) in
    run_zeros (done a) (whole_run b.board s room (command_count s)) a room refl

-- computed: a board of no nodes
zeros_out : in_shape zero_board ≡ false
unfolding in_shape counts_fit
zeros_out = refl

pub refused_zeros : RefusedZeros
refused_zeros = record { zeros = zeros_out; opening = opening_zeros; sheet = sheet_zeros; opening_run = opening_run_zeros }
