-- What the pass over a sheet finds, put together from what was read, and the bounds under which each part of it is read. Assumes nothing.
use Rattle.std.proofs.Common.{◌≡◌, ap, ap₂, ◌∙◌, Bool, List, ℕ, ◌+◌, ◌-◌, ◌*◌, ◌/◌, ◌%◌, ◌≤◌, arith, lit≤, length, drop, length-drop}
use Rattle.rules.specs.Sheet.{field, homes_from, any_spare}
use Rattle.rules.proofs.Sheet.{field_below}
use Rattle.reader.specs.declared.Found.{Found}
use Rattle.reader.specs.Place.{left_at, least, within, commands_within}
use Rattle.reader.specs.Found.{found_in}
use Rattle.reader.proofs.Fields.{field_inside}
use Rattle.reader.proofs.Places.{within_all}
use Rattle.reader.proofs.Spared.{as_many}

-- ---- the counts that a header of 16 bits stands for, and the bit after the homes
abbrev pub nodes_in : ℕ → ℕ
nodes_in h = h / 512 % 8 + 1

abbrev pub processes_in : ℕ → ℕ
processes_in h = h / 32 % 16 + 1

abbrev pub objects_in : ℕ → ℕ
objects_in h = h / 2 % 16 + 1

abbrev pub end_in : ℕ → ℕ
end_in h = 16 + 3 * processes_in h + 3 * objects_in h

-- ---- bounds
-- 3 or 4 bits, plus one, count to 16 at most
pub count_few : (x : ℕ) → x % 16 + 1 ≤ 16
count_few x = omega arith

pub left_few : (a : ℕ) {j : ℕ} → j ≡ left_at a → j ≤ 16
left_few a e = omega arith

-- ---- the byte's end: as many bits as are left, and the byte after them
ends : {a e j : ℕ} → a ≡ e → j ≡ left_at a → (j ≡ 8 * ((e + 7) / 8) - e) × ((a + j) / 8 ≡ (e + 7) / 8)
ends z f = (omega arith, omega arith)

abbrev pub found : ℕ → ℕ → ℕ → ℕ → ℕ → List ℕ → List ℕ → ℕ → ℕ → Bool → Found
found f n p o x hp ho y t z = record {
  form = f;
  nodes = n;
  processes = p;
  objects = o;
  spare = x;
  process_home = hp;
  object_home = ho;
  homes_spare = y;
  start = t;
  commands_spare = z;
}

-- what is read: a header, two rows of homes, j bits y to the byte's end, and whether a command has a spare bit set
abbrev pub sheet_read : ℕ → List ℕ → List ℕ → ℕ → ℕ → Bool → Found
sheet_read h hp ho y j z = found (h / 512 / 8) (nodes_in h) (processes_in h) (objects_in h) (h % 2) hp ho y ((end_in h + j) / 8) z

-- the bit after the homes of p + 1 processes and o + 1 objects, and the byte at which the commands start
abbrev end : ℕ → ℕ → ℕ
end p o = 16 + 3 * (p + 1 + (o + 1))

abbrev start : ℕ → ℕ → ℕ
start p o = (end p o + 7) / 8

-- the commands from byte a on: those that there are, 4,096 at most
module _ (s : List ℕ) (a : ℕ) where
  spare_of_part : Bool
  spare_of_part = any_spare (drop a s) (least 4096 (length (drop a s) / 2))

  part_read : {at : ℕ} {z : Bool} → at ≤ 4294967296 → at ≡ 8 * a → z ≡ any_spare (drop (at / 8) s) (commands_within (length s) at 4096) → z ≡ spare_of_part
  unfolding spare_of_part
  part_read {at} near e g =
      g ∙ ap₂ (λ (b m : ℕ). any_spare (drop b s) m) byte (as_many (length s) at 4096 (lit≤ tt) near (omega arith) ∙ rw (byte, length-drop a s))
    where
      byte : at / 8 ≡ a
      byte = omega arith

-- the parts, each where the header, the homes or the commands have it
module _ (s : List ℕ) {f n p o x y : ℕ} {hp ho : List ℕ} {z : Bool} where
  found_of : f ≡ field s 0 4 → n ≡ field s 4 3 → p ≡ field s 7 4 → o ≡ field s 11 4 → x ≡ field s 15 1
      → hp ≡ homes_from s 16 (p + 1) → ho ≡ homes_from s (16 + 3 * (p + 1)) (o + 1) → y ≡ field s (end p o) (8 * start p o - end p o)
      → z ≡ spare_of_part s (start p o) → found f (n + 1) (p + 1) (o + 1) x hp ho y (start p o) z ≡ found_in s
  unfolding spare_of_part
  found_of ef en ep eo ex ehp eho ey ez = rw (ehp, eho, ey, ez, ef, en, ep, eo, ex)

  -- what was read one after the other, j bits to the byte's end among it, is what is found
  found_parts : {j : ℕ} → f ≡ field s 0 4 → n ≡ field s 4 3 → p ≡ field s 7 4 → o ≡ field s 11 4 → x ≡ field s 15 1
      → hp ≡ homes_from s 16 (p + 1) → ho ≡ homes_from s (16 + 3 * (p + 1)) (o + 1)
      → j ≡ left_at (16 + 3 * (p + 1) + 3 * (o + 1)) → y ≡ field s (16 + 3 * (p + 1) + 3 * (o + 1)) j
      → z ≡ any_spare (drop ((16 + 3 * (p + 1) + 3 * (o + 1) + j) / 8) s) (commands_within (length s) (16 + 3 * (p + 1) + 3 * (o + 1) + j) 4096)
      → found f (n + 1) (p + 1) (o + 1) x hp ho y ((16 + 3 * (p + 1) + 3 * (o + 1) + j) / 8) z ≡ found_in s
  found_parts {j} ef en ep eo ex ehp eho ej ey ez =
      let at : 16 + 3 * (p + 1) + 3 * (o + 1) ≡ end p o = omega arith in
      let ended = ends at ej in
      let spare : y ≡ field s (end p o) (8 * start p o - end p o) = ey ∙ ap (λ (a : ℕ). field s a j) at ∙ ap (field s (end p o)) ended.0 in
      let near : 16 + 3 * (p + 1) + 3 * (o + 1) + j ≤ 4294967296 = omega (arith, ep, eo, ej, field_below s 7 4, field_below s 11 4) in
      ap (λ (t : ℕ). found f (n + 1) (p + 1) (o + 1) x hp ho y t z) ended.1
      ∙ found_of ef en ep eo ex ehp eho spare (part_read s (start p o) near (omega (arith, ended.0)) ez)

-- the parts of a header stand inside its 16 bits
module _ (s : List ℕ) {h : ℕ} (e : h ≡ field s 0 16) where
  form_in : h / 512 / 8 ≡ field s 0 4
  form_in = omega (arith, field_inside s 0 0 4 12, field_below s 0 16)

  nodes-in : h / 512 % 8 ≡ field s 4 3
  nodes-in = rw e (field_inside s 0 4 3 9)

  processes-in : h / 32 % 16 ≡ field s 7 4
  processes-in = rw e (field_inside s 0 7 4 5)

  objects-in : h / 2 % 16 ≡ field s 11 4
  objects-in = rw e (field_inside s 0 11 4 1)

  spare-in : h % 2 ≡ field s 15 1
  spare-in = omega (arith, field_inside s 0 15 1 0)

  pub found_is : {hp ho : List ℕ} {y j : ℕ} {z : Bool} → hp ≡ homes_from s 16 (processes_in h) → ho ≡ homes_from s (16 + 3 * processes_in h) (objects_in h)
      → j ≡ left_at (end_in h) → y ≡ field s (end_in h) j → z ≡ any_spare (drop ((end_in h + j) / 8) s) (commands_within (length s) (end_in h + j) 4096)
      → sheet_read h hp ho y j z ≡ found_in s
  found_is = found_parts s form_in nodes-in processes-in objects-in spare-in

-- the pass itself: each part is read where the one before it ended, on the sheet s at all times
pub pass_is : (s : List ℕ) {s0 s1 s2 s3 s4 hp ho : List ℕ} {a0 a1 a2 a3 a4 h j y : ℕ} {z : Bool} → s0 ≡ s → a0 ≡ 0
    → h ≡ field s0 a0 (within a0 16) → s1 ≡ s0 → a1 ≡ a0 + within a0 16
    → hp ≡ homes_from s1 a1 (within a1 (processes_in h)) → s2 ≡ s1 → a2 ≡ a1 + 3 * within a1 (processes_in h)
    → ho ≡ homes_from s2 a2 (within a2 (objects_in h)) → s3 ≡ s2 → a3 ≡ a2 + 3 * within a2 (objects_in h)
    → j ≡ left_at a3 → y ≡ field s3 a3 (within a3 j) → s4 ≡ s3 → a4 ≡ a3 + within a3 j
    → z ≡ any_spare (drop (a4 / 8) s4) (commands_within (length s4) a4 4096)
    → found (h / 512 / 8) (nodes_in h) (processes_in h) (objects_in h) (h % 2) hp ho y (a4 / 8) z ≡ found_in s
pass_is s {s0} {s1} {s2} {s3} {s4} {hp} {ho} {a0} {a1} {a2} {a3} {a4} {h} {j} {y} {z} es ea eh es1 ea1 ehp es2 ea2 eho es3 ea3 ej ey es4 ea4 ez =
    let w0 : within a0 16 ≡ 16 = within_all a0 16 (lit≤ tt) (omega arith) in
    let at1 : a1 ≡ 16 = omega (arith, ea1, w0) in
    let head : h ≡ field s 0 16 = cc in
    let w1 : within a1 (processes_in h) ≡ processes_in h = within_all a1 (processes_in h) (count_few (h / 32)) (omega arith) in
    let at2 : a2 ≡ 16 + 3 * processes_in h = ea2 ∙ rw (w1, at1) in
    let w2 : within a2 (objects_in h) ≡ objects_in h = within_all a2 (objects_in h) (count_few (h / 2)) (omega arith) in
    let at3 : a3 ≡ end_in h = ea3 ∙ rw (w2, at2) in
    let left : j ≡ left_at (end_in h) = ej ∙ rw at3 in
    let w3 : within a3 j ≡ j = within_all a3 j (left_few a3 ej) (omega arith) in
    let at4 : a4 ≡ end_in h + j = ea4 ∙ rw (w3, at3) in
    let first : hp ≡ homes_from s 16 (processes_in h) = cc in
    let second : ho ≡ homes_from s (16 + 3 * processes_in h) (objects_in h) = cc in
    let over : y ≡ field s (end_in h) j = cc in
    let same : s4 ≡ s = cc in
    let set : z ≡ any_spare (drop ((end_in h + j) / 8) s) (commands_within (length s) (end_in h + j) 4096) = ez ∙ rw (same, at4) in
    rw at4 (found_is s head first second left over set)
