-- The part of a sheet that holds the commands: from the head's end on where the sheet is good, and empty where it is refused.
-- Assumes nothing.
use Rattle.std.proofs.Common.{◌≡◌, sym, ap, ◌∙◌, Bool, false, List, [], ℕ, ◌-◌, ◌*◌, arith, length, take, drop, length-drop, take_all}
use lib.Seq.{drop-length}
use Rattle.rules.specs.declared.Answer.{Answer}
use Rattle.rules.specs.declared.Answer.TheVariants.{Done}
use Rattle.rules.specs.Tables.{pick}
use Rattle.rules.specs.Answers.{done}
use Rattle.rules.specs.Sheet.{after_homes, reader_answer, commands_part}
use Rattle.reader.specs.declared.Found.{Found}
use Rattle.reader.specs.Found.{found_in}
use Rattle.reader.specs.Place.{byte_up}

module _ (s : List ℕ) where
  -- of a good sheet, what follows the first bit of the byte at which they start
  pub part_of_good : {h : Found} → h ≡ found_in s → reader_answer s ≡ Done → {l : List ℕ} → l ≡ drop (byte_up (8 * h.start)) s → l ≡ commands_part s
  unfolding commands_part
  part_of_good {h} read good f =
      let byte : byte_up (8 * h.start) ≡ h.start = omega arith in
      f ∙ ap (λ (a : ℕ). drop a s) byte ∙ ap (λ (x : Found). drop x.start s) read ∙ sym (ap (λ (a : Answer). pick (done a) (after_homes s) []) good)

  -- of a refused one, what follows its end
  pub part_of_refused : done (reader_answer s) ≡ false → take (length s - length s) (drop (length s) s) ≡ commands_part s
  unfolding commands_part
  part_of_refused bad = take_all (length s - length s) (drop (length s) s) (omega (arith, length-drop (length s) s)) ∙ drop-length s ∙ sym (ap (λ (t : Bool). pick t (after_homes s) []) bad)
