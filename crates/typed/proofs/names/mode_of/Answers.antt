-- `typed::names::mode_of` meets its contract: the table of names is the definition's (Naming). Assumes nothing.
use Rattle.std.proofs.Common.{◌∙◌, ℕ, refl}
use Rattle.typed.specs.Words.{blank, of_sort, run, words_from}
use Rattle.typed.proofs.Naming.{found_name, mode_place}
use Rattle.typed.proofs.names.mode_of.Goals as goal

pub returns : goal.returns
unfolding words_from run blank of_sort
returns c = c.named.ensures ∙ found_name ℕ c.args.word.now _ refl ∙ mode_place _
