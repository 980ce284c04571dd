-- `typed::names::verb_of` meets its contract: the table of names is the definition's (Naming). Assumes nothing.
use Rattle.std.proofs.Common.{refl}
use Rattle.typed.specs.declared.Verb.{Verb}
use Rattle.typed.specs.declared.Verb.TheVariants.{Unknown}
use Rattle.typed.specs.Words.{blank, of_sort, run, words_from}
use Rattle.typed.specs.Names.{verb_of}
use Rattle.typed.proofs.Naming.{found_or}
use Rattle.typed.proofs.names.verb_of.Goals as goal

pub returns : goal.returns
unfolding verb_of words_from run blank of_sort
returns c = found_or Verb _ _ Unknown _ _ c.named.ensures c.unwrap_or.ensures refl
