-- `no_entries` meets its contract: the default is the list of zeros.
use Rattle.values.proofs.Defaults.{entries_default}
use Rattle.values.proofs.message.no_entries.Goals as goal

pub returns : goal.returns
returns c = entries_default c.default.result c.default.ensures
