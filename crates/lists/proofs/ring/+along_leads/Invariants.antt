-- The place falls at each call.
use Rattle.lists.proofs.ring.+along_leads.Given as goal

abbrev pub decreases-along_leads : goal.decreases-along_leads
decreases-along_leads l = l.at
