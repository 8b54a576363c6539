use Rattle.rules.proofs.TrialsHold.{trials_hold}
use Rattle.rules.proofs.trials_hold.Goals as goal

pub returns : goal.returns
returns c = trials_hold
