use Rattle.scaling.proofs.RunTrialsHold.{run_trials_hold}
use Rattle.scaling.proofs.run.run_trials_hold.Goals as goal

pub returns : goal.returns
returns c = run_trials_hold
