-- One computation over the list of trials.
use Rattle.std.proofs.Common.{refl}
use Rattle.rules.specs.Scans.{some_below, count_below, first_below}
use Rattle.scaling.specs.RunTrials.{RunTrialsHold}

pub run_trials_hold : RunTrialsHold
unfolding some_below count_below first_below
run_trials_hold = refl
