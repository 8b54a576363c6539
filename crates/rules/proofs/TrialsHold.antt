-- One computation over the list of trials.
use Rattle.std.proofs.Common.{refl}
use Rattle.rules.specs.Scans.{some_below, count_below, first_below}
use Rattle.rules.specs.Trials.{TrialsHold}

pub trials_hold : TrialsHold
unfolding some_below count_below first_below
trials_hold = refl
