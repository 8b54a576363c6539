use Rattle.law.proofs.RunLaw.{every_run}
use Rattle.law.proofs.every_run_has_the_law.Goals as goal

pub returns : goal.returns
returns g c =
    every_run g.K.Rank.above
    g.met.K.Rank.order
