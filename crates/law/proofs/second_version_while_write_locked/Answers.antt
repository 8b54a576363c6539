use Rattle.law.proofs.RunLaw.{second_while_locked}
use Rattle.law.proofs.second_version_while_write_locked.Goals as goal

pub returns : goal.returns
returns g c = second_while_locked g.K.Rank.above
