use Rattle.law.proofs.PlainAnswers.{never_mixed}
use Rattle.law.proofs.never_mixed.Goals as goal

pub returns : goal.returns
returns g c = never_mixed g.row.K.Denot
