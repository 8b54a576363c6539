use Rattle.law.proofs.PlainAnswers.{old_number}
use Rattle.law.proofs.old_number_until_the_end.Goals as goal

pub returns : goal.returns
returns g c = old_number g.K.Rank.above
