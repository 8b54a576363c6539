use Rattle.rules.proofs.EachEffect.{every_step}
use Rattle.rules.proofs.every_step_has_an_effect.Goals as goal

pub returns : goal.returns
returns g c = every_step g.K.Rank.above
