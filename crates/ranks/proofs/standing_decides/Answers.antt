use Rattle.ranks.proofs.Stands.{decides}
use Rattle.ranks.proofs.standing_decides.Goals as goal

pub returns : goal.returns
returns g c =
    decides g.K.Rank.above
    g.met.K.Rank.order
