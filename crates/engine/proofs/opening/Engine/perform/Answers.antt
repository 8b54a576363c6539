use Rattle.engine.specs.Answering.{state_of}
use Rattle.engine.proofs.GoesOn.{goes_on}
use Rattle.engine.proofs.opening.Engine.perform.Goals as goal

pub returns : goal.returns
returns g c =
    record {
      value = c.dispatch.ensures.value;
      ranks = c.dispatch.ensures.ranks;
      law =
          goes_on g.K.Rank.above
          g.met.K.Rank.order
          (state_of g.T.Table.meaning c.args.self.now) c.args.ranks.now c.args.call c.dispatch.result (state_of g.T.Table.meaning c.dispatch.new.self)
          c.dispatch.ensures.value;
    }
