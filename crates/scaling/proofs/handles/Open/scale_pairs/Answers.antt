use Rattle.std.proofs.Common.{◌∙◌, arith, rules}
use Rattle.engine.specs.Answering.{state_of}
use Rattle.scaling.proofs.RunLaws.{one_pair}
use Rattle.scaling.proofs.handles.Open.scale_pairs.Goals as goal

pub loop-behind-preserved : goal.loop-behind-preserved
loop-behind-preserved g c =
    one_pair g.K.Rank.above c.args.ranks.now c.args.self.now.client.0 c.args.ratio c.loop-behind.behind c.args.pairs.now
    (record { base = record { 0 = 0 }; target = record { 0 = 0 } }) (state_of g.T.Table.meaning c.loop-behind.engine) (state_of g.T.Table.meaning c.scale_pair.new.engine)
    (omega arith) (λ number rest. search rules)
    ∙ c.loop-behind.invariant
