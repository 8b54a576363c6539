use Rattle.std.proofs.Common.{◌≡◌, drop}
use Rattle.engine.specs.Answering.{state_of}
use Rattle.scaling.specs.Run.{scale_pairs}
use Rattle.scaling.proofs.handles.Open.scale_pairs.Given as goal

-- the pairs left lead to where all lead
abbrev pub invariant-loop-behind : goal.invariant-loop-behind
invariant-loop-behind g l =
    scale_pairs g.K.Rank.above l.ranks l.self.client.0 l.ratio l.behind (drop l.behind l.pairs) (state_of g.T.Table.meaning l.engine)
    ≡ scale_pairs g.K.Rank.above l.ranks l.self.client.0 l.ratio 0 l.pairs (state_of g.T.Table.meaning l.initial.engine)
