use Rattle.std.proofs.Common.{ap, ◌∙◌, arith}
use Rattle.engine.specs.Answering.{state_of}
use Rattle.scaling.proofs.RunLaws.{one_back}
use Rattle.scaling.proofs.handles.Committing.write_back_all.Goals as goal

pub loop-preserved : goal.loop-preserved
loop-preserved g c =
    one_back c.args.pairs c.loop.counter c.args.self.now.client.0 (state_of g.T.Table.meaning c.loop.engine) (state_of g.T.Table.meaning c.write_back.new.engine)
    (omega arith) (ap (λ o. o.state) c.write_back.ensures)
    ∙ c.loop.invariant
