use Rattle.std.proofs.Common.{rules}
use Rattle.scaling.proofs.RunLaws.{leaves_cleared}
use Rattle.engine.specs.Answering.{state_of, done_answer}
use Rattle.scaling.proofs.running.leave.Goals as goal

pub returns-then-eq : goal.returns-then-eq
returns-then-eq g c =
    leaves_cleared (state_of g.T.Table.meaning c.args.engine.now) (state_of g.T.Table.meaning c.give_up.new.self) (state_of g.T.Table.meaning c.clear.new.self)
    c.args.client.0 (done_answer c.clear.result) (search rules) c.clear.ensures
