use Rattle.std.proofs.Common.{eqb, ap, ◌∙◌}
use Rattle.rules.specs.Locking.{leave}
use Rattle.book.specs.Model.{model}
use Rattle.engine.proofs.CallLaws.{give_up_done}
use Rattle.engine.proofs.opening.Engine.give_up.Goals as goal

pub returns : goal.returns
returns g c =
    let m = g.T.Table.meaning c.args.self.now.table in
    let s = model m c.args.self.now.book.inner in
    give_up_done s (model m c.leave.new.self.inner) c.args.client.0 c.in_ok-turn.turn.after c.in_ok-turn.ensures.state
    (c.leave.ensures m ∙ ap (λ k. leave (λ d. eqb d k.0) c.in_ok-turn.turn.after s) c.in_ok-turn.ensures.same)
