use Rattle.std.proofs.Common.{eqb, sym, ap, ◌∙◌}
use Rattle.rules.specs.Locking.{leave}
use Rattle.rules.specs.Calls.{next_left}
use Rattle.book.specs.Model.{model}
use Rattle.engine.proofs.CallLaws.{same_left, end_done}
use Rattle.engine.proofs.opening.Engine.end.Goals as goal

pub returns : goal.returns
returns g c =
    let m = g.T.Table.meaning c.args.self.now.table in
    let s = model m c.args.self.now.book.inner in
    end_done s (model m c.leave.new.self.inner) c.args.client.0 c.in_ok-turn.turn.after c.in_ok-turn.ensures.state
    (sym (same_left c.next_left.result (next_left s c.args.client.0) c.next_left.ensures) ∙ sym c.is_some.ensures ∙ c.if-is_some.false)
    (c.leave.ensures m ∙ ap (λ k. leave (λ d. eqb d k.0) c.in_ok-turn.turn.after s) c.in_ok-turn.ensures.same)
