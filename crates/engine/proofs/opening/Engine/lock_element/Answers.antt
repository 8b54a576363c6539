use Rattle.std.proofs.Common.{◌∙◌, rules}
use Rattle.book.specs.Model.{model}
use Rattle.engine.proofs.LockLaws.{steps_lost, steps_won}
use Rattle.engine.proofs.opening.Engine.lock_element.Goals as goal

pub returns-then-is_lost : goal.returns-then-is_lost
returns-then-is_lost g c =
    let m = g.T.Table.meaning c.args.self.now.table in
    let r = c.args.admitted.request in
    steps_lost g.K.Rank.above c.args.ranks.now (model m c.args.self.now.book.inner) r.client.0 r.kind r.element.0 (search rules) (search rules)
    (model m c.leave.new.self.inner) (search rules) (c.leave.ensures m)

pub returns : goal.returns
returns g c =
    let m = g.T.Table.meaning c.args.self.now.table in
    let r = c.args.admitted.request in
    c.win.ensures
    ∙ steps_won g.K.Rank.above c.args.ranks.now (model m c.args.self.now.book.inner) r.client.0 r.kind r.element.0 (search rules) (search rules)
    (search rules) (search rules)
