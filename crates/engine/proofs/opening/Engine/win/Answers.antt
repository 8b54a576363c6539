use Rattle.std.proofs.Common.{◌≡◌, ap, ◌∙◌, rules}
use Rattle.plant.specs.Meaning.{number}
use Rattle.rules.specs.Locking.{gain}
use Rattle.rules.specs.Calls.{answered}
use Rattle.rules.specs.declared.Answer.TheVariants.{Done}
use Rattle.book.specs.Model.{model}
use Rattle.engine.proofs.LockLaws.{got_number, not_refused, room_kept}
use Rattle.engine.proofs.opening.Engine.win.Goals as goal

pub grant-requires : goal.grant-requires
grant-requires g c = record { room = room_kept c.args.self.now.book.inner c.throw_out.new.self.inner c.args.admitted.request c.throw_out.ensures c.requires.room }

pub returns : goal.returns
returns g c =
    let m = g.T.Table.meaning c.args.self.now.table in
    let r = c.args.admitted.request in
    let found : number m r.element.0 ≡ c.in_ok-found.found = got_number m r.element.0 c.in_ok-found.found c.requires.known c.in_ok-found.ensures.value in
    let won : model m c.grant.new.self.inner ≡ gain r.client.0 r.kind r.element.0 (model m c.throw_out.new.self.inner) = c.grant.ensures m (search rules) in
    ap (λ x. answered x Done) (won ∙ ap (gain r.client.0 r.kind r.element.0) (c.throw_out.ensures m))

pub returns-in_err-found : goal.returns-in_err-found
returns-in_err-found g c =
    not_refused (g.T.Table.meaning c.args.self.now.table) c.args.admitted.request.element.0 _ c.requires.known c.in_err-found.ensures.value _ _
