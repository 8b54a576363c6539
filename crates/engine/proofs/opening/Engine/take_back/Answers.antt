use Rattle.std.proofs.Common.{◌≡◌, sym, ◌∙◌, rules}
use Rattle.rules.specs.Calls.{with_lock, taken_lock}
use Rattle.plant.specs.Meaning.{put_meaning}
use Rattle.inner.specs.Slots.{lock_in}
use Rattle.inner.specs.Whole.{client_of}
use Rattle.book.specs.Model.{model}
use Rattle.engine.proofs.CallLaws.{back_dropped, back_written}
use Rattle.engine.proofs.opening.Engine.take_back.Goals as goal

pub returns-then-is_marked : goal.returns-then-is_marked
returns-then-is_marked g c =
    let m = g.T.Table.meaning c.args.self.now.table in
    let s = model m c.args.self.now.book.inner in
    let h = c.set_lock.ensures m in
    let is : model m c.set_lock.new.self.inner ≡ with_lock s c.args.client.0 c.args.element.0 (taken_lock c.in_ok-lock.lock) = search rules in
    back_dropped s (model m c.set_lock.new.self.inner) c.args.client.0 c.args.element.0 c.in_ok-lock.lock
    (lock_in (client_of c.args.self.now.book.inner c.args.client.0).slots c.args.element.0)
    (search rules) is (sym c.is_marked.ensures ∙ c.if-is_marked.true)

pub returns : goal.returns
returns g c =
    let m = g.T.Table.meaning c.args.self.now.table in
    let s = model m c.args.self.now.book.inner in
    let h = c.set_lock.ensures m in
    let is : model m c.set_lock.new.self.inner ≡ with_lock s c.args.client.0 c.args.element.0 (taken_lock c.in_ok-lock.lock) = search rules in
    let put : g.T.Table.meaning c.put.new.self ≡ put_meaning m c.args.element.0 c.in_ok-lock.lock.copy = search rules in
    back_written s (model m c.set_lock.new.self.inner) (g.T.Table.meaning c.put.new.self) c.args.client.0 c.args.element.0 c.in_ok-lock.lock
    (lock_in (client_of c.args.self.now.book.inner c.args.client.0).slots c.args.element.0)
    (search rules) is (sym c.is_marked.ensures ∙ c.if-is_marked.false) put
