use Rattle.std.proofs.Common.{ap, ◌∙◌}
use Rattle.inner.specs.Whole.{left}
use Rattle.book.specs.Model.{model}
use Rattle.book.proofs.SoundLaws.{sound_left}
use Rattle.book.proofs.ModelLaws.{model_leave}
use Rattle.book.proofs.ReadLaws.{sound_of}
use Rattle.book.proofs.ChangeLaws.{owed}
use Rattle.book.proofs.keeping.Book.leave.Goals as goal

pub invariant_of-self : goal.invariant_of-self
invariant_of-self c =
    owed c.leave.new.self (left c.args.self.now.inner c.args.turn.client.0 c.args.turn.after) c.leave.ensures
    (sound_left c.args.self.now.inner (sound_of c.args.self.now) c.args.turn.client.0 c.args.turn.after c.args.turn.known)

pub returns : goal.returns
returns c = λ m. ap (model m) c.leave.ensures ∙ model_leave m c.args.self.now.inner (sound_of c.args.self.now) c.args.turn.client.0 c.args.turn.after c.args.turn.known
