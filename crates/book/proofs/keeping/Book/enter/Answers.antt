use Rattle.inner.specs.Whole.{entered_state}
use Rattle.book.proofs.SoundLaws.{sound_enter}
use Rattle.book.proofs.ReadLaws.{sound_of}
use Rattle.book.proofs.ChangeLaws.{owed}
use Rattle.book.proofs.keeping.Book.enter.Goals as goal

pub invariant_of-self : goal.invariant_of-self
invariant_of-self c =
    owed c.enter.new.self (entered_state c.args.self.now.inner c.args.turn.client.0 c.args.turn.after) c.enter.ensures
    (sound_enter c.args.self.now.inner (sound_of c.args.self.now) c.args.turn.client.0 c.args.turn.after c.args.turn.known)
