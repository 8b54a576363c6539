use Rattle.std.proofs.Common.{Some, sym, ◌∙◌}
use Rattle.inner.specs.Whole.{client_of, with_slot}
use Rattle.book.proofs.ReadLaws.{sound_of}
use Rattle.book.proofs.ChangeLaws.{owed, place_there, other_sound}
use Rattle.book.proofs.keeping.Book.replace.Goals as goal

pub invariant_of-self : goal.invariant_of-self
invariant_of-self c =
    owed c.set_slot.new.self (with_slot c.args.self.now.inner c.args.client.0 c.in-Some.place (Some c.args.held)) c.set_slot.ensures
    (other_sound c.args.self.now.inner (sound_of c.args.self.now) c.args.client.0 c.args.held c.in-Some.place (sym c.in-Some.ensures))

pub returns : goal.returns
returns c = (c.in-Some.place, sym c.in-Some.ensures, c.set_slot.ensures)

pub unreachable-requires : goal.unreachable-requires
unreachable-requires c = place_there (client_of c.args.self.now.inner c.args.client.0).slots c.args.held.element.0 c.requires (sym c.place_of.ensures ∙ c.in_default.is)
