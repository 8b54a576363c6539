use Rattle.std.proofs.Common.{◌≡◌, Some, refl, sym, ap, ◌∙◌, arith, rules}
use Rattle.inner.specs.Cells.{gained}
use Rattle.inner.specs.Whole.{cell_of, with_cell, with_slot}
use Rattle.book.specs.Model.{model}
use Rattle.book.proofs.ReadLaws.{sound_of}
use Rattle.book.proofs.ChangeLaws.{owed, new_held, both_set, few_holders, place_free, add_sound, add_model}
use Rattle.book.proofs.keeping.Book.add_lock.Goals as goal
use Rattle.book.proofs.keeping.Book.add_lock.Goals.{After-gain}

-- The lock comes into a slot, and then its element's cell has it.
added : (c : After-gain) →
    c.gain.new.self ≡ with_cell (with_slot c.args.self.now.inner c.args.admitted.request.client.0 c.in-Some.place (Some (new_held c.args.admitted.request c.args.copy))) c.args.admitted.request.element.0 (gained (cell_of c.args.self.now.inner c.args.admitted.request.element.0) c.args.admitted.request.kind c.args.copy)
added c =
    let slot : c.set_slot.new.self ≡ with_slot c.args.self.now.inner c.args.admitted.request.client.0 c.in-Some.place (Some (new_held c.args.admitted.request c.args.copy)) = search rules in
    let cell : c.gain.new.self ≡ with_cell c.set_slot.new.self c.args.admitted.request.element.0 (gained (cell_of c.set_slot.new.self c.args.admitted.request.element.0) c.args.admitted.request.kind c.args.copy) = search rules in
    both_set c.args.self.now.inner c.set_slot.new.self c.gain.new.self c.args.admitted.request.client.0 c.in-Some.place c.args.admitted.request.element.0 (Some (new_held c.args.admitted.request c.args.copy)) (λ x. gained x c.args.admitted.request.kind c.args.copy) slot cell

pub gain-requires : goal.gain-requires
gain-requires c = omega (arith, few_holders c.args.self.now.inner (sound_of c.args.self.now) c.args.admitted.request.element.0, ap (λ x. (cell_of x c.args.admitted.request.element.0).holders) c.set_slot.ensures)

pub invariant_of-self : goal.invariant_of-self
invariant_of-self c =
    owed c.gain.new.self _ (added (goal.at.invariant_of-self c).After-gain)
    (add_sound c.args.self.now.inner (sound_of c.args.self.now) c.args.admitted.request.client.0 (new_held c.args.admitted.request c.args.copy) c.in-Some.place (sym c.in-Some.ensures) c.args.admitted.element_known c.requires.none c.args.admitted.request.kind c.args.copy)

pub returns : goal.returns
returns c =
    λ m num. ap (model m) (added (goal.at.returns c).After-gain)
    ∙ add_model c.args.self.now.inner (sound_of c.args.self.now) c.args.admitted.request.client.0 (new_held c.args.admitted.request c.args.copy) c.in-Some.place (sym c.in-Some.ensures) c.args.admitted.element_known c.requires.none c.args.admitted.request.kind c.args.copy refl m num

pub unreachable-requires : goal.unreachable-requires
unreachable-requires c =
    place_free c.args.self.now.inner (sound_of c.args.self.now) c.args.admitted.request c.args.admitted.client_known c.requires.none c.requires.room (sym c.free_place_of.ensures ∙ c.in_default.is)
