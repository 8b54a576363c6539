use Rattle.std.proofs.Common.{◌≡◌, Some, is_some, refl, ap, ◌∙◌, rules}
use Rattle.inner.specs.Cells.{raised}
use Rattle.inner.specs.Whole.{cell_of, with_cell, with_slot}
use Rattle.book.specs.Model.{model}
use Rattle.book.proofs.ReadLaws.{sound_of}
use Rattle.book.proofs.ChangeLaws.{owed, raised_held, both_set, raise_sound, raise_model}
use Rattle.book.proofs.keeping.Book.raise_lock.Goals as goal
use Rattle.book.proofs.keeping.Book.raise_lock.Goals.{After-raise}

-- The lock takes the place of the old one, and then its element's cell has it.
changed : (c : After-raise) →
    c.raise.new.self ≡ with_cell (with_slot c.args.self.now.inner c.args.admitted.request.client.0 c.replace.ensures.0 (Some (raised_held c.args.admitted.request c.args.held))) c.args.admitted.request.element.0 (raised (cell_of c.args.self.now.inner c.args.admitted.request.element.0) c.args.admitted.request.kind c.args.second)
changed c =
    let is = c.replace.ensures.2 in
    let slot : c.replace.new.self.inner ≡ with_slot c.args.self.now.inner c.args.admitted.request.client.0 c.replace.ensures.0 (Some (raised_held c.args.admitted.request c.args.held)) = search rules in
    let cell : c.raise.new.self ≡ with_cell c.replace.new.self.inner c.args.admitted.request.element.0 (raised (cell_of c.replace.new.self.inner c.args.admitted.request.element.0) c.args.admitted.request.kind c.args.second) = search rules in
    both_set c.args.self.now.inner c.replace.new.self.inner c.raise.new.self c.args.admitted.request.client.0 c.replace.ensures.0 c.args.admitted.request.element.0 (Some (raised_held c.args.admitted.request c.args.held)) (λ x. raised x c.args.admitted.request.kind c.args.second) slot cell

pub replace-requires : goal.replace-requires
replace-requires c = ap is_some c.requires.held

pub invariant_of-self : goal.invariant_of-self
invariant_of-self c =
    owed c.raise.new.self _ (changed (goal.at.invariant_of-self c).After-raise)
    (raise_sound c.args.self.now.inner (sound_of c.args.self.now) c.args.admitted.request.client.0 (raised_held c.args.admitted.request c.args.held) c.replace.ensures.0 c.replace.ensures.1 c.args.admitted.request.kind c.args.second)

pub returns : goal.returns
returns c =
    λ m num. ap (model m) (changed (goal.at.returns c).After-raise)
    ∙ raise_model c.args.self.now.inner (sound_of c.args.self.now) c.args.admitted.request.client.0 (raised_held c.args.admitted.request c.args.held) c.replace.ensures.0 c.replace.ensures.1 c.args.admitted.request.kind c.args.second c.args.held c.args.admitted.element_known c.requires.held refl m num
