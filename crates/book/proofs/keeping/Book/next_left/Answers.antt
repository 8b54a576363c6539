use Rattle.std.proofs.Common.{ℕ, ap, ◌∙◌}
use Rattle.std.specs.Option.{option_map}
use Rattle.inner.specs.Slots.{lowest_left}
use Rattle.book.proofs.ReadLaws.{sound_of, left_first}
use Rattle.book.proofs.keeping.Book.next_left.Goals as goal

pub returns-in_err-record : goal.returns-in_err-record
returns-in_err-record c =
    ap (option_map {U = ℕ} (λ e. e.0)) c.from_residual.ensures ∙ ap (λ r. lowest_left r.slots) c.in_err-record.ensures.value ∙ left_first c.args.self.now.inner (sound_of c.args.self.now) c.args.client.0

pub returns : goal.returns
returns c = c.lowest_left.ensures ∙ ap (λ r. lowest_left r.slots) c.in_ok-record.ensures.value ∙ left_first c.args.self.now.inner (sound_of c.args.self.now) c.args.client.0
