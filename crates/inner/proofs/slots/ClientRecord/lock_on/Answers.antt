use Rattle.std.proofs.Common.{◌≡◌, get_or, None, sym, ◌∙◌, rules}
use Rattle.std.specs.Option.{option_map}
use Rattle.inner.proofs.SlotLaws.{lock_at_place, lock_missing}
use Rattle.inner.proofs.slots.ClientRecord.lock_on.Goals as goal

pub returns-in_err-place : goal.returns-in_err-place
returns-in_err-place c = c.from_residual.ensures ∙ sym (lock_missing c.args.self.now.slots c.args.element.0 (sym c.place_on.ensures ∙ c.in_err-place.was))

pub returns : goal.returns
returns c =
    let read : c.map.result ≡ option_map (λ h. h.lock) (get_or c.args.self.now.slots c.in_ok-place.place None) = search rules in
    read ∙ sym (lock_at_place c.args.self.now.slots c.args.element.0 c.in_ok-place.place (sym c.place_on.ensures ∙ c.in_ok-place.was))
