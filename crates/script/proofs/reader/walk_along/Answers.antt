use Rattle.std.proofs.Common.{◌≡◌, ◌+◌, drop, Err, sym, ap, ◌∙◌, arith, rules}
use Rattle.std.specs.Option.{ok_or}
use Rattle.items.specs.Items.{left}
use Rattle.script.specs.Steps.{walk_of}
use Rattle.script.proofs.Walking.{walk_stops, walk_goes}
use Rattle.script.proofs.reader.walk_along.Goals as goal

pub returns-in_err-numbers : goal.returns-in_err-numbers
returns-in_err-numbers c =
    let place = c.in_err-numbers.field-0.0 in
    let result : c.from_residual.result ≡ Err place = search rules in
    let stops = walk_stops c.loop-part.numbers c.parts-part-items.result.now c.loop-part.part-index (left c.loop-part.cutter) _ _ (omega arith) c.next_item-item.ensures.first c.fit.result c.ok_or.result c.fit.ensures (c.ok_or.ensures.value ∙ ap (λ p. ok_or c.fit.result p) c.place_of.ensures) place c.in_err-numbers.was in
    result ∙ sym stops ∙ c.loop-part.invariant

pub loop-part-preserved : goal.loop-part-preserved
loop-part-preserved c =
    let numbers = c.in_ok-numbers.numbers in
    let goes = walk_goes c.loop-part.numbers c.parts-part-items.result.now c.loop-part.part-index (left c.loop-part.cutter) _ _ (omega arith) c.next_item-item.ensures.first c.fit.result c.ok_or.result c.fit.ensures (c.ok_or.ensures.value ∙ ap (λ p. ok_or c.fit.result p) c.place_of.ensures) numbers c.in_ok-numbers.was in
    sym (goes ∙ ap (walk_of numbers (drop (c.loop-part.part-index + 1) c.parts-part-items.result.now)) c.next_item-item.ensures.on) ∙ c.loop-part.invariant
