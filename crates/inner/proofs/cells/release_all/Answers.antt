use Rattle.std.proofs.Common.{sym, ap, ◌∙◌, arith, rules}
use Rattle.std.proofs.lemmas.List.{set_past}
use Rattle.std.specs.List.{fold}
use Rattle.std.specs.Option.{option_to_list}
use Rattle.std.proofs.lemmas.Iterator.{YieldsList-from_slice}
use Rattle.std.proofs.lemmas.Iterator.Adapters.{YieldsList-from_flatten}
use Rattle.std.proofs.lemmas.Iterator.Consumers.{YieldsList-end}
use Rattle.inner.proofs.Giving.{release_held, one_more, all_given, YieldsList-from_option}
use Rattle.inner.proofs.cells.release_all.Goals as goal

pub loop-held-preserved : goal.loop-held-preserved
loop-held-preserved c = one_more c.loop-held.cells _ c.args.cells.now c.loop-held.yielded c.in-Some.held c.loop-held.invariant
    (sym (set_past c.loop-held.cells c.in-Some.held.now.element.0 _ (omega arith)))

pub returns : goal.returns
returns c =
    let held = YieldsList-from_flatten _ _ (λ y. y.now) option_to_list (λ x j b. YieldsList-from_option x.now b.0 b.1) (YieldsList-from_slice c.args.slots.now (search rules)) (search rules) (search rules) (search rules) in
    let given = YieldsList-end held c.loop-held.yielded _ c.loop-held.yielded_by _ _ c.in-None.is c.next.ensures.steps in
    c.loop-held.invariant ∙ ap (fold release_held c.args.cells.now) given.0 ∙ all_given c.args.slots.now c.args.cells.now
