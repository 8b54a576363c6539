use Rattle.std.proofs.Common.{rules, ◌∙◌}
use Rattle.std.proofs.lemmas.Iterator.{YieldsList-from_slice}
use Rattle.std.proofs.lemmas.Iterator.Consumers.{YieldsList-from_filter_map, min_from_yields_List}
use Rattle.inner.specs.Slots.{left_element}
use Rattle.inner.proofs.slots.lowest_left.Goals as goal

pub returns : goal.returns
returns c = search rules ∙ min_from_yields_List _ c.min.result c.min.ensures.ran (YieldsList-from_filter_map _ left_element (YieldsList-from_slice c.args.slots.now (cc)) c.filter_map.ensures.closure (λ x r q k. search rules))
