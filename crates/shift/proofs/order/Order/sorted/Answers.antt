use Rattle.std.proofs.Common.{rules, nat_cmp}
use Rattle.std.specs.BTreeMap as tree
use Rattle.std.proofs.lemmas.Fn.{always_returns_same}
use Rattle.shift.proofs.order.Order.sorted.Goals as goal

pub returns-clause-sorted : goal.returns-clause-sorted
returns-clause-sorted c =
    c.in_ok-sort_by_key.ensures.sorted
    (λ e. tree.get nat_cmp c.args.self.now.places e.moment)
    (always_returns_same _ _ _ (λ a r f h. search rules))
