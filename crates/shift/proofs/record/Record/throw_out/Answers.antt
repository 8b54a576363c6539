use Rattle.std.proofs.Common.{rules, ◌∙◌, ap, not, filter, ◌==◌}
use Rattle.std.specs.List.{list_any}
use Rattle.std.proofs.lemmas.Map.Made.{filter_same_pairs}
use Rattle.shift.proofs.record.Record.throw_out.Goals as goal

pub returns-clause-holdings : goal.returns-clause-holdings
returns-clause-holdings g =
    filter_same_pairs _ _ _ (λ k v b w f' t. search rules) _ _ g.retain.ensures.filtered
    ∙ ap (λ those. filter (λ lock. not (list_any (λ c. c.0 == lock.0.client.0) those)) g.args.self.now.holdings.entries) g.in_ok-losers.ensures
