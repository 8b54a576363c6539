use Rattle.std.proofs.Common.{rules}
use Rattle.std.proofs.lemmas.Map.Made.{filter_same_pairs}
use Rattle.shift.proofs.record.Record.leave.Goals as goal

pub returns : goal.returns
returns c = record {
  holdings = filter_same_pairs _ _ _ (λ k v b w f' t. search rules) _ _ c.retain.ensures.filtered;
  others = search rules;
}
