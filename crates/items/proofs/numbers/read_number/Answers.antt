use Rattle.std.proofs.Common.{rules, arith}
use Rattle.std.proofs.lemmas.Grind.{common_steps}
use Rattle.items.proofs.NumberLaw.{number_means}
use Rattle.items.proofs.numbers.read_number.Goals as goal

pub returns-in-45-clause-means : goal.returns-in-45-clause-means
returns-in-45-clause-means c = number_means _ _ (grind (arith, common_steps))

pub returns-in_default-clause-means : goal.returns-in_default-clause-means
returns-in_default-clause-means c = number_means _ _ (search rules)
