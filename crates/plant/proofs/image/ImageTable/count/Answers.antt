use Rattle.std.proofs.Common.{rules}
use Rattle.plant.specs.ByteTable.{length_first_values}
use Rattle.plant.proofs.image.ImageTable.count.Goals as goal

pub returns-clause-value : goal.returns-clause-value
returns-clause-value c = search (rules, length_first_values)
