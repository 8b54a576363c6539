use Rattle.std.proofs.Common.{arith}
use Rattle.std.proofs.lemmas.Grind.{common_steps}
use Rattle.script.proofs.Law.{reads_as}
use Rattle.script.proofs.reader.read_line.Goals as goal

pub returns-in_err-form-clause-means : goal.returns-in_err-form-clause-means
returns-in_err-form-clause-means c = reads_as _ _ _ (grind (arith, common_steps))

pub returns-then-is_open-is_some-clause-means : goal.returns-then-is_open-is_some-clause-means
returns-then-is_open-is_some-clause-means c = reads_as _ _ _ (grind (arith, common_steps))

pub returns-clause-means : goal.returns-clause-means
returns-clause-means c = reads_as _ _ _ (grind (arith, common_steps))
