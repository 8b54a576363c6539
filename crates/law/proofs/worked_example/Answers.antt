use Rattle.law.proofs.WorkedExample.{worked_example}
use Rattle.law.proofs.worked_example.Goals as goal

pub returns : goal.returns
returns c = worked_example
