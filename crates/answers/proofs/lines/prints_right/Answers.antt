use Rattle.answers.proofs.PrintLaw.{prints_right}
use Rattle.answers.proofs.lines.prints_right.Goals as goal

pub returns : goal.returns
returns c = prints_right
