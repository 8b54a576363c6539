use Rattle.std.proofs.Common.{rules}
use Rattle.correction.proofs.Padded.{right_aligned_digits, right_aligned_number}
use Rattle.correction.proofs.texts.line.Goals as goal

pub returns : goal.returns
returns c = search (rules, right_aligned_digits, right_aligned_number)
