use Rattle.script.proofs.Law.{one_reading}
use Rattle.script.proofs.reader.one_reading.Goals as goal

pub returns : goal.returns
returns c = one_reading
