use Rattle.std.proofs.Common.{ap, ◌∙◌}
use Rattle.inner.specs.Whole.{fresh}
use Rattle.book.specs.Model.{model}
use Rattle.book.proofs.ModelLaws.{model_fresh, sound_fresh}
use Rattle.book.proofs.ChangeLaws.{owed}
use Rattle.book.proofs.keeping.Book.new.Goals as goal

pub invariant_of-result : goal.invariant_of-result
invariant_of-result c = owed c.new.result fresh c.new.ensures sound_fresh

pub returns : goal.returns
returns c = λ m. ap (model m) c.new.ensures ∙ model_fresh m
