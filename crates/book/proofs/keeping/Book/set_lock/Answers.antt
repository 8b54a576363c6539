use Rattle.std.proofs.Common.{ap, ◌∙◌}
use Rattle.book.specs.Model.{model}
use Rattle.book.proofs.ReadLaws.{sound_of}
use Rattle.book.proofs.ChangeLaws.{other_model}
use Rattle.book.proofs.keeping.Book.set_lock.Goals as goal

pub returns : goal.returns
returns c =
    let (place, there, is) = c.replace.ensures in
    λ m. ap (model m) is
    ∙ other_model c.args.self.now.inner (sound_of c.args.self.now) c.args.client.0 (record { lock = c.args.lock; element = c.args.element }) place there m
