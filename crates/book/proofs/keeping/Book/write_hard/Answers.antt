use Rattle.std.proofs.Common.{◌≡◌, ap, ◌∙◌, arith, rules}
use Rattle.plant.specs.Meaning.{put_meaning}
use Rattle.inner.specs.Cells.{written_hard}
use Rattle.inner.specs.Whole.{cell_of, with_cell}
use Rattle.book.specs.Model.{model}
use Rattle.book.proofs.ModelLaws.{model_hard}
use Rattle.book.proofs.ReadLaws.{sound_of}
use Rattle.book.proofs.keeping.Book.write_hard.Goals as goal

pub returns : goal.returns
returns c =
    let written : c.write_hard.new.self ≡ with_cell c.args.self.now.inner c.args.known.element.0 (written_hard (cell_of c.args.self.now.inner c.args.known.element.0) c.args.written) = search rules in
    λ m. ap (model (put_meaning m c.args.known.element.0 c.args.written)) written
    ∙ model_hard m c.args.self.now.inner (sound_of c.args.self.now) c.args.known.element.0 c.args.written (omega (arith, c.args.known.known, c.args.self.now.sized.cells))
