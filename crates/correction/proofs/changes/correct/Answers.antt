use Rattle.std.proofs.Common.{◌≤◌, rules}
use Rattle.plant.specs.ByteTable.{image_count}
use Rattle.plant.proofs.Cells.{put_none}
use Rattle.correction.proofs.changes.correct.Goals as goal

pub returns-in_err-check-clause-after : goal.returns-in_err-check-clause-after
returns-in_err-check-clause-after c =
    let none : image_count c.args.bytes.now ≤ c.args.element.0 = search rules in
    search (rules, put_none c.args.bytes.now c.args.element.0 c.args.number none)
