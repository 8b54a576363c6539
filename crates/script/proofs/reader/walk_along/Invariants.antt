use Rattle.std.proofs.Common.{◌≡◌, drop}
use Rattle.items.specs.Items.{left}
use Rattle.forms.specs.Shapes.{parts_of}
use Rattle.forms.specs.Forms.{blank}
use Rattle.script.specs.Reading.{line_items}
use Rattle.script.specs.Steps.{walk_of}
use Rattle.script.proofs.reader.walk_along.Given as goal

-- what is left of the shape and of the line gives what the whole gives
abbrev pub invariant-loop-part : goal.invariant-loop-part
invariant-loop-part l = walk_of l.numbers (drop l.part-index l.part-items) (left l.cutter) ≡ walk_of blank (parts_of l.fn.shape) (line_items l.line)
