use Rattle.std.proofs.Common.{◌≡◌, drop}
use Rattle.forms.specs.Shapes.{shapes}
use Rattle.script.specs.Reading.{line_items}
use Rattle.script.specs.Steps.{search_of}
use Rattle.script.proofs.reader.find_form.Given as goal

abbrev pub invariant-loop-shape : goal.invariant-loop-shape
invariant-loop-shape l = search_of l.opened (line_items l.line) l.furthest (drop l.shape-index shapes) ≡ search_of l.opened (line_items l.line) 0 shapes
