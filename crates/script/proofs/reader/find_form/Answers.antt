use Rattle.std.proofs.Common.{◌+◌, drop, Ok, sym, refl, ap, ◌∙◌, arith}
use Rattle.forms.specs.Shapes.{shapes}
use Rattle.script.specs.Reading.{line_items}
use Rattle.script.specs.Steps.{search_of}
use Rattle.script.proofs.Searching.{search_skips, search_passes, search_finds, search_ends}
use Rattle.script.proofs.reader.find_form.Goals as goal
use Rattle.script.proofs.reader.find_form.Goals.{then-is_allowed+in-Err, else-is_allowed}

pub loop-shape-init : goal.loop-shape-init
loop-shape-init c = refl

pub loop-shape-preserved : goal.loop-shape-preserved
loop-shape-preserved c =
    let its = line_items c.args.line.now in
    let f = c.loop-shape.furthest in
    let i = c.loop-shape.shape-index in
    elim c.if-is_allowed.branch [
      | then-is_allowed+in-Err w ↦
          ap (λ b. search_of c.args.opened its b (drop (i + 1) shapes)) (w.furthest-is ∙ w.max-furthest.ensures) ∙
          sym (search_passes c.args.opened its f shapes i w.in-Err.place (omega arith) (sym w.if-is_allowed.ensures) (sym w.in-Err.ensures)) ∙
          c.loop-shape.invariant
      | else-is_allowed w ↦
          ap (λ b. search_of c.args.opened its b (drop (i + 1) shapes)) w.furthest-is ∙
          sym (search_skips c.args.opened its f shapes i (omega arith) (sym w.if-is_allowed.ensures)) ∙
          c.loop-shape.invariant
    ]

pub returns-in-Ok : goal.returns-in-Ok
returns-in-Ok c =
    ap Ok c.new.ensures ∙
    sym (search_finds c.args.opened (line_items c.args.line.now) c.loop-shape.furthest shapes c.loop-shape.shape-index c.in-Ok.numbers (omega arith) (sym c.if-is_allowed.ensures) (sym c.in-Ok.ensures)) ∙
    c.loop-shape.invariant

pub returns : goal.returns
returns c =
    sym (search_ends c.args.opened (line_items c.args.line.now) c.loop-shape.furthest shapes c.loop-shape.shape-index (omega arith)) ∙ c.loop-shape.invariant
