use Rattle.std.proofs.Common.{◌≡◌, ◌+◌, ◌-◌, ◌*◌, ◌<◌, true, ap, ◌∙◌, refl, arith, rules}
use Rattle.plant.specs.ByteTable.{image_count, image_meaning}
use Rattle.plant.specs.Meaning.{within}
use Rattle.plant.proofs.Cells.{put_is_bytes, has_cell, put_written, got_below}
use Rattle.plant.proofs.image.ImageTable.put.Goals as goal

pub slice_bounds-copy_from_slice-end : goal.slice_bounds-copy_from_slice-end
slice_bounds-copy_from_slice-end c =
    let bytes = c.args.self.now.bytes.now in
    let e = c.args.element.0 in
    let there = has_cell bytes e (got_below bytes e _ c.in_ok-get.ensures.value) in
    omega (arith, there, c.from.ensures)

pub returns : goal.returns
returns c =
    let bytes = c.args.self.now.bytes.now in
    let e = c.args.element.0 in
    let v = c.args.number in
    let there : e < image_count bytes = got_below bytes e _ c.in_ok-get.ensures.value in
    let inside : within (image_meaning bytes) v ≡ true = search rules in
    let place = 2 + 2 * c.from.result in
    let set = put_written bytes c.copy_from_slice.new.self e place (place + 2 - place) v (omega (arith, c.from.ensures)) (omega arith) there inside (search rules) in
    record { value = search rules; after = ap image_meaning set ∙ put_is_bytes bytes e v; bytes = set; lender = refl }
