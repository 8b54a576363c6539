use Rattle.std.proofs.Common.{◌≡◌, ◌*◌, ◌<◌, ◌≤◌, take, drop, rules}
use Rattle.plant.specs.ByteTable.{image_count, word_at, cell_place}
use Rattle.plant.proofs.Cells.{get_none, get_is_cell, signed_is, get_or-first_chunks, cell_word}
use Rattle.plant.proofs.image.ImageTable.get.Goals as goal

pub returns-in_err-cell-clause-value : goal.returns-in_err-cell-clause-value
returns-in_err-cell-clause-value c =
    let none : image_count c.args.self.now.bytes.now ≤ c.args.element.0 = search (rules, c.cells.ensures.len) in
    search (rules, get_none c.args.self.now.bytes.now c.args.element.0 none)

pub returns : goal.returns
returns c =
    let bytes = c.args.self.now.bytes.now in
    let e = c.args.element.0 in
    let there : e < image_count bytes = search (rules, c.cells.ensures.len) in
    let is = get_is_cell bytes e there in
    let at : c.in_ok-cell.cell.now ≡ take 2 (drop (2 * e) (drop 2 bytes)) = search (rules, get_or-first_chunks) in
    let word = cell_word bytes c.in_ok-cell.cell.now e at in
    let fits : word_at bytes (cell_place e) < 65_536 = search rules in
    let signed = signed_is (word_at bytes (cell_place e)) fits in
    record { value = search (rules, is, signed, word); inside = search rules; cell = search (rules, signed, word) }
