use Rattle.std.proofs.Common.{◌≡◌, ap, ◌∙◌, slice_set, w32, to_z, of_z, arith, rules}
use Rattle.std.proofs.lemmas.List.{length-take}
use Rattle.plant.specs.EntryTable.{list_meaning, entries_after_put}
use Rattle.plant.proofs.Entries.{put_is_entries}
use Rattle.plant.proofs.Readings.{read_below}
use Rattle.plant.proofs.number_list.NumberListTable.put.Goals as goal

pub bounds-self-from : goal.bounds-self-from
bounds-self-from c =
    let entries = c.args.self.now.entries.now in
    let there = read_below (list_meaning entries) c.args.element.0 _ c.in_ok-get.ensures.value in
    omega (arith, there, length-take 256 entries, c.from.ensures)

pub returns-clause-after : goal.returns-clause-after
returns-clause-after c =
    let entries = c.args.self.now.entries.now in
    let set : slice_set entries c.from.result (to_z w32 (of_z w32 c.in_ok-number.number)) ≡ entries_after_put entries c.args.element.0 c.args.number = search rules in
    ap list_meaning set ∙ put_is_entries entries c.args.element.0 c.args.number
