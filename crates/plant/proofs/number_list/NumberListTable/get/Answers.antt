use Rattle.std.proofs.Common.{pos, rules}
use Rattle.std.proofs.lemmas.List.{get_or-take, length-take}
use Rattle.plant.proofs.number_list.NumberListTable.get.Goals as goal

pub returns-clause-entry : goal.returns-clause-entry
returns-clause-entry c =
    let t = get_or-take 256 c.args.self.now.entries.now c.args.element.0 (pos 0) in
    search (rules, t, length-take 256 c.args.self.now.entries.now)
