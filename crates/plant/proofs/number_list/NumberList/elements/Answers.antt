use Rattle.std.proofs.Common.{◌≡◌, min, length, ◌∙◌, ap, take, arith}
use Rattle.std.proofs.lemmas.List.{take_min}
use Rattle.plant.proofs.number_list.NumberList.elements.Goals as goal

pub returns-clause-entries : goal.returns-clause-entries
returns-clause-entries c =
    let xs = c.args.self.now.entries.now in
    let few : c.min.result ≡ min 256 (length xs) = omega (arith, c.min.ensures) in
    ap (λ n. take n xs) few ∙ take_min 256 xs
