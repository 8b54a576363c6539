use Rattle.std.proofs.Common.{rules}
use Rattle.std.proofs.lemmas.Int.{to_z-of_z}
use Rattle.correction.proofs.Refused.{refused_put}
use Rattle.correction.proofs.changes.change.Goals as goal

pub returns-in_err-put-clause-value : goal.returns-in_err-put-clause-value
returns-in_err-put-clause-value c =
    let fits = c.ranges.number in
    let put = simp to_z-of_z at c.in_err-put.ensures.value in
    search (rules, refused_put c.args.image.now.bytes.now c.args.element c.args.number c.in_err-put.field-0.0 put)
