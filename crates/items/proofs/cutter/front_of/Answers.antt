use Rattle.std.proofs.Common.{◌+◌, false, ◌∷◌, length, drop, Some, None, sym, ap, ◌∙◌, arith, w64, SFits, rules}
use Rattle.std.proofs.lemmas.Int.{to_z-of_z}
use Rattle.items.specs.Items.{number, run_of, items, behind}
use Rattle.items.specs.Numerals.{number_of}
use Rattle.items.proofs.Cutting.{run_first}
use Rattle.items.proofs.cutter.front_of.Goals as goal

pub returns-in-Some-clause-first : goal.returns-in-Some-clause-first
returns-in-Some-clause-first c = λ p.
    let e = run_first p c.args.bytes.now (Some c.in-Some.value) (omega arith) c.requires (omega arith) (omega arith) (c.in-Some.ensures.value ∙ ap number_of c.run_of-text.ensures) in
    let fits : SFits w64 c.in-Some.value = search rules in
    rw c.run_of-text.ensures (e ∙ ap (λ z. (p, number z) ∷ items false (p + length (run_of c.args.bytes.now)) (drop (length (run_of c.args.bytes.now)) c.args.bytes.now)) (sym (to_z-of_z w64 _ fits)))

pub returns-in-Some-clause-on : goal.returns-in-Some-clause-on
returns-in-Some-clause-on c = λ p. ap behind (returns-in-Some-clause-first c p)

pub returns-in-None-clause-first : goal.returns-in-None-clause-first
returns-in-None-clause-first c = λ p.
    let e = run_first p c.args.bytes.now None (omega arith) c.requires (omega arith) (omega arith) (c.in-None.ensures.value ∙ ap number_of c.run_of-text.ensures) in
    rw c.run_of-text.ensures e

pub returns-in-None-clause-on : goal.returns-in-None-clause-on
returns-in-None-clause-on c = λ p. ap behind (returns-in-None-clause-first c p)
