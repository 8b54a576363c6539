use Rattle.std.proofs.Common.{◌≡◌, ◌-◌, ◌*◌, true, [], ◌∷◌, ◌++◌, length, take, Some, pos, sym, ap, ◌∙◌, length-append, arith}
use Rattle.std.proofs.lemmas.Bool.{ltb-true}
use Rattle.std.specs.Option.{option_map}
use Rattle.std.proofs.lemmas.Int.{ints}
use Rattle.items.specs.Numerals.{scan, worth}
use Rattle.items.proofs.Digits.{split_last, last_push}
use Rattle.items.proofs.NumberLaw.{size_complete, size_none, plain_law}
use Rattle.items.proofs.numbers.magnitude.Goals as goal
use Rattle.items.proofs.numbers.magnitude.Goals.{in_default-via-then-text-lt1, in_default-via-else-text-lt1+in_default-1}

pub returns-in_err-plain_size-in-107-clause-value : goal.returns-in_err-plain_size-in-107-clause-value
returns-in_err-plain_size-in-107-clause-value c =
    let text = c.args.text.now in
    let kilo : text ≡ take (length text - 1) text ++ 107 ∷ [] = split_last text 107 (omega arith) (omega arith) in
    c.from_residual.ensures ∙ ap (option_map pos) (size_none (take (length text - 1) text) true (λ e zs f. absurd (cc)) c.in_err-plain_size-in-107.ensures.value ∙ ap (scan 0 0) (sym kilo))

pub returns-in_ok-plain_size-in-107-clause-value : goal.returns-in_ok-plain_size-in-107-clause-value
returns-in_ok-plain_size-in-107-clause-value c =
    let text = c.args.text.now in
    let kilo : text ≡ take (length text - 1) text ++ 107 ∷ [] = split_last text 107 (omega arith) (omega arith) in
    let plain = c.in_ok-plain_size-in-107.ensures.value in
    let found : option_map pos (scan 0 0 text) ≡ Some (pos (1000 * worth 0 (take (length text - 1) text))) = ap (option_map pos) (ap (scan 0 0) kilo ∙ size_complete (take (length text - 1) text) true plain.0) in
    let low = c.in_ok-plain_size-in-107.ensures.bound in
    rw found (ap Some (omega (arith, ints, plain.1)))

pub returns-in_default-clause-value : goal.returns-in_default-clause-value
returns-in_default-clause-value c = elim c.in_default.branch [
  | in_default-via-then-text-lt1 w ↦ plain_law c.args.text.now _ (λ zs e. absurd (omega (arith, ltb-true, ap length e, length-append zs (107 ∷ [])))) c.plain_size-in_default.ensures.value
  | in_default-via-else-text-lt1+in_default-1 w ↦ plain_law c.args.text.now _ (λ zs e. let k = last_push c.args.text.now zs 107 e in absurd (omega arith)) c.plain_size-in_default.ensures.value
]
