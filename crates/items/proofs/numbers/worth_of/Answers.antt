use Rattle.std.proofs.Common.{◌≡◌, ◌*◌, ◌^◌, ◌<◌, length, take, ◌+◌, ◌-◌, [], ◌∷◌, ◌++◌, Some, map, pos, ℤ, List, ℕ, refl, sym, ap, ◌∙◌, arith, rules}
use Rattle.std.proofs.lemmas.List.{length-take-le, map-append}
use Rattle.std.proofs.lemmas.Fn.{serves_by, fold_over, fronts}
use Rattle.std.proofs.lemmas.Iterator.{YieldsList-from_slice}
use Rattle.std.proofs.lemmas.Iterator.Consumers.{YieldsList-so_far, YieldsList-turn}
use Rattle.items.specs.Numerals.{is_digit, worth}
use Rattle.items.proofs.Digits.{in_digits, digit_at, digits_taken, worth-push, worth_below}
use Rattle.items.proofs.numbers.worth_of.Goals as goal
use Rattle.items.proofs.numbers.worth_of.Goals.{After-fold}

-- what the digits so far are worth, where that is less than ten to the ten
abbrev IsWorth : List ℕ → ℤ → Type 0
IsWorth bytes w = worth 0 bytes < 10 ^ 10 → w ≡ pos (worth 0 bytes)

pub fold-requires-clause-callable : goal.fold-requires-clause-callable
fold-requires-clause-callable c =
    serves_by _ (λ xs q. IsWorth (map (λ y. y.now) xs) q.1)
    (λ xs q x v j k h.
    let bytes = map (λ y. y.now) xs in
    let split : worth 0 (map (λ y. y.now) (xs ++ x ∷ [])) ≡ 10 * worth 0 bytes + (x.now - 48) = ap (worth 0) (map-append (λ y. y.now) xs (x ∷ [])) ∙ worth-push 0 bytes x.now in
    let before : q.1 ≡ pos (worth 0 bytes) = j (omega arith) in
    let more : v.1 ≡ pos (10 * worth 0 bytes + (x.now - 48)) = search rules in
    more ∙ ap pos (sym split))
    _ _ _ _ (λ h. refl)
    (λ xs t q x u y s j.
    let text = c.args.digits.now in
    let all = YieldsList-from_slice text c.iter.ensures.rest in
    let at = YieldsList-turn all xs t y (Some x) u x refl s in
    let d = in_digits x.now (ap is_digit at.1 ∙ digit_at text (length xs) x.now c.requires.only at.0) in
    let so_far = YieldsList-so_far all xs t y in
    let low : worth 0 (map (λ y. y.now) xs) < 10 ^ 9 = rw so_far (worth_below 9 (take (length xs) text) (digits_taken text (length xs) c.requires.only) (omega (arith, length-take-le (length xs) text))) in
    let before : q.1 ≡ pos (worth 0 (map (λ y. y.now) xs)) = j (omega arith) in
    search rules)

found : (c : After-fold) → (c.fold.result ≡ pos (worth 0 c.args.digits.now)) × (worth 0 c.args.digits.now < 10 ^ 10)
found c =
    let few = worth_below 10 c.args.digits.now c.requires.only c.requires.few in (
      fold_over fronts (λ y. y.now) _ IsWorth _ (λ ys a x b q j k. (
        λ h.
            let split = worth-push 0 ys x.now in
            let small : worth 0 (ys ++ x.now ∷ []) < 10 ^ 10 = h in
            let before : a ≡ pos (worth 0 ys) = j (omega arith) in
            let more : b ≡ pos (10 * worth 0 ys + (x.now - 48)) = search rules in
            more ∙ ap pos (sym split),
        search rules,
      )) c.iter.result _ _ _ (YieldsList-from_slice {s = c.iter.result} c.args.digits.now c.iter.ensures.rest).runs (λ h. refl) c.fold.ensures.ran few,
      few,
    )

pub returns-clause-value : goal.returns-clause-value
returns-clause-value c = let f = found c in search rules

pub returns-clause-bound : goal.returns-clause-bound
returns-clause-bound c = (found c).1
