use Rattle.std.proofs.Common.{◌≡◌, tests, true, rules}
use Rattle.std.specs.List.{list_all}
use Rattle.std.proofs.lemmas.Iterator.{YieldsList-from_slice}
use Rattle.std.proofs.lemmas.Iterator.Search.{all_from_yields_List}
use Rattle.items.specs.Numerals.{is_digit}
use Rattle.items.proofs.Digits.{digits_all, all_digits}
use Rattle.items.proofs.numbers.is_plain.Goals as goal

pub returns-then-contains : goal.returns-then-contains
returns-then-contains c =
    let text = c.args.text.now in
    let all : c.all.result ≡ list_all is_digit text = all_from_yields_List is_digit _ _ _ c.all.ensures.ran (YieldsList-from_slice text cc) (λ x b q k. search (rules, tests)) in
    (λ yes. record { only = digits_all text (let yes' : c.all.result ≡ true = search rules in cc); some = search rules; few = search rules }, λ d. let plain = all_digits text d.only in let yes : c.all.result ≡ true = cc in search rules)
