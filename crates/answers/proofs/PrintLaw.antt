-- Numbers are printed right.
use Rattle.std.proofs.Common.{◌≡◌, ℕ, suc, ◌^◌, ◌<◌, true, false, length, get_or, pos, negsuc, neg_ℤ, decimal, sym, refl, ap, ⊎_elim, arith, rules}
use Rattle.std.proofs.lemmas.Bool.{le-ltb, cases_lt}
use Rattle.std.proofs.lemmas.Str.Parse.{IsNumeralModel, numerals_by_fold}
use Rattle.std.proofs.lemmas.Fmt.{digits_decimal, digits_value-decimal, decimal_nonempty, decimal_digit, first_decimal}
use Rattle.items.specs.Numerals.{AllDigits, worth}
use Rattle.answers.specs.Printing.{PrintsRight}

own : IsNumeralModel AllDigits (worth 0)
own = numerals_by_fold _ (search rules) worth (search rules)

no_zero : (n : ℕ) → n < 2 ^ 64 → get_or (decimal n) 0 0 ≡ 48 → length (decimal n) ≡ 1
no_zero n h e = ⊎_elim (λ l. ap length (decimal_digit n (omega arith))) (λ l. absurd (omega (arith, first_decimal n l h))) (cases_lt n 1)

pub prints_right : PrintsRight
prints_right (pos n) h = record {
  minus = false;
  digits = decimal n;
  spelled = refl;
  only = digits_decimal own n (omega arith);
  some = decimal_nonempty n (omega arith);
  value = ap pos (sym (digits_value-decimal own n (omega arith)));
  below = sym (le-ltb n 0 (omega arith));
  no_zero = no_zero n (omega arith);
}
prints_right (negsuc n) h = record {
  minus = true;
  digits = decimal (suc n);
  spelled = refl;
  only = digits_decimal own (suc n) (omega arith);
  some = decimal_nonempty (suc n) (omega arith);
  value = ap (λ k. neg_ℤ (pos k)) (sym (digits_value-decimal own (suc n) (omega arith)));
  below = refl;
  no_zero = no_zero (suc n) (omega arith);
}
