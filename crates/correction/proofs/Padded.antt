-- What a width in a format writes is what the listing's definitions say.
use Rattle.std.proofs.Common.{◌≡◌, ℕ, zero, suc, ◌-◌, ◌^◌, true, false, List, [], ◌∷◌, ◌++◌, length, replicate, ℤ, pos, negsuc, refl, ap, append_assoc, append-nil, arith}
use Rattle.std.proofs.lemmas.Bool.{le-ltb}
use lib.Utf8.{encode}
use Rattle.std.specs.List.{repeat}
use Rattle.std.specs.Int.{is_negative}
use Rattle.std.specs.Prelude.{unsigned_abs, decimal}
use Rattle.std.specs.Fmt.{padded_integral, number_padding, fill_after_digits, format_spec, signed_decimal, char_count}
use Rattle.correction.specs.Spoken.{right_aligned}

repeat_one : (n x : ℕ) → repeat n (x ∷ []) ≡ replicate n x
repeat_one zero x = refl
repeat_one (suc n) x = ap (λ l. x ∷ l) (repeat_one n x)

-- Fill, then a sign, then digits, and no fill behind them.
filled : (before after n : ℕ) (sign digits : List ℕ) → before ≡ n → after ≡ 0
    → (repeat before (32 ∷ []) ++ sign ++ [] ++ []) ++ (digits ++ repeat after (32 ∷ [])) ≡ replicate n 32 ++ (sign ++ digits)
filled before after n sign digits front back = rw (front, back) (simp (repeat_one, append-nil, append_assoc))

-- A number without a sign, and a negative one.
pub right_aligned_digits : (width : ℕ) (digits : List ℕ) → padded_integral (format_spec 32 3 0 width (2 ^ 64 - 1)) false [] digits ≡ right_aligned width digits
unfolding padded_integral char_count encode
right_aligned_digits width digits =
    let spec = format_spec 32 3 0 width (2 ^ 64 - 1) in
    filled (number_padding spec false [] (length digits)) (fill_after_digits spec false [] (length digits)) (width - length digits) [] digits (omega arith) (omega arith)

right_aligned_minus : (width : ℕ) (digits : List ℕ) → padded_integral (format_spec 32 3 0 width (2 ^ 64 - 1)) true [] digits ≡ right_aligned width (45 ∷ digits)
unfolding padded_integral char_count encode
right_aligned_minus width digits =
    let spec = format_spec 32 3 0 width (2 ^ 64 - 1) in
    filled (number_padding spec true [] (length digits)) (fill_after_digits spec true [] (length digits)) (width - length (45 ∷ digits)) (45 ∷ []) digits (omega arith) (omega arith)

pub right_aligned_number : (width : ℕ) (v : ℤ) → padded_integral (format_spec 32 3 0 width (2 ^ 64 - 1)) (is_negative v) [] (decimal (unsigned_abs v)) ≡ right_aligned width (signed_decimal v)
right_aligned_number width (pos n) =
    let plain : is_negative (pos n) ≡ false = le-ltb n 0 (omega arith) in
    rw plain (right_aligned_digits width (decimal n))
right_aligned_number width (negsuc n) = right_aligned_minus width (decimal (suc n))
