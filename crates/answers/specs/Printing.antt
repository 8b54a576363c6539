-- What a printed number is.
use Rattle.std.specs.Prelude.{◌≡◌, ℕ, ◌^◌, ◌<◌, Bool, List, ◌++◌, length, ℤ, pos, int_lt, slice_index_or}
use Rattle.std.specs.Int.Signed.{mag}
use Rattle.std.specs.Fmt.{signed_decimal}
use Rattle.items.specs.Numerals.{AllDigits, worth, sign_text, with_sign}

-- A text prints a number: digits that are worth it, a minus in front exactly if it is below 0, and no 0 in front of
-- other digits.
pub record Prints (number : ℤ) (text : List ℕ) : Type 0 where
  pub minus : Bool
  pub digits : List ℕ
  pub spelled : text ≡ sign_text minus ++ digits
  pub only : AllDigits digits
  pub some : 0 < length digits
  pub value : number ≡ with_sign minus (worth 0 digits)
  pub below : minus ≡ int_lt number (pos 0)
  pub no_zero : slice_index_or digits 0 0 ≡ 48 → length digits ≡ 1

-- Every number of 64 bits is printed right.
abbrev pub PrintsRight : Type 0
PrintsRight = (z : ℤ) → mag z < 2 ^ 63 → Prints z (signed_decimal z)
