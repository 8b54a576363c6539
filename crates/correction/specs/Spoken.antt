-- What people write and read: element numbers, numbers and lines.
use Rattle.std.specs.Prelude.{ℕ, ◌-◌, ◌^◌, ◌<◌, List, ◌++◌, length, replicate, ℤ, SomeIff, codes, decimal, Option, FitsSigned}
use Rattle.std.specs.Int.{w64}
use Rattle.std.specs.Str.Parse.{IsNumeral, digits_value, without_leading_plus, without_leading_sign, signed_digits_value}
use Rattle.std.specs.Fmt.{signed_decimal}
use Rattle.plant.specs.declared.tables.Element.{Element}
use Rattle.correction.specs.declared.changes.Correction.{Correction}

-- An element number is decimal digits, perhaps behind a plus sign, and below 65,536; any other text is none.
abbrev pub ReadsElement : List ℕ → Option Element → Type 0
ReadsElement text read =
    SomeIff read (IsNumeral 10 (without_leading_plus text) × (digits_value 10 (without_leading_plus text) < 2 ^ 16))
    (record { 0 = digits_value 10 (without_leading_plus text) })

-- A number is decimal digits, perhaps behind a sign, within 64 signed bits; any other text is none.
abbrev pub ReadsNumber : List ℕ → Option ℤ → Type 0
ReadsNumber text read =
    SomeIff read (IsNumeral 10 (without_leading_sign text) × FitsSigned w64 (signed_digits_value 10 text)) (signed_digits_value 10 text)

-- A text behind as many spaces as bring it to a width; a longer text stays as it is.
abbrev pub right_aligned : ℕ → List ℕ → List ℕ
right_aligned width text = replicate (width - length text) 32 ++ text

-- A line of the listing: the element in five places, a colon, and its number in seven.
abbrev pub line_of : ℕ → ℤ → List ℕ
line_of e v = right_aligned 5 (decimal e) ++ (codes ":" ++ right_aligned 7 (signed_decimal v))

-- What a correction says it did.
abbrev pub correction_text : Correction → List ℕ
correction_text c =
    codes "element " ++ decimal c.element.0 ++ codes ": " ++ signed_decimal c.before ++ codes " -> " ++ signed_decimal c.after
