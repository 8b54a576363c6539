-- What an image means: two bytes for the count, then two bytes for each element, the higher byte first.
use Rattle.std.specs.Prelude.{ℕ, zero, suc, ◌+◌, ◌-◌, ◌*◌, ◌/◌, ◌%◌, Bool, if◌then◌else◌, ◌&&◌, List, [], ◌∷◌, length, ℤ, pos, negsuc, Ok, Err, Result, ◌==◌, nat_le, nat_lt, slice_index, slice_set}
use Rattle.std.proofs.Common.{◌≡◌, refl, ap, arith, rules}
use Rattle.plant.specs.declared.refusals.Refusal.{Refusal}
use Rattle.plant.specs.declared.refusals.Refusal.TheVariants.{BadImage}
use Rattle.plant.specs.Meaning.{Meaning, IsBounded, has, within}

-- The 16-bit number in the two bytes from this place on, the higher byte first.
abbrev pub word_at : List ℕ → ℕ → ℕ
word_at bytes place = slice_index bytes place * 256 + slice_index bytes (place + 1)

-- The count that the first two bytes state.
abbrev pub stated_count : List ℕ → ℕ
stated_count bytes = word_at bytes 0

-- The bytes are an image: there are at least two, the stated count is at most 256, and the length fits it exactly.
abbrev pub is_image : List ℕ → Bool
is_image bytes = nat_le 2 (length bytes) && (nat_le (stated_count bytes) 256 && length bytes == 2 + 2 * stated_count bytes)

-- What the image check answers: the count, or that the bytes are no image.
abbrev pub image_check : List ℕ → Result ℕ Refusal
image_check bytes = if is_image bytes then Ok (stated_count bytes) else Err BadImage

-- Bytes that are no image open as a table with no elements.
abbrev pub image_count : List ℕ → ℕ
image_count bytes = if is_image bytes then stated_count bytes else 0

-- The place of an element's higher byte; its lower byte is the next.
abbrev pub cell_place : ℕ → ℕ
cell_place e = 2 + 2 * e

-- The signed number that 16 bits stand for in two's complement.
abbrev pub signed_16 : ℕ → ℤ
signed_16 bits = if nat_lt bits 32_768 then pos bits else negsuc (65_535 - bits)

-- The 16 bits that stand for a signed number in two's complement.
abbrev pub bits_16 : ℤ → ℕ
bits_16 (pos n) = n
bits_16 (negsuc n) = 65_535 - n

-- The number in an element's two bytes.
abbrev pub cell_number : List ℕ → ℕ → ℤ
cell_number bytes e = signed_16 (word_at bytes (cell_place e))

-- The list of what a function gives at 0, 1, 2 and so on, this many.
unfoldable pub first_values : ℕ → (ℕ → ℤ) → List ℤ
first_values zero f = []
first_values (suc n) f = f 0 ∷ first_values n (λ k. f (suc k))

pub length_first_values : (n : ℕ) (f : ℕ → ℤ) → length (first_values n f) ≡ n
unfolding first_values
length_first_values zero f = refl
length_first_values (suc n) f = ap suc (length_first_values n (λ k. f (suc k)))

-- The elements are the numbers in the image's cells, within the limits of 16 signed bits.
abbrev pub image_meaning : List ℕ → Meaning
image_meaning bytes = record { numbers = first_values (image_count bytes) (cell_number bytes); lowest = negsuc 32_767; highest = pos 32_767 }

pub image_is_bounded : (bytes : List ℕ) → IsBounded (image_meaning bytes)
image_is_bounded bytes = record { few = rw length_first_values (grind arith); low = search rules; ordered = search rules; high = search rules }

-- The bytes with a number in an element's cell.
abbrev pub with_cell : List ℕ → ℕ → ℤ → List ℕ
with_cell bytes e v = slice_set (slice_set bytes (cell_place e) (bits_16 v / 256)) (cell_place e + 1) (bits_16 v % 256)

-- What a put leaves: the element's own two bytes set, or every byte as it was where the put is refused.
abbrev pub bytes_after_put : List ℕ → ℕ → ℤ → List ℕ
bytes_after_put bytes e v = if has (image_meaning bytes) e && within (image_meaning bytes) v then with_cell bytes e v else bytes
