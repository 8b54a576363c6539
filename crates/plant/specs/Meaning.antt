-- What a table means, and what get and put answer and leave, by that meaning.
use Rattle.std.specs.Prelude.{ℕ, ◌≤◌, Bool, if◌then◌else◌, not, ◌&&◌, List, length, ℤ, pos, negsuc, ◌≤ℤ◌, Ok, Err, Result, int_lt, nat_lt, slice_index_or, slice_set}
use Rattle.plant.specs.declared.refusals.Refusal.{Refusal}
use Rattle.plant.specs.declared.refusals.Refusal.TheVariants.{NoSuchElement, NumberOutsideLimits}

-- A table is a list of whole numbers, its elements numbered from 0, with a lowest and a highest number.
pub record Meaning : Type 0 where
  pub numbers : List ℤ
  pub lowest : ℤ
  pub highest : ℤ

-- A table has at most 256 elements, and its limits are in order and within 10^12.
pub record IsBounded (m : Meaning) : Type 0 where
  pub few : length m.numbers ≤ 256
  pub low : negsuc 999_999_999_999 ≤ℤ m.lowest
  pub ordered : m.lowest ≤ℤ m.highest
  pub high : m.highest ≤ℤ pos 1_000_000_000_000

-- Whether a table has an element of this number.
abbrev pub has : Meaning → ℕ → Bool
has m e = nat_lt e (length m.numbers)

-- Whether a number lies within a table's limits, both included.
abbrev pub within : Meaning → ℤ → Bool
within m v = not (int_lt v m.lowest) && not (int_lt m.highest v)

-- The number of an element that the table has.
abbrev pub number : Meaning → ℕ → ℤ
number m e = slice_index_or m.numbers e (pos 0)

-- The table with one number set.
abbrev pub with_number : Meaning → ℕ → ℤ → Meaning
with_number m e v = record { numbers = slice_set m.numbers e v; lowest = m.lowest; highest = m.highest }

-- What get answers: the element's number, or that there is no such element.
abbrev pub get_answer : Meaning → ℕ → Result ℤ Refusal
get_answer m e = if has m e then Ok (number m e) else Err NoSuchElement

-- What put answers: first whether there is such an element, then whether the number lies within the limits.
abbrev pub put_answer : Meaning → ℕ → ℤ → Result (Unit {0}) Refusal
put_answer m e v = if has m e then (if within m v then Ok tt else Err NumberOutsideLimits) else Err NoSuchElement

-- What put leaves: that element set and no other, or the table as it was where put is refused.
abbrev pub put_meaning : Meaning → ℕ → ℤ → Meaning
put_meaning m e v = if has m e then (if within m v then with_number m e v else m) else m
