-- What a number list means: which entry of the caller's list each element is, and what a put leaves there.
use Rattle.std.specs.Prelude.{ℕ, if◌then◌else◌, ◌&&◌, List, take, ℤ, pos, negsuc, slice_set}
use Rattle.std.proofs.Common.{arith, rules}
use Rattle.std.proofs.lemmas.List.{length-take}
use Rattle.plant.specs.Meaning.{Meaning, IsBounded, has, within}

-- The elements are the entries in their order, at most 256 of them, within the limits of 32 signed bits.
abbrev pub list_meaning : List ℤ → Meaning
list_meaning entries = record { numbers = take 256 entries; lowest = negsuc 2_147_483_647; highest = pos 2_147_483_647 }

pub list_is_bounded : (entries : List ℤ) → IsBounded (list_meaning entries)
list_is_bounded entries = record { few = rw length-take (omega arith); low = search rules; ordered = search rules; high = search rules }

-- What a put leaves: the element's own entry set, or every entry as it was where the put is refused.
abbrev pub entries_after_put : List ℤ → ℕ → ℤ → List ℤ
entries_after_put entries e v = if has (list_meaning entries) e && within (list_meaning entries) v then slice_set entries e v else entries
