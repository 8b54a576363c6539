-- What a table that can hold only 0 means.
use Rattle.std.specs.Prelude.{List, [], ◌∷◌, ℤ, pos}
use Rattle.plant.specs.Meaning.{Meaning}

-- Three elements, each 0.
abbrev pub zeros : List ℤ
zeros = pos 0 ∷ pos 0 ∷ pos 0 ∷ []

-- The lowest number and the highest are both 0.
abbrev pub zero_meaning : Meaning
zero_meaning = record { numbers = zeros; lowest = pos 0; highest = pos 0 }
