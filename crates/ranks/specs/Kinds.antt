-- The two kinds of rank that are delivered, by which of two ranks is above the other.
use Rattle.std.specs.Prelude.{Bool, ◌&&◌, ◌||◌, ◌==◌, nat_lt}
use Rattle.ranks.specs.declared.Grade.{Grade}
use Rattle.ranks.specs.declared.Due.{Due}

-- The larger grade is above.
abbrev pub grade_above : Grade → Grade → Bool
grade_above a b = nat_lt b.0 a.0

-- Whoever is due earlier is above; of two due at the same minute, the one with the larger weight.
abbrev pub due_above : Due → Due → Bool
due_above a b = nat_lt a.minute b.minute || (a.minute == b.minute && nat_lt b.weight a.weight)
