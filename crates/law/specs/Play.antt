-- The play: the entries of an order make their steps one after another on the table's numbers.
use Rattle.std.specs.Prelude.{◌≡◌, ℕ, List, [], ◌∷◌, ◌++◌, ℤ}
use Rattle.rules.specs.Scans.{at}
use Rattle.law.specs.Order.{Step, reads, sets, Entry}

-- A read leaves the numbers, a change or hard write sets its element's.
abbrev pub after_step : (ℕ → ℤ) → Step → ℕ → ℤ
after_step f (reads e v) = f
after_step f (sets e v) = at f e v

-- The numbers after a list of steps.
abbrev pub after_steps : (ℕ → ℤ) → List Step → ℕ → ℤ
after_steps f [] = f
after_steps f (x ∷ xs) = after_steps (after_step f x) xs

-- A read is right if its element's number is the one that was answered.
abbrev pub RightStep : (ℕ → ℤ) → Step → Type 0
RightStep f (reads e v) = f e ≡ v
RightStep f (sets e v) = Unit {0}

-- Every read of a list of steps is right.
abbrev pub Right : (ℕ → ℤ) → List Step → Type 0
Right f [] = Unit {0}
Right f (x ∷ xs) = RightStep f x × Right (after_step f x) xs

-- The steps of an order: each entry makes its own in one go.
abbrev pub all_steps : List Entry → List Step
all_steps [] = []
all_steps (x ∷ xs) = x.steps ++ all_steps xs
