-- Looking through the numbers below a bound, and setting one place of a function.
use Rattle.std.specs.Prelude.{ℕ, zero, suc, ◌+◌, Bool, false, cond, ◌||◌, Some, None, Option, ◌==◌}

-- The function with one place set.
abbrev pub at : {X : Type 0} → (ℕ → X) → ℕ → X → ℕ → X
at f k x q = cond (q == k) x (f q)

-- Whether some number below n passes the test.
unfoldable pub some_below : ℕ → (ℕ → Bool) → Bool
some_below zero p = false
some_below (suc n) p = some_below n p || p n

-- How many numbers below n pass the test.
unfoldable pub count_below : ℕ → (ℕ → Bool) → ℕ
count_below zero p = 0
count_below (suc n) p = count_below n p + cond (p n) 1 0

-- The first found, or else this one if it passes.
abbrev pub first_or : Option ℕ → Bool → ℕ → Option ℕ
first_or (Some k) b n = Some k
first_or None b n = cond b (Some n) None

-- The lowest number below n that passes the test.
unfoldable pub first_below : ℕ → (ℕ → Bool) → Option ℕ
first_below zero p = None
first_below (suc n) p = first_or (first_below n p) (p n) n
