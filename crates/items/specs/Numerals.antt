-- What a number is in a script line.
use Rattle.std.specs.Prelude.{◌≡◌, ℕ, ◌+◌, ◌-◌, ◌*◌, ◌≤◌, Bool, true, false, cond, ◌&&◌, List, [], ◌∷◌, ◌++◌, length, ℤ, pos, neg_ℤ, Some, None, Option, ◌==◌, nat_le}
use Rattle.std.specs.Option.{option_map}

-- A byte that is a decimal digit.
abbrev pub is_digit : ℕ → Bool
is_digit b = nat_le 48 b && nat_le b 57

-- All bytes of a text are digits.
abbrev pub AllDigits : List ℕ → Type 0
AllDigits [] = Unit {0}
AllDigits (b ∷ bs) = (is_digit b ≡ true) × AllDigits bs

-- A text is one to ten digits.
pub record OneToTenDigits (text : List ℕ) : Type 0 where
  pub only : AllDigits text
  pub some : 1 ≤ length text
  pub few : length text ≤ 10

-- What digits are worth behind others that are worth v.
abbrev pub worth : ℕ → List ℕ → ℕ
worth v [] = v
worth v (b ∷ bs) = worth (10 * v + (b - 48)) bs

-- The sign in front: a minus or nothing.
abbrev pub sign_text : Bool → List ℕ
sign_text true = 45 ∷ []
sign_text false = []

-- The letter behind: a k or nothing.
abbrev pub kilo_text : Bool → List ℕ
kilo_text true = 107 ∷ []
kilo_text false = []

-- The letter k makes thousands.
abbrev pub in_thousands : Bool → ℕ → ℕ
in_thousands true n = 1000 * n
in_thousands false n = n

-- A minus turns the number round; minus 0 is 0.
abbrev pub with_sign : Bool → ℕ → ℤ
with_sign true n = neg_ℤ (pos n)
with_sign false n = pos n

-- A text is a number: a minus or none, one to ten digits, and a k or none. It is worth what the digits are worth,
-- in thousands with a k, below 0 with a minus.
pub record Numeral (text : List ℕ) (number : ℤ) : Type 0 where
  pub minus : Bool
  pub digits : List ℕ
  pub kilo : Bool
  pub spelled : text ≡ sign_text minus ++ (digits ++ kilo_text kilo)
  pub plain : OneToTenDigits digits
  pub value : number ≡ with_sign minus (in_thousands kilo (worth 0 digits))

-- The size that is written by n digits worth v, the rest of the digits, and a k or none.
abbrev pub scan : ℕ → ℕ → List ℕ → Option ℕ
scan n v [] = cond (n == 0) None (Some v)
scan n v (b ∷ bs) =
    cond (is_digit b) (cond (n == 10) None (scan (n + 1) (10 * v + (b - 48)) bs))
    (cond (b == 107) (cond (n == 0) None (cond (length bs == 0) (Some (1000 * v)) None)) None)

-- The number that a text is, if it is one.
abbrev pub number_of : List ℕ → Option ℤ
number_of [] = None
number_of (b ∷ bs) = cond (b == 45) (option_map (λ n. neg_ℤ (pos n)) (scan 0 0 bs)) (option_map pos (scan 0 0 (b ∷ bs)))
