-- What digits are worth, one more at a time.
use Rattle.std.proofs.Common.{◌≡◌, ℕ, zero, suc, ◌+◌, ◌-◌, ◌*◌, ◌^◌, ◌<◌, ◌≤◌, true, leb, List, [], ◌∷◌, ◌++◌, length, get_or, take, length-append, sym, refl, ap, ap₂, ◌∙◌, arith}
use native.Mathlib.Nat.{pow-le-pow_right}
use Rattle.std.specs.List.{list_all}
use Rattle.std.proofs.lemmas.Bool.{and_parts, and_from, leb-true}
use Rattle.std.proofs.lemmas.List.{take_all, take_more}
use Rattle.std.proofs.Math.Seq.{get_or-append_seam}
use Rattle.items.proofs.Scanning.{ten_more}
use Rattle.items.specs.Numerals.{is_digit, AllDigits, worth}

pub in_digits : (b : ℕ) → is_digit b ≡ true → (48 ≤ b) × (b ≤ 57)
in_digits b d = let p = and_parts (leb 48 b) (leb b 57) d in (leb-true 48 b p.0, leb-true b 57 p.1)

pub digit_at : (text : List ℕ) (k d : ℕ) → AllDigits text → k < length text → is_digit (get_or text k d) ≡ true
digit_at [] k d a h = absurd (omega arith)
digit_at (b ∷ bs) zero d a h = a.0
digit_at (b ∷ bs) (suc k) d a h = digit_at bs k d a.1 (omega arith)

pub digits_taken : (text : List ℕ) (k : ℕ) → AllDigits text → AllDigits (take k text)
digits_taken text zero a = tt
digits_taken [] (suc k) a = tt
digits_taken (b ∷ bs) (suc k) a = (a.0, digits_taken bs k a.1)

pub worth-push : (v : ℕ) (xs : List ℕ) (b : ℕ) → worth v (xs ++ b ∷ []) ≡ 10 * worth v xs + (b - 48)
worth-push v [] b = refl
worth-push v (x ∷ xs) b = worth-push (10 * v + (x - 48)) xs b

-- with digits worth less than ten to the n in front, m in all are worth less than ten to the m
worth_low : (v n m : ℕ) (xs : List ℕ) → AllDigits xs → v < 10 ^ n → n + length xs ≤ m → worth v xs < 10 ^ m
worth_low v n m [] a h l = let p : 10 ^ n ≤ 10 ^ m = pow-le-pow_right (omega arith) (omega arith) in omega arith
worth_low v n m (x ∷ xs) a h l =
    let d = in_digits x a.0 in
    let more = ten_more n v (x - 48) h (omega arith) in
    worth_low (10 * v + (x - 48)) (n + 1) m xs a.1 more (omega arith)

pub worth_below : (m : ℕ) (xs : List ℕ) → AllDigits xs → length xs ≤ m → worth 0 xs < 10 ^ m
worth_below m xs a h = worth_low 0 0 m xs a (omega arith) (omega arith)

-- the test of all digits and the fact
pub digits_all : (xs : List ℕ) → list_all is_digit xs ≡ true → AllDigits xs
digits_all [] e = tt
digits_all (x ∷ xs) e = let p = and_parts (is_digit x) (list_all is_digit xs) e in (p.0, digits_all xs p.1)

pub all_digits : (xs : List ℕ) → AllDigits xs → list_all is_digit xs ≡ true
all_digits [] a = refl
all_digits (x ∷ xs) a = and_from (is_digit x) (list_all is_digit xs) a.0 (all_digits xs a.1)

-- a text and its last byte
pub split_last : (text : List ℕ) (b : ℕ) → 1 ≤ length text → get_or text (length text - 1) 0 ≡ b → text ≡ take (length text - 1) text ++ b ∷ []
split_last text b h e =
    let all : length text - 1 + 1 ≡ length text = omega arith in
    sym (take_all (length text) text (omega arith)) ∙ ap (λ n. take n text) (sym all) ∙ take_more text (length text - 1) 0 (omega arith) ∙
    ap (λ x. take (length text - 1) text ++ x ∷ []) e

pub last_push : (text xs : List ℕ) (b : ℕ) → text ≡ xs ++ b ∷ [] → get_or text (length text - 1) 0 ≡ b
last_push text xs b e =
    let long : length text - 1 ≡ length xs = omega (arith, ap length e, length-append xs (b ∷ [])) in
    ap₂ (λ t n. get_or t n 0) e long ∙ get_or-append_seam xs b [] 0
