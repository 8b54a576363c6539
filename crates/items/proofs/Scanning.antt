-- The number scan, one byte on.
use Rattle.std.proofs.Common.{◌≡◌, ℕ, ◌+◌, ◌-◌, ◌*◌, ◌^◌, ◌<◌, ◌≤◌, cond, eqb, List, length, get_or, drop, Some, None, arith, length-drop, pow-add}
use native.Mathlib.Nat.{pow-le-pow_right}
use Rattle.std.proofs.lemmas.List.{at_drop_more, at_drop_all}
use Rattle.items.specs.Numerals.{scan, is_digit}

pub scan_more : (n v : ℕ) (xs : List ℕ) (i : ℕ) → i < length xs →
    scan n v (drop i xs) ≡
    cond (is_digit (get_or xs i 0)) (cond (eqb n 10) None (scan (n + 1) (10 * v + (get_or xs i 0 - 48)) (drop (i + 1) xs)))
    (cond (eqb (get_or xs i 0) 107) (cond (eqb n 0) None (cond (eqb (length xs - (i + 1)) 0) (Some (1000 * v)) None)) None)
scan_more n v xs i h = rw (← length-drop (i + 1) xs) (at_drop_more (scan n v) xs i 0 h)

-- ten digits are worth less than ten to the tenth
pub ten_more : (n v d : ℕ) → v < 10 ^ n → d < 10 → 10 * v + d < 10 ^ (n + 1)
ten_more n v d h l = omega (arith, pow-add 10 n 1)

pub ten_at_most : (n v : ℕ) → v < 10 ^ n → n ≤ 10 → v < 10000000000
ten_at_most n v h l = let p : 10 ^ n ≤ 10 ^ 10 = pow-le-pow_right (omega arith) l in omega arith

pub scan_end : (n v : ℕ) (xs : List ℕ) (i : ℕ) → length xs ≤ i → scan n v (drop i xs) ≡ cond (eqb n 0) None (Some v)
scan_end n v xs i h = at_drop_all (scan n v) xs i h
