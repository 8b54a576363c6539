-- What the rules of tables say of a number list.
use Rattle.std.proofs.Common.{◌≡◌, ℕ, zero, suc, Bool, true, false, cond, ◌&&◌, List, [], ◌∷◌, take, set, ℤ, pos, negsuc, refl, ap}
use Rattle.plant.specs.Meaning.{has, within, put_meaning, with_number}
use Rattle.plant.specs.EntryTable.{list_meaning, entries_after_put}

-- Setting an entry sets the same entry of the first n.
pub take_of_set : {X : Type 0} (n : ℕ) (xs : List X) (i : ℕ) (y : X) → take n (set xs i y) ≡ set (take n xs) i y
take_of_set zero xs i y = refl
take_of_set (suc n) [] i y = refl
take_of_set (suc n) (x ∷ xs) zero y = refl
take_of_set (suc n) (x ∷ xs) (suc i) y = ap (λ l. x ∷ l) (take_of_set n xs i y)

-- The three ways of a put, as one value.
pub put_by_cases : (b c : Bool) (xs : List ℤ) (e : ℕ) (v : ℤ)
    → list_meaning (cond (b && c) (set xs e v) xs) ≡ cond b (cond c (with_number (list_meaning xs) e v) (list_meaning xs)) (list_meaning xs)
put_by_cases true true xs e v = ap (λ (ns : List ℤ). record { numbers = ns; lowest = negsuc 2_147_483_647; highest = pos 2_147_483_647 }) (take_of_set 256 xs e v)
put_by_cases true false xs e v = refl
put_by_cases false c xs e v = refl

pub put_is_entries : (xs : List ℤ) (e : ℕ) (v : ℤ) → list_meaning (entries_after_put xs e v) ≡ put_meaning (list_meaning xs) e v
put_is_entries xs e v = put_by_cases (has (list_meaning xs) e) (within (list_meaning xs) v) xs e v
