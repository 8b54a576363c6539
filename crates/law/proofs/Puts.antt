-- What a put leaves of a table.
use Rattle.std.proofs.Common.{◌≡◌, ℕ, Bool, true, false, cond, ltb, length, ℤ, pos, refl, ap}
use Rattle.std.proofs.lemmas.List.{get_or-set_same, get_or-set_other, length-set}
use Rattle.std.proofs.lemmas.Bool.{ltb-true}
use Rattle.plant.specs.Meaning.{Meaning, has, within, number, with_number, put_meaning}

-- Either the table with the number set, or the table as it was.
put_either : (P : Meaning → Type 0) (m : Meaning) (e : ℕ) (v : ℤ) → P (with_number m e v) → P m → P (put_meaning m e v)
put_either P m e v p q = by (has m e) (within m v)
  where
    by : (a b : Bool) → P (cond a (cond b (with_number m e v) m) m)
    by true true = p
    by true false = q
    by false b = q

pub put_length : (m : Meaning) (e : ℕ) (v : ℤ) → length (put_meaning m e v).numbers ≡ length m.numbers
put_length m e v = put_either (λ n. length n.numbers ≡ length m.numbers) m e v (length-set m.numbers e v) refl

pub put_has : (m : Meaning) (e : ℕ) (v : ℤ) (f : ℕ) → has (put_meaning m e v) f ≡ has m f
put_has m e v f = ap (λ n. ltb f n) (put_length m e v)

pub put_within : (m : Meaning) (e : ℕ) (v w : ℤ) → within (put_meaning m e v) w ≡ within m w
put_within m e v w = put_either (λ n. within n w ≡ within m w) m e v refl refl

pub put_here : (m : Meaning) (e : ℕ) (v : ℤ) → has m e ≡ true → within m v ≡ true → number (put_meaning m e v) e ≡ v
put_here m e v there inside = rw (there, inside) (get_or-set_same m.numbers e v (pos 0) (ltb-true e (length m.numbers) there))

pub put_other : (m : Meaning) (e : ℕ) (v : ℤ) (f : ℕ) → (f ≡ e → ⊥) → number (put_meaning m e v) f ≡ number m f
put_other m e v f n = put_either (λ x. number x f ≡ number m f) m e v (get_or-set_other m.numbers e f v (pos 0) n) refl
