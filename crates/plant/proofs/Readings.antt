-- What it says of a table that an element was read.
use Rattle.std.proofs.Common.{◌≡◌, ℕ, ◌<◌, Bool, true, false, cond, length, ℤ, Ok, Err, Result, refl, arith}
use Rattle.std.proofs.lemmas.Bool.{ltb-true}
use Rattle.plant.specs.declared.refusals.Refusal.{Refusal}
use Rattle.plant.specs.declared.refusals.Refusal.TheVariants.{NoSuchElement}
use Rattle.plant.specs.Meaning.{Meaning, has, get_answer}

read_there : (there : Bool) (v w : ℤ) (r : Refusal) → ◌≡◌ {A = Result ℤ Refusal} (Ok v) (cond there (Ok w) (Err r)) → there ≡ true
read_there true v w r h = refl
read_there false v w r h = let z : ◌≡◌ {A = ℕ} 0 1 = cc in absurd (omega arith)

pub read_below : (m : Meaning) (e : ℕ) (v : ℤ) → Ok v ≡ get_answer m e → e < length m.numbers
read_below m e v h = ltb-true e _ (read_there (has m e) v _ NoSuchElement h)
