-- What a refused put says of the answer to a change.
use Rattle.std.proofs.Common.{◌≡◌, ℕ, Bool, true, false, cond, List, ℤ, Ok, Err, Result, arith}
use Rattle.plant.specs.declared.refusals.Refusal.{Refusal}
use Rattle.plant.specs.declared.refusals.Refusal.TheVariants.{NoSuchElement, NumberOutsideLimits}
use Rattle.plant.specs.declared.tables.Element.{Element}
use Rattle.plant.specs.ByteTable.{image_meaning, cell_number}
use Rattle.plant.specs.Meaning.{has, within, put_answer}
use Rattle.correction.specs.Corrected.{change_answer}

-- Two chains of the same tests refuse alike.
pub refused_alike : {X Y : Type 0} (a b : Bool) (x : X) (y : Y) (p q r : Refusal)
    → ◌≡◌ {A = Result X Refusal} (Err r) (cond a (cond b (Ok x) (Err p)) (Err q)) → ◌≡◌ {A = Result Y Refusal} (Err r) (cond a (cond b (Ok y) (Err p)) (Err q))
refused_alike true true x y p q r h = let z : ◌≡◌ {A = ℕ} 0 1 = cc in absurd (omega arith)
refused_alike true false x y p q r h = cc
refused_alike false b x y p q r h = cc

pub refused_put : (bs : List ℕ) (e : Element) (v : ℤ) (r : Refusal) → Err r ≡ put_answer (image_meaning bs) e.0 v → Err r ≡ change_answer bs e v
refused_put bs e v r h =
    refused_alike (has (image_meaning bs) e.0) (within (image_meaning bs) v) tt
    (record { element = e; before = cell_number bs e.0; after = v }) NumberOutsideLimits NoSuchElement r h
