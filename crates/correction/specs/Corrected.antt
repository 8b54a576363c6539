-- What the correction of one number of an image answers.
use Rattle.std.specs.Prelude.{ℕ, if◌then◌else◌, List, ℤ, Ok, Err, Result}
use Rattle.plant.specs.declared.refusals.Refusal.{Refusal}
use Rattle.plant.specs.declared.refusals.Refusal.TheVariants.{BadImage, NoSuchElement, NumberOutsideLimits}
use Rattle.plant.specs.declared.tables.Element.{Element}
use Rattle.plant.specs.Meaning.{has, within}
use Rattle.plant.specs.ByteTable.{is_image, image_meaning, cell_number}
use Rattle.correction.specs.declared.changes.Correction.{Correction}

-- At an image: the element with its number before and after, or the refusal of the element or of the number, in this order.
abbrev pub change_answer : List ℕ → Element → ℤ → Result Correction Refusal
change_answer bytes e v =
    if has (image_meaning bytes) e.0
    then (if within (image_meaning bytes) v then Ok (record { element = e; before = cell_number bytes e.0; after = v }) else Err NumberOutsideLimits)
    else Err NoSuchElement

-- At any bytes: first whether they are an image.
abbrev pub correct_answer : List ℕ → Element → ℤ → Result Correction Refusal
correct_answer bytes e v = if is_image bytes then change_answer bytes e v else Err BadImage
