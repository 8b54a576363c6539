-- How the reader goes through the shapes. What it finds is said by Reading; its promise ties the two.
use Rattle.std.specs.Prelude.{ℕ, max, Bool, true, false, cond, List, [], ◌∷◌, length, Ok, Err, Option, Result, nat_lt}
use Rattle.std.specs.Str.{bytes_eq}
use Rattle.items.specs.Items.{Mark, opening, closing, word, number, line_end, behind}
use Rattle.forms.specs.Shapes.{spell, parts_of, shapes, allows}
use Rattle.forms.specs.Forms.{in_range, blank, form_of}
use Rattle.script.specs.Reading.{noted_at, line_items, in_turn}
use Rattle.forms.specs.declared.shapes.RankKind.{RankKind}
use Rattle.forms.specs.declared.shapes.Part.{Part}
use Rattle.forms.specs.declared.shapes.Shape.{Shape}
use Rattle.forms.specs.declared.makers.Form.{Form}
use Rattle.forms.specs.declared.makers.Numbers.{Numbers}
use Rattle.script.specs.declared.reader.Fault.{Fault}
use Rattle.plant.specs.declared.refusals.Refusal.{Refusal}

-- Whether an item fits a part of a shape: the same bracket, the same word, a number in its range, or the line's end.
abbrev pub fits : Part → Mark → Bool
fits Part.Open opening = true
fits Part.Close closing = true
fits (Part.Word w) (word text) = bytes_eq text (spell w)
fits (Part.Number role) (number z) = in_range role z
fits Part.End line_end = true
fits _ _ = false

-- A walk along a shape: the numbers met along all of it, or the place of the first item that does not fit.
abbrev pub walk_of : Numbers → List Part → List (ℕ × Mark) → Result Numbers ℕ
walk_of n [] its = Ok n
walk_of n (p ∷ ps) [] = Err 0
walk_of n (p ∷ ps) (it ∷ its) = cond (fits p it.1) (walk_of (noted_at n p it.1) ps (behind (it ∷ its))) (Err it.0)

-- A search goes on with the next shape where a walk stops, and keeps the furthest place.
abbrev pub search_on : Shape → Result Numbers ℕ → ℕ → (ℕ → Result Form ℕ) → Result Form ℕ
search_on s (Ok n) best rest = Ok (form_of s n)
search_on s (Err place) best rest = rest (max best place)

-- A search through shapes: the first that a line walks to its end, or the furthest place where one stops.
unfoldable pub search_of : Option RankKind → List (ℕ × Mark) → ℕ → List Shape → Result Form ℕ
search_of opened its best [] = Err best
search_of opened its best (s ∷ ss) =
    cond (allows opened s) (search_on s (walk_of blank (parts_of s) its) best (λ b. search_of opened its b ss))
    (search_of opened its best ss)

-- What a search's outcome makes of a line: a form that is in turn, one that is not, or none.
abbrev pub judged : Option RankKind → Result Form ℕ → Result Form Fault
judged opened (Ok form) = cond (in_turn opened form) (Ok form) (Err (record { refusal = Refusal.NotOpenedOnce; place = 1 }))
judged opened (Err place) = Err (record { refusal = Refusal.NotAForm; place = place })

-- The one thing that a line reads as, as a value.
abbrev pub reading_of : Option RankKind → List ℕ → Result Form Fault
reading_of opened line =
    cond (nat_lt 120 (length line)) (Err (record { refusal = Refusal.LineTooLong; place = 121 }))
    (judged opened (search_of opened (line_items line) 0 shapes))
