-- What a line means: the form that it reads as, or its fault and the place of it.
use Rattle.std.specs.Prelude.{◌≡◌, ℕ, ◌+◌, ◌<◌, ◌≤◌, Bool, true, false, cond, not, List, [], ◌∷◌, map, length, ℤ, is_some, Ok, Err, Option, Result, nat_lt}
use Rattle.plant.specs.declared.refusals.Refusal.{Refusal}
use Rattle.items.specs.Items.{Mark, opening, closing, word, number, line_end, items}
use Rattle.forms.specs.Shapes.{spell, parts_of, allows}
use Rattle.forms.specs.Forms.{in_range, noted, blank, form_of, opens}
use Rattle.forms.specs.declared.shapes.RankKind.{RankKind}
use Rattle.forms.specs.declared.shapes.Role.{Role}
use Rattle.forms.specs.declared.shapes.Word.{Word}
use Rattle.forms.specs.declared.shapes.Part.{Part}
use Rattle.forms.specs.declared.shapes.Shape.{Shape}
use Rattle.forms.specs.declared.makers.Form.{Form}
use Rattle.forms.specs.declared.makers.Numbers.{Numbers}
use Rattle.script.specs.declared.reader.Fault.{Fault}

-- An item fits what a shape asks for: the same bracket, the same word, a number in its range, or the line's end.
pub data Fit : Part → Mark → Type 0 where
  fits_open : Fit Part.Open opening
  fits_close : Fit Part.Close closing
  fits_word : (w : Word) → Fit (Part.Word w) (word (spell w))
  fits_number : (r : Role) (z : ℤ) → in_range r z ≡ true → Fit (Part.Number r) (number z)
  fits_end : Fit Part.End line_end

-- The items are those of the shape, one by one.
abbrev pub Fits : List Part → List Mark → Type 0
Fits [] [] = Unit {0}
Fits [] (m ∷ ms) = ⊥
Fits (p ∷ ps) [] = ⊥
Fits (p ∷ ps) (m ∷ ms) = Fit p m × Fits ps ms

-- The items are the beginning of the shape: none, some or all of its items.
abbrev pub Begins : List Part → List Mark → Type 0
Begins ps [] = Unit {0}
Begins [] (m ∷ ms) = ⊥
Begins (p ∷ ps) (m ∷ ms) = Fit p m × Begins ps ms

-- The numbers with what an item adds at a part of the shape: a number, where the shape asks for one.
abbrev pub noted_at : Numbers → Part → Mark → Numbers
noted_at n (Part.Number role) (number z) = noted n role z
noted_at n _ _ = n

-- The numbers of a line, by its shape.
abbrev pub numbers_of : Numbers → List Part → List Mark → Numbers
numbers_of n [] ms = n
numbers_of n (p ∷ ps) [] = n
numbers_of n (p ∷ ps) (m ∷ ms) = numbers_of (noted_at n p m) ps ms

-- The items of a whole line, with their places.
abbrev pub line_items : List ℕ → List (ℕ × Mark)
line_items line = items false 1 line

-- Items without their places.
abbrev pub marks : List (ℕ × Mark) → List Mark
marks its = map (λ it. it.1) its

-- The items that stand before a place.
abbrev pub before : ℕ → List (ℕ × Mark) → List Mark
before place [] = []
before place (it ∷ its) = cond (nat_lt it.0 place) (it.1 ∷ before place its) []

-- A line spells a form: its items are those of an allowed shape, and its numbers make the form.
pub record Spells (opened : Option RankKind) (line : List ℕ) (form : Form) : Type 0 where
  pub shape : Shape
  pub allowed : allows opened shape ≡ true
  pub fit : Fits (parts_of shape) (marks (line_items line))
  pub says : form ≡ form_of shape (numbers_of blank (parts_of shape) (marks (line_items line)))

-- Some items are the beginning of an allowed shape.
pub record Begun (opened : Option RankKind) (ms : List Mark) : Type 0 where
  pub shape : Shape
  pub allowed : allows opened shape ≡ true
  pub begins : Begins (parts_of shape) ms

-- A line sticks at a place: the items before it are the beginning of an allowed shape, and with the item there
-- (or the line's end) they are not.
pub record Sticks (opened : Option RankKind) (line : List ℕ) (place : ℕ) : Type 0 where
  pub so_far : Begun opened (before place (line_items line))
  pub no_further : Begun opened (before (place + 1) (line_items line)) → ⊥

-- A form is in turn: an open comes first, and once.
abbrev pub in_turn : Option RankKind → Form → Bool
in_turn opened form = cond (is_some opened) (not (opens form)) (opens form)

-- What a line reads as, given the rank kind of the open before it, if there was one. The cases come in this order.
pub data Reads (opened : Option RankKind) (line : List ℕ) (answer : Result Form Fault) : Type 0 where
  too_long : 120 < length line → answer ≡ Err (record { refusal = Refusal.LineTooLong; place = 121 }) → Reads opened line answer
  no_form : (place : ℕ) → length line ≤ 120 → Sticks opened line place → answer ≡ Err (record { refusal = Refusal.NotAForm; place = place }) → Reads opened line answer
  out_of_turn : (form : Form) → length line ≤ 120 → Spells opened line form → in_turn opened form ≡ false → answer ≡ Err (record { refusal = Refusal.NotOpenedOnce; place = 1 }) → Reads opened line answer
  reads : (form : Form) → length line ≤ 120 → Spells opened line form → in_turn opened form ≡ true → answer ≡ Ok form → Reads opened line answer

-- A line reads as one thing only.
abbrev pub OneReading : Type 0
OneReading = (opened : Option RankKind) (line : List ℕ) (a b : Result Form Fault) → Reads opened line a → Reads opened line b → a ≡ b
