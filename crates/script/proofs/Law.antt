-- A line reads as what the reader answers, and as nothing else.
use Rattle.std.proofs.Common.{◌≡◌, ℕ, zero, suc, ◌+◌, ◌<◌, ◌≤◌, max, Bool, true, false, cond, not, ◌&&◌, ◌||◌, eqb, ltb, ◌⊎◌, List, [], ◌∷◌, length, get_or, Some, None, Ok, Err, Option, Result, sym, refl, ap, ◌∙◌, subst, inl, inr, ⊎_elim, arith}
use Rattle.std.specs.Str.{bytes_eq}
use Rattle.std.proofs.lemmas.Bool.{eqb-true, and_parts, and_from, cases_order, ltb-true, ltb-false}
use Rattle.plant.specs.declared.refusals.Refusal.{Refusal}
use Rattle.items.specs.Items.{Mark}
use Rattle.forms.specs.Shapes.{spell, parts_of, shapes, allows}
use Rattle.forms.specs.Forms.{blank, form_of}
use Rattle.script.specs.Reading.{Fit, fits_open, fits_close, fits_word, fits_number, fits_end, Fits, numbers_of, line_items, marks, Spells, Sticks, in_turn, too_long, no_form, out_of_turn, reads, Reads, OneReading}
use Rattle.script.specs.Steps.{fits, walk_of, search_on, search_of, judged, reading_of}
use Rattle.forms.specs.declared.shapes.RankKind.{RankKind}
use Rattle.forms.specs.declared.shapes.Part.{Part}
use Rattle.rules.specs.declared.LockKind.{LockKind}
use Rattle.forms.specs.declared.shapes.Shape.{Shape}
use Rattle.forms.specs.declared.makers.Form.{Form}
use Rattle.forms.specs.declared.makers.Numbers.{Numbers}
use Rattle.script.specs.declared.reader.Fault.{Fault}
use Rattle.script.proofs.Walks.{never, fit_to, items_good, shape_ends, whole_law, stops_law, Stopped, begins_fewer, fits_begin}

-- the number of a shape in the list of all
abbrev index : Shape → ℕ
index (Shape.Open RankKind.Grade) = 0
index (Shape.Open RankKind.Due) = 1
index (Shape.Begin RankKind.Grade) = 2
index (Shape.Begin RankKind.Due) = 3
index (Shape.Lock LockKind.Read) = 4
index (Shape.Lock LockKind.Write) = 5
index Shape.Read = 6
index Shape.Change = 7
index Shape.Commit = 8
index Shape.Back = 9
index Shape.End = 10
index Shape.GiveUp = 11
index Shape.Clear = 12
index Shape.Bind = 13
index Shape.Remove = 14
index Shape.Get = 15
index Shape.Put = 16

at_index : (s : Shape) → get_or shapes (index s) (Shape.Open RankKind.Grade) ≡ s
at_index (Shape.Open RankKind.Grade) = refl
at_index (Shape.Open RankKind.Due) = refl
at_index (Shape.Begin RankKind.Grade) = refl
at_index (Shape.Begin RankKind.Due) = refl
at_index (Shape.Lock LockKind.Read) = refl
at_index (Shape.Lock LockKind.Write) = refl
at_index Shape.Read = refl
at_index Shape.Change = refl
at_index Shape.Commit = refl
at_index Shape.Back = refl
at_index Shape.End = refl
at_index Shape.GiveUp = refl
at_index Shape.Clear = refl
at_index Shape.Bind = refl
at_index Shape.Remove = refl
at_index Shape.Get = refl
at_index Shape.Put = refl

abbrev Member : Shape → List Shape → Type 0
Member s [] = ⊥
Member s (x ∷ xs) = (s ≡ x) ⊎ Member s xs

member_at : (xs : List Shape) (i : ℕ) (s : Shape) → i < length xs → get_or xs i (Shape.Open RankKind.Grade) ≡ s → Member s xs
member_at [] i s h e = absurd (omega arith)
member_at (x ∷ xs) zero s h e = inl (sym e)
member_at (x ∷ xs) (suc i) s h e = inr (member_at xs i s (omega arith) e)

index_low : (s : Shape) → index s < 17
index_low (Shape.Open RankKind.Grade) = omega arith
index_low (Shape.Open RankKind.Due) = omega arith
index_low (Shape.Begin RankKind.Grade) = omega arith
index_low (Shape.Begin RankKind.Due) = omega arith
index_low (Shape.Lock LockKind.Read) = omega arith
index_low (Shape.Lock LockKind.Write) = omega arith
index_low Shape.Read = omega arith
index_low Shape.Change = omega arith
index_low Shape.Commit = omega arith
index_low Shape.Back = omega arith
index_low Shape.End = omega arith
index_low Shape.GiveUp = omega arith
index_low Shape.Clear = omega arith
index_low Shape.Bind = omega arith
index_low Shape.Remove = omega arith
index_low Shape.Get = omega arith
index_low Shape.Put = omega arith

each_listed : (s : Shape) → Member s shapes
each_listed s = member_at shapes (index s) s (index_low s) (at_index s)

-- what a search that finds a form has met
pub record Found (opened : Option RankKind) (its : List (ℕ × Mark)) (form : Form) : Type 0 where
  pub shape : Shape
  pub numbers : Numbers
  pub allowed : allows opened shape ≡ true
  pub walk : walk_of blank (parts_of shape) its ≡ Ok numbers
  pub says : form ≡ form_of shape numbers

module _ (opened : Option RankKind) (its : List (ℕ × Mark)) where
  found_on : (s : Shape) (best : ℕ) (w : Result Numbers ℕ) (rest : ℕ → Result Form ℕ) (f : Form) → walk_of blank (parts_of s) its ≡ w → allows opened s ≡ true →
      search_on s w best rest ≡ Ok f → ((b : ℕ) → rest b ≡ Ok f → Found opened its f) → Found opened its f
  found_on s best (Ok n) rest f e a x more = record { shape = s; numbers = n; allowed = a; walk = e; says = cc }
  found_on s best (Err p) rest f e a x more = more (max best p) x

  found_by : (s : Shape) (best : ℕ) (ss : List Shape) (f : Form) (t : Bool) → allows opened s ≡ t →
      cond t (search_on s (walk_of blank (parts_of s) its) best (λ b. search_of opened its b ss)) (search_of opened its best ss) ≡ Ok f →
      ((b : ℕ) → search_of opened its b ss ≡ Ok f → Found opened its f) → Found opened its f
  found_by s best ss f true a x more = found_on s best (walk_of blank (parts_of s) its) (λ b. search_of opened its b ss) f refl a x more
  found_by s best ss f false a x more = more best x

  pub found : (ss : List Shape) (best : ℕ) (f : Form) → search_of opened its best ss ≡ Ok f → Found opened its f
  unfolding search_of
  found [] best f x = let z : ◌≡◌ {A = ℕ} 0 1 = cc in absurd (omega arith)
  found (s ∷ ss) best f x = found_by s best ss f (allows opened s) refl x (λ b. found ss b f)

-- where a walk stops at a place, and is allowed
pub record Halts (opened : Option RankKind) (its : List (ℕ × Mark)) (shape : Shape) (place : ℕ) : Type 0 where
  pub allowed : allows opened shape ≡ true
  pub walk : walk_of blank (parts_of shape) its ≡ Err place

-- what a search that finds none has met: each allowed shape of the list stops at that place or before, and if the
-- place is further than at the start, one of them stops there
record Missed (opened : Option RankKind) (its : List (ℕ × Mark)) (ss : List Shape) (best place : ℕ) : Type 0 where
  least : best ≤ place
  each : (s : Shape) → Member s ss → allows opened s ≡ true → (p : ℕ) × (p ≤ place) × Halts opened its s p
  one : (place ≡ best) ⊎ ((s : Shape) × Halts opened its s place)

module _ (opened : Option RankKind) (its : List (ℕ × Mark)) where
  max_cases : (a b : ℕ) → (max a b ≡ a) ⊎ (max a b ≡ b)
  max_cases a b = ⊎_elim (λ e. inl (omega arith)) (λ o. ⊎_elim (λ l. inr (omega arith)) (λ l. inl (omega arith)) o) (cases_order a b)

  later : (s : Shape) (ss : List Shape) (best p place : ℕ) → Halts opened its s p → Missed opened its ss (max best p) place → Missed opened its (s ∷ ss) best place
  later s ss best p place h m = record {
    least = omega (arith, m.least);
    each = λ x k a. ⊎_elim (λ e. (p, omega (arith, m.least), subst (λ y. Halts opened its y p) (sym e) h)) (λ k. m.each x k a) k;
    one = ⊎_elim (λ e. ⊎_elim (λ l. inl (e ∙ l)) (λ l. inr (s, subst (Halts opened its s) (sym (e ∙ l)) h)) (max_cases best p)) (λ y. inr y) m.one;
  }

  skipped : (s : Shape) (ss : List Shape) (best place : ℕ) → allows opened s ≡ false → Missed opened its ss best place → Missed opened its (s ∷ ss) best place
  skipped s ss best place a m = record {
    least = m.least;
    each = λ x k b. ⊎_elim (λ e. never _ (sym a ∙ ap (allows opened) (sym e) ∙ b)) (λ k. m.each x k b) k;
    one = m.one;
  }

  missed_on : (s : Shape) (ss : List Shape) (best : ℕ) (w : Result Numbers ℕ) (rest : ℕ → Result Form ℕ) (place : ℕ) → walk_of blank (parts_of s) its ≡ w → allows opened s ≡ true →
      search_on s w best rest ≡ Err place → ((b : ℕ) → rest b ≡ Err place → Missed opened its ss b place) → Missed opened its (s ∷ ss) best place
  missed_on s ss best (Ok n) rest place e a x more = let z : ◌≡◌ {A = ℕ} 0 1 = cc in absurd (omega arith)
  missed_on s ss best (Err p) rest place e a x more = later s ss best p place (record { allowed = a; walk = e }) (more (max best p) x)

  missed_by : (s : Shape) (best : ℕ) (ss : List Shape) (place : ℕ) (t : Bool) → allows opened s ≡ t →
      cond t (search_on s (walk_of blank (parts_of s) its) best (λ b. search_of opened its b ss)) (search_of opened its best ss) ≡ Err place →
      ((b : ℕ) → search_of opened its b ss ≡ Err place → Missed opened its ss b place) → Missed opened its (s ∷ ss) best place
  missed_by s best ss place true a x more = missed_on s ss best (walk_of blank (parts_of s) its) (λ b. search_of opened its b ss) place refl a x more
  missed_by s best ss place false a x more = skipped s ss best place a (more best x)

  missed : (ss : List Shape) (best place : ℕ) → search_of opened its best ss ≡ Err place → Missed opened its ss best place
  unfolding search_of
  missed [] best place x = let e : best ≡ place = cc in record { least = omega arith; each = λ s k a. absurd k; one = inl (sym e) }
  missed (s ∷ ss) best place x = missed_by s best ss place (allows opened s) refl x (λ b. missed ss b place)

-- a form that is found is what the line spells
pub spells : (opened : Option RankKind) (line : List ℕ) (f : Form) → search_of opened (line_items line) 0 shapes ≡ Ok f → Spells opened line f
spells opened line f x =
    let r = found opened (line_items line) shapes 0 f x in
    let w = whole_law blank r.numbers 1 (parts_of r.shape) (line_items line) (shape_ends r.shape) (items_good false 1 line) r.walk in
    record { shape = r.shape; allowed = r.allowed; fit = w.0; says = r.says ∙ ap (form_of r.shape) w.1 }

commit_allowed : (opened : Option RankKind) → allows opened Shape.Commit ≡ true
commit_allowed None = refl
commit_allowed (Some RankKind.Grade) = refl
commit_allowed (Some RankKind.Due) = refl

halted : (opened : Option RankKind) (line : List ℕ) (s : Shape) (p : ℕ) → Halts opened (line_items line) s p → Stopped (parts_of s) (line_items line) 1 p
halted opened line s p h = stops_law blank p 1 (parts_of s) (line_items line) (shape_ends s) (items_good false 1 line) h.walk

-- where none is found, the line sticks at the furthest place
pub sticks : (opened : Option RankKind) (line : List ℕ) (place : ℕ) → search_of opened (line_items line) 0 shapes ≡ Err place → Sticks opened line place
sticks opened line place x =
    let m = missed opened (line_items line) shapes 0 place x in
    record {
      so_far = ⊎_elim
          (λ e.
          let c = m.each Shape.Commit (each_listed Shape.Commit) (commit_allowed opened) in
          let h = halted opened line Shape.Commit c.0 c.2 in
          absurd (omega (arith, h.from, c.1)))
          (λ o. record { shape = o.0; allowed = o.1.allowed; begins = (halted opened line o.0 place o.1).so_far })
          m.one;
      no_further = λ b.
          let c = m.each b.shape (each_listed b.shape) b.allowed in
          (halted opened line b.shape c.0 c.2).no_further (begins_fewer (parts_of b.shape) (line_items line) (c.0 + 1) (place + 1) (omega (arith, c.1)) b.begins);
    }

-- what the reader's steps come to is what the line reads as
reading_by : (opened : Option RankKind) (line : List ℕ) (t : Bool) (r : Result Form ℕ) → ltb 120 (length line) ≡ t → search_of opened (line_items line) 0 shapes ≡ r →
    Reads opened line (cond t (Err (record { refusal = Refusal.LineTooLong; place = 121 })) (judged opened r))
reading_by opened line true r h e = too_long (ltb-true 120 (length line) h) refl
reading_by opened line false (Err place) h e = no_form place (ltb-false 120 (length line) h) (sticks opened line place e) refl
reading_by opened line false (Ok form) h e = by_turn (in_turn opened form) refl
  where
    by_turn : (t : Bool) → in_turn opened form ≡ t → Reads opened line (cond t (Ok form) (Err (record { refusal = Refusal.NotOpenedOnce; place = 1 })))
    by_turn true i = reads form (ltb-false 120 (length line) h) (spells opened line form e) i refl
    by_turn false i = out_of_turn form (ltb-false 120 (length line) h) (spells opened line form e) i refl

pub reads_as : (opened : Option RankKind) (line : List ℕ) (answer : Result Form Fault) → answer ≡ reading_of opened line → Reads opened line answer
reads_as opened line answer e = subst (Reads opened line) (sym e) (reading_by opened line (ltb 120 (length line)) (search_of opened (line_items line) 0 shapes) refl refl)

-- two parts that one item could fit
abbrev alike : Part → Part → Bool
alike Part.Open Part.Open = true
alike Part.Close Part.Close = true
alike (Part.Word w) (Part.Word v) = bytes_eq (spell w) (spell v)
alike (Part.Number r) (Part.Number k) = true
alike Part.End Part.End = true
alike _ _ = false

-- an item that fits a part fits only parts like it
alike_from : {p : Part} {m : Mark} → Fit p m → (q : Part) → fits q m ≡ true → alike p q ≡ true
alike_from fits_open Part.Open e = refl
alike_from fits_open Part.Close e = never _ e
alike_from fits_open (Part.Word v) e = never _ e
alike_from fits_open (Part.Number k) e = never _ e
alike_from fits_open Part.End e = never _ e
alike_from fits_close Part.Open e = never _ e
alike_from fits_close Part.Close e = refl
alike_from fits_close (Part.Word v) e = never _ e
alike_from fits_close (Part.Number k) e = never _ e
alike_from fits_close Part.End e = never _ e
alike_from (fits_word w) Part.Open e = never _ e
alike_from (fits_word w) Part.Close e = never _ e
alike_from (fits_word w) (Part.Word v) e = e
alike_from (fits_word w) (Part.Number k) e = never _ e
alike_from (fits_word w) Part.End e = never _ e
alike_from (fits_number r z h) Part.Open e = never _ e
alike_from (fits_number r z h) Part.Close e = never _ e
alike_from (fits_number r z h) (Part.Word v) e = never _ e
alike_from (fits_number r z h) (Part.Number k) e = refl
alike_from (fits_number r z h) Part.End e = never _ e
alike_from fits_end Part.Open e = never _ e
alike_from fits_end Part.Close e = never _ e
alike_from fits_end (Part.Word v) e = never _ e
alike_from fits_end (Part.Number k) e = never _ e
alike_from fits_end Part.End e = refl

abbrev all_alike : List Part → List Part → Bool
all_alike [] [] = true
all_alike [] (q ∷ qs) = false
all_alike (p ∷ ps) [] = false
all_alike (p ∷ ps) (q ∷ qs) = alike p q && all_alike ps qs

fits_alike : (ps qs : List Part) (ms : List Mark) → Fits ps ms → Fits qs ms → all_alike ps qs ≡ true
fits_alike [] [] ms x y = refl
fits_alike [] (q ∷ qs) [] x y = absurd y
fits_alike [] (q ∷ qs) (m ∷ ms) x y = absurd x
fits_alike (p ∷ ps) [] [] x y = absurd x
fits_alike (p ∷ ps) [] (m ∷ ms) x y = absurd y
fits_alike (p ∷ ps) (q ∷ qs) [] x y = absurd x
fits_alike (p ∷ ps) (q ∷ qs) (m ∷ ms) x y = and_from (alike p q) (all_alike ps qs) (alike_from x.0 q (fit_to y.0)) (fits_alike ps qs ms x.1 y.1)

-- the table's check: no two shapes are alike
abbrev apart : Shape → Shape → Bool
apart s t = not (all_alike (parts_of s) (parts_of t)) || eqb (index s) (index t)

abbrev row : Shape → List Shape → Bool
row s [] = true
row s (t ∷ ts) = apart s t && row s ts

abbrev rows : List Shape → List Shape → Bool
rows [] ts = true
rows (s ∷ ss) ts = row s ts && rows ss ts

table_checked : rows shapes shapes ≡ true
table_checked = refl

at_row : (s t : Shape) (ts : List Shape) → row s ts ≡ true → Member t ts → apart s t ≡ true
at_row s t [] e k = absurd k
at_row s t (x ∷ xs) e k =
    let y = and_parts (apart s x) (row s xs) e in
    ⊎_elim (λ i. ap (apart s) i ∙ y.0) (λ j. at_row s t xs y.1 j) k

at_rows : (s : Shape) (ss ts : List Shape) → rows ss ts ≡ true → Member s ss → row s ts ≡ true
at_rows s [] ts e k = absurd k
at_rows s (x ∷ xs) ts e k =
    let y = and_parts (row x ts) (rows xs ts) e in
    ⊎_elim (λ i. ap (λ z. row z ts) i ∙ y.0) (λ j. at_rows s xs ts y.1 j) k

same_index : (s t : Shape) (b : Bool) → b ≡ true → (not b || eqb (index s) (index t)) ≡ true → index s ≡ index t
same_index s t true h e = eqb-true (index s) (index t) e
same_index s t false h e = never _ h

-- the items of a line are those of one shape only
one_shape : (s t : Shape) (ms : List Mark) → Fits (parts_of s) ms → Fits (parts_of t) ms → s ≡ t
one_shape s t ms x y =
    let a = fits_alike (parts_of s) (parts_of t) ms x y in
    let b = at_row s t shapes (at_rows s shapes shapes table_checked (each_listed s)) (each_listed t) in
    sym (at_index s) ∙ ap (λ i. get_or shapes i (Shape.Open RankKind.Grade)) (same_index s t (all_alike (parts_of s) (parts_of t)) a b) ∙ at_index t

one_form : (opened : Option RankKind) (line : List ℕ) (f g : Form) → Spells opened line f → Spells opened line g → f ≡ g
one_form opened line f g x y =
    let e = one_shape x.shape y.shape (marks (line_items line)) x.fit y.fit in
    x.says ∙ ap (λ s. form_of s (numbers_of blank (parts_of s) (marks (line_items line)))) e ∙ sym y.says

one_place : (opened : Option RankKind) (line : List ℕ) (p q : ℕ) → Sticks opened line p → Sticks opened line q → p ≡ q
one_place opened line p q x y = ⊎_elim (λ e. e) (λ o. ⊎_elim (λ l. absurd (less p q x y l)) (λ l. absurd (less q p y x l)) o) (cases_order p q)
  where
    less : (a b : ℕ) → Sticks opened line a → Sticks opened line b → a < b → ⊥
    less a b u v l = u.no_further (record {
      shape = v.so_far.shape;
      allowed = v.so_far.allowed;
      begins = begins_fewer (parts_of v.so_far.shape) (line_items line) (a + 1) b (omega arith) v.so_far.begins;
    })

not_both : (opened : Option RankKind) (line : List ℕ) (p : ℕ) (f : Form) → Sticks opened line p → Spells opened line f → ⊥
not_both opened line p f x y = x.no_further (record {
  shape = y.shape;
  allowed = y.allowed;
  begins = fits_begin (parts_of y.shape) (line_items line) (p + 1) y.fit;
})

turns : (opened : Option RankKind) (f g : Form) → f ≡ g → in_turn opened f ≡ false → in_turn opened g ≡ true → ⊥
turns opened f g e x y = never ⊥ (sym x ∙ ap (in_turn opened) e ∙ y)

pub one_reading : OneReading
one_reading opened line a b (too_long h e) (too_long k f) = e ∙ sym f
one_reading opened line a b (too_long h e) (no_form q k y f) = absurd (omega arith)
one_reading opened line a b (too_long h e) (out_of_turn g k y t f) = absurd (omega arith)
one_reading opened line a b (too_long h e) (reads g k y t f) = absurd (omega arith)
one_reading opened line a b (no_form p h x e) (too_long k f) = absurd (omega arith)
one_reading opened line a b (no_form p h x e) (no_form q k y f) =
    e ∙ ap (λ i. Err (record { refusal = Refusal.NotAForm; place = i })) (one_place opened line p q x y) ∙ sym f
one_reading opened line a b (no_form p h x e) (out_of_turn g k y t f) = absurd (not_both opened line p g x y)
one_reading opened line a b (no_form p h x e) (reads g k y t f) = absurd (not_both opened line p g x y)
one_reading opened line a b (out_of_turn m h x s e) (too_long k f) = absurd (omega arith)
one_reading opened line a b (out_of_turn m h x s e) (no_form q k y f) = absurd (not_both opened line q m y x)
one_reading opened line a b (out_of_turn m h x s e) (out_of_turn g k y t f) = e ∙ sym f
one_reading opened line a b (out_of_turn m h x s e) (reads g k y t f) = absurd (turns opened m g (one_form opened line m g x y) s t)
one_reading opened line a b (reads m h x s e) (too_long k f) = absurd (omega arith)
one_reading opened line a b (reads m h x s e) (no_form q k y f) = absurd (not_both opened line q m y x)
one_reading opened line a b (reads m h x s e) (out_of_turn g k y t f) = absurd (turns opened g m (one_form opened line g m y x) t s)
one_reading opened line a b (reads m h x s e) (reads g k y t f) = e ∙ ap Ok (one_form opened line m g x y) ∙ sym f
