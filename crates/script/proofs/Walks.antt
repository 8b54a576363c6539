-- What the reader's walks say of a line: the items fit the shape, or the place where they no longer do.
use Rattle.std.proofs.Common.{◌≡◌, ℕ, ◌+◌, ◌<◌, ◌≤◌, Bool, true, false, cond, eqb, ltb, List, [], ◌∷◌, ℤ, Some, None, Ok, Err, MatchBool, Option, sym, refl, ◌∙◌, subst, arith}
use Rattle.std.proofs.lemmas.Slice.Eq.{bytes_eq-Decides}
use Rattle.std.proofs.lemmas.Bool.{cond-true, cond-false, lt-ltb, le-ltb, ltb-true}
use Rattle.items.specs.Items.{Mark, opening, closing, word, number, line_end, is_end, behind, mark_by, run_mark, run_of, items}
use Rattle.items.specs.Numerals.{number_of}
use Rattle.forms.specs.Shapes.{spell, parts_of}
use Rattle.script.specs.Reading.{Fit, fits_open, fits_close, fits_word, fits_number, fits_end, Fits, Begins, noted_at, numbers_of, marks, before}
use Rattle.script.specs.Steps.{fits, walk_of}
use Rattle.forms.specs.declared.shapes.Part.{Part}
use Rattle.rules.specs.declared.LockKind.{LockKind}
use Rattle.forms.specs.declared.shapes.RankKind.{RankKind}
use Rattle.forms.specs.declared.shapes.Shape.{Shape}
use Rattle.forms.specs.declared.makers.Numbers.{Numbers}

pub never : (P : Type 0) → false ≡ true → P
never P e = let z : ◌≡◌ {A = ℕ} 0 1 = cc in absurd (omega arith)

-- the test and the relation say the same
pub fit_from : (p : Part) (m : Mark) → fits p m ≡ true → Fit p m
fit_from Part.Open opening e = fits_open
fit_from Part.Open closing e = never _ e
fit_from Part.Open (word t) e = never _ e
fit_from Part.Open (number z) e = never _ e
fit_from Part.Open line_end e = never _ e
fit_from Part.Close opening e = never _ e
fit_from Part.Close closing e = fits_close
fit_from Part.Close (word t) e = never _ e
fit_from Part.Close (number z) e = never _ e
fit_from Part.Close line_end e = never _ e
fit_from (Part.Word w) opening e = never _ e
fit_from (Part.Word w) closing e = never _ e
fit_from (Part.Word w) (word t) e = subst (λ x. Fit (Part.Word w) (word x)) (sym ((bytes_eq-Decides t (spell w)).0 e)) (fits_word w)
fit_from (Part.Word w) (number z) e = never _ e
fit_from (Part.Word w) line_end e = never _ e
fit_from (Part.Number r) opening e = never _ e
fit_from (Part.Number r) closing e = never _ e
fit_from (Part.Number r) (word t) e = never _ e
fit_from (Part.Number r) (number z) e = fits_number r z e
fit_from (Part.Number r) line_end e = never _ e
fit_from Part.End opening e = never _ e
fit_from Part.End closing e = never _ e
fit_from Part.End (word t) e = never _ e
fit_from Part.End (number z) e = never _ e
fit_from Part.End line_end e = fits_end

pub fit_to : {p : Part} {m : Mark} → Fit p m → fits p m ≡ true
fit_to fits_open = refl
fit_to fits_close = refl
fit_to (fits_word w) = (bytes_eq-Decides (spell w) (spell w)).1 refl
fit_to (fits_number r z h) = h
fit_to fits_end = refl

-- items rise from a place on, and end with the line's end
abbrev pub Good : ℕ → List (ℕ × Mark) → Type 0
Good q [] = ⊥
Good q (it ∷ its) = (q ≤ it.0) × MatchBool (is_end it.1) (its ≡ []) (Good (it.0 + 1) its)

lower : (q p : ℕ) (its : List (ℕ × Mark)) → q ≤ p → Good p its → Good q its
lower q p [] h g = g
lower q p (it ∷ its) h g = (omega (arith, g.0), g.1)

no_end : (text : List ℕ) (r : Option ℤ) → is_end (mark_by text r) ≡ false
no_end text None = refl
no_end text (Some z) = refl

good_by : (w : Bool) (p b : ℕ) (bs : List ℕ) (t u v : Bool) → Good (p + 1) (items false (p + 1) bs) → Good (p + 1) (items true (p + 1) bs) →
    Good p (cond t (items false (p + 1) bs) (cond u ((p, opening) ∷ items false (p + 1) bs) (cond v ((p, closing) ∷ items false (p + 1) bs)
    (cond w (items true (p + 1) bs) ((p, run_mark (run_of (b ∷ bs))) ∷ items true (p + 1) bs)))))
good_by w p b bs true u v f g = lower p (p + 1) _ (omega arith) f
good_by w p b bs false true v f g = (omega arith, f)
good_by w p b bs false false true f g = (omega arith, f)
good_by true p b bs false false false f g = lower p (p + 1) _ (omega arith) g
good_by false p b bs false false false f g =
    (omega arith, subst (λ x. MatchBool x (items true (p + 1) bs ≡ []) (Good (p + 1) (items true (p + 1) bs))) (sym (no_end (run_of (b ∷ bs)) (number_of (run_of (b ∷ bs))))) g)

pub items_good : (w : Bool) (p : ℕ) (bs : List ℕ) → Good p (items w p bs)
items_good w p [] = (omega arith, refl)
items_good w p (b ∷ bs) = good_by w p b bs (eqb b 32) (eqb b 40) (eqb b 41) (items_good false (p + 1) bs) (items_good true (p + 1) bs)

-- the line's end is the last part of a shape, and no other
abbrev pub is_last : Part → Bool
is_last Part.End = true
is_last _ = false

abbrev pub Ends : List Part → Type 0
Ends [] = ⊥
Ends (p ∷ ps) = MatchBool (is_last p) (ps ≡ []) (Ends ps)

pub shape_ends : (s : Shape) → Ends (parts_of s)
shape_ends (Shape.Open RankKind.Grade) = refl
shape_ends (Shape.Open RankKind.Due) = refl
shape_ends (Shape.Begin RankKind.Grade) = refl
shape_ends (Shape.Begin RankKind.Due) = refl
shape_ends (Shape.Lock LockKind.Read) = refl
shape_ends (Shape.Lock LockKind.Write) = refl
shape_ends Shape.Read = refl
shape_ends Shape.Change = refl
shape_ends Shape.Commit = refl
shape_ends Shape.Back = refl
shape_ends Shape.End = refl
shape_ends Shape.GiveUp = refl
shape_ends Shape.Clear = refl
shape_ends Shape.Bind = refl
shape_ends Shape.Remove = refl
shape_ends Shape.Get = refl
shape_ends Shape.Put = refl

stops_not : (P : Type 0) (b : ℕ) (n : Numbers) → Err b ≡ Ok n → P
stops_not P b n e = let z : ◌≡◌ {A = ℕ} 0 1 = cc in absurd (omega arith)

-- a whole walk: the items are those of the shape
record WholeWalk (n : Numbers) (ps : List Part) (its : List (ℕ × Mark)) (m : Numbers) : Type 0 where
  fit : Fits ps (marks its)
  says : m ≡ numbers_of n ps (marks its)

Walked : List Part → List (ℕ × Mark) → Type 0
Walked ps its = (n m : Numbers) (q : ℕ) → Ends ps → Good q its → walk_of n ps its ≡ Ok m → WholeWalk n ps its m

end_by : (n m : Numbers) (b : ℕ) (ps : List Part) (its : List (ℕ × Mark)) → ps ≡ [] → its ≡ [] →
    walk_of n ps ((b, line_end) ∷ its) ≡ Ok m → WholeWalk n (Part.End ∷ ps) ((b, line_end) ∷ its) m
end_by n m b [] [] f g w = record { fit = (fits_end, tt); says = cc }
end_by n m b [] (it ∷ its) f g w = let z : ◌≡◌ {A = ℕ} 0 1 = cc in absurd (omega arith)
end_by n m b (p ∷ ps) its f g w = let z : ◌≡◌ {A = ℕ} 0 1 = cc in absurd (omega arith)

whole_by : (n m : Numbers) (b : ℕ) {p : Part} {k : Mark} (ps : List Part) (its : List (ℕ × Mark)) → Fit p k → Ends (p ∷ ps) →
    MatchBool (is_end k) (its ≡ []) (Good (b + 1) its) →
    walk_of (noted_at n p k) ps (behind ((b, k) ∷ its)) ≡ Ok m →
    Walked ps its →
    WholeWalk n (p ∷ ps) ((b, k) ∷ its) m
unfolding Walked
whole_by n m b ps its fits_open f g w more = let r = more n m (b + 1) f g w in record { fit = (fits_open, r.fit); says = r.says }
whole_by n m b ps its fits_close f g w more = let r = more n m (b + 1) f g w in record { fit = (fits_close, r.fit); says = r.says }
whole_by n m b ps its (fits_word v) f g w more = let r = more n m (b + 1) f g w in record { fit = (fits_word v, r.fit); says = r.says }
whole_by n m b ps its (fits_number a z h) f g w more = let r = more _ m (b + 1) f g w in record { fit = (fits_number a z h, r.fit); says = r.says }
whole_by n m b ps its fits_end f g w more = end_by n m b ps its f g w

whole_step : (n m : Numbers) (q b : ℕ) (p : Part) (k : Mark) (ps : List Part) (its : List (ℕ × Mark)) → Ends (p ∷ ps) → Good q ((b, k) ∷ its) →
    (t : Bool) → fits p k ≡ t → cond t (walk_of (noted_at n p k) ps (behind ((b, k) ∷ its))) (Err b) ≡ Ok m →
    Walked ps its → WholeWalk n (p ∷ ps) ((b, k) ∷ its) m
whole_step n m q b p k ps its f g true e w more = whole_by n m b ps its (fit_from p k e) f g.1 w more
whole_step n m q b p k ps its f g false e w more = stops_not _ b m w

walked : (ps : List Part) (its : List (ℕ × Mark)) → Walked ps its
unfolding Walked
walked [] its n m q f g w = absurd f
walked (p ∷ ps) [] n m q f g w = absurd g
walked (p ∷ ps) (it ∷ its) n m q f g w = whole_step n m q it.0 p it.1 ps its f g (fits p it.1) refl w (walked ps its)

pub whole_law : (n m : Numbers) (q : ℕ) (ps : List Part) (its : List (ℕ × Mark)) → Ends ps → Good q its → walk_of n ps its ≡ Ok m →
    Fits ps (marks its) × (m ≡ numbers_of n ps (marks its))
unfolding Walked
whole_law n m q ps its f g w = let r = walked ps its n m q f g w in (r.fit, r.says)

-- a walk that stops: the items before the place begin the shape, and with the one there they do not
pub record Stopped (ps : List Part) (its : List (ℕ × Mark)) (q place : ℕ) : Type 0 where
  pub from : q ≤ place
  pub so_far : Begins ps (before place its)
  pub no_further : Begins ps (before (place + 1) its) → ⊥

Stopping : List Part → List (ℕ × Mark) → Type 0
Stopping ps its = (n : Numbers) (place q : ℕ) → Ends ps → Good q its → walk_of n ps its ≡ Err place → Stopped ps its q place

begins_more : (p : Part) (ps : List Part) (it : ℕ × Mark) (its : List (ℕ × Mark)) (place : ℕ) → it.0 < place → Fit p it.1 → Begins ps (before place its) →
    Begins (p ∷ ps) (before place (it ∷ its))
begins_more p ps it its place h f b =
    subst (Begins (p ∷ ps)) (sym (cond-true (ltb it.0 place) (it.1 ∷ before place its) [] (lt-ltb it.0 place h))) (f, b)

begins_less : (p : Part) (ps : List Part) (it : ℕ × Mark) (its : List (ℕ × Mark)) (place : ℕ) → it.0 < place → Begins (p ∷ ps) (before place (it ∷ its)) →
    Fit p it.1 × Begins ps (before place its)
begins_less p ps it its place h b =
    subst (Begins (p ∷ ps)) (cond-true (ltb it.0 place) (it.1 ∷ before place its) [] (lt-ltb it.0 place h)) b

one_on : (p : Part) (ps : List Part) (it : ℕ × Mark) (its : List (ℕ × Mark)) (q place : ℕ) → q ≤ it.0 → Fit p it.1 → Stopped ps its (it.0 + 1) place →
    Stopped (p ∷ ps) (it ∷ its) q place
one_on p ps it its q place h f r = record {
  from = omega (arith, r.from);
  so_far = begins_more p ps it its place (omega (arith, r.from)) f r.so_far;
  no_further = λ b. r.no_further (begins_less p ps it its (place + 1) (omega (arith, r.from)) b).1;
}

end_stops : (P : Type 0) (n : Numbers) (place b : ℕ) (ps : List Part) (its : List (ℕ × Mark)) → ps ≡ [] → walk_of n ps ((b, line_end) ∷ its) ≡ Err place → P
end_stops P n place b [] its f w = stops_not P place n (sym w)
end_stops P n place b (p ∷ ps) its f w = let z : ◌≡◌ {A = ℕ} 0 1 = cc in absurd (omega arith)

stop_by : (n : Numbers) (place q b : ℕ) {p : Part} {k : Mark} (ps : List Part) (its : List (ℕ × Mark)) → Fit p k → Ends (p ∷ ps) → q ≤ b →
    MatchBool (is_end k) (its ≡ []) (Good (b + 1) its) →
    walk_of (noted_at n p k) ps (behind ((b, k) ∷ its)) ≡ Err place →
    Stopping ps its →
    Stopped (p ∷ ps) ((b, k) ∷ its) q place
unfolding Stopping
stop_by n place q b ps its fits_open f h g w more = one_on Part.Open ps (b, opening) its q place h fits_open (more n place (b + 1) f g w)
stop_by n place q b ps its fits_close f h g w more = one_on Part.Close ps (b, closing) its q place h fits_close (more n place (b + 1) f g w)
stop_by n place q b ps its (fits_word v) f h g w more = one_on (Part.Word v) ps (b, word (spell v)) its q place h (fits_word v) (more n place (b + 1) f g w)
stop_by n place q b ps its (fits_number a z i) f h g w more = one_on (Part.Number a) ps (b, number z) its q place h (fits_number a z i) (more _ place (b + 1) f g w)
stop_by n place q b ps its fits_end f h g w more = end_stops _ n place b ps its f w

here_by : (p : Part) (k : Mark) (ps : List Part) (its : List (ℕ × Mark)) (q b place : ℕ) → q ≤ b → fits p k ≡ false → b ≡ place → Stopped (p ∷ ps) ((b, k) ∷ its) q place
here_by p k ps its q b place h e s = record {
  from = omega arith;
  so_far = subst (Begins (p ∷ ps)) (sym (cond-false (ltb b place) (k ∷ before place its) [] (le-ltb b place (omega arith)))) tt;
  no_further = λ x. never ⊥ (sym e ∙ fit_to (begins_less p ps (b, k) its (place + 1) (omega arith) x).0);
}

stop_step : (n : Numbers) (place q b : ℕ) (p : Part) (k : Mark) (ps : List Part) (its : List (ℕ × Mark)) → Ends (p ∷ ps) → Good q ((b, k) ∷ its) →
    (t : Bool) → fits p k ≡ t → cond t (walk_of (noted_at n p k) ps (behind ((b, k) ∷ its))) (Err b) ≡ Err place →
    Stopping ps its → Stopped (p ∷ ps) ((b, k) ∷ its) q place
stop_step n place q b p k ps its f g true e w more = stop_by n place q b ps its (fit_from p k e) f g.0 g.1 w more
stop_step n place q b p k ps its f g false e w more = here_by p k ps its q b place g.0 e cc

stopping : (ps : List Part) (its : List (ℕ × Mark)) → Stopping ps its
unfolding Stopping
stopping [] its n place q f g w = absurd f
stopping (p ∷ ps) [] n place q f g w = absurd g
stopping (p ∷ ps) (it ∷ its) n place q f g w = stop_step n place q it.0 p it.1 ps its f g (fits p it.1) refl w (stopping ps its)

pub stops_law : (n : Numbers) (place q : ℕ) (ps : List Part) (its : List (ℕ × Mark)) → Ends ps → Good q its → walk_of n ps its ≡ Err place → Stopped ps its q place
unfolding Stopping
stops_law n place q ps its f g w = stopping ps its n place q f g w

-- what begins a shape still does with fewer items
fewer_by : (p : Part) (ps : List Part) (it : ℕ × Mark) (its : List (ℕ × Mark)) (a b : ℕ) → a ≤ b → Begins (p ∷ ps) (before b (it ∷ its)) →
    (Begins ps (before b its) → Begins ps (before a its)) → (t : Bool) → ltb it.0 a ≡ t → Begins (p ∷ ps) (cond t (it.1 ∷ before a its) [])
fewer_by p ps it its a b h x more true e =
    let y = begins_less p ps it its b (omega (arith, ltb-true it.0 a e)) x in (y.0, more y.1)
fewer_by p ps it its a b h x more false e = tt

none_by : (it : ℕ × Mark) (its : List (ℕ × Mark)) (a b : ℕ) → a ≤ b → (t u : Bool) → ltb it.0 a ≡ t → ltb it.0 b ≡ u →
    Begins [] (cond u (it.1 ∷ before b its) []) → Begins [] (cond t (it.1 ∷ before a its) [])
none_by it its a b h t true e f x = absurd x
none_by it its a b h true false e f x = never _ (sym f ∙ lt-ltb it.0 b (omega (arith, ltb-true it.0 a e)))
none_by it its a b h false false e f x = tt

pub begins_fewer : (ps : List Part) (its : List (ℕ × Mark)) (a b : ℕ) → a ≤ b → Begins ps (before b its) → Begins ps (before a its)
begins_fewer [] [] a b h x = tt
begins_fewer (p ∷ ps) [] a b h x = tt
begins_fewer [] (it ∷ its) a b h x = none_by it its a b h (ltb it.0 a) (ltb it.0 b) refl refl x
begins_fewer (p ∷ ps) (it ∷ its) a b h x = fewer_by p ps it its a b h x (begins_fewer ps its a b h) (ltb it.0 a) refl

whole_by_front : (p : Part) (ps : List Part) (it : ℕ × Mark) (its : List (ℕ × Mark)) (a : ℕ) → Fit p it.1 → Begins ps (before a its) → (t : Bool) →
    Begins (p ∷ ps) (cond t (it.1 ∷ before a its) [])
whole_by_front p ps it its a f b true = (f, b)
whole_by_front p ps it its a f b false = tt

pub fits_begin : (ps : List Part) (its : List (ℕ × Mark)) (a : ℕ) → Fits ps (marks its) → Begins ps (before a its)
fits_begin [] [] a x = tt
fits_begin [] (it ∷ its) a x = absurd x
fits_begin (p ∷ ps) [] a x = absurd x
fits_begin (p ∷ ps) (it ∷ its) a x = whole_by_front p ps it its a x.0 (fits_begin ps its a x.1) (ltb it.0 a)
