-- The play of one element. A play of a whole order is right exactly if the play of the steps on each
-- element is, and it leaves each element where the steps on that element leave it.
use Rattle.std.proofs.Common.{◌≡◌, ℕ, Bool, true, false, cond, eqb, List, [], ◌∷◌, ◌++◌, ℤ, sym, refl, ap, ◌∙◌}
use Rattle.std.proofs.lemmas.List.{append_assoc}
use Rattle.std.proofs.lemmas.Bool.{eqb-true, eqb-false, eq-eqb, ne_eqb}
use Rattle.rules.specs.Scans.{at}
use Rattle.law.specs.Order.{Step, reads, sets, Entry, those_that}
use Rattle.law.specs.Play.{after_steps, Right, all_steps}
use Rattle.law.proofs.Filters.{Each, those_append, those_none, those_all}

-- A step on one element: it gives a number to a reader, or takes a new one.
pub data Touch : Type 0 where
  gives takes : ℤ → Touch

-- The number after touches, from a number before them.
abbrev pub last : ℤ → List Touch → ℤ
last v [] = v
last v (gives w ∷ ts) = last v ts
last v (takes w ∷ ts) = last w ts

-- Every number given is the one there.
abbrev pub TrueTo : ℤ → List Touch → Type 0
TrueTo v [] = Unit {0}
TrueTo v (gives w ∷ ts) = (v ≡ w) × TrueTo v ts
TrueTo v (takes w ∷ ts) = TrueTo w ts

-- The touches of an element by a list of steps.
abbrev pub on : ℕ → List Step → List Touch
on e [] = []
on e (reads f v ∷ xs) = cond (eqb f e) (gives v ∷ on e xs) (on e xs)
on e (sets f v ∷ xs) = cond (eqb f e) (takes v ∷ on e xs) (on e xs)

pub last_append : (v : ℤ) (xs ys : List Touch) → last v (xs ++ ys) ≡ last (last v xs) ys
last_append v [] ys = refl
last_append v (gives w ∷ xs) ys = last_append v xs ys
last_append v (takes w ∷ xs) ys = last_append w xs ys

pub true_append : (v : ℤ) (xs ys : List Touch) → TrueTo v xs → TrueTo (last v xs) ys → TrueTo v (xs ++ ys)
true_append v [] ys a b = b
true_append v (gives w ∷ xs) ys a b = (a.0, true_append v xs ys a.1 b)
true_append v (takes w ∷ xs) ys a b = true_append w xs ys a b

pub true_front : (v : ℤ) (xs ys : List Touch) → TrueTo v (xs ++ ys) → TrueTo v xs
true_front v [] ys a = tt
true_front v (gives w ∷ xs) ys a = (a.0, true_front v xs ys a.1)
true_front v (takes w ∷ xs) ys a = true_front w xs ys a

pub true_back : (v : ℤ) (xs ys : List Touch) → TrueTo v (xs ++ ys) → TrueTo (last v xs) ys
true_back v [] ys a = a
true_back v (gives w ∷ xs) ys a = true_back v xs ys a.1
true_back v (takes w ∷ xs) ys a = true_back w xs ys a

pub on_append : (e : ℕ) (xs ys : List Step) → on e (xs ++ ys) ≡ on e xs ++ on e ys
on_append e [] ys = refl
on_append e (reads f v ∷ xs) ys = by (eqb f e) (on_append e xs ys)
  where
    by : (b : Bool) → on e (xs ++ ys) ≡ on e xs ++ on e ys →
        cond b (gives v ∷ on e (xs ++ ys)) (on e (xs ++ ys)) ≡ cond b (gives v ∷ on e xs) (on e xs) ++ on e ys
    by true q = ap (λ zs. gives v ∷ zs) q
    by false q = q
on_append e (sets f v ∷ xs) ys = by (eqb f e) (on_append e xs ys)
  where
    by : (b : Bool) → on e (xs ++ ys) ≡ on e xs ++ on e ys →
        cond b (takes v ∷ on e (xs ++ ys)) (on e (xs ++ ys)) ≡ cond b (takes v ∷ on e xs) (on e xs) ++ on e ys
    by true q = ap (λ zs. takes v ∷ zs) q
    by false q = q

-- The play leaves each element where its touches leave it.
pub leaves : (f : ℕ → ℤ) (xs : List Step) (e : ℕ) → after_steps f xs e ≡ last (f e) (on e xs)
leaves f [] e = refl
leaves f (reads g v ∷ xs) e = by (eqb g e) (leaves f xs e)
  where
    by : (b : Bool) → after_steps f xs e ≡ last (f e) (on e xs) → after_steps f xs e ≡ last (f e) (cond b (gives v ∷ on e xs) (on e xs))
    by true q = q
    by false q = q
leaves f (sets g v ∷ xs) e = leaves (at f g v) xs e ∙ by (eqb g e) refl
  where
    by : (b : Bool) → eqb g e ≡ b → last (at f g v e) (on e xs) ≡ last (f e) (cond b (takes v ∷ on e xs) (on e xs))
    by true q = rw (eq-eqb e g (sym (eqb-true g e q)))
    by false q = rw (ne_eqb e g (λ z. eqb-false g e q (sym z)))

-- Where the touches of each element are right, the play is.
pub plays_right : (f : ℕ → ℤ) (xs : List Step) → ((e : ℕ) → TrueTo (f e) (on e xs)) → Right f xs
plays_right f [] h = tt
plays_right f (reads g v ∷ xs) h = (
  let q : TrueTo (f g) (gives v ∷ on g xs) = rw (eq-eqb g g refl) at (h g) in q.0,
  plays_right f xs (λ e. by e (eqb g e) (h e)),
)
  where
    by : (e : ℕ) (b : Bool) → TrueTo (f e) (cond b (gives v ∷ on e xs) (on e xs)) → TrueTo (f e) (on e xs)
    by e true q = q.1
    by e false q = q
plays_right f (sets g v ∷ xs) h = (tt, plays_right (at f g v) xs (λ e. by e (eqb g e) refl (h e)))
  where
    by : (e : ℕ) (b : Bool) → eqb g e ≡ b → TrueTo (f e) (cond b (takes v ∷ on e xs) (on e xs)) → TrueTo (at f g v e) (on e xs)
    by e true q t = rw (eq-eqb e g (sym (eqb-true g e q))) t
    by e false q t = rw (ne_eqb e g (λ z. eqb-false g e q (sym z))) t

-- A touch in an order, with the transactions behind whose end it has to stand.
pub record Placed : Type 0 where
  pub touch : Touch
  pub behind : ℕ → Bool

abbrev pub placed : (ℕ → Bool) → List Touch → List Placed
placed b [] = []
placed b (t ∷ ts) = record { touch = t; behind = b } ∷ placed b ts

abbrev pub touches : List Placed → List Touch
touches [] = []
touches (x ∷ xs) = x.touch ∷ touches xs

-- What an order does to one element.
abbrev pub trace : ℕ → List Entry → List Placed
trace e [] = []
trace e (x ∷ xs) = placed x.behind (on e x.steps) ++ trace e xs

pub touches_append : (xs ys : List Placed) → touches (xs ++ ys) ≡ touches xs ++ touches ys
touches_append [] ys = refl
touches_append (x ∷ xs) ys = ap (λ zs. x.touch ∷ zs) (touches_append xs ys)

pub touches_placed : (b : ℕ → Bool) (ts : List Touch) → touches (placed b ts) ≡ ts
touches_placed b [] = refl
touches_placed b (t ∷ ts) = ap (λ zs. t ∷ zs) (touches_placed b ts)

pub trace_append : (e : ℕ) (xs ys : List Entry) → trace e (xs ++ ys) ≡ trace e xs ++ trace e ys
trace_append e [] ys = refl
trace_append e (x ∷ xs) ys =
    ap (λ zs. placed x.behind (on e x.steps) ++ zs) (trace_append e xs ys) ∙
    sym (append_assoc (placed x.behind (on e x.steps)) (trace e xs) (trace e ys))

pub trace_steps : (e : ℕ) (xs : List Entry) → on e (all_steps xs) ≡ touches (trace e xs)
trace_steps e [] = refl
trace_steps e (x ∷ xs) =
    on_append e x.steps (all_steps xs) ∙
    ap (λ zs. on e x.steps ++ zs) (trace_steps e xs) ∙
    ap (λ zs. zs ++ touches (trace e xs)) (sym (touches_placed x.behind (on e x.steps))) ∙
    sym (touches_append (placed x.behind (on e x.steps)) (trace e xs))

pub each_placed : (P : Placed → Type 0) (b : ℕ → Bool) (ts : List Touch) → ((t : Touch) → P (record { touch = t; behind = b })) → Each P (placed b ts)
each_placed P b [] f = tt
each_placed P b (t ∷ ts) f = (f t, each_placed P b ts f)

-- To choose entries by what they stand behind is to choose their touches so.
pub trace_those : (e : ℕ) (q : (ℕ → Bool) → Bool) (xs : List Entry) →
    trace e (those_that (λ x. q x.behind) xs) ≡ those_that (λ x. q x.behind) (trace e xs)
trace_those e q [] = refl
trace_those e q (x ∷ xs) =
    by (q x.behind) refl (trace_those e q xs) ∙
    sym (those_append (λ (y : Placed). q y.behind) (placed x.behind (on e x.steps)) (trace e xs))
  where
    by : (b : Bool) → q x.behind ≡ b → trace e (those_that (λ y. q y.behind) xs) ≡ those_that (λ y. q y.behind) (trace e xs) →
        trace e (cond b (x ∷ those_that (λ y. q y.behind) xs) (those_that (λ y. q y.behind) xs)) ≡
        those_that (λ y. q y.behind) (placed x.behind (on e x.steps)) ++ those_that (λ y. q y.behind) (trace e xs)
    by true r before =
        ap (λ zs. placed x.behind (on e x.steps) ++ zs) before ∙
        ap (λ zs. zs ++ those_that (λ y. q y.behind) (trace e xs))
        (sym (those_all (λ (y : Placed). q y.behind) (placed x.behind (on e x.steps)) (each_placed _ x.behind (on e x.steps) (λ t. r))))
    by false r before =
        before ∙
        ap (λ zs. zs ++ those_that (λ y. q y.behind) (trace e xs))
        (sym (those_none (λ (y : Placed). q y.behind) (placed x.behind (on e x.steps)) (each_placed _ x.behind (on e x.steps) (λ t. r))))
