-- Lists: what holds of each, and those that pass a test.
use Rattle.std.proofs.Common.{◌≡◌, Bool, true, false, cond, ◌&&◌, List, [], ◌∷◌, ◌++◌, refl, ap}
use Rattle.law.specs.Order.{those_that}

-- A fact holds of each of a list.
abbrev pub Each : {X : Type 0} → (X → Type 0) → List X → Type 0
Each P [] = Unit {0}
Each P (x ∷ xs) = P x × Each P xs

pub each_append : {X : Type 0} (P : X → Type 0) (xs ys : List X) → Each P xs → Each P ys → Each P (xs ++ ys)
each_append P [] ys a b = b
each_append P (x ∷ xs) ys a b = (a.0, each_append P xs ys a.1 b)

pub each_front : {X : Type 0} (P : X → Type 0) (xs ys : List X) → Each P (xs ++ ys) → Each P xs
each_front P [] ys a = tt
each_front P (x ∷ xs) ys a = (a.0, each_front P xs ys a.1)

pub each_back : {X : Type 0} (P : X → Type 0) (xs ys : List X) → Each P (xs ++ ys) → Each P ys
each_back P [] ys a = a
each_back P (x ∷ xs) ys a = each_back P xs ys a.1

pub each_weaker : {X : Type 0} (P Q : X → Type 0) (xs : List X) → ((x : X) → P x → Q x) → Each P xs → Each Q xs
each_weaker P Q [] f a = tt
each_weaker P Q (x ∷ xs) f a = (f x a.0, each_weaker P Q xs f a.1)

pub each_always : {X : Type 0} (P : X → Type 0) (xs : List X) → ((x : X) → P x) → Each P xs
each_always P [] f = tt
each_always P (x ∷ xs) f = (f x, each_always P xs f)

pub each_of_those : {X : Type 0} (P : X → Type 0) (p : X → Bool) (xs : List X) → Each P xs → Each P (those_that p xs)
each_of_those P p [] a = tt
each_of_those P p (x ∷ xs) a = by (p x) (each_of_those P p xs a.1)
  where
    by : (b : Bool) → Each P (those_that p xs) → Each P (cond b (x ∷ those_that p xs) (those_that p xs))
    by true rest = (a.0, rest)
    by false rest = rest

pub those_append : {X : Type 0} (p : X → Bool) (xs ys : List X) → those_that p (xs ++ ys) ≡ those_that p xs ++ those_that p ys
those_append p [] ys = refl
those_append p (x ∷ xs) ys = by (p x) (those_append p xs ys)
  where
    by : (b : Bool) → those_that p (xs ++ ys) ≡ those_that p xs ++ those_that p ys →
        cond b (x ∷ those_that p (xs ++ ys)) (those_that p (xs ++ ys)) ≡ cond b (x ∷ those_that p xs) (those_that p xs) ++ those_that p ys
    by true e = ap (λ zs. x ∷ zs) e
    by false e = e

pub those_none : {X : Type 0} (p : X → Bool) (xs : List X) → Each (λ x. p x ≡ false) xs → those_that p xs ≡ []
those_none p [] a = refl
those_none p (x ∷ xs) a = rw a.0 (those_none p xs a.1)

pub those_all : {X : Type 0} (p : X → Bool) (xs : List X) → Each (λ x. p x ≡ true) xs → those_that p xs ≡ xs
those_all p [] a = refl
those_all p (x ∷ xs) a = rw a.0 (ap (λ zs. x ∷ zs) (those_all p xs a.1))

pub those_same : {X : Type 0} (p q : X → Bool) (xs : List X) → Each (λ x. p x ≡ q x) xs → those_that p xs ≡ those_that q xs
those_same p q [] a = refl
those_same p q (x ∷ xs) a =
    rw a.0 (ap (λ zs. cond (q x) (x ∷ zs) zs) (those_same p q xs a.1))

pub those_both : {X : Type 0} (p q : X → Bool) (xs : List X) → those_that (λ x. p x && q x) xs ≡ those_that p (those_that q xs)
those_both p q [] = refl
those_both p q (x ∷ xs) = by (p x) refl (q x) (those_both p q xs)
  where
    by : (b : Bool) → p x ≡ b → (d : Bool) → those_that (λ y. p y && q y) xs ≡ those_that p (those_that q xs) →
        cond (b && d) (x ∷ those_that (λ y. p y && q y) xs) (those_that (λ y. p y && q y) xs) ≡
        those_that p (cond d (x ∷ those_that q xs) (those_that q xs))
    by true e true r = rw e (ap (λ zs. x ∷ zs) r)
    by true e false r = r
    by false e true r = rw e r
    by false e false r = r

pub each_maybe : {X : Type 0} (P : X → Type 0) (b : Bool) (x : X) → P x → Each P (cond b (x ∷ []) [])
each_maybe P true x a = (a, tt)
each_maybe P false x a = tt
