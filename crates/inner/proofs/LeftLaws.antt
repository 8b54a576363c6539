-- Laws of what is left for write back.
use Rattle.std.proofs.Common.{◌≡◌, ℕ, ◌+◌, ◌<◌, ◌≤◌, min, Bool, true, false, cond, not, ◌&&◌, ◌||◌, eqb, ltb, List, [], ◌∷◌, Some, None, Option, sym, refl, ap, ◌∙◌, arith}
use Rattle.std.specs.List.{cons_option, filter_map, fold, list_any, reduce}
use Rattle.std.proofs.lemmas.Bool.{eqb-true, ltb-true, ltb-false}
use Rattle.std.proofs.lemmas.Bool.Decides.{nat_tests}
use Rattle.rules.specs.Scans.{first_below}
use Rattle.rules.specs.Calls.{is_left}
use Rattle.inner.proofs.ScanLaws.{first_none, first_some}
use Rattle.inner.proofs.SlotLaws.{once_behind, none_lock}
use Rattle.inner.specs.declared.slots.Held.{Held}
use Rattle.inner.specs.Slots.{lock_in, locks_on, left_element, lowest_left}

-- Whether a number is one of these.
abbrev one_of : List ℕ → ℕ → Bool
one_of xs e = list_any (λ x. eqb x e) xs

-- Below 256 the elements that are left are those whose lock is, where no element has two locks.
left_there : (slots : List (Option Held)) (e : ℕ) → e < 256 → ((e : ℕ) → locks_on slots e ≤ 1) → is_left (lock_in slots e) ≡ one_of (filter_map left_element slots) e
left_there [] e small once = refl
left_there (None ∷ ss) e small once = left_there ss e small (once_behind None ss once)
left_there (Some h ∷ ss) e small once =
    go (eqb h.element.0 e) refl (h.lock.changed && not h.lock.taken) refl (ltb h.element.0 256) refl (once e) (left_there ss e small (once_behind (Some h) ss once))
  where
    go : (a : Bool) → eqb h.element.0 e ≡ a → (b : Bool) → (h.lock.changed && not h.lock.taken) ≡ b → (s : Bool) → ltb h.element.0 256 ≡ s → cond a 1 0 + locks_on ss e ≤ 1 →
        is_left (lock_in ss e) ≡ one_of (filter_map left_element ss) e →
        is_left (cond a (Some h.lock) (lock_in ss e)) ≡ one_of (cons_option (cond (b && s) (Some h.element.0) None) (filter_map left_element ss)) e
    go true i true t true s l rest = t ∙ ap (λ c. c || one_of (filter_map left_element ss) e) (sym i)
    go true i true t false s l rest = let q = eqb-true h.element.0 e i in absurd (omega (arith, q, small, ltb-false h.element.0 256 s))
    go true i false t s u l rest = t ∙ sym (ap is_left (none_lock ss e (omega arith))) ∙ rest
    go false i true t true s l rest = rest ∙ ap (λ c. c || one_of (filter_map left_element ss) e) (sym i)
    go false i true t false s l rest = rest
    go false i false t s u l rest = rest

-- All of them are below 256.
left_small : (slots : List (Option Held)) (e : ℕ) → one_of (filter_map left_element slots) e ≡ true → e < 256
left_small [] e t = absurd (cc t)
left_small (None ∷ ss) e t = left_small ss e t
left_small (Some h ∷ ss) e t = go (h.lock.changed && not h.lock.taken) (ltb h.element.0 256) refl (eqb h.element.0 e) refl t (left_small ss e)
  where
    go : (b s : Bool) → ltb h.element.0 256 ≡ s → (a : Bool) → eqb h.element.0 e ≡ a → one_of (cons_option (cond (b && s) (Some h.element.0) None) (filter_map left_element ss)) e ≡ true →
        (one_of (filter_map left_element ss) e ≡ true → e < 256) → e < 256
    go true true s true i t rest = omega (arith, eqb-true h.element.0 e i, ltb-true h.element.0 256 s)
    go true true s false i t rest = rest (ap (λ c. c || one_of (filter_map left_element ss) e) (sym i) ∙ t)
    go true false s a i t rest = rest t
    go false s u a i t rest = rest t

-- The lowest of some numbers: no lower number is one of them, and it is.
at_most : (m : ℕ) (xs : List ℕ) → fold min m xs ≤ m
at_most m [] = omega arith
at_most m (x ∷ xs) = let h = at_most (min m x) xs in omega arith

none_lower : (m : ℕ) (xs : List ℕ) (k : ℕ) → k < fold min m xs → one_of (m ∷ xs) k ≡ false
none_lower m [] k l = grind (arith, nat_tests)
none_lower m (x ∷ xs) k l = go (one_of xs k) (omega (arith, at_most (min m x) xs)) (none_lower (min m x) xs k l)
  where
    go : (b : Bool) → k < min m x → (eqb (min m x) k || b) ≡ false → (eqb m k || (eqb x k || b)) ≡ false
    go b l h = grind (arith, nat_tests)

lowest_there : (m : ℕ) (xs : List ℕ) → one_of (m ∷ xs) (fold min m xs) ≡ true
lowest_there m [] = grind (arith, nat_tests)
lowest_there m (x ∷ xs) = go (fold min (min m x) xs) (one_of xs (fold min (min m x) xs)) (lowest_there (min m x) xs)
  where
    go : (r : ℕ) (b : Bool) → (eqb (min m x) r || b) ≡ true → (eqb m r || (eqb x r || b)) ≡ true
    go r b h = grind (arith, nat_tests)

-- So the lowest element that is left is the first that is.
pub lowest_is_first : (slots : List (Option Held)) → ((e : ℕ) → locks_on slots e ≤ 1) → first_below 256 (λ e. is_left (lock_in slots e)) ≡ lowest_left slots
lowest_is_first slots once = go (filter_map left_element slots) (λ e l. left_there slots e l once) (left_small slots)
  where
    go : (xs : List ℕ) → ((e : ℕ) → e < 256 → is_left (lock_in slots e) ≡ one_of xs e) → ((e : ℕ) → one_of xs e ≡ true → e < 256) →
        first_below 256 (λ e. is_left (lock_in slots e)) ≡ reduce min xs
    go [] same small = first_none 256 (λ e. is_left (lock_in slots e)) (λ k l. same k l)
    go (x ∷ xs) same small =
        let low : fold min x xs < 256 = small (fold min x xs) (lowest_there x xs) in
        first_some 256 (λ e. is_left (lock_in slots e)) (fold min x xs) low (same (fold min x xs) low ∙ lowest_there x xs) (λ k l. same k (omega (arith, l, low)) ∙ none_lower x xs k l)
