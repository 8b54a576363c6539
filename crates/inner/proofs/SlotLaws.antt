-- Laws of one client's slots.
use Rattle.std.proofs.Common.{◌≡◌, ℕ, zero, suc, ◌+◌, ◌<◌, ◌≤◌, Bool, true, false, cond, eqb, ltb, List, [], ◌∷◌, length, get_or, set, is_some, is_none, Some, None, Option, sym, refl, ap, ◌∙◌, arith}
use Rattle.std.specs.List.{position, position_or_len}
use Rattle.std.specs.Option.{option_map}
use Rattle.std.proofs.lemmas.Bool.{cond-true, cond-false, eqb-true, eq-eqb, ne_eqb, lt-ltb, ltb-false}
use Rattle.std.proofs.lemmas.Bool.Decides.{nat_tests}
use Rattle.std.proofs.lemmas.List.Quantifiers.{position-Some}
use Rattle.std.proofs.lemmas.List.Sums.{fails_before_first}
use Rattle.rules.specs.Scans.{count_below}
use Rattle.rules.specs.declared.Lock.{Lock}
use Rattle.inner.proofs.ScanLaws.{count_none, count_one_more}
use Rattle.inner.specs.declared.slots.Held.{Held}
use Rattle.inner.specs.Slots.{on, lock_in, locks_on, in_use}

-- A slot on one element is on no other.
pub on_one : (s : Option Held) (e q : ℕ) → on s e ≡ true → (q ≡ e → ⊥) → on s q ≡ false
on_one None e q t ne = refl
on_one (Some h) e q t ne = ne_eqb h.element.0 q (λ f. ne (sym f ∙ eqb-true h.element.0 e t))

-- A slot that is not on an element is passed over.
skipped : (s : Option Held) (ss : List (Option Held)) (e : ℕ) → on s e ≡ false → lock_in (s ∷ ss) e ≡ lock_in ss e
skipped None ss e f = refl
skipped (Some h) ss e f = cond-false (eqb h.element.0 e) (Some h.lock) (lock_in ss e) f

-- The lock on an element is that of the first slot on it.
lock_first : (slots : List (Option Held)) (e i : ℕ) → i < length slots → on (get_or slots i None) e ≡ true →
    ((k : ℕ) → k < i → on (get_or slots k None) e ≡ false) → lock_in slots e ≡ option_map (λ h. h.lock) (get_or slots i None)
lock_first [] e i l t before = absurd (omega arith)
lock_first (None ∷ ss) e zero l t before = cc
lock_first (Some h ∷ ss) e zero l t before = cond-true (eqb h.element.0 e) (Some h.lock) (lock_in ss e) t
lock_first (s ∷ ss) e (suc i) l t before =
    skipped s ss e (before 0 (omega arith)) ∙ lock_first ss e i (omega arith) t (λ k m. before (suc k) (omega arith))

-- With no slot on an element there is no lock on it.
lock_nowhere : (slots : List (Option Held)) (e : ℕ) → ((k : ℕ) → k < length slots → on (get_or slots k None) e ≡ false) → lock_in slots e ≡ None
lock_nowhere [] e f = refl
lock_nowhere (s ∷ ss) e f = skipped s ss e (f 0 (omega arith)) ∙ lock_nowhere ss e (λ k l. f (suc k) (omega arith))

module _ (slots : List (Option Held)) (e : ℕ) where
  pub lock_at_place : (i : ℕ) → position (λ s. on s e) slots ≡ Some i → lock_in slots e ≡ option_map (λ h. h.lock) (get_or slots i None)
  lock_at_place i is = let h = position-Some (λ s. on s e) slots i None is in lock_first slots e i h.0 h.1 h.2

  pub lock_missing : position (λ s. on s e) slots ≡ None → lock_in slots e ≡ None
  lock_missing is = lock_nowhere slots e (λ k l. fails_before_first (λ s. on s e) slots k None (go (ltb (position_or_len (λ s. on s e) slots) (length slots)) refl is l))
    where
      go : {k : ℕ} (b : Bool) → ltb (position_or_len (λ s. on s e) slots) (length slots) ≡ b → cond b (Some (position_or_len (λ s. on s e) slots)) None ≡ None →
          k < length slots → k < position_or_len (λ s. on s e) slots
      go true t h l = absurd (cc)
      go false t h l = omega (arith, ltb-false (position_or_len (λ s. on s e) slots) (length slots) t)

-- Setting a slot that neither was nor is on an element leaves its lock.
pub lock_kept : (slots : List (Option Held)) (i : ℕ) (new : Option Held) (e : ℕ) → on (get_or slots i None) e ≡ false → on new e ≡ false →
    lock_in (set slots i new) e ≡ lock_in slots e
lock_kept [] i new e a b = refl
lock_kept (s ∷ ss) zero new e a b = skipped new ss e b ∙ sym (skipped s ss e a)
lock_kept (None ∷ ss) (suc i) new e a b = lock_kept ss i new e a b
lock_kept (Some h ∷ ss) (suc i) new e a b = ap (cond (eqb h.element.0 e) (Some h.lock)) (lock_kept ss i new e a b)

-- A slot that is set on an element, with none on it before that place, has its lock.
pub lock_set : (slots : List (Option Held)) (i : ℕ) (new : Held) → i < length slots →
    ((k : ℕ) → k < i → on (get_or slots k None) new.element.0 ≡ false) → lock_in (set slots i (Some new)) new.element.0 ≡ Some new.lock
lock_set [] i new l before = absurd (omega arith)
lock_set (s ∷ ss) zero new l before = cond-true (eqb new.element.0 new.element.0) (Some new.lock) (lock_in ss new.element.0) (eq-eqb new.element.0 new.element.0 refl)
lock_set (s ∷ ss) (suc i) new l before =
    skipped s (set ss i (Some new)) new.element.0 (before 0 (omega arith)) ∙ lock_set ss i new (omega arith) (λ k m. before (suc k) (omega arith))

passed : (h : Held) (ss : List (Option Held)) (e : ℕ) → lock_in (Some h ∷ ss) e ≡ None → (on (Some h) e ≡ false) × (lock_in ss e ≡ None)
passed h ss e none = go (eqb h.element.0 e) refl none
  where
    go : (b : Bool) → eqb h.element.0 e ≡ b → cond b (Some h.lock) (lock_in ss e) ≡ None → (eqb h.element.0 e ≡ false) × (lock_in ss e ≡ None)
    go true t none = absurd (cc)
    go false t none = (t, none)

-- With no lock on an element, no slot is on it.
pub nowhere_on : (slots : List (Option Held)) (e : ℕ) → lock_in slots e ≡ None → (k : ℕ) → on (get_or slots k None) e ≡ false
nowhere_on [] e h k = refl
nowhere_on (None ∷ ss) e h zero = refl
nowhere_on (None ∷ ss) e h (suc k) = nowhere_on ss e h k
nowhere_on (Some x ∷ ss) e h zero = (passed x ss e h).0
nowhere_on (Some x ∷ ss) e h (suc k) = nowhere_on ss e (passed x ss e h).1 k

-- The count of locks on an element when one slot is set.
pub locks_set : (slots : List (Option Held)) (i : ℕ) (new : Option Held) (e : ℕ) → i < length slots →
    locks_on (set slots i new) e + cond (on (get_or slots i None) e) 1 0 ≡ locks_on slots e + cond (on new e) 1 0
locks_set [] i new e l = absurd (omega arith)
locks_set (s ∷ ss) zero new e l = omega arith
locks_set (s ∷ ss) (suc i) new e l = let h = locks_set ss i new e (omega arith) in omega arith

-- An element has a lock exactly if some slot is on it.
pub lock_counts : (slots : List (Option Held)) (e : ℕ) → is_some (lock_in slots e) ≡ ltb 0 (locks_on slots e)
lock_counts [] e = refl
lock_counts (None ∷ ss) e = lock_counts ss e ∙ ap (ltb 0) (omega arith)
lock_counts (Some h ∷ ss) e = go (eqb h.element.0 e) (lock_counts ss e)
  where
    go : (b : Bool) → is_some (lock_in ss e) ≡ ltb 0 (locks_on ss e) → is_some (cond b (Some h.lock) (lock_in ss e)) ≡ ltb 0 (cond b 1 0 + locks_on ss e)
    go true ih = sym (lt-ltb 0 (1 + locks_on ss e) (omega arith))
    go false ih = ih ∙ ap (ltb 0) (omega arith)

-- What holds of the slots behind the first, where no element has two locks.
pub once_behind : (s : Option Held) (ss : List (Option Held)) → ((e : ℕ) → locks_on (s ∷ ss) e ≤ 1) → (e : ℕ) → locks_on ss e ≤ 1
once_behind s ss once e = omega (arith, once e)

-- A lock is on its own element.
pub own_count : (h : Held) → ◌≡◌ {A = ℕ} (cond (on (Some h) h.element.0) 1 0) 1
own_count h = cond-true (on (Some h) h.element.0) 1 0 (eq-eqb h.element.0 h.element.0 refl)

pub none_lock : (slots : List (Option Held)) (e : ℕ) → locks_on slots e ≡ 0 → lock_in slots e ≡ None
none_lock slots e h = go (lock_in slots e) (lock_counts slots e ∙ ap (ltb 0) h)
  where
    go : (o : Option Lock) → is_some o ≡ false → o ≡ None
    go None t = refl
    go (Some l) t = absurd (cc)

pub count_from_none : (slots : List (Option Held)) (e : ℕ) → lock_in slots e ≡ None → locks_on slots e ≡ 0
count_from_none slots e h = omega (arith, ltb-false 0 (locks_on slots e) (sym (lock_counts slots e) ∙ ap is_some h))

-- The elements with a lock are as many as the slots in use, where no element has two locks.
pub elements_in_use : (slots : List (Option Held)) (n : ℕ) → ((e : ℕ) → locks_on slots e ≤ 1) → ((e : ℕ) → 0 < locks_on slots e → e < n) →
    count_below n (λ e. is_some (lock_in slots e)) ≡ in_use slots
elements_in_use [] n once within = count_none n
elements_in_use (None ∷ ss) n once within = elements_in_use ss n (once_behind None ss once) (λ e l. within e (omega arith))
elements_in_use (Some h ∷ ss) n once within =
    count_one_more n (λ e. is_some (lock_in (Some h ∷ ss) e)) (λ e. is_some (lock_in ss e)) h.element.0
    (within h.element.0 (omega (arith, own_count h)))
    (ap is_some (none_lock ss h.element.0 (omega (arith, own_count h, once h.element.0))))
    (ap is_some (cond-true (eqb h.element.0 h.element.0) (Some h.lock) (lock_in ss h.element.0) (eq-eqb h.element.0 h.element.0 refl)))
    (λ k ne. ap is_some (skipped (Some h) ss k (ne_eqb h.element.0 k (λ f. ne (sym f)))))
    ∙ ap (λ m. 1 + m) (elements_in_use ss n (once_behind (Some h) ss once) (λ e l. within e (omega arith)))

-- At most all slots are in use; there is a free one exactly if not all are.
in_use_most : (slots : List (Option Held)) → in_use slots ≤ length slots
in_use_most [] = omega arith
in_use_most (None ∷ ss) = let h = in_use_most ss in omega arith
in_use_most (Some h ∷ ss) = let h = in_use_most ss in omega arith

pub free_room : (slots : List (Option Held)) → is_some (position is_none slots) ≡ ltb (in_use slots) (length slots)
free_room slots = go (ltb (position_or_len is_none slots) (length slots)) ∙ by_len slots
  where
    go : (b : Bool) → is_some (cond b (Some (position_or_len is_none slots)) None) ≡ b
    go true = refl
    go false = refl

    by_len : (slots : List (Option Held)) → ltb (position_or_len is_none slots) (length slots) ≡ ltb (in_use slots) (length slots)
    by_len [] = refl
    by_len (None ∷ ss) = let h = in_use_most ss in grind (arith, nat_tests)
    by_len (Some x ∷ ss) = let h = by_len ss in grind (arith, nat_tests)
