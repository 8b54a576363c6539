-- Laws of looking through the numbers below a bound.
use Rattle.std.proofs.Common.{◌≡◌, ℕ, zero, suc, ◌+◌, ◌<◌, Bool, true, false, cond, ◌&&◌, ◌||◌, eqb, Some, None, sym, refl, ap, ◌∙◌, ⊎_elim, arith}
use Rattle.std.proofs.lemmas.Bool.{cond-true, cond-false, eqb-true, eq-eqb, cases_eq}
use Rattle.rules.specs.Scans.{some_below, count_below, first_or, first_below}
use Rattle.rules.proofs.Scanning.{some_true, some_none}

-- Tests that agree below n are passed alike.
pub some_alike : (n : ℕ) (p q : ℕ → Bool) → ((k : ℕ) → k < n → p k ≡ q k) → some_below n p ≡ some_below n q
unfolding some_below
some_alike zero p q h = refl
some_alike (suc n) p q h =
    ap (λ b. b || p n) (some_alike n p q (λ k l. h k (omega arith))) ∙ ap (λ b. some_below n q || b) (h n (omega arith))

-- The scan, from the front.
pub some_front : (n : ℕ) (p : ℕ → Bool) → some_below (suc n) p ≡ (p 0 || some_below n (λ k. p (suc k)))
unfolding some_below
some_front zero p = go (p 0)
  where
    go : (b : Bool) → (false || b) ≡ (b || false)
    go true = refl
    go false = refl
some_front (suc n) p = ap (λ b. b || p (suc n)) (some_front n p) ∙ go (p 0) (some_below n (λ k. p (suc k))) (p (suc n))
  where
    go : (a b c : Bool) → ((a || b) || c) ≡ (a || (b || c))
    go true b c = refl
    go false b c = refl

-- Only one number is looked at.
pub some_only : (n : ℕ) (p : ℕ → Bool) (c : ℕ) → c < n → some_below n (λ k. eqb k c && p k) ≡ p c
some_only n p c l = go (p c) refl
  where
    off : p c ≡ false → (k : ℕ) → k < n → (eqb k c && p k) ≡ false
    off e k h = here (eqb k c) refl
      where
        here : (b : Bool) → eqb k c ≡ b → (b && p k) ≡ false
        here true t = ap p (eqb-true k c t) ∙ e
        here false t = refl

    go : (b : Bool) → p c ≡ b → some_below n (λ k. eqb k c && p k) ≡ b
    go true e = some_true n (λ k. eqb k c && p k) c l (ap (λ b. b && p c) (eq-eqb c c refl) ∙ e)
    go false e = some_none n (λ k. eqb k c && p k) (off e)

-- One of two tests is passed.
pub some_either : (n : ℕ) (p q : ℕ → Bool) → some_below n (λ k. p k || q k) ≡ (some_below n p || some_below n q)
unfolding some_below
some_either zero p q = refl
some_either (suc n) p q = ap (λ b. b || (p n || q n)) (some_either n p q) ∙ go (some_below n p) (some_below n q) (p n) (q n)
  where
    go : (a b c d : Bool) → ((a || b) || (c || d)) ≡ ((a || c) || (b || d))
    go true b c d = refl
    go false true true d = refl
    go false true false d = refl
    go false false c d = refl

pub count_alike : (n : ℕ) (p q : ℕ → Bool) → ((k : ℕ) → k < n → p k ≡ q k) → count_below n p ≡ count_below n q
unfolding count_below
count_alike zero p q h = refl
count_alike (suc n) p q h =
    ap (λ b. b + cond (p n) 1 0) (count_alike n p q (λ k l. h k (omega arith))) ∙ ap (λ b. count_below n q + cond b 1 0) (h n (omega arith))

pub count_none : (n : ℕ) → count_below n (λ k. false) ≡ 0
unfolding count_below
count_none zero = refl
count_none (suc n) = let h = count_none n in omega arith

-- One number more passes the test.
pub count_one_more : (n : ℕ) (p q : ℕ → Bool) (c : ℕ) → c < n → q c ≡ false → p c ≡ true → ((k : ℕ) → (k ≡ c → ⊥) → p k ≡ q k) →
    count_below n p ≡ 1 + count_below n q
unfolding count_below
count_one_more zero p q c l f t h = elim (none l) [ ]
  where
    none : c < 0 → ⊥
    none l = omega arith
count_one_more (suc n) p q c l f t h = ⊎_elim last (λ ne. before ne (count_one_more n p q c (omega arith) f t h)) (cases_eq c n)
  where
    last : c ≡ n → count_below n p + cond (p n) 1 0 ≡ 1 + (count_below n q + cond (q n) 1 0)
    last e =
        let a = count_alike n p q (λ k l. h k (λ k≡c. omega arith)) in
        let b : ◌≡◌ {A = ℕ} (cond (p n) 1 0) 1 = cond-true (p n) 1 0 (ap p (sym e) ∙ t) in
        let d : ◌≡◌ {A = ℕ} (cond (q n) 1 0) 0 = cond-false (q n) 1 0 (ap q (sym e) ∙ f) in
        omega arith

    before : (c ≡ n → ⊥) → count_below n p ≡ 1 + count_below n q → count_below n p + cond (p n) 1 0 ≡ 1 + (count_below n q + cond (q n) 1 0)
    before ne a =
        let b : ◌≡◌ {A = ℕ} (cond (p n) 1 0) (cond (q n) 1 0) = ap (λ b. cond b 1 0) (h n (λ e. ne (sym e))) in
        omega arith

-- The first number that passes, by what it is.
pub first_none : (n : ℕ) (p : ℕ → Bool) → ((k : ℕ) → k < n → p k ≡ false) → first_below n p ≡ None
unfolding first_below
first_none zero p h = refl
first_none (suc n) p h =
    ap (λ o. first_or o (p n) n) (first_none n p (λ k l. h k (omega arith))) ∙ ap (λ b. first_or None b n) (h n (omega arith))

pub first_some : (n : ℕ) (p : ℕ → Bool) (e : ℕ) → e < n → p e ≡ true → ((k : ℕ) → k < e → p k ≡ false) → first_below n p ≡ Some e
unfolding first_below
first_some zero p e l t h = elim (none l) [ ]
  where
    none : e < 0 → ⊥
    none l = omega arith
first_some (suc n) p e l t h =
    ⊎_elim last (λ ne. ap (λ o. first_or o (p n) n) (first_some n p e (omega arith) t h)) (cases_eq e n)
  where
    last : e ≡ n → first_or (first_below n p) (p n) n ≡ Some e
    last q =
        ap (λ o. first_or o (p n) n) (first_none n p (λ k l. h k (omega arith))) ∙ ap (λ b. first_or None b n) (ap p (sym q) ∙ t) ∙ ap Some (sym q)
