-- What looking through the numbers below a bound tells.
use Rattle.std.proofs.Common.{◌≡◌, ℕ, zero, suc, ◌<◌, Bool, true, false, ◌⊎◌, Some, None, Option, sym, refl, subst, inl, inr, arith}
use Rattle.std.proofs.lemmas.Bool.{or_left, or_right, or_parts, or_from, or_cases, cases_order}
use Rattle.rules.specs.Scans.{some_below, first_below}

-- A number below the next is below, or is the last.
last_or_below : (k n : ℕ) → k < suc n → (k < n) ⊎ (k ≡ n)
last_or_below k n l = elim (cases_order k n) [ inl e ↦ inr e | inr o ↦ elim o [ inl b ↦ inl b | inr b ↦ absurd (omega arith) ] ]

pub some_true : (n : ℕ) (p : ℕ → Bool) (k : ℕ) → k < n → p k ≡ true → some_below n p ≡ true
unfolding some_below
some_true zero p k l e = absurd (omega arith)
some_true (suc n) p k l e =
    elim (last_or_below k n l) [
      | inl b ↦ or_left (some_below n p) (p n) (some_true n p k b e)
      | inr q ↦ or_right (some_below n p) (p n) (subst (λ x. p x ≡ true) q e)
    ]

pub some_false : (n : ℕ) (p : ℕ → Bool) → some_below n p ≡ false → (k : ℕ) → k < n → p k ≡ false
unfolding some_below
some_false zero p h k l = absurd (omega arith)
some_false (suc n) p h k l =
    let both = or_parts (some_below n p) (p n) h in
    elim (last_or_below k n l) [ inl b ↦ some_false n p both.0 k b | inr q ↦ subst (λ x. p x ≡ false) (sym q) both.1 ]

pub some_none : (n : ℕ) (p : ℕ → Bool) → ((k : ℕ) → k < n → p k ≡ false) → some_below n p ≡ false
unfolding some_below
some_none zero p h = refl
some_none (suc n) p h = or_from (some_below n p) (p n) (some_none n p (λ k l. h k (omega arith))) (h n (omega arith))

-- One that passes.
pub record Found (n : ℕ) (p : ℕ → Bool) : Type 0 where
  pub found : ℕ
  pub below : found < n
  pub passes : p found ≡ true

pub some_found : (n : ℕ) (p : ℕ → Bool) → some_below n p ≡ true → Found n p
unfolding some_below
some_found zero p h = absurd (let z : ◌≡◌ {A = ℕ} 0 1 = cc in omega arith)
some_found (suc n) p h =
    elim (or_cases (some_below n p) (p n) h) [
      | inl b ↦ (let f = some_found n p b in record { found = f.found; below = (let l = f.below in omega arith); passes = f.passes })
      | inr b ↦ record { found = n; below = omega arith; passes = b }
    ]

pub first_none : (n : ℕ) (p : ℕ → Bool) → first_below n p ≡ None → (k : ℕ) → k < n → p k ≡ false
unfolding first_below
first_none zero p h k l = absurd (omega arith)
first_none (suc n) p h k l = by (first_none n p) (first_below n p) refl (p n) refl
  where
    by : (first_below n p ≡ None → (j : ℕ) → j < n → p j ≡ false) → (o : Option ℕ) → first_below n p ≡ o → (b : Bool) → p n ≡ b → p k ≡ false
    by before (Some j) eo b eb = cc
    by before None eo true eb = cc
    by before None eo false eb = elim (last_or_below k n l) [ inl b ↦ before eo k b | inr q ↦ subst (λ x. p x ≡ false) (sym q) eb ]
