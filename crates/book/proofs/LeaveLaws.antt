-- Clients that leave one after another leave together.
use Rattle.std.proofs.Common.{◌≡◌, ℕ, ◌+◌, ◌<◌, ◌≤◌, Bool, true, false, cond, ◌&&◌, ◌||◌, eqb, ltb, None, sym, refl, ap, ◌∙◌, arith}
use mathlib.Core.Path.{fun_ext}
use Rattle.std.proofs.lemmas.Bool.{cond-false, eqb-true, le-ltb, ltb-false, and_left}
use Rattle.std.proofs.lemmas.Bool.Decides.{nat_tests}
use Rattle.rules.specs.Scans.{some_below}
use Rattle.rules.specs.State.{State, for_writing}
use Rattle.rules.specs.Locking.{leave}
use Rattle.rules.specs.declared.ClientState.{ClientState}
use Rattle.rules.proofs.Scanning.{some_none}
use Rattle.inner.proofs.ScanLaws.{some_alike, some_only, some_either}

-- One more of them, or not.
more_below : (i d : ℕ) → ltb d (i + 1) ≡ (eqb d i || ltb d i)
more_below i d = grind (arith, nat_tests)

module _ (those : ℕ → Bool) (i : ℕ) where
  one_more : those i ≡ true → (d : ℕ) → (ltb d (i + 1) && those d) ≡ (eqb d i || (ltb d i && those d))
  one_more t d = ap (λ b. b && those d) (more_below i d) ∙ go (eqb d i) refl
    where
      go : (b : Bool) → eqb d i ≡ b → ((b || ltb d i) && those d) ≡ (b || (ltb d i && those d))
      go true e = ap those (eqb-true d i e) ∙ t
      go false e = refl

  none_more : those i ≡ false → (d : ℕ) → (ltb d (i + 1) && those d) ≡ (ltb d i && those d)
  none_more t d = ap (λ b. b && those d) (more_below i d) ∙ go (eqb d i) refl
    where
      go : (b : Bool) → eqb d i ≡ b → ((b || ltb d i) && those d) ≡ (ltb d i && those d)
      go true e = ap those (eqb-true d i e) ∙ t ∙ sym (off (ltb d i) (ap those (eqb-true d i e) ∙ t))
        where
          off : (b : Bool) → those d ≡ false → (b && those d) ≡ false
          off true h = h
          off false h = refl
      go false e = refl

or_cond : {X : Type 0} (a b : Bool) (x y : X) → cond a x (cond b x y) ≡ cond (a || b) x y
or_cond true b x y = refl
or_cond false b x y = refl

pub leave_alike : (p q : ℕ → Bool) (after : ClientState) (s : State) → ((d : ℕ) → p d ≡ q d) → leave p after s ≡ leave q after s
leave_alike p q after s h = ap (λ f. leave f after s) (fun_ext h)

module _ (those : ℕ → Bool) (after : ClientState) (s : State) where
  -- Nobody leaves.
  pub leave_start : s ≡ leave (λ d. ltb d 0 && those d) after s
  leave_start = λ j. record {
    table = s.table;
    clients = (fun_ext (λ d. ap (λ b. cond b after (s.clients d)) (sym (none d)))) j;
    locks = (fun_ext (λ d. fun_ext (λ e. ap (λ b. cond b None (s.locks d e)) (sym (none d))))) j;
    marked = s.marked;
    second = (fun_ext (λ e. ap (λ b. cond b None (s.second e)) (sym (some_none 16 (λ d. (ltb d 0 && those d) && for_writing (s.locks d e)) (λ d l. ap (λ b. b && for_writing (s.locks d e)) (none d)))))) j;
    ties = s.ties;
  }
    where
      none : (d : ℕ) → (ltb d 0 && those d) ≡ false
      none d = and_left (ltb d 0) (those d) (le-ltb d 0 (omega arith))

  -- The next of them leaves.
  pub leave_more : (i : ℕ) → i < 16 → those i ≡ true →
      leave (λ d. eqb d i) after (leave (λ d. ltb d i && those d) after s) ≡ leave (λ d. ltb d (i + 1) && those d) after s
  leave_more i l t = λ j. record {
    table = s.table;
    clients = (fun_ext (λ d. or_cond (eqb d i) (ltb d i && those d) after (s.clients d) ∙ ap (λ b. cond b after (s.clients d)) (sym (one_more those i t d)))) j;
    locks = (fun_ext (λ d. fun_ext (λ e. or_cond (eqb d i) (ltb d i && those d) None (s.locks d e) ∙ ap (λ b. cond b None (s.locks d e)) (sym (one_more those i t d))))) j;
    marked = s.marked;
    second = (fun_ext seconds) j;
    ties = s.ties;
  }
    where
      own : (e : ℕ) → some_below 16 (λ d. eqb d i && for_writing (cond (ltb d i && those d) None (s.locks d e))) ≡ some_below 16 (λ d. eqb d i && for_writing (s.locks d e))
      own e =
          some_only 16 (λ d. for_writing (cond (ltb d i && those d) None (s.locks d e))) i l
          ∙ ap for_writing (cond-false (ltb i i && those i) None (s.locks i e) (and_left (ltb i i) (those i) (le-ltb i i (omega arith))))
          ∙ sym (some_only 16 (λ d. for_writing (s.locks d e)) i l)

      spread : (a b c : Bool) → ((a && c) || (b && c)) ≡ ((a || b) && c)
      spread true true true = refl
      spread true true false = refl
      spread true false true = refl
      spread true false false = refl
      spread false b c = refl

      all : (e : ℕ) → (some_below 16 (λ d. eqb d i && for_writing (s.locks d e)) || some_below 16 (λ d. (ltb d i && those d) && for_writing (s.locks d e)))
          ≡ some_below 16 (λ d. (ltb d (i + 1) && those d) && for_writing (s.locks d e))
      all e =
          sym (some_either 16 (λ d. eqb d i && for_writing (s.locks d e)) (λ d. (ltb d i && those d) && for_writing (s.locks d e)))
          ∙ some_alike 16 (λ d. (eqb d i && for_writing (s.locks d e)) || ((ltb d i && those d) && for_writing (s.locks d e))) (λ d. (ltb d (i + 1) && those d) && for_writing (s.locks d e))
          (λ d h. spread (eqb d i) (ltb d i && those d) (for_writing (s.locks d e)) ∙ ap (λ b. b && for_writing (s.locks d e)) (sym (one_more those i t d)))

      seconds : (e : ℕ) → cond (some_below 16 (λ d. eqb d i && for_writing (cond (ltb d i && those d) None (s.locks d e)))) None (cond (some_below 16 (λ d. (ltb d i && those d) && for_writing (s.locks d e))) None (s.second e))
          ≡ cond (some_below 16 (λ d. (ltb d (i + 1) && those d) && for_writing (s.locks d e))) None (s.second e)
      seconds e =
          ap (λ b. cond b None (cond (some_below 16 (λ d. (ltb d i && those d) && for_writing (s.locks d e))) None (s.second e))) (own e)
          ∙ or_cond (some_below 16 (λ d. eqb d i && for_writing (s.locks d e))) (some_below 16 (λ d. (ltb d i && those d) && for_writing (s.locks d e))) None (s.second e)
          ∙ ap (λ b. cond b None (s.second e)) (all e)

  -- The next number is none of them.
  pub leave_past : (i : ℕ) → those i ≡ false → leave (λ d. ltb d i && those d) after s ≡ leave (λ d. ltb d (i + 1) && those d) after s
  leave_past i t = leave_alike (λ d. ltb d i && those d) (λ d. ltb d (i + 1) && those d) after s (λ d. sym (none_more those i t d))

  -- All of them have left.
  pub leave_all : (n : ℕ) → ((d : ℕ) → n ≤ d → those d ≡ false) → leave (λ d. ltb d n && those d) after s ≡ leave those after s
  leave_all n h = leave_alike (λ d. ltb d n && those d) those after s (λ d. go d (ltb d n) refl)
    where
      go : (d : ℕ) (b : Bool) → ltb d n ≡ b → (b && those d) ≡ those d
      go d true e = refl
      go d false e = sym (h d (ltb-false d n e))
