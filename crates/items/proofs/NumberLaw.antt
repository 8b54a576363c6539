-- A text is a number exactly if the scan finds one, and then it is that one.
use Rattle.std.proofs.Common.{◌≡◌, ℕ, ◌+◌, ◌-◌, ◌*◌, ◌≤◌, Bool, true, false, cond, eqb, List, [], ◌∷◌, ◌++◌, length, ℤ, pos, neg_ℤ, Some, None, Option, append-nil, sym, refl, ap, ◌∙◌, subst, arith, MatchOption}
use Rattle.std.specs.Option.{option_map}
use Rattle.std.proofs.lemmas.Bool.{cond-true, cond-false, ne_eqb, eqb-true, eqb-false}
use Rattle.std.proofs.lemmas.List.{nil_from_length, append_cancel_right}
use Rattle.items.proofs.Digits.{in_digits}
use Rattle.items.specs.Numerals.{is_digit, AllDigits, OneToTenDigits, worth, sign_text, kilo_text, in_thousands, with_sign, Numeral, scan, number_of}

-- what a scan that finds m has met
record Scanned (n v : ℕ) (w : List ℕ) (m : ℕ) : Type 0 where
  digits : List ℕ
  kilo : Bool
  spelled : w ≡ digits ++ kilo_text kilo
  only : AllDigits digits
  some : 1 ≤ n + length digits
  few : n + length digits ≤ 10
  value : m ≡ in_thousands kilo (worth v digits)

no_some : {X : Type 0} (P : Type 0) (x : X) → None ≡ Some x → P
no_some P x e = let z : ◌≡◌ {A = ℕ} 0 1 = cc in absurd (omega arith)

at_end : (n v m : ℕ) → n ≤ 10 → (t : Bool) → eqb n 0 ≡ t → cond t None (Some v) ≡ Some m → Scanned n v [] m
at_end n v m l true q e = no_some _ m e
at_end n v m l false q e = record {
  digits = [];
  kilo = false;
  spelled = refl;
  only = tt;
  some = omega (arith, eqb-false n 0 q);
  few = omega arith;
  value = cc;
}

one_digit : (n v b m : ℕ) (bs : List ℕ) → is_digit b ≡ true → Scanned (n + 1) (10 * v + (b - 48)) bs m → Scanned n v (b ∷ bs) m
one_digit n v b m bs d s = record {
  digits = b ∷ s.digits;
  kilo = s.kilo;
  spelled = ap (λ l. b ∷ l) s.spelled;
  only = (d, s.only);
  some = omega (arith, s.some);
  few = omega (arith, s.few);
  value = s.value;
}

at_kilo : (n v b m : ℕ) (bs : List ℕ) → n ≤ 10 → (t k u : Bool) → eqb b 107 ≡ t → eqb n 0 ≡ k → eqb (length bs) 0 ≡ u →
    cond t (cond k None (cond u (Some (1000 * v)) None)) None ≡ Some m → Scanned n v (b ∷ bs) m
at_kilo n v b m bs l false k u p q r e = no_some _ m e
at_kilo n v b m bs l true true u p q r e = no_some _ m e
at_kilo n v b m bs l true false false p q r e = no_some _ m e
at_kilo n v b m bs l true false true p q r e = record {
  digits = [];
  kilo = true;
  spelled = ap (λ x. x ∷ bs) (eqb-true b 107 p) ∙ ap (λ x. 107 ∷ x) (nil_from_length bs (eqb-true _ 0 r));
  only = tt;
  some = omega (arith, eqb-false n 0 q);
  few = omega arith;
  value = cc;
}

at_full : (n m : ℕ) (r : Option ℕ) → (t : Bool) → eqb n 10 ≡ t → cond t None r ≡ Some m → (r ≡ Some m) × (n ≡ 10 → ⊥)
at_full n m r true q e = no_some _ m e
at_full n m r false q e = (e, eqb-false n 10 q)

by_digit : (n v b : ℕ) (bs : List ℕ) (m : ℕ) → n ≤ 10 → (t : Bool) → is_digit b ≡ t →
    cond t (cond (eqb n 10) None (scan (n + 1) (10 * v + (b - 48)) bs))
    (cond (eqb b 107) (cond (eqb n 0) None (cond (eqb (length bs) 0) (Some (1000 * v)) None)) None) ≡ Some m →
    ((n + 1 ≤ 10) → scan (n + 1) (10 * v + (b - 48)) bs ≡ Some m → Scanned (n + 1) (10 * v + (b - 48)) bs m) →
    Scanned n v (b ∷ bs) m
by_digit n v b bs m l true d e more =
    let f = at_full n m (scan (n + 1) (10 * v + (b - 48)) bs) (eqb n 10) refl e in
    one_digit n v b m bs d (more (omega (arith, f.1)) f.0)
by_digit n v b bs m l false d e more = at_kilo n v b m bs l _ _ _ refl refl refl e

-- a scan that finds a size has met digits, and a k or none
scan_sound : (n v : ℕ) (w : List ℕ) (m : ℕ) → n ≤ 10 → scan n v w ≡ Some m → Scanned n v w m
scan_sound n v [] m l e = at_end n v m l (eqb n 0) refl e
scan_sound n v (b ∷ bs) m l e = by_digit n v b bs m l (is_digit b) refl e (λ k f. scan_sound (n + 1) (10 * v + (b - 48)) bs m k f)

-- digits, and a k or none, are found
scan_complete : (n v : ℕ) (ds : List ℕ) (k : Bool) → AllDigits ds → 1 ≤ n + length ds → n + length ds ≤ 10 →
    scan n v (ds ++ kilo_text k) ≡ Some (in_thousands k (worth v ds))
scan_complete n v [] true a s f = cond-false (eqb n 0) _ _ (ne_eqb n 0 (omega arith))
scan_complete n v [] false a s f = cond-false (eqb n 0) _ _ (ne_eqb n 0 (omega arith))
scan_complete n v (d ∷ ds) k a s f =
    cond-true (is_digit d) _ _ a.0 ∙ cond-false (eqb n 10) _ _ (ne_eqb n 10 (omega arith)) ∙
    scan_complete (n + 1) (10 * v + (d - 48)) ds k a.1 (omega arith) (omega arith)

pub size_complete : (ds : List ℕ) (k : Bool) → OneToTenDigits ds → scan 0 0 (ds ++ kilo_text k) ≡ Some (in_thousands k (worth 0 ds))
size_complete ds k d = scan_complete 0 0 ds k d.only (omega (arith, d.some)) (omega (arith, d.few))

-- a k is no digit
no_kilo : (ds : List ℕ) → AllDigits (ds ++ 107 ∷ []) → ⊥
no_kilo [] a = let z : ◌≡◌ {A = Bool} false true = a.0 in cc
no_kilo (d ∷ ds) a = no_kilo ds a.1

-- digits, and a k or none, are spelled in one way
spelled_once : (xs ys : List ℕ) (j k : Bool) → AllDigits xs → (k ≡ false → (zs : List ℕ) → ys ≡ zs ++ 107 ∷ [] → ⊥) →
    xs ++ kilo_text j ≡ ys ++ kilo_text k → xs ≡ ys
spelled_once xs ys true true a f e = append_cancel_right xs ys (107 ∷ []) e
spelled_once xs ys true false a f e = absurd (f refl xs (sym (e ∙ append-nil ys)))
spelled_once xs ys false true a f e = absurd (no_kilo ys (subst AllDigits (sym (append-nil xs) ∙ e) a))
spelled_once xs ys false false a f e = sym (append-nil xs) ∙ e ∙ append-nil ys

-- what is not one to ten digits, and a k or none, is no size
pub size_none : (ds : List ℕ) (k : Bool) → (k ≡ false → (zs : List ℕ) → ds ≡ zs ++ 107 ∷ [] → ⊥) → (OneToTenDigits ds → ⊥) → None ≡ scan 0 0 (ds ++ kilo_text k)
size_none ds k f unlike = by (scan 0 0 (ds ++ kilo_text k)) refl
  where
    by : (r : Option ℕ) → scan 0 0 (ds ++ kilo_text k) ≡ r → None ≡ r
    by None e = refl
    by (Some m) e =
        let s = scan_sound 0 0 (ds ++ kilo_text k) m (omega arith) e in
        let same = spelled_once s.digits ds s.kilo k s.only f (sym s.spelled) in
        absurd (unlike (subst OneToTenDigits same (record { only = s.only; some = omega (arith, s.some); few = omega (arith, s.few) })))

-- a text that ends in no k is a size exactly if it is one to ten digits
pub plain_law : (text : List ℕ) (r : Option ℤ) → ((zs : List ℕ) → text ≡ zs ++ 107 ∷ [] → ⊥) →
    MatchOption r (OneToTenDigits text → ⊥) (λ n. OneToTenDigits text × (n ≡ pos (worth 0 text))) → r ≡ option_map pos (scan 0 0 text)
plain_law text None f v = ap (option_map pos) (size_none text false (λ e. f) v ∙ ap (scan 0 0) (append-nil text))
plain_law text (Some n) f v = ap Some v.1 ∙ ap (option_map pos) (sym (size_complete text false v.0) ∙ ap (scan 0 0) (append-nil text))

taken_apart : (f : ℕ → ℤ) (r : Option ℕ) (z : ℤ) → option_map f r ≡ Some z → (m : ℕ) × (r ≡ Some m) × (z ≡ f m)
taken_apart f None z e = no_some _ z e
taken_apart f (Some m) z e = (m, refl, cc)

by_minus : (b : ℕ) (bs : List ℕ) (z : ℤ) (t : Bool) → eqb b 45 ≡ t →
    cond t (option_map (λ n. neg_ℤ (pos n)) (scan 0 0 bs)) (option_map pos (scan 0 0 (b ∷ bs))) ≡ Some z → Numeral (b ∷ bs) z
by_minus b bs z true q e =
    let p = taken_apart (λ n. neg_ℤ (pos n)) (scan 0 0 bs) z e in
    let s = scan_sound 0 0 bs p.0 (omega arith) p.1 in
    record {
      minus = true;
      digits = s.digits;
      kilo = s.kilo;
      spelled = ap (λ x. x ∷ bs) (eqb-true b 45 q) ∙ ap (λ x. 45 ∷ x) s.spelled;
      plain = record { only = s.only; some = omega (arith, s.some); few = omega (arith, s.few) };
      value = p.2 ∙ ap (λ n. neg_ℤ (pos n)) s.value;
    }
by_minus b bs z false q e =
    let p = taken_apart pos (scan 0 0 (b ∷ bs)) z e in
    let s = scan_sound 0 0 (b ∷ bs) p.0 (omega arith) p.1 in
    record {
      minus = false;
      digits = s.digits;
      kilo = s.kilo;
      spelled = s.spelled;
      plain = record { only = s.only; some = omega (arith, s.some); few = omega (arith, s.few) };
      value = p.2 ∙ ap pos s.value;
    }

pub number_sound : (w : List ℕ) (z : ℤ) → number_of w ≡ Some z → Numeral w z
number_sound [] z e = no_some _ z e
number_sound (b ∷ bs) z e = by_minus b bs z (eqb b 45) refl e

spelled_complete : (m : Bool) (ds : List ℕ) (k : Bool) → OneToTenDigits ds →
    number_of (sign_text m ++ (ds ++ kilo_text k)) ≡ Some (with_sign m (in_thousands k (worth 0 ds)))
spelled_complete true ds k d = ap (option_map (λ n. neg_ℤ (pos n))) (size_complete ds k d)
spelled_complete false [] k d = absurd (omega (arith, d.some))
spelled_complete false (b ∷ ds) k d =
    let low = in_digits b d.only.0 in
    cond-false (eqb b 45) _ _ (ne_eqb b 45 (omega arith)) ∙ ap (option_map pos) (size_complete (b ∷ ds) k d)

pub number_complete : (w : List ℕ) (z : ℤ) → Numeral w z → number_of w ≡ Some z
number_complete w z s = ap number_of s.spelled ∙ spelled_complete s.minus s.digits s.kilo s.plain ∙ ap Some (sym s.value)

-- both, as the reader promises them
pub number_means : (w : List ℕ) (r : Option ℤ) → r ≡ number_of w → MatchOption r ((z : ℤ) → Numeral w z → ⊥) (λ z. Numeral w z)
number_means w None e = λ z s. no_some _ z (e ∙ number_complete w z s)
number_means w (Some z) e = number_sound w z (sym e)
