-- Standing above is an order that decides between any two clients.
use Rattle.std.proofs.Common.{◌≡◌, ℕ, Bool, true, false, ◌⊎◌, Some, None, Option, sym, refl, ◌∙◌, arith}
use Rattle.std.specs.List.{slice_get}
use Rattle.std.proofs.lemmas.Bool.Decides.{nat_tests}
use Rattle.ranks.specs.Standing.{Order, stands, found_stands, Decides}

one_way : {K : Type 0} (above : K → K → Bool) → Order above → (a b : K) → above a b ≡ true → above b a ≡ false
one_way above O a b h = by (above b a) refl
  where
    by : (x : Bool) → above b a ≡ x → x ≡ false
    by true e = sym (O.transitive a b a h e) ∙ O.irreflexive a
    by false e = refl

found_asymmetric : {K : Type 0} (above : K → K → Bool) → Order above → (x : Option K) (c : ℕ) (y : Option K) (d : ℕ) →
    found_stands above x c y d ≡ true → found_stands above y d x c ≡ false
found_asymmetric above O None c y d h = cc
found_asymmetric above O (Some a) c None d h = cc
found_asymmetric above O (Some a) c (Some b) d h = let p = one_way above O a b in let q = one_way above O b a in grind (arith, nat_tests)

found_passed_on : {K : Type 0} (above : K → K → Bool) → Order above → (x : Option K) (c : ℕ) (y : Option K) (d : ℕ) (z : Option K) (e : ℕ) →
    found_stands above x c y d ≡ true → found_stands above y d z e ≡ true → found_stands above x c z e ≡ true
found_passed_on above O None c y d z e h i = cc
found_passed_on above O (Some a) c None d z e h i = cc
found_passed_on above O (Some a) c (Some b) d None e h i = cc
found_passed_on above O (Some a) c (Some b) d (Some f) e h i =
    let p = one_way above O a b in let q = one_way above O b f in let r = one_way above O a f in let s = one_way above O f a in
    let t = O.transitive a b f in let u = O.transitive f a b in let w = O.transitive b f a in
    let v = O.even a b f in let y = O.even b f a in grind (arith, nat_tests)

found_total : {K : Type 0} (above : K → K → Bool) → (a : K) (c : ℕ) (b : K) (d : ℕ) → (c ≡ d → ⊥) →
    (stands above a c b d ≡ true) ⊎ (stands above b d a c ≡ true)
found_total above a c b d n = grind (arith, nat_tests)

-- The three laws together.
pub decides : {K : Type 0} (above : K → K → Bool) → Order above → Decides above
decides above O =
    record {
      asymmetric = λ ranks c d. found_asymmetric above O (slice_get ranks c) c (slice_get ranks d) d;
      passed_on = λ ranks c d e. found_passed_on above O (slice_get ranks c) c (slice_get ranks d) d (slice_get ranks e) e;
      total = λ ranks c d a b p q n. rw (p, q) (found_total above a c b d n);
    }
