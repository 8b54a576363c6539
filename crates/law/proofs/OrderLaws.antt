-- Two laws carry the order: an event that is no end puts its access, if it is one, behind all; an end keeps
-- what stays, then puts the transaction, and behind it what moves there.
use Rattle.std.proofs.Common.{◌≡◌, ℕ, suc, ◌<◌, ◌≤◌, Bool, true, false, cond, not, ◌&&◌, eqb, ltb, List, [], ◌∷◌, ◌++◌, length, Some, None, Option, unwrap_or, refl, ap, ◌∙◌, arith}
use Rattle.std.proofs.lemmas.List.{append-nil}
use Rattle.std.proofs.lemmas.Bool.{eq-eqb, ne_eqb, le-ltb, lt-ltb}
use Rattle.ranks.specs.declared.Client.{Client}
use Rattle.rules.specs.declared.Call.{Call}
use Rattle.rules.specs.declared.Call.TheVariants.{Begin, Lock, Read as Reads, Change, Commit, WriteBack, End, GiveUp, Clear, Bind, Remove, HardRead, HardWrite}
use Rattle.rules.specs.declared.Answer.{Answer}
use Rattle.rules.specs.declared.Answer.TheVariants.{Done}
use Rattle.law.specs.History.{Event, History, accepted}
use Rattle.law.specs.Record.{Record, record_of}
use Rattle.law.specs.Order.{Entry, those_that, ended, accessed, accesses, ends_one_of, last_end, place, walk, order, steps_since}
use Rattle.law.proofs.Filters.{Each, each_append, each_weaker, each_always, those_append, those_none, those_all, those_same, those_both, each_maybe}

group_more : (f g : Entry → ℕ) (A N : List Entry) (n : ℕ) → ((a : Entry) → f a ≡ g a) →
    Each (λ a. g a < n) A → Each (λ a. g a ≡ n) N → those_that (λ a. eqb (f a) n) (A ++ N) ≡ N
group_more f g A N n same old new =
    let none : those_that (λ a. eqb (f a) n) A ≡ [] =
    those_none (λ a. eqb (f a) n) A
    (each_weaker (λ a. g a < n) (λ a. eqb (f a) n ≡ false) A (λ a l. let q = same a in ne_eqb (f a) n (λ z. omega arith)) old) in
    let all : those_that (λ a. eqb (f a) n) N ≡ N =
    those_all (λ a. eqb (f a) n) N (each_weaker (λ a. g a ≡ n) (λ a. eqb (f a) n ≡ true) N (λ a e. eq-eqb (f a) n (same a ∙ e)) new) in
    cc (those_append (λ a. eqb (f a) n) A N, none, all)

sifted_place : (b : Bool) (n p t : ℕ) → t < n → eqb (cond b n p) t ≡ (not b && eqb p t)
sifted_place true n p t l = ne_eqb n t (λ z. omega arith)
sifted_place false n p t l = refl

moved_here : (b : Bool) (n p : ℕ) → p < n → eqb (cond b n p) n ≡ b
moved_here true n p l = eq-eqb n n refl
moved_here false n p l = ne_eqb p n (λ z. omega arith)

module _ {K : Type 0} where
  -- An access has the moment of its event.
  accessed_then : (n : ℕ) (r : Record) (call : Call K) (a : Answer) → Each (λ x. x.moment ≡ n) (accessed n r call a)
  accessed_then n r (Begin c k) a = tt
  accessed_then n r (Lock c kind e) a = tt
  accessed_then n r (Reads c e) a = tt
  accessed_then n r (Change c e v) a = tt
  accessed_then n r (Commit c) a = tt
  accessed_then n r (WriteBack c) a = tt
  accessed_then n r (End c) a = tt
  accessed_then n r (GiveUp c) a = tt
  accessed_then n r (Clear c) a = tt
  accessed_then n r (Bind p e) a = tt
  accessed_then n r (Remove p) a = tt
  accessed_then n r (HardRead p) a = each_maybe (λ x. x.moment ≡ n) (accepted a) _ refl
  accessed_then n r (HardWrite p v) a = each_maybe (λ x. x.moment ≡ n) (accepted a) _ refl

  -- Accesses lie in the past.
  pub accesses_past : (h : History K) → Each (λ x. x.moment < length h) (accesses h)
  accesses_past [] = tt
  accesses_past (x ∷ h) =
      each_append (λ y. y.moment < suc (length h)) (accesses h) _
      (each_weaker (λ y. y.moment < length h) (λ y. y.moment < suc (length h)) (accesses h) (λ y l. omega arith) (accesses_past h))
      (each_weaker (λ y. y.moment ≡ length h) (λ y. y.moment < suc (length h)) _ (λ y l. omega arith) (accessed_then (length h) (record_of (x ∷ h)) x.call x.answer))

  -- So do the ends behind which they stand.
  last_end_past : (h : History K) (a : Entry) (t : ℕ) → last_end h a ≡ Some t → t < length h
  last_end_past [] a t e = let z : ◌≡◌ {A = ℕ} 0 1 = cc in omega arith
  last_end_past (x ∷ h) a t e =
      by (ltb a.moment (length h) && ends_one_of a.behind (record_of h) x.call x.answer) (last_end_past h a t) e
    where
      by : (b : Bool) → (last_end h a ≡ Some t → t < length h) → cond b (Some (length h)) (last_end h a) ≡ Some t → t < suc (length h)
      by true before q = let s : length h ≡ t = cc in omega arith
      by false before q = let l : t < length h = before q in omega arith

  pub place_past : (h : History K) (a : Entry) → a.moment < length h → place h a < length h
  place_past h a l = by (last_end h a) refl
    where
      by : (o : Option ℕ) → last_end h a ≡ o → unwrap_or o a.moment < length h
      by None e = l
      by (Some t) e = last_end_past h a t e

  -- An access stands behind no end that came before it.
  last_end_late : (h : History K) (a : Entry) → length h ≤ a.moment → last_end h a ≡ None
  last_end_late [] a l = refl
  last_end_late (x ∷ h) a l =
      let z : ltb a.moment (length h) ≡ false = le-ltb a.moment (length h) (omega arith) in
      rw z (last_end_late h a (omega arith))

  walk_same : (f g : Entry → ℕ) (A B : List Entry) (h : History K) →
      ((t : ℕ) → t < length h → those_that (λ a. eqb (f a) t) A ≡ those_that (λ a. eqb (g a) t) B) → walk f A h ≡ walk g B h
  walk_same f g A B [] same = refl
  walk_same f g A B (x ∷ h) same =
      let before : walk f A h ≡ walk g B h = walk_same f g A B h (λ t l. same t (omega arith)) in
      let here : those_that (λ a. eqb (f a) (length h)) A ≡ those_that (λ a. eqb (g a) (length h)) B = same (length h) (omega arith) in
      cc

  -- A transaction stands behind nothing.
  ended_free : (b : ℕ) (h : History K) (call : Call K) (a : Answer) → Each (λ x. not (x.behind b) ≡ true) (ended h call a)
  ended_free b h (Begin c k) a = tt
  ended_free b h (Lock c kind e) a = tt
  ended_free b h (Reads c e) a = tt
  ended_free b h (Change c e v) a = tt
  ended_free b h (Commit c) a = tt
  ended_free b h (WriteBack c) a = tt
  ended_free b h (End c) a = each_maybe (λ x. not (x.behind b) ≡ true) (accepted a) _ refl
  ended_free b h (GiveUp c) a = tt
  ended_free b h (Clear c) a = tt
  ended_free b h (Bind p e) a = tt
  ended_free b h (Remove p) a = tt
  ended_free b h (HardRead p) a = tt
  ended_free b h (HardWrite p v) a = tt

  walk_sifted : (f g : Entry → ℕ) (A : List Entry) (b : ℕ) (h : History K) →
      ((t : ℕ) → t < length h →
      those_that (λ a. eqb (g a) t) A ≡ those_that (λ a. not (a.behind b)) (those_that (λ a. eqb (f a) t) A)) →
      walk g A h ≡ those_that (λ a. not (a.behind b)) (walk f A h)
  walk_sifted f g A b [] same = refl
  walk_sifted f g A b (x ∷ h) same =
      let before : walk g A h ≡ those_that (λ a. not (a.behind b)) (walk f A h) = walk_sifted f g A b h (λ t l. same t (omega arith)) in
      let here : those_that (λ a. eqb (g a) (length h)) A ≡ those_that (λ a. not (a.behind b)) (those_that (λ a. eqb (f a) (length h)) A) = same (length h) (omega arith) in
      let stays : those_that (λ a. not (a.behind b)) (ended h x.call x.answer) ≡ ended h x.call x.answer = those_all (λ (a : Entry). not (a.behind b)) (ended h x.call x.answer) (ended_free b h x.call x.answer) in
      let one = those_append (λ (a : Entry). not (a.behind b)) (walk f A h) (ended h x.call x.answer ++ those_that (λ a. eqb (f a) (length h)) A) in
      let two = those_append (λ (a : Entry). not (a.behind b)) (ended h x.call x.answer) (those_that (λ a. eqb (f a) (length h)) A) in
      cc (one, two, before, here, stays)

  -- New accesses are put at their own moment, and alter nothing before it.
  walk_more : (f g : Entry → ℕ) (A N : List Entry) (h : History K) → ((a : Entry) → f a ≡ g a) →
      Each (λ a. g a ≡ length h) N → walk f (A ++ N) h ≡ walk g A h
  walk_more f g A N h same new = walk_same f g (A ++ N) A h at_each
    where
      at_each : (t : ℕ) → t < length h → those_that (λ a. eqb (f a) t) (A ++ N) ≡ those_that (λ a. eqb (g a) t) A
      at_each t l =
          those_append (λ a. eqb (f a) t) A N ∙
          (let old = those_same (λ a. eqb (f a) t) (λ a. eqb (g a) t) A (each_always _ A (λ a. ap (λ n. eqb n t) (same a))) in
          let none : those_that (λ a. eqb (f a) t) N ≡ [] =
          those_none (λ a. eqb (f a) t) N
          (each_weaker (λ a. g a ≡ length h) (λ a. eqb (f a) t ≡ false) N (λ a e. let q = same a in ne_eqb (f a) t (λ z. omega arith)) new) in
          cc (old, none, append-nil (those_that (λ a. eqb (g a) t) A)))

  -- Where no transaction of the set ends, the last end stays.
  same_last : (h : History K) (a : Entry) (b d : Bool) → d ≡ false → cond (b && d) (Some (length h)) (last_end h a) ≡ last_end h a
  same_last h a true d e = rw e
  same_last h a false d e = refl

  own_place : (h : History K) (a : Entry) → a.moment ≡ length h → place h a ≡ length h
  own_place h a e = ap (λ o. unwrap_or o a.moment) (last_end_late h a (omega arith)) ∙ e

  -- The first law.
  pub order_more : (x : Event K) (h : History K) → ended h x.call x.answer ≡ [] →
      ((those : ℕ → Bool) (r : Record) → ends_one_of those r x.call x.answer ≡ false) →
      order (x ∷ h) ≡ order h ++ accessed (length h) (record_of (x ∷ h)) x.call x.answer
  order_more x h no_end none =
      let same : (a : Entry) → place (x ∷ h) a ≡ place h a = λ a. ap (λ o. unwrap_or o a.moment) (same_last h a (ltb a.moment (length h)) _ (none a.behind (record_of h))) in
      let new : Each (λ a. place h a ≡ length h) (accessed (length h) (record_of (x ∷ h)) x.call x.answer) =
      each_weaker (λ a. a.moment ≡ length h) (λ a. place h a ≡ length h) _ (λ a e. own_place h a e) (accessed_then (length h) (record_of (x ∷ h)) x.call x.answer) in
      let old : Each (λ a. place h a < length h) (accesses h) =
      each_weaker (λ a. a.moment < length h) (λ a. place h a < length h) (accesses h) (λ a l. place_past h a l) (accesses_past h) in
      let one = walk_more (place (x ∷ h)) (place h) (accesses h) (accessed (length h) (record_of (x ∷ h)) x.call x.answer) h same new in
      let two = group_more (place (x ∷ h)) (place h) (accesses h) (accessed (length h) (record_of (x ∷ h)) x.call x.answer) (length h) same old new in
      ap (λ w. w ++ (ended h x.call x.answer ++ those_that (λ a. eqb (place (x ∷ h) a) (length h)) (accesses (x ∷ h)))) one ∙
      ap (λ w. order h ++ (w ++ those_that (λ a. eqb (place (x ∷ h) a) (length h)) (accesses (x ∷ h)))) no_end ∙
      ap (λ w. order h ++ w) two

  -- The place after an end of the transaction b: that end for what stands behind b, else as before.
  end_place : (c : Client) (ranks : List K) (h : History K) (a : Entry) → a.moment < length h →
      place (record { call = End c; ranks = ranks; answer = Done } ∷ h) a ≡ cond (a.behind ((record_of h).begun c.0)) (length h) (place h a)
  end_place c ranks h a l = rw (lt-ltb a.moment (length h) l) (by (a.behind ((record_of h).begun c.0)))
    where
      by : (b : Bool) → unwrap_or (cond b (Some (length h)) (last_end h a)) a.moment ≡ cond b (length h) (place h a)
      by true = refl
      by false = refl

  -- The second law.
  pub order_end : (c : Client) (ranks : List K) (h : History K) →
      order (record { call = End c; ranks = ranks; answer = Done } ∷ h) ≡
      those_that (λ a. not (a.behind ((record_of h).begun c.0))) (order h) ++
      (record { moment = length h; steps = steps_since c.0 h; behind = λ t. false } ∷
      those_that (λ a. a.behind ((record_of h).begun c.0)) (accesses h))
  order_end c ranks h =
      let x : Event K = record { call = End c; ranks = ranks; answer = Done } in
      let b : ℕ = (record_of h).begun c.0 in
      let nil : accesses (x ∷ h) ≡ accesses h = append-nil (accesses h) in
      let places : Each (λ a. place (x ∷ h) a ≡ cond (a.behind b) (length h) (place h a)) (accesses h) =
      each_weaker (λ a. a.moment < length h) (λ a. place (x ∷ h) a ≡ cond (a.behind b) (length h) (place h a)) (accesses h) (λ a l. end_place c ranks h a l) (accesses_past h) in
      let sifted : walk (place (x ∷ h)) (accesses h) h ≡ those_that (λ a. not (a.behind b)) (order h) =
      walk_sifted (place h) (place (x ∷ h)) (accesses h) b h
      (λ t l.
      those_same (λ a. eqb (place (x ∷ h) a) t) (λ a. not (a.behind b) && eqb (place h a) t) (accesses h)
      (each_weaker (λ a. place (x ∷ h) a ≡ cond (a.behind b) (length h) (place h a)) (λ a. eqb (place (x ∷ h) a) t ≡ (not (a.behind b) && eqb (place h a) t)) (accesses h)
      (λ a e. ap (λ n. eqb n t) e ∙ sifted_place (a.behind b) (length h) (place h a) t l) places) ∙
      those_both (λ a. not (a.behind b)) (λ a. eqb (place h a) t) (accesses h)) in
      let here : those_that (λ a. eqb (place (x ∷ h) a) (length h)) (accesses h) ≡ those_that (λ a. a.behind b) (accesses h) =
      those_same (λ a. eqb (place (x ∷ h) a) (length h)) (λ a. a.behind b) (accesses h)
      (each_weaker (λ a. a.moment < length h) (λ a. eqb (place (x ∷ h) a) (length h) ≡ a.behind b) (accesses h)
      (λ a l. ap (λ n. eqb n (length h)) (end_place c ranks h a l) ∙ moved_here (a.behind b) (length h) (place h a) (place_past h a l)) (accesses_past h)) in
      ap (λ A. walk (place (x ∷ h)) A h ++ (record { moment = length h; steps = steps_since c.0 h; behind = λ t. false } ∷ those_that (λ a. eqb (place (x ∷ h) a) (length h)) A)) nil ∙
      ap (λ w. w ++ (record { moment = length h; steps = steps_since c.0 h; behind = λ t. false } ∷ those_that (λ a. eqb (place (x ∷ h) a) (length h)) (accesses h))) sifted ∙
      ap (λ w. those_that (λ a. not (a.behind b)) (order h) ++ (record { moment = length h; steps = steps_since c.0 h; behind = λ t. false } ∷ w)) here
