-- Each accepted end and each accepted hard access stands in the order once. The induction goes through for
-- any test on entries: as many pass it in the order as in the list of entries as they came.
use Rattle.std.proofs.Common.{◌≡◌, ℕ, ◌+◌, ◌≤◌, Bool, true, false, cond, not, ◌&&◌, eqb, List, [], ◌∷◌, ◌++◌, length, refl, ap, ◌∙◌, arith}
use Rattle.std.proofs.lemmas.List.{append-nil}
use Rattle.std.proofs.lemmas.Bool.{and_right, eqb-true, ne_eqb}
use Rattle.ranks.specs.declared.Client.{Client}
use Rattle.rules.specs.declared.Call.{Call}
use Rattle.rules.specs.declared.Call.TheVariants.{Begin, Lock, Read as Reads, Change, Commit, WriteBack, End, GiveUp, Clear, Bind, Remove, HardRead, HardWrite}
use Rattle.rules.specs.declared.Answer.{Answer}
use Rattle.rules.specs.declared.Answer.TheVariants.{Done}
use Rattle.law.specs.History.{Event, History, accepted}
use Rattle.law.specs.Record.{Record, record_of}
use Rattle.law.specs.Order.{Entry, those_that, ended, accessed, accesses, order, steps_since, ends_one_of}
use Rattle.law.specs.Law.{times, has_place, placed_at}
use Rattle.law.proofs.Filters.{Each, each_maybe}
use Rattle.law.proofs.OrderLaws.{order_more, order_end}

-- How many pass a test.
abbrev tally : (Entry → Bool) → List Entry → ℕ
tally p [] = 0
tally p (x ∷ xs) = cond (p x) 1 0 + tally p xs

tally_append : (p : Entry → Bool) (xs ys : List Entry) → tally p (xs ++ ys) ≡ tally p xs + tally p ys
tally_append p [] ys = omega arith
tally_append p (x ∷ xs) ys = let b = tally_append p xs ys in omega arith

tally_those : (p q : Entry → Bool) (xs : List Entry) → tally p (those_that q xs) ≡ tally (λ x. p x && q x) xs
tally_those p q [] = refl
tally_those p q (x ∷ xs) = by (p x) refl (q x) (tally_those p q xs)
  where
    by : (a : Bool) → p x ≡ a → (b : Bool) → tally p (those_that q xs) ≡ tally (λ y. p y && q y) xs →
        tally p (cond b (x ∷ those_that q xs) (those_that q xs)) ≡ cond (a && b) 1 0 + tally (λ y. p y && q y) xs
    by true e true r = rw e (omega arith)
    by true e false r = omega arith
    by false e true r = rw e (omega arith)
    by false e false r = omega arith

tally_split : (p q : Entry → Bool) (xs : List Entry) →
    tally p xs ≡ tally (λ x. p x && not (q x)) xs + tally (λ x. p x && q x) xs
tally_split p q [] = refl
tally_split p q (x ∷ xs) = by (p x) (q x) (tally_split p q xs)
  where
    by : (a b : Bool) → tally p xs ≡ tally (λ y. p y && not (q y)) xs + tally (λ y. p y && q y) xs →
        cond a 1 0 + tally p xs ≡ (cond (a && not b) 1 0 + tally (λ y. p y && not (q y)) xs) + (cond (a && b) 1 0 + tally (λ y. p y && q y) xs)
    by true true r = omega arith
    by true false r = omega arith
    by false true r = omega arith
    by false false r = omega arith

tally_none : (p : Entry → Bool) (xs : List Entry) → Each (λ x. p x ≡ false) xs → tally p xs ≡ 0
tally_none p [] a = refl
tally_none p (x ∷ xs) a = rw a.0 (let r = tally_none p xs a.1 in omega arith)

-- One entry that may be there, counted by its moment.
one_time : (b : Bool) (x : Entry) (t : ℕ) → tally (λ y. eqb y.moment t) (cond b (x ∷ []) []) ≡ cond (eqb x.moment t) (cond b 1 0) 0
one_time true x t = by (eqb x.moment t)
  where
    by : (b : Bool) → cond b 1 0 + 0 ≡ cond b 1 0
    by true = refl
    by false = refl
one_time false x t = by (eqb x.moment t)
  where
    by : (b : Bool) → ◌≡◌ {A = ℕ} 0 (cond b 0 0)
    by true = refl
    by false = refl

times_is : (t : ℕ) (xs : List Entry) → times t xs ≡ tally (λ y. eqb y.moment t) xs
times_is t [] = refl
times_is t (x ∷ xs) = ap (λ n. cond (eqb x.moment t) 1 0 + n) (times_is t xs)

module _ {K : Type 0} where
  -- The entries as they came.
  abbrev entries : History K → List Entry
  entries [] = []
  entries (x ∷ h) = entries h ++ (ended h x.call x.answer ++ accessed (length h) (record_of (x ∷ h)) x.call x.answer)

  -- A test that no transaction passes.
  ended_none : (p : Entry → Bool) → ((n : ℕ) (h : History K) (c : ℕ) → p (record { moment = n; steps = steps_since c h; behind = λ t. false }) ≡ false) →
      (h : History K) (call : Call K) (a : Answer) → tally p (ended h call a) ≡ 0
  ended_none p no' h (Begin c k) a = refl
  ended_none p no' h (Lock c kind e) a = refl
  ended_none p no' h (Reads c e) a = refl
  ended_none p no' h (Change c e v) a = refl
  ended_none p no' h (Commit c) a = refl
  ended_none p no' h (WriteBack c) a = refl
  ended_none p no' h (End c) a = tally_none p _ (each_maybe (λ x. p x ≡ false) (accepted a) _ (no' (length h) h c.0))
  ended_none p no' h (GiveUp c) a = refl
  ended_none p no' h (Clear c) a = refl
  ended_none p no' h (Bind q e) a = refl
  ended_none p no' h (Remove q) a = refl
  ended_none p no' h (HardRead q) a = refl
  ended_none p no' h (HardWrite q v) a = refl

  among_accesses : (p : Entry → Bool) → ((n : ℕ) (h : History K) (c : ℕ) → p (record { moment = n; steps = steps_since c h; behind = λ t. false }) ≡ false) →
      (h : History K) → tally p (entries h) ≡ tally p (accesses h)
  among_accesses p no' [] = refl
  among_accesses p no' (x ∷ h) =
      let before = among_accesses p no' h in
      let none = ended_none p no' h x.call x.answer in
      let one = tally_append p (entries h) (ended h x.call x.answer ++ accessed (length h) (record_of (x ∷ h)) x.call x.answer) in
      let two = tally_append p (ended h x.call x.answer) (accessed (length h) (record_of (x ∷ h)) x.call x.answer) in
      let three = tally_append p (accesses h) (accessed (length h) (record_of (x ∷ h)) x.call x.answer) in
      omega arith

  -- An event whose answer is no accepted end.
  plain : (x : Event K) (h : History K) → ended h x.call x.answer ≡ [] →
      ((those : ℕ → Bool) (r : Record) → ends_one_of those r x.call x.answer ≡ false) →
      (p : Entry → Bool) → tally p (order h) ≡ tally p (entries h) → tally p (order (x ∷ h)) ≡ tally p (entries (x ∷ h))
  plain x h no_end none p before =
      let law = ap (tally p) (order_more x h no_end none) in
      let nil = ap (tally p) no_end in
      let one = tally_append p (order h) (accessed (length h) (record_of (x ∷ h)) x.call x.answer) in
      let two = tally_append p (entries h) (ended h x.call x.answer ++ accessed (length h) (record_of (x ∷ h)) x.call x.answer) in
      let three = tally_append p (ended h x.call x.answer) (accessed (length h) (record_of (x ∷ h)) x.call x.answer) in
      omega arith

  -- An accepted end.
  finishing : (c : Client) (ranks : List K) (h : History K) (p : Entry → Bool) →
      ((q : Entry → Bool) → tally q (order h) ≡ tally q (entries h)) →
      tally p (order (record { call = End c; ranks = ranks; answer = Done } ∷ h)) ≡ tally p (entries (record { call = End c; ranks = ranks; answer = Done } ∷ h))
  finishing c ranks h p before =
      let b : ℕ = (record_of h).begun c.0 in
      let T : Entry = record { moment = length h; steps = steps_since c.0 h; behind = λ t. false } in
      let moves : Entry → Bool = λ a. a.behind b in
      let law = ap (tally p) (order_end c ranks h) in
      let one = tally_append p (those_that (λ a. not (moves a)) (order h)) (T ∷ those_that moves (accesses h)) in
      let two = tally_those p (λ a. not (moves a)) (order h) in
      let three = tally_those p moves (accesses h) in
      let four = among_accesses (λ a. p a && moves a) (λ n g d. and_right (p (record { moment = n; steps = steps_since d g; behind = λ t. false })) false refl) h in
      let five = before (λ a. p a && moves a) in
      let six = tally_split p moves (order h) in
      let seven = before p in
      let eight = tally_append p (entries h) (T ∷ []) in
      omega arith

  -- What one event adds, counted by moments.
  added : (h : History K) (r : Record) (call : Call K) (a : Answer) (t : ℕ) →
      tally (λ y. eqb y.moment t) (ended h call a ++ accessed (length h) r call a) ≡ cond (eqb (length h) t) (cond (has_place call a) 1 0) 0
  added h r (Begin c k) a t = one_time false (record { moment = length h; steps = []; behind = λ b. false }) t
  added h r (Lock c kind e) a t = one_time false (record { moment = length h; steps = []; behind = λ b. false }) t
  added h r (Reads c e) a t = one_time false (record { moment = length h; steps = []; behind = λ b. false }) t
  added h r (Change c e v) a t = one_time false (record { moment = length h; steps = []; behind = λ b. false }) t
  added h r (Commit c) a t = one_time false (record { moment = length h; steps = []; behind = λ b. false }) t
  added h r (WriteBack c) a t = one_time false (record { moment = length h; steps = []; behind = λ b. false }) t
  added h r (End c) a t =
      ap (tally (λ y. eqb y.moment t)) (append-nil (ended h (End c) a)) ∙
      one_time (accepted a) (record { moment = length h; steps = steps_since c.0 h; behind = λ b. false }) t
  added h r (GiveUp c) a t = one_time false (record { moment = length h; steps = []; behind = λ b. false }) t
  added h r (Clear c) a t = one_time false (record { moment = length h; steps = []; behind = λ b. false }) t
  added h r (Bind p e) a t = one_time false (record { moment = length h; steps = []; behind = λ b. false }) t
  added h r (Remove p) a t = one_time false (record { moment = length h; steps = []; behind = λ b. false }) t
  added h r (HardRead p) a t = one_time (accepted a) _ t
  added h r (HardWrite p v) a t = one_time (accepted a) _ t

  placed_late : (h : History K) (t : ℕ) → length h ≤ t → placed_at h t ≡ false
  placed_late [] t l = refl
  placed_late (x ∷ h) t l = rw (ne_eqb (length h) t (λ z. omega arith)) (placed_late h t (omega arith))

  -- Each entry comes once.
  comes_once : (h : History K) (t : ℕ) → tally (λ y. eqb y.moment t) (entries h) ≡ cond (placed_at h t) 1 0
  comes_once [] t = refl
  comes_once (x ∷ h) t =
      tally_append (λ y. eqb y.moment t) (entries h) (ended h x.call x.answer ++ accessed (length h) (record_of (x ∷ h)) x.call x.answer) ∙
      by (eqb (length h) t) refl (comes_once h t) (added h (record_of (x ∷ h)) x.call x.answer t)
    where
      by : (b : Bool) → eqb (length h) t ≡ b → tally (λ y. eqb y.moment t) (entries h) ≡ cond (placed_at h t) 1 0 →
          tally (λ y. eqb y.moment t) (ended h x.call x.answer ++ accessed (length h) (record_of (x ∷ h)) x.call x.answer) ≡
          cond (eqb (length h) t) (cond (has_place x.call x.answer) 1 0) 0 →
          tally (λ y. eqb y.moment t) (entries h) +
          tally (λ y. eqb y.moment t) (ended h x.call x.answer ++ accessed (length h) (record_of (x ∷ h)) x.call x.answer) ≡
          cond (cond b (has_place x.call x.answer) (placed_at h t)) 1 0
      by true e before new =
          let late : placed_at h t ≡ false = placed_late h t (let q : length h ≡ t = eqb-true (length h) t e in omega arith) in
          let none : tally (λ y. eqb y.moment t) (entries h) ≡ 0 = rw late at before in
          let some : tally (λ y. eqb y.moment t) (ended h x.call x.answer ++ accessed (length h) (record_of (x ∷ h)) x.call x.answer) ≡ cond (has_place x.call x.answer) 1 0 = rw e at new in
          omega arith
      by false e before new =
          let none : tally (λ y. eqb y.moment t) (ended h x.call x.answer ++ accessed (length h) (record_of (x ∷ h)) x.call x.answer) ≡ 0 = rw e at new in
          omega arith

  -- The order holds as many of any kind as have come.
  abbrev pub Rearranged : History K → Type 0
  Rearranged h = (p : Entry → Bool) → tally p (order h) ≡ tally p (entries h)

  pub rearranged_plain : (x : Event K) (h : History K) → ended h x.call x.answer ≡ [] →
      ((those : ℕ → Bool) (r : Record) → ends_one_of those r x.call x.answer ≡ false) → Rearranged h → Rearranged (x ∷ h)
  rearranged_plain x h no_end none before p = plain x h no_end none p (before p)

  pub rearranged_end : (c : Client) (ranks : List K) (h : History K) → Rearranged h → Rearranged (record { call = End c; ranks = ranks; answer = Done } ∷ h)
  rearranged_end c ranks h before p = finishing c ranks h p before

  pub once : (h : History K) → Rearranged h → (t : ℕ) → times t (order h) ≡ cond (placed_at h t) 1 0
  once h same t = times_is t (order h) ∙ same (λ y. eqb y.moment t) ∙ comes_once h t
