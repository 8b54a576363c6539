-- A client gains a lock: the element has no tail that the client would not be behind.
use Rattle.std.proofs.Common.{◌≡◌, ℕ, ◌<◌, Bool, true, false, cond, not, ◌&&◌, eqb, ◌⊎◌, List, [], ◌++◌, ℤ, is_some, Some, None, Option, unwrap_or, sym, refl, ap, ◌∙◌, subst, inl, inr, arith}
use Rattle.std.proofs.lemmas.List.{append-nil}
use Rattle.std.proofs.lemmas.Bool.{and_parts, and_left, and_right, eq-eqb, ne_eqb, cases_Bool, cases_eq}
use Rattle.rules.specs.Scans.{at, some_below}
use Rattle.rules.specs.State.{is_write, for_writing}
use Rattle.rules.specs.declared.ClientState.{ClientState}
use Rattle.rules.specs.declared.ClientState.TheVariants.{Executing}
use Rattle.rules.specs.declared.LockKind.{LockKind}
use Rattle.rules.specs.declared.LockKind.TheVariants.{Read, Write}
use Rattle.rules.specs.declared.Lock.{Lock}
use Rattle.rules.proofs.Scanning.{some_found}
use Rattle.law.specs.Record.{is_open}
use Rattle.law.proofs.Filters.{Each}
use Rattle.law.proofs.Touches.{Touch, last, Placed, touches}
use Rattle.law.proofs.Trails.{Follows, Trail}
use Rattle.law.proofs.Elements.{Holder, Held, someone, is_there, Kept, never, true_not_false, there_is, is_none, some_is, not_there}
use Rattle.rules.specs.Locking.{kinds_conflict}

pub at_here : {X : Type 0} (f : ℕ → X) (k : ℕ) (x : X) → at f k x k ≡ x
at_here f k x = rw (eq-eqb k k refl)

pub at_other : {X : Type 0} (f : ℕ → X) (k : ℕ) (x : X) (q : ℕ) → (q ≡ k → ⊥) → at f k x q ≡ f q
at_other f k x q n = rw (ne_eqb q k n)

-- A lock found after one was set is that one, or was there.
pub at_lock : (locks : ℕ → Option Lock) (k : ℕ) (x : Lock) (c : ℕ) (l : Lock) → at locks k (Some x) c ≡ Some l →
    ((c ≡ k) × (x ≡ l)) ⊎ ((c ≡ k → ⊥) × (locks c ≡ Some l))
at_lock locks k x c l h =
    elim (cases_eq c k) [
      | inl e ↦ inl (e, (let r : Some x ≡ Some l = sym (ap (at locks k (Some x)) e ∙ at_here locks k (Some x)) ∙ h in cc))
      | inr n ↦ inr (n, sym (at_other locks k (Some x) c n) ∙ h)
    ]

pub at_no_lock : (locks : ℕ → Option Lock) (k : ℕ) (x : Lock) (c : ℕ) → at locks k (Some x) c ≡ None → (c ≡ k → ⊥) × (locks c ≡ None)
at_no_lock locks k x c h =
    elim (cases_eq c k) [
      | inl e ↦ never (let r : Some x ≡ None = sym (ap (at locks k (Some x)) e ∙ at_here locks k (Some x)) ∙ h in cc)
      | inr n ↦ (n, sym (at_other locks k (Some x) c n) ∙ h)
    ]

-- What is known of a read lock does not depend on the element's numbers.
pub reader_held : (state : ClientState) (marked marked' : Bool) (second second' : Option ℤ) (number number' : ℤ) (l : Lock) →
    is_write l.kind ≡ false → Held state marked second number l → Held state marked' second' number' l
reader_held state marked marked' second second' number number' l r H =
    record {
      opened = H.opened;
      read_unchanged = H.read_unchanged;
      untaken = H.untaken;
      executing = H.executing;
      present = λ w. true_not_false w r;
      level = λ w t. true_not_false w r;
      written = λ w t m. true_not_false w r;
    }

-- No conflict: neither is for writing, and there is no mark.
no_conflict : (mark : Bool) (asked held : LockKind) → kinds_conflict mark asked held ≡ false →
    (is_write asked ≡ false) × (is_write held ≡ false) × (mark ≡ false)
no_conflict mark Read Read h = (refl, refl, h)
no_conflict mark Read Write h = never (cc)
no_conflict mark Write held h = never (cc)

module _ (start : ℤ) (now : ℕ) (X A : List Placed) (clients : ℕ → ClientState) (begun : ℕ → ℕ) (locks : ℕ → Option Lock)
    (own : ℕ → List Touch) (marked : Bool) (second : Option ℤ) (number : ℤ) (c0 : ℕ) (kind : LockKind) (small : c0 < 16) (executing : clients c0 ≡ Executing)
    (free : (d : ℕ) (l : Lock) → (d ≡ c0 → ⊥) → locks d ≡ Some l → kinds_conflict marked kind l.kind ≡ false)
    (k : Kept start now X A clients begun locks own marked second number) where
  others : (d : ℕ) (l : Lock) → (d ≡ c0 → ⊥) → locks d ≡ Some l → (is_write kind ≡ false) × (is_write l.kind ≡ false) × (marked ≡ false)
  others d l n q = no_conflict marked kind l.kind (free d l n q)

  module _ (none : locks c0 ≡ None) where
    not_caller : (d : ℕ) (l : Lock) → locks d ≡ Some l → d ≡ c0 → ⊥
    not_caller d l q e = never (let r : Some l ≡ None = sym q ∙ ap locks e ∙ none in cc)

    no_tail_yet : (marked && someone locks) ≡ false
    no_tail_yet = by (someone locks) refl
      where
        by : (b : Bool) → someone locks ≡ b → (marked && b) ≡ false
        by true h =
            let f = some_found 16 (λ c. is_some (locks c)) h in
            let x = there_is (locks f.found) f.passes in
            and_left marked true (others f.found x.0 (not_caller f.found x.0 x.1) x.1).2
        by false h = and_right marked false refl

    no_tail : k.tail ≡ []
    no_tail = not_there k.tail (k.counts.there ∙ no_tail_yet)

    mark_goes : (marked && some_below 16 (λ d. not (eqb d c0) && is_some (locks d))) ≡ false
    mark_goes = by (some_below 16 (λ d. not (eqb d c0) && is_some (locks d))) refl
      where
        by : (b : Bool) → some_below 16 (λ d. not (eqb d c0) && is_some (locks d)) ≡ b → (marked && b) ≡ false
        by true h =
            let f = some_found 16 (λ d. not (eqb d c0) && is_some (locks d)) h in
            let both = and_parts (not (eqb f.found c0)) (is_some (locks f.found)) f.passes in
            let x = there_is (locks f.found) both.1 in
            and_left marked true (others f.found x.0 (not_caller f.found x.0 x.1) x.1).2
        by false h = and_right marked false refl

    no_second_yet : second ≡ None
    no_second_yet = k.locking.no_second (λ c. by c (cases_Bool (is_some (locks c))))
      where
        by : (c : ℕ) → (is_some (locks c) ≡ true) ⊎ (is_some (locks c) ≡ false) → for_writing (locks c) ≡ false
        by c (inl i) = let x = there_is (locks c) i in ap for_writing x.1 ∙ (others c x.0 (not_caller c x.0 x.1) x.1).1
        by c (inr i) = ap for_writing (is_none (locks c) i)

    shows_number : last start (touches X) ≡ number
    shows_number = k.counts.shown ∙ ap (λ o. unwrap_or o number) no_second_yet

    base_is : last start (touches k.front) ≡ number
    base_is = ap (λ xs. last start (touches xs)) (sym (k.trail.order_is ∙ ap (λ xs. k.front ++ xs) no_tail ∙ append-nil k.front)) ∙ shows_number

    abbrev new : Lock
    new = record { kind = kind; copy = number; changed = false; taken = false }

    abbrev second_after : Option ℤ
    second_after = cond (is_write kind) (Some number) second

    abbrev mark_left : Bool
    mark_left = marked && some_below 16 (λ d. not (eqb d c0) && is_some (locks d))

    for_writer : is_write kind ≡ true → second_after ≡ Some number
    for_writer w = ap (λ b. cond b (Some number) second) w

    shows_still : unwrap_or second_after number ≡ number
    shows_still = by (is_write kind)
      where
        by : (b : Bool) → unwrap_or (cond b (Some number) second) number ≡ number
        by true = refl
        by false = ap (λ o. unwrap_or o number) no_second_yet

    new_held : Held Executing mark_left second_after number new
    new_held =
        record {
          opened = refl;
          read_unchanged = λ r. refl;
          untaken = λ u. refl;
          executing = λ x. refl;
          present = λ w. ap is_some (for_writer w);
          level = λ w t. for_writer w;
          written = λ w t m. never (cc);
        }

    held_new : (c : ℕ) (l : Lock) → at locks c0 (Some new) c ≡ Some l → Held (clients c) mark_left second_after number l
    held_new c l q =
        elim (at_lock locks c0 new c l q) [
          | inl both ↦
              subst (λ x. Held (clients c) mark_left second_after number x) both.1
              (subst (λ y. Held y mark_left second_after number new) (sym (ap clients both.0 ∙ executing)) new_held)
          | inr both ↦
              reader_held (clients c) marked mark_left second second_after number number l (others c l both.0 both.1).1 (k.locking.held c l both.1)
        ]

    single_new : (c d : ℕ) (l : Lock) → at locks c0 (Some new) c ≡ Some l → is_write l.kind ≡ true → (d ≡ c → ⊥) → at locks c0 (Some new) d ≡ None
    single_new c d l q w n =
        elim (at_lock locks c0 new c l q) [
          | inl both ↦
              (let away : d ≡ c0 → ⊥ = λ e. n (e ∙ sym both.0) in
              let writes : is_write kind ≡ true = ap (λ (x : Lock). is_write x.kind) both.1 ∙ w in
              at_other locks c0 (Some new) d away ∙
              elim (cases_Bool (is_some (locks d)))
              [ inl i ↦ (let x = there_is (locks d) i in true_not_false writes (others d x.0 away x.1).0) | inr i ↦ is_none (locks d) i ])
          | inr both ↦ true_not_false w (others c l both.0 both.1).1
        ]

    pub kept_new : Kept start now X A clients begun (at locks c0 (Some new)) own mark_left second_after number
    kept_new =
        record {
          front = k.front;
          early = k.early;
          tail = k.tail;
          trail =
              record {
                order_is = k.trail.order_is;
                accesses_are = k.trail.accesses_are;
                front_quiet = k.trail.front_quiet;
                early_quiet = k.trail.early_quiet;
                tail_follows = subst (Each (Follows (λ c. is_open (clients c)) begun (λ c. is_some (at locks c0 (Some new) c)))) (sym no_tail) tt;
                order_settled = k.trail.order_settled;
                accesses_settled = k.trail.accesses_settled;
              };
          locking =
              record {
                below = λ c i.
                    let x = there_is (at locks c0 (Some new) c) i in
                    elim (at_lock locks c0 new c x.0 x.1) [ inl both ↦ (let e = both.0 in omega arith) | inr both ↦ k.locking.below c (some_is (locks c) x.0 both.1) ];
                held = held_new;
                single = single_new;
                no_second = λ nobody.
                    ap (λ b. cond b (Some number) second) (sym (ap for_writing (at_here locks c0 (Some new))) ∙ nobody c0) ∙ no_second_yet;
              };
          counts =
              record {
                faithful = k.counts.faithful;
                shown = shows_number ∙ sym shows_still;
                starts = k.counts.starts;
                there = ap is_there no_tail ∙ sym (and_left mark_left (someone (at locks c0 (Some new))) mark_goes);
                holder = λ c l q.
                    elim (at_lock locks c0 new c l q) [
                      | inl both ↦
                          subst (λ x. Holder (last start (touches k.front)) (own c) x) both.1
                          (subst (λ ts. Holder (last start (touches k.front)) ts new)
                          (sym (ap own both.0 ∙ k.counts.nothing_own c0 (ap is_open executing) none))
                          (record { faithful = tt; copied = base_is; unchanged = λ u. sym base_is }))
                      | inr both ↦ k.counts.holder c l both.1
                    ];
                nothing_own = λ c o q. k.counts.nothing_own c o (at_no_lock locks c0 new c q).1;
              };
        }

  -- A reader gains the write lock.
  module _ (l0 : Lock) (reads : locks c0 ≡ Some l0) (reader : is_write l0.kind ≡ false) (writes : is_write kind ≡ true) where
    nobody_else : (d : ℕ) → (d ≡ c0 → ⊥) → locks d ≡ None
    nobody_else d n =
        elim (cases_Bool (is_some (locks d)))
        [ inl i ↦ (let x = there_is (locks d) i in true_not_false writes (others d x.0 n x.1).0) | inr i ↦ is_none (locks d) i ]

    no_second_there : second ≡ None
    no_second_there =
        k.locking.no_second (λ c.
        elim (cases_eq c c0) [ inl e ↦ ap (λ n. for_writing (locks n)) e ∙ ap for_writing reads ∙ reader | inr n ↦ ap for_writing (nobody_else c n) ])

    abbrev upgraded : Lock
    upgraded = record { kind = kind; copy = l0.copy; changed = l0.changed; taken = l0.taken }

    same_holders : (c : ℕ) → is_some (at locks c0 (Some upgraded) c) ≡ is_some (locks c)
    same_holders c =
        elim (cases_eq c c0) [
          | inl e ↦ (ap (λ n. is_some (at locks c0 (Some upgraded) n)) e ∙ ap is_some (at_here locks c0 (Some upgraded)) ∙ sym (ap (λ n. is_some (locks n)) e ∙ ap is_some reads))
          | inr n ↦ ap is_some (at_other locks c0 (Some upgraded) c n)
        ]

    not_taken : l0.taken ≡ false
    not_taken = (k.locking.held c0 l0 reads).executing executing

    upgraded_held : Held Executing marked (Some number) number upgraded
    upgraded_held =
        record {
          opened = refl;
          read_unchanged = λ r. true_not_false writes r;
          untaken = λ u. not_taken;
          executing = λ x. not_taken;
          present = λ w. refl;
          level = λ w t. refl;
          written = λ w t m. true_not_false t not_taken;
        }

    pub kept_upgrade : Kept start now X A clients begun (at locks c0 (Some upgraded)) own marked (Some number) number
    kept_upgrade =
        record {
          front = k.front;
          early = k.early;
          tail = k.tail;
          trail = subst (λ h. Trail now X A k.front k.early k.tail (λ c. is_open (clients c)) begun h) (λ i c. sym (same_holders c) i) k.trail;
          locking =
              record {
                below = λ c i. k.locking.below c (sym (same_holders c) ∙ i);
                held = λ c l q.
                    elim (at_lock locks c0 upgraded c l q) [
                      | inl both ↦
                          subst (λ x. Held (clients c) marked (Some number) number x) both.1
                          (subst (λ y. Held y marked (Some number) number upgraded) (sym (ap clients both.0 ∙ executing)) upgraded_held)
                      | inr both ↦ never (let r : Some l ≡ None = sym both.1 ∙ nobody_else c both.0 in cc)
                    ];
                single = λ c d l q w n.
                    elim (at_lock locks c0 upgraded c l q) [
                      | inl both ↦ (let away : d ≡ c0 → ⊥ = λ e. n (e ∙ sym both.0) in at_other locks c0 (Some upgraded) d away ∙ nobody_else d away)
                      | inr both ↦ never (let r : Some l ≡ None = sym both.1 ∙ nobody_else c both.0 in cc)
                    ];
                no_second = λ nobody. true_not_false writes (sym (ap for_writing (at_here locks c0 (Some upgraded))) ∙ nobody c0);
              };
          counts =
              record {
                faithful = k.counts.faithful;
                shown = k.counts.shown ∙ ap (λ o. unwrap_or o number) no_second_there;
                starts = k.counts.starts;
                there = k.counts.there ∙ ap (λ p. marked && some_below 16 p) (λ i c. sym (same_holders c) i);
                holder = λ c l q.
                    elim (at_lock locks c0 upgraded c l q) [
                      | inl both ↦
                          (let H : Holder (last start (touches k.front)) (own c) l0 = k.counts.holder c l0 (ap locks both.0 ∙ reads) in
                          subst (λ x. Holder (last start (touches k.front)) (own c) x) both.1
                          (record { faithful = H.faithful; copied = H.copied; unchanged = H.unchanged }))
                      | inr both ↦ k.counts.holder c l both.1
                    ];
                nothing_own = λ c o q. k.counts.nothing_own c o (at_no_lock locks c0 upgraded c q).1;
              };
        }
