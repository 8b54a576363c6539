-- Clients leave: what the element keeps when a set of clients loses all its locks.
use Rattle.std.proofs.Common.{◌≡◌, ℕ, suc, Bool, true, false, cond, ◌&&◌, ◌⊎◌, List, [], ℤ, is_some, Some, None, Option, unwrap_or, sym, refl, ap, ◌∙◌, inl, inr}
use Rattle.std.proofs.lemmas.Bool.{and_parts, and_left, and_right, cases_Bool, cases_eq}
use Rattle.rules.specs.Scans.{some_below}
use Rattle.rules.specs.State.{is_write, for_writing}
use Rattle.rules.specs.declared.ClientState.{ClientState}
use Rattle.rules.specs.declared.Lock.{Lock}
use Rattle.rules.proofs.Scanning.{some_true, some_false, some_none, some_found}
use Rattle.law.specs.Record.{is_open}
use Rattle.law.proofs.Touches.{Touch, Placed}
use Rattle.law.proofs.Trails.{Trail, Stays, same, trail_stays, trail_closes}
use Rattle.law.proofs.Elements.{Held, Locking, someone, Kept, never, true_not_false, there_is, is_none, some_is, not_dropped}

pub stayed : (b : Bool) (after before : ClientState) → is_open after ≡ false → is_open (cond b after before) ≡ true → b ≡ false
stayed true after before shut o = true_not_false o shut
stayed false after before shut o = refl

pub writer_of : (o : Option Lock) → for_writing o ≡ true → (l : Lock) × (o ≡ Some l) × (is_write l.kind ≡ true)
writer_of None h = never (cc)
writer_of (Some l) h = (l, refl, h)

module _ (clients : ℕ → ClientState) (locks : ℕ → Option Lock) (marked : Bool) (second : Option ℤ) (number : ℤ) (those : ℕ → Bool)
    (L : Locking clients locks marked second number) where
  -- The second version of a writer that stays is left.
  writer_stays : (c : ℕ) (l : Lock) → those c ≡ false → locks c ≡ Some l → is_write l.kind ≡ true →
      some_below 16 (λ d. those d && for_writing (locks d)) ≡ false
  writer_stays c l out q w = some_none 16 (λ d. those d && for_writing (locks d)) (λ d small. by d (cases_eq d c))
    where
      by : (d : ℕ) → (d ≡ c) ⊎ (d ≡ c → ⊥) → (those d && for_writing (locks d)) ≡ false
      by d (inl e) = and_left (those d) (for_writing (locks d)) (ap those e ∙ out)
      by d (inr n) = and_right (those d) (for_writing (locks d)) (ap for_writing (L.single c d l q w n))

  second_goes : (after : ClientState) → ((c : ℕ) → for_writing (cond (those c) None (locks c)) ≡ false) →
      (b : Bool) → some_below 16 (λ d. those d && for_writing (locks d)) ≡ b → cond b None second ≡ None
  second_goes after none true h = refl
  second_goes after none false h = L.no_second (λ c. by c (cases_Bool (those c)) (cases_Bool (is_some (locks c))))
    where
      by : (c : ℕ) → (those c ≡ true) ⊎ (those c ≡ false) → (is_some (locks c) ≡ true) ⊎ (is_some (locks c) ≡ false) → for_writing (locks c) ≡ false
      by c (inl t) (inl i) =
          let e = some_false 16 (λ d. those d && for_writing (locks d)) h c (L.below c i) in
          rw t at e
      by c (inl t) (inr i) = ap for_writing (is_none (locks c) i)
      by c (inr t) i = let e = none c in rw t at e

  held_stays : (after : ClientState) (c : ℕ) (l : Lock) → cond (those c) None (locks c) ≡ Some l →
      Held (cond (those c) after (clients c)) marked (cond (some_below 16 (λ d. those d && for_writing (locks d))) None second) number l
  held_stays after c l q =
      let out = (not_dropped (those c) (locks c) l q).0 in
      let r = (not_dropped (those c) (locks c) l q).1 in
      let H = L.held c l r in
      let client : cond (those c) after (clients c) ≡ clients c = ap (λ b. cond b after (clients c)) out in
      let second_same : is_write l.kind ≡ true → cond (some_below 16 (λ d. those d && for_writing (locks d))) None second ≡ second = λ w. ap (λ b. cond b None second) (writer_stays c l out r w) in
      record {
        opened = ap is_open client ∙ H.opened;
        read_unchanged = H.read_unchanged;
        untaken = H.untaken;
        executing = λ x. H.executing (sym client ∙ x);
        present = λ w. ap is_some (second_same w) ∙ H.present w;
        level = λ w t. second_same w ∙ H.level w t;
        written = H.written;
      }

  pub locking_leaves : (after : ClientState) →
      Locking (λ d. cond (those d) after (clients d)) (λ d. cond (those d) None (locks d)) marked (cond (some_below 16 (λ d. those d && for_writing (locks d))) None second) number
  locking_leaves after =
      record {
        below = λ c i. let x = there_is (cond (those c) None (locks c)) i in L.below c (some_is (locks c) x.0 (not_dropped (those c) (locks c) x.0 x.1).1);
        held = held_stays after;
        single = λ c d l q w n. ap (λ o. cond (those d) None o) (L.single c d l (not_dropped (those c) (locks c) l q).1 w n) ∙ dropped (those d);
        no_second = λ none. second_goes after none (some_below 16 (λ d. those d && for_writing (locks d))) refl;
      }
    where
      dropped : (b : Bool) → ◌≡◌ {A = Option Lock} (cond b None None) None
      dropped true = refl
      dropped false = refl

-- What is shown stays: a writer leaves only where the second version is the table's number.
pub shown_stays : (locks : ℕ → Option Lock) (second : Option ℤ) (number : ℤ) (those : ℕ → Bool) →
    ((d : ℕ) (l : Lock) → those d ≡ true → locks d ≡ Some l → is_write l.kind ≡ true → second ≡ Some number) → (b : Bool) → some_below 16 (λ d. those d && for_writing (locks d)) ≡ b → unwrap_or (cond b None second) number ≡ unwrap_or second number
shown_stays locks second number those leavers true h =
    let f = some_found 16 (λ d. those d && for_writing (locks d)) h in
    let both = and_parts (those f.found) (for_writing (locks f.found)) f.passes in
    let w = writer_of (locks f.found) both.1 in
    sym (ap (λ o. unwrap_or o number) (leavers f.found w.0 both.0 w.1 w.2))
shown_stays locks second number those leavers false h = refl

module _ (start : ℤ) (now : ℕ) (X A : List Placed) (clients : ℕ → ClientState) (begun : ℕ → ℕ) (locks : ℕ → Option Lock)
    (own : ℕ → List Touch) (marked : Bool) (second : Option ℤ) (number : ℤ) (those : ℕ → Bool) (after : ClientState) (shut : is_open after ≡ false)
    (leavers : (d : ℕ) (l : Lock) → those d ≡ true → locks d ≡ Some l → is_write l.kind ≡ true → second ≡ Some number)
    (k : Kept start now X A clients begun locks own marked second number) where
  stays_left : (c : ℕ) → is_open (cond (those c) after (clients c)) ≡ true →
      Stays now (is_open (clients c)) (is_open (cond (those c) after (clients c))) (begun c) (begun c) (is_some (locks c)) (is_some (cond (those c) None (locks c)))
  stays_left c o =
      let out = stayed (those c) after (clients c) shut o in
      same (ap (λ b. is_open (cond b after (clients c))) (sym out) ∙ o) refl (ap (λ b. is_some (cond b None (locks c))) out)

  trail_left : Trail (suc now) X A k.front k.early k.tail (λ c. is_open (cond (those c) after (clients c))) begun (λ c. is_some (cond (those c) None (locks c)))
  trail_left =
      trail_stays now X A (λ c. is_open (clients c)) (λ c. is_open (cond (those c) after (clients c))) begun begun (λ c. is_some (locks c)) (λ c. is_some (cond (those c) None (locks c)))
      stays_left k.front k.early k.tail k.trail

  locking_left : Locking (λ d. cond (those d) after (clients d)) (λ d. cond (those d) None (locks d)) marked (cond (some_below 16 (λ d. those d && for_writing (locks d))) None second) number
  locking_left = locking_leaves clients locks marked second number those k.locking after

  nothing_left : (c : ℕ) → is_open (cond (those c) after (clients c)) ≡ true → cond (those c) None (locks c) ≡ None → own c ≡ []
  nothing_left c o q =
      let out = stayed (those c) after (clients c) shut o in
      k.counts.nothing_own c (ap (λ b. is_open (cond b after (clients c))) (sym out) ∙ o) (ap (λ b. cond b None (locks c)) (sym out) ∙ q)

  nobody : someone (λ d. cond (those d) None (locks d)) ≡ false → (c : ℕ) → is_some (cond (those c) None (locks c)) ≡ false
  nobody none c =
      elim (cases_Bool (is_some (cond (those c) None (locks c))))
      [ inl i ↦ some_false 16 (λ d. is_some (cond (those d) None (locks d))) none c (locking_left.below c i) | inr i ↦ i ]

  -- By whether anybody still holds the element.
  by_holders : (b : Bool) → someone (λ d. cond (those d) None (locks d)) ≡ b →
      Kept start (suc now) X A (λ d. cond (those d) after (clients d)) begun (λ d. cond (those d) None (locks d)) own marked (cond (some_below 16 (λ d. those d && for_writing (locks d))) None second) number
  by_holders true h =
      let f = some_found 16 (λ d. is_some (cond (those d) None (locks d))) h in
      let x = there_is (cond (those f.found) None (locks f.found)) f.passes in
      let before : someone locks ≡ true = some_true 16 (λ d. is_some (locks d)) f.found f.below (some_is (locks f.found) x.0 (not_dropped (those f.found) (locks f.found) x.0 x.1).1) in
      record {
        front = k.front;
        early = k.early;
        tail = k.tail;
        trail = trail_left;
        locking = locking_left;
        counts =
            record {
              faithful = k.counts.faithful;
              shown = k.counts.shown ∙ sym (shown_stays locks second number those leavers (some_below 16 (λ d. those d && for_writing (locks d))) refl);
              starts = k.counts.starts;
              there = k.counts.there ∙ ap (λ b. marked && b) (before ∙ sym h);
              holder = λ c l q. k.counts.holder c l (not_dropped (those c) (locks c) l q).1;
              nothing_own = nothing_left;
            };
      }
  by_holders false h =
      record {
        front = X;
        early = A;
        tail = [];
        trail = trail_closes (suc now) X A k.front k.early k.tail (λ c. is_open (cond (those c) after (clients c))) begun (λ c. is_some (cond (those c) None (locks c))) (λ c o. nobody h c) trail_left;
        locking = locking_left;
        counts =
            record {
              faithful = k.counts.faithful;
              shown = k.counts.shown ∙ sym (shown_stays locks second number those leavers (some_below 16 (λ d. those d && for_writing (locks d))) refl);
              starts = tt;
              there = sym (and_right marked (someone (λ d. cond (those d) None (locks d))) h);
              holder = λ c l q. true_not_false (some_is (cond (those c) None (locks c)) l q) (nobody h c);
              nothing_own = nothing_left;
            };
      }

  pub kept_leaves : Kept start (suc now) X A (λ d. cond (those d) after (clients d)) begun (λ d. cond (those d) None (locks d)) own marked (cond (some_below 16 (λ d. those d && for_writing (locks d))) None second) number
  kept_leaves = by_holders (someone (λ d. cond (those d) None (locks d))) refl
