-- A holder touches its own lock: it reads, changes, or has its element taken for write back.
use Rattle.std.proofs.Common.{◌≡◌, ℕ, suc, Bool, true, ◌&&◌, ◌⊎◌, List, ℤ, is_some, Some, None, Option, unwrap_or, sym, refl, ap, ◌∙◌, subst, inl, inr}
use Rattle.std.proofs.lemmas.Bool.{cases_eq}
use Rattle.rules.specs.Scans.{at, some_below}
use Rattle.rules.specs.State.{is_write, for_writing}
use Rattle.rules.specs.declared.ClientState.{ClientState}
use Rattle.rules.specs.declared.Lock.{Lock}
use Rattle.law.specs.Record.{is_open}
use Rattle.law.proofs.Touches.{Touch, last, Placed, touches}
use Rattle.law.proofs.Trails.{Trail, same, trail_stays}
use Rattle.law.proofs.Elements.{Holder, Held, Kept, never}
use Rattle.law.proofs.Gaining.{at_here, at_other, at_lock, at_no_lock}

-- The same clients, one moment later.
pub trail_later : (now : ℕ) (X A front early tail : List Placed) (is : ℕ → Bool) (begun : ℕ → ℕ) (held held' : ℕ → Bool) →
    ((c : ℕ) → held' c ≡ held c) → Trail now X A front early tail is begun held → Trail (suc now) X A front early tail is begun held'
trail_later now X A front early tail is begun held held' alike t =
    trail_stays now X A is is begun begun held held' (λ c o. same o refl (alike c)) front early tail t

module _ (start : ℤ) (now : ℕ) (X A : List Placed) (clients : ℕ → ClientState) (begun : ℕ → ℕ) (locks : ℕ → Option Lock)
    (own own' : ℕ → List Touch) (marked : Bool) (second : Option ℤ) (number number' : ℤ) (c0 : ℕ) (l0 l1 : Lock) (holds : locks c0 ≡ Some l0)
    (kinds : l1.kind ≡ l0.kind) (owns : (c : ℕ) → (c ≡ c0 → ⊥) → own' c ≡ own c) (held1 : Held (clients c0) marked second number' l1)
    (holder1 : (base : ℤ) → Holder base (own c0) l0 → Holder base (own' c0) l1) (shown_same : unwrap_or second number' ≡ unwrap_or second number)
    (numbers : (number' ≡ number) ⊎ (is_write l0.kind ≡ true)) (k : Kept start now X A clients begun locks own marked second number) where
  alike : (c : ℕ) → is_some (at locks c0 (Some l1) c) ≡ is_some (locks c)
  alike c =
      elim (cases_eq c c0) [
        | inl e ↦ (ap (λ n. is_some (at locks c0 (Some l1) n)) e ∙ ap is_some (at_here locks c0 (Some l1)) ∙ sym (ap (λ n. is_some (locks n)) e ∙ ap is_some holds))
        | inr n ↦ ap is_some (at_other locks c0 (Some l1) c n)
      ]

  other_held : (c : ℕ) (l : Lock) → (c ≡ c0 → ⊥) → locks c ≡ Some l → Held (clients c) marked second number' l
  other_held c l n q =
      elim numbers [
        | inl e ↦ subst (λ v. Held (clients c) marked second v l) (sym e) (k.locking.held c l q)
        | inr w ↦ never (let r : Some l ≡ None = sym q ∙ k.locking.single c0 c l0 holds w n in cc)
      ]

  pub kept_own : Kept start (suc now) X A clients begun (at locks c0 (Some l1)) own' marked second number'
  kept_own =
      record {
        front = k.front;
        early = k.early;
        tail = k.tail;
        trail = trail_later now X A k.front k.early k.tail (λ c. is_open (clients c)) begun (λ c. is_some (locks c)) (λ c. is_some (at locks c0 (Some l1) c)) alike k.trail;
        locking =
            record {
              below = λ c i. k.locking.below c (sym (alike c) ∙ i);
              held = λ c l q.
                  elim (at_lock locks c0 l1 c l q) [
                    | inl both ↦
                        subst (λ x. Held (clients c) marked second number' x) both.1 (subst (λ y. Held y marked second number' l1) (sym (ap clients both.0)) held1)
                    | inr both ↦ other_held c l both.0 both.1
                  ];
              single = λ c d l q w n.
                  elim (at_lock locks c0 l1 c l q) [
                    | inl both ↦
                        (let away : d ≡ c0 → ⊥ = λ e. n (e ∙ sym both.0) in
                        let writes : is_write l0.kind ≡ true = sym (ap is_write kinds) ∙ ap (λ (x : Lock). is_write x.kind) both.1 ∙ w in
                        at_other locks c0 (Some l1) d away ∙ k.locking.single c0 d l0 holds writes away)
                    | inr both ↦
                        elim (cases_eq d c0) [
                          | inl e ↦ never (let r : Some l0 ≡ None = sym holds ∙ k.locking.single c c0 l both.1 w (λ z. n (e ∙ z)) in cc)
                          | inr m ↦ at_other locks c0 (Some l1) d m ∙ k.locking.single c d l both.1 w n
                        ]
                  ];
              no_second = λ nobody.
                  k.locking.no_second (λ c.
                  elim (cases_eq c c0) [
                    | inl e ↦
                        (ap (λ n. for_writing (locks n)) e ∙ ap for_writing holds ∙ sym (ap is_write kinds) ∙ sym (ap for_writing (at_here locks c0 (Some l1))) ∙ nobody c0)
                    | inr n ↦ sym (ap for_writing (at_other locks c0 (Some l1) c n)) ∙ nobody c
                  ]);
            };
        counts =
            record {
              faithful = k.counts.faithful;
              shown = k.counts.shown ∙ sym shown_same;
              starts = k.counts.starts;
              there = k.counts.there ∙ ap (λ p. marked && some_below 16 p) (λ i c. sym (alike c) i);
              holder = λ c l q.
                  elim (at_lock locks c0 l1 c l q) [
                    | inl both ↦
                        subst (λ x. Holder (last start (touches k.front)) (own' c) x) both.1
                        (subst (λ n. Holder (last start (touches k.front)) (own' n) l1) (sym both.0)
                        (holder1 (last start (touches k.front)) (k.counts.holder c0 l0 holds)))
                    | inr both ↦ subst (λ ts. Holder (last start (touches k.front)) ts l) (sym (owns c both.0)) (k.counts.holder c l both.1)
                  ];
              nothing_own = λ c o q.
                  let none = at_no_lock locks c0 l1 c q in
                  owns c none.0 ∙ k.counts.nothing_own c o none.1;
            };
      }
