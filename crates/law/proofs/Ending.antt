-- A transaction ends: for each element that it holds, the tail moves behind its own touches, and then it leaves.
use Rattle.std.proofs.Common.{◌≡◌, ℕ, suc, ◌<◌, Bool, true, false, cond, not, ◌&&◌, eqb, List, [], ◌++◌, ℤ, is_some, Some, None, Option, unwrap_or, sym, refl, ap, ◌∙◌, subst, inl, inr}
use Rattle.std.proofs.lemmas.List.{append-nil}
use Rattle.std.proofs.lemmas.Bool.{and_parts, and_left, and_right, eqb-true, eq-eqb, ne_eqb, cases_Bool, cases_eq}
use Rattle.rules.specs.Scans.{some_below}
use Rattle.rules.specs.State.{is_write, for_writing}
use Rattle.rules.specs.declared.ClientState.{ClientState}
use Rattle.rules.specs.declared.ClientState.TheVariants.{Idle}
use Rattle.rules.specs.declared.Lock.{Lock}
use Rattle.rules.proofs.Scanning.{some_true, some_false, some_none}
use Rattle.law.specs.Record.{is_open}
use Rattle.law.specs.Order.{those_that}
use Rattle.law.proofs.Touches.{Touch, last, TrueTo, Placed, placed, touches, last_append, true_append, true_front, true_back, touches_append, touches_placed}
use Rattle.law.proofs.Trails.{Trail, same, trail_stays, trail_closes, holder_keeps, holder_moves, other_keeps, other_moves, trail_ends}
use Rattle.law.proofs.Elements.{Holder, Held, Locking, someone, is_there, Kept, never, true_not_false, some_is, not_dropped, and_one, starts_anywhere, ends_alike, there_touches, not_there}
use Rattle.law.proofs.Leaving.{stayed, locking_leaves, kept_leaves}

module _ (start : ℤ) (now : ℕ) (X A : List Placed) (clients : ℕ → ClientState) (begun : ℕ → ℕ) (locks : ℕ → Option Lock)
    (own : ℕ → List Touch) (marked : Bool) (second : Option ℤ) (number : ℤ) (c0 : ℕ) (opened : is_open (clients c0) ≡ true)
    (k : Kept start now X A clients begun locks own marked second number) where
  abbrev leaver : ℕ → Bool
  leaver d = eqb d c0

  abbrev second_left : Option ℤ
  second_left = cond (some_below 16 (λ d. leaver d && for_writing (locks d))) None second

  -- The order's trail with the transaction put in its place.
  abbrev ended_trail : List Placed
  ended_trail = those_that (λ x. not (x.behind (begun c0))) X ++ (placed (λ b. false) (own c0) ++ those_that (λ x. x.behind (begun c0)) A)

  abbrev Ended : List Placed → Type 0
  Ended xs = Kept start (suc now) xs A (λ d. cond (leaver d) Idle (clients d)) begun (λ d. cond (leaver d) None (locks d)) own marked second_left number

  -- It did not hold the element.
  module _ (none : locks c0 ≡ None) where
    no_change : ended_trail ≡ X
    no_change =
        ap (λ xs. xs ++ (placed (λ b. false) (own c0) ++ those_that (λ x. x.behind (begun c0)) A))
        (other_keeps now X A k.front k.early k.tail (λ c. is_open (clients c)) begun (λ c. is_some (locks c)) c0 opened k.trail (ap is_some none)) ∙
        ap (λ xs. X ++ (placed (λ b. false) (own c0) ++ xs))
        (other_moves now X A k.front k.early k.tail (λ c. is_open (clients c)) begun (λ c. is_some (locks c)) c0 opened k.trail (ap is_some none)) ∙
        ap (λ ts. X ++ (placed (λ b. false) ts ++ [])) (k.counts.nothing_own c0 opened none) ∙ append-nil X

    ended_other : Ended ended_trail
    ended_other =
        subst Ended (sym no_change)
        (kept_leaves start now X A clients begun locks own marked second number leaver Idle refl
        (λ d l e q w. never (let r : Some l ≡ None = sym q ∙ ap locks (eqb-true d c0 e) ∙ none in cc)) k)

  -- It held the element, and what it changed there was taken.
  module _ (l0 : Lock) (holds : locks c0 ≡ Some l0) (finished : l0.changed ≡ true → l0.taken ≡ true) where
    abbrev moved : List Placed
    moved = k.front ++ (placed (λ b. false) (own c0) ++ k.tail)

    is_moved : ended_trail ≡ moved
    is_moved =
        ap (λ xs. xs ++ (placed (λ b. false) (own c0) ++ those_that (λ x. x.behind (begun c0)) A))
        (holder_keeps now X A k.front k.early k.tail (λ c. is_open (clients c)) begun (λ c. is_some (locks c)) c0 opened k.trail (ap is_some holds)) ∙
        ap (λ xs. k.front ++ (placed (λ b. false) (own c0) ++ xs))
        (holder_moves now X A k.front k.early k.tail (λ c. is_open (clients c)) begun (λ c. is_some (locks c)) c0 opened k.trail (ap is_some holds))

    abbrev base : ℤ
    base = last start (touches k.front)

    H : Holder base (own c0) l0
    H = k.counts.holder c0 l0 holds

    L : Held (clients c0) marked second number l0
    L = k.locking.held c0 l0 holds

    small : c0 < 16
    small = k.locking.below c0 (ap is_some holds)

    locked_now : someone locks ≡ true
    locked_now = some_true 16 (λ d. is_some (locks d)) c0 small (ap is_some holds)

    touches_are : touches moved ≡ touches k.front ++ (own c0 ++ touches k.tail)
    touches_are =
        touches_append k.front (placed (λ b. false) (own c0) ++ k.tail) ∙
        ap (λ ts. touches k.front ++ ts) (touches_append (placed (λ b. false) (own c0)) k.tail ∙ ap (λ ts. ts ++ touches k.tail) (touches_placed (λ b. false) (own c0)))

    order_touches : touches X ≡ touches k.front ++ touches k.tail
    order_touches = ap touches k.trail.order_is ∙ touches_append k.front k.tail

    faithful_moved : TrueTo start (touches moved)
    faithful_moved =
        subst (TrueTo start) (sym touches_are)
        (let all : TrueTo start (touches k.front ++ touches k.tail) = subst (TrueTo start) order_touches k.counts.faithful in
        true_append start (touches k.front) (own c0 ++ touches k.tail) (true_front start (touches k.front) (touches k.tail) all)
        (true_append base (own c0) (touches k.tail) H.faithful
        (starts_anywhere base (last base (own c0)) (touches k.tail) k.counts.starts (true_back start (touches k.front) (touches k.tail) all))))

    ends_in : last start (touches moved) ≡ last l0.copy (touches k.tail)
    ends_in =
        ap (last start) touches_are ∙ last_append start (touches k.front) (own c0 ++ touches k.tail) ∙
        last_append base (own c0) (touches k.tail) ∙ ap (λ v. last v (touches k.tail)) H.copied

    shown_before : last base (touches k.tail) ≡ unwrap_or second number
    shown_before = sym (ap (last start) order_touches ∙ last_append start (touches k.front) (touches k.tail)) ∙ k.counts.shown

    second_is : (b : Bool) → is_write l0.kind ≡ b → second_left ≡ cond b None second
    second_is true w =
        ap (λ b. cond b None second)
        (some_true 16 (λ d. leaver d && for_writing (locks d)) c0 small (rw (eq-eqb c0 c0 refl) (ap for_writing holds ∙ w)))
    second_is false w =
        ap (λ b. cond b None second)
        (some_none 16 (λ d. leaver d && for_writing (locks d)) (λ d _.
        elim (cases_eq d c0) [
          | inl e ↦ and_right (leaver d) (for_writing (locks d)) (ap (λ n. for_writing (locks n)) e ∙ ap for_writing holds ∙ w)
          | inr n ↦ and_left (leaver d) (for_writing (locks d)) (ne_eqb d c0 n)
        ]))

    -- With a tail the hard write counts as the later one.
    shown_with_tail : is_there k.tail ≡ true → (b : Bool) → is_write l0.kind ≡ b → last l0.copy (touches k.tail) ≡ unwrap_or (cond b None second) number
    shown_with_tail there true w =
        ends_alike l0.copy base (touches k.tail) k.counts.starts (there_touches k.tail ∙ there) ∙ shown_before ∙
        ap (λ o. unwrap_or o number)
        (L.level w (and_right l0.taken (not marked) (ap not (and_parts marked (someone locks) (sym k.counts.there ∙ there)).0)))
    shown_with_tail there false w =
        ends_alike l0.copy base (touches k.tail) k.counts.starts (there_touches k.tail ∙ there) ∙ shown_before

    -- Without one it is the working copy that the table holds.
    copy_is : marked ≡ false → unwrap_or second number ≡ base → (b : Bool) → is_write l0.kind ≡ b → (d : Bool) → l0.changed ≡ d →
        l0.copy ≡ unwrap_or (cond b None second) number
    copy_is m shown true w true ch = sym (L.written w (finished ch) m)
    copy_is m shown true w false ch =
        H.unchanged ch ∙ sym shown ∙ ap (λ o. unwrap_or o number) (L.level w (and_left l0.taken (not marked) (L.untaken ch)))
    copy_is m shown false w true ch = true_not_false ch (L.read_unchanged w)
    copy_is m shown false w false ch = H.unchanged ch ∙ sym shown

    shown_moved : last start (touches moved) ≡ unwrap_or second_left number
    shown_moved = ends_in ∙ by (is_there k.tail) refl ∙ ap (λ o. unwrap_or o number) (sym (second_is (is_write l0.kind) refl))
      where
        by : (b : Bool) → is_there k.tail ≡ b → last l0.copy (touches k.tail) ≡ unwrap_or (cond (is_write l0.kind) None second) number
        by true there = shown_with_tail there (is_write l0.kind) refl
        by false none =
            let nil : k.tail ≡ [] = not_there k.tail none in
            let m : marked ≡ false = sym (and_one marked (someone locks) locked_now) ∙ sym k.counts.there ∙ none in
            ap (λ xs. last l0.copy (touches xs)) nil ∙
            copy_is m (sym shown_before ∙ ap (λ xs. last base (touches xs)) nil) (is_write l0.kind) refl l0.changed refl

    trail_moved : Trail (suc now) moved A (k.front ++ placed (λ b. false) (own c0)) k.early k.tail
        (λ c. is_open (cond (leaver c) Idle (clients c))) begun (λ c. is_some (cond (leaver c) None (locks c)))
    trail_moved =
        trail_stays now moved A (λ c. is_open (clients c)) (λ c. is_open (cond (leaver c) Idle (clients c))) begun begun (λ c. is_some (locks c)) (λ c. is_some (cond (leaver c) None (locks c)))
        (λ c o.
        let out = stayed (leaver c) Idle (clients c) refl o in
        same (ap (λ b. is_open (cond b Idle (clients c))) (sym out) ∙ o) refl (ap (λ b. is_some (cond b None (locks c))) out))
        (k.front ++ placed (λ b. false) (own c0)) k.early k.tail
        (trail_ends now X A k.front k.early k.tail (λ c. is_open (clients c)) begun (λ c. is_some (locks c)) c0 opened k.trail (own c0))

    locking_moved : Locking (λ d. cond (leaver d) Idle (clients d)) (λ d. cond (leaver d) None (locks d)) marked second_left number
    locking_moved = locking_leaves clients locks marked second number leaver k.locking Idle

    nothing_moved : (c : ℕ) → is_open (cond (leaver c) Idle (clients c)) ≡ true → cond (leaver c) None (locks c) ≡ None → own c ≡ []
    nothing_moved c o q =
        let out = stayed (leaver c) Idle (clients c) refl o in
        k.counts.nothing_own c (ap (λ b. is_open (cond b Idle (clients c))) (sym out) ∙ o) (ap (λ b. cond b None (locks c)) (sym out) ∙ q)

    nobody_left : someone (λ d. cond (leaver d) None (locks d)) ≡ false → (c : ℕ) → is_some (cond (leaver c) None (locks c)) ≡ false
    nobody_left none c =
        elim (cases_Bool (is_some (cond (leaver c) None (locks c))))
        [ inl i ↦ some_false 16 (λ d. is_some (cond (leaver d) None (locks d))) none c (locking_moved.below c i) | inr i ↦ i ]

    -- Another holder reads the same base: the transaction that ended there has only read.
    other_base : (c : ℕ) (l : Lock) → cond (leaver c) None (locks c) ≡ Some l → last start (touches (k.front ++ placed (λ b. false) (own c0))) ≡ base
    other_base c l q =
        let rest = not_dropped (leaver c) (locks c) l q in
        let away : c0 ≡ c → ⊥ = λ e. true_not_false (eq-eqb c c0 (sym e)) rest.0 in
        let reader : is_write l0.kind ≡ false = elim (cases_Bool (is_write l0.kind))
        [ inl w ↦ never (let r : Some l ≡ None = sym rest.1 ∙ k.locking.single c0 c l0 holds w (λ e. away (sym e)) in cc) | inr r ↦ r ] in
        ap (last start) (touches_append k.front (placed (λ b. false) (own c0)) ∙ ap (λ ts. touches k.front ++ ts) (touches_placed (λ b. false) (own c0))) ∙
        last_append start (touches k.front) (own c0) ∙ H.copied ∙ H.unchanged (L.read_unchanged reader)

    by_holders : (b : Bool) → someone (λ d. cond (leaver d) None (locks d)) ≡ b → Ended moved
    by_holders true h =
        record {
          front = k.front ++ placed (λ b. false) (own c0);
          early = k.early;
          tail = k.tail;
          trail = trail_moved;
          locking = locking_moved;
          counts =
              record {
                faithful = faithful_moved;
                shown = shown_moved;
                starts = k.counts.starts;
                there = k.counts.there ∙ ap (λ b. marked && b) (locked_now ∙ sym h);
                holder = λ c l q. subst (λ v. Holder v (own c) l) (sym (other_base c l q)) (k.counts.holder c l (not_dropped (leaver c) (locks c) l q).1);
                nothing_own = nothing_moved;
              };
        }
    by_holders false h =
        record {
          front = moved;
          early = A;
          tail = [];
          trail =
              trail_closes (suc now) moved A (k.front ++ placed (λ b. false) (own c0)) k.early k.tail (λ c. is_open (cond (leaver c) Idle (clients c))) begun
              (λ c. is_some (cond (leaver c) None (locks c))) (λ c o. nobody_left h c) trail_moved;
          locking = locking_moved;
          counts =
              record {
                faithful = faithful_moved;
                shown = shown_moved;
                starts = tt;
                there = sym (and_right marked (someone (λ d. cond (leaver d) None (locks d))) h);
                holder = λ c l q. true_not_false (some_is (cond (leaver c) None (locks c)) l q) (nobody_left h c);
                nothing_own = nothing_moved;
              };
        }

    ended_holder : Ended ended_trail
    ended_holder = subst Ended (sym is_moved) (by_holders (someone (λ d. cond (leaver d) None (locks d))) refl)

  pub kept_ends : ((l : Lock) → locks c0 ≡ Some l → l.changed ≡ true → l.taken ≡ true) → Ended ended_trail
  kept_ends finished = by (locks c0) refl
    where
      by : (o : Option Lock) → locks c0 ≡ o → Ended ended_trail
      by None q = ended_other q
      by (Some l) q = ended_holder l q (finished l q)
