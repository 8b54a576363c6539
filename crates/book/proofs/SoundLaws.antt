-- Soundness: what follows from it, and that it is kept.
use Rattle.std.proofs.Common.{◌≡◌, ℕ, zero, suc, ◌+◌, ◌<◌, ◌≤◌, Bool, true, false, cond, ◌||◌, eqb, ltb, ◌⊎◌, List, [], ◌∷◌, length, get_or, set, is_some, Some, None, sym, refl, ap, ◌∙◌, inl, inr, ⊎_elim, arith, length-set}
use Rattle.std.proofs.lemmas.Bool.{eqb-true, eqb-false, lt-ltb, cases_lt, cases_eq}
use Rattle.std.proofs.lemmas.List.{get_or-set_same, get_or-set_other, get_or_past, set_past}
use Rattle.rules.specs.Scans.{some_below}
use Rattle.rules.specs.declared.ClientState.{ClientState}
use Rattle.inner.specs.declared.slots.Held.{Held}
use Rattle.inner.specs.declared.slots.ClientRecord.{ClientRecord}
use Rattle.inner.specs.declared.cells.Cell.{Cell}
use Rattle.inner.specs.declared.whole.Inner.{Inner}
use Rattle.inner.specs.Slots.{on, lock_in, locks_on}
use Rattle.inner.specs.Cells.{blank, release_slots}
use Rattle.inner.specs.Whole.{nobody, client_of, cell_of, no_locks, entered_state, with_slot, with_cell, left}
use Rattle.book.specs.Sound.{all_locks, Sound}
use Rattle.inner.proofs.ScanLaws.{some_front}
use Rattle.inner.proofs.SlotLaws.{lock_counts, locks_set, count_from_none}
use Rattle.inner.proofs.CellLaws.{Within, release_lengths, released_holders}

-- The count of all locks on an element when one client's record is set.
pub all_set : (rs : List ClientRecord) (c : ℕ) (r : ClientRecord) (e : ℕ) → c < length rs →
    all_locks (set rs c r) e + locks_on (get_or rs c nobody).slots e ≡ all_locks rs e + locks_on r.slots e
all_set [] c r e l = absurd (none l)
  where
    none : c < 0 → ⊥
    none l = omega arith
all_set (x ∷ xs) zero r e l = omega arith
all_set (x ∷ xs) (suc c) r e l = let h = all_set xs c r e (omega arith) in omega arith

pub one_of_all : (rs : List ClientRecord) (c e : ℕ) → locks_on (get_or rs c nobody).slots e ≤ all_locks rs e
one_of_all [] c e = omega arith
one_of_all (x ∷ xs) zero e = omega arith
one_of_all (x ∷ xs) (suc c) e = let h = one_of_all xs c e in omega arith

-- Some client has a lock on an element exactly if the count of all is not 0.
pub some_lock : (rs : List ClientRecord) (e : ℕ) → some_below (length rs) (λ c. is_some (lock_in (get_or rs c nobody).slots e)) ≡ ltb 0 (all_locks rs e)
unfolding some_below
some_lock [] e = refl
some_lock (x ∷ xs) e =
    some_front (length xs) (λ c. is_some (lock_in (get_or (x ∷ xs) c nobody).slots e))
    ∙ ap (λ b. is_some (lock_in x.slots e) || b) (some_lock xs e) ∙ ap (λ b. b || ltb 0 (all_locks xs e)) (lock_counts x.slots e)
    ∙ sum (locks_on x.slots e) (all_locks xs e)
  where
    sum : (a b : ℕ) → (ltb 0 a || ltb 0 b) ≡ ltb 0 (a + b)
    sum zero b = ap (ltb 0) (omega arith)
    sum (suc a) b = ap (λ t. t || ltb 0 b) (lt-ltb 0 (suc a) (omega arith)) ∙ sym (lt-ltb 0 (suc a + b) (omega arith))

module _ (n : Inner) (sound : Sound n) where
  -- An element is locked exactly if its cell has a holder.
  pub locked_by_cell : (e : ℕ) → some_below 16 (λ c. is_some (lock_in (client_of n c).slots e)) ≡ ltb 0 (cell_of n e).holders
  locked_by_cell e =
      ap (λ k. some_below k (λ c. is_some (lock_in (client_of n c).slots e))) (sym sound.sized.clients) ∙ some_lock n.clients e ∙ ap (ltb 0) (sym (sound.counted.holders e))

  pub enough_holders : (c e : ℕ) → locks_on (client_of n c).slots e ≤ (cell_of n e).holders
  enough_holders c e = omega (arith, one_of_all n.clients c e, sound.counted.holders e)

  -- Every lock lies on an element that has a cell.
  pub within_cells : (c : ℕ) → Within (client_of n c).slots (length n.cells)
  within_cells c e l = ⊎_elim (λ h. h) (λ h. absurd (past h)) (cases_lt e (length n.cells))
    where
      past : length n.cells ≤ e → ⊥
      past h = omega (arith, enough_holders c e, ap (λ x. x.holders) (get_or_past n.cells e blank h))

  -- A client's record and the cells are set together.
  pub sound_set : (c : ℕ) (r : ClientRecord) (cells : List Cell) → c < 16 → length r.slots ≡ 32 → ((e : ℕ) → locks_on r.slots e ≤ 1) →
      length cells ≡ 256 → ((e : ℕ) → (get_or cells e blank).holders + locks_on (client_of n c).slots e ≡ (cell_of n e).holders + locks_on r.slots e) →
      Sound (record { clients = set n.clients c r; cells = cells; ties = n.ties })
  sound_set c r cells l long once size holders =
      record {
        sized = record { clients = length-set n.clients c r ∙ sound.sized.clients; cells = size; ties = sound.sized.ties };
        counted = record { slots = slots; once = locks; holders = count };
      }
    where
      here : (d : ℕ) → d ≡ c → get_or (set n.clients c r) d nobody ≡ r
      here d q = ap (λ k. get_or (set n.clients c r) k nobody) q ∙ get_or-set_same n.clients c r nobody (omega (arith, sound.sized.clients))

      there : (d : ℕ) → (d ≡ c → ⊥) → get_or (set n.clients c r) d nobody ≡ client_of n d
      there d ne = get_or-set_other n.clients c d r nobody ne

      slots : (d : ℕ) → d < 16 → length (get_or (set n.clients c r) d nobody).slots ≡ 32
      slots d h = ⊎_elim (λ q. ap (λ x. length x.slots) (here d q) ∙ long) (λ ne. ap (λ x. length x.slots) (there d ne) ∙ sound.counted.slots d h) (cases_eq d c)

      locks : (d e : ℕ) → locks_on (get_or (set n.clients c r) d nobody).slots e ≤ 1
      locks d e =
          ⊎_elim (λ q. omega (arith, ap (λ x. locks_on x.slots e) (here d q), once e)) (λ ne. omega (arith, ap (λ x. locks_on x.slots e) (there d ne), sound.counted.once d e)) (cases_eq d c)

      count : (e : ℕ) → (get_or cells e blank).holders ≡ all_locks (set n.clients c r) e
      count e = omega (arith, holders e, all_set n.clients c r e (omega (arith, sound.sized.clients)), sound.counted.holders e, one_of_all n.clients c e)

  -- A cell is set with the holders that it had.
  pub sound_cell : (e : ℕ) (x : Cell) → x.holders ≡ (cell_of n e).holders → Sound (record { clients = n.clients; cells = set n.cells e x; ties = n.ties })
  sound_cell e x same =
      record {
        sized = record { clients = sound.sized.clients; cells = length-set n.cells e x ∙ sound.sized.cells; ties = sound.sized.ties };
        counted = record { slots = sound.counted.slots; once = sound.counted.once; holders = count };
      }
    where
      count : (q : ℕ) → (get_or (set n.cells e x) q blank).holders ≡ all_locks n.clients q
      count q = ⊎_elim here (λ ne. ap (λ y. y.holders) (get_or-set_other n.cells e q x blank ne) ∙ sound.counted.holders q) (cases_eq q e)
        where
          here : q ≡ e → (get_or (set n.cells e x) q blank).holders ≡ all_locks n.clients q
          here p = ap (λ k. (get_or (set n.cells e x) k blank).holders) p ∙ go (cases_lt e (length n.cells)) ∙ ap (λ k. all_locks n.clients k) (sym p)
            where
              go : (e < length n.cells) ⊎ (length n.cells ≤ e) → (get_or (set n.cells e x) e blank).holders ≡ all_locks n.clients e
              go (inl l) = ap (λ y. y.holders) (get_or-set_same n.cells e x blank l) ∙ same ∙ sound.counted.holders e
              go (inr l) = ap (λ y. (get_or y e blank).holders) (set_past n.cells e x l) ∙ sound.counted.holders e

  -- A client loses all its locks.
  pub sound_left : (c : ℕ) (after : ClientState) → c < 16 → Sound (left n c after)
  unfolding no_locks
  sound_left c after l =
      sound_set c (record { state = after; slots = no_locks }) (release_slots n.cells (client_of n c).slots) l refl (λ e. omega arith)
      (release_lengths (client_of n c).slots n.cells ∙ sound.sized.cells)
      (λ e. released_holders (client_of n c).slots n.cells e (within_cells c) (enough_holders c e) ∙ omega arith)

  -- A client comes into a state.
  pub sound_enter : (c : ℕ) (after : ClientState) → c < 16 → Sound (entered_state n c after)
  sound_enter c after l =
      sound_set c (record { state = after; slots = (client_of n c).slots }) n.cells l (sound.counted.slots c l) (sound.counted.once c) sound.sized.cells (λ e. refl)

  module _ (c i : ℕ) (new : Held) (l : c < 16) (li : i < 32) where
    -- A lock takes the place of another on its element.
    pub sound_slot : ((q : ℕ) → on (Some new) q ≡ on (get_or (client_of n c).slots i None) q) → Sound (with_slot n c i (Some new))
    sound_slot same =
        sound_set c (record { state = (client_of n c).state; slots = set (client_of n c).slots i (Some new) }) n.cells l
        (length-set (client_of n c).slots i (Some new) ∙ sound.counted.slots c l) (λ e. omega (arith, kept e, sound.counted.once c e)) sound.sized.cells (λ e. omega (arith, kept e))
      where
        kept : (e : ℕ) → locks_on (set (client_of n c).slots i (Some new)) e ≡ locks_on (client_of n c).slots e
        kept e =
            let a : ◌≡◌ {A = ℕ} (cond (on (Some new) e) 1 0) (cond (on (get_or (client_of n c).slots i None) e) 1 0) = ap (λ b. cond b 1 0) (same e) in
            omega (arith, locks_set (client_of n c).slots i (Some new) e (omega (arith, sound.counted.slots c l)))

    -- A new lock comes into a free slot, and its element's cell has one holder more.
    pub sound_gain : (x : Cell) → new.element.0 < 256 → get_or (client_of n c).slots i None ≡ None → lock_in (client_of n c).slots new.element.0 ≡ None →
        x.holders ≡ (cell_of n new.element.0).holders + 1 → Sound (with_cell (with_slot n c i (Some new)) new.element.0 x)
    sound_gain x le unused none more =
        sound_set c (record { state = (client_of n c).state; slots = set (client_of n c).slots i (Some new) }) (set n.cells new.element.0 x) l
        (length-set (client_of n c).slots i (Some new) ∙ sound.counted.slots c l) once (length-set n.cells new.element.0 x ∙ sound.sized.cells) holders
      where
        nobody_on : locks_on (client_of n c).slots new.element.0 ≡ 0
        nobody_on = count_from_none (client_of n c).slots new.element.0 none

        added : (q : ℕ) → locks_on (set (client_of n c).slots i (Some new)) q ≡ locks_on (client_of n c).slots q + cond (eqb new.element.0 q) 1 0
        added q =
            let a : ◌≡◌ {A = ℕ} (cond (on (get_or (client_of n c).slots i None) q) 1 0) 0 = ap (λ s. cond (on s q) 1 0) unused in
            omega (arith, locks_set (client_of n c).slots i (Some new) q (omega (arith, sound.counted.slots c l)))

        once : (q : ℕ) → locks_on (set (client_of n c).slots i (Some new)) q ≤ 1
        once q = go (eqb new.element.0 q) refl (added q)
          where
            go : (b : Bool) → eqb new.element.0 q ≡ b → locks_on (set (client_of n c).slots i (Some new)) q ≡ locks_on (client_of n c).slots q + cond b 1 0 →
                locks_on (set (client_of n c).slots i (Some new)) q ≤ 1
            go true t h = omega (arith, ap (locks_on (client_of n c).slots) (eqb-true new.element.0 q t), nobody_on)
            go false t h = omega (arith, sound.counted.once c q)

        holders : (q : ℕ) → (get_or (set n.cells new.element.0 x) q blank).holders + locks_on (client_of n c).slots q ≡ (cell_of n q).holders + locks_on (set (client_of n c).slots i (Some new)) q
        holders q = go (eqb new.element.0 q) refl (added q)
          where
            go : (b : Bool) → eqb new.element.0 q ≡ b → locks_on (set (client_of n c).slots i (Some new)) q ≡ locks_on (client_of n c).slots q + cond b 1 0 →
                (get_or (set n.cells new.element.0 x) q blank).holders + locks_on (client_of n c).slots q ≡ (cell_of n q).holders + locks_on (set (client_of n c).slots i (Some new)) q
            go true t h =
                let p = eqb-true new.element.0 q t in
                let a : (get_or (set n.cells new.element.0 x) q blank).holders ≡ x.holders = ap (λ k. (get_or (set n.cells new.element.0 x) k blank).holders) (sym p) ∙ ap (λ y. y.holders) (get_or-set_same n.cells new.element.0 x blank (omega (arith, sound.sized.cells))) in
                let b : (cell_of n new.element.0).holders ≡ (cell_of n q).holders = ap (λ k. (cell_of n k).holders) p in
                omega (arith, more)
            go false t h =
                let a : (get_or (set n.cells new.element.0 x) q blank).holders ≡ (cell_of n q).holders = ap (λ y. y.holders) (get_or-set_other n.cells new.element.0 q x blank (λ p. eqb-false new.element.0 q t (sym p))) in
                omega arith

-- A reader gains the write lock: the cell keeps its holders.
pub sound_raise : (n : Inner) → Sound n → (c i : ℕ) (new : Held) (x : Cell) → c < 16 → i < 32 → ((q : ℕ) → on (Some new) q ≡ on (get_or (client_of n c).slots i None) q) →
    x.holders ≡ (cell_of n new.element.0).holders → Sound (with_cell (with_slot n c i (Some new)) new.element.0 x)
sound_raise n sound c i new x l li same more = sound_cell (with_slot n c i (Some new)) (sound_slot n sound c i new l li same) new.element.0 x more
