-- What giving up slots leaves of each cell.
use Rattle.std.proofs.Common.{◌≡◌, ℕ, ◌+◌, ◌<◌, ◌≤◌, Bool, true, false, cond, eqb, List, [], ◌∷◌, length, get_or, set, Some, None, Option, sym, refl, ap, ◌∙◌, arith, length-set}
use Rattle.std.proofs.lemmas.Bool.{eqb-true, eqb-false}
use Rattle.std.proofs.lemmas.List.{get_or-set_same, get_or-set_other}
use Rattle.rules.specs.State.{is_write, for_writing}
use Rattle.inner.specs.declared.slots.Held.{Held}
use Rattle.inner.specs.declared.cells.Cell.{Cell}
use Rattle.inner.specs.Slots.{lock_in, locks_on}
use Rattle.inner.specs.Cells.{blank, released, release_slot, release_slots}
use Rattle.inner.proofs.SlotLaws.{own_count, once_behind, none_lock}

-- Every lock lies on an element that has a cell.
abbrev pub Within : List (Option Held) → ℕ → Type 0
Within slots n = (e : ℕ) → 0 < locks_on slots e → e < n

release_length : (cells : List Cell) (s : Option Held) → length (release_slot cells s) ≡ length cells
release_length cells None = refl
release_length cells (Some h) = length-set cells h.element.0 (released (get_or cells h.element.0 blank) h.lock.kind)

pub release_lengths : (slots : List (Option Held)) (cells : List Cell) → length (release_slots cells slots) ≡ length cells
release_lengths [] cells = refl
release_lengths (s ∷ ss) cells = release_lengths ss (release_slot cells s) ∙ release_length cells s

rest_within : (s : Option Held) (ss : List (Option Held)) (cells : List Cell) → Within (s ∷ ss) (length cells) → Within ss (length (release_slot cells s))
rest_within s ss cells within e l = let h = within e (omega arith) in omega (arith, release_length cells s)

module _ (h : Held) (ss : List (Option Held)) (cells : List Cell) (e : ℕ) (within : Within (Some h ∷ ss) (length cells)) where
  -- One lock is given up: its element's cell is released, every other cell is kept.
  release_at : get_or (release_slot cells (Some h)) e blank ≡ cond (eqb h.element.0 e) (released (get_or cells e blank) h.lock.kind) (get_or cells e blank)
  release_at = go (eqb h.element.0 e) refl
    where
      go : (b : Bool) → eqb h.element.0 e ≡ b →
          get_or (set cells h.element.0 (released (get_or cells h.element.0 blank) h.lock.kind)) e blank ≡ cond b (released (get_or cells e blank) h.lock.kind) (get_or cells e blank)
      go true t =
          let q : h.element.0 ≡ e = eqb-true h.element.0 e t in
          ap (λ k. get_or (set cells h.element.0 (released (get_or cells h.element.0 blank) h.lock.kind)) k blank) (sym q)
          ∙ get_or-set_same cells h.element.0 (released (get_or cells h.element.0 blank) h.lock.kind) blank (within h.element.0 (omega (arith, own_count h)))
          ∙ ap (λ k. released (get_or cells k blank) h.lock.kind) q
      go false t = get_or-set_other cells h.element.0 e (released (get_or cells h.element.0 blank) h.lock.kind) blank (λ q. eqb-false h.element.0 e t (sym q))

  mark_at : (get_or (release_slot cells (Some h)) e blank).marked ≡ (get_or cells e blank).marked
  mark_at = ap (λ c. c.marked) release_at ∙ go (eqb h.element.0 e)
    where
      go : (b : Bool) → (cond b (released (get_or cells e blank) h.lock.kind) (get_or cells e blank)).marked ≡ (get_or cells e blank).marked
      go true = refl
      go false = refl

-- The marks stay.
pub released_marks : (slots : List (Option Held)) (cells : List Cell) (e : ℕ) → Within slots (length cells) →
    (get_or (release_slots cells slots) e blank).marked ≡ (get_or cells e blank).marked
released_marks [] cells e within = refl
released_marks (None ∷ ss) cells e within = released_marks ss cells e (rest_within None ss cells within)
released_marks (Some h ∷ ss) cells e within =
    released_marks ss (release_slot cells (Some h)) e (rest_within (Some h) ss cells within) ∙ mark_at h ss cells e within

-- Each cell has lost as many holders as there were locks on it.
pub released_holders : (slots : List (Option Held)) (cells : List Cell) (e : ℕ) → Within slots (length cells) → locks_on slots e ≤ (get_or cells e blank).holders →
    (get_or (release_slots cells slots) e blank).holders + locks_on slots e ≡ (get_or cells e blank).holders
released_holders [] cells e within enough = omega arith
released_holders (None ∷ ss) cells e within enough = let h = released_holders ss cells e (rest_within None ss cells within) (omega arith) in omega arith
released_holders (Some h ∷ ss) cells e within enough =
    go (eqb h.element.0 e) (ap (λ c. c.holders) (release_at h ss cells e within)) enough
    (released_holders ss (release_slot cells (Some h)) e (rest_within (Some h) ss cells within))
  where
    go : (b : Bool) → (get_or (release_slot cells (Some h)) e blank).holders ≡ (cond b (released (get_or cells e blank) h.lock.kind) (get_or cells e blank)).holders →
        cond b 1 0 + locks_on ss e ≤ (get_or cells e blank).holders →
        (locks_on ss e ≤ (get_or (release_slot cells (Some h)) e blank).holders → (get_or (release_slots (release_slot cells (Some h)) ss) e blank).holders + locks_on ss e ≡ (get_or (release_slot cells (Some h)) e blank).holders) →
        (get_or (release_slots (release_slot cells (Some h)) ss) e blank).holders + (cond b 1 0 + locks_on ss e) ≡ (get_or cells e blank).holders
    go true l enough ih = let i = ih (omega arith) in omega arith
    go false l enough ih = let i = ih (omega arith) in omega arith

-- What was held for writing has lost its second version.
pub released_seconds : (slots : List (Option Held)) (cells : List Cell) (e : ℕ) → Within slots (length cells) → ((e : ℕ) → locks_on slots e ≤ 1) →
    (get_or (release_slots cells slots) e blank).second ≡ cond (for_writing (lock_in slots e)) None (get_or cells e blank).second
released_seconds [] cells e within once = refl
released_seconds (None ∷ ss) cells e within once = released_seconds ss cells e (rest_within None ss cells within) (once_behind None ss once)
released_seconds (Some h ∷ ss) cells e within once =
    released_seconds ss (release_slot cells (Some h)) e (rest_within (Some h) ss cells within) (once_behind (Some h) ss once)
    ∙ ap (cond (for_writing (lock_in ss e)) None) (ap (λ c. c.second) (release_at h ss cells e within))
    ∙ go (eqb h.element.0 e) (once e)
  where
    go : (b : Bool) → cond b 1 0 + locks_on ss e ≤ 1 →
        cond (for_writing (lock_in ss e)) None (cond b (released (get_or cells e blank) h.lock.kind) (get_or cells e blank)).second
        ≡ cond (for_writing (cond b (Some h.lock) (lock_in ss e))) None (get_or cells e blank).second
    go true l = ap (λ o. cond (for_writing o) None (cond (is_write h.lock.kind) None (get_or cells e blank).second)) (none_lock ss e (omega arith))
    go false l = refl
