-- Setting an entry of a list is setting a place of the function that the model reads from it.
use Rattle.std.proofs.Common.{◌≡◌, ℕ, zero, suc, ◌<◌, ◌≤◌, Bool, true, false, cond, not, ◌&&◌, ◌||◌, eqb, ltb, ◌⊎◌, List, length, get_or, set, replicate, ℤ, is_some, Some, None, Option, sym, refl, ap, ◌∙◌, inl, inr, arith}
use mathlib.Core.Path.{fun_ext}
use Rattle.std.proofs.lemmas.Bool.{eqb-true, eqb-false, eq-eqb, cases_lt, cases_eq}
use Rattle.std.proofs.lemmas.List.{get_or-set_same, get_or-set_other, set_past, get_or-replicate}
use Rattle.plant.specs.Meaning.{Meaning, number, put_meaning}
use Rattle.plant.specs.declared.tables.Element.{Element}
use Rattle.rules.specs.Scans.{at, some_below}
use Rattle.rules.specs.State.{opening, is_write, for_writing, holds, locked}
use Rattle.rules.specs.Locking.{leave, gain, granted_lock, mark_after}
use Rattle.rules.specs.Calls.{hard_written}
use Rattle.rules.specs.declared.ClientState.{ClientState}
use Rattle.rules.specs.declared.ClientState.TheVariants.{Idle}
use Rattle.rules.specs.declared.Lock.{Lock}
use Rattle.rules.specs.declared.LockKind.{LockKind}
use Rattle.inner.specs.declared.slots.Held.{Held}
use Rattle.inner.specs.declared.cells.Cell.{Cell}
use Rattle.inner.specs.declared.whole.Inner.{Inner}
use Rattle.inner.specs.Slots.{on, lock_in, locks_on}
use Rattle.inner.specs.Cells.{blank, written_hard}
use Rattle.inner.specs.Whole.{nobody, client_of, cell_of, tie_of, no_locks, fresh, with_cell, with_slot, left}
use Rattle.book.specs.Sound.{Sound}
use Rattle.book.specs.Model.{model}
use Rattle.inner.proofs.ScanLaws.{some_alike, some_only}
use Rattle.inner.proofs.SlotLaws.{lock_set, lock_kept, on_one}
use Rattle.inner.proofs.CellLaws.{released_marks, released_seconds}
use Rattle.book.proofs.SoundLaws.{within_cells, locked_by_cell}

module _ {X Y : Type 0} (f : X → Y) (xs : List X) (i : ℕ) (x d : X) where
  -- An entry that is set.
  pub at_set : i < length xs → (λ q. f (get_or (set xs i x) q d)) ≡ at (λ q. f (get_or xs q d)) i (f x)
  at_set l = fun_ext (λ q. go q (eqb q i) refl)
    where
      go : (q : ℕ) (b : Bool) → eqb q i ≡ b → f (get_or (set xs i x) q d) ≡ cond b (f x) (f (get_or xs q d))
      go q true e = ap f (ap (λ k. get_or (set xs i x) k d) (eqb-true q i e) ∙ get_or-set_same xs i x d l)
      go q false e = ap f (get_or-set_other xs i q x d (eqb-false q i e))

  -- An entry that is set with this part of it as it was.
  pub same_set : f x ≡ f (get_or xs i d) → ◌≡◌ {A = ℕ → Y} (λ q. f (get_or (set xs i x) q d)) (λ q. f (get_or xs q d))
  same_set same = fun_ext (λ q. go q (cases_eq q i) (cases_lt i (length xs)))
    where
      go : (q : ℕ) → (q ≡ i) ⊎ (q ≡ i → ⊥) → (i < length xs) ⊎ (length xs ≤ i) → f (get_or (set xs i x) q d) ≡ f (get_or xs q d)
      go q (inl e) (inl l) = ap (λ k. f (get_or (set xs i x) k d)) e ∙ ap f (get_or-set_same xs i x d l) ∙ same ∙ ap (λ k. f (get_or xs k d)) (sym e)
      go q (inl e) (inr l) = ap (λ ys. f (get_or ys q d)) (set_past xs i x l)
      go q (inr ne) l = ap f (get_or-set_other xs i q x d ne)

-- A place that is set to what it has.
pub at_same : {Y : Type 0} (f : ℕ → Y) (k : ℕ) (y : Y) → y ≡ f k → at f k y ≡ f
at_same f k y e = fun_ext (λ q. go q (eqb q k) refl)
  where
    go : (q : ℕ) (b : Bool) → eqb q k ≡ b → cond b y (f q) ≡ f q
    go q true t = e ∙ ap f (sym (eqb-true q k t))
    go q false t = refl

-- A lock that comes into a slot, with none on its element before that place.
pub slot_at : (slots : List (Option Held)) (i : ℕ) (new : Held) → i < length slots → ((k : ℕ) → k < i → on (get_or slots k None) new.element.0 ≡ false) →
    ((q : ℕ) → (q ≡ new.element.0 → ⊥) → on (get_or slots i None) q ≡ false) → lock_in (set slots i (Some new)) ≡ at (lock_in slots) new.element.0 (Some new.lock)
slot_at slots i new l before old = fun_ext (λ q. go q (eqb q new.element.0) refl)
  where
    go : (q : ℕ) (b : Bool) → eqb q new.element.0 ≡ b → lock_in (set slots i (Some new)) q ≡ cond b (Some new.lock) (lock_in slots q)
    go q true h = ap (lock_in (set slots i (Some new))) (eqb-true q new.element.0 h) ∙ lock_set slots i new l before
    go q false h = let ne = eqb-false q new.element.0 h in lock_kept slots i (Some new) q (old q ne) (on_one (Some new) new.element.0 q (eq-eqb new.element.0 new.element.0 refl) ne)

pub no_lock_in : (e : ℕ) → lock_in no_locks e ≡ None
unfolding no_locks
no_lock_in e = refl

module _ (m : Meaning) (n : Inner) where
  -- A lock comes into a slot of a client, with none on its element before that place.
  module _ (c i : ℕ) (new : Held) where
    pub slot_locks : c < length n.clients → i < length (client_of n c).slots → ((k : ℕ) → k < i → on (get_or (client_of n c).slots k None) new.element.0 ≡ false) →
        ((q : ℕ) → (q ≡ new.element.0 → ⊥) → on (get_or (client_of n c).slots i None) q ≡ false) →
        (λ d. lock_in (client_of (with_slot n c i (Some new)) d).slots) ≡ at (λ d. lock_in (client_of n d).slots) c (at (lock_in (client_of n c).slots) new.element.0 (Some new.lock))
    slot_locks l li before old =
        at_set (λ r. lock_in r.slots) n.clients c (record { state = (client_of n c).state; slots = set (client_of n c).slots i (Some new) }) nobody l
        ∙ ap (at (λ d. lock_in (client_of n d).slots) c) (slot_at (client_of n c).slots i new li before old)

    pub slot_clients : ◌≡◌ {A = ℕ → ClientState} (λ d. (client_of (with_slot n c i (Some new)) d).state) (λ d. (client_of n d).state)
    slot_clients = same_set (λ r. r.state) n.clients c (record { state = (client_of n c).state; slots = set (client_of n c).slots i (Some new) }) nobody refl

  module _ (sound : Sound n) where
    pub model_hard : (e : ℕ) (v : ℤ) → e < length n.cells →
        model (put_meaning m e v) (with_cell n e (written_hard (cell_of n e) v)) ≡ hard_written (model m n) e v
    model_hard e v l = λ i. record {
      table = put_meaning m e v;
      clients = λ c. (client_of n c).state;
      locks = λ c e. lock_in (client_of n c).slots e;
      marked = marks i;
      second = at_set (λ x. x.second) n.cells e (written_hard (cell_of n e) v) blank l i;
      ties = λ p. tie_of n p;
    }
      where
        marks : (λ q. (get_or (set n.cells e (written_hard (cell_of n e) v)) q blank).marked) ≡ at (λ q. (cell_of n q).marked) e ((cell_of n e).marked || locked (model m n) e)
        marks = at_set (λ x. x.marked) n.cells e (written_hard (cell_of n e) v) blank l
            ∙ ap (λ b. at (λ q. (cell_of n q).marked) e ((cell_of n e).marked || b)) (sym (locked_by_cell n sound e))

    pub model_leave : (c : ℕ) (after : ClientState) → c < 16 → model m (left n c after) ≡ leave (λ d. eqb d c) after (model m n)
    model_leave c after l = λ i. record {
      table = m;
      clients = at_set (λ r. r.state) n.clients c (record { state = after; slots = no_locks }) nobody short i;
      locks = locks i;
      marked = (fun_ext (λ e. released_marks (client_of n c).slots n.cells e (within_cells n sound c))) i;
      second = (fun_ext seconds) i;
      ties = λ p. tie_of n p;
    }
      where
        short : c < length n.clients
        short = omega (arith, sound.sized.clients)

        gone : (d e : ℕ) (b : Bool) → cond b (lock_in no_locks) (λ e. lock_in (client_of n d).slots e) e ≡ cond b None (lock_in (client_of n d).slots e)
        gone d e true = no_lock_in e
        gone d e false = refl

        locks : ◌≡◌ {A = ℕ → ℕ → Option Lock} (λ d. lock_in (client_of (left n c after) d).slots) (λ d e. cond (eqb d c) None (lock_in (client_of n d).slots e))
        locks = at_set (λ r. lock_in r.slots) n.clients c (record { state = after; slots = no_locks }) nobody short
            ∙ fun_ext (λ d. fun_ext (λ e. gone d e (eqb d c)))

        seconds : (e : ℕ) → (cell_of (left n c after) e).second ≡ cond (some_below 16 (λ d. eqb d c && for_writing (lock_in (client_of n d).slots e))) None (cell_of n e).second
        seconds e = released_seconds (client_of n c).slots n.cells e (within_cells n sound c) (sound.counted.once c)
            ∙ ap (λ b. cond b None (cell_of n e).second) (sym (some_only 16 (λ d. for_writing (lock_in (client_of n d).slots e)) c l))

    -- A slot and a cell are set as a grant sets them.
    pub model_grant : (c i : ℕ) (new : Held) (kind : LockKind) (x : Cell) → c < 16 → new.element.0 < 256 → i < length (client_of n c).slots →
        ((k : ℕ) → k < i → on (get_or (client_of n c).slots k None) new.element.0 ≡ false) → ((q : ℕ) → (q ≡ new.element.0 → ⊥) → on (get_or (client_of n c).slots i None) q ≡ false) →
        new.lock ≡ granted_lock (model m n) kind new.element.0 (lock_in (client_of n c).slots new.element.0) →
        x.marked ≡ mark_after (model m n) c new.element.0 (lock_in (client_of n c).slots new.element.0) →
        x.second ≡ cond (is_write kind) (Some (number m new.element.0)) (cell_of n new.element.0).second →
        model m (with_cell (with_slot n c i (Some new)) new.element.0 x) ≡ gain c kind new.element.0 (model m n)
    model_grant c i new kind x l le li before old granted mark sec = λ j. record {
      table = m;
      clients = slot_clients c i new j;
      locks = locks j;
      marked = marks j;
      second = seconds j;
      ties = λ p. tie_of n p;
    }
      where
        locks : (λ d. lock_in (client_of (with_slot n c i (Some new)) d).slots) ≡
            at (λ d. lock_in (client_of n d).slots) c (at (lock_in (client_of n c).slots) new.element.0 (Some (granted_lock (model m n) kind new.element.0 (lock_in (client_of n c).slots new.element.0))))
        locks = slot_locks c i new (omega (arith, sound.sized.clients)) li before old
            ∙ ap (λ o. at (λ d. lock_in (client_of n d).slots) c (at (lock_in (client_of n c).slots) new.element.0 (Some o))) granted

        marks : (λ q. (get_or (set n.cells new.element.0 x) q blank).marked) ≡ at (λ q. (cell_of n q).marked) new.element.0 (mark_after (model m n) c new.element.0 (lock_in (client_of n c).slots new.element.0))
        marks = at_set (λ y. y.marked) n.cells new.element.0 x blank (omega (arith, sound.sized.cells)) ∙ ap (at (λ q. (cell_of n q).marked) new.element.0) mark

        pick : (b : Bool) → at (λ q. (cell_of n q).second) new.element.0 (cond b (Some (number m new.element.0)) (cell_of n new.element.0).second) ≡ cond b (at (λ q. (cell_of n q).second) new.element.0 (Some (number m new.element.0))) (λ q. (cell_of n q).second)
        pick true = refl
        pick false = at_same (λ q. (cell_of n q).second) new.element.0 (cell_of n new.element.0).second refl

        seconds : (λ q. (get_or (set n.cells new.element.0 x) q blank).second) ≡ cond (is_write kind) (at (λ q. (cell_of n q).second) new.element.0 (Some (number m new.element.0))) (λ q. (cell_of n q).second)
        seconds = at_set (λ y. y.second) n.cells new.element.0 x blank (omega (arith, sound.sized.cells)) ∙ ap (at (λ q. (cell_of n q).second) new.element.0) sec ∙ pick (is_write kind)

    -- The mark that a new lock leaves: it stays only if somebody else holds the element.
    pub mark_new : (c e : ℕ) → lock_in (client_of n c).slots e ≡ None →
        ((cell_of n e).marked && ltb 0 (cell_of n e).holders) ≡ mark_after (model m n) c e (lock_in (client_of n c).slots e)
    mark_new c e none =
        ap (λ b. (cell_of n e).marked && b) (sym (locked_by_cell n sound e) ∙ some_alike 16 (λ d. holds (model m n) d e) (λ d. not (eqb d c) && holds (model m n) d e) others)
        ∙ ap (mark_after (model m n) c e) (sym none)
      where
        others : (d : ℕ) → d < 16 → holds (model m n) d e ≡ (not (eqb d c) && holds (model m n) d e)
        others d l = go (eqb d c) refl
          where
            go : (b : Bool) → eqb d c ≡ b → holds (model m n) d e ≡ (not b && holds (model m n) d e)
            go true h = ap (λ k. holds (model m n) k e) (eqb-true d c h) ∙ ap is_some none
            go false h = refl

-- A part in which all entries are as what is read past them.
all_alike : {X Y : Type 0} (f : X → Y) (x d : X) → f x ≡ f d → (k q : ℕ) → f (get_or (replicate k x) q d) ≡ f d
all_alike f x d same zero q = refl
all_alike f x d same (suc k) zero = same
all_alike f x d same (suc k) (suc q) = all_alike f x d same k q

-- A new inner struct means an opening, and is sound.
pub model_fresh : (m : Meaning) → model m fresh ≡ opening m
unfolding fresh
model_fresh m = λ i. record {
  table = m;
  clients = (fun_ext (all_alike (λ r. r.state) (record { state = Idle; slots = replicate 32 None }) nobody refl 16)) i;
  locks = (fun_ext (all_alike (λ r. lock_in r.slots) (record { state = Idle; slots = replicate 32 None }) nobody refl 16)) i;
  marked = (fun_ext (all_alike (λ x. x.marked) blank blank refl 256)) i;
  second = (fun_ext (all_alike (λ x. x.second) blank blank refl 256)) i;
  ties = (fun_ext (all_alike {X = Option Element} (λ x. x) None None refl 64)) i;
}

pub sound_fresh : Sound fresh
unfolding fresh
sound_fresh =
    record {
      sized = record { clients = refl; cells = refl; ties = refl };
      counted =
          record {
            slots = λ c l. ap (λ r. length r.slots) (get_or-replicate 16 c (record { state = Idle; slots = replicate 32 None }) nobody l);
            once = λ c e. omega (arith, all_alike (λ r. locks_on r.slots e) (record { state = Idle; slots = replicate 32 None }) nobody refl 16 c);
            holders = λ e. all_alike (λ x. x.holders) blank blank refl 256 e;
          };
    }
