-- The changes of the book: each keeps it sound and is one of the rules' changes.
use Rattle.std.proofs.Common.{◌≡◌, ℕ, suc, ◌<◌, ◌≤◌, true, false, cond, ◌||◌, eqb, ltb, List, [], ◌∷◌, length, get_or, ℤ, is_some, is_none, Some, None, Option, sym, refl, ap, ◌∙◌, subst, arith}
use Rattle.std.specs.List.{position}
use Rattle.std.proofs.lemmas.Bool.{eqb-true}
use Rattle.std.proofs.lemmas.List.Quantifiers.{position-Some}
use Rattle.plant.specs.Meaning.{Meaning, number}
use Rattle.rules.specs.State.{is_write}
use Rattle.rules.specs.Locking.{gain, granted_lock, mark_after}
use Rattle.rules.specs.Calls.{with_lock}
use Rattle.rules.specs.declared.Lock.{Lock}
use Rattle.rules.specs.declared.LockKind.{LockKind}
use Rattle.inner.specs.declared.slots.Held.{Held}
use Rattle.inner.specs.declared.slots.ClientRecord.{ClientRecord}
use Rattle.inner.specs.declared.cells.Cell.{Cell}
use Rattle.inner.specs.declared.whole.Inner.{Inner}
use Rattle.inner.specs.Slots.{on, lock_in, locks_on}
use Rattle.inner.specs.Cells.{gained, raised}
use Rattle.inner.specs.Whole.{nobody, client_of, cell_of, tie_of, with_cell, with_slot}
use Rattle.inner.proofs.SlotLaws.{lock_missing, on_one, nowhere_on}
use Rattle.book.specs.Sound.{all_locks, Sized, Counted, Sound}
use Rattle.book.specs.Model.{model}
use Rattle.book.specs.Requests.{finds_room, lock_total}
use Rattle.book.specs.declared.requests.Request.{Request}
use Rattle.book.proofs.ReadLaws.{place_known, room_left}
use Rattle.book.proofs.SoundLaws.{sound_slot, sound_gain, sound_raise}
use Rattle.book.proofs.ModelLaws.{slot_locks, slot_clients, model_grant, mark_new}

-- What is owed of a changed book, from what it was changed to.
pub owed : (n after : Inner) → n ≡ after → Sound after → record { sized : Sized n; counted : Counted n }
owed n after e sound = let s = subst Sound (sym e) sound in record { sized = s.sized; counted = s.counted }

-- There are at most as many locks on an element as clients.
few_locks : (rs : List ClientRecord) (e : ℕ) → ((c : ℕ) → locks_on (get_or rs c nobody).slots e ≤ 1) → all_locks rs e ≤ length rs
few_locks [] e once = omega arith
few_locks (r ∷ rs) e once = let h = few_locks rs e (λ c. once (suc c)) in omega (arith, once 0)

pub few_holders : (n : Inner) → Sound n → (e : ℕ) → (cell_of n e).holders < 65535
few_holders n sound e = omega (arith, few_locks n.clients e (λ c. sound.counted.once c e), sound.counted.holders e, sound.sized.clients)

-- Where an element has a lock, there is a place on it.
pub place_there : (slots : List (Option Held)) (e : ℕ) → is_some (lock_in slots e) ≡ true → position (λ s. on s e) slots ≡ None → ⊥
place_there slots e held none = let h = lock_missing slots e none in absurd (cc (held, ap is_some h))

-- A slot on an element is on another number exactly if that is the element.
on_same : (s : Option Held) (e : ℕ) → on s e ≡ true → (q : ℕ) → eqb e q ≡ on s q
on_same None e t q = cc
on_same (Some h) e t q = ap (λ k. eqb k q) (sym (eqb-true h.element.0 e t))

module _ (n : Inner) (sound : Sound n) (c : ℕ) (new : Held) (place : ℕ) where
  -- A lock takes the place of another on its element.
  module _ (is : position (λ s. on s new.element.0) (client_of n c).slots ≡ Some place) where
    known : (c < 16) × (place < 32)
    known = place_known n sound (λ s. on s new.element.0) c place is

    first : (place < length (client_of n c).slots) × (on (get_or (client_of n c).slots place None) new.element.0 ≡ true) × ((k : ℕ) → k < place → on (get_or (client_of n c).slots k None) new.element.0 ≡ false)
    first = position-Some (λ s. on s new.element.0) (client_of n c).slots place None is

    others : (q : ℕ) → (q ≡ new.element.0 → ⊥) → on (get_or (client_of n c).slots place None) q ≡ false
    others q ne = on_one (get_or (client_of n c).slots place None) new.element.0 q first.1 ne

    pub other_sound : Sound (with_slot n c place (Some new))
    other_sound = sound_slot n sound c place new known.0 known.1 (on_same (get_or (client_of n c).slots place None) new.element.0 first.1)

    pub other_model : (m : Meaning) → model m (with_slot n c place (Some new)) ≡ with_lock (model m n) c new.element.0 new.lock
    other_model m = λ j. record {
      table = m;
      clients = slot_clients m n c place new j;
      locks = slot_locks m n c place new (omega (arith, known.0, sound.sized.clients)) first.0 first.2 others j;
      marked = λ e. (cell_of n e).marked;
      second = λ e. (cell_of n e).second;
      ties = λ p. tie_of n p;
    }

    -- A reader gains the write lock.
    module _ (kind : LockKind) (v : ℤ) where
      pub raise_sound : Sound (with_cell (with_slot n c place (Some new)) new.element.0 (raised (cell_of n new.element.0) kind v))
      raise_sound = sound_raise n sound c place new (raised (cell_of n new.element.0) kind v) known.0 known.1 (on_same (get_or (client_of n c).slots place None) new.element.0 first.1) refl

      pub raise_model : (was : Lock) → new.element.0 < 256 → lock_in (client_of n c).slots new.element.0 ≡ Some was →
          new.lock ≡ record { copy = was.copy; kind = kind; changed = was.changed; taken = was.taken } → (m : Meaning) → number m new.element.0 ≡ v →
          model m (with_cell (with_slot n c place (Some new)) new.element.0 (raised (cell_of n new.element.0) kind v)) ≡ gain c kind new.element.0 (model m n)
      raise_model was le h lock m num =
          model_grant m n sound c place new kind (raised (cell_of n new.element.0) kind v) known.0 le first.0 first.2 others
          (lock ∙ ap (granted_lock (model m n) kind new.element.0) (sym h)) (ap (mark_after (model m n) c new.element.0) (sym h))
          (ap (λ w. cond (is_write kind) (Some w) (cell_of n new.element.0).second) (sym num))

  -- A new lock comes into a free slot.
  module _ (is : position is_none (client_of n c).slots ≡ Some place) (le : new.element.0 < 256) (none : lock_in (client_of n c).slots new.element.0 ≡ None) (kind : LockKind) (v : ℤ) where
    at_place : (c < 16) × (place < 32)
    at_place = place_known n sound is_none c place is

    unused : get_or (client_of n c).slots place None ≡ None
    unused = go (get_or (client_of n c).slots place None) (position-Some is_none (client_of n c).slots place None is).1
      where
        go : (s : Option Held) → is_none s ≡ true → s ≡ None
        go None t = refl
        go (Some h) t = absurd (cc)

    pub add_sound : Sound (with_cell (with_slot n c place (Some new)) new.element.0 (gained (cell_of n new.element.0) kind v))
    add_sound = sound_gain n sound c place new at_place.0 at_place.1 (gained (cell_of n new.element.0) kind v) le unused none refl

    pub add_model : new.lock ≡ record { copy = v; kind = kind; changed = false; taken = false } → (m : Meaning) → number m new.element.0 ≡ v →
        model m (with_cell (with_slot n c place (Some new)) new.element.0 (gained (cell_of n new.element.0) kind v)) ≡ gain c kind new.element.0 (model m n)
    add_model lock m num =
        model_grant m n sound c place new kind (gained (cell_of n new.element.0) kind v) at_place.0 le (position-Some is_none (client_of n c).slots place None is).0
        (λ k l. nowhere_on (client_of n c).slots new.element.0 none k) (λ q ne. ap (λ s. on s q) unused)
        (lock ∙ ap (λ w. record { copy = w; kind = kind; changed = false; taken = false }) (sym num) ∙ ap (granted_lock (model m n) kind new.element.0) (sym none))
        (mark_new m n sound c new.element.0 none) (ap (λ w. cond (is_write kind) (Some w) (cell_of n new.element.0).second) (sym num))

-- A lock that is new, with its copy; and one that was held, as it becomes.
abbrev pub new_held : Request → ℤ → Held
new_held r v = record { lock = record { kind = r.kind; copy = v; changed = false; taken = false }; element = r.element }

abbrev pub raised_held : Request → Lock → Held
raised_held r l = record { lock = record { kind = r.kind; copy = l.copy; changed = l.changed; taken = l.taken }; element = r.element }

-- A slot is set, and then a cell.
pub both_set : (n one two : Inner) (c i e : ℕ) (s : Option Held) (f : Cell → Cell) → one ≡ with_slot n c i s → two ≡ with_cell one e (f (cell_of one e)) →
    two ≡ with_cell (with_slot n c i s) e (f (cell_of n e))
both_set n one two c i e s f p q = q ∙ ap (λ x. with_cell x e (f (cell_of x e))) p

-- Where a lock that is not held finds room, there is a free place.
pub place_free : (n : Inner) → Sound n → (r : Request) → r.client.0 < 16 → lock_in (client_of n r.client.0).slots r.element.0 ≡ None → finds_room n r ≡ true →
    position is_none (client_of n r.client.0).slots ≡ None → ⊥
place_free n sound r l none room full =
    let left : ltb (lock_total n r.client.0) 32 ≡ true = ap (λ o. is_some o || ltb (lock_total n r.client.0) 32) (sym none) ∙ room in
    absurd (cc (ap is_some full, room_left n sound r.client.0 l, left))
