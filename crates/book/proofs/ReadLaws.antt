-- What is read of the book, by what is known of it.
use Rattle.std.proofs.Common.{◌≡◌, ℕ, ◌<◌, ◌≤◌, Bool, true, ltb, length, is_some, is_none, Some, None, Option, sym, ap, ◌∙◌, ⊎_elim, arith}
use Rattle.std.specs.List.{position}
use Rattle.std.proofs.lemmas.Bool.{cases_lt}
use Rattle.std.proofs.lemmas.List.{get_or_past}
use Rattle.std.proofs.lemmas.List.Quantifiers.{position-Some}
use Rattle.rules.specs.Scans.{count_below, first_below}
use Rattle.rules.specs.Calls.{is_left}
use Rattle.inner.specs.declared.slots.Held.{Held}
use Rattle.inner.specs.declared.whole.Inner.{Inner}
use Rattle.inner.specs.Slots.{lock_in, locks_on, in_use, lowest_left}
use Rattle.inner.specs.Whole.{nobody, client_of}
use Rattle.inner.proofs.ScanLaws.{count_none}
use Rattle.inner.proofs.SlotLaws.{elements_in_use, free_room}
use Rattle.inner.proofs.LeftLaws.{lowest_is_first}
use Rattle.book.specs.declared.keeping.Book.{Book}
use Rattle.book.specs.Sound.{Sound}
use Rattle.book.specs.Requests.{lock_total}
use Rattle.book.proofs.SoundLaws.{within_cells}

pub sound_of : (b : Book) → Sound b.inner
sound_of b = record { sized = b.sized; counted = b.counted }

module _ (n : Inner) (sound : Sound n) where
  pub past_clients : (c : ℕ) → 16 ≤ c → nobody ≡ client_of n c
  past_clients c l = sym (get_or_past n.clients c nobody (omega (arith, sound.sized.clients)))

  -- Whoever has a slot is a client, and it is one of 32.
  pub place_known : (p : Option Held → Bool) (c place : ℕ) → position p (client_of n c).slots ≡ Some place → (c < 16) × (place < 32)
  place_known p c place is = ⊎_elim (λ l. (l, omega (arith, inside, sound.counted.slots c l))) (λ l. absurd (omega (arith, inside, ap (λ r. length r.slots) (past_clients c l)))) (cases_lt c 16)
    where
      inside : place < length (client_of n c).slots
      inside = (position-Some p (client_of n c).slots place None is).0

  module _ (c : ℕ) where
    within : (e : ℕ) → 0 < locks_on (client_of n c).slots e → e < 256
    within e h = omega (arith, within_cells n sound c e h, sound.sized.cells)

    -- There is a free slot exactly if the client has fewer than 32 locks.
    pub room_left : c < 16 → is_some (position is_none (client_of n c).slots) ≡ ltb (lock_total n c) 32
    room_left l =
        free_room (client_of n c).slots ∙ ap (ltb (in_use (client_of n c).slots)) (sound.counted.slots c l)
        ∙ ap (λ k. ltb k 32) (sym (elements_in_use (client_of n c).slots 256 (sound.counted.once c) within))

    pub left_first : lowest_left (client_of n c).slots ≡ first_below 256 (λ e. is_left (lock_in (client_of n c).slots e))
    left_first = sym (lowest_is_first (client_of n c).slots (sound.counted.once c))

    -- Who is no client has no lock.
    pub room_past : nobody ≡ client_of n c → ltb (lock_total n c) 32 ≡ true
    room_past e = ap (λ r. ltb (count_below 256 (λ e. is_some (lock_in r.slots e))) 32) (sym e) ∙ ap (λ k. ltb k 32) (count_none 256)
