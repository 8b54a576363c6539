-- One client's locks, as they lie in its slots.
use Rattle.std.specs.Prelude.{ℕ, ◌+◌, min, Bool, false, cond, not, ◌&&◌, List, [], ◌∷◌, Some, None, Option, ◌==◌, nat_lt}
use Rattle.std.specs.List.{filter_map, reduce}
use Rattle.rules.specs.declared.Lock.{Lock}
use Rattle.inner.specs.declared.slots.Held.{Held}

-- Whether a slot holds a lock on this element.
abbrev pub on : Option Held → ℕ → Bool
on None e = false
on (Some h) e = h.element.0 == e

-- The lock on an element: that of the first slot on it.
abbrev pub lock_in : List (Option Held) → ℕ → Option Lock
lock_in [] e = None
lock_in (None ∷ ss) e = lock_in ss e
lock_in (Some h ∷ ss) e = cond (h.element.0 == e) (Some h.lock) (lock_in ss e)

-- How many slots hold a lock on an element.
abbrev pub locks_on : List (Option Held) → ℕ → ℕ
locks_on [] e = 0
locks_on (s ∷ ss) e = cond (on s e) 1 0 + locks_on ss e

-- How many slots are in use.
abbrev pub in_use : List (Option Held) → ℕ
in_use [] = 0
in_use (None ∷ ss) = in_use ss
in_use (Some h ∷ ss) = 1 + in_use ss

-- The element of a slot that holds a changed lock that has not been taken for write back. Numbers from 256 on are passed over.
abbrev pub left_element : Option Held → Option ℕ
left_element None = None
left_element (Some h) = cond ((h.lock.changed && not h.lock.taken) && nat_lt h.element.0 256) (Some h.element.0) None

-- The lowest of the elements that are left for write back.
abbrev pub lowest_left : List (Option Held) → Option ℕ
lowest_left slots = reduce min (filter_map left_element slots)
