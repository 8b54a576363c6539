-- Requests for a lock, as they are read from the inner struct.
use Rattle.std.specs.Prelude.{◌≡◌, ℕ, Bool, not, ◌&&◌, ◌||◌, ℤ, is_some, Some, Ok, Err, Result, nat_lt, position, ◌==◌}
use Rattle.plant.specs.Meaning.{Meaning, number}
use Rattle.plant.specs.declared.refusals.Refusal.{Refusal}
use Rattle.rules.specs.declared.ClientState.{ClientState}
use Rattle.rules.specs.Scans.{count_below}
use Rattle.rules.specs.Locking.{lock_conflicts, gain}
use Rattle.inner.specs.declared.slots.Held.{Held}
use Rattle.inner.specs.declared.whole.Inner.{Inner}
use Rattle.inner.specs.Slots.{on, lock_in}
use Rattle.inner.specs.Whole.{client_of, cell_of, with_slot}
use Rattle.book.specs.Model.{model}
use Rattle.book.specs.declared.requests.Request.{Request}
use Rattle.inner.specs.declared.known.Turn.{Turn}

-- The state to which a call leads, or its refusal.
abbrev pub state_after : Result Turn Refusal → Result ClientState Refusal
state_after (Ok t) = Ok t.after
state_after (Err r) = Err r

-- Whether the client d holds the element in conflict with the request of another client: the rules' conflict,
-- at the state that the inner struct means.
abbrev pub blocks : Inner → Request → ℕ → Bool
blocks n r d = not (d == r.client.0) && lock_conflicts (cell_of n r.element.0).marked r.kind (lock_in (client_of n d).slots r.element.0)

-- How many locks a client has.
abbrev pub lock_total : Inner → ℕ → ℕ
lock_total n c = count_below 256 (λ e. is_some (lock_in (client_of n c).slots e))

-- Whether the client holds the element already, or has room for one lock more.
abbrev pub finds_room : Inner → Request → Bool
finds_room n r = is_some (lock_in (client_of n r.client.0).slots r.element.0) || nat_lt (lock_total n r.client.0) 32

-- The request is granted, with any table that has this number there.
abbrev pub Grants : Inner → Inner → Request → ℤ → Type 0
Grants old new r found = (m : Meaning) → number m r.element.0 ≡ found → model m new ≡ gain r.client.0 r.kind r.element.0 (model m old)

-- The lock takes the place of the first that the client holds on its element.
abbrev pub Replaces : Inner → Inner → ℕ → Held → Type 0
Replaces old new c h = (place : ℕ) × (position (λ s. on s h.element.0) (client_of old c).slots ≡ Some place) × (new ≡ with_slot old c place (Some h))
