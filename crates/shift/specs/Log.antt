-- What a log is.
use Rattle.std.specs.Prelude.{◌≡◌, ℕ, List, Some, slice_get}
use Rattle.shift.specs.declared.record.Event.{Event}

-- The moment of each event is its place in the list.
abbrev pub IsLog : List Event → Type 0
IsLog events = (place : ℕ) (event : Event) → slice_get events place ≡ Some event → event.moment ≡ place
