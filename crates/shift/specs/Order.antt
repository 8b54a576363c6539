-- What the order of a log goes by.
use Rattle.std.specs.Prelude.{◌≡◌, ◌⊎◌, ℤ}
use Rattle.std.specs.declared.cmp.Ordering.{Ordering}
use Rattle.std.specs.Ordering.{nat_cmp, bool_cmp, ordering_then}
use Rattle.ranks.specs.declared.Grade.{Grade}
use Rattle.rules.specs.declared.Pointer.{Pointer}
use Rattle.rules.specs.declared.Call.{Call}
use Rattle.rules.specs.declared.Call.TheVariants.{HardRead, HardWrite}
use Rattle.shift.specs.declared.order.Place.{Place}

-- The call is a hard access through the pointer.
abbrev pub IsHardAccess : Call Grade → Pointer → Type 0
IsHardAccess call p = (call ≡ HardRead p) ⊎ ((v : ℤ) × (call ≡ HardWrite p v))

-- The earlier moment comes first, and at one moment what happened then before what stands behind it.
abbrev pub place_cmp : Place → Place → Ordering
place_cmp a b = ordering_then (nat_cmp a.moment b.moment) (bool_cmp a.is_behind b.is_behind)
