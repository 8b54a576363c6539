-- What the cells hold of each element beside the table's number.
use Rattle.std.specs.Prelude.{◌+◌, ◌-◌, false, cond, ◌&&◌, ◌||◌, List, [], ◌∷◌, ℤ, Some, None, Option, nat_lt, slice_index_or, slice_set}
use Rattle.std.specs.Option.{option_map}
use Rattle.rules.specs.State.{is_write}
use Rattle.rules.specs.declared.LockKind.{LockKind}
use Rattle.inner.specs.declared.slots.Held.{Held}
use Rattle.inner.specs.declared.cells.Cell.{Cell}

-- A cell that nothing was done to.
abbrev pub blank : Cell
blank = record { second = None; holders = 0; marked = false }

-- A cell after a hard write: marked if it is locked, and a second version becomes the number.
abbrev pub written_hard : Cell → ℤ → Cell
written_hard c v = record { second = option_map (λ old. v) c.second; holders = c.holders; marked = c.marked || nat_lt 0 c.holders }

-- A cell after one lock on it is gone: a write lock takes the second version with it.
abbrev pub released : Cell → LockKind → Cell
released c kind = record { second = cond (is_write kind) None c.second; holders = c.holders - 1; marked = c.marked }

-- A cell that gains a new lock: the mark goes if nobody held it.
abbrev pub gained : Cell → LockKind → ℤ → Cell
gained c kind v = record { second = cond (is_write kind) (Some v) c.second; holders = c.holders + 1; marked = c.marked && nat_lt 0 c.holders }

-- A cell whose reader gains the write lock: all but the second version stays.
abbrev pub raised : Cell → LockKind → ℤ → Cell
raised c kind v = record { second = cond (is_write kind) (Some v) c.second; holders = c.holders; marked = c.marked }

-- The cells after one slot was given up.
abbrev pub release_slot : List Cell → Option Held → List Cell
release_slot cells None = cells
release_slot cells (Some h) = slice_set cells h.element.0 (released (slice_index_or cells h.element.0 blank) h.lock.kind)

-- The cells after all slots were given up.
abbrev pub release_slots : List Cell → List (Option Held) → List Cell
release_slots cells [] = cells
release_slots cells (s ∷ ss) = release_slots (release_slot cells s) ss
