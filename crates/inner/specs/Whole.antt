-- The inner struct as a whole: its parts by number, and what its operations leave.
use Rattle.std.specs.Prelude.{ℕ, List, [], replicate, None, Option, slice_index_or, slice_set}
use Rattle.plant.specs.declared.tables.Element.{Element}
use Rattle.rules.specs.declared.ClientState.{ClientState}
use Rattle.rules.specs.declared.ClientState.TheVariants.{Idle}
use Rattle.inner.specs.declared.slots.Held.{Held}
use Rattle.inner.specs.declared.slots.ClientRecord.{ClientRecord}
use Rattle.inner.specs.declared.cells.Cell.{Cell}
use Rattle.inner.specs.declared.whole.Inner.{Inner}
use Rattle.inner.specs.Cells.{blank, release_slots}

-- What is read of a client number that is none.
abbrev pub nobody : ClientRecord
nobody = record { state = Idle; slots = [] }

-- A client's record, an element's cell, a pointer's tie.
abbrev pub client_of : Inner → ℕ → ClientRecord
client_of n c = slice_index_or n.clients c nobody

abbrev pub cell_of : Inner → ℕ → Cell
cell_of n e = slice_index_or n.cells e blank

abbrev pub tie_of : Inner → ℕ → Option Element
tie_of n p = slice_index_or n.ties p None

-- 32 free slots.
unfoldable pub no_locks : List (Option Held)
no_locks = replicate 32 None

-- A new inner struct: all clients idle with no locks, all cells blank, no pointer tied.
unfoldable pub fresh : Inner
fresh =
    record {
      clients = replicate 16 (record { state = Idle; slots = replicate 32 None });
      cells = replicate 256 blank;
      ties = replicate 64 None;
    }

-- One client's record set; one cell set; one tie set.
abbrev pub with_record : Inner → ℕ → ClientRecord → Inner
with_record n c r = record { clients = slice_set n.clients c r; cells = n.cells; ties = n.ties }

abbrev pub with_cell : Inner → ℕ → Cell → Inner
with_cell n e x = record { clients = n.clients; cells = slice_set n.cells e x; ties = n.ties }

abbrev pub with_tied : Inner → ℕ → Option Element → Inner
with_tied n p t = record { clients = n.clients; cells = n.cells; ties = slice_set n.ties p t }

-- A client comes into a state.
abbrev pub entered_state : Inner → ℕ → ClientState → Inner
entered_state n c after = with_record n c (record { state = after; slots = (client_of n c).slots })

-- One slot of a client set.
abbrev pub with_slot : Inner → ℕ → ℕ → Option Held → Inner
with_slot n c i s = with_record n c (record { state = (client_of n c).state; slots = slice_set (client_of n c).slots i s })

-- A client loses all its locks and comes into a state.
abbrev pub left : Inner → ℕ → ClientState → Inner
left n c after =
    record {
      clients = slice_set n.clients c (record { state = after; slots = no_locks });
      cells = release_slots n.cells (client_of n c).slots;
      ties = n.ties;
    }
