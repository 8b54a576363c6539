-- Locks: who conflicts with whom, what a client loses when it leaves, what it gains with a lock.
use Rattle.std.specs.Prelude.{ℕ, Bool, true, false, cond, not, ◌&&◌, ◌||◌, Some, None, Option, ◌==◌}
use Rattle.plant.specs.Meaning.{number}
use Rattle.rules.specs.Scans.{at, some_below, count_below}
use Rattle.rules.specs.State.{State, is_write, holds, holds_for_writing}
use Rattle.rules.specs.declared.ClientState.{ClientState}
use Rattle.rules.specs.declared.LockKind.{LockKind}
use Rattle.rules.specs.declared.LockKind.TheVariants.{Read, Write}
use Rattle.rules.specs.declared.Lock.{Lock}

-- Whether a lock of one kind conflicts with a request of another. Two read locks share an element that has
-- no mark; any other two conflict.
abbrev pub kinds_conflict : Bool → LockKind → LockKind → Bool
kinds_conflict mark asked held = is_write asked || is_write held || mark

-- The same of a lock that may not be there.
abbrev pub lock_conflicts : Bool → LockKind → Option Lock → Bool
lock_conflicts mark asked None = false
lock_conflicts mark asked (Some l) = kinds_conflict mark asked l.kind

-- Whether the client d holds the element e in conflict with a request of the client c.
abbrev pub conflicts : State → ℕ → LockKind → ℕ → ℕ → Bool
conflicts s c kind e d = not (d == c) && lock_conflicts (s.marked e) kind (s.locks d e)

-- Whether a lock that may be there covers a request: it is of that kind, or for writing.
abbrev pub covers : Option Lock → LockKind → Bool
covers None kind = false
covers (Some l) Read = true
covers (Some l) Write = is_write l.kind

-- How many locks a client holds.
abbrev pub lock_count : State → ℕ → ℕ
lock_count s c = count_below 256 (λ e. holds s c e)

-- The clients of a set lose all their locks and working copies and come into one state; the second
-- versions of what they held for writing go too. The table and the marks are left.
abbrev pub leave : (ℕ → Bool) → ClientState → State → State
leave those after s =
    record {
      table = s.table;
      clients = λ d. cond (those d) after (s.clients d);
      locks = λ d e. cond (those d) None (s.locks d e);
      marked = s.marked;
      second = λ e. cond (some_below 16 (λ d. those d && holds_for_writing s d e)) None (s.second e);
      ties = s.ties;
    }

-- The lock that a client has after a grant: a new one takes the table's number as its working copy; a
-- reader that gains the write lock keeps its copy.
abbrev pub granted_lock : State → LockKind → ℕ → Option Lock → Lock
granted_lock s kind e None = record { kind = kind; copy = number s.table e; changed = false; taken = false }
granted_lock s kind e (Some l) = record { kind = kind; copy = l.copy; changed = l.changed; taken = l.taken }

-- The mark after a grant: a new lock clears it if nobody else holds the element; a reader that gains the
-- write lock keeps it.
abbrev pub mark_after : State → ℕ → ℕ → Option Lock → Bool
mark_after s c e None = s.marked e && some_below 16 (λ d. not (d == c) && holds s d e)
mark_after s c e (Some l) = s.marked e

-- The client gains the lock. For writing, the element also takes the table's number as its second version.
abbrev pub gain : ℕ → LockKind → ℕ → State → State
gain c kind e s =
    record {
      table = s.table;
      clients = s.clients;
      locks = at s.locks c (at (s.locks c) e (Some (granted_lock s kind e (s.locks c e))));
      marked = at s.marked e (mark_after s c e (s.locks c e));
      second = cond (is_write kind) (at s.second e (Some (number s.table e))) s.second;
      ties = s.ties;
    }
