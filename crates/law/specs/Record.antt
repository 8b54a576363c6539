-- The record of a history: who is in which state and holds what, what is marked, which pointer is tied
-- where. It is kept by calls and answers alone: it knows no numbers, no working copies and no ranks.
use Rattle.std.specs.Prelude.{ℕ, Bool, true, false, cond, not, ◌&&◌, ◌||◌, [], ◌∷◌, length, is_some, Some, None, Option, ◌==◌, nat_eq}
use Rattle.plant.specs.declared.tables.Element.{Element}
use Rattle.rules.specs.Scans.{at, some_below}
use Rattle.rules.specs.State.{is_write}
use Rattle.rules.specs.Locking.{kinds_conflict}
use Rattle.rules.specs.declared.ClientState.{ClientState}
use Rattle.rules.specs.declared.ClientState.TheVariants.{Idle, Executing, Committing, ThrownOut}
use Rattle.rules.specs.declared.LockKind.{LockKind}
use Rattle.rules.specs.declared.LockKind.TheVariants.{Read, Write}
use Rattle.rules.specs.declared.Call.{Call}
use Rattle.rules.specs.declared.Call.TheVariants.{Begin, Lock, Read as Reads, Change, Commit, WriteBack, End, GiveUp, Clear, Bind, Remove, HardRead, HardWrite}
use Rattle.rules.specs.declared.Answer.{Answer}
use Rattle.law.specs.History.{History, is_done, is_lost}

-- A transaction is named by the moment of its begin: that of a client's latest one stands in begun.
pub record Record : Type 0 where
  pub clients : ℕ → ClientState
  pub begun : ℕ → ℕ
  pub kinds : ℕ → ℕ → Option LockKind
  pub marked : ℕ → Bool
  pub ties : ℕ → Option Element

-- Before the first call.
abbrev pub blank : Record
blank = record { clients = λ c. Idle; begun = λ c. 0; kinds = λ c e. None; marked = λ e. false; ties = λ p. None }

-- Whether a client holds an element; whether anybody does; whether anybody holds it for writing.
abbrev pub holding : Record → ℕ → ℕ → Bool
holding r c e = is_some (r.kinds c e)

abbrev pub is_locked : Record → ℕ → Bool
is_locked r e = some_below 16 (λ c. holding r c e)

abbrev pub kind_writes : Option LockKind → Bool
kind_writes None = false
kind_writes (Some kind) = is_write kind

abbrev pub is_write_locked : Record → ℕ → Bool
is_write_locked r e = some_below 16 (λ c. kind_writes (r.kinds c e))

abbrev pub is_open : ClientState → Bool
is_open Idle = false
is_open Executing = true
is_open Committing = true
is_open ThrownOut = false

-- A held kind covers a request if it is the same, or for writing.
abbrev pub kind_covers : Option LockKind → LockKind → Bool
kind_covers None asked = false
kind_covers (Some held) Read = true
kind_covers (Some held) Write = is_write held

-- Who is thrown out by a granted lock follows from the answer: every other holder that conflicts.
abbrev pub kind_conflicts : Bool → LockKind → Option LockKind → Bool
kind_conflicts mark asked None = false
kind_conflicts mark asked (Some held) = kinds_conflict mark asked held

abbrev pub in_conflict : Record → ℕ → LockKind → ℕ → ℕ → Bool
in_conflict r c kind e d = not (d == c) && kind_conflicts (r.marked e) kind (r.kinds d e)

-- A client comes into another state and keeps what it holds.
abbrev pub in_state : ℕ → ClientState → Record → Record
in_state c after r = record { clients = at r.clients c after; begun = r.begun; kinds = r.kinds; marked = r.marked; ties = r.ties }

-- A transaction begins.
abbrev pub begins_at : ℕ → ℕ → Record → Record
begins_at moment c r =
    record { clients = at r.clients c Executing; begun = at r.begun c moment; kinds = r.kinds; marked = r.marked; ties = r.ties }

-- The clients of a set are gone: they come into one state and hold nothing.
abbrev pub gone : (ℕ → Bool) → ClientState → Record → Record
gone those after r =
    record {
      clients = λ d. cond (those d) after (r.clients d);
      begun = r.begun;
      kinds = λ d e. cond (those d) None (r.kinds d e);
      marked = r.marked;
      ties = r.ties;
    }

-- A mark goes with a new lock if nobody else then holds the element; a reader that gains the write lock
-- leaves it.
abbrev pub mark_kept : Record → ℕ → ℕ → Option LockKind → Bool
mark_kept r c e None = r.marked e && some_below 16 (λ d. not (d == c) && holding r d e)
mark_kept r c e (Some held) = r.marked e

abbrev pub gains : ℕ → LockKind → ℕ → Record → Record
gains c kind e r =
    record {
      clients = r.clients;
      begun = r.begun;
      kinds = at r.kinds c (at (r.kinds c) e (Some kind));
      marked = at r.marked e (mark_kept r c e (r.kinds c e));
      ties = r.ties;
    }

-- A granted lock.
abbrev pub granted : ℕ → LockKind → ℕ → Record → Record
granted c kind e r =
    cond (kind_covers (r.kinds c e) kind) r (gains c kind e (gone (λ d. in_conflict r c kind e d) ThrownOut r))

-- A hard write marks its element if it is locked.
abbrev pub marks : Option Element → Record → Record
marks None r = r
marks (Some e) r =
    record { clients = r.clients; begun = r.begun; kinds = r.kinds; marked = at r.marked e.0 (r.marked e.0 || is_locked r e.0); ties = r.ties }

abbrev pub tied : ℕ → Option Element → Record → Record
tied p tie r = record { clients = r.clients; begun = r.begun; kinds = r.kinds; marked = r.marked; ties = at r.ties p tie }

-- One more event, at its moment.
abbrev pub noted : {K : Type 0} → ℕ → Call K → Answer → Record → Record
noted moment (Begin c k) a r = cond (is_done a) (begins_at moment c.0 r) r
noted moment (Lock c kind e) a r =
    cond (is_done a) (granted c.0 kind e.0 r) (cond (is_lost a) (gone (λ d. nat_eq d c.0) ThrownOut r) r)
noted moment (Reads c e) a r = r
noted moment (Change c e v) a r = r
noted moment (Commit c) a r = cond (is_done a) (in_state c.0 Committing r) r
noted moment (WriteBack c) a r = r
noted moment (End c) a r = cond (is_done a) (gone (λ d. nat_eq d c.0) Idle r) r
noted moment (GiveUp c) a r = cond (is_done a) (gone (λ d. nat_eq d c.0) Idle r) r
noted moment (Clear c) a r = cond (is_done a) (in_state c.0 Idle r) r
noted moment (Bind p e) a r = cond (is_done a) (tied p.0 (Some e) r) r
noted moment (Remove p) a r = cond (is_done a) (tied p.0 None r) r
noted moment (HardRead p) a r = r
noted moment (HardWrite p v) a r = cond (is_done a) (marks (r.ties p.0) r) r

-- The record of a history.
abbrev pub record_of : {K : Type 0} → History K → Record
record_of [] = blank
record_of (x ∷ h) = noted (length h) x.call x.answer (record_of h)
