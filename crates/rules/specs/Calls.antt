-- What each call answers and leaves. A refused call leaves all as it was.
use Rattle.std.specs.Prelude.{ℕ, Bool, true, false, cond, not, ◌&&◌, ◌||◌, List, length, ℤ, is_some, Some, None, Ok, Err, Option, Result, nat_eq, nat_lt}
use Rattle.std.specs.Option.{option_map}
use Rattle.plant.specs.Meaning.{has, within, get_answer, put_answer, put_meaning}
use Rattle.plant.specs.declared.refusals.Refusal.{Refusal}
use Rattle.plant.specs.declared.refusals.Refusal.TheVariants.{PointerOutOfRange, PointerNotBound, NumberOutsideLimits, PointerAlreadyBound, NoSuchElement, ClientOutOfRange, NoLock, TooManyLocks, RankListTooShort, WriteBacksLeft, NoWriteBackLeft}
use Rattle.plant.specs.declared.tables.Element.{Element}
use Rattle.ranks.specs.Standing.{stands_above}
use Rattle.rules.specs.Scans.{at, some_below, first_below}
use Rattle.rules.specs.States.{met}
use Rattle.rules.specs.State.{State, for_writing, locked, is_committing}
use Rattle.rules.specs.Locking.{conflicts, covers, lock_count, leave, gain}
use Rattle.rules.specs.declared.ClientState.{ClientState}
use Rattle.rules.specs.declared.ClientState.TheVariants.{ThrownOut}
use Rattle.rules.specs.declared.LockKind.{LockKind}
use Rattle.rules.specs.declared.Lock.{Lock}
use Rattle.rules.specs.declared.Fate.TheVariants.{Written, Dropped}
use Rattle.rules.specs.declared.Move.{Move}
use Rattle.rules.specs.declared.Move.TheVariants.{Begin, Lock as Locks, Read, Change, Commit, GiveUp, WriteBack, End, Clear}
use Rattle.rules.specs.declared.Answer.{Answer}
use Rattle.rules.specs.declared.Answer.TheVariants.{Done, Number, WroteBack, Wait, Lost, Refused}

-- What a call comes to: the state that it leaves, and its answer.
pub record Outcome : Type 0 where
  pub state : State
  pub answer : Answer

abbrev pub answered : State → Answer → Outcome
answered s a = record { state = s; answer = a }

-- A refused call leaves the state as it was.
abbrev pub refused : State → Refusal → Outcome
refused s r = answered s (Refused r)

-- A check: refused if it fails, else what follows.
abbrev pub check : Bool → Refusal → State → Outcome → Outcome
check ok r s then = cond ok then (refused s r)

-- How a client's state meets a call: refused, or on with the state that the call leads to.
abbrev pub by_state : Result ClientState Refusal → State → (ClientState → Outcome) → Outcome
by_state (Ok after) s then = then after
by_state (Err r) s then = refused s r

-- Every call of a client begins so: first whether there is such a client, then its state.
abbrev pub as_client : State → ℕ → Move → (ClientState → Outcome) → Outcome
as_client s c move then = check (nat_lt c 16) ClientOutOfRange s (by_state (met (s.clients c) move) s then)

-- The state with one client's state set.
abbrev pub with_client : State → ℕ → ClientState → State
with_client s c after =
    record { table = s.table; clients = at s.clients c after; locks = s.locks; marked = s.marked; second = s.second; ties = s.ties }

-- The state with one lock set.
abbrev pub with_lock : State → ℕ → ℕ → Lock → State
with_lock s c e l =
    record { table = s.table; clients = s.clients; locks = at s.locks c (at (s.locks c) e (Some l)); marked = s.marked; second = s.second; ties = s.ties }

-- Begin. The rank list is looked at before the client's state.
abbrev pub begin_call : State → ℕ → ℕ → Outcome
begin_call s entries c =
    check (nat_lt c 16) ClientOutOfRange s
    (check (not (nat_lt entries 16)) RankListTooShort s
    (by_state (met (s.clients c) Begin) s (λ after. answered (with_client s c after) Done)))

-- The four steps of a lock that is not refused before them. One: the client's own lock covers the request.
-- Two: it is lost to a conflicting holder that stands above. Three: it waits for a conflicting holder that is
-- committing. Four: it is granted, and those in conflict are thrown out. A 33rd lock is refused after the first.
abbrev pub lock_steps : {K : Type 0} → (K → K → Bool) → List K → State → ℕ → LockKind → ℕ → Outcome
lock_steps above ranks s c kind e =
    cond (covers (s.locks c e) kind) (answered s Done)
    (check (is_some (s.locks c e) || nat_lt (lock_count s c) 32) TooManyLocks s
    (cond (some_below 16 (λ d. conflicts s c kind e d && stands_above above ranks d c)) (answered (leave (λ d. nat_eq d c) ThrownOut s) Lost)
    (cond (some_below 16 (λ d. conflicts s c kind e d && is_committing (s.clients d))) (answered s Wait)
    (answered (gain c kind e (leave (λ d. conflicts s c kind e d) ThrownOut s)) Done))))

-- Lock.
abbrev pub lock_call : {K : Type 0} → (K → K → Bool) → List K → State → ℕ → LockKind → ℕ → Outcome
lock_call above ranks s c kind e =
    check (nat_lt c 16) ClientOutOfRange s
    (check (not (nat_lt (length ranks) 16)) RankListTooShort s
    (by_state (met (s.clients c) Locks) s (λ after.
    check (has s.table e) NoSuchElement s
    (lock_steps above ranks s c kind e))))

-- Read answers the working copy.
abbrev pub read_lock : State → Option Lock → Outcome
read_lock s None = refused s NoLock
read_lock s (Some l) = answered s (Number l.copy)

abbrev pub read_call : State → ℕ → ℕ → Outcome
read_call s c e = as_client s c Read (λ after. check (has s.table e) NoSuchElement s (read_lock s (s.locks c e)))

-- Change sets the working copy and notes it as changed. It needs a write lock.
abbrev pub changed_lock : Lock → ℤ → Lock
changed_lock l v = record { kind = l.kind; copy = v; changed = true; taken = l.taken }

abbrev pub change_lock : State → ℕ → ℕ → ℤ → Option Lock → Outcome
change_lock s c e v None = refused s NoLock
change_lock s c e v (Some l) = check (within s.table v) NumberOutsideLimits s (answered (with_lock s c e (changed_lock l v)) Done)

abbrev pub change_call : State → ℕ → ℕ → ℤ → Outcome
change_call s c e v =
    as_client s c Change (λ after.
    check (has s.table e) NoSuchElement s
    (check (for_writing (s.locks c e)) NoLock s
    (change_lock s c e v (s.locks c e))))

-- Commit enters the committing step.
abbrev pub commit_call : State → ℕ → Outcome
commit_call s c = as_client s c Commit (λ after. answered (with_client s c after) Done)

-- Whether a lock that may be there was changed and has not been taken for write back.
abbrev pub is_left : Option Lock → Bool
is_left None = false
is_left (Some l) = l.changed && not l.taken

-- The lowest-numbered changed element of a client that has not been taken.
abbrev pub next_left : State → ℕ → Option ℕ
next_left s c = first_below 256 (λ e. is_left (s.locks c e))

-- Write back of one element. A mark means that a hard write came later, so its number stays in the table;
-- otherwise the working copy goes there.
abbrev pub taken_lock : Lock → Lock
taken_lock l = record { kind = l.kind; copy = l.copy; changed = l.changed; taken = true }

abbrev pub with_table_number : State → ℕ → ℤ → State
with_table_number s e v =
    record { table = put_meaning s.table e v; clients = s.clients; locks = s.locks; marked = s.marked; second = s.second; ties = s.ties }

abbrev pub back_lock : State → ℕ → ℕ → Option Lock → Outcome
back_lock s c e None = refused s NoWriteBackLeft
back_lock s c e (Some l) =
    cond (s.marked e) (answered (with_lock s c e (taken_lock l)) (WroteBack (record { 0 = e }) Dropped))
    (answered (with_table_number (with_lock s c e (taken_lock l)) e l.copy) (WroteBack (record { 0 = e }) Written))

abbrev pub back_next : State → ℕ → Option ℕ → Outcome
back_next s c None = refused s NoWriteBackLeft
back_next s c (Some e) = back_lock s c e (s.locks c e)

-- Write back takes the lowest-numbered changed element that has not been taken.
abbrev pub write_back_call : State → ℕ → Outcome
write_back_call s c = as_client s c WriteBack (λ after. back_next s c (next_left s c))

-- End needs all changed elements taken, and drops all locks.
abbrev pub end_call : State → ℕ → Outcome
end_call s c =
    as_client s c End (λ after. check (not (is_some (next_left s c))) WriteBacksLeft s (answered (leave (λ d. nat_eq d c) after s) Done))

-- Give up drops all locks.
abbrev pub give_up_call : State → ℕ → Outcome
give_up_call s c = as_client s c GiveUp (λ after. answered (leave (λ d. nat_eq d c) after s) Done)

-- Clear.
abbrev pub clear_call : State → ℕ → Outcome
clear_call s c = as_client s c Clear (λ after. answered (with_client s c after) Done)

-- The state with one pointer's tie set.
abbrev pub with_tie : State → ℕ → Option Element → State
with_tie s p tie =
    record { table = s.table; clients = s.clients; locks = s.locks; marked = s.marked; second = s.second; ties = at s.ties p tie }

-- Bind ties a pointer that is not bound to an element.
abbrev pub bind_call : State → ℕ → Element → Outcome
bind_call s p e =
    check (nat_lt p 64) PointerOutOfRange s
    (check (not (is_some (s.ties p))) PointerAlreadyBound s
    (check (has s.table e.0) NoSuchElement s (answered (with_tie s p (Some e)) Done)))

-- What a call does through a pointer: refused where the pointer is not bound.
abbrev pub through : Option Element → State → (ℕ → Outcome) → Outcome
through None s then = refused s PointerNotBound
through (Some e) s then = then e.0

abbrev pub as_pointer : State → ℕ → (ℕ → Outcome) → Outcome
as_pointer s p then = check (nat_lt p 64) PointerOutOfRange s (through (s.ties p) s then)

-- Remove unties the pointer.
abbrev pub remove_call : State → ℕ → Outcome
remove_call s p = as_pointer s p (λ e. answered (with_tie s p None) Done)

-- A hard read answers what the element shows: its second version, or what the table's get answers.
abbrev pub shown_answer : Option ℤ → Result ℤ Refusal → Answer
shown_answer (Some v) got = Number v
shown_answer None (Ok v) = Number v
shown_answer None (Err r) = Refused r

abbrev pub hard_read_call : State → ℕ → Outcome
hard_read_call s p = as_pointer s p (λ e. answered s (shown_answer (s.second e) (get_answer s.table e)))

-- A hard write always puts the number into the table. A locked element is marked, and a second version
-- becomes that number.
abbrev pub hard_written : State → ℕ → ℤ → State
hard_written s e v =
    record {
      table = put_meaning s.table e v;
      clients = s.clients;
      locks = s.locks;
      marked = at s.marked e (s.marked e || locked s e);
      second = at s.second e (option_map (λ old. v) (s.second e));
      ties = s.ties;
    }

abbrev pub put_outcome : Result (Unit {0}) Refusal → State → ℕ → ℤ → Outcome
put_outcome (Ok done) s e v = answered (hard_written s e v) Done
put_outcome (Err r) s e v = refused s r

abbrev pub hard_write_call : State → ℕ → ℤ → Outcome
hard_write_call s p v = as_pointer s p (λ e. put_outcome (put_answer s.table e v) s e v)
