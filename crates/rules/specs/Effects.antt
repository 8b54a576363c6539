-- What a call can come to, told once: each way in which a step can go, with what is known then. All laws
-- about runs use this list, and not the text of the step.
use Rattle.std.specs.Prelude.{◌≡◌, ℕ, Bool, true, false, ◌&&◌, List, ℤ, Some, None, nat_eq, nat_lt}
use Rattle.plant.specs.Meaning.{has, within}
use Rattle.plant.specs.declared.refusals.Refusal.{Refusal}
use Rattle.plant.specs.declared.tables.Element.{Element}
use Rattle.ranks.specs.Standing.{stands_above}
use Rattle.ranks.specs.declared.Client.{Client}
use Rattle.rules.specs.Scans.{some_below}
use Rattle.rules.specs.State.{State, is_write, is_committing, shows}
use Rattle.rules.specs.Locking.{conflicts, covers, leave, gain}
use Rattle.rules.specs.Calls.{with_client, with_lock, with_tie, with_table_number, changed_lock, taken_lock, next_left, hard_written}
use Rattle.rules.specs.Step.{step}
use Rattle.rules.specs.declared.Pointer.{Pointer}
use Rattle.rules.specs.declared.ClientState.TheVariants.{Idle, Executing, Committing, ThrownOut}
use Rattle.rules.specs.declared.LockKind.{LockKind}
use Rattle.rules.specs.declared.Lock.{Lock}
use Rattle.rules.specs.declared.Fate.TheVariants.{Written, Dropped}
use Rattle.rules.specs.declared.Call.{Call}
use Rattle.rules.specs.declared.Call.TheVariants.{Begin, Lock as Locks, Read, Change, Commit, WriteBack, End, GiveUp, Clear, Bind, Remove, HardRead, HardWrite}
use Rattle.rules.specs.declared.Answer.{Answer}
use Rattle.rules.specs.declared.Answer.TheVariants.{Done, Number, WroteBack, Wait, Lost, Refused}

-- The call, handed this rank list in the state t, leaves a state and gives an answer.
pub data Effect {K : Type 0} (above : K → K → Bool) (t : State) (ranks : List K) : Call K → State → Answer → Type 0 where
  -- A refused call leaves all as it was.
  refusing : (call : Call K) (r : Refusal) → Effect above t ranks call t (Refused r)
  -- An idle client begins.
  beginning : (c : Client) (k : K) → nat_lt c.0 16 ≡ true → t.clients c.0 ≡ Idle →
      Effect above t ranks (Begin c k) (with_client t c.0 Executing) Done
  -- A lock that the client's own lock covers is granted and changes nothing.
  keeping : (c : Client) (kind : LockKind) (e : Element) → t.clients c.0 ≡ Executing →
      covers (t.locks c.0 e.0) kind ≡ true → Effect above t ranks (Locks c kind e) t Done
  -- A conflicting holder stands above: the client loses and is thrown out.
  losing : (c : Client) (kind : LockKind) (e : Element) → nat_lt c.0 16 ≡ true → t.clients c.0 ≡ Executing →
      some_below 16 (λ d. conflicts t c.0 kind e.0 d && stands_above above ranks d c.0) ≡ true →
      Effect above t ranks (Locks c kind e) (leave (λ d. nat_eq d c.0) ThrownOut t) Lost
  -- Nobody in conflict stands above, and one of them is committing: the client waits.
  waiting : (c : Client) (kind : LockKind) (e : Element) → t.clients c.0 ≡ Executing →
      some_below 16 (λ d. conflicts t c.0 kind e.0 d && is_committing (t.clients d)) ≡ true →
      Effect above t ranks (Locks c kind e) t Wait
  -- Nobody in conflict stands above or is committing: they are thrown out and the lock is gained.
  gaining : (c : Client) (kind : LockKind) (e : Element) → nat_lt c.0 16 ≡ true → t.clients c.0 ≡ Executing →
      has t.table e.0 ≡ true → covers (t.locks c.0 e.0) kind ≡ false →
      some_below 16 (λ d. conflicts t c.0 kind e.0 d && stands_above above ranks d c.0) ≡ false →
      some_below 16 (λ d. conflicts t c.0 kind e.0 d && is_committing (t.clients d)) ≡ false →
      Effect above t ranks (Locks c kind e) (gain c.0 kind e.0 (leave (λ d. conflicts t c.0 kind e.0 d) ThrownOut t)) Done
  -- A read answers the working copy.
  reading : (c : Client) (e : Element) (l : Lock) → t.clients c.0 ≡ Executing → t.locks c.0 e.0 ≡ Some l →
      Effect above t ranks (Read c e) t (Number l.copy)
  -- A change sets the working copy of a write lock.
  changing : (c : Client) (e : Element) (v : ℤ) (l : Lock) → t.clients c.0 ≡ Executing → t.locks c.0 e.0 ≡ Some l →
      is_write l.kind ≡ true → within t.table v ≡ true →
      Effect above t ranks (Change c e v) (with_lock t c.0 e.0 (changed_lock l v)) Done
  -- An executing client enters its committing step.
  entering : (c : Client) → t.clients c.0 ≡ Executing → Effect above t ranks (Commit c) (with_client t c.0 Committing) Done
  -- The write back of a marked element is dropped.
  dropping : (c : Client) (e : ℕ) (l : Lock) → t.clients c.0 ≡ Committing → t.locks c.0 e ≡ Some l →
      l.changed ≡ true → t.marked e ≡ true →
      Effect above t ranks (WriteBack c) (with_lock t c.0 e (taken_lock l)) (WroteBack (record { 0 = e }) Dropped)
  -- The write back of an element without a mark puts the working copy into the table.
  writing : (c : Client) (e : ℕ) (l : Lock) → t.clients c.0 ≡ Committing → t.locks c.0 e ≡ Some l →
      l.changed ≡ true → t.marked e ≡ false →
      Effect above t ranks (WriteBack c) (with_table_number (with_lock t c.0 e (taken_lock l)) e l.copy) (WroteBack (record { 0 = e }) Written)
  -- A committing client that has no write-backs left ends.
  ending : (c : Client) → nat_lt c.0 16 ≡ true → t.clients c.0 ≡ Committing → next_left t c.0 ≡ None →
      Effect above t ranks (End c) (leave (λ d. nat_eq d c.0) Idle t) Done
  -- An executing client gives up.
  giving_up : (c : Client) → nat_lt c.0 16 ≡ true → t.clients c.0 ≡ Executing →
      Effect above t ranks (GiveUp c) (leave (λ d. nat_eq d c.0) Idle t) Done
  -- A thrown-out client is cleared.
  clearing : (c : Client) → t.clients c.0 ≡ ThrownOut → Effect above t ranks (Clear c) (with_client t c.0 Idle) Done
  -- A pointer is bound, and removed.
  binding : (p : Pointer) (e : Element) → t.ties p.0 ≡ None → has t.table e.0 ≡ true →
      Effect above t ranks (Bind p e) (with_tie t p.0 (Some e)) Done
  removing : (p : Pointer) → Effect above t ranks (Remove p) (with_tie t p.0 None) Done
  -- A hard read answers what the element shows.
  hard_reading : (p : Pointer) (e : Element) → t.ties p.0 ≡ Some e → Effect above t ranks (HardRead p) t (Number (shows t e.0))
  -- A hard write puts the number into the table.
  hard_writing : (p : Pointer) (v : ℤ) (e : Element) → t.ties p.0 ≡ Some e → has t.table e.0 ≡ true →
      within t.table v ≡ true → Effect above t ranks (HardWrite p v) (hard_written t e.0 v) Done

-- Every call, in every state and with every rank list, goes one of these ways.
abbrev pub EveryStepHasAnEffect : {K : Type 0} → (K → K → Bool) → Type 0
EveryStepHasAnEffect {K} above =
    (t : State) (ranks : List K) (call : Call K) →
    Effect above t ranks call (step above t ranks call).state (step above t ranks call).answer
