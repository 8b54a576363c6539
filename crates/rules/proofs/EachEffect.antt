-- Every step goes one of the ways that are listed.
use Rattle.std.proofs.Common.{◌≡◌, ℕ, zero, suc, Bool, true, false, cond, not, ◌&&◌, ◌||◌, eqb, ltb, List, length, ℤ, is_some, Some, None, Option, refl, subst}
use Rattle.std.proofs.lemmas.Bool.{and_parts}
use Rattle.plant.specs.Meaning.{has, within, get_answer, put_answer}
use Rattle.plant.specs.declared.refusals.Refusal.{Refusal}
use Rattle.plant.specs.declared.refusals.Refusal.TheVariants.{NoLock, NoSuchElement, WriteBacksLeft, PointerAlreadyBound}
use Rattle.plant.specs.declared.tables.Element.{Element}
use Rattle.ranks.specs.Standing.{stands_above}
use Rattle.ranks.specs.declared.Client.{Client}
use Rattle.rules.specs.Scans.{some_below, first_below}
use Rattle.rules.specs.States.{met}
use Rattle.rules.specs.State.{State, is_write, for_writing, is_committing, shows}
use Rattle.rules.specs.Locking.{conflicts, covers, lock_count, leave}
use Rattle.rules.specs.Calls.{Outcome, answered, refused, check, by_state, with_client, with_tie, next_left, is_left, back_lock, back_next, change_lock, lock_steps, put_outcome, shown_answer, through, read_lock}
use Rattle.rules.specs.Step.{step}
use Rattle.rules.specs.Effects.{Effect, refusing, beginning, keeping, losing, waiting, gaining, reading, changing, entering, dropping, writing, ending, giving_up, clearing, binding, removing, hard_reading, hard_writing, EveryStepHasAnEffect}
use Rattle.rules.specs.declared.Pointer.{Pointer}
use Rattle.rules.specs.declared.ClientState.{ClientState}
use Rattle.rules.specs.declared.ClientState.TheVariants.{Idle, Executing, Committing, ThrownOut}
use Rattle.rules.specs.declared.LockKind.{LockKind}
use Rattle.rules.specs.declared.Lock.{Lock}
use Rattle.rules.specs.declared.Move.TheVariants.{Begin as MBegin, Lock as MLock, Read as MRead, Change as MChange, Commit as MCommit, GiveUp as MGiveUp, WriteBack as MWriteBack, End as MEnd, Clear as MClear}
use Rattle.rules.specs.declared.Call.{Call}
use Rattle.rules.specs.declared.Call.TheVariants.{Begin, Lock as Locks, Read, Change, Commit, WriteBack, End, GiveUp, Clear, Bind, Remove, HardRead, HardWrite}
use Rattle.rules.specs.declared.Answer.TheVariants.{Done, Number}

-- A choice by a test, with the test's outcome known on each way.
pub either_way : {X : Type 0} (P : X → Type 0) (b : Bool) {x y : X} → (b ≡ true → P x) → (b ≡ false → P y) → P (cond b x y)
either_way P true yes' no' = yes' refl
either_way P false yes' no' = no' refl

-- What is found first passes the test.
pub first_passes : (n : ℕ) (p : ℕ → Bool) (k : ℕ) → first_below n p ≡ Some k → p k ≡ true
unfolding first_below
first_passes zero p k h = cc
first_passes (suc n) p k h = found (first_passes n p k) (first_below n p) refl (p n) refl
  where
    found : (first_below n p ≡ Some k → p k ≡ true) → (o : Option ℕ) → first_below n p ≡ o → (b : Bool) → p n ≡ b → p k ≡ true
    found before (Some j) eo b eb = before (cc)
    found before None eo true eb = let i : n ≡ k = cc in subst (λ x. p x ≡ true) i eb
    found before None eo false eb = cc

module _ {K : Type 0} (above : K → K → Bool) (t : State) (ranks : List K) where
  abbrev On : Call K → Outcome → Type 0
  On call o = Effect above t ranks call o.state o.answer

  checked : (call : Call K) (b : Bool) (r : Refusal) (o : Outcome) → (b ≡ true → On call o) → On call (check b r t o)
  checked call b r o f = either_way (On call) b f (λ _. refusing call r)

  begins : (c : Client) (k : K) → On (Begin c k) (step above t ranks (Begin c k))
  begins c k =
      checked (Begin c k) (ltb c.0 16) _ _ λ small.
      checked (Begin c k) (not (ltb (length ranks) 16)) _ _ λ _.
      by (t.clients c.0) refl small
    where
      by : (x : ClientState) → t.clients c.0 ≡ x → ltb c.0 16 ≡ true →
          On (Begin c k) (by_state (met x MBegin) t (λ after. answered (with_client t c.0 after) Done))
      by Idle e small = beginning c k small e
      by Executing e small = refusing _ _
      by Committing e small = refusing _ _
      by ThrownOut e small = refusing _ _

  lock_goes : (c : Client) (kind : LockKind) (e : Element) → ltb c.0 16 ≡ true → t.clients c.0 ≡ Executing →
      has t.table e.0 ≡ true → On (Locks c kind e) (lock_steps above ranks t c.0 kind e.0)
  lock_goes c kind e small executing there =
      either_way (On (Locks c kind e)) (covers (t.locks c.0 e.0) kind) (λ covered. keeping c kind e executing covered) λ not_covered.
      checked (Locks c kind e) (is_some (t.locks c.0 e.0) || ltb (lock_count t c.0) 32) _ _ λ _.
      either_way (On (Locks c kind e)) (some_below 16 (λ d. conflicts t c.0 kind e.0 d && stands_above above ranks d c.0))
      (λ beaten. losing c kind e small executing beaten) λ unbeaten.
      either_way (On (Locks c kind e)) (some_below 16 (λ d. conflicts t c.0 kind e.0 d && is_committing (t.clients d)))
      (λ held_up. waiting c kind e executing held_up) λ free.
      gaining c kind e small executing there not_covered unbeaten free

  locks : (c : Client) (kind : LockKind) (e : Element) → On (Locks c kind e) (step above t ranks (Locks c kind e))
  locks c kind e =
      checked (Locks c kind e) (ltb c.0 16) _ _ λ small.
      checked (Locks c kind e) (not (ltb (length ranks) 16)) _ _ λ _.
      by (t.clients c.0) refl small
    where
      by : (x : ClientState) → t.clients c.0 ≡ x → ltb c.0 16 ≡ true →
          On (Locks c kind e) (by_state (met x MLock) t (λ after. check (has t.table e.0) NoSuchElement t (lock_steps above ranks t c.0 kind e.0)))
      by Idle q small = refusing _ _
      by Executing q small = checked (Locks c kind e) (has t.table e.0) _ _ (λ there. lock_goes c kind e small q there)
      by Committing q small = refusing _ _
      by ThrownOut q small = refusing _ _

  reads : (c : Client) (e : Element) → On (Read c e) (step above t ranks (Read c e))
  reads c e = checked (Read c e) (ltb c.0 16) _ _ λ small. by (t.clients c.0) refl
    where
      at_lock : (o : Option Lock) → t.locks c.0 e.0 ≡ o → t.clients c.0 ≡ Executing → On (Read c e) (read_lock t o)
      at_lock None q x = refusing _ _
      at_lock (Some l) q x = reading c e l x q

      by : (x : ClientState) → t.clients c.0 ≡ x →
          On (Read c e) (by_state (met x MRead) t (λ after. check (has t.table e.0) NoSuchElement t (read_lock t (t.locks c.0 e.0))))
      by Idle q = refusing _ _
      by Executing q = checked (Read c e) (has t.table e.0) _ _ (λ there. at_lock (t.locks c.0 e.0) refl q)
      by Committing q = refusing _ _
      by ThrownOut q = refusing _ _

  changes : (c : Client) (e : Element) (v : ℤ) → On (Change c e v) (step above t ranks (Change c e v))
  changes c e v = checked (Change c e v) (ltb c.0 16) _ _ λ small. by (t.clients c.0) refl
    where
      at_lock : (o : Option Lock) → t.locks c.0 e.0 ≡ o → t.clients c.0 ≡ Executing →
          On (Change c e v) (check (for_writing o) NoLock t (change_lock t c.0 e.0 v o))
      at_lock None q x = refusing _ _
      at_lock (Some l) q x =
          checked (Change c e v) (is_write l.kind) _ _ λ writes.
          checked (Change c e v) (within t.table v) _ _ λ inside.
          changing c e v l x q writes inside

      by : (x : ClientState) → t.clients c.0 ≡ x →
          On (Change c e v)
          (by_state (met x MChange) t (λ after.
          check (has t.table e.0) NoSuchElement t (check (for_writing (t.locks c.0 e.0)) NoLock t (change_lock t c.0 e.0 v (t.locks c.0 e.0)))))
      by Idle q = refusing _ _
      by Executing q = checked (Change c e v) (has t.table e.0) _ _ (λ there. at_lock (t.locks c.0 e.0) refl q)
      by Committing q = refusing _ _
      by ThrownOut q = refusing _ _

  commits : (c : Client) → On (Commit c) (step above t ranks (Commit c))
  commits c = checked (Commit c) (ltb c.0 16) _ _ λ small. by (t.clients c.0) refl
    where
      by : (x : ClientState) → t.clients c.0 ≡ x →
          On (Commit c) (by_state (met x MCommit) t (λ after. answered (with_client t c.0 after) Done))
      by Idle q = refusing _ _
      by Executing q = entering c q
      by Committing q = refusing _ _
      by ThrownOut q = refusing _ _

  writes_back : (c : Client) → On (WriteBack c) (step above t ranks (WriteBack c))
  writes_back c = checked (WriteBack c) (ltb c.0 16) _ _ λ small. by (t.clients c.0) refl
    where
      at_lock : (e : ℕ) (o : Option Lock) → t.locks c.0 e ≡ o → is_left o ≡ true → t.clients c.0 ≡ Committing →
          On (WriteBack c) (back_lock t c.0 e o)
      at_lock e None q left x = refusing _ _
      at_lock e (Some l) q left x =
          either_way (On (WriteBack c)) (t.marked e)
          (λ marked. dropping c e l x q (and_parts l.changed (not l.taken) left).0 marked)
          (λ unmarked. writing c e l x q (and_parts l.changed (not l.taken) left).0 unmarked)

      at_next : (o : Option ℕ) → next_left t c.0 ≡ o → t.clients c.0 ≡ Committing → On (WriteBack c) (back_next t c.0 o)
      at_next None q x = refusing _ _
      at_next (Some e) q x = at_lock e (t.locks c.0 e) refl (first_passes 256 (λ f. is_left (t.locks c.0 f)) e q) x

      by : (x : ClientState) → t.clients c.0 ≡ x →
          On (WriteBack c) (by_state (met x MWriteBack) t (λ after. back_next t c.0 (next_left t c.0)))
      by Idle q = refusing _ _
      by Executing q = refusing _ _
      by Committing q = at_next (next_left t c.0) refl q
      by ThrownOut q = refusing _ _

  ends : (c : Client) → On (End c) (step above t ranks (End c))
  ends c = checked (End c) (ltb c.0 16) _ _ λ small. by (t.clients c.0) refl small
    where
      at_next : (o : Option ℕ) → next_left t c.0 ≡ o → t.clients c.0 ≡ Committing → ltb c.0 16 ≡ true →
          On (End c) (cond (not (is_some o)) (answered (leave (λ d. eqb d c.0) Idle t) Done) (refused t WriteBacksLeft))
      at_next None q x small = ending c small x q
      at_next (Some e) q x small = refusing _ _

      by : (x : ClientState) → t.clients c.0 ≡ x → ltb c.0 16 ≡ true →
          On (End c) (by_state (met x MEnd) t (λ after. check (not (is_some (next_left t c.0))) WriteBacksLeft t (answered (leave (λ d. eqb d c.0) after t) Done)))
      by Idle q small = refusing _ _
      by Executing q small = refusing _ _
      by Committing q small = at_next (next_left t c.0) refl q small
      by ThrownOut q small = refusing _ _

  gives_up : (c : Client) → On (GiveUp c) (step above t ranks (GiveUp c))
  gives_up c = checked (GiveUp c) (ltb c.0 16) _ _ λ small. by (t.clients c.0) refl small
    where
      by : (x : ClientState) → t.clients c.0 ≡ x → ltb c.0 16 ≡ true →
          On (GiveUp c) (by_state (met x MGiveUp) t (λ after. answered (leave (λ d. eqb d c.0) after t) Done))
      by Idle q small = refusing _ _
      by Executing q small = giving_up c small q
      by Committing q small = refusing _ _
      by ThrownOut q small = refusing _ _

  clears : (c : Client) → On (Clear c) (step above t ranks (Clear c))
  clears c = checked (Clear c) (ltb c.0 16) _ _ λ small. by (t.clients c.0) refl
    where
      by : (x : ClientState) → t.clients c.0 ≡ x →
          On (Clear c) (by_state (met x MClear) t (λ after. answered (with_client t c.0 after) Done))
      by Idle q = refusing _ _
      by Executing q = refusing _ _
      by Committing q = refusing _ _
      by ThrownOut q = clearing c q

  binds : (p : Pointer) (e : Element) → On (Bind p e) (step above t ranks (Bind p e))
  binds p e = checked (Bind p e) _ _ _ λ small. by (t.ties p.0) refl
    where
      by : (o : Option Element) → t.ties p.0 ≡ o →
          On (Bind p e) (check (not (is_some o)) PointerAlreadyBound t (check (has t.table e.0) NoSuchElement t (answered (with_tie t p.0 (Some e)) Done)))
      by None q = checked (Bind p e) (has t.table e.0) _ _ (λ there. binding p e q there)
      by (Some x) q = refusing _ _

  removes : (p : Pointer) → On (Remove p) (step above t ranks (Remove p))
  removes p = checked (Remove p) _ _ _ λ small. by (t.ties p.0) refl
    where
      by : (o : Option Element) → t.ties p.0 ≡ o → On (Remove p) (through o t (λ e. answered (with_tie t p.0 None) Done))
      by None q = refusing _ _
      by (Some e) q = removing p

  hard_reads : (p : Pointer) → On (HardRead p) (step above t ranks (HardRead p))
  hard_reads p = checked (HardRead p) _ _ _ λ small. by (t.ties p.0) refl
    where
      shown : (e : Element) → t.ties p.0 ≡ Some e → (o : Option ℤ) → t.second e.0 ≡ o →
          Effect above t ranks (HardRead p) t (shown_answer o (get_answer t.table e.0))
      shown e q (Some v) second = let x : Effect above t ranks (HardRead p) t (Number (shows t e.0)) = hard_reading p e q in rw second at x
      shown e q None second =
          either_way (λ a. Effect above t ranks (HardRead p) t (shown_answer None a)) (has t.table e.0)
          (λ there. let x : Effect above t ranks (HardRead p) t (Number (shows t e.0)) = hard_reading p e q in rw second at x)
          (λ missing. refusing _ _)

      by : (o : Option Element) → t.ties p.0 ≡ o →
          On (HardRead p) (through o t (λ e. answered t (shown_answer (t.second e) (get_answer t.table e))))
      by None q = refusing _ _
      by (Some e) q = shown e q (t.second e.0) refl

  hard_writes : (p : Pointer) (v : ℤ) → On (HardWrite p v) (step above t ranks (HardWrite p v))
  hard_writes p v = checked (HardWrite p v) _ _ _ λ small. by (t.ties p.0) refl
    where
      by : (o : Option Element) → t.ties p.0 ≡ o →
          On (HardWrite p v) (through o t (λ e. put_outcome (put_answer t.table e v) t e v))
      by None q = refusing _ _
      by (Some e) q =
          either_way (λ a. On (HardWrite p v) (put_outcome a t e.0 v)) (has t.table e.0)
          (λ there.
          either_way (λ a. On (HardWrite p v) (put_outcome a t e.0 v)) (within t.table v)
          (λ inside. hard_writing p v e q there inside) (λ _. refusing _ _))
          (λ _. refusing _ _)

pub every_step : {K : Type 0} (above : K → K → Bool) → EveryStepHasAnEffect above
every_step above t ranks (Begin c k) = begins above t ranks c k
every_step above t ranks (Locks c kind e) = locks above t ranks c kind e
every_step above t ranks (Read c e) = reads above t ranks c e
every_step above t ranks (Change c e v) = changes above t ranks c e v
every_step above t ranks (Commit c) = commits above t ranks c
every_step above t ranks (WriteBack c) = writes_back above t ranks c
every_step above t ranks (End c) = ends above t ranks c
every_step above t ranks (GiveUp c) = gives_up above t ranks c
every_step above t ranks (Clear c) = clears above t ranks c
every_step above t ranks (Bind p e) = binds above t ranks p e
every_step above t ranks (Remove p) = removes above t ranks p
every_step above t ranks (HardRead p) = hard_reads above t ranks p
every_step above t ranks (HardWrite p v) = hard_writes above t ranks p v
