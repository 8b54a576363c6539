-- The law of a run.
use Rattle.std.specs.Prelude.{◌≡◌, ℕ, ◌+◌, ◌≤◌, Bool, true, false, cond, List, [], ◌∷◌, length, is_some, ◌==◌, ◌≢◌}
use Rattle.plant.specs.Meaning.{Meaning, has, number}
use Rattle.ranks.specs.Standing.{stands_above}
use Rattle.ranks.specs.declared.Client.{Client}
use Rattle.plant.specs.declared.tables.Element.{Element}
use Rattle.rules.specs.State.{State, shows}
use Rattle.rules.specs.Step.{ranks_after}
use Rattle.rules.specs.declared.ClientState.TheVariants.{Committing, ThrownOut}
use Rattle.rules.specs.declared.LockKind.{LockKind}
use Rattle.rules.specs.declared.Call.{Call}
use Rattle.rules.specs.declared.Call.TheVariants.{Begin, Lock, Read as Reads, Change, Commit, WriteBack, End, GiveUp, Clear, Bind, Remove, HardRead, HardWrite}
use Rattle.rules.specs.declared.Answer.{Answer}
use Rattle.rules.specs.declared.Answer.TheVariants.{Wait}
use Rattle.law.specs.History.{Event, History, Leads, accepted}
use Rattle.law.specs.Record.{Record, record_of, holding, is_open, is_write_locked}
use Rattle.law.specs.Order.{Entry, order}
use Rattle.law.specs.Play.{Right, after_steps, all_steps}

-- How often an entry of this moment stands in a list.
abbrev pub times : ℕ → List Entry → ℕ
times t [] = 0
times t (x ∷ xs) = cond (x.moment == t) 1 0 + times t xs

-- Ends and hard accesses stand in the order if they were accepted; no other call does.
abbrev pub has_place : {K : Type 0} → Call K → Answer → Bool
has_place (Begin c k) a = false
has_place (Lock c kind e) a = false
has_place (Reads c e) a = false
has_place (Change c e v) a = false
has_place (Commit c) a = false
has_place (WriteBack c) a = false
has_place (End c) a = accepted a
has_place (GiveUp c) a = false
has_place (Clear c) a = false
has_place (Bind p e) a = false
has_place (Remove p) a = false
has_place (HardRead p) a = accepted a
has_place (HardWrite p v) a = accepted a

-- Whether the event of this moment is an accepted end or an accepted hard access.
abbrev pub placed_at : {K : Type 0} → History K → ℕ → Bool
placed_at [] t = false
placed_at (x ∷ h) t = cond (length h == t) (has_place x.call x.answer) (placed_at h t)

-- Begin and lock look at the rank list.
abbrev pub asks_ranks : {K : Type 0} → Call K → Bool
asks_ranks (Begin c k) = true
asks_ranks (Lock c kind e) = true
asks_ranks (Reads c e) = false
asks_ranks (Change c e v) = false
asks_ranks (Commit c) = false
asks_ranks (WriteBack c) = false
asks_ranks (End c) = false
asks_ranks (GiveUp c) = false
asks_ranks (Clear c) = false
asks_ranks (Bind p e) = false
asks_ranks (Remove p) = false
asks_ranks (HardRead p) = false
asks_ranks (HardWrite p v) = false

-- The one rank list, which only begins have written, each its own entry.
abbrev pub list_after : {K : Type 0} → List K → History K → List K
list_after first [] = first
list_after first (x ∷ h) = ranks_after (list_after first h) x.call x.answer

-- Every begin and lock was handed that one list.
abbrev pub OneList : {K : Type 0} → List K → History K → Type 0
OneList first [] = Unit {0}
OneList first (x ∷ h) = (asks_ranks x.call ≡ true → x.ranks ≡ list_after first h) × OneList first h

-- The client is open and stands above every other open client.
pub record Highest {K : Type 0} (above : K → K → Bool) (ranks : List K) (r : Record) (c : ℕ) : Type 0 where
  pub opened : is_open (r.clients c) ≡ true
  pub highest : (d : ℕ) → is_open (r.clients d) ≡ true → (d ≢ c) → stands_above above ranks c d ≡ true

-- Another client, in its committing step, holds the element.
pub record CommittingHolder (r : Record) (c : ℕ) (e : ℕ) : Type 0 where
  pub holder : ℕ
  pub other : holder ≡ c → ⊥
  pub committing : r.clients holder ≡ Committing
  pub holds : holding r holder e ≡ true

-- The highest client goes on across an event: it is not thrown out, and if the event is its own lock and
-- waits, it waits for another client that is committing and holds the element.
pub record GoesOn {K : Type 0} (x : Event K) (before after : Record) (c : ℕ) : Type 0 where
  pub not_thrown_out : after.clients c ≡ ThrownOut → ⊥
  pub waits_only : (caller : Client) (kind : LockKind) (e : Element) →
      x.call ≡ Lock caller kind e → caller.0 ≡ c → x.answer ≡ Wait → CommittingHolder before c e.0

-- At every moment of the run, whichever client was the highest went on.
abbrev pub HighestGoesOn : {K : Type 0} → (K → K → Bool) → List K → History K → Type 0
HighestGoesOn above first [] = Unit {0}
HighestGoesOn above first (x ∷ h) =
    ((c : ℕ) → Highest above (list_after first h) (record_of h) c → GoesOn x (record_of h) (record_of (x ∷ h)) c) ×
    HighestGoesOn above first h

-- The law of a run, whole. Once: each accepted end and each accepted hard access stands in the order once,
-- and nothing else does. Reads: in the play of the order every read gives the number that was answered.
-- Shows: the play leaves each element at the number that it shows. Highest goes on: if every begin and
-- every lock was handed the one rank list that only begins have written, the client that stands above all
-- other open ones is never thrown out, and waits only for somebody who is committing.
pub record LawOfRun {K : Type 0} (above : K → K → Bool) (m : Meaning) (h : History K) (s : State) : Type 0 where
  pub once : (t : ℕ) → times t (order h) ≡ cond (placed_at h t) 1 0
  pub reads : Right (number m) (all_steps (order h))
  pub shows_last : (e : ℕ) → has m e ≡ true → after_steps (number m) (all_steps (order h)) e ≡ shows s e
  pub highest_goes_on : (first : List K) → OneList first h → HighestGoesOn above first h

-- Every run over a table, which has at most 256 elements, has the law.
abbrev pub EveryRunHasTheLaw : {K : Type 0} → (K → K → Bool) → Type 0
EveryRunHasTheLaw {K} above =
    (m : Meaning) (h : History K) (s : State) → length m.numbers ≤ 256 → Leads above m h s → LawOfRun above m h s

-- In every run an element has a second version exactly while somebody holds it for writing.
abbrev pub SecondVersionWhileWriteLocked : {K : Type 0} → (K → K → Bool) → Type 0
SecondVersionWhileWriteLocked {K} above =
    (m : Meaning) (h : History K) (s : State) → length m.numbers ≤ 256 → Leads above m h s →
    (e : ℕ) → is_some (s.second e) ≡ is_write_locked (record_of h) e
