-- Two answers that people ask for most, in plain form.
use Rattle.std.specs.Prelude.{◌≡◌, ℕ, ◌≤◌, Bool, true, false, cond, ◌&&◌, List, [], ◌∷◌, ◌++◌, length, ℤ, Some, None, Option, ◌==◌}
use Rattle.std.specs.Option.{unwrap_or}
use Rattle.plant.specs.Meaning.{Meaning}
use Rattle.plant.specs.declared.tables.Element.{Element}
use Rattle.ranks.specs.declared.Client.{Client}
use Rattle.rules.specs.State.{State, shows}
use Rattle.rules.specs.declared.Pointer.{Pointer}
use Rattle.rules.specs.declared.Call.{Call}
use Rattle.rules.specs.declared.Call.TheVariants.{Begin, Lock, Read as Reads, Change, Commit, WriteBack, End, GiveUp, Clear, Bind, Remove, HardRead, HardWrite}
use Rattle.rules.specs.declared.Answer.{Answer}
use Rattle.rules.specs.declared.Answer.TheVariants.{Done, Number}
use Rattle.law.specs.History.{History, Leads, accepted}
use Rattle.law.specs.Record.{Record, record_of, kind_writes}
use Rattle.law.specs.Order.{Step, steps_since, order}
use Rattle.law.specs.Play.{all_steps}

-- Whether the event is an accepted end of a client that holds the element for writing, by the record before it.
abbrev pub ends_writer : {K : Type 0} → ℕ → Record → Call K → Answer → Bool
ends_writer e r (Begin c k) a = false
ends_writer e r (Lock c kind f) a = false
ends_writer e r (Reads c f) a = false
ends_writer e r (Change c f v) a = false
ends_writer e r (Commit c) a = false
ends_writer e r (WriteBack c) a = false
ends_writer e r (End c) a = accepted a && kind_writes (r.kinds c.0 e)
ends_writer e r (GiveUp c) a = false
ends_writer e r (Clear c) a = false
ends_writer e r (Bind p f) a = false
ends_writer e r (Remove p) a = false
ends_writer e r (HardRead p) a = false
ends_writer e r (HardWrite p v) a = false

-- The number, if it goes to this element.
abbrev pub if_tied : ℕ → ℤ → Option Element → Option ℤ
if_tied e v None = None
if_tied e v (Some f) = cond (f.0 == e) (Some v) None

-- The number that an accepted hard write puts into the element, if the event is one.
abbrev pub hard_written_to : {K : Type 0} → ℕ → Record → Call K → Answer → Option ℤ
hard_written_to e r (Begin c k) a = None
hard_written_to e r (Lock c kind f) a = None
hard_written_to e r (Reads c f) a = None
hard_written_to e r (Change c f v) a = None
hard_written_to e r (Commit c) a = None
hard_written_to e r (WriteBack c) a = None
hard_written_to e r (End c) a = None
hard_written_to e r (GiveUp c) a = None
hard_written_to e r (Clear c) a = None
hard_written_to e r (Bind p f) a = None
hard_written_to e r (Remove p) a = None
hard_written_to e r (HardRead p) a = None
hard_written_to e r (HardWrite p v) a = cond (accepted a) (if_tied e v (r.ties p.0)) None

-- In the later part g of the history g ++ h no transaction has ended that then held the element for writing.
abbrev pub NoWriterEnded : {K : Type 0} → ℕ → History K → History K → Type 0
NoWriterEnded e [] h = Unit {0}
NoWriterEnded e (x ∷ g) h = (ends_writer e (record_of (g ++ h)) x.call x.answer ≡ false) × NoWriterEnded e g h

-- The number of the last accepted hard write to the element in the later part, or else the number from before it.
abbrev pub last_hard_write : {K : Type 0} → ℕ → History K → History K → ℤ → ℤ
last_hard_write e [] h before = before
last_hard_write e (x ∷ g) h before =
    unwrap_or (hard_written_to e (record_of (g ++ h)) x.call x.answer) (last_hard_write e g h before)

-- A hard read during a rescaling answers the number from before it, until its end is accepted; or, if a
-- hard write came meanwhile, the number of the last one. Here h is the time before the rescaling, and g is
-- what has happened since: whoever locked, changed, committed or wrote back in it.
abbrev pub OldNumberUntilTheEnd : {K : Type 0} → (K → K → Bool) → Type 0
OldNumberUntilTheEnd {K} above =
    (m : Meaning) (g h : History K) (t u : State) (p : Pointer) (e : Element) (ranks : List K) (a : Answer) → length m.numbers ≤ 256 →
    Leads above m h t → Leads above m (record { call = HardRead p; ranks = ranks; answer = a } ∷ (g ++ h)) u →
    (record_of (g ++ h)).ties p.0 ≡ Some e → accepted a ≡ true → NoWriterEnded e.0 g h →
    a ≡ Number (last_hard_write e.0 g h (shows t e.0))

-- Some steps stand together within others: nothing stands between them.
pub record Together (some all : List Step) : Type 0 where
  pub before : List Step
  pub after : List Step
  pub stands : all ≡ before ++ (some ++ after)

-- A batch never mixes two rescalings: in the order of every history the steps of each ended transaction
-- stand together.
abbrev pub NeverMixed : Type 0 → Type 0
NeverMixed K =
    (g h : History K) (c : Client) (ranks : List K) →
    Together (steps_since c.0 h) (all_steps (order (g ++ (record { call = End c; ranks = ranks; answer = Done } ∷ h))))
