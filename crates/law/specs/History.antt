-- Histories: what was called and answered, and the states to which a history leads.
use Rattle.std.specs.Prelude.{◌≡◌, Bool, true, false, List, [], ◌∷◌}
use Rattle.plant.specs.Meaning.{Meaning}
use Rattle.rules.specs.State.{State, opening}
use Rattle.rules.specs.Calls.{answered}
use Rattle.rules.specs.Step.{step}
use Rattle.rules.specs.declared.Call.{Call}
use Rattle.rules.specs.declared.Answer.{Answer}
use Rattle.rules.specs.declared.Answer.TheVariants.{Done, Number, WroteBack, Wait, Lost, Refused}

-- One call, the rank list that was handed in with it, and its answer.
pub record Event (K : Type 0) : Type 0 where
  pub call : Call K
  pub ranks : List K
  pub answer : Answer

-- A history, the latest event first. The moment of an event is the number of events before it.
abbrev pub History : Type 0 → Type 0
History K = List (Event K)

-- The history leads from a new engine over the table to the state: each call was answered by the rules.
abbrev pub Leads : {K : Type 0} → (K → K → Bool) → Meaning → History K → State → Type 0
Leads above m [] s = s ≡ opening m
Leads above m (x ∷ h) s = (t : State) × Leads above m h t × (step above t x.ranks x.call ≡ answered s x.answer)

-- Accepted means not refused.
abbrev pub accepted : Answer → Bool
accepted Done = true
accepted (Number v) = true
accepted (WroteBack e fate) = true
accepted Wait = true
accepted Lost = true
accepted (Refused r) = false

-- A lock is granted exactly if the answer is done.
abbrev pub is_done : Answer → Bool
is_done Done = true
is_done (Number v) = false
is_done (WroteBack e fate) = false
is_done Wait = false
is_done Lost = false
is_done (Refused r) = false

abbrev pub is_lost : Answer → Bool
is_lost Done = false
is_lost (Number v) = false
is_lost (WroteBack e fate) = false
is_lost Wait = false
is_lost Lost = true
is_lost (Refused r) = false
