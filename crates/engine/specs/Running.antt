-- What a call carries on: the run that has led to the engine, with its law.
use Rattle.std.specs.Prelude.{◌≤◌, Bool, List, ◌∷◌, length}
use Rattle.plant.specs.Meaning.{Meaning}
use Rattle.rules.specs.State.{State}
use Rattle.rules.specs.declared.Call.{Call}
use Rattle.rules.specs.declared.Answer.{Answer}
use Rattle.law.specs.History.{History, Leads}
use Rattle.law.specs.Law.{LawOfRun}

-- The history leads from a new engine over the table to the state, and has the law of a run, whole.
pub record RunsTo {K : Type 0} (above : K → K → Bool) (m : Meaning) (h : History K) (s : State) : Type 0 where
  pub leads : Leads above m h s
  pub law : LawOfRun above m h s

-- Whatever table was opened, and whatever history has led to the engine as found: that history with this
-- call and its answer leads to the engine as left, and has the law of a run.
abbrev pub LawGoesOn : {K : Type 0} → (K → K → Bool) → State → List K → Call K → Answer → State → Type 0
LawGoesOn {K} above found ranks call answer left =
    (m : Meaning) (h : History K) → length m.numbers ≤ 256 → Leads above m h found →
    RunsTo above m (record { call = call; ranks = ranks; answer = answer } ∷ h) left
