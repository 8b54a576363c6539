-- What a line of a script brings about: before the open, and after it.
use Rattle.std.specs.Prelude.{◌≡◌, ℕ, Bool, List, Some, None, Ok, Err, Option, Result}
use Rattle.plant.specs.Meaning.{Meaning}
use Rattle.rules.specs.Step.{step, ranks_after}
use Rattle.rules.specs.declared.Call.{Call}
use Rattle.rules.specs.declared.Answer.{Answer}
use Rattle.engine.specs.Answering.{state_of, left_with}
use Rattle.engine.specs.Running.{LawGoesOn}
use Rattle.engine.specs.declared.opening.Engine.{Engine}
use Rattle.forms.specs.declared.makers.Form.{Form}
use Rattle.forms.specs.declared.shapes.RankKind.{RankKind}
use Rattle.script.specs.Reading.{Reads}
use Rattle.script.specs.declared.reader.Fault.{Fault}
use Rattle.driver.specs.declared.opening.Opening.{Opening}

-- A line before the open: it is faulty, with the fault that it reads as where nothing was opened, or it is the open.
pub data Opens (line : List ℕ) (answer : Result Opening Fault) : Type 0 where
  no_open : (fault : Fault) → Reads None line (Err fault) → answer ≡ Err fault → Opens line answer
  opened : (opening : Opening) → Reads None line (Ok (Form.Open opening.count opening.kind)) → answer ≡ Ok opening → Opens line answer

-- A call is made of an engine: the answer, the state and the rank list are those of one step of the rules, and every run that
-- has led to the engine goes on with it, with its law.
pub record Makes {T K : Type 0} (meaning : T → Meaning) (above : K → K → Bool) (found : Engine T) (ranks : List K) (call : Call K) (answer : Answer) (left : Engine T) (ranks_left : List K) : Type 0 where
  pub steps : left_with meaning left answer ≡ step above (state_of meaning found) ranks call
  pub ranked : ranks_left ≡ ranks_after ranks call answer
  pub law : LawGoesOn above (state_of meaning found) ranks call answer (state_of meaning left)

-- A line after an open with this rank kind, given the call that each form asks for. Either the line is faulty: then the answer is
-- the fault that it reads as, and the engine, its table and the rank list are as they were. Or it reads as a form that asks for
-- a call, and that call is made.
pub data Plays {T K : Type 0} (kind : RankKind) (call_of : Form → Option (Call K)) (meaning : T → Meaning) (above : K → K → Bool) (found : Engine T) (ranks : List K) (line : List ℕ) (answer : Result Answer Fault) (left : Engine T) (ranks_left : List K) : Type 0 where
  faulty : (fault : Fault) → Reads (Some kind) line (Err fault) → answer ≡ Err fault → left ≡ found → ranks_left ≡ ranks → Plays kind call_of meaning above found ranks line answer left ranks_left
  makes : (form : Form) (call : Call K) (says : Answer) → Reads (Some kind) line (Ok form) → call_of form ≡ Some call → answer ≡ Ok says → Makes meaning above found ranks call says left ranks_left → Plays kind call_of meaning above found ranks line answer left ranks_left
