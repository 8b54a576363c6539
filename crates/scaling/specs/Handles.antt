-- The answers of the calls by a handle, as the rules have them.
use Rattle.std.specs.Prelude.{Ok, Err, Result}
use Rattle.plant.specs.declared.refusals.Refusal.{Refusal}
use Rattle.plant.specs.declared.refusals.Refusal.TheVariants.{NotOpen as WasNotOpen}
use Rattle.rules.specs.declared.Answer.{Answer}
use Rattle.rules.specs.declared.Answer.TheVariants.{Done as IsDone, Refused}
use Rattle.scaling.specs.declared.handles.Open.{Open}
use Rattle.scaling.specs.declared.handles.Kept.{Kept}
use Rattle.scaling.specs.declared.handles.Spent.{Spent}
use Rattle.scaling.specs.declared.handles.Spent.TheVariants.{Done, NotOpen}

-- Done with a handle, or refused with none.
abbrev pub begun_answer : Result Open Refusal → Answer
begun_answer (Ok opened) = IsDone
begun_answer (Err r) = Refused r

-- Done, or refused with the handle kept.
abbrev pub kept_answer : {V H : Type 0} → Result V (Kept H) → Answer
kept_answer (Ok v) = IsDone
kept_answer (Err kept) = Refused kept.refusal

-- How a handle was spent: by a call that is done, or by one that found no transaction open.
abbrev pub spent_answer : Spent → Answer
spent_answer Done = IsDone
spent_answer NotOpen = Refused WasNotOpen

-- Spent, or refused with the handle kept.
abbrev pub ended_answer : {H : Type 0} → Result Spent (Kept H) → Answer
ended_answer (Ok spent) = spent_answer spent
ended_answer (Err kept) = Refused kept.refusal
