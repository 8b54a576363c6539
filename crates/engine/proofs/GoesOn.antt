-- A step of the rules carries every run on, with its law.
use Rattle.std.proofs.Common.{◌≡◌, Bool, List, ◌∷◌, sym}
use Rattle.ranks.specs.Standing.{Order}
use Rattle.rules.specs.State.{State}
use Rattle.rules.specs.Calls.{answered}
use Rattle.rules.specs.Step.{step}
use Rattle.rules.specs.declared.Call.{Call}
use Rattle.rules.specs.declared.Answer.{Answer}
use Rattle.law.specs.History.{Leads}
use Rattle.law.proofs.RunLaw.{every_run}
use Rattle.engine.specs.Running.{LawGoesOn}

pub goes_on : {K : Type 0} (above : K → K → Bool) → Order above → (found : State) (ranks : List K) (call : Call K) (answer : Answer) (left : State) →
    answered left answer ≡ step above found ranks call → LawGoesOn above found ranks call answer left
goes_on above O found ranks call answer left e m h few r =
    let longer : Leads above m (record { call = call; ranks = ranks; answer = answer } ∷ h) left = (found, r, sym e) in
    record { leads = longer; law = every_run above O m (record { call = call; ranks = ranks; answer = answer } ∷ h) left few longer }
