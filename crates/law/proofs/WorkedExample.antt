-- The worked history, by computation.
use Rattle.std.proofs.Common.{◌≡◌, ℕ, Bool, List, [], ◌∷◌, pos, refl, arith}
use Rattle.plant.specs.Meaning.{Meaning, number}
use Rattle.ranks.specs.Kinds.{grade_above}
use Rattle.rules.specs.Scans.{some_below, count_below, first_below}
use Rattle.rules.specs.State.{State, opening}
use Rattle.rules.specs.Step.{step}
use Rattle.rules.specs.Trials.{hundreds}
use Rattle.rules.specs.declared.Answer.{Answer}
use Rattle.law.specs.History.{History, Leads}
use Rattle.law.specs.Play.{Right, all_steps}
use Rattle.law.specs.Worked.{worked, undisplaced, WorkedExample}

module _ {K : Type 0} (above : K → K → Bool) (m : Meaning) where
  -- The state to which the calls of a history lead, and what the rules answer to them.
  abbrev state_after : History K → State
  state_after [] = opening m
  state_after (x ∷ h) = (step above (state_after h) x.ranks x.call).state

  abbrev answers_to : History K → List Answer
  answers_to [] = []
  answers_to (x ∷ h) = (step above (state_after h) x.ranks x.call).answer ∷ answers_to h

  abbrev answers_of : History K → List Answer
  answers_of [] = []
  answers_of (x ∷ h) = x.answer ∷ answers_of h

  -- Where these are the answers of the history, it is a run.
  leads_there : (h : History K) → answers_to h ≡ answers_of h → Leads above m h (state_after h)
  leads_there [] e = refl
  leads_there (x ∷ h) e =
      let now : (step above (state_after h) x.ranks x.call).answer ≡ x.answer = cc in
      let before : answers_to h ≡ answers_of h = cc in
      (state_after h, leads_there h before, λ i. record { state = state_after (x ∷ h); answer = now i })

same_answers : answers_to grade_above (hundreds 3) worked ≡ answers_of grade_above (hundreds 3) worked
unfolding some_below count_below first_below
same_answers = refl

wrong_read : Right (number (hundreds 3)) (all_steps (undisplaced worked)) → pos 800 ≡ pos 510
unfolding some_below count_below first_below
wrong_read r = r.1.1.1.1.1.1.1.0

never_equal : pos 800 ≡ pos 510 → ⊥
never_equal z = let y : ◌≡◌ {A = ℕ} 800 510 = cc in omega arith

pub worked_example : WorkedExample
unfolding some_below count_below first_below
worked_example =
    record {
      final = state_after grade_above (hundreds 3) worked;
      leads = leads_there grade_above (hundreds 3) worked same_answers;
      in_order = refl;
      steps = refl;
      by_moments = refl;
      not_right = λ r. never_equal (wrong_read r);
    }
