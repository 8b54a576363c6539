-- Trials of the scaling run: what it must come to on worked examples of three elements, with grades. Client 1 runs.
use Rattle.std.specs.Prelude.{◌≡◌, ℕ, Bool, true, false, List, [], ◌∷◌, map, replicate, ℤ, pos, negsuc, Ok, Err, Result, slice_index_or}
use Rattle.plant.specs.Meaning.{Meaning}
use Rattle.plant.specs.declared.refusals.Refusal.TheVariants.{NumberOutsideLimits, NoSuchElement, AlreadyOpen, ThrownOut as WasThrownOut, NotScalable}
use Rattle.ranks.specs.declared.Grade.{Grade}
use Rattle.ranks.specs.Kinds.{grade_above}
use Rattle.rules.specs.State.{State, opening, locked}
use Rattle.rules.specs.Calls.{Outcome}
use Rattle.rules.specs.Step.{step, ranks_after}
use Rattle.rules.specs.Trials.{element, begin, read_lock, write_lock, commit}
use Rattle.rules.specs.declared.Call.{Call}
use Rattle.rules.specs.declared.ClientState.{ClientState}
use Rattle.rules.specs.declared.ClientState.TheVariants.{Idle, Executing, Committing, ThrownOut}
use Rattle.scaling.specs.Run.{Ran, scaling_run}
use Rattle.scaling.specs.declared.run.Pair.{Pair}
use Rattle.scaling.specs.declared.run.Ratio.{Ratio}
use Rattle.scaling.specs.declared.run.Stop.{Stop}
use Rattle.scaling.specs.declared.run.Stop.TheVariants.{Refused, Wait, Lost}
use Rattle.scaling.specs.declared.run.Stopped.{Stopped}

-- What is seen after a run: how it has gone, the table's numbers, the states of client 1 and of client 2, which elements
-- are locked, and the entry of client 1 in the rank list.
pub record Seen : Type 0 where
  pub result : Result (Unit {0}) Stopped
  pub numbers : List ℤ
  pub runner : ClientState
  pub other : ClientState
  pub locks : List Bool
  pub rank : Grade

-- A trial: the table's numbers, the calls before the run, the run's grade, ratio and pairs, and what has to be seen.
pub record RunTrial : Type 0 where
  pub numbers : List ℤ
  pub before : List (Call Grade)
  pub grade : ℕ
  pub ratio : Ratio
  pub pairs : List Pair
  pub expected : Seen

abbrev pub over : ℕ → ℕ → Ratio
over first second = record { first = first; second = second }

infix 20 ◌⟶◌
abbrev pub ◌⟶◌ : ℕ → ℕ → Pair
base ⟶ target = record { base = element base; target = element target }

abbrev pub grade : ℕ → Grade
grade g = record { 0 = g }

-- A run that came through, and one that stopped.
abbrev pub came_through : Result (Unit {0}) Stopped
came_through = Ok tt

abbrev pub stopped_at : ℕ → Stop → Result (Unit {0}) Stopped
stopped_at pair why = Err (record { pair = pair; why = why })

abbrev pub three : ℤ → ℤ → ℤ → List ℤ
three a b c = a ∷ b ∷ c ∷ []

abbrev pub none_locked : List Bool
none_locked = false ∷ false ∷ false ∷ []

abbrev pub first_locked : List Bool
first_locked = true ∷ false ∷ false ∷ []

-- Where no other client is about: nothing is locked, and client 1 is idle.
abbrev pub alone : Result (Unit {0}) Stopped → List ℤ → ℕ → Seen
alone result numbers g =
    record { result = result; numbers = numbers; runner = Idle; other = Idle; locks = none_locked; rank = grade g }

abbrev pub table_of : List ℤ → Meaning
table_of numbers = record { numbers = numbers; lowest = negsuc 2_147_483_647; highest = pos 2_147_483_647 }

-- The run behind the calls before it. The one rank list goes from call to call.
abbrev pub play_on : Outcome → List Grade → Call Grade → (State → List Grade → Ran Grade) → Ran Grade
play_on o ranks call rest = rest o.state (ranks_after ranks call o.answer)

abbrev pub play_before : State → List Grade → List (Call Grade) → (State → List Grade → Ran Grade) → Ran Grade
play_before s ranks [] run = run s ranks
play_before s ranks (x ∷ xs) run = play_on (step grade_above s ranks x) ranks x (λ later ranks'. play_before later ranks' xs run)

abbrev pub trial_run : RunTrial → Ran Grade
trial_run t =
    play_before (opening (table_of t.numbers)) (replicate 16 (grade 0)) t.before
    (λ s ranks. scaling_run grade_above s ranks 1 (grade t.grade) t.ratio t.pairs)

abbrev pub seen : Ran Grade → Seen
seen r =
    record {
      result = r.result;
      numbers = r.state.table.numbers;
      runner = r.state.clients 1;
      other = r.state.clients 2;
      locks = locked r.state 0 ∷ locked r.state 1 ∷ locked r.state 2 ∷ [];
      rank = slice_index_or r.ranks 1 (grade 0);
    }

-- A target becomes one and a half times its base.
abbrev pub scales_a_target : RunTrial
scales_a_target =
    record {
      numbers = three (pos 100) (pos 40) (pos 7);
      before = [];
      grade = 5;
      ratio = over 3 2;
      pairs = (0 ⟶ 1) ∷ [];
      expected = alone came_through (three (pos 100) (pos 150) (pos 7)) 5;
    }

-- A half goes up.
abbrev pub halves_go_up : RunTrial
halves_go_up =
    record {
      numbers = three (pos 1) (pos 0) (pos 3);
      before = [];
      grade = 5;
      ratio = over 1 2;
      pairs = (0 ⟶ 1) ∷ (2 ⟶ 0) ∷ [];
      expected = alone came_through (three (pos 2) (pos 1) (pos 3)) 5;
    }

-- A third goes down and two thirds go up, where each element is its own base.
abbrev pub thirds_go_to_the_nearest : RunTrial
thirds_go_to_the_nearest =
    record {
      numbers = three (pos 4) (pos 5) (pos 0);
      before = [];
      grade = 5;
      ratio = over 1 3;
      pairs = (0 ⟶ 0) ∷ (1 ⟶ 1) ∷ (2 ⟶ 2) ∷ [];
      expected = alone came_through (three (pos 1) (pos 2) (pos 0)) 5;
    }

-- A base that was the target of an earlier pair has its new number.
abbrev pub goes_on_from_a_target : RunTrial
goes_on_from_a_target =
    record {
      numbers = three (pos 100) (pos 40) (pos 7);
      before = [];
      grade = 5;
      ratio = over 2 1;
      pairs = (0 ⟶ 1) ∷ (1 ⟶ 2) ∷ [];
      expected = alone came_through (three (pos 100) (pos 200) (pos 400)) 5;
    }

-- Of two pairs with one target the later counts.
abbrev pub the_later_target_counts : RunTrial
the_later_target_counts =
    record {
      numbers = three (pos 100) (pos 40) (pos 7);
      before = [];
      grade = 5;
      ratio = over 1 1;
      pairs = (0 ⟶ 2) ∷ (1 ⟶ 2) ∷ [];
      expected = alone came_through (three (pos 100) (pos 40) (pos 40)) 5;
    }

-- The largest numbers that a ratio may have, and the most pairs.
abbrev pub largest_ratio : RunTrial
largest_ratio =
    record {
      numbers = three (pos 100) (pos 40) (pos 7);
      before = [];
      grade = 5;
      ratio = over 10_000 10_000;
      pairs = replicate 16 (0 ⟶ 1);
      expected = alone came_through (three (pos 100) (pos 100) (pos 7)) 5;
    }

-- A ratio has no zero as its first number: the run stops before its client begins.
abbrev pub ratio_from_nothing : RunTrial
ratio_from_nothing =
    record {
      numbers = three (pos 100) (pos 40) (pos 7);
      before = [];
      grade = 5;
      ratio = over 0 1;
      pairs = (0 ⟶ 1) ∷ [];
      expected = alone (stopped_at 0 (Refused NotScalable)) (three (pos 100) (pos 40) (pos 7)) 0;
    }

-- Nor as its second.
abbrev pub ratio_over_nothing : RunTrial
ratio_over_nothing =
    record {
      numbers = three (pos 100) (pos 40) (pos 7);
      before = [];
      grade = 5;
      ratio = over 1 0;
      pairs = (0 ⟶ 1) ∷ [];
      expected = alone (stopped_at 0 (Refused NotScalable)) (three (pos 100) (pos 40) (pos 7)) 0;
    }

-- Nor has it a number above 10,000.
abbrev pub ratio_too_large : RunTrial
ratio_too_large =
    record {
      numbers = three (pos 100) (pos 40) (pos 7);
      before = [];
      grade = 5;
      ratio = over 10_001 1;
      pairs = (0 ⟶ 1) ∷ [];
      expected = alone (stopped_at 0 (Refused NotScalable)) (three (pos 100) (pos 40) (pos 7)) 0;
    }

-- A run needs a pair, which is looked at before the client's state.
abbrev pub no_pairs : RunTrial
no_pairs =
    record {
      numbers = three (pos 100) (pos 40) (pos 7);
      before = begin 1 5 ∷ [];
      grade = 9;
      ratio = over 1 1;
      pairs = [];
      expected =
          record {
            result = stopped_at 0 (Refused NotScalable);
            numbers = three (pos 100) (pos 40) (pos 7);
            runner = Executing;
            other = Idle;
            locks = none_locked;
            rank = grade 5;
          };
    }

-- And has at most 16.
abbrev pub too_many_pairs : RunTrial
too_many_pairs =
    record {
      numbers = three (pos 100) (pos 40) (pos 7);
      before = [];
      grade = 5;
      ratio = over 1 1;
      pairs = replicate 17 (0 ⟶ 1);
      expected = alone (stopped_at 0 (Refused NotScalable)) (three (pos 100) (pos 40) (pos 7)) 0;
    }

-- A client with a transaction open keeps it, with its rank.
abbrev pub begun_already : RunTrial
begun_already =
    record {
      numbers = three (pos 100) (pos 40) (pos 7);
      before = begin 1 5 ∷ write_lock 1 0 ∷ [];
      grade = 9;
      ratio = over 1 1;
      pairs = (0 ⟶ 1) ∷ [];
      expected =
          record {
            result = stopped_at 0 (Refused AlreadyOpen);
            numbers = three (pos 100) (pos 40) (pos 7);
            runner = Executing;
            other = Idle;
            locks = first_locked;
            rank = grade 5;
          };
    }

-- A client that was thrown out before has to clear first.
abbrev pub not_cleared : RunTrial
not_cleared =
    record {
      numbers = three (pos 100) (pos 40) (pos 7);
      before = begin 1 1 ∷ read_lock 1 0 ∷ begin 2 9 ∷ write_lock 2 0 ∷ [];
      grade = 5;
      ratio = over 1 1;
      pairs = (0 ⟶ 1) ∷ [];
      expected =
          record {
            result = stopped_at 0 (Refused WasThrownOut);
            numbers = three (pos 100) (pos 40) (pos 7);
            runner = ThrownOut;
            other = Executing;
            locks = first_locked;
            rank = grade 1;
          };
    }

-- A negative base stops the run at its pair, and nothing is changed.
abbrev pub negative_base : RunTrial
negative_base =
    record {
      numbers = three (pos 100) (negsuc 2) (pos 7);
      before = [];
      grade = 5;
      ratio = over 2 1;
      pairs = (0 ⟶ 2) ∷ (1 ⟶ 0) ∷ [];
      expected = alone (stopped_at 2 (Refused NotScalable)) (three (pos 100) (negsuc 2) (pos 7)) 5;
    }

-- So does a base that the table has not,
abbrev pub no_such_base : RunTrial
no_such_base =
    record {
      numbers = three (pos 100) (pos 40) (pos 7);
      before = [];
      grade = 5;
      ratio = over 2 1;
      pairs = (0 ⟶ 2) ∷ (3 ⟶ 0) ∷ [];
      expected = alone (stopped_at 2 (Refused NoSuchElement)) (three (pos 100) (pos 40) (pos 7)) 5;
    }

-- or a target,
abbrev pub no_such_target : RunTrial
no_such_target =
    record {
      numbers = three (pos 100) (pos 40) (pos 7);
      before = [];
      grade = 5;
      ratio = over 2 1;
      pairs = (0 ⟶ 3) ∷ (0 ⟶ 1) ∷ [];
      expected = alone (stopped_at 1 (Refused NoSuchElement)) (three (pos 100) (pos 40) (pos 7)) 5;
    }

-- or a scaled number outside the table's limits.
abbrev pub outside_the_limits : RunTrial
outside_the_limits =
    record {
      numbers = three (pos 100) (pos 2_000_000_000) (pos 7);
      before = [];
      grade = 5;
      ratio = over 11 10;
      pairs = (0 ⟶ 2) ∷ (1 ⟶ 0) ∷ [];
      expected = alone (stopped_at 2 (Refused NumberOutsideLimits)) (three (pos 100) (pos 2_000_000_000) (pos 7)) 5;
    }

-- Against a higher grade the run is lost, and its client is idle again.
abbrev pub loses : RunTrial
loses =
    record {
      numbers = three (pos 100) (pos 40) (pos 7);
      before = begin 2 9 ∷ write_lock 2 0 ∷ [];
      grade = 5;
      ratio = over 2 1;
      pairs = (1 ⟶ 2) ∷ (0 ⟶ 1) ∷ [];
      expected =
          record {
            result = stopped_at 2 Lost;
            numbers = three (pos 100) (pos 40) (pos 7);
            runner = Idle;
            other = Executing;
            locks = first_locked;
            rank = grade 5;
          };
    }

-- A run does not wait for a committing client: it gives up.
abbrev pub does_not_wait : RunTrial
does_not_wait =
    record {
      numbers = three (pos 100) (pos 40) (pos 7);
      before = begin 2 1 ∷ write_lock 2 0 ∷ commit 2 ∷ [];
      grade = 5;
      ratio = over 2 1;
      pairs = (1 ⟶ 2) ∷ (0 ⟶ 1) ∷ [];
      expected =
          record {
            result = stopped_at 2 Wait;
            numbers = three (pos 100) (pos 40) (pos 7);
            runner = Idle;
            other = Committing;
            locks = first_locked;
            rank = grade 5;
          };
    }

-- A lower grade in its way is thrown out.
abbrev pub throws_out : RunTrial
throws_out =
    record {
      numbers = three (pos 100) (pos 40) (pos 7);
      before = begin 2 1 ∷ write_lock 2 0 ∷ [];
      grade = 5;
      ratio = over 2 1;
      pairs = (0 ⟶ 1) ∷ [];
      expected =
          record {
            result = came_through;
            numbers = three (pos 100) (pos 200) (pos 7);
            runner = Idle;
            other = ThrownOut;
            locks = none_locked;
            rank = grade 5;
          };
    }

-- A base is read beside another reader, whatever the grades.
abbrev pub shares_a_base : RunTrial
shares_a_base =
    record {
      numbers = three (pos 100) (pos 40) (pos 7);
      before = begin 2 9 ∷ read_lock 2 0 ∷ [];
      grade = 5;
      ratio = over 2 1;
      pairs = (0 ⟶ 1) ∷ [];
      expected =
          record {
            result = came_through;
            numbers = three (pos 100) (pos 200) (pos 7);
            runner = Idle;
            other = Executing;
            locks = first_locked;
            rank = grade 5;
          };
    }

abbrev pub run_trials : List RunTrial
run_trials =
    scales_a_target ∷ halves_go_up ∷ thirds_go_to_the_nearest ∷ goes_on_from_a_target ∷ the_later_target_counts ∷
    largest_ratio ∷ ratio_from_nothing ∷ ratio_over_nothing ∷ ratio_too_large ∷ no_pairs ∷ too_many_pairs ∷
    begun_already ∷ not_cleared ∷ negative_base ∷ no_such_base ∷ no_such_target ∷ outside_the_limits ∷ loses ∷
    does_not_wait ∷ throws_out ∷ shares_a_base ∷ []

-- Every run comes out as expected.
abbrev pub RunTrialsHold : Type 0
RunTrialsHold = map (λ t. seen (trial_run t)) run_trials ≡ map (λ (t : RunTrial). t.expected) run_trials
