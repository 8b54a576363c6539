-- The scaling run: the rules, played on the calls that it makes. It reads a base and changes a target, pair by
-- pair, in one transaction.
use Rattle.std.specs.Prelude.{◌≡◌, ℕ, zero, suc, ◌+◌, ◌*◌, ◌/◌, ◌<◌, ◌≤◌, ◌↔◌, Bool, if◌then◌else◌, ◌&&◌, List, [], ◌∷◌, length, pos, negsuc, Some, None, Ok, Err, Option, Result, nat_lt}
use Rattle.plant.specs.Meaning.{Meaning}
use Rattle.plant.specs.declared.refusals.Refusal.TheVariants.{NotScalable}
use Rattle.rules.specs.State.{State}
use Rattle.rules.specs.Calls.{Outcome, begin_call, lock_call, read_call, change_call, commit_call, write_back_call, end_call, give_up_call, clear_call}
use Rattle.rules.specs.Step.{written_by_begin}
use Rattle.rules.specs.declared.ClientState.{ClientState}
use Rattle.rules.specs.declared.ClientState.TheVariants.{Idle, Executing, Committing, ThrownOut}
use Rattle.rules.specs.declared.LockKind.TheVariants.{Read, Write}
use Rattle.rules.specs.declared.Answer.{Answer}
use Rattle.rules.specs.declared.Answer.TheVariants.{Done, Number, WroteBack, Wait as Waits, Lost as IsLost, Refused as IsRefused}
use Rattle.engine.specs.Answering.{state_of}
use Rattle.engine.specs.declared.opening.Engine.{Engine}
use Rattle.scaling.specs.declared.run.Pair.{Pair}
use Rattle.scaling.specs.declared.run.Ratio.{Ratio}
use Rattle.scaling.specs.declared.run.Stop.{Stop}
use Rattle.scaling.specs.declared.run.Stop.TheVariants.{Refused, Wait, Lost}
use Rattle.scaling.specs.declared.run.Stopped.{Stopped}

-- A run is of a ratio of two numbers from 1 to 10,000, and of 1 to 16 pairs.
abbrev pub is_from_1_to : ℕ → ℕ → Bool
is_from_1_to most n = nat_lt 0 n && nat_lt n (suc most)

abbrev pub is_scalable : Ratio → List Pair → Bool
is_scalable ratio pairs = is_from_1_to 10_000 ratio.first && is_from_1_to 10_000 ratio.second && is_from_1_to 16 (length pairs)

-- A number times the first of the ratio, over the second, rounded to a whole number, halves up.
abbrev pub scaled : Ratio → ℕ → ℕ
scaled ratio v = (2 * v * ratio.first + ratio.second) / (2 * ratio.second)

-- What r has to be: 2 × v × first goes from 2 × r × second - second, included, to 2 × r × second + second, excluded.
pub record IsRounded (ratio : Ratio) (v r : ℕ) : Type 0 where
  pub low : 2 * r * ratio.second ≤ 2 * v * ratio.first + ratio.second
  pub high : 2 * v * ratio.first < 2 * r * ratio.second + ratio.second

-- The scaled number is that whole number, and no other is.
abbrev pub RoundsHalvesUp : Type 0
RoundsHalvesUp = (ratio : Ratio) (v r : ℕ) → 0 < ratio.second → IsRounded ratio v r ↔ (r ≡ scaled ratio v)

-- What stops a run: a refusal, a wait, a lost lock.
abbrev pub stop_of : Answer → Option Stop
stop_of Done = None
stop_of (Number v) = None
stop_of (WroteBack e f) = None
stop_of Waits = Some Wait
stop_of IsLost = Some Lost
stop_of (IsRefused r) = Some (Refused r)

-- The same of a step of the code.
abbrev pub stop_from : {V : Type 0} → Result V Stop → Option Stop
stop_from (Ok v) = None
stop_from (Err why) = Some why

-- What a run comes to behind its begin: the state that it leaves, and how it has gone.
pub record Ended : Type 0 where
  pub state : State
  pub result : Result (Unit {0}) Stopped

-- A client that stops leaves its transaction: thrown out it clears, else it gives up.
abbrev pub leaving_call : ClientState → State → ℕ → Outcome
leaving_call Idle s c = give_up_call s c
leaving_call Executing s c = give_up_call s c
leaving_call Committing s c = give_up_call s c
leaving_call ThrownOut s c = clear_call s c

abbrev pub stopped : ℕ → ℕ → Stop → State → Ended
stopped c pair why s = record { state = (leaving_call (s.clients c) s c).state; result = Err (record { pair = pair; why = why }) }

-- A call of the client c at a pair: the run goes on with what the call leaves, or stops.
abbrev pub goes_on : Option Stop → ℕ → ℕ → State → (State → Ended) → Ended
goes_on None c pair s rest = rest s
goes_on (Some why) c pair s rest = stopped c pair why s

abbrev pub then_on : ℕ → ℕ → Outcome → (State → Ended) → Ended
then_on c pair call rest = goes_on (stop_of call.answer) c pair call.state rest

-- The number of a base, if it is one that scales: a number that is not negative.
abbrev pub base_number : Answer → Option ℕ
base_number Done = None
base_number (Number (pos v)) = Some v
base_number (Number (negsuc v)) = None
base_number (WroteBack e f) = None
base_number Waits = None
base_number IsLost = None
base_number (IsRefused r) = None

abbrev pub with_base : Option ℕ → ℕ → ℕ → State → (ℕ → Ended) → Ended
with_base None c pair s rest = stopped c pair (Refused NotScalable) s
with_base (Some v) c pair s rest = rest v

-- One pair: the base is locked for reading, the target for writing, the base is read, the target changed.
abbrev pub scale_pair : {K : Type 0} → (K → K → Bool) → List K → ℕ → Ratio → ℕ → Pair → State → (State → Ended) → Ended
scale_pair above ranks c ratio pair p s rest =
    then_on c pair (lock_call above ranks s c Read p.base.0) (λ s.
    then_on c pair (lock_call above ranks s c Write p.target.0) (λ s.
    then_on c pair (read_call s c p.base.0) (λ s.
    with_base (base_number (read_call s c p.base.0).answer) c pair s (λ v.
    then_on c pair (change_call s c p.target.0 (pos (scaled ratio v))) rest))))

-- What was changed goes back, one element at a time; a write back that finds none left changes nothing.
abbrev pub write_backs : ℕ → ℕ → State → State
write_backs zero c s = s
write_backs (suc n) c s = write_backs n c (write_back_call s c).state

-- A run that is through.
abbrev pub through : State → Ended
through s = record { state = s; result = Ok tt }

-- The run's end behind its last pair. No more elements were changed than there are pairs.
abbrev pub finish : ℕ → ℕ → State → Ended
finish c pairs s =
    then_on c pairs (commit_call s c) (λ s.
    then_on c pairs (end_call (write_backs pairs c s) c)
    through)

-- The pairs in their order, with so many behind.
abbrev pub scale_pairs : {K : Type 0} → (K → K → Bool) → List K → ℕ → Ratio → ℕ → List Pair → State → Ended
scale_pairs above ranks c ratio behind [] s = finish c behind s
scale_pairs above ranks c ratio behind (p ∷ ps) s =
    scale_pair above ranks c ratio (behind + 1) p s (λ s. scale_pairs above ranks c ratio (behind + 1) ps s)

-- What becomes of a run whose pairs have gone so.
abbrev pub after_pairs : Result (Unit {0}) Stopped → ℕ → ℕ → State → Ended
after_pairs (Ok done) c pairs s = finish c pairs s
after_pairs (Err at) c pairs s = stopped c at.pair at.why s

-- What a run comes to: the state and the rank list that it leaves, and how it has gone.
pub record Ran (K : Type 0) : Type 0 where
  pub state : State
  pub ranks : List K
  pub result : Result (Unit {0}) Stopped

abbrev pub ran : {K : Type 0} → List K → Ended → Ran K
ran ranks e = record { state = e.state; ranks = ranks; result = e.result }

-- A run that stops before its client has begun leaves all to itself.
abbrev pub not_begun : {K : Type 0} → Stop → State → List K → Ran K
not_begun why s ranks = record { state = s; ranks = ranks; result = Err (record { pair = 0; why = why }) }

abbrev pub from_begin : {K : Type 0} → Option Stop → State → List K → (State → Ended) → Ran K
from_begin None s ranks rest = ran ranks (rest s)
from_begin (Some why) s ranks rest = not_begun why s ranks

abbrev pub begun : {K : Type 0} → Outcome → List K → ℕ → K → (List K → State → Ended) → Ran K
begun call ranks c k rest = from_begin (stop_of call.answer) call.state (written_by_begin call.answer ranks c k) (rest (written_by_begin call.answer ranks c k))

-- The run of a client by a ratio over pairs.
abbrev pub scaling_run : {K : Type 0} → (K → K → Bool) → State → List K → ℕ → K → Ratio → List Pair → Ran K
scaling_run above s ranks c k ratio pairs =
    if is_scalable ratio pairs
    then begun (begin_call s (length ranks) c) ranks c k (λ ranks s. scale_pairs above ranks c ratio 0 pairs s)
    else not_begun (Refused NotScalable) s ranks

-- What the code has left, with how it has gone.
abbrev pub ended_with : {T : Type 0} → (T → Meaning) → Engine T → Result (Unit {0}) Stopped → Ended
ended_with meaning e result = record { state = state_of meaning e; result = result }

abbrev pub ran_with : {T K : Type 0} → (T → Meaning) → Engine T → List K → Result (Unit {0}) Stopped → Ran K
ran_with meaning e ranks result = ran ranks (ended_with meaning e result)
