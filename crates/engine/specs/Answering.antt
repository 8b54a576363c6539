-- The answers of the calls, as the rules have them, and what a call leaves.
use Rattle.std.specs.Prelude.{ℕ, if◌then◌else◌, ℤ, Some, None, Ok, Err, Option, Result, nat_lt}
use Rattle.plant.specs.Meaning.{Meaning}
use Rattle.plant.specs.declared.refusals.Refusal.{Refusal}
use Rattle.plant.specs.declared.refusals.Refusal.TheVariants.{PointerOutOfRange, PointerNotBound, ClientOutOfRange, RankListTooShort}
use Rattle.plant.specs.declared.tables.Element.{Element}
use Rattle.rules.specs.States.{met}
use Rattle.rules.specs.State.{State}
use Rattle.rules.specs.Locking.{conflicts, leave, gain}
use Rattle.rules.specs.Calls.{Outcome, answered}
use Rattle.rules.specs.declared.ClientState.TheVariants.{ThrownOut}
use Rattle.rules.specs.declared.Answer.{Answer}
use Rattle.rules.specs.declared.Answer.TheVariants.{Done, Number, WroteBack, Wait as Waits, Lost as IsLost, Refused}
use Rattle.rules.specs.declared.ClientState.{ClientState}
use Rattle.rules.specs.declared.Fate.{Fate}
use Rattle.rules.specs.declared.Move.{Move}
use Rattle.inner.specs.declared.known.KnownElement.{KnownElement}
use Rattle.book.specs.Model.{model}
use Rattle.book.specs.declared.requests.Request.{Request}
use Rattle.engine.specs.declared.opening.Engine.{Engine}
use Rattle.engine.specs.declared.answers.Locking.{Locking}
use Rattle.engine.specs.declared.answers.Locking.TheVariants.{Granted, Wait, Lost}

-- Done, or refused.
abbrev pub done_answer : Result (Unit {0}) Refusal → Answer
done_answer (Ok u) = Done
done_answer (Err r) = Refused r

-- A number, or refused.
abbrev pub number_answer : Result ℤ Refusal → Answer
number_answer (Ok v) = Number v
number_answer (Err r) = Refused r

-- An element with its fate, or refused.
abbrev pub back_answer : Result (Element × Fate) Refusal → Answer
back_answer (Ok p) = WroteBack p.0 p.1
back_answer (Err r) = Refused r

-- How a lock comes out: granted is done.
abbrev pub locking_answer : Locking → Answer
locking_answer Granted = Done
locking_answer Wait = Waits
locking_answer Lost = IsLost

abbrev pub lock_answer : Result Locking Refusal → Answer
lock_answer (Ok l) = locking_answer l
lock_answer (Err r) = Refused r

-- The state that an engine stands in, by what its table means.
abbrev pub state_of : {T : Type 0} → (T → Meaning) → Engine T → State
state_of meaning e = model (meaning e.table) e.book.inner

-- An element that is known, or the refusal.
abbrev pub element_in : Result KnownElement Refusal → Result Element Refusal
element_in (Ok k) = Ok k.element
element_in (Err r) = Err r

-- How a call that looks at the rank list is met: by the client's number, by how many entries the list has, by
-- the client's state.
abbrev pub met_with_ranks : State → ℕ → Move → ℕ → Result ClientState Refusal
met_with_ranks s c move entries = if nat_lt c 16 then (if nat_lt entries 16 then Err RankListTooShort else met (s.clients c) move) else Err ClientOutOfRange

-- What a granted request leaves: all that stand in its way are thrown out, and then the client gains the lock.
abbrev pub granted : State → Request → State
granted s r = gain r.client.0 r.kind r.element.0 (leave (λ d. conflicts s r.client.0 r.kind r.element.0 d) ThrownOut s)

-- What a call left, with its answer.
abbrev pub left_with : {T : Type 0} → (T → Meaning) → Engine T → Answer → Outcome
left_with meaning e a = answered (state_of meaning e) a

-- The element of a pointer that is bound, or the refusal of any other.
abbrev pub element_tied : Option Element → Result Element Refusal
element_tied None = Err PointerNotBound
element_tied (Some e) = Ok e

abbrev pub bound_element : State → ℕ → Result Element Refusal
bound_element s p = if nat_lt p 64 then element_tied (s.ties p) else Err PointerOutOfRange
