-- The state table: how each call of a client is met in each of the four states.
use Rattle.std.specs.Prelude.{Some, None, Ok, Err, Option, Result}
use Rattle.plant.specs.declared.refusals.Refusal.{Refusal}
use Rattle.plant.specs.declared.refusals.Refusal.TheVariants.{NotOpen, AlreadyOpen, AlreadyCommitting, NotCommitting, ThrownOut as WasThrownOut, NotThrownOut}
use Rattle.rules.specs.declared.ClientState.{ClientState}
use Rattle.rules.specs.declared.ClientState.TheVariants.{Idle, Executing, Committing, ThrownOut}
use Rattle.rules.specs.declared.Move.{Move}
use Rattle.rules.specs.declared.Move.TheVariants.{Begin, Lock, Read, Change, Commit, GiveUp, WriteBack, End, Clear}

-- The table's columns: begin; the calls of an executing client; those of a committing client; clear.
pub data Column : Type 0 where
  begins works finishes clears : Column

-- In which column a call stands.
abbrev pub column : Move → Column
column Begin = begins
column Lock = works
column Read = works
column Change = works
column Commit = works
column GiveUp = works
column WriteBack = finishes
column End = finishes
column Clear = clears

-- The table itself: nothing where the call is allowed, else its refusal.
abbrev pub refusal : ClientState → Column → Option Refusal
refusal Idle begins = None
refusal Idle works = Some NotOpen
refusal Idle finishes = Some NotOpen
refusal Idle clears = Some NotThrownOut
refusal Executing begins = Some AlreadyOpen
refusal Executing works = None
refusal Executing finishes = Some NotCommitting
refusal Executing clears = Some NotThrownOut
refusal Committing begins = Some AlreadyOpen
refusal Committing works = Some AlreadyCommitting
refusal Committing finishes = None
refusal Committing clears = Some NotThrownOut
refusal ThrownOut begins = Some WasThrownOut
refusal ThrownOut works = Some WasThrownOut
refusal ThrownOut finishes = Some WasThrownOut
refusal ThrownOut clears = None

-- The state to which an allowed call leads.
abbrev pub leads_to : Move → ClientState
leads_to Begin = Executing
leads_to Lock = Executing
leads_to Read = Executing
leads_to Change = Executing
leads_to Commit = Committing
leads_to GiveUp = Idle
leads_to WriteBack = Committing
leads_to End = Idle
leads_to Clear = Idle

-- What a table entry makes of a call: the state that it leads to, or the refusal.
abbrev pub entered : Option Refusal → ClientState → Result ClientState Refusal
entered None after = Ok after
entered (Some r) after = Err r

-- How a call is met: by the next state, or by a refusal.
abbrev pub met : ClientState → Move → Result ClientState Refusal
met now move = entered (refusal now (column move)) (leads_to move)
