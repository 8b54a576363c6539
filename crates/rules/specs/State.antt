-- What an engine holds.
use Rattle.std.specs.Prelude.{ℕ, Bool, true, false, ℤ, is_some, Some, None, Option}
use Rattle.std.specs.Option.{unwrap_or}
use Rattle.plant.specs.Meaning.{Meaning, number}
use Rattle.plant.specs.declared.tables.Element.{Element}
use Rattle.rules.specs.Scans.{some_below}
use Rattle.rules.specs.declared.ClientState.{ClientState}
use Rattle.rules.specs.declared.ClientState.TheVariants.{Idle, Executing, Committing, ThrownOut}
use Rattle.rules.specs.declared.LockKind.{LockKind}
use Rattle.rules.specs.declared.LockKind.TheVariants.{Read, Write}
use Rattle.rules.specs.declared.Lock.{Lock}

-- The table; each client's state and its lock on each element, if it has one; each element's mark and
-- second version, if it has one; each pointer's element, if it is bound.
pub record State : Type 0 where
  pub table : Meaning
  pub clients : ℕ → ClientState
  pub locks : ℕ → ℕ → Option Lock
  pub marked : ℕ → Bool
  pub second : ℕ → Option ℤ
  pub ties : ℕ → Option Element

-- A new engine over a table: all clients idle, nothing locked or marked, no pointer bound.
abbrev pub opening : Meaning → State
opening m =
    record { table = m; clients = λ c. Idle; locks = λ c e. None; marked = λ e. false; second = λ e. None; ties = λ p. None }

-- Whether a lock that may be there is one for writing.
abbrev pub is_write : LockKind → Bool
is_write Read = false
is_write Write = true

abbrev pub for_writing : Option Lock → Bool
for_writing None = false
for_writing (Some l) = is_write l.kind

-- Whether a client holds an element; whether it holds it for writing.
abbrev pub holds : State → ℕ → ℕ → Bool
holds s c e = is_some (s.locks c e)

abbrev pub holds_for_writing : State → ℕ → ℕ → Bool
holds_for_writing s c e = for_writing (s.locks c e)

-- Whether an element is locked in any kind.
abbrev pub locked : State → ℕ → Bool
locked s e = some_below 16 (λ c. holds s c e)

-- What an element shows: its second version if it has one, else the table's number.
abbrev pub shows : State → ℕ → ℤ
shows s e = unwrap_or (s.second e) (number s.table e)

abbrev pub is_committing : ClientState → Bool
is_committing Idle = false
is_committing Executing = false
is_committing Committing = true
is_committing ThrownOut = false
