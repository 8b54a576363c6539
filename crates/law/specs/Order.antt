-- The one order of the ended transactions and the accepted hard accesses, by the rule of place.
use Rattle.std.specs.Prelude.{ℕ, Bool, false, cond, ◌&&◌, List, [], ◌∷◌, ◌++◌, length, ℤ, Some, None, Option, ◌==◌, nat_eq, nat_lt}
use Rattle.std.specs.Option.{unwrap_or}
use Rattle.plant.specs.declared.tables.Element.{Element}
use Rattle.rules.specs.Scans.{some_below}
use Rattle.rules.specs.declared.Call.{Call}
use Rattle.rules.specs.declared.Call.TheVariants.{Begin, Lock, Read as Reads, Change, Commit, WriteBack, End, GiveUp, Clear, Bind, Remove, HardRead, HardWrite}
use Rattle.rules.specs.declared.Answer.{Answer}
use Rattle.rules.specs.declared.Answer.TheVariants.{Done, Number, WroteBack, Wait, Lost, Refused}
use Rattle.law.specs.History.{History, accepted, is_done}
use Rattle.law.specs.Record.{Record, record_of, holding}

-- A step of the play: an element is read, with the number that was answered, or set.
pub data Step : Type 0 where
  reads sets : ℕ → ℤ → Step

-- What stands in the order: a finished transaction or an accepted hard access, by the moment of its end or
-- of its call, with its steps and, for an access, the transactions behind whose end it has to stand.
pub record Entry : Type 0 where
  pub moment : ℕ
  pub steps : List Step
  pub behind : ℕ → Bool

-- The number that was answered, if one was.
abbrev pub read_step : ℕ → Answer → List Step
read_step e Done = []
read_step e (Number v) = reads e v ∷ []
read_step e (WroteBack b fate) = []
read_step e Wait = []
read_step e Lost = []
read_step e (Refused r) = []

-- The step of one client's own call: its accepted reads and changes.
abbrev pub own_steps : {K : Type 0} → ℕ → Call K → Answer → List Step
own_steps c (Begin d k) a = []
own_steps c (Lock d kind e) a = []
own_steps c (Reads d e) a = cond (d.0 == c) (read_step e.0 a) []
own_steps c (Change d e v) a = cond (d.0 == c && is_done a) (sets e.0 v ∷ []) []
own_steps c (Commit d) a = []
own_steps c (WriteBack d) a = []
own_steps c (End d) a = []
own_steps c (GiveUp d) a = []
own_steps c (Clear d) a = []
own_steps c (Bind p e) a = []
own_steps c (Remove p) a = []
own_steps c (HardRead p) a = []
own_steps c (HardWrite p v) a = []

-- Whether the event is an accepted begin of the client.
abbrev pub begins : {K : Type 0} → ℕ → Call K → Answer → Bool
begins c (Begin d k) a = d.0 == c && is_done a
begins c (Lock d kind e) a = false
begins c (Reads d e) a = false
begins c (Change d e v) a = false
begins c (Commit d) a = false
begins c (WriteBack d) a = false
begins c (End d) a = false
begins c (GiveUp d) a = false
begins c (Clear d) a = false
begins c (Bind p e) a = false
begins c (Remove p) a = false
begins c (HardRead p) a = false
begins c (HardWrite p v) a = false

-- The client's reads and changes since its latest accepted begin, as called.
abbrev pub steps_since : {K : Type 0} → ℕ → History K → List Step
steps_since c [] = []
steps_since c (x ∷ h) = cond (begins c x.call x.answer) [] (steps_since c h ++ own_steps c x.call x.answer)

-- The transaction that the event ends, if it is an accepted end.
abbrev pub ended : {K : Type 0} → History K → Call K → Answer → List Entry
ended h (Begin c k) a = []
ended h (Lock c kind e) a = []
ended h (Reads c e) a = []
ended h (Change c e v) a = []
ended h (Commit c) a = []
ended h (WriteBack c) a = []
ended h (End c) a = cond (accepted a) (record { moment = length h; steps = steps_since c.0 h; behind = λ t. false } ∷ []) []
ended h (GiveUp c) a = []
ended h (Clear c) a = []
ended h (Bind p e) a = []
ended h (Remove p) a = []
ended h (HardRead p) a = []
ended h (HardWrite p v) a = []

-- Whether the event is an accepted end of a transaction of the set, by the record before it.
abbrev pub ends_one_of : {K : Type 0} → (ℕ → Bool) → Record → Call K → Answer → Bool
ends_one_of those r (Begin c k) a = false
ends_one_of those r (Lock c kind e) a = false
ends_one_of those r (Reads c e) a = false
ends_one_of those r (Change c e v) a = false
ends_one_of those r (Commit c) a = false
ends_one_of those r (WriteBack c) a = false
ends_one_of those r (End c) a = accepted a && those (r.begun c.0)
ends_one_of those r (GiveUp c) a = false
ends_one_of those r (Clear c) a = false
ends_one_of those r (Bind p e) a = false
ends_one_of those r (Remove p) a = false
ends_one_of those r (HardRead p) a = false
ends_one_of those r (HardWrite p v) a = false

-- The steps of an access through a tied pointer.
abbrev pub hard_read_steps : Option Element → Answer → List Step
hard_read_steps None a = []
hard_read_steps (Some e) a = read_step e.0 a

abbrev pub hard_write_steps : Option Element → ℤ → List Step
hard_write_steps None v = []
hard_write_steps (Some e) v = sets e.0 v ∷ []

-- The transactions that hold the element, if it is locked and marked after the access.
abbrev pub holders_if_marked : Record → Option Element → ℕ → Bool
holders_if_marked r None t = false
holders_if_marked r (Some e) t = r.marked e.0 && some_below 16 (λ c. holding r c e.0 && r.begun c == t)

-- The accepted hard access that the event is, if it is one, by the record after it.
abbrev pub accessed : {K : Type 0} → ℕ → Record → Call K → Answer → List Entry
accessed moment r (Begin c k) a = []
accessed moment r (Lock c kind e) a = []
accessed moment r (Reads c e) a = []
accessed moment r (Change c e v) a = []
accessed moment r (Commit c) a = []
accessed moment r (WriteBack c) a = []
accessed moment r (End c) a = []
accessed moment r (GiveUp c) a = []
accessed moment r (Clear c) a = []
accessed moment r (Bind p e) a = []
accessed moment r (Remove p) a = []
accessed moment r (HardRead p) a =
    cond (accepted a) (record { moment = moment; steps = hard_read_steps (r.ties p.0) a; behind = holders_if_marked r (r.ties p.0) } ∷ []) []
accessed moment r (HardWrite p v) a =
    cond (accepted a) (record { moment = moment; steps = hard_write_steps (r.ties p.0) v; behind = holders_if_marked r (r.ties p.0) } ∷ []) []

-- All accepted hard accesses of a history, as they came.
abbrev pub accesses : {K : Type 0} → History K → List Entry
accesses [] = []
accesses (x ∷ h) = accesses h ++ accessed (length h) (record_of (x ∷ h)) x.call x.answer

-- The moment of the last end, after the access, of a transaction behind which the access has to stand.
abbrev pub last_end : {K : Type 0} → History K → Entry → Option ℕ
last_end [] a = None
last_end (x ∷ h) a =
    cond (nat_lt a.moment (length h) && ends_one_of a.behind (record_of h) x.call x.answer) (Some (length h)) (last_end h a)

-- The place of an access: that end, or its own moment where none of those transactions has ended.
abbrev pub place : {K : Type 0} → History K → Entry → ℕ
place h a = unwrap_or (last_end h a) a.moment

-- Those of a list that pass a test.
abbrev pub those_that : {X : Type 0} → (X → Bool) → List X → List X
those_that p [] = []
those_that p (x ∷ xs) = cond (p x) (x ∷ those_that p xs) (those_that p xs)

-- Walk the moments: at each stands the transaction that ended there, if one did, and directly behind it
-- the accesses that have their place there, as they came.
abbrev pub walk : {K : Type 0} → (Entry → ℕ) → List Entry → History K → List Entry
walk at_place all [] = []
walk at_place all (x ∷ h) =
    walk at_place all h ++ (ended h x.call x.answer ++ those_that (λ a. nat_eq (at_place a) (length h)) all)

-- The order.
abbrev pub order : {K : Type 0} → History K → List Entry
order h = walk (place h) (accesses h) h
