-- One step: what a call with any numbers in it answers and leaves, with the rank list that it was handed.
use Rattle.std.specs.Prelude.{ℕ, Bool, List, length, slice_set}
use Rattle.rules.specs.State.{State}
use Rattle.rules.specs.Calls.{Outcome, begin_call, lock_call, read_call, change_call, commit_call, write_back_call, end_call, give_up_call, clear_call, bind_call, remove_call, hard_read_call, hard_write_call}
use Rattle.rules.specs.declared.Call.{Call}
use Rattle.rules.specs.declared.Call.TheVariants.{Begin, Lock, Read, Change, Commit, WriteBack, End, GiveUp, Clear, Bind, Remove, HardRead, HardWrite}
use Rattle.rules.specs.declared.Answer.{Answer}
use Rattle.rules.specs.declared.Answer.TheVariants.{Done, Number, WroteBack, Wait, Lost, Refused}

-- What the call answers and leaves.
abbrev pub step : {K : Type 0} → (K → K → Bool) → State → List K → Call K → Outcome
step above s ranks (Begin c k) = begin_call s (length ranks) c.0
step above s ranks (Lock c kind e) = lock_call above ranks s c.0 kind e.0
step above s ranks (Read c e) = read_call s c.0 e.0
step above s ranks (Change c e v) = change_call s c.0 e.0 v
step above s ranks (Commit c) = commit_call s c.0
step above s ranks (WriteBack c) = write_back_call s c.0
step above s ranks (End c) = end_call s c.0
step above s ranks (GiveUp c) = give_up_call s c.0
step above s ranks (Clear c) = clear_call s c.0
step above s ranks (Bind p e) = bind_call s p.0 e
step above s ranks (Remove p) = remove_call s p.0
step above s ranks (HardRead p) = hard_read_call s p.0
step above s ranks (HardWrite p v) = hard_write_call s p.0 v

-- The rank list after a call: an accepted begin writes its client's entry, nothing else writes any.
abbrev pub written_by_begin : {K : Type 0} → Answer → List K → ℕ → K → List K
written_by_begin Done ranks c k = slice_set ranks c k
written_by_begin (Number v) ranks c k = ranks
written_by_begin (WroteBack e f) ranks c k = ranks
written_by_begin Wait ranks c k = ranks
written_by_begin Lost ranks c k = ranks
written_by_begin (Refused r) ranks c k = ranks

abbrev pub ranks_after : {K : Type 0} → List K → Call K → Answer → List K
ranks_after ranks (Begin c k) a = written_by_begin a ranks c.0 k
ranks_after ranks (Lock c kind e) a = ranks
ranks_after ranks (Read c e) a = ranks
ranks_after ranks (Change c e v) a = ranks
ranks_after ranks (Commit c) a = ranks
ranks_after ranks (WriteBack c) a = ranks
ranks_after ranks (End c) a = ranks
ranks_after ranks (GiveUp c) a = ranks
ranks_after ranks (Clear c) a = ranks
ranks_after ranks (Bind p e) a = ranks
ranks_after ranks (Remove p) a = ranks
ranks_after ranks (HardRead p) a = ranks
ranks_after ranks (HardWrite p v) a = ranks
