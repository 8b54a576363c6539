-- The trials: what the rules must answer on worked examples. Each starts with elements of 100, three where
-- nothing else is said, with pointer 0 tied to element 0, and with grades.
use Rattle.std.specs.Prelude.{◌≡◌, ℕ, zero, suc, List, [], ◌∷◌, ◌++◌, map, replicate, ℤ, pos, negsuc}
use Rattle.plant.specs.Meaning.{Meaning}
use Rattle.plant.specs.declared.refusals.Refusal.TheVariants.{ThrownOut, TooManyLocks, NoWriteBackLeft, WriteBacksLeft}
use Rattle.plant.specs.declared.tables.Element.{Element}
use Rattle.ranks.specs.declared.Client.{Client}
use Rattle.ranks.specs.declared.Grade.{Grade}
use Rattle.ranks.specs.Kinds.{grade_above}
use Rattle.rules.specs.State.{State, opening}
use Rattle.rules.specs.Calls.{Outcome}
use Rattle.rules.specs.Step.{step, ranks_after}
use Rattle.rules.specs.declared.LockKind.TheVariants.{Read, Write}
use Rattle.rules.specs.declared.Fate.TheVariants.{Written, Dropped}
use Rattle.rules.specs.declared.Call.{Call}
use Rattle.rules.specs.declared.Call.TheVariants.{Begin, Lock, Read as Reads, Change, Commit, WriteBack, End, Bind, HardRead, HardWrite}
use Rattle.rules.specs.declared.Answer.{Answer}
use Rattle.rules.specs.declared.Answer.TheVariants.{Done, Number, WroteBack, Wait, Lost, Refused}

-- A call with the answer that is expected of it.
pub record Expected : Type 0 where
  pub call : Call Grade
  pub answer : Answer

-- A trial: calls with their answers, and the table's numbers after them.
pub record Trial : Type 0 where
  pub calls : List Expected
  pub numbers : List ℤ

infix 20 ◌⇒◌
abbrev pub ◌⇒◌ : Call Grade → Answer → Expected
call ⇒ answer = record { call = call; answer = answer }

-- The calls by their numbers.
abbrev pub client : ℕ → Client
client c = record { 0 = c }

abbrev pub element : ℕ → Element
element e = record { 0 = e }

abbrev pub begin : ℕ → ℕ → Call Grade
begin c g = Begin (client c) (record { 0 = g })

abbrev pub read_lock : ℕ → ℕ → Call Grade
read_lock c e = Lock (client c) Read (element e)

abbrev pub write_lock : ℕ → ℕ → Call Grade
write_lock c e = Lock (client c) Write (element e)

abbrev pub read : ℕ → ℕ → Call Grade
read c e = Reads (client c) (element e)

abbrev pub change : ℕ → ℕ → ℕ → Call Grade
change c e v = Change (client c) (element e) (pos v)

abbrev pub commit : ℕ → Call Grade
commit c = Commit (client c)

abbrev pub write_back : ℕ → Call Grade
write_back c = WriteBack (client c)

abbrev pub end : ℕ → Call Grade
end c = End (client c)

abbrev pub hard_read : Call Grade
hard_read = HardRead (record { 0 = 0 })

abbrev pub hard_write : ℕ → Call Grade
hard_write v = HardWrite (record { 0 = 0 }) (pos v)

abbrev pub number : ℕ → Answer
number v = Number (pos v)

abbrev pub written : ℕ → Answer
written e = WroteBack (element e) Written

abbrev pub dropped : ℕ → Answer
dropped e = WroteBack (element e) Dropped

-- The table at opening: so many elements of 100.
abbrev pub hundreds : ℕ → Meaning
hundreds n = record { numbers = replicate n (pos 100); lowest = negsuc 2_147_483_647; highest = pos 2_147_483_647 }

-- What the rules make of a list of calls: their answers, then the table's numbers. The one rank list goes
-- from call to call.
pub record Played : Type 0 where
  pub answers : List Answer
  pub numbers : List ℤ

abbrev pub then_answer : Answer → Played → Played
then_answer a rest = record { answers = a ∷ rest.answers; numbers = rest.numbers }

abbrev pub play_on : Outcome → List Grade → Call Grade → (State → List Grade → Played) → Played
play_on o ranks call rest = then_answer o.answer (rest o.state (ranks_after ranks call o.answer))

abbrev pub play : State → List Grade → List Expected → Played
play s ranks [] = record { answers = []; numbers = s.table.numbers }
play s ranks (x ∷ xs) = play_on (step grade_above s ranks x.call) ranks x.call (λ later ranks'. play later ranks' xs)

abbrev pub played : ℕ → Trial → Played
played n t =
    play (opening (hundreds n)) (replicate 16 (record { 0 = 0 }))
    ((Bind (record { 0 = 0 }) (element 0) ⇒ Done) ∷ t.calls)

-- What the trial expects.
abbrev pub expected : Trial → Played
expected t = record { answers = Done ∷ map (λ (x : Expected). x.answer) t.calls; numbers = t.numbers }

-- A hard read shows the old number until the end, then the new one.
abbrev pub old_until_end : Trial
old_until_end =
    record {
      calls =
          (begin 1 5 ⇒ Done) ∷ (write_lock 1 0 ⇒ Done) ∷ (change 1 0 130 ⇒ Done) ∷ (hard_read ⇒ number 100) ∷
          (commit 1 ⇒ Done) ∷ (hard_read ⇒ number 100) ∷ (write_back 1 ⇒ written 0) ∷ (hard_read ⇒ number 100) ∷
          (end 1 ⇒ Done) ∷ (hard_read ⇒ number 130) ∷ [];
      numbers = pos 130 ∷ pos 100 ∷ pos 100 ∷ [];
    }

-- A hard write during the committing step counts as the later one: the write back is dropped.
abbrev pub later_hard_write : Trial
later_hard_write =
    record {
      calls =
          (begin 1 5 ⇒ Done) ∷ (write_lock 1 0 ⇒ Done) ∷ (change 1 0 130 ⇒ Done) ∷ (commit 1 ⇒ Done) ∷
          (hard_write 90 ⇒ Done) ∷ (write_back 1 ⇒ dropped 0) ∷ (end 1 ⇒ Done) ∷ (hard_read ⇒ number 90) ∷ [];
      numbers = pos 90 ∷ pos 100 ∷ pos 100 ∷ [];
    }

-- Across a mark a read lock is not shared: the lower rank loses.
abbrev pub lower_loses_across_mark : Trial
lower_loses_across_mark =
    record {
      calls =
          (begin 1 5 ⇒ Done) ∷ (read_lock 1 0 ⇒ Done) ∷ (read 1 0 ⇒ number 100) ∷ (hard_write 90 ⇒ Done) ∷
          (begin 2 4 ⇒ Done) ∷ (read_lock 2 0 ⇒ Lost) ∷ (read 1 0 ⇒ number 100) ∷ (read 2 0 ⇒ Refused ThrownOut) ∷ [];
      numbers = pos 90 ∷ pos 100 ∷ pos 100 ∷ [];
    }

-- The higher rank throws the first reader out and reads the number of the hard write.
abbrev pub higher_wins_across_mark : Trial
higher_wins_across_mark =
    record {
      calls =
          (begin 1 5 ⇒ Done) ∷ (read_lock 1 0 ⇒ Done) ∷ (read 1 0 ⇒ number 100) ∷ (hard_write 90 ⇒ Done) ∷
          (begin 2 6 ⇒ Done) ∷ (read_lock 2 0 ⇒ Done) ∷ (read 1 0 ⇒ Refused ThrownOut) ∷ (read 2 0 ⇒ number 90) ∷ [];
      numbers = pos 90 ∷ pos 100 ∷ pos 100 ∷ [];
    }

-- Without the hard write both read, whatever the ranks.
abbrev pub readers_share : ℕ → Trial
readers_share grade =
    record {
      calls =
          (begin 1 5 ⇒ Done) ∷ (read_lock 1 0 ⇒ Done) ∷ (read 1 0 ⇒ number 100) ∷ (begin 2 grade ⇒ Done) ∷
          (read_lock 2 0 ⇒ Done) ∷ (read 1 0 ⇒ number 100) ∷ (read 2 0 ⇒ number 100) ∷ [];
      numbers = pos 100 ∷ pos 100 ∷ pos 100 ∷ [];
    }

-- A reader that gains the write lock keeps its copy and the mark, so that its change is dropped.
abbrev pub upgrade_keeps_mark : Trial
upgrade_keeps_mark =
    record {
      calls =
          (begin 1 5 ⇒ Done) ∷ (read_lock 1 0 ⇒ Done) ∷ (hard_write 90 ⇒ Done) ∷ (write_lock 1 0 ⇒ Done) ∷
          (read 1 0 ⇒ number 100) ∷ (change 1 0 130 ⇒ Done) ∷ (commit 1 ⇒ Done) ∷ (write_back 1 ⇒ dropped 0) ∷
          (end 1 ⇒ Done) ∷ (hard_read ⇒ number 90) ∷ [];
      numbers = pos 90 ∷ pos 100 ∷ pos 100 ∷ [];
    }

-- At equal grades the lower client number stands above.
abbrev pub equal_grades : Trial
equal_grades =
    record {
      calls =
          (begin 0 5 ⇒ Done) ∷ (begin 1 5 ⇒ Done) ∷ (begin 2 5 ⇒ Done) ∷ (write_lock 1 0 ⇒ Done) ∷
          (write_lock 2 0 ⇒ Lost) ∷ (write_lock 0 0 ⇒ Done) ∷ (read 1 0 ⇒ Refused ThrownOut) ∷ [];
      numbers = pos 100 ∷ pos 100 ∷ pos 100 ∷ [];
    }

-- Against a committing holder the higher rank waits.
abbrev pub higher_waits : Trial
higher_waits =
    record {
      calls =
          (begin 1 1 ⇒ Done) ∷ (write_lock 1 0 ⇒ Done) ∷ (change 1 0 130 ⇒ Done) ∷ (commit 1 ⇒ Done) ∷
          (begin 2 9 ⇒ Done) ∷ (write_lock 2 0 ⇒ Wait) ∷ (write_back 1 ⇒ written 0) ∷ (end 1 ⇒ Done) ∷
          (write_lock 2 0 ⇒ Done) ∷ (read 2 0 ⇒ number 130) ∷ [];
      numbers = pos 130 ∷ pos 100 ∷ pos 100 ∷ [];
    }

-- Against a committing holder the lower rank loses.
abbrev pub lower_loses : Trial
lower_loses =
    record {
      calls =
          (begin 1 9 ⇒ Done) ∷ (write_lock 1 0 ⇒ Done) ∷ (commit 1 ⇒ Done) ∷ (begin 2 1 ⇒ Done) ∷ (write_lock 2 0 ⇒ Lost) ∷
          [];
      numbers = pos 100 ∷ pos 100 ∷ pos 100 ∷ [];
    }

-- With nothing changed there is nothing to write back, and the end is accepted.
abbrev pub nothing_changed : Trial
nothing_changed =
    record {
      calls =
          (begin 1 5 ⇒ Done) ∷ (write_lock 1 0 ⇒ Done) ∷ (commit 1 ⇒ Done) ∷ (write_back 1 ⇒ Refused NoWriteBackLeft) ∷
          (end 1 ⇒ Done) ∷ [];
      numbers = pos 100 ∷ pos 100 ∷ pos 100 ∷ [];
    }

-- Of several holders one stands above the caller: it loses, and no other holder has been thrown out.
abbrev pub nobody_thrown_out_by_a_loser : Trial
nobody_thrown_out_by_a_loser =
    record {
      calls =
          (begin 1 3 ⇒ Done) ∷ (begin 2 9 ⇒ Done) ∷ (begin 3 5 ⇒ Done) ∷ (read_lock 1 0 ⇒ Done) ∷ (read_lock 2 0 ⇒ Done) ∷
          (write_lock 3 0 ⇒ Lost) ∷ (read 1 0 ⇒ number 100) ∷ (read 2 0 ⇒ number 100) ∷ (read 3 0 ⇒ Refused ThrownOut) ∷ [];
      numbers = pos 100 ∷ pos 100 ∷ pos 100 ∷ [];
    }

-- A hard write of a write-locked element is what the next hard read shows, before and after the end; the
-- change is dropped.
abbrev pub hard_read_follows_hard_write : Trial
hard_read_follows_hard_write =
    record {
      calls =
          (begin 1 5 ⇒ Done) ∷ (write_lock 1 0 ⇒ Done) ∷ (change 1 0 130 ⇒ Done) ∷ (hard_write 90 ⇒ Done) ∷
          (hard_read ⇒ number 90) ∷ (commit 1 ⇒ Done) ∷ (write_back 1 ⇒ dropped 0) ∷ (hard_read ⇒ number 90) ∷
          (end 1 ⇒ Done) ∷ (hard_read ⇒ number 90) ∷ [];
      numbers = pos 90 ∷ pos 100 ∷ pos 100 ∷ [];
    }

-- Also where a reader has gained the write lock, a hard read shows the old number until the end.
abbrev pub upgrade_shows_old : Trial
upgrade_shows_old =
    record {
      calls =
          (begin 1 5 ⇒ Done) ∷ (read_lock 1 0 ⇒ Done) ∷ (write_lock 1 0 ⇒ Done) ∷ (change 1 0 130 ⇒ Done) ∷
          (commit 1 ⇒ Done) ∷ (write_back 1 ⇒ written 0) ∷ (hard_read ⇒ number 100) ∷ (end 1 ⇒ Done) ∷
          (hard_read ⇒ number 130) ∷ [];
      numbers = pos 130 ∷ pos 100 ∷ pos 100 ∷ [];
    }

-- A mark from an earlier holder does not count against the next first holder: its change is written.
abbrev pub first_holder_unmarked : Trial
first_holder_unmarked =
    record {
      calls =
          (begin 1 5 ⇒ Done) ∷ (read_lock 1 0 ⇒ Done) ∷ (hard_write 90 ⇒ Done) ∷ (commit 1 ⇒ Done) ∷ (end 1 ⇒ Done) ∷
          (begin 2 5 ⇒ Done) ∷ (write_lock 2 0 ⇒ Done) ∷ (read 2 0 ⇒ number 90) ∷ (change 2 0 130 ⇒ Done) ∷
          (commit 2 ⇒ Done) ∷ (write_back 2 ⇒ written 0) ∷ (end 2 ⇒ Done) ∷ (hard_read ⇒ number 130) ∷ [];
      numbers = pos 130 ∷ pos 100 ∷ pos 100 ∷ [];
    }

-- An end with a changed element that has not been taken is refused and changes nothing.
abbrev pub end_after_write_backs : Trial
end_after_write_backs =
    record {
      calls =
          (begin 1 5 ⇒ Done) ∷ (write_lock 1 0 ⇒ Done) ∷ (write_lock 1 2 ⇒ Done) ∷ (change 1 0 130 ⇒ Done) ∷
          (change 1 2 70 ⇒ Done) ∷ (commit 1 ⇒ Done) ∷ (write_back 1 ⇒ written 0) ∷ (end 1 ⇒ Refused WriteBacksLeft) ∷
          (write_back 1 ⇒ written 2) ∷ (end 1 ⇒ Done) ∷ [];
      numbers = pos 130 ∷ pos 100 ∷ pos 70 ∷ [];
    }

-- Client 1 gets a read lock on each element below a number.
abbrev pub reads_below : ℕ → List Expected
reads_below zero = []
reads_below (suc e) = reads_below e ++ ((read_lock 1 e ⇒ Done) ∷ [])

-- With 33 elements: a client that holds 32 is refused one more, and may still gain a write lock.
abbrev pub at_most_32_locks : Trial
at_most_32_locks =
    record {
      calls = (begin 1 5 ⇒ Done) ∷ reads_below 32 ++ ((read_lock 1 32 ⇒ Refused TooManyLocks) ∷ (write_lock 1 31 ⇒ Done) ∷ []);
      numbers = replicate 33 (pos 100);
    }

-- All with three elements.
abbrev pub trials : List Trial
trials =
    old_until_end ∷ later_hard_write ∷ lower_loses_across_mark ∷ higher_wins_across_mark ∷ readers_share 4 ∷ readers_share 6 ∷
    upgrade_keeps_mark ∷ equal_grades ∷ higher_waits ∷ lower_loses ∷ nothing_changed ∷ nobody_thrown_out_by_a_loser ∷
    hard_read_follows_hard_write ∷ upgrade_shows_old ∷ first_holder_unmarked ∷ end_after_write_backs ∷ []

-- Those with 33 elements.
abbrev pub large_trials : List Trial
large_trials = at_most_32_locks ∷ []

-- Every trial comes out as expected: each answer, and the table's numbers at the end.
abbrev pub TrialsHold : Type 0
TrialsHold = map (played 3) trials ++ map (played 33) large_trials ≡ map expected (trials ++ large_trials)
