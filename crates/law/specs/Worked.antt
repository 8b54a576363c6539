-- A worked history: two transactions that end, one that is thrown out, a hard write between two write-backs and
-- a hard read behind it, both of which move behind the end; and the order that it has.
use Rattle.std.specs.Prelude.{◌≡◌, ℕ, List, [], ◌∷◌, map, reverse, replicate, pos}
use Rattle.plant.specs.Meaning.{number}
use Rattle.plant.specs.declared.refusals.Refusal.TheVariants.{ThrownOut}
use Rattle.ranks.specs.declared.Grade.{Grade}
use Rattle.ranks.specs.Kinds.{grade_above}
use Rattle.rules.specs.State.{State}
use Rattle.rules.specs.Trials.{Expected, ◌⇒◌, element, begin, read_lock, write_lock, read, change, commit, write_back, end, written, dropped, hundreds}
use Rattle.rules.specs.Step.{ranks_after}
use Rattle.rules.specs.declared.Pointer.{Pointer}
use Rattle.rules.specs.declared.Call.{Call}
use Rattle.rules.specs.declared.Call.TheVariants.{Bind, HardRead, HardWrite}
use Rattle.rules.specs.declared.Answer.{Answer}
use Rattle.rules.specs.declared.Answer.TheVariants.{Done, Number, Refused}
use Rattle.law.specs.History.{Event, History, Leads}
use Rattle.law.specs.Order.{Entry, reads, sets, accesses, walk, order}
use Rattle.law.specs.Play.{Right, all_steps}

abbrev pointer : ℕ → Pointer
pointer p = record { 0 = p }

abbrev bind : ℕ → ℕ → Call Grade
bind p e = Bind (pointer p) (element e)

abbrev get : ℕ → Call Grade
get p = HardRead (pointer p)

abbrev put : ℕ → ℕ → Call Grade
put p v = HardWrite (pointer p) (pos v)

abbrev is : ℕ → Answer
is v = Number (pos v)

-- The calls and answers as they came, the first first. The comments give the moments.
abbrev pub worked_calls : List Expected
worked_calls =
    -- 0: pointers 0 and 1 are tied to elements 0 and 1
    (bind 0 0 ⇒ Done) ∷ (bind 1 1 ⇒ Done) ∷
    -- 2: clients 1 and 2 begin; client 2 takes element 2
    (begin 1 5 ⇒ Done) ∷ (begin 2 3 ⇒ Done) ∷ (write_lock 2 2 ⇒ Done) ∷
    -- 5: client 1 changes elements 0 and 1
    (write_lock 1 0 ⇒ Done) ∷ (write_lock 1 1 ⇒ Done) ∷ (change 1 0 700 ⇒ Done) ∷ (change 1 1 800 ⇒ Done) ∷
    -- 9: client 1 takes element 2 too: client 2 is thrown out
    (write_lock 1 2 ⇒ Done) ∷ (get 0 ⇒ is 100) ∷ (commit 1 ⇒ Done) ∷ (write_back 1 ⇒ written 0) ∷
    -- 13: a scale writes element 1 between the two write-backs
    (put 1 510 ⇒ Done) ∷ (write_back 1 ⇒ dropped 1) ∷ (get 1 ⇒ is 510) ∷ (get 0 ⇒ is 100) ∷ (end 1 ⇒ Done) ∷
    -- 18: client 3 reads both elements and changes element 1
    (begin 3 9 ⇒ Done) ∷ (read_lock 3 0 ⇒ Done) ∷ (read 3 0 ⇒ is 700) ∷ (write_lock 3 1 ⇒ Done) ∷ (read 3 1 ⇒ is 510) ∷
    -- 23
    (change 3 1 600 ⇒ Done) ∷ (commit 3 ⇒ Done) ∷ (write_back 3 ⇒ written 1) ∷ (end 3 ⇒ Done) ∷ (get 1 ⇒ is 600) ∷
    -- 28: client 2 learns that it was thrown out
    (read 2 2 ⇒ Refused ThrownOut) ∷ []

-- The history of calls and answers, with the one rank list handed to each call.
abbrev pub with_ranks : List Grade → List Expected → List (Event Grade)
with_ranks ranks [] = []
with_ranks ranks (x ∷ xs) =
    record { call = x.call; ranks = ranks; answer = x.answer } ∷ with_ranks (ranks_after ranks x.call x.answer) xs

abbrev pub worked : History Grade
worked = reverse (with_ranks (replicate 16 (record { 0 = 0 })) worked_calls)

-- The accesses left at their own moments: not the order, but what one might take for it.
abbrev pub undisplaced : {K : Type 0} → History K → List Entry
undisplaced h = walk (λ (a : Entry). a.moment) (accesses h) h

-- The rules answer so; the order is this; its steps are these; and without the displacement some read would be
-- wrong.
pub record WorkedExample : Type 0 where
  pub final : State
  pub leads : Leads grade_above (hundreds 3) worked final
  pub in_order : map (λ (a : Entry). a.moment) (order worked) ≡ 10 ∷ 16 ∷ 17 ∷ 13 ∷ 15 ∷ 26 ∷ 27 ∷ []
  pub steps : all_steps (order worked) ≡
      reads 0 (pos 100) ∷ reads 0 (pos 100) ∷ sets 0 (pos 700) ∷ sets 1 (pos 800) ∷ sets 1 (pos 510) ∷ reads 1 (pos 510) ∷
      reads 0 (pos 700) ∷ reads 1 (pos 510) ∷ sets 1 (pos 600) ∷ reads 1 (pos 600) ∷ []
  pub by_moments : map (λ (a : Entry). a.moment) (undisplaced worked) ≡ 10 ∷ 13 ∷ 15 ∷ 16 ∷ 17 ∷ 26 ∷ 27 ∷ []
  pub not_right : Right (number (hundreds 3)) (all_steps (undisplaced worked)) → ⊥
