-- What a lock comes to, by what the code has found.
use Rattle.std.proofs.Common.{◌≡◌, ℕ, Bool, true, false, cond, not, ◌&&◌, ◌||◌, eqb, ltb, List, [], ℤ, pos, is_some, None, Ok, Err, sym, refl, ap, ◌∙◌}
use Rattle.std.proofs.lemmas.Bool.{cond-true, cond-false, eq-eqb, and_left}
use Rattle.plant.specs.Meaning.{Meaning, has, number, get_answer}
use Rattle.plant.specs.declared.refusals.Refusal.{Refusal}
use Rattle.plant.specs.declared.refusals.Refusal.TheVariants.{TooManyLocks, NoSuchElement}
use Rattle.ranks.specs.Standing.{stands_above}
use Rattle.rules.specs.Scans.{some_below}
use Rattle.rules.specs.State.{State, is_committing}
use Rattle.rules.specs.Locking.{conflicts, covers, lock_count, lock_conflicts, leave, gain}
use Rattle.rules.specs.Calls.{Outcome, answered, refused, lock_steps}
use Rattle.rules.specs.declared.LockKind.{LockKind}
use Rattle.rules.specs.declared.Answer.TheVariants.{Done, Wait, Lost}
use Rattle.rules.specs.declared.ClientState.TheVariants.{ThrownOut}
use Rattle.inner.specs.declared.whole.Inner.{Inner}
use Rattle.inner.specs.Slots.{lock_in}
use Rattle.inner.specs.Whole.{client_of, cell_of}
use Rattle.inner.proofs.ScanLaws.{count_alike}
use Rattle.book.specs.Model.{Becomes}
use Rattle.book.specs.Requests.{blocks, lock_total, finds_room}
use Rattle.book.specs.declared.requests.Request.{Request}

-- What get has found is the element's number.
pub got_number : (m : Meaning) (e : ℕ) (v : ℤ) → has m e ≡ true → Ok v ≡ get_answer m e → number m e ≡ v
got_number m e v h is = go (has m e) h is
  where
    go : (b : Bool) → b ≡ true → Ok v ≡ cond b (Ok (number m e)) (Err NoSuchElement) → number m e ≡ v
    go true t q = cc
    go false t q = cc

-- Nobody stands in their own way, so a client keeps its own locks when others are thrown out.
module _ (n after : Inner) (r : Request) (gone : Becomes n after (leave (λ d. blocks n r d) ThrownOut)) where
  own_kept : (q : ℕ) → lock_in (client_of after r.client.0).slots q ≡ lock_in (client_of n r.client.0).slots q
  own_kept q =
      ap (λ s. s.locks r.client.0 q) (gone (record { numbers = []; lowest = pos 0; highest = pos 0 }))
      ∙ cond-false (blocks n r r.client.0) None (lock_in (client_of n r.client.0).slots q)
      (and_left (not (eqb r.client.0 r.client.0)) (lock_conflicts (cell_of n r.element.0).marked r.kind (lock_in (client_of n r.client.0).slots r.element.0)) (ap not (eq-eqb r.client.0 r.client.0 refl)))

  pub room_kept : finds_room n r ≡ true → finds_room after r ≡ true
  room_kept h =
      ap (λ o. is_some o || ltb (lock_total after r.client.0) 32) (own_kept r.element.0)
      ∙ ap (λ k. is_some (lock_in (client_of n r.client.0).slots r.element.0) || ltb k 32) (count_alike 256 (λ q. is_some (lock_in (client_of after r.client.0).slots q)) (λ q. is_some (lock_in (client_of n r.client.0).slots q)) (λ q l. ap is_some (own_kept q)))
      ∙ h

module _ {K : Type 0} (above : K → K → Bool) (ranks : List K) (s : State) (c : ℕ) (kind : LockKind) (e : ℕ)
    (open' : covers (s.locks c e) kind ≡ false) (room : (is_some (s.locks c e) || ltb (lock_count s c) 32) ≡ true) where
  after_room : Outcome
  after_room =
      cond (some_below 16 (λ d. conflicts s c kind e d && stands_above above ranks d c)) (answered (leave (λ d. eqb d c) ThrownOut s) Lost)
      (cond (some_below 16 (λ d. conflicts s c kind e d && is_committing (s.clients d))) (answered s Wait)
      (answered (gain c kind e (leave (λ d. conflicts s c kind e d) ThrownOut s)) Done))

  to_steps : after_room ≡ lock_steps above ranks s c kind e
  unfolding after_room
  to_steps =
      sym (cond-true (is_some (s.locks c e) || ltb (lock_count s c) 32) _ (refused s TooManyLocks) room)
      ∙ sym (cond-false (covers (s.locks c e) kind) (answered s Done) _ open')

  pub steps_lost : (after : State) → some_below 16 (λ d. conflicts s c kind e d && stands_above above ranks d c) ≡ true → after ≡ leave (λ d. eqb d c) ThrownOut s →
      answered after Lost ≡ lock_steps above ranks s c kind e
  unfolding after_room
  steps_lost after t is =
      ap (λ x. answered x Lost) is ∙ sym (cond-true (some_below 16 (λ d. conflicts s c kind e d && stands_above above ranks d c)) (answered (leave (λ d. eqb d c) ThrownOut s) Lost) _ t) ∙ to_steps

  pub steps_won : some_below 16 (λ d. conflicts s c kind e d && stands_above above ranks d c) ≡ false → some_below 16 (λ d. conflicts s c kind e d && is_committing (s.clients d)) ≡ false →
      answered (gain c kind e (leave (λ d. conflicts s c kind e d) ThrownOut s)) Done ≡ lock_steps above ranks s c kind e
  unfolding after_room
  steps_won f w =
      sym (cond-false (some_below 16 (λ d. conflicts s c kind e d && is_committing (s.clients d))) (answered s Wait) _ w)
      ∙ sym (cond-false (some_below 16 (λ d. conflicts s c kind e d && stands_above above ranks d c)) (answered (leave (λ d. eqb d c) ThrownOut s) Lost) _ f) ∙ to_steps

-- Get refuses no element that the table has.
pub not_refused : {X : Type 0} (m : Meaning) (e : ℕ) (r : Refusal) → has m e ≡ true → Err r ≡ get_answer m e → (x y : X) → x ≡ y
not_refused m e r h is x y = go (has m e) h is
  where
    go : (b : Bool) → b ≡ true → Err r ≡ cond b (Ok (number m e)) (Err NoSuchElement) → x ≡ y
    go true t q = cc
    go false t q = cc
