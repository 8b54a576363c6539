-- What the calls' definitions come to, by what the code has found.
use Rattle.std.proofs.Common.{◌≡◌, ℕ, Bool, true, false, cond, not, eqb, ltb, is_some, Some, None, Ok, Err, Option, Result, sym, refl, ap, ◌∙◌}
use Rattle.std.specs.Option.{option_map}
use Rattle.std.proofs.lemmas.Bool.{cond-true, cond-false}
use Rattle.plant.specs.declared.refusals.Refusal.{Refusal}
use Rattle.plant.specs.declared.refusals.Refusal.TheVariants.{ClientOutOfRange, WriteBacksLeft}
use Rattle.plant.specs.declared.tables.Element.{Element}
use Rattle.plant.specs.Meaning.{Meaning, put_meaning}
use Rattle.rules.specs.States.{met}
use Rattle.rules.specs.State.{State}
use Rattle.rules.specs.Locking.{leave}
use Rattle.rules.specs.Calls.{Outcome, answered, refused, check, by_state, as_client, next_left, with_lock, taken_lock, with_table_number, back_lock, end_call, give_up_call}
use Rattle.rules.specs.declared.ClientState.{ClientState}
use Rattle.rules.specs.declared.Lock.{Lock}
use Rattle.rules.specs.declared.Fate.TheVariants.{Written, Dropped}
use Rattle.rules.specs.declared.Move.{Move}
use Rattle.rules.specs.declared.Move.TheVariants.{GiveUp, End}
use Rattle.rules.specs.declared.Answer.TheVariants.{Done, WroteBack}

module _ (s : State) (c : ℕ) (move : Move) (then : ClientState → Outcome) where
  -- The client's state meets the call.
  pub as_met : (r : Result ClientState Refusal) → r ≡ cond (ltb c 16) (met (s.clients c) move) (Err ClientOutOfRange) → by_state r s then ≡ as_client s c move then
  as_met r e = ap (λ x. by_state x s then) e ∙ go (ltb c 16)
    where
      go : (b : Bool) → by_state (cond b (met (s.clients c) move) (Err ClientOutOfRange)) s then ≡ cond b (by_state (met (s.clients c) move) s then) (refused s ClientOutOfRange)
      go true = refl
      go false = refl

-- Whether an element is left, by the element or by its number.
pub same_left : (o : Option Element) (p : Option ℕ) → option_map (λ e. e.0) o ≡ p → is_some o ≡ is_some p
same_left o p h = go o ∙ ap is_some h
  where
    go : (o : Option Element) → is_some o ≡ is_some (option_map (λ e. e.0) o)
    go None = refl
    go (Some e) = refl

-- The end of a client with nothing left.
pub end_done : (s after : State) (c : ℕ) (state : ClientState) → Ok state ≡ cond (ltb c 16) (met (s.clients c) End) (Err ClientOutOfRange) →
    is_some (next_left s c) ≡ false → after ≡ leave (λ d. eqb d c) state s → answered after Done ≡ end_call s c
end_done s after c state h none is =
    ap (λ x. answered x Done) is
    ∙ ap (λ b. cond (not b) (answered (leave (λ d. eqb d c) state s) Done) (refused s WriteBacksLeft)) (sym none)
    ∙ as_met s c End (λ state. check (not (is_some (next_left s c))) WriteBacksLeft s (answered (leave (λ d. eqb d c) state s) Done)) (Ok state) h

pub give_up_done : (s after : State) (c : ℕ) (state : ClientState) → Ok state ≡ cond (ltb c 16) (met (s.clients c) GiveUp) (Err ClientOutOfRange) →
    after ≡ leave (λ d. eqb d c) state s → answered after Done ≡ give_up_call s c
give_up_done s after c state h is =
    ap (λ x. answered x Done) is ∙ as_met s c GiveUp (λ state. answered (leave (λ d. eqb d c) state s) Done) (Ok state) h

-- One element goes back: dropped over a mark, else written.
pub back_dropped : (s after : State) (c e : ℕ) (l : Lock) (o : Option Lock) → o ≡ Some l → after ≡ with_lock s c e (taken_lock l) → after.marked e ≡ true →
    answered after (WroteBack (record { 0 = e }) Dropped) ≡ back_lock s c e o
back_dropped s after c e l o held is marked =
    ap (λ x. answered x (WroteBack (record { 0 = e }) Dropped)) is
    ∙ sym (cond-true (s.marked e) (answered (with_lock s c e (taken_lock l)) (WroteBack (record { 0 = e }) Dropped)) (answered (with_table_number (with_lock s c e (taken_lock l)) e l.copy) (WroteBack (record { 0 = e }) Written))
    (sym (ap (λ x. x.marked e) is) ∙ marked))
    ∙ ap (back_lock s c e) (sym held)

pub back_written : (s after : State) (m : Meaning) (c e : ℕ) (l : Lock) (o : Option Lock) → o ≡ Some l → after ≡ with_lock s c e (taken_lock l) → after.marked e ≡ false →
    m ≡ put_meaning after.table e l.copy →
    answered (record { table = m; clients = after.clients; locks = after.locks; marked = after.marked; second = after.second; ties = after.ties }) (WroteBack (record { 0 = e }) Written) ≡ back_lock s c e o
back_written s after m c e l o held is unmarked put =
    ap (λ x. answered (record { table = x; clients = after.clients; locks = after.locks; marked = after.marked; second = after.second; ties = after.ties }) (WroteBack (record { 0 = e }) Written)) put
    ∙ ap (λ x. answered (with_table_number x e l.copy) (WroteBack (record { 0 = e }) Written)) is
    ∙ sym (cond-false (s.marked e) (answered (with_lock s c e (taken_lock l)) (WroteBack (record { 0 = e }) Dropped)) (answered (with_table_number (with_lock s c e (taken_lock l)) e l.copy) (WroteBack (record { 0 = e }) Written))
    (sym (ap (λ x. x.marked e) is) ∙ unmarked))
    ∙ ap (back_lock s c e) (sym held)
