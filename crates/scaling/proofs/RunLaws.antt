-- What the run's definitions come to, by what its code has found.
use Rattle.std.proofs.Common.{◌≡◌, ℕ, suc, ◌+◌, ◌-◌, ◌^◌, ◌<◌, List, length, get_or, drop, sym, Bool, true, false, not, ◌&&◌, nat_eq, nat_lt, int_lt, min, ℤ, pos, ◌≤ℤ◌, Some, None, Option, refl, ap, ◌∙◌, arith, rules}
use Rattle.std.proofs.Math.Nat.{min-eq_left}
use Rattle.std.proofs.lemmas.Bool.{ltb-false, ltb-true}
use Rattle.std.proofs.lemmas.List.{drop_more}
use Rattle.plant.specs.Meaning.{Meaning, within, has}
use Rattle.plant.specs.declared.refusals.Refusal.TheVariants.{ClientOutOfRange, ThrownOut as WasThrownOut, NoSuchElement, NoLock}
use Rattle.rules.specs.States.{met}
use Rattle.rules.specs.State.{State, for_writing}
use Rattle.rules.specs.Locking.{leave}
use Rattle.rules.specs.Calls.{answered, check, by_state, as_client, change_lock, change_call, give_up_call, clear_call, write_back_call}
use Rattle.rules.specs.declared.ClientState.{ClientState}
use Rattle.rules.specs.declared.ClientState.TheVariants.{Idle, Executing, Committing, ThrownOut}
use Rattle.rules.specs.declared.Lock.{Lock}
use Rattle.rules.specs.declared.Move.TheVariants.{GiveUp, Change}
use Rattle.rules.specs.declared.Answer.{Answer}
use Rattle.rules.specs.declared.Answer.TheVariants.{Done, Refused}
use Rattle.scaling.specs.Run.{Ended, leaving_call, write_backs, scale_pair, scale_pairs}
use Rattle.scaling.specs.declared.run.Pair.{Pair}
use Rattle.scaling.specs.declared.run.Ratio.{Ratio}

-- A client whose giving up is refused since it was thrown out leaves by clearing.
module _ (s refused_by left : State) (c : ℕ) (a : Answer) where
  by_state_of : (b : Bool) (k : ClientState) →
      answered refused_by (Refused WasThrownOut) ≡ check b ClientOutOfRange s (by_state (met k GiveUp) s (λ after. answered (leave (λ d. nat_eq d c) after s) Done)) →
      answered left a ≡ clear_call refused_by c → left ≡ (leaving_call k s c).state
  by_state_of false k h cleared = search rules
  by_state_of true Idle h cleared = search rules
  by_state_of true Executing h cleared = search rules
  by_state_of true Committing h cleared = search rules
  by_state_of true ThrownOut h cleared = ap (λ o. o.state) cleared ∙ ap (λ o. (clear_call o.state c).state) h

  pub leaves_cleared : answered refused_by (Refused WasThrownOut) ≡ give_up_call s c → answered left a ≡ clear_call refused_by c →
      left ≡ (leaving_call (s.clients c) s c).state
  leaves_cleared h cleared = by_state_of (nat_lt c 16) (s.clients c) h cleared

-- Two numbers that a table does not allow are refused alike.
module _ (s : State) (c e : ℕ) (v w : ℤ) (not_v : within s.table v ≡ false) (not_w : within s.table w ≡ false) where
  refused_alike : (l : Option Lock) → change_lock s c e v l ≡ change_lock s c e w l
  refused_alike None = refl
  refused_alike (Some l) = rw (not_v, not_w) refl

  pub changed_alike : change_call s c e v ≡ change_call s c e w
  changed_alike =
      ap (λ o. as_client s c Change (λ after. check (has s.table e) NoSuchElement s (check (for_writing (s.locks c e)) NoLock s o)))
      (refused_alike (s.locks c e))

-- A number above 10^12 is above every table's limits.
above_limits : (m : Meaning) (v : ℕ) → m.highest ≤ℤ pos 1_000_000_000_000 → 1_000_000_000_000 < v → within m (pos v) ≡ false
above_limits m v high far = go (int_lt (pos v) m.lowest)
  where
    over : int_lt m.highest (pos v) ≡ true
    over = search rules

    go : (b : Bool) → (not b && not (int_lt m.highest (pos v))) ≡ false
    go true = refl
    go false = rw over refl

-- What the largest i64 stands for is refused as the number itself is.
pub capped : (s : State) (c e r : ℕ) → s.table.highest ≤ℤ pos 1_000_000_000_000 → change_call s c e (pos (min r (2 ^ 63 - 1))) ≡ change_call s c e (pos r)
capped s c e r high = go (nat_lt (2 ^ 63 - 1) r) refl
  where
    go : (b : Bool) → nat_lt (2 ^ 63 - 1) r ≡ b → change_call s c e (pos (min r (2 ^ 63 - 1))) ≡ change_call s c e (pos r)
    go false small = ap (λ n. change_call s c e (pos n)) (min-eq_left (ltb-false _ _ small))
    go true large =
        let above : 2 ^ 63 - 1 < r = ltb-true _ _ large in
        changed_alike s c e (pos (min r (2 ^ 63 - 1))) (pos r)
        (above_limits s.table (min r (2 ^ 63 - 1)) high (omega (arith, above))) (above_limits s.table r high (omega (arith, above)))

-- One write back on the way.
pub one_back : (n i c : ℕ) (s left : State) → i < n → left ≡ (write_back_call s c).state → write_backs (n - (i + 1)) c left ≡ write_backs (n - i) c s
one_back n i c s left below is =
    let more : n - i ≡ suc (n - (i + 1)) = omega (arith, below) in
    ap (write_backs (n - (i + 1)) c) is ∙ sym (ap (λ k. write_backs k c s) more)

-- One pair on the way.
pub one_pair : {K : Type 0} (above : K → K → Bool) (ranks : List K) (c : ℕ) (ratio : Ratio) (i : ℕ) (pairs : List Pair) (d : Pair) (s left : State) → i < length pairs →
    ((number : ℕ) (rest : State → Ended) → scale_pair above ranks c ratio number (get_or pairs i d) s rest ≡ rest left) →
    scale_pairs above ranks c ratio (i + 1) (drop (i + 1) pairs) left ≡ scale_pairs above ranks c ratio i (drop i pairs) s
one_pair above ranks c ratio i pairs d s left below gone =
    sym (gone (i + 1) (scale_pairs above ranks c ratio (i + 1) (drop (i + 1) pairs)))
    ∙ sym (ap (λ ps. scale_pairs above ranks c ratio i ps s) (drop_more pairs i d below))
