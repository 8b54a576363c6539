-- Each effect keeps what is kept of each element: those that only concern clients, and leaving.
use Rattle.std.proofs.Common.{◌≡◌, ℕ, suc, Bool, true, false, cond, not, ◌&&◌, List, [], ◌∷◌, ◌++◌, length, is_some, Some, None, sym, refl, ap, ◌∙◌, inl, inr}
use Rattle.std.proofs.lemmas.List.{append-nil}
use Rattle.std.proofs.lemmas.Bool.{and_left, eq-eqb, ne_eqb, cases_Bool, cases_eq}
use Rattle.rules.specs.Scans.{at, some_below}
use Rattle.rules.specs.declared.ClientState.{ClientState}
use Rattle.rules.specs.declared.ClientState.TheVariants.{Idle, Executing, Committing, ThrownOut}
use Rattle.rules.specs.declared.LockKind.{LockKind}
use Rattle.rules.specs.declared.Lock.{Lock}
use Rattle.rules.proofs.Scanning.{some_false}
use Rattle.law.specs.Record.{is_open}
use Rattle.law.proofs.Trails.{Stays, same, fresh}
use Rattle.law.proofs.Elements.{Kept, never, true_not_false, there_is, is_none}
use Rattle.plant.specs.Meaning.{Meaning, number}
use Rattle.ranks.specs.declared.Client.{Client}
use Rattle.rules.specs.State.{State, is_committing}
use Rattle.rules.specs.Locking.{leave, conflicts}
use Rattle.rules.specs.Calls.{with_client}
use Rattle.rules.specs.declared.Call.TheVariants.{Begin}
use Rattle.rules.specs.declared.Answer.TheVariants.{Done}
use Rattle.law.specs.History.{Event, History}
use Rattle.law.specs.Order.{accesses, order, steps_since}
use Rattle.law.proofs.Touches.{on, trace}
use Rattle.law.proofs.Elements.{kept_clients}
use Rattle.law.proofs.Leaving.{kept_leaves}
use Rattle.law.proofs.OrderLaws.{order_more}
use Rattle.law.proofs.Gaining.{at_here, at_other}
use Rattle.law.proofs.Silent.{Silent, silent_order, silent_accesses, silent_steps, kept_as}

-- What is kept of an element, at a history and the state to which it leads.
abbrev pub Element : {K : Type 0} → Meaning → History K → State → (ℕ → ℕ) → ℕ → Type 0
Element m h s begun e =
    Kept (number m e) (length h) (trace e (order h)) (trace e (accesses h)) s.clients begun (λ c. s.locks c e) (λ c. on e (steps_since c h)) (s.marked e) (s.second e)
    (number s.table e)

-- The same one moment later, before the event is put into the history.
abbrev pub Between : {K : Type 0} → Meaning → History K → State → (ℕ → ℕ) → ℕ → Type 0
Between m h s begun e =
    Kept (number m e) (suc (length h)) (trace e (order h)) (trace e (accesses h)) s.clients begun (λ c. s.locks c e) (λ c. on e (steps_since c h)) (s.marked e) (s.second e)
    (number s.table e)

pub silent_element : {K : Type 0} (m : Meaning) (x : Event K) (h : History K) → Silent x.call x.answer → (s : State) (begun : ℕ → ℕ) (e : ℕ) →
    Between m h s begun e → Element m (x ∷ h) s begun e
silent_element m x h q s begun e k =
    kept_as (ap (trace e) (sym (silent_order x h q))) (ap (trace e) (sym (silent_accesses x h q))) refl (λ i c. on e (sym (silent_steps x h q c) i)) refl refl refl k

executing_or : (st : ClientState) → is_open st ≡ true → is_committing st ≡ false → st ≡ Executing
executing_or Idle o n = never (cc)
executing_or Executing o n = refl
executing_or Committing o n = never (cc)
executing_or ThrownOut o n = never (cc)

module _ {K : Type 0} (m : Meaning) (h : History K) (t : State) (begun : ℕ → ℕ) (k : (e : ℕ) → Element m h t begun e) where
  -- Nothing of the element alters.
  pub still : (e : ℕ) → Between m h t begun e
  still e =
      kept_clients (number m e) (length h) (trace e (order h)) (trace e (accesses h)) t.clients t.clients begun begun (λ c. t.locks c e) (λ c. on e (steps_since c h)) (λ c. on e (steps_since c h))
      (t.marked e) (t.second e) (number t.table e)
      (λ c o. same o refl refl) (λ c l q. (((k e).locking.held c l q).opened, λ x. x)) (λ c i. refl) (k e).counts.nothing_own (k e)

  pub shut_holds_nothing : (c e : ℕ) → is_open (t.clients c) ≡ false → t.locks c e ≡ None
  shut_holds_nothing c e shut =
      elim (cases_Bool (is_some (t.locks c e)))
      [ inl i ↦ (let x = there_is (t.locks c e) i in true_not_false ((k e).locking.held c x.0 x.1).opened shut) | inr i ↦ is_none (t.locks c e) i ]

  -- A client goes on in its committing step.
  pub enters : (c0 : ℕ) → t.clients c0 ≡ Executing → (e : ℕ) → Between m h (with_client t c0 Committing) begun e
  enters c0 ex e =
      kept_clients (number m e) (length h) (trace e (order h)) (trace e (accesses h)) t.clients (at t.clients c0 Committing) begun begun (λ c. t.locks c e) (λ c. on e (steps_since c h)) (λ c. on e (steps_since c h))
      (t.marked e) (t.second e) (number t.table e)
      (λ c o. elim (cases_eq c c0)
      [ inl q ↦ same (ap (λ n. is_open (t.clients n)) q ∙ ap is_open ex) refl refl | inr n ↦ same (sym (ap is_open (at_other t.clients c0 Committing c n)) ∙ o) refl refl ])
      (λ c l q. elim (cases_eq c c0) [
        | inl r ↦ (
          (ap (λ n. is_open (at t.clients c0 Committing n)) r ∙ ap is_open (at_here t.clients c0 Committing)),
          (λ x. never (let z : Committing ≡ Executing = sym (ap (at t.clients c0 Committing) r ∙ at_here t.clients c0 Committing) ∙ x in cc)),
        )
        | inr n ↦
            ((ap is_open (at_other t.clients c0 Committing c n) ∙ ((k e).locking.held c l q).opened), (λ x. sym (at_other t.clients c0 Committing c n) ∙ x))
      ])
      (λ c i. refl)
      (λ c o q. (k e).counts.nothing_own c
      (elim (cases_eq c c0) [ inl r ↦ (ap (λ n. is_open (t.clients n)) r ∙ ap is_open ex) | inr n ↦ sym (ap is_open (at_other t.clients c0 Committing c n)) ∙ o ]) q)
      (k e)

  -- A thrown-out client becomes idle.
  pub clears : (c0 : ℕ) → t.clients c0 ≡ ThrownOut → (e : ℕ) → Between m h (with_client t c0 Idle) begun e
  clears c0 out e =
      kept_clients (number m e) (length h) (trace e (order h)) (trace e (accesses h)) t.clients (at t.clients c0 Idle) begun begun (λ c. t.locks c e) (λ c. on e (steps_since c h)) (λ c. on e (steps_since c h))
      (t.marked e) (t.second e) (number t.table e)
      (λ c o. same (was_open c o) refl refl)
      (λ c l q.
      let n : c ≡ c0 → ⊥ = λ r. never (let z : Some l ≡ None = sym q ∙ shut_holds_nothing c e (ap (λ d. is_open (t.clients d)) r ∙ ap is_open out) in cc) in
      ((ap is_open (at_other t.clients c0 Idle c n) ∙ ((k e).locking.held c l q).opened), (λ x. sym (at_other t.clients c0 Idle c n) ∙ x)))
      (λ c i. refl)
      (λ c o q. (k e).counts.nothing_own c (was_open c o) q)
      (k e)
    where
      was_open : (c : ℕ) → is_open (at t.clients c0 Idle c) ≡ true → is_open (t.clients c) ≡ true
      was_open c o =
          elim (cases_eq c c0) [
            | inl r ↦ true_not_false o (ap (λ n. is_open (at t.clients c0 Idle n)) r ∙ ap is_open (at_here t.clients c0 Idle))
            | inr n ↦ sym (ap is_open (at_other t.clients c0 Idle c n)) ∙ o
          ]

  -- An idle client begins.
  pub begins_anew : (c0 : Client) (r : K) (ranks : List K) → t.clients c0.0 ≡ Idle → (e : ℕ) →
      Element m (record { call = Begin c0 r; ranks = ranks; answer = Done } ∷ h) (with_client t c0.0 Executing) (at begun c0.0 (length h)) e
  begins_anew c0 r ranks idle e =
      kept_as (ap (trace e) (sym order_same)) (ap (trace e) (sym (append-nil (accesses h)))) refl refl refl refl refl
      (kept_clients (number m e) (length h) (trace e (order h)) (trace e (accesses h)) t.clients (at t.clients c0.0 Executing) begun (at begun c0.0 (length h)) (λ c. t.locks c e) (λ c. on e (steps_since c h)) (λ c. on e (steps_since c (x ∷ h)))
      (t.marked e) (t.second e) (number t.table e) stays_so
      (λ c l q.
      let n = away c l q in
      ((ap is_open (at_other t.clients c0.0 Executing c n) ∙ ((k e).locking.held c l q).opened), (λ z. sym (at_other t.clients c0.0 Executing c n) ∙ z)))
      (λ c i. let y = there_is (t.locks c e) i in own_same c (away c y.0 y.1))
      own_none
      (k e))
    where
      x : Event K
      x = record { call = Begin c0 r; ranks = ranks; answer = Done }

      order_same : order (record { call = Begin c0 r; ranks = ranks; answer = Done } ∷ h) ≡ order h
      order_same = order_more (record { call = Begin c0 r; ranks = ranks; answer = Done }) h refl (λ those q. refl) ∙ append-nil (order h)

      nothing : t.locks c0.0 e ≡ None
      nothing = shut_holds_nothing c0.0 e (ap is_open idle)

      away : (c : ℕ) (l : Lock) → t.locks c e ≡ Some l → c ≡ c0.0 → ⊥
      away c l q z = never (let w : Some l ≡ None = sym q ∙ ap (λ n. t.locks n e) z ∙ nothing in cc)

      stays_so : (c : ℕ) → is_open (at t.clients c0.0 Executing c) ≡ true →
          Stays (length h) (is_open (t.clients c)) (is_open (at t.clients c0.0 Executing c)) (begun c) (at begun c0.0 (length h) c) (is_some (t.locks c e)) (is_some (t.locks c e))
      stays_so c o =
          elim (cases_eq c c0.0) [
            | inl z ↦ fresh (ap (at begun c0.0 (length h)) z ∙ at_here begun c0.0 (length h)) (ap is_some (ap (λ n. t.locks n e) z ∙ nothing))
            | inr n ↦ same (sym (ap is_open (at_other t.clients c0.0 Executing c n)) ∙ o) (at_other begun c0.0 (length h) c n) refl
          ]

      own_same : (c : ℕ) → (c ≡ c0.0 → ⊥) → on e (steps_since c (x ∷ h)) ≡ on e (steps_since c h)
      own_same c n =
          ap (λ b. on e (cond (b && true) [] (steps_since c h ++ []))) (ne_eqb c0.0 c (λ z. n (sym z))) ∙ ap (on e) (append-nil (steps_since c h))

      own_none : (c : ℕ) → is_open (at t.clients c0.0 Executing c) ≡ true → t.locks c e ≡ None → on e (steps_since c (x ∷ h)) ≡ []
      own_none c o q =
          elim (cases_eq c c0.0) [
            | inl z ↦ ap (λ b. on e (cond (b && true) [] (steps_since c h ++ []))) (eq-eqb c0.0 c (sym z))
            | inr n ↦ own_same c n ∙ (k e).counts.nothing_own c (sym (ap is_open (at_other t.clients c0.0 Executing c n)) ∙ o) q
          ]

  -- Executing clients leave.
  pub leaves : (those : ℕ → Bool) (after : ClientState) → is_open after ≡ false →
      ((d e : ℕ) (l : Lock) → those d ≡ true → t.locks d e ≡ Some l → t.clients d ≡ Executing) → (e : ℕ) → Between m h (leave those after t) begun e
  leaves those after shut ex e =
      kept_leaves (number m e) (length h) (trace e (order h)) (trace e (accesses h)) t.clients begun (λ c. t.locks c e) (λ c. on e (steps_since c h)) (t.marked e) (t.second e) (number t.table e)
      those after shut
      (λ d l out q w.
      let H = (k e).locking.held d l q in
      H.level w (and_left l.taken (not (t.marked e)) (H.executing (ex d e l out q))))
      (k e)

  -- Those in conflict, where none of them is committing, are executing.
  pub conflicting_execute : (c0 : ℕ) (kind : LockKind) (e : ℕ) → some_below 16 (λ d. conflicts t c0 kind e d && is_committing (t.clients d)) ≡ false →
      (d f : ℕ) (l : Lock) → conflicts t c0 kind e d ≡ true → t.locks d f ≡ Some l → t.clients d ≡ Executing
  conflicting_execute c0 kind e free d f l out q =
      let small = (k f).locking.below d (ap is_some q) in
      let none = some_false 16 (λ c. conflicts t c0 kind e c && is_committing (t.clients c)) free d small in
      executing_or (t.clients d) ((k f).locking.held d l q).opened (sym (ap (λ b. b && is_committing (t.clients d)) out) ∙ none)
