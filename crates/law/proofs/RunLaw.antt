-- The law of every run.
use Rattle.std.proofs.Common.{◌≡◌, ℕ, ◌<◌, ◌≤◌, Bool, true, false, cond, not, ◌&&◌, eqb, List, [], ◌∷◌, length, is_some, Some, None, Option, sym, refl, ap, ◌∙◌, subst, inl, inr}
use Rattle.std.proofs.lemmas.Bool.{and_parts, eqb-true, eq-eqb, cases_Bool, cases_eq}
use Rattle.rules.specs.Scans.{at, some_below}
use Rattle.rules.specs.State.{for_writing}
use Rattle.rules.specs.declared.ClientState.{ClientState}
use Rattle.rules.specs.declared.ClientState.TheVariants.{Idle, Executing, Committing, ThrownOut}
use Rattle.rules.specs.declared.LockKind.{LockKind}
use Rattle.rules.specs.declared.Lock.{Lock}
use Rattle.rules.proofs.Scanning.{some_false, some_found}
use Rattle.law.specs.Record.{is_open}
use Rattle.law.proofs.Touches.{last, TrueTo}
use Rattle.law.proofs.Elements.{never, is_none}
use Rattle.plant.specs.Meaning.{Meaning, number}
use Rattle.ranks.specs.declared.Client.{Client}
use Rattle.rules.specs.State.{State, is_committing}
use Rattle.rules.specs.Locking.{leave, conflicts, lock_conflicts}
use Rattle.rules.specs.Calls.{with_client}
use Rattle.rules.specs.declared.Call.{Call}
use Rattle.rules.specs.declared.Call.TheVariants.{Begin, Lock as Locks}
use Rattle.rules.specs.declared.Answer.{Answer}
use Rattle.rules.specs.declared.Answer.TheVariants.{Done, Wait, Lost}
use Rattle.law.specs.History.{Event, History}
use Rattle.law.specs.Record.{Record, record_of}
use Rattle.law.specs.Order.{order}
use Rattle.law.proofs.Gaining.{at_here, at_other}
use Rattle.plant.specs.declared.tables.Element.{Element as TableElement}
use Rattle.rules.specs.Locking.{gain}
use Rattle.law.proofs.Agreement.{kind_of, kind_there}
use Rattle.rules.specs.Effects.{Effect, refusing, beginning, keeping, losing, waiting, gaining, reading, changing, entering, dropping, writing, ending, giving_up, clearing, binding, removing, hard_reading, hard_writing}
use Rattle.ranks.specs.Standing.{Order, stands_above}
use Rattle.ranks.proofs.Stands.{decides}
use Rattle.rules.specs.Calls.{Outcome, answered}
use Rattle.rules.specs.Step.{step}
use Rattle.rules.proofs.EachEffect.{every_step}
use Rattle.law.specs.History.{Leads}
use Rattle.law.specs.Record.{holding, kind_writes, is_write_locked}
use Rattle.law.specs.Play.{all_steps}
use Rattle.law.specs.Law.{list_after, asks_ranks, OneList, Highest, GoesOn, HighestGoesOn, LawOfRun, EveryRunHasTheLaw, SecondVersionWhileWriteLocked}
use Rattle.law.proofs.Touches.{leaves as leaves_at, plays_right, trace_steps}
use Rattle.law.proofs.Leaving.{writer_of}
use Rattle.law.proofs.Once.{once}
use Rattle.law.proofs.Invariant.{Inv, inv_start, inv_step}

-- The last step of a run.
pub last_effect : {K : Type 0} (above : K → K → Bool) (t : State) (x : Event K) (s : State) → step above t x.ranks x.call ≡ answered s x.answer →
    Effect above t x.ranks x.call s x.answer
last_effect above t x s e = subst (λ (o : Outcome). Effect above t x.ranks x.call o.state o.answer) e (every_step above t x.ranks x.call)

-- Every run keeps what is kept.
pub inv_run : {K : Type 0} (above : K → K → Bool) (m : Meaning) → length m.numbers ≤ 256 → (h : History K) (s : State) → Leads above m h s → Inv m h s
inv_run above m small [] s e = subst (Inv m []) (sym e) (inv_start m small)
inv_run above m small (x ∷ h) s r = inv_step above m h r.0 (inv_run above m small h r.0 r.1) x.ranks (last_effect above r.0 x s r.2)

conflict_lock : (mark : Bool) (kind : LockKind) (o : Option Lock) → lock_conflicts mark kind o ≡ true → (l : Lock) × (o ≡ Some l)
conflict_lock mark k None h = never (cc)
conflict_lock mark k (Some l) h = (l, refl)

-- A client that is open and stands above every other open one.
module _ {K : Type 0} (above : K → K → Bool) (O : Order above) (m : Meaning) (h : History K) (t : State) (v : Inv m h t) (ranks : List K) (c : ℕ)
    (opened : is_open (t.clients c) ≡ true) (highest : (d : ℕ) → is_open (t.clients d) ≡ true → (d ≡ c → ⊥) → stands_above above ranks c d ≡ true) where
  not_yet : t.clients c ≡ ThrownOut → ⊥
  not_yet e = never (let z : true ≡ false = sym opened ∙ ap is_open e in cc)

  -- Only its own lost lock, or another's granted lock, could throw it out.
  by_loss : (c1 : ℕ) (kind : LockKind) (e : ℕ) → some_below 16 (λ d. conflicts t c1 kind e d && stands_above above ranks d c1) ≡ true → c ≡ c1 → ⊥
  by_loss c1 kind e beaten z =
      let f = some_found 16 (λ d. conflicts t c1 kind e d && stands_above above ranks d c1) beaten in
      let both = and_parts (conflicts t c1 kind e f.found) (stands_above above ranks f.found c1) f.passes in
      let parts = and_parts (not (eqb f.found c1)) (lock_conflicts (t.marked e) kind (t.locks f.found e)) both.0 in
      let l = conflict_lock (t.marked e) kind (t.locks f.found e) parts.1 in
      let other : f.found ≡ c → ⊥ = λ y. never (let w : true ≡ false = sym parts.0 ∙ ap not (eq-eqb f.found c1 (y ∙ z)) in cc) in
      let up : stands_above above ranks c f.found ≡ true = highest f.found ((v.element e).locking.held f.found l.0 l.1).opened other in
      let down : stands_above above ranks f.found c ≡ false = (decides above O).asymmetric ranks c f.found up in
      never (let w : true ≡ false = sym both.1 ∙ ap (stands_above above ranks f.found) (sym z) ∙ down in cc)

  by_grant : (c1 : ℕ) (kind : LockKind) (e : ℕ) → t.clients c1 ≡ Executing → some_below 16 (λ d. conflicts t c1 kind e d && stands_above above ranks d c1) ≡ false →
      conflicts t c1 kind e c ≡ true → ⊥
  by_grant c1 kind e ex unbeaten inside =
      let parts = and_parts (not (eqb c c1)) (lock_conflicts (t.marked e) kind (t.locks c e)) inside in
      let l = conflict_lock (t.marked e) kind (t.locks c e) parts.1 in
      let small : c < 16 = (v.element e).locking.below c (ap is_some l.1) in
      let other : c1 ≡ c → ⊥ = λ y. never (let w : true ≡ false = sym parts.0 ∙ ap not (eq-eqb c c1 (sym y)) in cc) in
      let up : stands_above above ranks c c1 ≡ true = highest c1 (ap is_open ex) other in
      let none = some_false 16 (λ d. conflicts t c1 kind e d && stands_above above ranks d c1) unbeaten c small in
      never (let w : true ≡ false = sym (rw (inside, up)) ∙ none in cc)

  set_out : (c1 : ℕ) (after : ClientState) → (after ≡ ThrownOut → ⊥) → at t.clients c1 after c ≡ ThrownOut → ⊥
  set_out c1 after n e =
      elim (cases_eq c c1)
      [ inl z ↦ n (sym (ap (at t.clients c1 after) z ∙ at_here t.clients c1 after) ∙ e) | inr y ↦ not_yet (sym (at_other t.clients c1 after c y) ∙ e) ]

  left_out : (b : Bool) (after : ClientState) → (b ≡ true → after ≡ ThrownOut → ⊥) → cond b after (t.clients c) ≡ ThrownOut → ⊥
  left_out true after n e = n refl e
  left_out false after n e = not_yet e

  pub stays_in : {call : Call K} {s : State} {a : Answer} → Effect above t ranks call s a → s.clients c ≡ ThrownOut → ⊥
  stays_in (refusing call r) e = not_yet e
  stays_in (beginning c1 k small idle) e = set_out c1.0 Executing (λ z. never (cc)) e
  stays_in (keeping c1 kind e x covered) q = not_yet q
  stays_in (losing c1 kind e small x beaten) q = left_out (eqb c c1.0) ThrownOut (λ z y. by_loss c1.0 kind e.0 beaten (eqb-true c c1.0 z)) q
  stays_in (waiting c1 kind e x held_up) q = not_yet q
  stays_in (gaining c1 kind e small x there uncovered unbeaten free) q =
      left_out (conflicts t c1.0 kind e.0 c) ThrownOut (λ z y. by_grant c1.0 kind e.0 x unbeaten z) q
  stays_in (reading c1 e l x q) z = not_yet z
  stays_in (changing c1 e w l x q writes inside) z = not_yet z
  stays_in (entering c1 x) z = set_out c1.0 Committing (λ y. never (cc)) z
  stays_in (dropping c1 e l x q ch mk) z = not_yet z
  stays_in (writing c1 e l x q ch mk) z = not_yet z
  stays_in (ending c1 small x none) z = left_out (eqb c c1.0) Idle (λ w y. never (cc)) z
  stays_in (giving_up c1 small x) z = left_out (eqb c c1.0) Idle (λ w y. never (cc)) z
  stays_in (clearing c1 x) z = set_out c1.0 Idle (λ y. never (cc)) z
  stays_in (binding p e q there) z = not_yet z
  stays_in (removing p) z = not_yet z
  stays_in (hard_reading p e q) z = not_yet z
  stays_in (hard_writing p w e q there inside) z = not_yet z

committing_is : (st : ClientState) → is_committing st ≡ true → st ≡ Committing
committing_is Idle h = never (cc)
committing_is Executing h = never (cc)
committing_is Committing h = refl
committing_is ThrownOut h = never (cc)

lock_there : (mark : Bool) (kind : LockKind) (o : Option Lock) → lock_conflicts mark kind o ≡ true → is_some o ≡ true
lock_there mark kind None h = never (cc)
lock_there mark kind (Some l) h = refl

-- A lock waits only for another client that is committing and holds the element.
waits : {K : Type 0} {above : K → K → Bool} {t : State} {ranks : List K} {call : Call K} {s : State} {a : Answer} → Effect above t ranks call s a →
    (caller : Client) (kind : LockKind) (e : TableElement) → call ≡ Locks caller kind e → a ≡ Wait →
    (d : ℕ) × (d ≡ caller.0 → ⊥) × (t.clients d ≡ Committing) × (is_some (t.locks d e.0) ≡ true)
waits (refusing call r) caller kind e q w = never (cc)
waits (beginning c1 k small idle) caller kind e q w = never (cc)
waits (keeping c1 k1 e1 x covered) caller kind e q w = never (cc)
waits (losing c1 k1 e1 small x beaten) caller kind e q w = never (cc)
waits {t = t} (waiting c1 k1 e1 x held_up) caller kind e q w =
    let f = some_found 16 (λ d. conflicts t c1.0 k1 e1.0 d && is_committing (t.clients d)) held_up in
    let both = and_parts (conflicts t c1.0 k1 e1.0 f.found) (is_committing (t.clients f.found)) f.passes in
    let parts = and_parts (not (eqb f.found c1.0)) (lock_conflicts (t.marked e1.0) k1 (t.locks f.found e1.0)) both.0 in
    let same_client : c1 ≡ caller = cc in
    let same_element : e1 ≡ e = cc in (
      f.found,
      (λ z. never (let y : true ≡ false = sym parts.0 ∙ ap not (eq-eqb f.found c1.0 (z ∙ ap (λ (k : Client). k.0) (sym same_client))) in cc)),
      committing_is (t.clients f.found) both.1,
      ap (λ (g : TableElement). is_some (t.locks f.found g.0)) (sym same_element) ∙ lock_there (t.marked e1.0) k1 (t.locks f.found e1.0) parts.1,
    )
waits (gaining c1 k1 e1 small x there uncovered unbeaten free) caller kind e q w = never (cc)
waits (reading c1 e1 l x r) caller kind e q w = never (cc)
waits (changing c1 e1 v l x r writes inside) caller kind e q w = never (cc)
waits (entering c1 x) caller kind e q w = never (cc)
waits (dropping c1 e1 l x r ch mk) caller kind e q w = never (cc)
waits (writing c1 e1 l x r ch mk) caller kind e q w = never (cc)
waits (ending c1 small x none) caller kind e q w = never (cc)
waits (giving_up c1 small x) caller kind e q w = never (cc)
waits (clearing c1 x) caller kind e q w = never (cc)
waits (binding p e1 r there) caller kind e q w = never (cc)
waits (removing p) caller kind e q w = never (cc)
waits (hard_reading p e1 r) caller kind e q w = never (cc)
waits (hard_writing p v e1 r there inside) caller kind e q w = never (cc)

-- A call that looks at no ranks goes the same way with any list.
any_ranks : {K : Type 0} {above : K → K → Bool} {t : State} {ranks : List K} {call : Call K} {s : State} {a : Answer} (others : List K) →
    (asks_ranks call ≡ true → ranks ≡ others) → Effect above t ranks call s a → Effect above t others call s a
any_ranks others alike (refusing call r) = refusing call r
any_ranks {above = above} {t = t} others alike (beginning c k small idle) = subst (λ r. Effect above t r (Begin c k) (with_client t c.0 Executing) Done) (alike refl) (beginning c k small idle)
any_ranks {above = above} {t = t} others alike (keeping c kind e x covered) = keeping c kind e x covered
any_ranks {above = above} {t = t} others alike (losing c kind e small x beaten) =
    subst (λ r. Effect above t r (Locks c kind e) (leave (λ d. eqb d c.0) ThrownOut t) Lost) (alike refl) (losing c kind e small x beaten)
any_ranks others alike (waiting c kind e x held_up) = waiting c kind e x held_up
any_ranks {above = above} {t = t} others alike (gaining c kind e small x there uncovered unbeaten free) =
    subst (λ r. Effect above t r (Locks c kind e) (gain c.0 kind e.0 (leave (λ d. conflicts t c.0 kind e.0 d) ThrownOut t)) Done) (alike refl)
    (gaining c kind e small x there uncovered unbeaten free)
any_ranks others alike (reading c e l x q) = reading c e l x q
any_ranks others alike (changing c e v l x q writes inside) = changing c e v l x q writes inside
any_ranks others alike (entering c x) = entering c x
any_ranks others alike (dropping c e l x q ch mk) = dropping c e l x q ch mk
any_ranks others alike (writing c e l x q ch mk) = writing c e l x q ch mk
any_ranks others alike (ending c small x none) = ending c small x none
any_ranks others alike (giving_up c small x) = giving_up c small x
any_ranks others alike (clearing c x) = clearing c x
any_ranks others alike (binding p e q there) = binding p e q there
any_ranks others alike (removing p) = removing p
any_ranks others alike (hard_reading p e q) = hard_reading p e q
any_ranks others alike (hard_writing p v e q there inside) = hard_writing p v e q there inside

module _ {K : Type 0} (above : K → K → Bool) (O : Order above) (m : Meaning) (small : length m.numbers ≤ 256) where
  goes_on : (first : List K) (x : Event K) (h : History K) (s : State) (r : Leads above m (x ∷ h) s) →
      (asks_ranks x.call ≡ true → x.ranks ≡ list_after first h) → (c : ℕ) → Highest above (list_after first h) (record_of h) c →
      GoesOn x (record_of h) (record_of (x ∷ h)) c
  goes_on first x h s r handed c top =
      let t : State = r.0 in
      let v : Inv m h t = inv_run above m small h t r.1 in
      let w : Inv m (x ∷ h) s = inv_run above m small (x ∷ h) s r in
      let f : Effect above t (list_after first h) x.call s x.answer = any_ranks (list_after first h) handed (last_effect above t x s r.2) in
      let at_state : (d : ℕ) → (record_of h).clients d ≡ t.clients d = λ d. ap (λ (q : Record). q.clients d) v.agreed in
      record {
        not_thrown_out = λ out.
            stays_in above O m h t v (list_after first h) c (sym (ap is_open (at_state c)) ∙ top.opened)
            (λ d o n. top.highest d (ap is_open (at_state d) ∙ o) n) f (sym (ap (λ (q : Record). q.clients c) w.agreed) ∙ out);
        waits_only = λ caller kind e called by_c waited.
            let g = waits f caller kind e called waited in
            record {
              holder = g.0;
              other = λ z. g.1 (z ∙ sym by_c);
              committing = at_state g.0 ∙ g.2;
              holds = ap (λ (q : Record). holding q g.0 e.0) v.agreed ∙ kind_there (t.locks g.0 e.0) ∙ g.3;
            };
      }

  highest_goes_on : (first : List K) (h : History K) (s : State) → Leads above m h s → OneList first h → HighestGoesOn above first h
  highest_goes_on first [] s r handed = tt
  highest_goes_on first (x ∷ h) s r handed =
      (goes_on first x h s r handed.0, highest_goes_on first h r.0 r.1 handed.1)

  pub law_of_run : (h : History K) (s : State) → Leads above m h s → LawOfRun above m h s
  law_of_run h s r =
      let v : Inv m h s = inv_run above m small h s r in
      record {
        once = once h v.rearranged;
        reads = plays_right (number m) (all_steps (order h)) (λ e. subst (TrueTo (number m e)) (sym (trace_steps e (order h))) (v.element e).counts.faithful);
        shows_last = λ e there. leaves_at (number m) (all_steps (order h)) e ∙ ap (last (number m e)) (trace_steps e (order h)) ∙ (v.element e).counts.shown;
        highest_goes_on = λ first handed. highest_goes_on first h s r handed;
      }

pub every_run : {K : Type 0} (above : K → K → Bool) → Order above → EveryRunHasTheLaw above
every_run above O m h s small r = law_of_run above O m small h s r

-- A second version is there exactly while somebody holds the element for writing.
pub kind_writing : (o : Option Lock) → kind_writes (kind_of o) ≡ for_writing o
kind_writing None = refl
kind_writing (Some l) = refl

pub second_while_locked : {K : Type 0} (above : K → K → Bool) → SecondVersionWhileWriteLocked above
second_while_locked above m h s small r e =
    by (some_below 16 (λ c. for_writing (s.locks c e))) refl ∙ sym record_says
  where
    v : Inv m h s
    v = inv_run above m small h s r

    record_says : is_write_locked (record_of h) e ≡ some_below 16 (λ c. for_writing (s.locks c e))
    record_says = ap (λ (q : Record). is_write_locked q e) v.agreed ∙ ap (some_below 16) (λ i c. kind_writing (s.locks c e) i)

    by : (b : Bool) → some_below 16 (λ c. for_writing (s.locks c e)) ≡ b → is_some (s.second e) ≡ some_below 16 (λ c. for_writing (s.locks c e))
    by true w =
        let f = some_found 16 (λ c. for_writing (s.locks c e)) w in
        let l = writer_of (s.locks f.found e) f.passes in
        ((v.element e).locking.held f.found l.0 l.1).present l.2 ∙ sym w
    by false w =
        ap is_some ((v.element e).locking.no_second (λ c.
        elim (cases_Bool (is_some (s.locks c e)))
        [ inl i ↦ some_false 16 (λ d. for_writing (s.locks d e)) w c ((v.element e).locking.below c i) | inr i ↦ ap for_writing (is_none (s.locks c e) i) ])) ∙ sym w
