-- What every run keeps, and that every effect keeps it.
use Rattle.std.proofs.Common.{◌≡◌, ℕ, ◌<◌, ◌≤◌, Bool, true, false, cond, not, ◌&&◌, eqb, ltb, ◌⊎◌, List, [], ◌∷◌, length, is_some, Some, None, Option, sym, refl, ap, ◌∙◌, subst, inl, inr, arith}
use Rattle.std.proofs.lemmas.Bool.{and_parts, and_left, eqb-true, eq-eqb, ne_eqb, cases_eq, ltb-true}
use Rattle.rules.specs.Scans.{at, some_below}
use Rattle.rules.specs.declared.ClientState.{ClientState}
use Rattle.rules.specs.declared.ClientState.TheVariants.{Idle, Executing, Committing, ThrownOut}
use Rattle.rules.specs.declared.LockKind.{LockKind}
use Rattle.rules.specs.declared.Lock.{Lock}
use Rattle.law.specs.Record.{is_open}
use Rattle.law.proofs.Elements.{never, true_not_false, there_is, some_is, not_dropped}
use Rattle.plant.specs.Meaning.{Meaning}
use Rattle.ranks.specs.declared.Client.{Client}
use Rattle.rules.specs.State.{State, is_committing}
use Rattle.rules.specs.Locking.{leave, conflicts, lock_conflicts}
use Rattle.rules.specs.Calls.{with_client}
use Rattle.rules.specs.declared.Call.{Call}
use Rattle.rules.specs.declared.Call.TheVariants.{Begin, Lock as Locks, Read as Reads, Change, Commit, WriteBack, End, GiveUp, Clear, Bind, Remove, HardRead, HardWrite}
use Rattle.rules.specs.declared.Answer.{Answer}
use Rattle.rules.specs.declared.Answer.TheVariants.{Done, Number, WroteBack, Wait, Lost, Refused}
use Rattle.law.specs.History.{Event, History}
use Rattle.law.specs.Record.{Record, record_of}
use Rattle.law.specs.Order.{begins, own_steps, accessed}
use Rattle.law.proofs.Gaining.{at_here, at_other}
use Rattle.law.proofs.Silent.{Ordinary, Silent}
use Rattle.plant.specs.Meaning.{has, within}
use Rattle.plant.specs.declared.tables.Element.{Element as TableElement}
use Rattle.rules.specs.Locking.{gain, granted_lock, covers, kinds_conflict}
use Rattle.rules.specs.Calls.{with_lock, with_table_number, changed_lock, taken_lock}
use Rattle.law.proofs.Agreement.{lock_at}
use Rattle.law.proofs.ClientSteps.{Element, Between, still}
use Rattle.rules.specs.Calls.{next_left, hard_written}
use Rattle.rules.specs.State.{shows}
use Rattle.law.specs.Order.{ended, ends_one_of}
use Rattle.law.proofs.Agreement.{project}
use Rattle.plant.specs.declared.refusals.Refusal.{Refusal}
use Rattle.rules.specs.State.{opening}
use Rattle.rules.specs.Calls.{with_tie}
use Rattle.rules.specs.declared.Fate.TheVariants.{Written, Dropped}
use Rattle.rules.specs.Effects.{Effect, refusing, beginning, keeping, losing, waiting, gaining, reading, changing, entering, dropping, writing, ending, giving_up, clearing, binding, removing, hard_reading, hard_writing}
use Rattle.law.specs.Record.{noted}
use Rattle.law.proofs.Agreement.{agrees, named, not_named}
use Rattle.law.proofs.Leaving.{stayed}
use Rattle.law.proofs.Once.{Rearranged, rearranged_plain, rearranged_end}
use Rattle.law.proofs.Puts.{put_length, put_has, put_within}
use Rattle.law.proofs.Silent.{refused_silent}
use Rattle.law.proofs.ClientSteps.{silent_element, enters, clears, begins_anew, leaves, conflicting_execute}
use Rattle.law.proofs.LockSteps.{gains_lock, takes_dropped, takes_written}
use Rattle.law.proofs.OwnSteps.{reads_copy, changes_copy}
use Rattle.law.proofs.AccessSteps.{reads_shown, writes_hard, ends_whole}

pub record Inv {K : Type 0} (m : Meaning) (h : History K) (s : State) : Type 0 where
  -- the transactions' names, and the record that agrees with the state
  pub begun : ℕ → ℕ
  pub agreed : record_of h ≡ project s begun
  pub few : length s.table.numbers ≤ 256
  -- open transactions began in the past, each at a moment of its own
  pub past : (c : ℕ) → is_open (s.clients c) ≡ true → begun c < length h
  pub distinct : (c d : ℕ) → is_open (s.clients c) ≡ true → is_open (s.clients d) ≡ true → begun c ≡ begun d → c ≡ d
  -- what is locked is in the table, and changed copies lie within the limits
  pub there : (c e : ℕ) → is_some (s.locks c e) ≡ true → has s.table e ≡ true
  pub fits : (c e : ℕ) (l : Lock) → s.locks c e ≡ Some l → l.changed ≡ true → within s.table l.copy ≡ true
  pub element : (e : ℕ) → Element m h s begun e
  pub rearranged : Rearranged h

idle_never : {X : Type 0} → is_open Idle ≡ true → X
idle_never o = never (cc)

no_lock : {X : Type 0} (l : Lock) → None ≡ Some l → X
no_lock l q = never (cc)

pub inv_start : {K : Type 0} (m : Meaning) → length m.numbers ≤ 256 → Inv {K = K} m [] (opening m)
inv_start m small =
    record {
      begun = λ c. 0;
      agreed = refl;
      few = small;
      past = λ c o. idle_never o;
      distinct = λ c d o p q. idle_never o;
      there = λ c e i. never (cc);
      fits = λ c e l q ch. no_lock l q;
      element = λ e.
          record {
            front = [];
            early = [];
            tail = [];
            trail = record { order_is = refl; accesses_are = refl; front_quiet = tt; early_quiet = tt; tail_follows = tt; order_settled = tt; accesses_settled = tt };
            locking =
                record {
                  below = λ c i. never (cc);
                  held = λ c l q. no_lock l q;
                  single = λ c d l q w n. refl;
                  no_second = λ n. refl;
                };
            counts =
                record {
                  faithful = tt;
                  shown = refl;
                  starts = tt;
                  there = refl;
                  holder = λ c l q. no_lock l q;
                  nothing_own = λ c o q. refl;
                };
          };
      rearranged = λ p. refl;
    }

-- A lock found after one was set is that one, or was there.
set_found : (locks : ℕ → ℕ → Option Lock) (c0 e0 : ℕ) (G : Lock) (c e : ℕ) (l : Lock) → at locks c0 (at (locks c0) e0 (Some G)) c e ≡ Some l →
    ((c ≡ c0) × (e ≡ e0) × (G ≡ l)) ⊎ (locks c e ≡ Some l)
set_found locks c0 e0 G c e l r = by (eqb c c0 && eqb e e0) refl
  where
    by : (b : Bool) → (eqb c c0 && eqb e e0) ≡ b → ((c ≡ c0) × (e ≡ e0) × (G ≡ l)) ⊎ (locks c e ≡ Some l)
    by true w =
        let both = and_parts (eqb c c0) (eqb e e0) w in
        let z : Some G ≡ Some l = sym (ap (λ b. cond b (Some G) (locks c e)) w) ∙ sym (lock_at locks c0 e0 (Some G) c e) ∙ r in
        inl (eqb-true c c0 both.0, eqb-true e e0 both.1, cc)
    by false w = inr (sym (ap (λ b. cond b (Some G) (locks c e)) w) ∙ sym (lock_at locks c0 e0 (Some G) c e) ∙ r)

module _ {K : Type 0} (m : Meaning) (h : History K) (t : State) (v : Inv m h t) where
  -- An event that ends nothing and is no begin.
  ordinary : (x : Event K) → Ordinary x.call x.answer → (s : State) → record_of (x ∷ h) ≡ project s v.begun →
      length s.table.numbers ≡ length t.table.numbers → ((c : ℕ) → is_open (s.clients c) ≡ true → is_open (t.clients c) ≡ true) →
      ((c e : ℕ) → is_some (s.locks c e) ≡ true → has s.table e ≡ true) →
      ((c e : ℕ) (l : Lock) → s.locks c e ≡ Some l → l.changed ≡ true → within s.table l.copy ≡ true) →
      ((e : ℕ) → Element m (x ∷ h) s v.begun e) → Inv m (x ∷ h) s
  ordinary x o s agreed size opens there fits element =
      record {
        begun = v.begun;
        agreed = agreed;
        few = subst (λ n. n ≤ 256) (sym size) v.few;
        past = λ c p. let l = v.past c (opens c p) in omega arith;
        distinct = λ c d p q e. v.distinct c d (opens c p) (opens d q) e;
        there = there;
        fits = fits;
        element = element;
        rearranged = rearranged_plain x h (o.no_end h) o.ends_none v.rearranged;
      }

  silent : (x : Event K) → Silent x.call x.answer → (s : State) → record_of (x ∷ h) ≡ project s v.begun →
      length s.table.numbers ≡ length t.table.numbers → ((c : ℕ) → is_open (s.clients c) ≡ true → is_open (t.clients c) ≡ true) →
      ((c e : ℕ) → is_some (s.locks c e) ≡ true → has s.table e ≡ true) →
      ((c e : ℕ) (l : Lock) → s.locks c e ≡ Some l → l.changed ≡ true → within s.table l.copy ≡ true) →
      ((e : ℕ) → Between m h s v.begun e) → Inv m (x ∷ h) s
  silent x q s agreed size opens there fits between =
      ordinary x q.ordinary s agreed size opens there fits (λ e. silent_element m x h q s v.begun e (between e))

  -- The record after an event.
  record_after : {above : K → K → Bool} {ranks : List K} {call : Call K} {s : State} {a : Answer} → Effect above t ranks call s a →
      record_of (record { call = call; ranks = ranks; answer = a } ∷ h) ≡ project s (named (length h) call a v.begun)
  record_after {call = call} {a = a} f = ap (noted (length h) call a) v.agreed ∙ agrees f (length h) v.begun

  -- The state stays.
  unchanged : (x : Event K) → Silent x.call x.answer → record_of (x ∷ h) ≡ project t v.begun → Inv m (x ∷ h) t
  unchanged x q agreed = silent x q t agreed refl (λ c o. o) v.there v.fits (still m h t v.begun v.element)

  -- Some clients leave.
  left : (x : Event K) → Silent x.call x.answer → (those : ℕ → Bool) (after : ClientState) → is_open after ≡ false →
      ((d e : ℕ) (l : Lock) → those d ≡ true → t.locks d e ≡ Some l → t.clients d ≡ Executing) →
      record_of (x ∷ h) ≡ project (leave those after t) v.begun → Inv m (x ∷ h) (leave those after t)
  left x q those after shut ex agreed =
      silent x q (leave those after t) agreed refl (open_left those after shut) (there_left those) (fits_left those) (leaves m h t v.begun v.element those after shut ex)
    where
      open_left : (those : ℕ → Bool) (after : ClientState) → is_open after ≡ false → (c : ℕ) → is_open (cond (those c) after (t.clients c)) ≡ true → is_open (t.clients c) ≡ true
      open_left those after shut c o = ap (λ b. is_open (cond b after (t.clients c))) (sym (stayed (those c) after (t.clients c) shut o)) ∙ o

      there_left : (those : ℕ → Bool) (c e : ℕ) → is_some (cond (those c) None (t.locks c e)) ≡ true → has t.table e ≡ true
      there_left those c e i =
          let y = there_is (cond (those c) None (t.locks c e)) i in
          v.there c e (some_is (t.locks c e) y.0 (not_dropped (those c) (t.locks c e) y.0 y.1).1)

      fits_left : (those : ℕ → Bool) (c e : ℕ) (l : Lock) → cond (those c) None (t.locks c e) ≡ Some l → l.changed ≡ true → within t.table l.copy ≡ true
      fits_left those c e l q = v.fits c e l (not_dropped (those c) (t.locks c e) l q).1

  -- One lock in the place of another.
  there_set : (c0 e0 : ℕ) (l l1 : Lock) → t.locks c0 e0 ≡ Some l → (c e : ℕ) → is_some (at t.locks c0 (at (t.locks c0) e0 (Some l1)) c e) ≡ true → has t.table e ≡ true
  there_set c0 e0 l l1 q c e i =
      let y = there_is (at t.locks c0 (at (t.locks c0) e0 (Some l1)) c e) i in
      elim (set_found t.locks c0 e0 l1 c e y.0 y.1)
      [ inl z ↦ (ap (has t.table) z.1 ∙ v.there c0 e0 (some_is (t.locks c0 e0) l q)) | inr r ↦ v.there c e (some_is (t.locks c e) y.0 r) ]

  fits_set : (c0 e0 : ℕ) (l l1 : Lock) → t.locks c0 e0 ≡ Some l → (l1.changed ≡ true → within t.table l1.copy ≡ true) →
      (c e : ℕ) (l2 : Lock) → at t.locks c0 (at (t.locks c0) e0 (Some l1)) c e ≡ Some l2 → l2.changed ≡ true → within t.table l2.copy ≡ true
  fits_set c0 e0 l l1 q new c e l2 r ch =
      elim (set_found t.locks c0 e0 l1 c e l2 r)
      [ inl z ↦ (subst (λ y. y.changed ≡ true → within t.table y.copy ≡ true) z.2 new ch) | inr s ↦ v.fits c e l2 s ch ]

  opens_at : (c0 : ℕ) (after : ClientState) → is_open (t.clients c0) ≡ true ⊎ (is_open after ≡ false) → (c : ℕ) → is_open (at t.clients c0 after c) ≡ true → is_open (t.clients c) ≡ true
  opens_at c0 after why c o =
      elim (cases_eq c c0) [
        | inl z ↦
            elim why [
              | inl w ↦ ap (λ n. is_open (t.clients n)) z ∙ w
              | inr w ↦ true_not_false o (ap (λ n. is_open (at t.clients c0 after n)) z ∙ ap is_open (at_here t.clients c0 after) ∙ w)
            ]
        | inr n ↦ sym (ap is_open (at_other t.clients c0 after c n)) ∙ o
      ]

silent_of : {K : Type 0} {call : Call K} {a : Answer} → ((h : History K) → ended h call a ≡ []) → ((those : ℕ → Bool) (r : Record) → ends_one_of those r call a ≡ false) →
    ((c : ℕ) → begins c call a ≡ false) → ((n : ℕ) (r : Record) → accessed n r call a ≡ []) → ((c : ℕ) → own_steps c call a ≡ []) → Silent call a
silent_of e f b n o = record { ordinary = record { no_end = e; ends_none = f; no_begin = b }; no_access = n; no_own = o }

module _ {K : Type 0} (above : K → K → Bool) (m : Meaning) (h : History K) (t : State) (v : Inv m h t) (ranks : List K) where
  abbrev Next : Call K → Answer → State → Type 0
  Next call a s = Inv m (record { call = call; ranks = ranks; answer = a } ∷ h) s

  after_refusing : (call : Call K) (r : Refusal) → Next call (Refused r) t
  after_refusing call r =
      unchanged m h t v (record { call = call; ranks = ranks; answer = Refused r }) (refused_silent call r)
      (record_after m h t v {above = above} {ranks = ranks} (refusing call r) ∙ ap (project t) (not_named (length h) call r v.begun))

  after_beginning : (c : Client) (k : K) → t.clients c.0 ≡ Idle → Effect above t ranks (Begin c k) (with_client t c.0 Executing) Done →
      Next (Begin c k) Done (with_client t c.0 Executing)
  after_beginning c k idle f =
      record {
        begun = at v.begun c.0 (length h);
        agreed = record_after m h t v f;
        few = v.few;
        past = λ d o.
            elim (cases_eq d c.0) [
              | inl z ↦ (let e : at v.begun c.0 (length h) d ≡ length h = ap (at v.begun c.0 (length h)) z ∙ at_here v.begun c.0 (length h) in omega arith)
              | inr n ↦ (let e = at_other v.begun c.0 (length h) d n in let l = v.past d (was d n o) in omega arith)
            ];
        distinct = λ d g o p e. apart d g o p e (cases_eq d c.0) (cases_eq g c.0);
        there = v.there;
        fits = v.fits;
        element = begins_anew m h t v.begun v.element c k ranks idle;
        rearranged = rearranged_plain (record { call = Begin c k; ranks = ranks; answer = Done }) h refl (λ those r. refl) v.rearranged;
      }
    where
      was : (d : ℕ) → (d ≡ c.0 → ⊥) → is_open (at t.clients c.0 Executing d) ≡ true → is_open (t.clients d) ≡ true
      was d n o = sym (ap is_open (at_other t.clients c.0 Executing d n)) ∙ o

      here : (d : ℕ) → d ≡ c.0 → at v.begun c.0 (length h) d ≡ length h
      here d z = ap (at v.begun c.0 (length h)) z ∙ at_here v.begun c.0 (length h)

      apart : (d g : ℕ) → is_open (at t.clients c.0 Executing d) ≡ true → is_open (at t.clients c.0 Executing g) ≡ true →
          at v.begun c.0 (length h) d ≡ at v.begun c.0 (length h) g → (d ≡ c.0) ⊎ (d ≡ c.0 → ⊥) → (g ≡ c.0) ⊎ (g ≡ c.0 → ⊥) → d ≡ g
      apart d g o p e (inl x) (inl y) = x ∙ sym y
      apart d g o p e (inl x) (inr y) =
          absurd (let a = here d x in let b = at_other v.begun c.0 (length h) g y in let l = v.past g (was g y p) in omega arith)
      apart d g o p e (inr x) (inl y) =
          absurd (let a = here g y in let b = at_other v.begun c.0 (length h) d x in let l = v.past d (was d x o) in omega arith)
      apart d g o p e (inr x) (inr y) =
          v.distinct d g (was d x o) (was g y p) (sym (at_other v.begun c.0 (length h) d x) ∙ e ∙ at_other v.begun c.0 (length h) g y)

  after_gaining : (c : Client) (kind : LockKind) (e : TableElement) → ltb c.0 16 ≡ true → t.clients c.0 ≡ Executing →
      has t.table e.0 ≡ true → covers (t.locks c.0 e.0) kind ≡ false →
      some_below 16 (λ d. conflicts t c.0 kind e.0 d && is_committing (t.clients d)) ≡ false →
      Effect above t ranks (Locks c kind e) (gain c.0 kind e.0 (leave (λ d. conflicts t c.0 kind e.0 d) ThrownOut t)) Done →
      Next (Locks c kind e) Done (gain c.0 kind e.0 (leave (λ d. conflicts t c.0 kind e.0 d) ThrownOut t))
  after_gaining c kind e small ex there uncovered free f =
      silent m h t v (record { call = Locks c kind e; ranks = ranks; answer = Done })
      (silent_of (λ g. refl) (λ s r. refl) (λ d. refl) (λ n r. refl) (λ d. refl)) s
      (record_after m h t v f) refl
      (λ d o. ap (λ b. is_open (cond b ThrownOut (t.clients d))) (sym (stayed (those d) ThrownOut (t.clients d) refl o)) ∙ o)
      (λ d g i. let y = there_is (s.locks d g) i in there_gained d g y.0 y.1)
      fits_gained
      (gains_lock m h s1 v.begun (leaves m h t v.begun v.element those ThrownOut refl (conflicting_execute m h t v.begun v.element c.0 kind e.0 free))
      c.0 kind e.0 (ltb-true c.0 16 small) (ap (λ b. cond b ThrownOut (t.clients c.0)) caller_out ∙ ex) (ap (λ o. covers o kind) caller_lock ∙ uncovered) harmless)
    where
      those : ℕ → Bool
      those d = conflicts t c.0 kind e.0 d

      s1 : State
      s1 = leave (λ d. conflicts t c.0 kind e.0 d) ThrownOut t

      s : State
      s = gain c.0 kind e.0 (leave (λ d. conflicts t c.0 kind e.0 d) ThrownOut t)

      caller_out : conflicts t c.0 kind e.0 c.0 ≡ false
      caller_out = and_left (not (eqb c.0 c.0)) (lock_conflicts (t.marked e.0) kind (t.locks c.0 e.0)) (ap not (eq-eqb c.0 c.0 refl))

      caller_lock : cond (conflicts t c.0 kind e.0 c.0) None (t.locks c.0 e.0) ≡ t.locks c.0 e.0
      caller_lock = ap (λ b. cond b None (t.locks c.0 e.0)) caller_out

      harmless : (d : ℕ) (l : Lock) → (d ≡ c.0 → ⊥) → cond (conflicts t c.0 kind e.0 d) None (t.locks d e.0) ≡ Some l →
          kinds_conflict (t.marked e.0) kind l.kind ≡ false
      harmless d l n q =
          let rest = not_dropped (conflicts t c.0 kind e.0 d) (t.locks d e.0) l q in
          sym (ap (lock_conflicts (t.marked e.0) kind) rest.1) ∙
          sym (ap (λ b. not b && lock_conflicts (t.marked e.0) kind (t.locks d e.0)) (ne_eqb d c.0 n)) ∙ rest.0

      granted_fits : (o : Option Lock) → t.locks c.0 e.0 ≡ o → (granted_lock (leave (λ d. conflicts t c.0 kind e.0 d) ThrownOut t) kind e.0 o).changed ≡ true →
          within t.table (granted_lock (leave (λ d. conflicts t c.0 kind e.0 d) ThrownOut t) kind e.0 o).copy ≡ true
      granted_fits None q ch = never (cc)
      granted_fits (Some l) q ch = v.fits c.0 e.0 l q ch

      found : (d g : ℕ) (l : Lock) → (gain c.0 kind e.0 (leave (λ d. conflicts t c.0 kind e.0 d) ThrownOut t)).locks d g ≡ Some l →
          ((g ≡ e.0) × (granted_lock (leave (λ d. conflicts t c.0 kind e.0 d) ThrownOut t) kind e.0 (cond (conflicts t c.0 kind e.0 c.0) None (t.locks c.0 e.0)) ≡ l)) ⊎ (t.locks d g ≡ Some l)
      found d g l q =
          elim (set_found (leave (λ d. conflicts t c.0 kind e.0 d) ThrownOut t).locks c.0 e.0 _ d g l q)
          [ inl z ↦ inl (z.1, z.2) | inr r ↦ inr (not_dropped (conflicts t c.0 kind e.0 d) (t.locks d g) l r).1 ]

      there_gained : (d g : ℕ) (l : Lock) → (gain c.0 kind e.0 (leave (λ d. conflicts t c.0 kind e.0 d) ThrownOut t)).locks d g ≡ Some l → has t.table g ≡ true
      there_gained d g l q = elim (found d g l q) [ inl z ↦ (ap (has t.table) z.0 ∙ there) | inr r ↦ v.there d g (some_is (t.locks d g) l r) ]

      fits_gained : (d g : ℕ) (l : Lock) → (gain c.0 kind e.0 (leave (λ d. conflicts t c.0 kind e.0 d) ThrownOut t)).locks d g ≡ Some l → l.changed ≡ true → within t.table l.copy ≡ true
      fits_gained d g l q ch =
          elim (found d g l q) [
            | inl z ↦
                (subst (λ y. y.changed ≡ true → within t.table y.copy ≡ true) (ap (granted_lock (leave (λ d. conflicts t c.0 kind e.0 d) ThrownOut t) kind e.0) (sym caller_lock) ∙ z.1)
                (granted_fits (t.locks c.0 e.0) refl) ch)
            | inr r ↦ v.fits d g l r ch
          ]

  after_ending : (c : Client) → t.clients c.0 ≡ Committing → next_left t c.0 ≡ None →
      Effect above t ranks (End c) (leave (λ d. eqb d c.0) Idle t) Done → Next (End c) Done (leave (λ d. eqb d c.0) Idle t)
  after_ending c committing none f =
      record {
        begun = v.begun;
        agreed = record_after m h t v f;
        few = v.few;
        past = λ d o. let l = v.past d (opens d o) in omega arith;
        distinct = λ d g o p e. v.distinct d g (opens d o) (opens g p) e;
        there = λ d e i.
            let y = there_is (cond (eqb d c.0) None (t.locks d e)) i in
            v.there d e (some_is (t.locks d e) y.0 (not_dropped (eqb d c.0) (t.locks d e) y.0 y.1).1);
        fits = λ d e l q ch. v.fits d e l (not_dropped (eqb d c.0) (t.locks d e) l q).1 ch;
        element =
            ends_whole m h t v.begun v.element v.past v.distinct c ranks (ap is_open committing) none v.agreed
            (λ g i. let l = ltb-true g (length t.table.numbers) (v.there c.0 g i) in let w = v.few in omega arith);
        rearranged = rearranged_end c ranks h v.rearranged;
      }
    where
      opens : (d : ℕ) → is_open (cond (eqb d c.0) Idle (t.clients d)) ≡ true → is_open (t.clients d) ≡ true
      opens d o = ap (λ b. is_open (cond b Idle (t.clients d))) (sym (stayed (eqb d c.0) Idle (t.clients d) refl o)) ∙ o

  abbrev event : Call K → Answer → Event K
  event call a = record { call = call; ranks = ranks; answer = a }

  -- Every effect keeps what is kept.
  pub inv_step : {call : Call K} {s : State} {a : Answer} → Effect above t ranks call s a → Next call a s
  inv_step (refusing call r) = after_refusing call r
  inv_step (beginning c k small idle) = after_beginning c k idle (beginning c k small idle)
  inv_step (keeping c kind e x covered) =
      unchanged m h t v (event (Locks c kind e) Done) (silent_of (λ g. refl) (λ s r. refl) (λ d. refl) (λ n r. refl) (λ d. refl))
      (record_after m h t v {above = above} {ranks = ranks} (keeping c kind e x covered))
  inv_step (losing c kind e small x beaten) =
      left m h t v (event (Locks c kind e) Lost) (silent_of (λ g. refl) (λ s r. refl) (λ d. refl) (λ n r. refl) (λ d. refl)) (λ d. eqb d c.0) ThrownOut refl
      (λ d g l z q. ap t.clients (eqb-true d c.0 z) ∙ x) (record_after m h t v {above = above} {ranks = ranks} (losing c kind e small x beaten))
  inv_step (waiting c kind e x held_up) =
      unchanged m h t v (event (Locks c kind e) Wait) (silent_of (λ g. refl) (λ s r. refl) (λ d. refl) (λ n r. refl) (λ d. refl))
      (record_after m h t v {above = above} {ranks = ranks} (waiting c kind e x held_up))
  inv_step (gaining c kind e small x there uncovered unbeaten free) =
      after_gaining c kind e small x there uncovered free (gaining c kind e small x there uncovered unbeaten free)
  inv_step (reading c e l x q) =
      ordinary m h t v (event (Reads c e) (Number l.copy)) (record { no_end = λ g. refl; ends_none = λ s r. refl; no_begin = λ d. refl }) t
      (record_after m h t v {above = above} {ranks = ranks} (reading c e l x q)) refl (λ d o. o) v.there v.fits (reads_copy m h t v.begun v.element c e l ranks q)
  inv_step (changing c e w l x q writes inside) =
      ordinary m h t v (event (Change c e w) Done) (record { no_end = λ g. refl; ends_none = λ s r. refl; no_begin = λ d. refl }) (with_lock t c.0 e.0 (changed_lock l w))
      (record_after m h t v {above = above} {ranks = ranks} (changing c e w l x q writes inside)) refl (λ d o. o)
      (there_set m h t v c.0 e.0 l (changed_lock l w) q) (fits_set m h t v c.0 e.0 l (changed_lock l w) q (λ ch. inside))
      (changes_copy m h t v.begun v.element c e w l ranks x q writes)
  inv_step (entering c x) =
      silent m h t v (event (Commit c) Done) (silent_of (λ g. refl) (λ s r. refl) (λ d. refl) (λ n r. refl) (λ d. refl)) (with_client t c.0 Committing)
      (record_after m h t v {above = above} {ranks = ranks} (entering c x)) refl (opens_at m h t v c.0 Committing (inl (ap is_open x))) v.there v.fits
      (enters m h t v.begun v.element c.0 x)
  inv_step (dropping c e l x q changed marked) =
      silent m h t v (event (WriteBack c) (WroteBack (record { 0 = e }) Dropped)) (silent_of (λ g. refl) (λ s r. refl) (λ d. refl) (λ n r. refl) (λ d. refl)) (with_lock t c.0 e (taken_lock l))
      (record_after m h t v {above = above} {ranks = ranks} (dropping c e l x q changed marked)) refl (λ d o. o)
      (there_set m h t v c.0 e l (taken_lock l) q) (fits_set m h t v c.0 e l (taken_lock l) q (λ ch. v.fits c.0 e l q ch))
      (takes_dropped m h t v.begun v.element c.0 e l x q changed marked)
  inv_step (writing c e l x q changed unmarked) =
      silent m h t v (event (WriteBack c) (WroteBack (record { 0 = e }) Written)) (silent_of (λ g. refl) (λ s r. refl) (λ d. refl) (λ n r. refl) (λ d. refl))
      (with_table_number (with_lock t c.0 e (taken_lock l)) e l.copy)
      (record_after m h t v {above = above} {ranks = ranks} (writing c e l x q changed unmarked)) (put_length t.table e l.copy) (λ d o. o)
      (λ d g i. put_has t.table e l.copy g ∙ there_set m h t v c.0 e l (taken_lock l) q d g i)
      (λ d g y r ch. put_within t.table e l.copy y.copy ∙ fits_set m h t v c.0 e l (taken_lock l) q (λ z. v.fits c.0 e l q z) d g y r ch)
      (takes_written m h t v.begun v.element c.0 e l x q changed unmarked (v.there c.0 e (some_is (t.locks c.0 e) l q)) (v.fits c.0 e l q changed))
  inv_step (ending c small x none) = after_ending c x none (ending c small x none)
  inv_step (giving_up c small x) =
      left m h t v (event (GiveUp c) Done) (silent_of (λ g. refl) (λ s r. refl) (λ d. refl) (λ n r. refl) (λ d. refl)) (λ d. eqb d c.0) Idle refl
      (λ d g l z q. ap t.clients (eqb-true d c.0 z) ∙ x) (record_after m h t v {above = above} {ranks = ranks} (giving_up c small x))
  inv_step (clearing c x) =
      silent m h t v (event (Clear c) Done) (silent_of (λ g. refl) (λ s r. refl) (λ d. refl) (λ n r. refl) (λ d. refl)) (with_client t c.0 Idle)
      (record_after m h t v {above = above} {ranks = ranks} (clearing c x)) refl (opens_at m h t v c.0 Idle (inr refl)) v.there v.fits
      (clears m h t v.begun v.element c.0 x)
  inv_step (binding p e q there) =
      silent m h t v (event (Bind p e) Done) (silent_of (λ g. refl) (λ s r. refl) (λ d. refl) (λ n r. refl) (λ d. refl)) (with_tie t p.0 (Some e))
      (record_after m h t v {above = above} {ranks = ranks} (binding p e q there)) refl (λ d o. o) v.there v.fits (still m h t v.begun v.element)
  inv_step (removing p) =
      silent m h t v (event (Remove p) Done) (silent_of (λ g. refl) (λ s r. refl) (λ d. refl) (λ n r. refl) (λ d. refl)) (with_tie t p.0 None)
      (record_after m h t v {above = above} {ranks = ranks} (removing p)) refl (λ d o. o) v.there v.fits (still m h t v.begun v.element)
  inv_step (hard_reading p e q) =
      ordinary m h t v (event (HardRead p) (Number (shows t e.0))) (record { no_end = λ g. refl; ends_none = λ s r. refl; no_begin = λ d. refl }) t
      (record_after m h t v {above = above} {ranks = ranks} (hard_reading p e q)) refl (λ d o. o) v.there v.fits
      (reads_shown m h t v.begun v.element v.past v.distinct p e ranks q v.agreed)
  inv_step (hard_writing p w e q there inside) =
      ordinary m h t v (event (HardWrite p w) Done) (record { no_end = λ g. refl; ends_none = λ s r. refl; no_begin = λ d. refl }) (hard_written t e.0 w)
      (record_after m h t v {above = above} {ranks = ranks} (hard_writing p w e q there inside)) (put_length t.table e.0 w) (λ d o. o)
      (λ d g i. put_has t.table e.0 w g ∙ v.there d g i)
      (λ d g l r ch. put_within t.table e.0 w l.copy ∙ v.fits d g l r ch)
      (writes_hard m h t v.begun v.element v.past v.distinct p w e ranks q there inside (record_after m h t v {above = above} {ranks = ranks} (hard_writing p w e q there inside)))
