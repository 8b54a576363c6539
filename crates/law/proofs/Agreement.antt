-- The record of a history is what the state shows of clients, kinds of locks, marks and ties.
use Rattle.std.proofs.Common.{◌≡◌, ℕ, Bool, true, false, cond, not, ◌&&◌, ◌||◌, eqb, List, ℤ, is_some, Some, None, Option, sym, refl, ap, ◌∙◌}
use Rattle.std.proofs.lemmas.Bool.{eqb-true, and_parts}
use Rattle.plant.specs.declared.refusals.Refusal.{Refusal}
use Rattle.plant.specs.declared.tables.Element.{Element}
use Rattle.rules.specs.Scans.{at, some_below}
use Rattle.rules.specs.State.{State, holds, locked}
use Rattle.rules.specs.Locking.{conflicts, lock_conflicts, covers, leave, gain, granted_lock, mark_after}
use Rattle.rules.specs.Calls.{hard_written}
use Rattle.rules.specs.Effects.{Effect, refusing, beginning, keeping, losing, waiting, gaining, reading, changing, entering, dropping, writing, ending, giving_up, clearing, binding, removing, hard_reading, hard_writing}
use Rattle.rules.specs.declared.ClientState.{ClientState}
use Rattle.rules.specs.declared.ClientState.TheVariants.{Idle, ThrownOut}
use Rattle.rules.specs.declared.LockKind.{LockKind}
use Rattle.rules.specs.declared.LockKind.TheVariants.{Read, Write}
use Rattle.rules.specs.declared.Lock.{Lock}
use Rattle.rules.specs.declared.Call.{Call}
use Rattle.rules.specs.declared.Call.TheVariants.{Begin, Lock as Locks, Read as Reads, Change, Commit, WriteBack, End, GiveUp, Clear, Bind, Remove, HardRead, HardWrite}
use Rattle.rules.specs.declared.Answer.{Answer}
use Rattle.rules.specs.declared.Answer.TheVariants.{Refused}
use Rattle.law.specs.History.{is_done}
use Rattle.law.specs.Record.{Record, holding, is_locked, kind_covers, kind_conflicts, in_conflict, gone, mark_kept, gains, granted, marks, noted}

-- The kind of a lock that may be there.
abbrev pub kind_of : Option Lock → Option LockKind
kind_of None = None
kind_of (Some l) = Some l.kind

abbrev pub project : State → (ℕ → ℕ) → Record
project s begun = record { clients = s.clients; begun = begun; kinds = λ c e. kind_of (s.locks c e); marked = s.marked; ties = s.ties }

pub kind_there : (o : Option Lock) → is_some (kind_of o) ≡ is_some o
kind_there None = refl
kind_there (Some l) = refl

kind_cond : (b : Bool) (x y : Option Lock) → cond b (kind_of x) (kind_of y) ≡ kind_of (cond b x y)
kind_cond true x y = refl
kind_cond false x y = refl

covers_alike : (o : Option Lock) (kind : LockKind) → kind_covers (kind_of o) kind ≡ covers o kind
covers_alike None kind = refl
covers_alike (Some l) Read = refl
covers_alike (Some l) Write = refl

conflicts_alike : (mark : Bool) (kind : LockKind) (o : Option Lock) → kind_conflicts mark kind (kind_of o) ≡ lock_conflicts mark kind o
conflicts_alike mark kind None = refl
conflicts_alike mark kind (Some l) = refl

granted_kind : (s : State) (kind : LockKind) (e : ℕ) (o : Option Lock) → Some kind ≡ kind_of (Some (granted_lock s kind e o))
granted_kind s kind e None = refl
granted_kind s kind e (Some l) = refl

some_alike : (n : ℕ) (p q : ℕ → Bool) → ((c : ℕ) → p c ≡ q c) → some_below n p ≡ some_below n q
some_alike n p q same = ap (some_below n) (λ i c. same c i)

gone_agrees : (those : ℕ → Bool) (after : ClientState) (s : State) (b : ℕ → ℕ) → gone those after (project s b) ≡ project (leave those after s) b
gone_agrees those after s b =
    λ i.
    record {
      clients = λ d. cond (those d) after (s.clients d);
      begun = b;
      kinds = λ d e. kind_cond (those d) None (s.locks d e) i;
      marked = s.marked;
      ties = s.ties;
    }

mark_agrees : (s : State) (b : ℕ → ℕ) (c e : ℕ) (o : Option Lock) → mark_kept (project s b) c e (kind_of o) ≡ mark_after s c e o
mark_agrees s b c e None =
    ap (λ x. s.marked e && x)
    (some_alike 16 (λ d. not (eqb d c) && holding (project s b) d e) (λ d. not (eqb d c) && holds s d e)
    (λ d. ap (λ x. not (eqb d c) && x) (kind_there (s.locks d e))))
mark_agrees s b c e (Some l) = refl

-- One lock set among all.
pub lock_at : {X : Type 0} (locks : ℕ → ℕ → X) (c e : ℕ) (l : X) (d f : ℕ) →
    at locks c (at (locks c) e l) d f ≡ cond (eqb d c && eqb f e) l (locks d f)
lock_at {X} locks c e l d f = outer (eqb d c) refl
  where
    outer : (x : Bool) → eqb d c ≡ x → cond {A = ℕ → X} x (at (locks c) e l) (locks d) f ≡ cond (x && eqb f e) l (locks d f)
    outer true q = ap (λ n. cond (eqb f e) l (locks n f)) (sym (eqb-true d c q))
    outer false q = refl

gains_agrees : (c : ℕ) (kind : LockKind) (e : ℕ) (s : State) (b : ℕ → ℕ) → gains c kind e (project s b) ≡ project (gain c kind e s) b
gains_agrees c kind e s b =
    λ i.
    record {
      clients = s.clients;
      begun = b;
      kinds = λ d f. kinds d f i;
      marked = at s.marked e (mark_agrees s b c e (s.locks c e) i);
      ties = s.ties;
    }
  where
    flat : (d f : ℕ) (x : Bool) →
        cond x (Some kind) (kind_of (s.locks d f)) ≡ kind_of (cond x (Some (granted_lock s kind e (s.locks c e))) (s.locks d f))
    flat d f true = granted_kind s kind e (s.locks c e)
    flat d f false = refl

    kinds : (d f : ℕ) → (gains c kind e (project s b)).kinds d f ≡ (project (gain c kind e s) b).kinds d f
    kinds d f =
        lock_at (λ g h. kind_of (s.locks g h)) c e (Some kind) d f ∙ flat d f (eqb d c && eqb f e) ∙
        ap kind_of (sym (lock_at s.locks c e (Some (granted_lock s kind e (s.locks c e))) d f))

-- A lock of the same kind in the place of another.
same_kinds : (s : State) (c e : ℕ) (l l' : Lock) → s.locks c e ≡ Some l → l'.kind ≡ l.kind →
    (d f : ℕ) → kind_of (s.locks d f) ≡ kind_of (at s.locks c (at (s.locks c) e (Some l')) d f)
same_kinds s c e l l' q k d f = flat (eqb d c && eqb f e) refl ∙ ap kind_of (sym (lock_at s.locks c e (Some l') d f))
  where
    flat : (x : Bool) → (eqb d c && eqb f e) ≡ x → kind_of (s.locks d f) ≡ kind_of (cond x (Some l') (s.locks d f))
    flat true r =
        let both = and_parts (eqb d c) (eqb f e) r in
        let one : d ≡ c = eqb-true d c both.0 in
        let two : f ≡ e = eqb-true f e both.1 in
        ap (λ n. kind_of (s.locks n f)) one ∙ ap (λ n. kind_of (s.locks c n)) two ∙ ap kind_of q ∙ ap (λ x. Some x) (sym k)
    flat false r = refl

with_same_kinds : (s : State) (c e : ℕ) (l l' : Lock) (b : ℕ → ℕ) → s.locks c e ≡ Some l → l'.kind ≡ l.kind →
    project s b ≡ record { clients = s.clients; begun = b; kinds = λ d f. kind_of (at s.locks c (at (s.locks c) e (Some l')) d f); marked = s.marked; ties = s.ties }
with_same_kinds s c e l l' b q k =
    λ i. record { clients = s.clients; begun = b; kinds = λ d f. same_kinds s c e l l' q k d f i; marked = s.marked; ties = s.ties }

-- A refused call is not noted.
not_noted : {K : Type 0} (n : ℕ) (call : Call K) (r : Refusal) (R : Record) → noted n call (Refused r) R ≡ R
not_noted n (Begin c k) r R = refl
not_noted n (Locks c kind e) r R = refl
not_noted n (Reads c e) r R = refl
not_noted n (Change c e v) r R = refl
not_noted n (Commit c) r R = refl
not_noted n (WriteBack c) r R = refl
not_noted n (End c) r R = refl
not_noted n (GiveUp c) r R = refl
not_noted n (Clear c) r R = refl
not_noted n (Bind p e) r R = refl
not_noted n (Remove p) r R = refl
not_noted n (HardRead p) r R = refl
not_noted n (HardWrite p v) r R = refl

locked_agrees : (t : State) (b : ℕ → ℕ) (e : ℕ) → is_locked (project t b) e ≡ locked t e
locked_agrees t b e = some_alike 16 (λ c. holding (project t b) c e) (λ c. holds t c e) (λ c. kind_there (t.locks c e))

conflict_agrees : (t : State) (b : ℕ → ℕ) (c : ℕ) (kind : LockKind) (e : ℕ) →
    ◌≡◌ {A = ℕ → Bool} (λ d. in_conflict (project t b) c kind e d) (λ d. conflicts t c kind e d)
conflict_agrees t b c kind e = λ i d. not (eqb d c) && conflicts_alike (t.marked e) kind (t.locks d e) i

-- A begin names the new transaction, and nothing else names any.
abbrev pub named : {K : Type 0} → ℕ → Call K → Answer → (ℕ → ℕ) → ℕ → ℕ
named n (Begin c k) a b = cond (is_done a) (at b c.0 n) b
named n (Locks c kind e) a b = b
named n (Reads c e) a b = b
named n (Change c e v) a b = b
named n (Commit c) a b = b
named n (WriteBack c) a b = b
named n (End c) a b = b
named n (GiveUp c) a b = b
named n (Clear c) a b = b
named n (Bind p e) a b = b
named n (Remove p) a b = b
named n (HardRead p) a b = b
named n (HardWrite p v) a b = b

pub not_named : {K : Type 0} (n : ℕ) (call : Call K) (r : Refusal) (b : ℕ → ℕ) → named n call (Refused r) b ≡ b
not_named n (Begin c k) r b = refl
not_named n (Locks c kind e) r b = refl
not_named n (Reads c e) r b = refl
not_named n (Change c e v) r b = refl
not_named n (Commit c) r b = refl
not_named n (WriteBack c) r b = refl
not_named n (End c) r b = refl
not_named n (GiveUp c) r b = refl
not_named n (Clear c) r b = refl
not_named n (Bind p e) r b = refl
not_named n (Remove p) r b = refl
not_named n (HardRead p) r b = refl
not_named n (HardWrite p v) r b = refl

covered_agrees : (t : State) (b : ℕ → ℕ) (c : ℕ) (kind : LockKind) (e : ℕ) → covers (t.locks c e) kind ≡ true →
    granted c kind e (project t b) ≡ project t b
covered_agrees t b c kind e h = rw (covers_alike (t.locks c e) kind ∙ h)

gained_agrees : (t : State) (b : ℕ → ℕ) (c : ℕ) (kind : LockKind) (e : ℕ) → covers (t.locks c e) kind ≡ false →
    granted c kind e (project t b) ≡ project (gain c kind e (leave (λ d. conflicts t c kind e d) ThrownOut t)) b
gained_agrees t b c kind e h =
    rw (covers_alike (t.locks c e) kind ∙ h)
    (ap (λ those. gains c kind e (gone those ThrownOut (project t b))) (conflict_agrees t b c kind e) ∙
    ap (gains c kind e) (gone_agrees (λ d. conflicts t c kind e d) ThrownOut t b) ∙
    gains_agrees c kind e (leave (λ d. conflicts t c kind e d) ThrownOut t) b)

marks_agrees : (t : State) (b : ℕ → ℕ) (o : Option Element) (e : Element) (v : ℤ) → o ≡ Some e →
    marks o (project t b) ≡ project (hard_written t e.0 v) b
marks_agrees t b o e v q =
    ap (λ x. marks x (project t b)) q ∙
    (λ i.
    record {
      clients = t.clients;
      begun = b;
      kinds = λ c f. kind_of (t.locks c f);
      marked = at t.marked e.0 (t.marked e.0 || locked_agrees t b e.0 i);
      ties = t.ties;
    })

-- Each effect keeps the agreement.
pub agrees : {K : Type 0} {above : K → K → Bool} {t : State} {ranks : List K} {call : Call K} {s : State} {a : Answer} →
    Effect above t ranks call s a → (n : ℕ) (b : ℕ → ℕ) → noted n call a (project t b) ≡ project s (named n call a b)
agrees {t = t} (refusing call r) n b = not_noted n call r (project t b) ∙ ap (project t) (sym (not_named n call r b))
agrees (beginning c k small idle) n b = refl
agrees {t = t} (keeping c kind e x covered) n b = covered_agrees t b c.0 kind e.0 covered
agrees {t = t} (losing c kind e small x beaten) n b = gone_agrees (λ d. eqb d c.0) ThrownOut t b
agrees (waiting c kind e x held_up) n b = refl
agrees {t = t} (gaining c kind e small x there uncovered unbeaten free) n b = gained_agrees t b c.0 kind e.0 uncovered
agrees (reading c e l x q) n b = refl
agrees {t = t} (changing c e v l x q w i) n b = with_same_kinds t c.0 e.0 l _ b q refl
agrees (entering c x) n b = refl
agrees {t = t} (dropping c e l x q ch mk) n b = with_same_kinds t c.0 e l _ b q refl
agrees {t = t} (writing c e l x q ch mk) n b = with_same_kinds t c.0 e l _ b q refl
agrees {t = t} (ending c small x none) n b = gone_agrees (λ d. eqb d c.0) Idle t b
agrees {t = t} (giving_up c small x) n b = gone_agrees (λ d. eqb d c.0) Idle t b
agrees (clearing c x) n b = refl
agrees (binding p e q there) n b = refl
agrees (removing p) n b = refl
agrees (hard_reading p e q) n b = refl
agrees {t = t} (hard_writing p v e q there inside) n b = marks_agrees t b (t.ties p.0) e v q
