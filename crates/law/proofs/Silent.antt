-- Events that put nothing into the order and add no step to a transaction.
use Rattle.std.proofs.Common.{◌≡◌, ℕ, Bool, true, false, cond, ◌&&◌, eqb, List, [], ◌∷◌, ◌++◌, length, ℤ, Option, refl, ap, ◌∙◌, subst}
use Rattle.std.proofs.lemmas.Bool.{and_right}
use Rattle.std.proofs.lemmas.List.{append-nil}
use Rattle.plant.specs.declared.refusals.Refusal.{Refusal}
use Rattle.rules.specs.declared.ClientState.{ClientState}
use Rattle.rules.specs.declared.Lock.{Lock}
use Rattle.rules.specs.declared.Call.{Call}
use Rattle.rules.specs.declared.Call.TheVariants.{Begin, Lock as Locks, Read as Reads, Change, Commit, WriteBack, End, GiveUp, Clear, Bind, Remove, HardRead, HardWrite}
use Rattle.rules.specs.declared.Answer.{Answer}
use Rattle.rules.specs.declared.Answer.TheVariants.{Refused}
use Rattle.law.specs.History.{Event, History}
use Rattle.law.specs.Record.{Record, record_of}
use Rattle.law.specs.Order.{Step, ended, ends_one_of, accessed, accesses, order, begins, own_steps, steps_since}
use Rattle.law.proofs.Touches.{Touch, Placed}
use Rattle.law.proofs.Elements.{Kept}
use Rattle.law.proofs.OrderLaws.{order_more}

-- It ends nothing and is no begin.
pub record Ordinary {K : Type 0} (call : Call K) (a : Answer) : Type 0 where
  pub no_end : (h : History K) → ended h call a ≡ []
  pub ends_none : (those : ℕ → Bool) (r : Record) → ends_one_of those r call a ≡ false
  pub no_begin : (c : ℕ) → begins c call a ≡ false

-- It is no hard access either, and no read or change.
pub record Silent {K : Type 0} (call : Call K) (a : Answer) : Type 0 where
  pub ordinary : Ordinary call a
  pub no_access : (n : ℕ) (r : Record) → accessed n r call a ≡ []
  pub no_own : (c : ℕ) → own_steps c call a ≡ []

pub refused_ordinary : {K : Type 0} (call : Call K) (r : Refusal) → Ordinary call (Refused r)
refused_ordinary (Begin c k) r = record { no_end = λ h. refl; ends_none = λ t q. refl; no_begin = λ d. and_right (eqb c.0 d) false refl }
refused_ordinary (Locks c kind e) r = record { no_end = λ h. refl; ends_none = λ t q. refl; no_begin = λ d. refl }
refused_ordinary (Reads c e) r = record { no_end = λ h. refl; ends_none = λ t q. refl; no_begin = λ d. refl }
refused_ordinary (Change c e v) r = record { no_end = λ h. refl; ends_none = λ t q. refl; no_begin = λ d. refl }
refused_ordinary (Commit c) r = record { no_end = λ h. refl; ends_none = λ t q. refl; no_begin = λ d. refl }
refused_ordinary (WriteBack c) r = record { no_end = λ h. refl; ends_none = λ t q. refl; no_begin = λ d. refl }
refused_ordinary (End c) r = record { no_end = λ h. refl; ends_none = λ t q. refl; no_begin = λ d. refl }
refused_ordinary (GiveUp c) r = record { no_end = λ h. refl; ends_none = λ t q. refl; no_begin = λ d. refl }
refused_ordinary (Clear c) r = record { no_end = λ h. refl; ends_none = λ t q. refl; no_begin = λ d. refl }
refused_ordinary (Bind p e) r = record { no_end = λ h. refl; ends_none = λ t q. refl; no_begin = λ d. refl }
refused_ordinary (Remove p) r = record { no_end = λ h. refl; ends_none = λ t q. refl; no_begin = λ d. refl }
refused_ordinary (HardRead p) r = record { no_end = λ h. refl; ends_none = λ t q. refl; no_begin = λ d. refl }
refused_ordinary (HardWrite p v) r = record { no_end = λ h. refl; ends_none = λ t q. refl; no_begin = λ d. refl }

no_step : (b : Bool) → ◌≡◌ {A = List Step} (cond b [] []) []
no_step true = refl
no_step false = refl

no_change : (b : Bool) (x : Step) → ◌≡◌ {A = List Step} (cond (b && false) (x ∷ []) []) []
no_change true x = refl
no_change false x = refl

refused_access : {K : Type 0} (call : Call K) (r : Refusal) (n : ℕ) (R : Record) → accessed n R call (Refused r) ≡ []
refused_access (Begin c k) r n R = refl
refused_access (Locks c kind e) r n R = refl
refused_access (Reads c e) r n R = refl
refused_access (Change c e v) r n R = refl
refused_access (Commit c) r n R = refl
refused_access (WriteBack c) r n R = refl
refused_access (End c) r n R = refl
refused_access (GiveUp c) r n R = refl
refused_access (Clear c) r n R = refl
refused_access (Bind p e) r n R = refl
refused_access (Remove p) r n R = refl
refused_access (HardRead p) r n R = refl
refused_access (HardWrite p v) r n R = refl

refused_own : {K : Type 0} (call : Call K) (r : Refusal) (c : ℕ) → own_steps c call (Refused r) ≡ []
refused_own (Begin d k) r c = refl
refused_own (Locks d kind e) r c = refl
refused_own (Reads d e) r c = no_step (eqb d.0 c)
refused_own (Change d e v) r c = no_change (eqb d.0 c) _
refused_own (Commit d) r c = refl
refused_own (WriteBack d) r c = refl
refused_own (End d) r c = refl
refused_own (GiveUp d) r c = refl
refused_own (Clear d) r c = refl
refused_own (Bind p e) r c = refl
refused_own (Remove p) r c = refl
refused_own (HardRead p) r c = refl
refused_own (HardWrite p v) r c = refl

pub refused_silent : {K : Type 0} (call : Call K) (r : Refusal) → Silent call (Refused r)
refused_silent call r = record { ordinary = refused_ordinary call r; no_access = refused_access call r; no_own = refused_own call r }

module _ {K : Type 0} (x : Event K) (h : History K) (o : Ordinary x.call x.answer) where
  pub ordinary_order : order (x ∷ h) ≡ order h ++ accessed (length h) (record_of (x ∷ h)) x.call x.answer
  ordinary_order = order_more x h (o.no_end h) o.ends_none

  pub ordinary_steps : (c : ℕ) → steps_since c (x ∷ h) ≡ steps_since c h ++ own_steps c x.call x.answer
  ordinary_steps c = ap (λ b. cond b [] (steps_since c h ++ own_steps c x.call x.answer)) (o.no_begin c)

module _ {K : Type 0} (x : Event K) (h : History K) (q : Silent x.call x.answer) where
  pub silent_order : order (x ∷ h) ≡ order h
  silent_order =
      ordinary_order x h q.ordinary ∙ ap (λ xs. order h ++ xs) (q.no_access (length h) (record_of (x ∷ h))) ∙ append-nil (order h)

  pub silent_accesses : accesses (x ∷ h) ≡ accesses h
  silent_accesses = ap (λ xs. accesses h ++ xs) (q.no_access (length h) (record_of (x ∷ h))) ∙ append-nil (accesses h)

  pub silent_steps : (c : ℕ) → steps_since c (x ∷ h) ≡ steps_since c h
  silent_steps c = ordinary_steps x h q.ordinary c ∙ ap (λ xs. steps_since c h ++ xs) (q.no_own c) ∙ append-nil (steps_since c h)

-- What is kept, told of equal things.
pub kept_as : {start : ℤ} {now : ℕ} {clients : ℕ → ClientState} {begun : ℕ → ℕ} {X X' A A' : List Placed} {locks locks' : ℕ → Option Lock} {own own' : ℕ → List Touch}
    {marked marked' : Bool} {second second' : Option ℤ} {number number' : ℤ} →
    X ≡ X' → A ≡ A' → locks ≡ locks' → own ≡ own' → marked ≡ marked' → second ≡ second' → number ≡ number' →
    Kept start now X A clients begun locks own marked second number → Kept start now X' A' clients begun locks' own' marked' second' number'
kept_as {start} {now} {clients} {begun} x a l o m s n k =
    subst (λ (z : record { X : List Placed; A : List Placed; locks : ℕ → Option Lock; own : ℕ → List Touch; marked : Bool; second : Option ℤ; number : ℤ }).
    Kept start now z.X z.A clients begun z.locks z.own z.marked z.second z.number)
    (λ i. record { X = x i; A = a i; locks = l i; own = o i; marked = m i; second = s i; number = n i }) k
