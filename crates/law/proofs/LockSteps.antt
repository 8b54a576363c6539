-- Each effect keeps what is kept of each element: gaining a lock, and touching one's own.
use Rattle.std.proofs.Common.{◌≡◌, ℕ, suc, ◌<◌, Bool, true, false, cond, not, eqb, length, ℤ, is_some, Some, None, Option, unwrap_or, sym, refl, ap, ◌∙◌, subst, inl, inr}
use Rattle.std.proofs.lemmas.Bool.{and_right, eq-eqb, ne_eqb, cases_Bool, cases_eq}
use Rattle.rules.specs.Scans.{at}
use Rattle.rules.specs.State.{is_write}
use Rattle.rules.specs.declared.ClientState.TheVariants.{Executing, Committing}
use Rattle.rules.specs.declared.LockKind.{LockKind}
use Rattle.rules.specs.declared.LockKind.TheVariants.{Read, Write}
use Rattle.rules.specs.declared.Lock.{Lock}
use Rattle.law.proofs.Elements.{Held, never, true_not_false, and_one}
use Rattle.plant.specs.Meaning.{Meaning, number}
use Rattle.rules.specs.State.{State}
use Rattle.law.specs.History.{History}
use Rattle.law.specs.Order.{accesses, order, steps_since}
use Rattle.law.proofs.Touches.{on, trace}
use Rattle.law.proofs.Gaining.{at_here, at_other}
use Rattle.law.proofs.Silent.{kept_as}
use Rattle.plant.specs.Meaning.{has, within}
use Rattle.rules.specs.Locking.{gain, granted_lock, mark_after, covers, kinds_conflict}
use Rattle.rules.specs.Calls.{with_lock, with_table_number, taken_lock}
use Rattle.law.proofs.Agreement.{lock_at}
use Rattle.law.proofs.Gaining.{kept_new, kept_upgrade}
use Rattle.law.proofs.Owning.{kept_own}
use Rattle.law.proofs.Puts.{put_here, put_other}
use Rattle.law.proofs.ClientSteps.{Element, Between, still}

-- One lock set: at that element, and at another.
pub lock_here : (locks : ℕ → ℕ → Option Lock) (c e : ℕ) (o : Option Lock) →
    ◌≡◌ {A = ℕ → Option Lock} (at (λ d. locks d e) c o) (λ d. at locks c (at (locks c) e o) d e)
lock_here locks c e o =
    λ i d. sym (lock_at locks c e o d e ∙ ap (λ b. cond b o (locks d e)) (and_one (eqb d c) (eqb e e) (eq-eqb e e refl))) i

pub lock_elsewhere : (locks : ℕ → ℕ → Option Lock) (c e f : ℕ) (o : Option Lock) → (f ≡ e → ⊥) →
    ◌≡◌ {A = ℕ → Option Lock} (λ d. locks d f) (λ d. at locks c (at (locks c) e o) d f)
lock_elsewhere locks c e f o n =
    λ i d. sym (lock_at locks c e o d f ∙ ap (λ b. cond b o (locks d f)) (and_right (eqb d c) (eqb f e) (ne_eqb f e n))) i

second_here : (b : Bool) (second : ℕ → Option ℤ) (e : ℕ) (o : Option ℤ) → cond b o (second e) ≡ cond {A = ℕ → Option ℤ} b (at second e o) second e
second_here true second e o = sym (at_here second e o)
second_here false second e o = refl

second_elsewhere : (b : Bool) (second : ℕ → Option ℤ) (e f : ℕ) (o : Option ℤ) → (f ≡ e → ⊥) → second f ≡ cond {A = ℕ → Option ℤ} b (at second e o) second f
second_elsewhere true second e f o n = sym (at_other second e o f n)
second_elsewhere false second e f o n = refl

not_covered : (l : Lock) (kind : LockKind) → covers (Some l) kind ≡ false → (is_write l.kind ≡ false) × (is_write kind ≡ true)
not_covered l Read h = never (cc)
not_covered l Write h = (h, refl)

-- The client gains the lock, after those in conflict have left.
module _ {K : Type 0} (m : Meaning) (h : History K) (t : State) (begun : ℕ → ℕ) (k : (e : ℕ) → Between m h t begun e)
    (c0 : ℕ) (kind : LockKind) (e0 : ℕ) (small : c0 < 16) (executing : t.clients c0 ≡ Executing) (uncovered : covers (t.locks c0 e0) kind ≡ false)
    (free : (d : ℕ) (l : Lock) → (d ≡ c0 → ⊥) → t.locks d e0 ≡ Some l → kinds_conflict (t.marked e0) kind l.kind ≡ false) where
  gains_here : (o : Option Lock) → t.locks c0 e0 ≡ o → Between m h (gain c0 kind e0 t) begun e0
  gains_here None none =
      kept_as refl refl
      (ap (λ o. at (λ d. t.locks d e0) c0 (Some (granted_lock t kind e0 o))) (sym none) ∙ lock_here t.locks c0 e0 (Some (granted_lock t kind e0 (t.locks c0 e0))))
      refl
      (ap (mark_after t c0 e0) (sym none) ∙ sym (at_here t.marked e0 (mark_after t c0 e0 (t.locks c0 e0))))
      (second_here (is_write kind) t.second e0 (Some (number t.table e0))) refl
      (kept_new (number m e0) (suc (length h)) (trace e0 (order h)) (trace e0 (accesses h)) t.clients begun (λ c. t.locks c e0) (λ c. on e0 (steps_since c h)) (t.marked e0) (t.second e0) (number t.table e0)
      c0 kind small executing free (k e0) none)
  gains_here (Some l) holds =
      let both = not_covered l kind (sym (ap (λ o. covers o kind) holds) ∙ uncovered) in
      kept_as refl refl
      (ap (λ o. at (λ d. t.locks d e0) c0 (Some (granted_lock t kind e0 o))) (sym holds) ∙ lock_here t.locks c0 e0 (Some (granted_lock t kind e0 (t.locks c0 e0))))
      refl
      (ap (mark_after t c0 e0) (sym holds) ∙ sym (at_here t.marked e0 (mark_after t c0 e0 (t.locks c0 e0))))
      (ap (λ b. cond b (Some (number t.table e0)) (t.second e0)) (sym both.1) ∙ second_here (is_write kind) t.second e0 (Some (number t.table e0))) refl
      (kept_upgrade (number m e0) (suc (length h)) (trace e0 (order h)) (trace e0 (accesses h)) t.clients begun (λ c. t.locks c e0) (λ c. on e0 (steps_since c h)) (t.marked e0) (t.second e0) (number t.table e0)
      c0 kind small executing free (k e0) l holds both.0 both.1)

  pub gains_lock : (f : ℕ) → Between m h (gain c0 kind e0 t) begun f
  gains_lock f =
      elim (cases_eq f e0) [
        | inl z ↦ subst (λ n. Between m h (gain c0 kind e0 t) begun n) (sym z) (gains_here (t.locks c0 e0) refl)
        | inr n ↦
            kept_as refl refl (lock_elsewhere t.locks c0 e0 f (Some (granted_lock t kind e0 (t.locks c0 e0))) n) refl
            (sym (at_other t.marked e0 (mark_after t c0 e0 (t.locks c0 e0)) f n))
            (second_elsewhere (is_write kind) t.second e0 f (Some (number t.table e0)) n) refl (k f)
      ]

-- An element is taken for write back.
module _ {K : Type 0} (m : Meaning) (h : History K) (t : State) (begun : ℕ → ℕ) (k : (e : ℕ) → Element m h t begun e)
    (c0 e0 : ℕ) (l : Lock) (committing : t.clients c0 ≡ Committing) (holds : t.locks c0 e0 ≡ Some l) (changed : l.changed ≡ true) where
  pub takes_dropped : t.marked e0 ≡ true → (f : ℕ) → Between m h (with_lock t c0 e0 (taken_lock l)) begun f
  takes_dropped marked f =
      elim (cases_eq f e0) [
        | inl z ↦
            subst (λ n. Between m h (with_lock t c0 e0 (taken_lock l)) begun n) (sym z)
            (kept_as refl refl (lock_here t.locks c0 e0 (Some (taken_lock l))) refl refl refl refl
            (kept_own (number m e0) (length h) (trace e0 (order h)) (trace e0 (accesses h)) t.clients begun (λ c. t.locks c e0) (λ c. on e0 (steps_since c h)) (λ c. on e0 (steps_since c h)) (t.marked e0) (t.second e0) (number t.table e0) (number t.table e0)
            c0 l (taken_lock l) holds refl (λ c n. refl)
            (record {
              opened = H.opened;
              read_unchanged = H.read_unchanged;
              untaken = λ u. true_not_false changed u;
              executing = λ x. never (let z : Committing ≡ Executing = sym committing ∙ x in cc);
              present = H.present;
              level = λ w u. H.level w (and_right l.taken (not (t.marked e0)) (ap not marked));
              written = λ w u n. true_not_false marked n;
            })
            (λ base O. record { faithful = O.faithful; copied = O.copied; unchanged = O.unchanged }) refl (inl refl) (k e0)))
        | inr n ↦ kept_as refl refl (lock_elsewhere t.locks c0 e0 f (Some (taken_lock l)) n) refl refl refl refl (still m h t begun k f)
      ]
    where
      H : Held (t.clients c0) (t.marked e0) (t.second e0) (number t.table e0) l
      H = (k e0).locking.held c0 l holds

  pub takes_written : t.marked e0 ≡ false → has t.table e0 ≡ true → within t.table l.copy ≡ true →
      (f : ℕ) → Between m h (with_table_number (with_lock t c0 e0 (taken_lock l)) e0 l.copy) begun f
  takes_written unmarked there inside f =
      elim (cases_eq f e0) [
        | inl z ↦
            subst (λ n. Between m h (with_table_number (with_lock t c0 e0 (taken_lock l)) e0 l.copy) begun n) (sym z)
            (kept_as refl refl (lock_here t.locks c0 e0 (Some (taken_lock l))) refl refl refl (sym (put_here t.table e0 l.copy there inside))
            (kept_own (number m e0) (length h) (trace e0 (order h)) (trace e0 (accesses h)) t.clients begun (λ c. t.locks c e0) (λ c. on e0 (steps_since c h)) (λ c. on e0 (steps_since c h)) (t.marked e0) (t.second e0) (number t.table e0) l.copy
            c0 l (taken_lock l) holds refl (λ c n. refl)
            (record {
              opened = H.opened;
              read_unchanged = H.read_unchanged;
              untaken = λ u. true_not_false changed u;
              executing = λ x. never (let z : Committing ≡ Executing = sym committing ∙ x in cc);
              present = H.present;
              level = λ w u. never (let z : true ≡ false = sym (ap not unmarked) ∙ u in cc);
              written = λ w u n. refl;
            })
            (λ base O. record { faithful = O.faithful; copied = O.copied; unchanged = O.unchanged })
            (there_alike (t.second e0) (H.present writes)) (inr writes) (k e0)))
        | inr n ↦
            kept_as refl refl (lock_elsewhere t.locks c0 e0 f (Some (taken_lock l)) n) refl refl refl (sym (put_other t.table e0 l.copy f n)) (still m h t begun k f)
      ]
    where
      H : Held (t.clients c0) (t.marked e0) (t.second e0) (number t.table e0) l
      H = (k e0).locking.held c0 l holds

      writes : is_write l.kind ≡ true
      writes = elim (cases_Bool (is_write l.kind)) [ inl w ↦ w | inr r ↦ true_not_false changed (((k e0).locking.held c0 l holds).read_unchanged r) ]

      there_alike : (o : Option ℤ) → is_some o ≡ true → unwrap_or o l.copy ≡ unwrap_or o (number t.table e0)
      there_alike None i = never (cc)
      there_alike (Some v) i = refl
