-- Each effect keeps what is kept of each element: reads and changes, hard accesses, and ends.
use Rattle.std.proofs.Common.{◌≡◌, ℕ, Bool, true, false, cond, ◌&&◌, eqb, List, [], ◌∷◌, ◌++◌, length, ℤ, Some, Option, sym, refl, ap, ◌∙◌, subst, inl, inr}
use Rattle.std.proofs.lemmas.List.{append-nil}
use Rattle.std.proofs.lemmas.Bool.{eq-eqb, ne_eqb, cases_eq}
use Rattle.rules.specs.Scans.{at}
use Rattle.rules.specs.State.{is_write}
use Rattle.rules.specs.declared.ClientState.TheVariants.{Executing}
use Rattle.rules.specs.declared.Lock.{Lock}
use Rattle.law.proofs.Touches.{gives, takes, last_append, true_append}
use Rattle.law.proofs.Elements.{Holder, never, true_not_false}
use Rattle.plant.specs.Meaning.{Meaning, number}
use Rattle.ranks.specs.declared.Client.{Client}
use Rattle.rules.specs.State.{State}
use Rattle.rules.specs.declared.Call.TheVariants.{Read as Reads, Change}
use Rattle.rules.specs.declared.Answer.TheVariants.{Done, Number}
use Rattle.law.specs.History.{Event, History}
use Rattle.law.specs.Record.{Record, record_of}
use Rattle.law.specs.Order.{accesses, order, steps_since, accessed}
use Rattle.law.proofs.Touches.{on, trace}
use Rattle.law.proofs.Gaining.{at_here, at_other}
use Rattle.law.proofs.Silent.{Ordinary, ordinary_order, kept_as}
use Rattle.plant.specs.declared.tables.Element.{Element as TableElement}
use Rattle.rules.specs.Calls.{with_lock, changed_lock}
use Rattle.law.specs.Order.{Step, reads, sets}
use Rattle.law.proofs.Touches.{on_append}
use Rattle.law.proofs.Owning.{kept_own}
use Rattle.law.proofs.ClientSteps.{Element, still}
use Rattle.law.proofs.LockSteps.{lock_here, lock_elsewhere}

-- A client's own step on one element.
own_elsewhere : (f : ℕ) (xs : List Step) (b : Bool) (z : Step) → on f (z ∷ []) ≡ [] → on f (xs ++ cond b (z ∷ []) []) ≡ on f xs
own_elsewhere f xs true z none = on_append f xs (z ∷ []) ∙ ap (λ ts. on f xs ++ ts) none ∙ append-nil (on f xs)
own_elsewhere f xs false z none = ap (on f) (append-nil xs)

pub read_elsewhere : (e f : ℕ) (v : ℤ) → (f ≡ e → ⊥) → on f (reads e v ∷ []) ≡ []
read_elsewhere e f v n = rw (ne_eqb e f (λ z. n (sym z)))

pub set_elsewhere : (e f : ℕ) (v : ℤ) → (f ≡ e → ⊥) → on f (sets e v ∷ []) ≡ []
set_elsewhere e f v n = rw (ne_eqb e f (λ z. n (sym z)))

pub read_here : (e : ℕ) (v : ℤ) → on e (reads e v ∷ []) ≡ gives v ∷ []
read_here e v = rw (eq-eqb e e refl)

pub set_here : (e : ℕ) (v : ℤ) → on e (sets e v ∷ []) ≡ takes v ∷ []
set_here e v = rw (eq-eqb e e refl)

and_true : (b : Bool) → (b && true) ≡ b
and_true true = refl
and_true false = refl

module _ {K : Type 0} (m : Meaning) (h : History K) (t : State) (begun : ℕ → ℕ) (k : (e : ℕ) → Element m h t begun e) where
  -- An event that is no access and no end leaves the traces.
  traces_stay : (x : Event K) → Ordinary x.call x.answer → ((n : ℕ) (r : Record) → accessed n r x.call x.answer ≡ []) → (f : ℕ) →
      (trace f (order h) ≡ trace f (order (x ∷ h))) × (trace f (accesses h) ≡ trace f (accesses (x ∷ h)))
  traces_stay x o none f = (
    ap (trace f) (sym (ordinary_order x h o ∙ ap (λ xs. order h ++ xs) (none (length h) (record_of (x ∷ h))) ∙ append-nil (order h))),
    ap (trace f) (sym (ap (λ xs. accesses h ++ xs) (none (length h) (record_of (x ∷ h))) ∙ append-nil (accesses h))),
  )

  -- A read.
  pub reads_copy : (c0 : Client) (e0 : TableElement) (l : Lock) (ranks : List K) → t.locks c0.0 e0.0 ≡ Some l → (f : ℕ) →
      Element m (record { call = Reads c0 e0; ranks = ranks; answer = Number l.copy } ∷ h) t begun f
  reads_copy c0 e0 l ranks holds f =
      let x : Event K = record { call = Reads c0 e0; ranks = ranks; answer = Number l.copy } in
      let tr = traces_stay x (record { no_end = λ g. refl; ends_none = λ s r. refl; no_begin = λ c. refl }) (λ n r. refl) f in
      elim (cases_eq f e0.0) [
        | inl z ↦
            kept_as tr.0 tr.1
            (kept_lock z) refl refl refl refl
            (kept_own (number m f) (length h) (trace f (order h)) (trace f (accesses h)) t.clients begun (λ c. t.locks c f) (λ c. on f (steps_since c h)) (λ c. on f (steps_since c h ++ cond (eqb c0.0 c) (reads e0.0 l.copy ∷ []) []))
            (t.marked f) (t.second f) (number t.table f) (number t.table f) c0.0 l l (ap (t.locks c0.0) z ∙ holds) refl
            (λ c n. ap (λ b. on f (steps_since c h ++ cond b (reads e0.0 l.copy ∷ []) [])) (ne_eqb c0.0 c (λ y. n (sym y))) ∙ ap (on f) (append-nil (steps_since c h)))
            ((k f).locking.held c0.0 l (ap (t.locks c0.0) z ∙ holds))
            (λ base O.
            let own_now : on f (steps_since c0.0 h ++ cond (eqb c0.0 c0.0) (reads e0.0 l.copy ∷ []) []) ≡ on f (steps_since c0.0 h) ++ (gives l.copy ∷ []) =
            ap (λ b. on f (steps_since c0.0 h ++ cond b (reads e0.0 l.copy ∷ []) [])) (eq-eqb c0.0 c0.0 refl) ∙
            on_append f (steps_since c0.0 h) (reads e0.0 l.copy ∷ []) ∙
            ap (λ ts. on f (steps_since c0.0 h) ++ ts) (ap (λ n. on f (reads n l.copy ∷ [])) (sym z) ∙ read_here f l.copy) in
            subst (λ ts. Holder base ts l) (sym own_now)
            (record {
              faithful = true_append base (on f (steps_since c0.0 h)) (gives l.copy ∷ []) O.faithful (O.copied, tt);
              copied = last_append base (on f (steps_since c0.0 h)) (gives l.copy ∷ []) ∙ O.copied;
              unchanged = O.unchanged;
            }))
            refl (inl refl) (k f))
        | inr n ↦
            kept_as tr.0 tr.1 refl
            (λ i c. sym (own_elsewhere f (steps_since c h) (eqb c0.0 c) (reads e0.0 l.copy) (read_elsewhere e0.0 f l.copy n)) i) refl refl refl (still m h t begun k f)
      ]
    where
      at_each : f ≡ e0.0 → (c : ℕ) → at (λ d. t.locks d f) c0.0 (Some l) c ≡ t.locks c f
      at_each z c =
          elim (cases_eq c c0.0) [
            | inl y ↦ (ap (at (λ d. t.locks d f) c0.0 (Some l)) y ∙ at_here (λ d. t.locks d f) c0.0 (Some l) ∙ sym (ap (λ d. t.locks d f) y ∙ ap (t.locks c0.0) z ∙ holds))
            | inr n ↦ at_other (λ d. t.locks d f) c0.0 (Some l) c n
          ]

      kept_lock : f ≡ e0.0 → ◌≡◌ {A = ℕ → Option Lock} (at (λ c. t.locks c f) c0.0 (Some l)) (λ c. t.locks c f)
      kept_lock z = λ i c. at_each z c i

  -- A change.
  pub changes_copy : (c0 : Client) (e0 : TableElement) (v : ℤ) (l : Lock) (ranks : List K) → t.clients c0.0 ≡ Executing → t.locks c0.0 e0.0 ≡ Some l →
      is_write l.kind ≡ true → (f : ℕ) →
      Element m (record { call = Change c0 e0 v; ranks = ranks; answer = Done } ∷ h) (with_lock t c0.0 e0.0 (changed_lock l v)) begun f
  changes_copy c0 e0 v l ranks ex holds writes f =
      let x : Event K = record { call = Change c0 e0 v; ranks = ranks; answer = Done } in
      let tr = traces_stay x (record { no_end = λ g. refl; ends_none = λ s r. refl; no_begin = λ c. refl }) (λ n r. refl) f in
      elim (cases_eq f e0.0) [
        | inl z ↦
            kept_as tr.0 tr.1
            (ap (λ n. at (λ c. t.locks c n) c0.0 (Some (changed_lock l v))) z ∙ lock_here t.locks c0.0 e0.0 (Some (changed_lock l v)) ∙ ap (λ (n : ℕ). λ d. at t.locks c0.0 (at (t.locks c0.0) e0.0 (Some (changed_lock l v))) d n) (sym z))
            (λ i c. on f (steps_since c h ++ cond (sym (and_true (eqb c0.0 c)) i) (sets e0.0 v ∷ []) []))
            refl refl refl
            (kept_own (number m f) (length h) (trace f (order h)) (trace f (accesses h)) t.clients begun (λ c. t.locks c f) (λ c. on f (steps_since c h)) (λ c. on f (steps_since c h ++ cond (eqb c0.0 c) (sets e0.0 v ∷ []) []))
            (t.marked f) (t.second f) (number t.table f) (number t.table f) c0.0 l (changed_lock l v) (ap (t.locks c0.0) z ∙ holds) refl
            (λ c n. ap (λ b. on f (steps_since c h ++ cond b (sets e0.0 v ∷ []) [])) (ne_eqb c0.0 c (λ y. n (sym y))) ∙ ap (on f) (append-nil (steps_since c h)))
            (let H = (k f).locking.held c0.0 l (ap (t.locks c0.0) z ∙ holds) in
            record {
              opened = H.opened;
              read_unchanged = λ r. true_not_false writes r;
              untaken = λ u. never (cc);
              executing = H.executing;
              present = H.present;
              level = H.level;
              written = λ w u n. true_not_false u (H.executing ex);
            })
            (λ base O.
            let own_now : on f (steps_since c0.0 h ++ cond (eqb c0.0 c0.0) (sets e0.0 v ∷ []) []) ≡ on f (steps_since c0.0 h) ++ (takes v ∷ []) =
            ap (λ b. on f (steps_since c0.0 h ++ cond b (sets e0.0 v ∷ []) [])) (eq-eqb c0.0 c0.0 refl) ∙
            on_append f (steps_since c0.0 h) (sets e0.0 v ∷ []) ∙
            ap (λ ts. on f (steps_since c0.0 h) ++ ts) (ap (λ n. on f (sets n v ∷ [])) (sym z) ∙ set_here f v) in
            subst (λ ts. Holder base ts (changed_lock l v)) (sym own_now)
            (record {
              faithful = true_append base (on f (steps_since c0.0 h)) (takes v ∷ []) O.faithful tt;
              copied = last_append base (on f (steps_since c0.0 h)) (takes v ∷ []);
              unchanged = λ u. never (cc);
            }))
            refl (inl refl) (k f))
        | inr n ↦
            kept_as tr.0 tr.1 (lock_elsewhere t.locks c0.0 e0.0 f (Some (changed_lock l v)) n)
            (λ i c. sym (own_elsewhere f (steps_since c h) (eqb c0.0 c && true) (sets e0.0 v) (set_elsewhere e0.0 f v n)) i) refl refl refl (still m h t begun k f)
      ]
