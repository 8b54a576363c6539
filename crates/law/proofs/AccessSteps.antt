-- Each effect keeps what is kept of each element: hard accesses and ends.
use Rattle.std.proofs.Common.{◌≡◌, ℕ, ◌<◌, Bool, true, false, not, ◌&&◌, ◌||◌, eqb, List, [], ◌∷◌, ◌++◌, length, ℤ, is_some, Some, None, Option, sym, refl, ap, ◌∙◌, subst, inl, inr}
use Rattle.std.specs.Option.{option_map}
use Rattle.std.proofs.lemmas.List.{append-nil}
use Rattle.std.proofs.lemmas.Bool.{cases_eq, not-false}
use Rattle.rules.specs.Scans.{some_below}
use Rattle.rules.specs.declared.ClientState.TheVariants.{Idle}
use Rattle.rules.specs.declared.Lock.{Lock}
use Rattle.law.specs.Record.{is_open}
use Rattle.law.specs.Order.{those_that}
use Rattle.law.proofs.Touches.{Touch, gives, takes, placed}
use Rattle.plant.specs.Meaning.{Meaning, number}
use Rattle.ranks.specs.declared.Client.{Client}
use Rattle.rules.specs.State.{State}
use Rattle.rules.specs.Locking.{leave}
use Rattle.rules.specs.declared.Call.TheVariants.{End, HardRead, HardWrite}
use Rattle.rules.specs.declared.Answer.TheVariants.{Done, Number}
use Rattle.law.specs.History.{Event, History}
use Rattle.law.specs.Record.{Record, record_of}
use Rattle.law.specs.Order.{accesses, order, steps_since, accessed}
use Rattle.law.proofs.Touches.{on, trace}
use Rattle.law.proofs.Gaining.{at_here, at_other}
use Rattle.law.proofs.Silent.{Ordinary, ordinary_order, kept_as}
use Rattle.plant.specs.Meaning.{has, within}
use Rattle.plant.specs.declared.tables.Element.{Element as TableElement}
use Rattle.law.specs.Order.{Step, reads, sets}
use Rattle.law.proofs.Puts.{put_here, put_other}
use Rattle.law.proofs.ClientSteps.{Element, still}
use Rattle.rules.specs.Calls.{next_left, is_left, hard_written}
use Rattle.rules.specs.State.{shows, locked}
use Rattle.rules.specs.declared.Pointer.{Pointer}
use Rattle.rules.proofs.Scanning.{first_none}
use Rattle.law.specs.Order.{Entry, holders_if_marked, hard_read_steps, hard_write_steps}
use Rattle.law.proofs.Touches.{trace_append, trace_those}
use Rattle.law.proofs.OrderLaws.{order_end}
use Rattle.law.proofs.Agreement.{project, kind_there}
use Rattle.law.proofs.Accessing.{holders_of, kept_read, kept_write}
use Rattle.law.proofs.Ending.{kept_ends}
use Rattle.law.proofs.OwnSteps.{read_elsewhere, set_elsewhere, read_here, set_here}

-- The set behind whose ends an access has to stand, by the record and by the state.
behind_is : (s : State) (begun : ℕ → ℕ) (e : TableElement) →
    ◌≡◌ {A = ℕ → Bool} (holders_if_marked (project s begun) (Some e)) (holders_of (s.marked e.0) (λ c. s.locks c e.0) begun)
behind_is s begun e = λ i x. s.marked e.0 && some_below 16 (λ c. kind_there (s.locks c e.0) i && eqb (begun c) x)

-- An access as it stands in the order.
abbrev entry_of : ℕ → Step → Bool → (ℕ → Option Lock) → (ℕ → ℕ) → Entry
entry_of n z marked locks begun = record { moment = n; steps = z ∷ []; behind = holders_of marked locks begun }

read_entry : (K : Type 0) (n : ℕ) (r : Record) (s : State) (begun : ℕ → ℕ) (p : Pointer) (e : TableElement) (v : ℤ) → r ≡ project s begun → s.ties p.0 ≡ Some e →
    accessed {K = K} n r (HardRead p) (Number v) ≡ entry_of n (reads e.0 v) (s.marked e.0) (λ c. s.locks c e.0) begun ∷ []
read_entry K n r s begun p e v agreed tied =
    ap (λ q. accessed {K = K} n q (HardRead p) (Number v)) agreed ∙
    ap (λ o. record { moment = n; steps = hard_read_steps o (Number v); behind = holders_if_marked (project s begun) o } ∷ []) tied ∙
    ap (λ b. record { moment = n; steps = reads e.0 v ∷ []; behind = b } ∷ []) (behind_is s begun e)

write_entry : (K : Type 0) (n : ℕ) (r : Record) (s : State) (begun : ℕ → ℕ) (p : Pointer) (e : TableElement) (v : ℤ) → r ≡ project s begun → s.ties p.0 ≡ Some e →
    accessed {K = K} n r (HardWrite p v) Done ≡ entry_of n (sets e.0 v) (s.marked e.0) (λ c. s.locks c e.0) begun ∷ []
write_entry K n r s begun p e v agreed tied =
    ap (λ q. accessed {K = K} n q (HardWrite p v) Done) agreed ∙
    ap (λ o. record { moment = n; steps = hard_write_steps o v; behind = holders_if_marked (project s begun) o } ∷ []) tied ∙
    ap (λ b. record { moment = n; steps = sets e.0 v ∷ []; behind = b } ∷ []) (behind_is s begun e)

-- The trace of one access.
trace_here : (n e : ℕ) (z : Step) (touch : Touch) (b : ℕ → Bool) → on e (z ∷ []) ≡ touch ∷ [] →
    trace e (record { moment = n; steps = z ∷ []; behind = b } ∷ []) ≡ record { touch = touch; behind = b } ∷ []
trace_here n e z touch b one = ap (λ ts. placed b ts ++ []) one

trace_elsewhere : (n f : ℕ) (z : Step) (b : ℕ → Bool) → on f (z ∷ []) ≡ [] → trace f (record { moment = n; steps = z ∷ []; behind = b } ∷ []) ≡ []
trace_elsewhere n f z b none = ap (λ ts. placed b ts ++ []) none

module _ {K : Type 0} (m : Meaning) (h : History K) (t : State) (begun : ℕ → ℕ) (k : (e : ℕ) → Element m h t begun e)
    (past : (c : ℕ) → is_open (t.clients c) ≡ true → begun c < length h)
    (distinct : (c d : ℕ) → is_open (t.clients c) ≡ true → is_open (t.clients d) ≡ true → begun c ≡ begun d → c ≡ d) where
  -- The traces after an access.
  traces_grow : (x : Event K) → Ordinary x.call x.answer → (N : List Entry) → accessed (length h) (record_of (x ∷ h)) x.call x.answer ≡ N → (f : ℕ) →
      (trace f (order h) ++ trace f N ≡ trace f (order (x ∷ h))) × (trace f (accesses h) ++ trace f N ≡ trace f (accesses (x ∷ h)))
  traces_grow x o N one f = (
    sym (ap (trace f) (ordinary_order x h o ∙ ap (λ xs. order h ++ xs) one) ∙ trace_append f (order h) N),
    sym (ap (λ xs. trace f (accesses h ++ xs)) one ∙ trace_append f (accesses h) N),
  )

  -- A hard read.
  pub reads_shown : (p : Pointer) (e : TableElement) (ranks : List K) → t.ties p.0 ≡ Some e → record_of h ≡ project t begun → (f : ℕ) →
      Element m (record { call = HardRead p; ranks = ranks; answer = Number (shows t e.0) } ∷ h) t begun f
  reads_shown p e ranks tied agreed f =
      let x : Event K = record { call = HardRead p; ranks = ranks; answer = Number (shows t e.0) } in
      let E : Entry = entry_of (length h) (reads e.0 (shows t e.0)) (t.marked e.0) (λ c. t.locks c e.0) begun in
      let tr = traces_grow x (record { no_end = λ g. refl; ends_none = λ s r. refl; no_begin = λ c. refl }) (E ∷ []) (read_entry K (length h) (record_of h) t begun p e (shows t e.0) agreed tied) f in
      elim (cases_eq f e.0) [
        | inl z ↦
            (let here : trace f (E ∷ []) ≡ record { touch = gives (shows t f); behind = holders_of (t.marked f) (λ c. t.locks c f) begun } ∷ [] =
            ap (λ n. trace f (entry_of (length h) (reads n (shows t n)) (t.marked n) (λ c. t.locks c n) begun ∷ [])) (sym z) ∙
            trace_here (length h) f (reads f (shows t f)) (gives (shows t f)) (holders_of (t.marked f) (λ c. t.locks c f) begun) (read_here f (shows t f)) in
            kept_as (ap (λ xs. trace f (order h) ++ xs) (sym here) ∙ tr.0) (ap (λ xs. trace f (accesses h) ++ xs) (sym here) ∙ tr.1) refl
            (λ i c. on f (sym (append-nil (steps_since c h)) i)) refl refl refl
            (kept_read (number m f) (length h) (trace f (order h)) (trace f (accesses h)) t.clients begun (λ c. t.locks c f) (λ c. on f (steps_since c h)) (t.marked f) (t.second f) (number t.table f) past distinct (k f)))
        | inr n ↦
            (let none : trace f (E ∷ []) ≡ [] = trace_elsewhere (length h) f (reads e.0 (shows t e.0)) E.behind (read_elsewhere e.0 f (shows t e.0) n) in
            kept_as (sym (append-nil (trace f (order h))) ∙ ap (λ xs. trace f (order h) ++ xs) (sym none) ∙ tr.0)
            (sym (append-nil (trace f (accesses h))) ∙ ap (λ xs. trace f (accesses h) ++ xs) (sym none) ∙ tr.1) refl
            (λ i c. on f (sym (append-nil (steps_since c h)) i)) refl refl refl (still m h t begun k f))
      ]

  -- A hard write.
  pub writes_hard : (p : Pointer) (v : ℤ) (e : TableElement) (ranks : List K) → t.ties p.0 ≡ Some e → has t.table e.0 ≡ true → within t.table v ≡ true →
      record_of (record { call = HardWrite p v; ranks = ranks; answer = Done } ∷ h) ≡ project (hard_written t e.0 v) begun → (f : ℕ) →
      Element m (record { call = HardWrite p v; ranks = ranks; answer = Done } ∷ h) (hard_written t e.0 v) begun f
  writes_hard p v e ranks tied there inside agreed f =
      let x : Event K = record { call = HardWrite p v; ranks = ranks; answer = Done } in
      let s : State = hard_written t e.0 v in
      let E : Entry = entry_of (length h) (sets e.0 v) (s.marked e.0) (λ c. t.locks c e.0) begun in
      let tr = traces_grow x (record { no_end = λ g. refl; ends_none = λ q r. refl; no_begin = λ c. refl }) (E ∷ []) (write_entry K (length h) (record_of (x ∷ h)) s begun p e v agreed tied) f in
      elim (cases_eq f e.0) [
        | inl z ↦
            subst (λ n. Element m (x ∷ h) (hard_written t e.0 v) begun n) (sym z)
            (let e0 : ℕ = e.0 in
            let tr0 = traces_grow x (record { no_end = λ g. refl; ends_none = λ q r. refl; no_begin = λ c. refl }) (E ∷ []) (write_entry K (length h) (record_of (x ∷ h)) s begun p e v agreed tied) e0 in
            let mark : (t.marked e0 || locked t e0) ≡ s.marked e0 = sym (at_here t.marked e0 (t.marked e0 || locked t e0)) in
            let here : trace e0 (E ∷ []) ≡ record { touch = takes v; behind = holders_of (t.marked e0 || locked t e0) (λ c. t.locks c e0) begun } ∷ [] =
            trace_here (length h) e0 (sets e0 v) (takes v) E.behind (set_here e0 v) ∙ ap (λ b. record { touch = takes v; behind = holders_of b (λ c. t.locks c e0) begun } ∷ []) (sym mark) in
            kept_as (ap (λ xs. trace e0 (order h) ++ xs) (sym here) ∙ tr0.0) (ap (λ xs. trace e0 (accesses h) ++ xs) (sym here) ∙ tr0.1) refl
            (λ i c. on e0 (sym (append-nil (steps_since c h)) i)) mark
            (sym (at_here t.second e0 (option_map (λ old. v) (t.second e0)))) (sym (put_here t.table e0 v there inside))
            (kept_write (number m e0) (length h) (trace e0 (order h)) (trace e0 (accesses h)) t.clients begun (λ c. t.locks c e0) (λ c. on e0 (steps_since c h)) (t.marked e0) (t.second e0) (number t.table e0) v past distinct (k e0)))
        | inr n ↦
            (let none : trace f (E ∷ []) ≡ [] = trace_elsewhere (length h) f (sets e.0 v) E.behind (set_elsewhere e.0 f v n) in
            kept_as (sym (append-nil (trace f (order h))) ∙ ap (λ xs. trace f (order h) ++ xs) (sym none) ∙ tr.0)
            (sym (append-nil (trace f (accesses h))) ∙ ap (λ xs. trace f (accesses h) ++ xs) (sym none) ∙ tr.1) refl
            (λ i c. on f (sym (append-nil (steps_since c h)) i))
            (sym (at_other t.marked e.0 (t.marked e.0 || locked t e.0) f n))
            (sym (at_other t.second e.0 (option_map (λ old. v) (t.second e.0)) f n))
            (sym (put_other t.table e.0 v f n)) (still m h t begun k f))
      ]

  -- An end.
  pub ends_whole : (c0 : Client) (ranks : List K) → is_open (t.clients c0.0) ≡ true → next_left t c0.0 ≡ None → record_of h ≡ project t begun →
      ((f : ℕ) → is_some (t.locks c0.0 f) ≡ true → f < 256) → (f : ℕ) →
      Element m (record { call = End c0; ranks = ranks; answer = Done } ∷ h) (leave (λ d. eqb d c0.0) Idle t) begun f
  ends_whole c0 ranks opened none agreed bounded f =
      kept_as (sym trace_is) (ap (trace f) (sym (append-nil (accesses h)))) refl (λ i c. on f (sym (append-nil (steps_since c h)) i)) refl refl refl
      (kept_ends (number m f) (length h) (trace f (order h)) (trace f (accesses h)) t.clients begun (λ c. t.locks c f) (λ c. on f (steps_since c h)) (t.marked f) (t.second f) (number t.table f) c0.0 opened (k f) finished)
    where
      b_is : (record_of h).begun c0.0 ≡ begun c0.0
      b_is = ap (λ (r : Record). r.begun c0.0) agreed

      trace_is : trace f (order (record { call = End c0; ranks = ranks; answer = Done } ∷ h)) ≡
          those_that (λ x. not (x.behind (begun c0.0))) (trace f (order h)) ++
          (placed (λ b. false) (on f (steps_since c0.0 h)) ++ those_that (λ x. x.behind (begun c0.0)) (trace f (accesses h)))
      trace_is =
          ap (trace f) (order_end c0 ranks h) ∙
          ap (λ b. trace f (those_that (λ a. not (a.behind b)) (order h) ++ (record { moment = length h; steps = steps_since c0.0 h; behind = λ x. false } ∷ those_that (λ a. a.behind b) (accesses h)))) b_is ∙
          trace_append f (those_that (λ a. not (a.behind (begun c0.0))) (order h)) (record { moment = length h; steps = steps_since c0.0 h; behind = λ x. false } ∷ those_that (λ a. a.behind (begun c0.0)) (accesses h)) ∙
          ap (λ xs. xs ++ (placed (λ b. false) (on f (steps_since c0.0 h)) ++ trace f (those_that (λ a. a.behind (begun c0.0)) (accesses h))))
          (trace_those f (λ B. not (B (begun c0.0))) (order h)) ∙
          ap (λ xs. those_that (λ x. not (x.behind (begun c0.0))) (trace f (order h)) ++ (placed (λ b. false) (on f (steps_since c0.0 h)) ++ xs))
          (trace_those f (λ B. B (begun c0.0)) (accesses h))

      finished : (l : Lock) → t.locks c0.0 f ≡ Some l → l.changed ≡ true → l.taken ≡ true
      finished l q changed =
          let left : is_left (t.locks c0.0 f) ≡ false = first_none 256 (λ e. is_left (t.locks c0.0 e)) none f (bounded f (ap is_some q)) in
          let left_l : (l.changed && not l.taken) ≡ false = sym (ap is_left q) ∙ left in
          not-false l.taken (sym (ap (λ b. b && not l.taken) changed) ∙ left_l)
