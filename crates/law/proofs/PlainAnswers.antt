-- The two plain answers, from the law.
use Rattle.std.proofs.Common.{◌≡◌, ℕ, ◌≤◌, Bool, true, false, cond, ◌&&◌, eqb, List, [], ◌∷◌, ◌++◌, length, ℤ, Some, None, Option, unwrap_or, sym, refl, ap, ◌∙◌, inl, inr}
use Rattle.std.specs.Option.{option_map}
use Rattle.std.proofs.lemmas.List.{append_assoc, append-nil}
use Rattle.std.proofs.lemmas.Bool.{and_left, and_right, eq-eqb, ne_eqb, cases_eq}
use Rattle.rules.specs.Scans.{at}
use Rattle.rules.specs.State.{for_writing}
use Rattle.rules.proofs.Scanning.{some_none}
use Rattle.law.specs.Order.{those_that}
use Rattle.law.proofs.Touches.{last, touches}
use Rattle.plant.specs.Meaning.{Meaning, number}
use Rattle.rules.specs.State.{State}
use Rattle.rules.specs.declared.Call.{Call}
use Rattle.rules.specs.declared.Call.TheVariants.{Begin, Lock as Locks, Read as Reads, Change, Commit, WriteBack, End, GiveUp, Clear, Bind, Remove, HardRead, HardWrite}
use Rattle.rules.specs.declared.Answer.{Answer}
use Rattle.rules.specs.declared.Answer.TheVariants.{Done, Number, WroteBack, Lost, Refused}
use Rattle.law.specs.History.{Event, History}
use Rattle.law.specs.Record.{Record, record_of}
use Rattle.law.specs.Order.{accesses, order, steps_since, accessed}
use Rattle.law.proofs.Touches.{trace}
use Rattle.law.proofs.Gaining.{at_here, at_other}
use Rattle.law.proofs.Silent.{Ordinary, ordinary_order}
use Rattle.plant.specs.Meaning.{put_meaning}
use Rattle.plant.specs.declared.tables.Element.{Element as TableElement}
use Rattle.law.proofs.Puts.{put_here, put_other}
use Rattle.rules.specs.Calls.{hard_written}
use Rattle.rules.specs.State.{shows}
use Rattle.rules.specs.declared.Pointer.{Pointer}
use Rattle.law.specs.Order.{ended}
use Rattle.law.specs.Order.{Entry}
use Rattle.plant.specs.declared.refusals.Refusal.{Refusal}
use Rattle.rules.specs.declared.Fate.TheVariants.{Written}
use Rattle.rules.specs.Effects.{Effect, refusing, beginning, keeping, losing, waiting, gaining, reading, changing, entering, dropping, writing, ending, giving_up, clearing, binding, removing, hard_reading, hard_writing}
use Rattle.rules.specs.Calls.{Outcome}
use Rattle.rules.specs.Step.{step}
use Rattle.law.specs.History.{Leads}
use Rattle.law.specs.Record.{kind_writes}
use Rattle.law.specs.Play.{all_steps}
use Rattle.law.proofs.Invariant.{Inv}
use Rattle.law.specs.History.{accepted}
use Rattle.law.specs.Order.{walk, place, ended}
use Rattle.law.specs.Answers.{ends_writer, if_tied, hard_written_to, NoWriterEnded, last_hard_write, OldNumberUntilTheEnd, NeverMixed}
use Rattle.law.proofs.RunLaw.{last_effect, inv_run, kind_writing}

-- What an element shows follows from the order.
shown_by_order : {K : Type 0} (m : Meaning) (h : History K) (s : State) → Inv m h s → (e : ℕ) → shows s e ≡ last (number m e) (touches (trace e (order h)))
shown_by_order m h s v e = sym (v.element e).counts.shown

not_written : {K : Type 0} (e : ℕ) (R : Record) (call : Call K) (r : Refusal) → hard_written_to e R call (Refused r) ≡ None
not_written e R (Begin c k) r = refl
not_written e R (Locks c kind f) r = refl
not_written e R (Reads c f) r = refl
not_written e R (Change c f v) r = refl
not_written e R (Commit c) r = refl
not_written e R (WriteBack c) r = refl
not_written e R (End c) r = refl
not_written e R (GiveUp c) r = refl
not_written e R (Clear c) r = refl
not_written e R (Bind p f) r = refl
not_written e R (Remove p) r = refl
not_written e R (HardRead p) r = refl
not_written e R (HardWrite p v) r = refl

module _ {K : Type 0} (above : K → K → Bool) (m : Meaning) (h : History K) (t : State) (v : Inv m h t) (ranks : List K) (e : ℕ) where
  -- An event that leaves the order leaves what is shown.
  same_shown : (call : Call K) (a : Answer) (s : State) → Inv m (record { call = call; ranks = ranks; answer = a } ∷ h) s →
      Ordinary call a → ((n : ℕ) (r : Record) → accessed n r call a ≡ []) → shows s e ≡ shows t e
  same_shown call a s w o none =
      let x : Event K = record { call = call; ranks = ranks; answer = a } in
      shown_by_order m (x ∷ h) s w e ∙
      ap (λ xs. last (number m e) (touches (trace e xs))) (ordinary_order x h o ∙ ap (λ xs. order h ++ xs) (none (length h) (record_of (x ∷ h))) ∙ append-nil (order h)) ∙
      sym (shown_by_order m h t v e)

  plain : (call : Call K) (a : Answer) (s : State) → Inv m (record { call = call; ranks = ranks; answer = a } ∷ h) s →
      Ordinary call a → ((n : ℕ) (r : Record) → accessed n r call a ≡ []) → hard_written_to e (record_of h) call a ≡ None →
      shows s e ≡ unwrap_or (hard_written_to e (record_of h) call a) (shows t e)
  plain call a s w o none unwritten = same_shown call a s w o none ∙ ap (λ y. unwrap_or y (shows t e)) (sym unwritten)

  -- What is shown alters by a hard write, or by the end of a writer, and by nothing else.
  shown_after : {call : Call K} {s : State} {a : Answer} → Effect above t ranks call s a → Inv m (record { call = call; ranks = ranks; answer = a } ∷ h) s →
      ends_writer e (record_of h) call a ≡ false → shows s e ≡ unwrap_or (hard_written_to e (record_of h) call a) (shows t e)
  shown_after (refusing call r) w no_end = ap (λ y. unwrap_or y (shows t e)) (sym (not_written e (record_of h) call r))
  shown_after (beginning c k small idle) w no_end = refl
  shown_after (keeping c kind f x covered) w no_end = refl
  shown_after (losing c kind f small x beaten) w no_end =
      plain (Locks c kind f) Lost _ w (record { no_end = λ g. refl; ends_none = λ s r. refl; no_begin = λ d. refl }) (λ n r. refl) refl
  shown_after (waiting c kind f x held_up) w no_end = refl
  shown_after (gaining c kind f small x there uncovered unbeaten free) w no_end =
      plain (Locks c kind f) Done _ w (record { no_end = λ g. refl; ends_none = λ s r. refl; no_begin = λ d. refl }) (λ n r. refl) refl
  shown_after (reading c f l x q) w no_end = refl
  shown_after (changing c f z l x q writes inside) w no_end = refl
  shown_after (entering c x) w no_end = refl
  shown_after (dropping c f l x q ch mk) w no_end = refl
  shown_after (writing c f l x q ch mk) w no_end =
      plain (WriteBack c) (WroteBack (record { 0 = f }) Written) _ w (record { no_end = λ g. refl; ends_none = λ s r. refl; no_begin = λ d. refl }) (λ n r. refl) refl
  shown_after (ending c small x none) w no_end =
      ap (λ b. unwrap_or (cond b None (t.second e)) (number t.table e))
      (some_none 16 (λ d. eqb d c.0 && for_writing (t.locks d e)) (λ d _.
      elim (cases_eq d c.0) [
        | inl z ↦ and_right (eqb d c.0) (for_writing (t.locks d e)) (ap (λ n. for_writing (t.locks n e)) z ∙ sym (kind_writing (t.locks c.0 e)) ∙ sym (ap (λ (r : Record). kind_writes (r.kinds c.0 e)) v.agreed) ∙ no_end)
        | inr n ↦ and_left (eqb d c.0) (for_writing (t.locks d e)) (ne_eqb d c.0 n)
      ]))
  shown_after (giving_up c small x) w no_end =
      plain (GiveUp c) Done _ w (record { no_end = λ g. refl; ends_none = λ s r. refl; no_begin = λ d. refl }) (λ n r. refl) refl
  shown_after (clearing c x) w no_end = refl
  shown_after (binding p f q there) w no_end = refl
  shown_after (removing p) w no_end = refl
  shown_after (hard_reading p f q) w no_end = refl
  shown_after (hard_writing p z f q there inside) w no_end =
      elim (cases_eq e f.0) [
        | inl y ↦
            (ap (λ n. shows (hard_written t f.0 z) n) y ∙ here (t.second f.0) ∙
            ap (λ o. unwrap_or o (shows t e)) (sym (ap (λ b. cond b (Some z) None) (eq-eqb f.0 e (sym y))) ∙ tie))
        | inr n ↦
            (ap (λ o. unwrap_or o (number (put_meaning t.table f.0 z) e)) (at_other t.second f.0 (option_map (λ old. z) (t.second f.0)) e n) ∙
            ap (unwrap_or (t.second e)) (put_other t.table f.0 z e n) ∙
            ap (λ o. unwrap_or o (shows t e)) (sym (ap (λ b. cond b (Some z) None) (ne_eqb f.0 e (λ y. n (sym y)))) ∙ tie))
      ]
    where
      tie : if_tied e z (Some f) ≡ if_tied e z ((record_of h).ties p.0)
      tie = ap (if_tied e z) (sym (ap (λ (r : Record). r.ties p.0) v.agreed ∙ q))

      here : (o : Option ℤ) → unwrap_or (at t.second f.0 (option_map (λ old. z) (t.second f.0)) f.0) (number (put_meaning t.table f.0 z) f.0) ≡ z
      here o =
          ap (λ y. unwrap_or y (number (put_meaning t.table f.0 z) f.0)) (at_here t.second f.0 (option_map (λ old. z) (t.second f.0))) ∙
          ap (unwrap_or (option_map (λ old. z) (t.second f.0))) (put_here t.table f.0 z there inside) ∙ both (t.second f.0)
        where
          both : (y : Option ℤ) → unwrap_or (option_map (λ old. z) y) z ≡ z
          both None = refl
          both (Some y) = refl

-- A history leads to one state.
one_state : {K : Type 0} (above : K → K → Bool) (m : Meaning) (h : History K) (s t : State) → Leads above m h s → Leads above m h t → s ≡ t
one_state above m [] s t r q = r ∙ sym q
one_state above m (x ∷ h) s t r q =
    let same_before : r.0 ≡ q.0 = one_state above m h r.0 q.0 r.1 q.1 in
    ap (λ (o : Outcome). o.state) (sym r.2 ∙ ap (λ u. step above u x.ranks x.call) same_before ∙ q.2)

-- Along the later part of a history.
along : {K : Type 0} (above : K → K → Bool) (m : Meaning) → length m.numbers ≤ 256 → (h : History K) (t : State) → Leads above m h t → (e : ℕ) (g : History K) (s : State) →
    Leads above m (g ++ h) s → NoWriterEnded e g h → shows s e ≡ last_hard_write e g h (shows t e)
along above m small h t start e [] s r calm = ap (λ u. shows u e) (one_state above m h s t r start)
along above m small h t start e (x ∷ g) s r calm =
    let u : State = r.0 in
    let v : Inv m (g ++ h) u = inv_run above m small (g ++ h) u r.1 in
    let w : Inv m (x ∷ (g ++ h)) s = inv_run above m small (x ∷ (g ++ h)) s r in
    shown_after above m (g ++ h) u v x.ranks e (last_effect above u x s r.2) w calm.0 ∙
    ap (unwrap_or (hard_written_to e (record_of (g ++ h)) x.call x.answer)) (along above m small h t start e g u r.1 calm.1)

-- An accepted hard read answers what its element shows.
read_answers : {K : Type 0} {above : K → K → Bool} {t : State} {ranks : List K} {call : Call K} {s : State} {a : Answer} → Effect above t ranks call s a →
    (p : Pointer) → call ≡ HardRead p → accepted a ≡ true → (f : TableElement) → t.ties p.0 ≡ Some f → a ≡ Number (shows t f.0)
read_answers (refusing call r) p c ok f q = cc
read_answers (beginning c1 k small idle) p c ok f q = cc
read_answers (keeping c1 k1 e1 x covered) p c ok f q = cc
read_answers (losing c1 k1 e1 small x beaten) p c ok f q = cc
read_answers (waiting c1 k1 e1 x held_up) p c ok f q = cc
read_answers (gaining c1 k1 e1 small x there uncovered unbeaten free) p c ok f q = cc
read_answers (reading c1 e1 l x r) p c ok f q = cc
read_answers (changing c1 e1 v l x r writes inside) p c ok f q = cc
read_answers (entering c1 x) p c ok f q = cc
read_answers (dropping c1 e1 l x r ch mk) p c ok f q = cc
read_answers (writing c1 e1 l x r ch mk) p c ok f q = cc
read_answers (ending c1 small x none) p c ok f q = cc
read_answers (giving_up c1 small x) p c ok f q = cc
read_answers (clearing c1 x) p c ok f q = cc
read_answers (binding p1 e1 r there) p c ok f q = cc
read_answers (removing p1) p c ok f q = cc
read_answers {t = t} (hard_reading p1 e1 r) p c ok f q =
    let same_pointer : p1 ≡ p = cc in
    let same_element : Some e1 ≡ Some f = sym r ∙ ap (λ (y : Pointer). t.ties y.0) same_pointer ∙ q in
    let same_e : e1 ≡ f = cc in
    ap (λ (y : TableElement). Number (shows t y.0)) same_e
read_answers (hard_writing p1 v e1 r there inside) p c ok f q = cc

pub old_number : {K : Type 0} (above : K → K → Bool) → OldNumberUntilTheEnd above
old_number above m g h t u p e ranks a small start r tied ok calm =
    let s : State = r.0 in
    let v : Inv m (g ++ h) s = inv_run above m small (g ++ h) s r.1 in
    let f = last_effect above s (record { call = HardRead p; ranks = ranks; answer = a }) u r.2 in
    read_answers f p refl ok e (sym (ap (λ (q : Record). q.ties p.0) v.agreed) ∙ tied) ∙
    ap (λ n. Number n) (along above m small h t start e.0 g s r.1 calm)

-- The walk of a longer history begins with that of the earlier part.
walk_longer : {K : Type 0} (f : Entry → ℕ) (A : List Entry) (g k : History K) → (rest : List Entry) × (walk f A (g ++ k) ≡ walk f A k ++ rest)
walk_longer f A [] k = ([], sym (append-nil (walk f A k)))
walk_longer f A (x ∷ g) k =
    let before = walk_longer f A g k in
    let group : List Entry = ended (g ++ k) x.call x.answer ++ those_that (λ a. eqb (f a) (length (g ++ k))) A in
    (before.0 ++ group, ap (λ xs. xs ++ group) before.1 ∙ append_assoc (walk f A k) before.0 group)

all_append : (xs ys : List Entry) → all_steps (xs ++ ys) ≡ all_steps xs ++ all_steps ys
all_append [] ys = refl
all_append (x ∷ xs) ys = ap (λ zs. x.steps ++ zs) (all_append xs ys) ∙ sym (append_assoc x.steps (all_steps xs) (all_steps ys))

pub never_mixed : (K : Type 0) → NeverMixed K
never_mixed K g h c ranks =
    let x : Event K = record { call = End c; ranks = ranks; answer = Done } in
    let H : History K = g ++ (x ∷ h) in
    let T : Entry = record { moment = length h; steps = steps_since c.0 h; behind = λ t. false } in
    let behind : List Entry = those_that (λ a. eqb (place H a) (length h)) (accesses H) in
    let longer = walk_longer (place H) (accesses H) g (x ∷ h) in
    let W : List Entry = walk (place H) (accesses H) h in
    record {
      before = all_steps W;
      after = all_steps (behind ++ longer.0);
      stands =
          ap all_steps (longer.1 ∙ append_assoc W (T ∷ behind) longer.0) ∙ all_append W (T ∷ (behind ++ longer.0));
    }
