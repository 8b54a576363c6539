-- A hard access touches the element: behind all, and behind the ends of its present holders if it is marked.
use Rattle.std.proofs.Common.{◌≡◌, ℕ, suc, ◌<◌, ◌≤◌, Bool, true, false, ◌&&◌, ◌||◌, eqb, List, [], ◌∷◌, ◌++◌, ℤ, is_some, Some, None, Option, unwrap_or, sym, refl, ap, ◌∙◌, subst, inl, inr, arith}
use Rattle.std.specs.Option.{option_map}
use Rattle.std.proofs.lemmas.Bool.{and_parts, and_left, and_right, eq-eqb, ne_eqb, cases_Bool}
use Rattle.rules.specs.Scans.{some_below}
use Rattle.rules.specs.declared.ClientState.{ClientState}
use Rattle.rules.specs.declared.Lock.{Lock}
use Rattle.rules.proofs.Scanning.{some_true, some_false, some_none}
use Rattle.law.specs.Record.{is_open}
use Rattle.law.proofs.Touches.{Touch, gives, takes, last, TrueTo, Placed, touches, last_append, true_append, touches_append}
use Rattle.law.proofs.Trails.{Trail, trail_grows, trail_goes_on}
use Rattle.law.proofs.Elements.{Holder, Locking, someone, Starts, is_there, Kept, never, true_not_false, there_is, some_is, there_touches, not_there}

starts_before : (ts us : List Touch) → Starts ts → is_there ts ≡ true → Starts (ts ++ us)
starts_before [] us s h = never (cc)
starts_before (gives v ∷ ts) us s h = absurd s
starts_before (takes v ∷ ts) us s h = tt

starts_or_writes : (ts : List Touch) (v : ℤ) → Starts ts → Starts (ts ++ takes v ∷ [])
starts_or_writes [] v s = tt
starts_or_writes (gives w ∷ ts) v s = absurd s
starts_or_writes (takes w ∷ ts) v s = tt

there_more : {X : Type 0} (xs : List X) (x : X) → is_there (xs ++ x ∷ []) ≡ true
there_more [] x = refl
there_more (y ∷ xs) x = refl

or_there : (b d : Bool) → d ≡ true → (b || d) ≡ true
or_there true d e = refl
or_there false d e = e

-- The access stands behind the transactions of the present holders, if the element is marked.
abbrev pub holders_of : Bool → (ℕ → Option Lock) → (ℕ → ℕ) → ℕ → Bool
holders_of marked locks begun t = marked && some_below 16 (λ c. is_some (locks c) && eqb (begun c) t)

module _ (start : ℤ) (now : ℕ) (X A : List Placed) (clients : ℕ → ClientState) (begun : ℕ → ℕ) (locks : ℕ → Option Lock)
    (own : ℕ → List Touch) (marked marked' : Bool) (second : Option ℤ) (number : ℤ)
    (past : (c : ℕ) → is_open (clients c) ≡ true → begun c < now)
    (distinct : (c d : ℕ) → is_open (clients c) ≡ true → is_open (clients d) ≡ true → begun c ≡ begun d → c ≡ d)
    (k : Kept start now X A clients begun locks own marked second number) where
  holder_open : (c : ℕ) → is_some (locks c) ≡ true → is_open (clients c) ≡ true
  holder_open c i = let x = there_is (locks c) i in (k.locking.held c x.0 x.1).opened

  behind_holders : marked' ≡ true → (c : ℕ) → is_open (clients c) ≡ true → holders_of marked' locks begun (begun c) ≡ is_some (locks c)
  behind_holders m c o = ap (λ b. b && some_below 16 (λ d. is_some (locks d) && eqb (begun d) (begun c))) m ∙ by (is_some (locks c)) refl
    where
      by : (b : Bool) → is_some (locks c) ≡ b → some_below 16 (λ d. is_some (locks d) && eqb (begun d) (begun c)) ≡ b
      by true h = some_true 16 (λ d. is_some (locks d) && eqb (begun d) (begun c)) c (k.locking.below c h) (rw (h, eq-eqb (begun c) (begun c) refl))
      by false h =
          some_none 16 (λ d. is_some (locks d) && eqb (begun d) (begun c)) (λ d small.
          elim (cases_Bool (is_some (locks d))) [
            | inl i ↦
                and_right (is_some (locks d)) (eqb (begun d) (begun c))
                (ne_eqb (begun d) (begun c) (λ e. true_not_false i (ap (λ n. is_some (locks n)) (distinct d c (holder_open d i) o e) ∙ h)))
            | inr i ↦ and_left (is_some (locks d)) (eqb (begun d) (begun c)) i
          ])

  behind_past : (b : ℕ) → suc now ≤ b → holders_of marked' locks begun b ≡ false
  behind_past b l =
      and_right marked' (some_below 16 (λ c. is_some (locks c) && eqb (begun c) b))
      (some_none 16 (λ c. is_some (locks c) && eqb (begun c) b) (λ d small.
      elim (cases_Bool (is_some (locks d))) [
        | inl i ↦ and_right (is_some (locks d)) (eqb (begun d) b) (ne_eqb (begun d) b (λ e. let p = past d (holder_open d i) in omega arith))
        | inr i ↦ and_left (is_some (locks d)) (eqb (begun d) b) i
      ]))

  behind_nobody : (marked' && someone locks) ≡ false → (t : ℕ) → holders_of marked' locks begun t ≡ false
  behind_nobody h t =
      elim (cases_Bool marked') [
        | inl m ↦
            (let none : someone locks ≡ false = sym (ap (λ b. b && someone locks) m) ∙ h in
            and_right marked' (some_below 16 (λ c. is_some (locks c) && eqb (begun c) t))
            (some_none 16 (λ c. is_some (locks c) && eqb (begun c) t) (λ d small.
            and_left (is_some (locks d)) (eqb (begun d) t) (some_false 16 (λ c. is_some (locks c)) none d small))))
        | inr m ↦ and_left marked' (some_below 16 (λ c. is_some (locks c) && eqb (begun c) t)) m
      ]

  abbrev N : Touch → List Placed
  N t = record { touch = t; behind = holders_of marked' locks begun } ∷ []

  trail_behind : (t : Touch) → marked' ≡ true →
      Trail (suc now) (X ++ N t) (A ++ N t) k.front k.early (k.tail ++ N t) (λ c. is_open (clients c)) begun (λ c. is_some (locks c))
  trail_behind t m =
      trail_grows now X A k.front k.early k.tail (N t) (λ c. is_open (clients c)) begun (λ c. is_some (locks c))
      (behind_holders m, tt) (behind_past, tt) k.trail

  trail_free : (t : Touch) → (marked' && someone locks) ≡ false → k.tail ≡ [] →
      Trail (suc now) (X ++ N t) (A ++ N t) (k.front ++ N t) (k.early ++ N t) [] (λ c. is_open (clients c)) begun (λ c. is_some (locks c))
  trail_free t h none =
      trail_goes_on now X A k.front k.early k.tail (N t) (λ c. is_open (clients c)) begun (λ c. is_some (locks c))
      ((λ c o. behind_nobody h (begun c)), tt) (behind_past, tt) k.trail none

  last_more : (xs : List Placed) (t : Touch) → last start (touches (xs ++ N t)) ≡ last (last start (touches xs)) (t ∷ [])
  last_more xs t = ap (last start) (touches_append xs (N t)) ∙ last_append start (touches xs) (t ∷ [])

  true_more : (t : Touch) → TrueTo (last start (touches X)) (t ∷ []) → TrueTo start (touches (X ++ N t))
  true_more t h = subst (TrueTo start) (sym (touches_append X (N t))) (true_append start (touches X) (t ∷ []) k.counts.faithful h)

-- A hard read gives the number shown.
module _ (start : ℤ) (now : ℕ) (X A : List Placed) (clients : ℕ → ClientState) (begun : ℕ → ℕ) (locks : ℕ → Option Lock)
    (own : ℕ → List Touch) (marked : Bool) (second : Option ℤ) (number : ℤ)
    (past : (c : ℕ) → is_open (clients c) ≡ true → begun c < now)
    (distinct : (c d : ℕ) → is_open (clients c) ≡ true → is_open (clients d) ≡ true → begun c ≡ begun d → c ≡ d)
    (k : Kept start now X A clients begun locks own marked second number) where
  abbrev R : List Placed
  R = record { touch = gives (unwrap_or second number); behind = holders_of marked locks begun } ∷ []

  read_case : (b : Bool) → (marked && someone locks) ≡ b → Kept start (suc now) (X ++ R) (A ++ R) clients begun locks own marked second number
  read_case true h =
      let there : is_there k.tail ≡ true = k.counts.there ∙ h in
      record {
        front = k.front;
        early = k.early;
        tail = k.tail ++ R;
        trail = trail_behind start now X A clients begun locks own marked marked second number past distinct k (gives (unwrap_or second number)) (and_parts marked (someone locks) h).0;
        locking = k.locking;
        counts =
            record {
              faithful = true_more start now X A clients begun locks own marked marked second number past distinct k (gives (unwrap_or second number)) (k.counts.shown, tt);
              shown = last_more start now X A clients begun locks own marked marked second number past distinct k X (gives (unwrap_or second number)) ∙ k.counts.shown;
              starts = subst Starts (sym (touches_append k.tail R)) (starts_before (touches k.tail) _ k.counts.starts (there_touches k.tail ∙ there));
              there = there_more k.tail _ ∙ sym h;
              holder = k.counts.holder;
              nothing_own = k.counts.nothing_own;
            };
      }
  read_case false h =
      let none : k.tail ≡ [] = not_there k.tail (k.counts.there ∙ h) in
      record {
        front = k.front ++ R;
        early = k.early ++ R;
        tail = [];
        trail = trail_free start now X A clients begun locks own marked marked second number past distinct k (gives (unwrap_or second number)) h none;
        locking = k.locking;
        counts =
            record {
              faithful = true_more start now X A clients begun locks own marked marked second number past distinct k (gives (unwrap_or second number)) (k.counts.shown, tt);
              shown = last_more start now X A clients begun locks own marked marked second number past distinct k X (gives (unwrap_or second number)) ∙ k.counts.shown;
              starts = tt;
              there = sym h;
              holder = λ c l q.
                  subst (λ v. Holder v (own c) l) (sym (last_more start now X A clients begun locks own marked marked second number past distinct k k.front (gives (unwrap_or second number)))) (k.counts.holder c l q);
              nothing_own = k.counts.nothing_own;
            };
      }

  pub kept_read : Kept start (suc now) (X ++ R) (A ++ R) clients begun locks own marked second number
  kept_read = read_case (marked && someone locks) refl

-- A hard write takes its number.
module _ (start : ℤ) (now : ℕ) (X A : List Placed) (clients : ℕ → ClientState) (begun : ℕ → ℕ) (locks : ℕ → Option Lock)
    (own : ℕ → List Touch) (marked : Bool) (second : Option ℤ) (number v : ℤ)
    (past : (c : ℕ) → is_open (clients c) ≡ true → begun c < now)
    (distinct : (c d : ℕ) → is_open (clients c) ≡ true → is_open (clients d) ≡ true → begun c ≡ begun d → c ≡ d)
    (k : Kept start now X A clients begun locks own marked second number) where
  abbrev W : List Placed
  W = record { touch = takes v; behind = holders_of (marked || someone locks) locks begun } ∷ []

  shown_after : (o : Option ℤ) → v ≡ unwrap_or (option_map (λ old. v) o) v
  shown_after None = refl
  shown_after (Some w) = refl

  present_after : (o : Option ℤ) → is_some (option_map (λ old. v) o) ≡ is_some o
  present_after None = refl
  present_after (Some w) = refl

  level_after : (o : Option ℤ) → is_some o ≡ true → option_map (λ old. v) o ≡ Some v
  level_after None h = never (cc)
  level_after (Some w) h = refl

  marked_now : (c : ℕ) (l : Lock) → locks c ≡ Some l → (marked || someone locks) ≡ true
  marked_now c l q = or_there marked (someone locks) (some_true 16 (λ d. is_some (locks d)) c (k.locking.below c (some_is (locks c) l q)) (some_is (locks c) l q))

  locking_written : Locking clients locks (marked || someone locks) (option_map (λ old. v) second) v
  locking_written =
      record {
        below = k.locking.below;
        held = λ c l q.
            let H = k.locking.held c l q in
            record {
              opened = H.opened;
              read_unchanged = H.read_unchanged;
              untaken = H.untaken;
              executing = H.executing;
              present = λ w. present_after second ∙ H.present w;
              level = λ w t. level_after second (H.present w);
              written = λ w t m. true_not_false (marked_now c l q) m;
            };
        single = k.locking.single;
        no_second = λ nobody. ap (option_map (λ old. v)) (k.locking.no_second nobody);
      }

  write_case : (b : Bool) → someone locks ≡ b →
      Kept start (suc now) (X ++ W) (A ++ W) clients begun locks own (marked || someone locks) (option_map (λ old. v) second) v
  write_case true h =
      record {
        front = k.front;
        early = k.early;
        tail = k.tail ++ W;
        trail = trail_behind start now X A clients begun locks own marked (marked || someone locks) second number past distinct k (takes v) (or_there marked (someone locks) h);
        locking = locking_written;
        counts =
            record {
              faithful = true_more start now X A clients begun locks own marked (marked || someone locks) second number past distinct k (takes v) tt;
              shown = last_more start now X A clients begun locks own marked (marked || someone locks) second number past distinct k X (takes v) ∙ shown_after second;
              starts = subst Starts (sym (touches_append k.tail W)) (starts_or_writes (touches k.tail) v k.counts.starts);
              there = there_more k.tail _ ∙ sym (ap (λ b. b && someone locks) (or_there marked (someone locks) h) ∙ h);
              holder = k.counts.holder;
              nothing_own = k.counts.nothing_own;
            };
      }
  write_case false h =
      let none : k.tail ≡ [] = not_there k.tail (k.counts.there ∙ and_right marked (someone locks) h) in
      record {
        front = k.front ++ W;
        early = k.early ++ W;
        tail = [];
        trail = trail_free start now X A clients begun locks own marked (marked || someone locks) second number past distinct k (takes v) (and_right (marked || someone locks) (someone locks) h) none;
        locking = locking_written;
        counts =
            record {
              faithful = true_more start now X A clients begun locks own marked (marked || someone locks) second number past distinct k (takes v) tt;
              shown = last_more start now X A clients begun locks own marked (marked || someone locks) second number past distinct k X (takes v) ∙ shown_after second;
              starts = tt;
              there = sym (and_right (marked || someone locks) (someone locks) h);
              holder = λ c l q. true_not_false (some_true 16 (λ d. is_some (locks d)) c (k.locking.below c (some_is (locks c) l q)) (some_is (locks c) l q)) h;
              nothing_own = k.counts.nothing_own;
            };
      }

  pub kept_write : Kept start (suc now) (X ++ W) (A ++ W) clients begun locks own (marked || someone locks) (option_map (λ old. v) second) v
  kept_write = write_case (someone locks) refl
