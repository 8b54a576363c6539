-- What every run keeps of one element: its trail; what is known of its locks, its mark, its second version and
-- its number in the table; and how these numbers follow from the trail.
use Rattle.std.proofs.Common.{◌≡◌, ℕ, suc, ◌<◌, Bool, true, false, cond, not, ◌&&◌, List, [], ◌∷◌, ℤ, is_some, Some, None, Option, unwrap_or, sym, refl, ap, subst, arith}
use Rattle.rules.specs.Scans.{some_below}
use Rattle.rules.specs.State.{is_write, for_writing}
use Rattle.rules.specs.declared.ClientState.{ClientState}
use Rattle.rules.specs.declared.ClientState.TheVariants.{Executing}
use Rattle.rules.specs.declared.Lock.{Lock}
use Rattle.law.specs.Record.{is_open}
use Rattle.law.proofs.Touches.{Touch, gives, takes, last, TrueTo, Placed, touches}
use Rattle.law.proofs.Trails.{Trail, Stays, trail_stays}

pub and_one : (b d : Bool) → d ≡ true → (b && d) ≡ b
and_one true d e = e
and_one false d e = refl

-- The holder's own touches are right from the base and end in its working copy, which is the base where it
-- has changed nothing.
pub record Holder (base : ℤ) (own : List Touch) (l : Lock) : Type 0 where
  pub faithful : TrueTo base own
  pub copied : last base own ≡ l.copy
  pub unchanged : l.changed ≡ false → l.copy ≡ base

-- What is known of a lock. While it is for writing, the second version is there; it is the table's number,
-- unless the copy was written back and no mark came since: then the table's number is the copy.
pub record Held (state : ClientState) (marked : Bool) (second : Option ℤ) (number : ℤ) (l : Lock) : Type 0 where
  pub opened : is_open state ≡ true
  pub read_unchanged : is_write l.kind ≡ false → l.changed ≡ false
  pub untaken : l.changed ≡ false → l.taken ≡ false
  pub executing : state ≡ Executing → l.taken ≡ false
  pub present : is_write l.kind ≡ true → is_some second ≡ true
  pub level : is_write l.kind ≡ true → (l.taken && not marked) ≡ false → second ≡ Some number
  pub written : is_write l.kind ≡ true → l.taken ≡ true → marked ≡ false → number ≡ l.copy

pub record Locking (clients : ℕ → ClientState) (locks : ℕ → Option Lock) (marked : Bool) (second : Option ℤ) (number : ℤ) : Type 0 where
  pub below : (c : ℕ) → is_some (locks c) ≡ true → c < 16
  pub held : (c : ℕ) (l : Lock) → locks c ≡ Some l → Held (clients c) marked second number l
  pub single : (c d : ℕ) (l : Lock) → locks c ≡ Some l → is_write l.kind ≡ true → (d ≡ c → ⊥) → locks d ≡ None
  pub no_second : ((c : ℕ) → for_writing (locks c) ≡ false) → second ≡ None

abbrev pub someone : (ℕ → Option Lock) → Bool
someone locks = some_below 16 (λ c. is_some (locks c))

-- A tail begins with a hard write.
abbrev pub Starts : List Touch → Type 0
Starts [] = Unit {0}
Starts (gives v ∷ ts) = ⊥
Starts (takes v ∷ ts) = Unit {0}

abbrev pub is_there : {X : Type 0} → List X → Bool
is_there [] = false
is_there (x ∷ xs) = true

pub record Counts (start : ℤ) (X front tail : List Placed) (clients : ℕ → ClientState) (locks : ℕ → Option Lock)
    (own : ℕ → List Touch) (marked : Bool) (second : Option ℤ) (number : ℤ) : Type 0 where
  pub faithful : TrueTo start (touches X)
  pub shown : last start (touches X) ≡ unwrap_or second number
  pub starts : Starts (touches tail)
  pub there : is_there tail ≡ (marked && someone locks)
  pub holder : (c : ℕ) (l : Lock) → locks c ≡ Some l → Holder (last start (touches front)) (own c) l
  pub nothing_own : (c : ℕ) → is_open (clients c) ≡ true → locks c ≡ None → own c ≡ []

pub record Kept (start : ℤ) (now : ℕ) (X A : List Placed) (clients : ℕ → ClientState) (begun : ℕ → ℕ) (locks : ℕ → Option Lock)
    (own : ℕ → List Touch) (marked : Bool) (second : Option ℤ) (number : ℤ) : Type 0 where
  pub front : List Placed
  pub early : List Placed
  pub tail : List Placed
  pub trail : Trail now X A front early tail (λ c. is_open (clients c)) begun (λ c. is_some (locks c))
  pub locking : Locking clients locks marked second number
  pub counts : Counts start X front tail clients locks own marked second number

pub never : {X : Type 0} → ◌≡◌ {A = ℕ} 0 1 → X
never z = absurd (omega arith)

pub true_not_false : {X : Type 0} {b : Bool} → b ≡ true → b ≡ false → X
true_not_false p q = never (cc)

pub there_is : (o : Option Lock) → is_some o ≡ true → (l : Lock) × (o ≡ Some l)
there_is None h = never (cc)
there_is (Some l) h = (l, refl)

pub is_none : (o : Option Lock) → is_some o ≡ false → o ≡ None
is_none None h = refl
is_none (Some l) h = never (cc)

pub some_is : (o : Option Lock) (l : Lock) → o ≡ Some l → is_some o ≡ true
some_is o l q = ap is_some q

-- A lock that is still there was not dropped.
pub not_dropped : (b : Bool) (o : Option Lock) (l : Lock) → cond b None o ≡ Some l → (b ≡ false) × (o ≡ Some l)
not_dropped true o l h = never (cc)
not_dropped false o l h = (refl, h)

pub starts_front : (b d : Bool) → (b && d) ≡ false → b ≡ true → d ≡ false
starts_front true d h e = h
starts_front false d h e = never (cc)

-- Where the tail is not empty, whatever it starts from it comes to the same; so it is right from any number.
pub starts_anywhere : (v w : ℤ) (ts : List Touch) → Starts ts → TrueTo v ts → TrueTo w ts
starts_anywhere v w [] s h = tt
starts_anywhere v w (gives x ∷ ts) s h = absurd s
starts_anywhere v w (takes x ∷ ts) s h = h

pub ends_alike : (v w : ℤ) (ts : List Touch) → Starts ts → is_there ts ≡ true → last v ts ≡ last w ts
ends_alike v w [] s h = never (cc)
ends_alike v w (gives x ∷ ts) s h = absurd s
ends_alike v w (takes x ∷ ts) s h = refl

pub there_touches : (xs : List Placed) → is_there (touches xs) ≡ is_there xs
there_touches [] = refl
there_touches (x ∷ xs) = refl

pub not_there : {X : Type 0} (xs : List X) → is_there xs ≡ false → xs ≡ []
not_there [] h = refl
not_there (x ∷ xs) h = never (cc)

-- Clients come into other states, or begin; the element's locks and numbers stay.
module _ (start : ℤ) (now : ℕ) (X A : List Placed) (clients clients' : ℕ → ClientState) (begun begun' : ℕ → ℕ) (locks : ℕ → Option Lock)
    (own own' : ℕ → List Touch) (marked : Bool) (second : Option ℤ) (number : ℤ)
    (stays : (c : ℕ) → is_open (clients' c) ≡ true → Stays now (is_open (clients c)) (is_open (clients' c)) (begun c) (begun' c) (is_some (locks c)) (is_some (locks c)))
    (holders : (c : ℕ) (l : Lock) → locks c ≡ Some l → (is_open (clients' c) ≡ true) × (clients' c ≡ Executing → clients c ≡ Executing))
    (owns : (c : ℕ) → is_some (locks c) ≡ true → own' c ≡ own c)
    (news : (c : ℕ) → is_open (clients' c) ≡ true → locks c ≡ None → own' c ≡ []) where
  pub kept_clients : Kept start now X A clients begun locks own marked second number → Kept start (suc now) X A clients' begun' locks own' marked second number
  kept_clients k =
      let L = k.locking in
      let C = k.counts in
      record {
        front = k.front;
        early = k.early;
        tail = k.tail;
        trail = trail_stays now X A (λ c. is_open (clients c)) (λ c. is_open (clients' c)) begun begun' (λ c. is_some (locks c)) (λ c. is_some (locks c)) stays k.front k.early k.tail k.trail;
        locking =
            record {
              below = L.below;
              held = λ c l q.
                  let H = L.held c l q in
                  record {
                    opened = (holders c l q).0;
                    read_unchanged = H.read_unchanged;
                    untaken = H.untaken;
                    executing = λ x. H.executing ((holders c l q).1 x);
                    present = H.present;
                    level = H.level;
                    written = H.written;
                  };
              single = L.single;
              no_second = L.no_second;
            };
        counts =
            record {
              faithful = C.faithful;
              shown = C.shown;
              starts = C.starts;
              there = C.there;
              holder = λ c l q. subst (λ ts. Holder (last start (touches k.front)) ts l) (sym (owns c (some_is (locks c) l q))) (C.holder c l q);
              nothing_own = news;
            };
      }
