-- The trail of one element: what the order does to it, split into a front and a tail. The tail are the
-- accesses since the element was marked: they stand behind every transaction that holds the element now, and
-- the front stands behind no open transaction. This file knows nothing of numbers or kinds of locks.
use Rattle.std.proofs.Common.{◌≡◌, ℕ, suc, ◌≤◌, Bool, true, false, not, List, [], ◌∷◌, ◌++◌, sym, refl, ap, ◌∙◌, subst, arith}
use Rattle.std.proofs.lemmas.List.{append_assoc, append-nil}
use Rattle.law.specs.Order.{those_that}
use Rattle.law.proofs.Filters.{Each, each_append, each_front, each_back, each_weaker, those_append, those_none, those_all}
use Rattle.law.proofs.Touches.{Placed, Touch, placed, each_placed}

-- It stands behind no open transaction.
abbrev pub Quiet : (ℕ → Bool) → (ℕ → ℕ) → Placed → Type 0
Quiet open' begun x = (c : ℕ) → open' c ≡ true → x.behind (begun c) ≡ false

-- It stands behind those open transactions whose clients hold the element.
abbrev pub Follows : (ℕ → Bool) → (ℕ → ℕ) → (ℕ → Bool) → Placed → Type 0
Follows open' begun held x = (c : ℕ) → open' c ≡ true → x.behind (begun c) ≡ held c

-- It stands behind no transaction that is still to begin.
abbrev pub Settled : ℕ → Placed → Type 0
Settled now x = (b : ℕ) → now ≤ b → x.behind b ≡ false

pub record Trail (now : ℕ) (X A front early tail : List Placed) (open' : ℕ → Bool) (begun : ℕ → ℕ) (held : ℕ → Bool) : Type 0 where
  pub order_is : X ≡ front ++ tail
  pub accesses_are : A ≡ early ++ tail
  pub front_quiet : Each (Quiet open' begun) front
  pub early_quiet : Each (Quiet open' begun) early
  pub tail_follows : Each (Follows open' begun held) tail
  pub order_settled : Each (Settled now) X
  pub accesses_settled : Each (Settled now) A

each_both : {X : Type 0} (P Q : X → Type 0) (xs : List X) → Each P xs → Each Q xs → Each (λ x. P x × Q x) xs
each_both P Q [] a b = tt
each_both P Q (x ∷ xs) a b = ((a.0, b.0), each_both P Q xs a.1 b.1)

pub later : (now : ℕ) (xs : List Placed) → Each (Settled now) xs → Each (Settled (suc now)) xs
later now xs = each_weaker (Settled now) (Settled (suc now)) xs (λ x s b l. s b (omega arith))

-- How the clients may have changed: an open client was open, with the same transaction, or has just begun.
pub data Stays (now : ℕ) (was is : Bool) (begun begun' : ℕ) (held held' : Bool) : Type 0 where
  same : was ≡ true → begun' ≡ begun → held' ≡ held → Stays now was is begun begun' held held'
  fresh : begun' ≡ now → held' ≡ false → Stays now was is begun begun' held held'

module _ (now : ℕ) (X A : List Placed) (was is : ℕ → Bool) (begun begun' : ℕ → ℕ) (held held' : ℕ → Bool)
    (stays : (c : ℕ) → is c ≡ true → Stays now (was c) (is c) (begun c) (begun' c) (held c) (held' c)) where
  quiet_stays : (xs : List Placed) → Each (Quiet was begun) xs → Each (Settled now) xs → Each (Quiet is begun') xs
  quiet_stays xs q s =
      each_weaker (λ x. Quiet was begun x × Settled now x) (Quiet is begun') xs
      (λ x both c o. elim (stays c o)
      [ same w b h ↦ (rw b (both.0 c w)) | fresh b h ↦ (rw b (both.1 now (omega arith))) ])
      (each_both (Quiet was begun) (Settled now) xs q s)

  follows_stays : (xs : List Placed) → Each (Follows was begun held) xs → Each (Settled now) xs → Each (Follows is begun' held') xs
  follows_stays xs q s =
      each_weaker (λ x. Follows was begun held x × Settled now x) (Follows is begun' held') xs
      (λ x both c o. elim (stays c o)
      [ same w b h ↦ (rw (b, h) (both.0 c w)) | fresh b h ↦ (rw (b, h) (both.1 now (omega arith))) ])
      (each_both (Follows was begun held) (Settled now) xs q s)

  -- The split stays.
  pub trail_stays : (front early tail : List Placed) → Trail now X A front early tail was begun held → Trail (suc now) X A front early tail is begun' held'
  trail_stays front early tail t =
      let xs : Each (Settled now) (front ++ tail) = subst (Each (Settled now)) t.order_is t.order_settled in
      let ys : Each (Settled now) (early ++ tail) = subst (Each (Settled now)) t.accesses_are t.accesses_settled in
      record {
        order_is = t.order_is;
        accesses_are = t.accesses_are;
        front_quiet = quiet_stays front t.front_quiet (each_front (Settled now) front tail xs);
        early_quiet = quiet_stays early t.early_quiet (each_front (Settled now) early tail ys);
        tail_follows = follows_stays tail t.tail_follows (each_back (Settled now) front tail xs);
        order_settled = later now X t.order_settled;
        accesses_settled = later now A t.accesses_settled;
      }

-- Where nobody holds the element, its tail is quiet too and goes to the front.
pub trail_closes : (now : ℕ) (X A front early tail : List Placed) (is : ℕ → Bool) (begun : ℕ → ℕ) (held : ℕ → Bool) →
    ((c : ℕ) → is c ≡ true → held c ≡ false) → Trail now X A front early tail is begun held → Trail now X A X A [] is begun held
trail_closes now X A front early tail is begun held nobody t =
    let quiet : Each (Quiet is begun) tail = each_weaker (Follows is begun held) (Quiet is begun) tail (λ x f c o. f c o ∙ nobody c o) t.tail_follows in
    record {
      order_is = sym (append-nil X);
      accesses_are = sym (append-nil A);
      front_quiet = subst (Each (Quiet is begun)) (sym t.order_is) (each_append (Quiet is begun) front tail t.front_quiet quiet);
      early_quiet = subst (Each (Quiet is begun)) (sym t.accesses_are) (each_append (Quiet is begun) early tail t.early_quiet quiet);
      tail_follows = tt;
      order_settled = t.order_settled;
      accesses_settled = t.accesses_settled;
    }

-- An access that is put behind all, and stands behind the present holders, lengthens the tail.
pub trail_grows : (now : ℕ) (X A front early tail N : List Placed) (is : ℕ → Bool) (begun : ℕ → ℕ) (held : ℕ → Bool) →
    Each (Follows is begun held) N → Each (Settled (suc now)) N → Trail now X A front early tail is begun held →
    Trail (suc now) (X ++ N) (A ++ N) front early (tail ++ N) is begun held
trail_grows now X A front early tail N is begun held follows settled t =
    record {
      order_is = ap (λ xs. xs ++ N) t.order_is ∙ append_assoc front tail N;
      accesses_are = ap (λ xs. xs ++ N) t.accesses_are ∙ append_assoc early tail N;
      front_quiet = t.front_quiet;
      early_quiet = t.early_quiet;
      tail_follows = each_append (Follows is begun held) tail N t.tail_follows follows;
      order_settled = each_append (Settled (suc now)) X N (later now X t.order_settled) settled;
      accesses_settled = each_append (Settled (suc now)) A N (later now A t.accesses_settled) settled;
    }

-- Where there is no tail, an access that stands behind nothing lengthens the front.
pub trail_goes_on : (now : ℕ) (X A front early tail N : List Placed) (is : ℕ → Bool) (begun : ℕ → ℕ) (held : ℕ → Bool) →
    Each (Quiet is begun) N → Each (Settled (suc now)) N → Trail now X A front early tail is begun held → tail ≡ [] →
    Trail (suc now) (X ++ N) (A ++ N) (front ++ N) (early ++ N) [] is begun held
trail_goes_on now X A front early tail N is begun held quiet settled t none =
    record {
      order_is = ap (λ xs. xs ++ N) (t.order_is ∙ ap (λ xs. front ++ xs) none ∙ append-nil front) ∙ sym (append-nil (front ++ N));
      accesses_are = ap (λ xs. xs ++ N) (t.accesses_are ∙ ap (λ xs. early ++ xs) none ∙ append-nil early) ∙ sym (append-nil (early ++ N));
      front_quiet = each_append (Quiet is begun) front N t.front_quiet quiet;
      early_quiet = each_append (Quiet is begun) early N t.early_quiet quiet;
      tail_follows = tt;
      order_settled = each_append (Settled (suc now)) X N (later now X t.order_settled) settled;
      accesses_settled = each_append (Settled (suc now)) A N (later now A t.accesses_settled) settled;
    }

-- The end of the transaction b of a client that holds the element: the tail moves behind its own touches.
module _ (now : ℕ) (X A front early tail : List Placed) (is : ℕ → Bool) (begun : ℕ → ℕ) (held : ℕ → Bool) (c : ℕ) (opened : is c ≡ true)
    (t : Trail now X A front early tail is begun held) where
  front_stays : those_that (λ x. not (x.behind (begun c))) front ≡ front
  front_stays =
      those_all (λ x. not (x.behind (begun c))) front
      (each_weaker (Quiet is begun) (λ x. not (x.behind (begun c)) ≡ true) front (λ x q. ap not (q c opened)) t.front_quiet)

  early_stays : those_that (λ x. x.behind (begun c)) early ≡ []
  early_stays =
      those_none (λ x. x.behind (begun c)) early
      (each_weaker (Quiet is begun) (λ x. x.behind (begun c) ≡ false) early (λ x q. q c opened) t.early_quiet)

  pub holder_keeps : held c ≡ true → those_that (λ x. not (x.behind (begun c))) X ≡ front
  holder_keeps h =
      ap (those_that (λ x. not (x.behind (begun c)))) t.order_is ∙
      those_append (λ x. not (x.behind (begun c))) front tail ∙
      ap (λ xs. those_that (λ x. not (x.behind (begun c))) front ++ xs)
      (those_none (λ x. not (x.behind (begun c))) tail
      (each_weaker (Follows is begun held) (λ x. not (x.behind (begun c)) ≡ false) tail (λ x f. ap not (f c opened ∙ h)) t.tail_follows)) ∙
      append-nil (those_that (λ x. not (x.behind (begun c))) front) ∙ front_stays

  pub holder_moves : held c ≡ true → those_that (λ x. x.behind (begun c)) A ≡ tail
  holder_moves h =
      ap (those_that (λ x. x.behind (begun c))) t.accesses_are ∙
      those_append (λ x. x.behind (begun c)) early tail ∙
      ap (λ xs. xs ++ those_that (λ x. x.behind (begun c)) tail) early_stays ∙
      those_all (λ x. x.behind (begun c)) tail
      (each_weaker (Follows is begun held) (λ x. x.behind (begun c) ≡ true) tail (λ x f. f c opened ∙ h) t.tail_follows)

  pub other_keeps : held c ≡ false → those_that (λ x. not (x.behind (begun c))) X ≡ X
  other_keeps h =
      ap (those_that (λ x. not (x.behind (begun c)))) t.order_is ∙
      those_append (λ x. not (x.behind (begun c))) front tail ∙
      ap (λ xs. xs ++ those_that (λ x. not (x.behind (begun c))) tail) front_stays ∙
      ap (λ xs. front ++ xs)
      (those_all (λ x. not (x.behind (begun c))) tail
      (each_weaker (Follows is begun held) (λ x. not (x.behind (begun c)) ≡ true) tail (λ x f. ap not (f c opened ∙ h)) t.tail_follows)) ∙
      sym t.order_is

  pub other_moves : held c ≡ false → those_that (λ x. x.behind (begun c)) A ≡ []
  other_moves h =
      ap (those_that (λ x. x.behind (begun c))) t.accesses_are ∙
      those_append (λ x. x.behind (begun c)) early tail ∙
      ap (λ xs. xs ++ those_that (λ x. x.behind (begun c)) tail) early_stays ∙
      those_none (λ x. x.behind (begun c)) tail
      (each_weaker (Follows is begun held) (λ x. x.behind (begun c) ≡ false) tail (λ x f. f c opened ∙ h) t.tail_follows)

  -- The trail with the transaction's own touches put between front and tail.
  pub trail_ends : (own : List Touch) →
      Trail now (front ++ (placed (λ b. false) own ++ tail)) A (front ++ placed (λ b. false) own) early tail is begun held
  trail_ends own =
      let free : (P : Placed → Type 0) → ((x : Touch) → P (record { touch = x; behind = λ b. false })) → Each P (placed (λ b. false) own) = λ P f. each_placed P (λ b. false) own f in
      let xs : Each (Settled now) (front ++ tail) = subst (Each (Settled now)) t.order_is t.order_settled in
      record {
        order_is = sym (append_assoc front (placed (λ b. false) own) tail);
        accesses_are = t.accesses_are;
        front_quiet = each_append (Quiet is begun) front (placed (λ b. false) own) t.front_quiet (free (Quiet is begun) (λ x d o. refl));
        early_quiet = t.early_quiet;
        tail_follows = t.tail_follows;
        order_settled =
            each_append (Settled now) front (placed (λ b. false) own ++ tail) (each_front (Settled now) front tail xs)
            (each_append (Settled now) (placed (λ b. false) own) tail (free (Settled now) (λ x b l. refl)) (each_back (Settled now) front tail xs));
        accesses_settled = t.accesses_settled;
      }
