-- Lines as they are taken off a source, part by part.
use Rattle.std.proofs.Common.{◌≡◌, ◌≢◌, ◌↔◌, IsTrue, ℕ, zero, suc, ◌-◌, ◌≤◌, ◌<◌, ◌+◌, min, ⊎_elim, Bool, true, false, cond, ◌&&◌, not, true≢false, eq-eqb, eqb, length-append, length-take, List, [], ◌∷◌, ◌++◌, length, get_or, get_or-take, take, All, None, Some, Option, IfSome, Result, Ok, Err, is_ok, OnOk, take_all, refl, sym, ap, ◌∙◌, arith, append_assoc, append-nil}
use Rattle.std.proofs.lemmas.Bool.{ne_eqb, lt-ltb, cases_lt}
use lib.Seq.{take-append-add}
use Rattle.std.proofs.lemmas.List.Elements.{All-head, All-tail, All-append, All-from_get_or}
use Rattle.std.proofs.BufReadLemmas.{drop_through-append}
use Rattle.std.specs.Io.BufRead.{take_through, drop_through, strip_last, ends_with_byte, first_piece, DropsThrough}
use Rattle.std.specs.Io.KnownBytes.{Keeps, Consumes, IsAtEnd}

some_last : (x : ℕ) (xs : List ℕ) → ends_with_byte 10 (x ∷ xs) ≡ eqb (get_or (x ∷ xs) (length (x ∷ xs) - 1) 0) 10
some_last x xs = ap (λ b. b && eqb (get_or (x ∷ xs) (length (x ∷ xs) - 1) 0) 10) (lt-ltb 0 (length (x ∷ xs)) (omega arith))

strip_by : (b : Bool) (x n : ℕ) (t : List ℕ) → cond b (take (suc n) (x ∷ t)) (x ∷ t) ≡ x ∷ cond b (take n t) t
strip_by true x n t = refl
strip_by false x n t = refl

-- a byte in front stays in front
strip_more : (x : ℕ) (t : List ℕ) → eqb x 10 ≡ false → strip_last 10 (x ∷ t) ≡ x ∷ strip_last 10 t
strip_more x [] e = ap (λ b. cond b [] (x ∷ [])) e
strip_more x (y ∷ t) e =
    let k : length (x ∷ y ∷ t) - 1 ≡ suc (length (y ∷ t) - 1) = omega arith in
    ap (λ b. cond b (take (length (x ∷ y ∷ t) - 1) (x ∷ y ∷ t)) (x ∷ y ∷ t)) (some_last x (y ∷ t)) ∙
    ap (λ n. cond (eqb (get_or (x ∷ y ∷ t) n 0) 10) (take n (x ∷ y ∷ t)) (x ∷ y ∷ t)) k ∙ strip_by _ x (length (y ∷ t) - 1) (y ∷ t) ∙
    ap (λ b. x ∷ cond b (take (length (y ∷ t) - 1) (y ∷ t)) (y ∷ t)) (sym (some_last y t))

-- bytes that are no byte 10 stand at the front of a line
first_more : (xs ys : List ℕ) → All (λ b. b ≢ 10) xs → first_piece 10 (xs ++ ys) ≡ xs ++ first_piece 10 ys
first_more [] ys none = refl
first_more (x ∷ xs) ys none =
    let e = ne_eqb x 10 (All-head (λ b. b ≢ 10) x xs none) in
    ap (λ b. strip_last 10 (cond b (x ∷ []) (x ∷ take_through 10 (xs ++ ys)))) e ∙ strip_more x (take_through 10 (xs ++ ys)) e ∙
    ap (λ l. x ∷ l) (first_more xs ys (All-tail (λ b. b ≢ 10) x xs none))

-- what has room behind what is kept is all that may be kept
room_filled : (xs ys : List ℕ) (n : ℕ) → n ≡ min (121 - length xs) (length ys) → length xs ≤ 121 → xs ++ take n ys ≡ take 121 (xs ++ ys)
room_filled xs ys n is short = ⊎_elim part all (cases_lt (121 - length xs) (length ys))
  where
    part : 121 - length xs < length ys → xs ++ take n ys ≡ take 121 (xs ++ ys)
    part l = let full : length xs + n ≡ 121 = omega arith in sym (take-append-add xs ys n) ∙ ap (λ k. take k (xs ++ ys)) full

    all : length ys ≤ 121 - length xs → xs ++ take n ys ≡ take 121 (xs ++ ys)
    all l = ap (λ t. xs ++ t) (take_all n ys (omega arith)) ∙ sym (take_all 121 (xs ++ ys) (omega (arith, length-append xs ys)))

pub kept : {T E : Type 0} (r : Result T E) (old new bytes : List ℕ) (n : ℕ) → n ≡ min (121 - length old) (length bytes) → new ≡ cond (is_ok r) (old ++ take n bytes) old →
    OnOk r (length old ≤ 121 → new ≡ take 121 (old ++ bytes))
kept (Ok x) old new bytes n is e = λ short. e ∙ room_filled old bytes n is short
kept (Err x) old new bytes n is e = tt

pub kept_nothing : (l : List ℕ) → length l ≤ 121 → l ≡ take 121 (l ++ [])
kept_nothing l short = sym (ap (take 121) (append-nil l) ∙ take_all 121 l short)

take_front : (n : ℕ) (xs ys : List ℕ) → take n (take n xs ++ ys) ≡ take n (xs ++ ys)
take_front zero xs ys = refl
take_front (suc n) [] ys = refl
take_front (suc n) (x ∷ xs) ys = ap (λ l. x ∷ l) (take_front n xs ys)

-- a part is kept behind what was kept before it
pub kept_more : (done part old new : List ℕ) → old ≡ take 121 done → (length old ≤ 121 → new ≡ take 121 (old ++ part)) → new ≡ take 121 (done ++ part)
kept_more done part old new before now =
    now (omega (arith, ap length before, length-take 121 done)) ∙ ap (λ l. take 121 (l ++ part)) before ∙ take_front 121 done part

-- a source that shows nothing has nothing left
pub at_end : (a : Option (List ℕ)) (n : ℕ) → n ≡ 0 → IfSome a (λ xs. n ≡ 0 → xs ≡ []) → IsAtEnd a
at_end None n none end = tt
at_end (Some x) n none end = end none

pub none_before : (xs : List ℕ) (n : ℕ) → n ≤ length xs → ((k : ℕ) → k < n → get_or xs k 0 ≢ 10) → All (λ b. b ≢ 10) (take n xs)
none_before xs n within before = All-from_get_or (λ b. b ≢ 10) (take n xs) 0 (λ k l e.
    let l' : k < n = omega (arith, length-take n xs) in before k l' (sym (get_or-take n xs k 0 l') ∙ e))

-- a source whose line came to its byte 10
pub whole_line : (a b c : Option (List ℕ)) (done part line : List ℕ) → All (λ b. b ≢ 10) done → All (λ b. b ≢ 10) part → Consumes a b done → Consumes b c (part ++ 10 ∷ []) → line ≡ take 121 (done ++ part) →
    IfSome a (λ xs. line ≡ take 121 (first_piece 10 xs)) × IfSome a (λ xs. IsTrue true ↔ (xs ≢ [])) × DropsThrough a c 10
whole_line None b c done part line none none' p q is = (tt, tt, tt)
whole_line (Some x) None c done part line none none' p q is = absurd p
whole_line (Some x) (Some y) None done part line none none' p q is = absurd q
whole_line (Some x) (Some y) (Some z) done part line none none' p q is =
    let all = All-append (λ b. b ≢ 10) done part none none' in
    let read : x ≡ (done ++ part) ++ 10 ∷ z = p ∙ ap (λ l. done ++ l) (q ∙ append_assoc part (10 ∷ []) z) ∙ sym (append_assoc done part (10 ∷ z)) in (
      is ∙ ap (take 121) (sym (ap (first_piece 10) read ∙ first_more (done ++ part) (10 ∷ z) all ∙ append-nil (done ++ part))),
      (λ _ e. absurd (omega (arith, ap length (sym read ∙ e), length-append (done ++ part) (10 ∷ z))), λ _. refl),
      ap Some (sym (ap (drop_through 10) read ∙ drop_through-append 10 (done ++ part) (10 ∷ z) all)),
    )

pub some_kept : (none : Bool) (n : ℕ) (l : List ℕ) → n ≡ length l → none ≡ eqb n 0 → IsTrue (not none) ↔ (l ≢ [])
some_kept none n [] long is = (λ t. absurd (true≢false (sym t ∙ ap not (is ∙ eq-eqb n 0 long))), λ some. absurd (some refl))
some_kept none n (x ∷ xs) long is = (λ _ e. cc e, λ _. ap not (is ∙ ne_eqb n 0 (λ e. absurd (omega arith))))

-- a source that ended in a line, or before it
pub last_line : (a b c : Option (List ℕ)) (done line : List ℕ) (found : Bool) → All (λ b. b ≢ 10) done → Consumes a b done → IsAtEnd b → Keeps b c → line ≡ take 121 done →
    (IsTrue found ↔ (line ≢ [])) → IfSome a (λ xs. line ≡ take 121 (first_piece 10 xs)) × IfSome a (λ xs. IsTrue found ↔ (xs ≢ [])) × DropsThrough a c 10
last_line None b c done line found none p end kept is some = (tt, tt, tt)
last_line (Some x) None c done line found none p end kept is some = absurd p
last_line (Some x) (Some y) None done line found none p end kept is some = absurd kept
last_line (Some x) (Some y) (Some z) done line found none p end kept is some =
    let read : x ≡ done = p ∙ ap (λ l. done ++ l) end ∙ append-nil done in
    let first : first_piece 10 x ≡ done = ap (first_piece 10) p ∙ first_more done y none ∙ ap (λ l. done ++ first_piece 10 l) end ∙ append-nil done in (
      is ∙ ap (take 121) (sym first),
      (λ t e. some.0 t (is ∙ ap (take 121) (sym read ∙ e)), λ more. some.1 (λ e. more (read ∙ empty done (sym is ∙ e)))),
      ap Some (kept ∙ end ∙ sym (ap (drop_through 10) p ∙ drop_through-append 10 done y none ∙ ap (drop_through 10) end)),
    )
  where
    empty : (l : List ℕ) → take 121 l ≡ [] → l ≡ []
    empty [] e = refl
    empty (h ∷ t) e = absurd (omega (arith, ap length e, length-take 121 (h ∷ t)))
