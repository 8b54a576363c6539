-- Items cut from the front of some bytes.
use Rattle.std.proofs.Common.{◌≡◌, ◌≢◌, ℕ, suc, ◌+◌, ◌-◌, ◌<◌, ◌≤◌, min, Bool, true, false, cond, not, ◌||◌, eqb, List, [], ◌∷◌, length, get_or, take, drop, slice_get, ℤ, Some, Option, sym, refl, ap, ◌∙◌, arith}
use Rattle.std.specs.List.{prefix_len}
use Rattle.std.proofs.lemmas.List.{at_drop_all, drop-drop, take_rest}
use Rattle.std.proofs.lemmas.List.Folds.{length-prefix_len}
use Rattle.std.proofs.lemmas.Bool.{cond-true, eqb-false, ne_eqb}
use Rattle.items.specs.Numerals.{number_of}
use Rattle.items.specs.Items.{opening, closing, is_in_run, run_of, spaces_of, mark_by, run_mark, items, items_from}

-- a place that is written in two ways
at_place : (w : Bool) (p q : ℕ) (bs : List ℕ) → p ≡ q → items w p bs ≡ items w q bs
at_place w p q bs e = ap (λ x. items w x bs) e

-- the same bytes, behind one more
drop_on : (n : ℕ) (b : ℕ) (bs : List ℕ) → drop (1 + n) (b ∷ bs) ≡ drop n bs
drop_on n b bs = let more : 1 + n ≡ suc n = omega arith in ap (λ x. drop x (b ∷ bs)) more

-- what a byte does to the items, by what it is
by_byte : (w : Bool) (p b : ℕ) (bs : List ℕ) (t u v : Bool) → eqb b 32 ≡ t → eqb b 40 ≡ u → eqb b 41 ≡ v → items w p (b ∷ bs) ≡
    cond t (items false (p + 1) bs)
    (cond u ((p, opening) ∷ items false (p + 1) bs)
    (cond v ((p, closing) ∷ items false (p + 1) bs)
    (cond w (items true (p + 1) bs) ((p, run_mark (run_of (b ∷ bs))) ∷ items true (p + 1) bs))))
by_byte w p b bs t u v q r s = rw (← q, ← r, ← s) refl

-- nothing is left behind the end
pub spaces_end : (xs : List ℕ) (i : ℕ) → length xs ≤ i → spaces_of (drop i xs) ≡ 0
spaces_end xs i h = at_drop_all spaces_of xs i h

pub run_end : (xs : List ℕ) (i : ℕ) → length xs ≤ i → length (run_of (drop i xs)) ≡ 0
run_end xs i h = at_drop_all (λ l. length (run_of l)) xs i h

-- spaces in front are no items
skip_by : (p b : ℕ) (bs : List ℕ) (t : Bool) → eqb b 32 ≡ t →
    items false (p + 1) bs ≡ items false (p + 1 + spaces_of bs) (drop (spaces_of bs) bs) →
    items false p (b ∷ bs) ≡ items false (p + cond t (1 + spaces_of bs) 0) (drop (cond t (1 + spaces_of bs) 0) (b ∷ bs))
skip_by p b bs true q h =
    cond-true (eqb b 32) _ _ q ∙ h ∙ at_place false _ _ (drop (spaces_of bs) bs) (omega arith) ∙
    ap (items false (p + (1 + spaces_of bs))) (sym (drop_on (spaces_of bs) b bs))
skip_by p b bs false q h = at_place false _ _ (b ∷ bs) (omega arith)

pub skip : (p : ℕ) (bs : List ℕ) → items false p bs ≡ items false (p + spaces_of bs) (drop (spaces_of bs) bs)
skip p [] = at_place false _ _ [] (omega arith)
skip p (b ∷ bs) = skip_by p b bs (eqb b 32) refl (skip (p + 1) bs)

-- where spaces are skipped, none stands
stop_by : (b : ℕ) (bs : List ℕ) (t : Bool) → eqb b 32 ≡ t → slice_get (drop (spaces_of bs) bs) 0 ≢ Some 32 →
    slice_get (drop (cond t (1 + spaces_of bs) 0) (b ∷ bs)) 0 ≢ Some 32
stop_by b bs true q h = λ e. h (ap (λ l. slice_get l 0) (sym (drop_on (spaces_of bs) b bs)) ∙ e)
stop_by b bs false q h = λ e. let k : b ≡ 32 = cc in let n = eqb-false b 32 q in n k

pub stopped : (bs : List ℕ) → slice_get (drop (spaces_of bs) bs) 0 ≢ Some 32
stopped [] = λ e. cc
stopped (b ∷ bs) = stop_by b bs (eqb b 32) refl (stopped bs)

-- behind a run's first byte its other bytes are passed over
abbrev run_length : List ℕ → ℕ
run_length bs = prefix_len is_in_run bs

pass_by : (p b : ℕ) (bs : List ℕ) (t u v : Bool) → eqb b 32 ≡ t → eqb b 40 ≡ u → eqb b 41 ≡ v →
    items true (p + 1) bs ≡ items false (p + 1 + run_length bs) (drop (run_length bs) bs) →
    items true p (b ∷ bs) ≡ items false (p + cond (not (t || (u || v))) (1 + run_length bs) 0) (drop (cond (not (t || (u || v))) (1 + run_length bs) 0) (b ∷ bs))
pass_by p b bs true u v q r s h = by_byte true p b bs true u v q r s ∙ sym (at_place false (p + 0) p (b ∷ bs) (omega arith) ∙ by_byte false p b bs true u v q r s)
pass_by p b bs false true v q r s h = by_byte true p b bs false true v q r s ∙ sym (at_place false (p + 0) p (b ∷ bs) (omega arith) ∙ by_byte false p b bs false true v q r s)
pass_by p b bs false false true q r s h = by_byte true p b bs false false true q r s ∙ sym (at_place false (p + 0) p (b ∷ bs) (omega arith) ∙ by_byte false p b bs false false true q r s)
pass_by p b bs false false false q r s h =
    by_byte true p b bs false false false q r s ∙ h ∙ at_place false _ _ (drop (run_length bs) bs) (omega arith) ∙
    ap (items false (p + (1 + run_length bs))) (sym (drop_on (run_length bs) b bs))

pass : (p : ℕ) (bs : List ℕ) → items true p bs ≡ items false (p + run_length bs) (drop (run_length bs) bs)
pass p [] = at_place false _ _ [] (omega arith)
pass p (b ∷ bs) = pass_by p b bs (eqb b 32) (eqb b 40) (eqb b 41) refl refl refl (pass (p + 1) bs)

-- bytes that begin with neither space nor bracket begin with a run
pub run_first : (p : ℕ) (bs : List ℕ) (r : Option ℤ) → 0 < length bs → slice_get bs 0 ≢ Some 32 → get_or bs 0 0 ≢ 40 → get_or bs 0 0 ≢ 41 → r ≡ number_of (run_of bs) →
    items false p bs ≡ (p, mark_by (run_of bs) r) ∷ items false (p + length (run_of bs)) (drop (length (run_of bs)) bs)
run_first p [] r h n o l e = absurd (omega arith)
run_first p (b ∷ bs) r h n o l e =
    let s = ne_eqb b 32 (λ k. n (ap Some k)) in
    let u = ne_eqb b 40 o in
    let v = ne_eqb b 41 l in
    let one : run_length (b ∷ bs) ≡ 1 + run_length bs = rw (s, u, v) refl in
    let long : length (run_of (b ∷ bs)) ≡ 1 + run_length bs = length-prefix_len is_in_run (b ∷ bs) ∙ one in
    by_byte false p b bs false false false s u v ∙
    ap (λ m. (p, m) ∷ items true (p + 1) bs) (ap (mark_by (run_of (b ∷ bs))) (sym e)) ∙
    ap (λ its. (p, mark_by (run_of (b ∷ bs)) r) ∷ its)
    (pass (p + 1) bs ∙ at_place false _ _ (drop (run_length bs) bs) (omega arith) ∙
    ap (items false (p + length (run_of (b ∷ bs)))) (sym (drop_on (run_length bs) b bs) ∙ ap (λ x. drop x (b ∷ bs)) (sym long)))

-- what is left of a line from an offset, once the spaces there are skipped
module _ (line : List ℕ) (offset from s : ℕ) (within : from ≡ min offset (length line)) (spaces : s ≡ spaces_of (take (length line - from) (drop from line))) where
  behind_spaces : drop (spaces_of (drop from line)) (drop from line) ≡ take (length line - (from + s)) (drop (from + s) line)
  behind_spaces =
      drop-drop (spaces_of (drop from line)) from line ∙ ap (λ n. drop (from + n) line) (sym (spaces ∙ ap spaces_of (take_rest line from))) ∙
      sym (take_rest line (from + s))

  pub no_space : slice_get (take (length line - (from + s)) (drop (from + s) line)) 0 ≢ Some 32
  no_space = λ e. stopped (drop from line) (ap (λ l. slice_get l 0) behind_spaces ∙ e)

  pub skipped : items_from line offset ≡ items false (from + s + 1) (take (length line - (from + s)) (drop (from + s) line))
  skipped =
      ap (λ n. items false (n + 1) (drop n line)) (sym within) ∙ skip (from + 1) (drop from line) ∙
      ap (items false (from + 1 + spaces_of (drop from line))) behind_spaces ∙
      at_place false _ _ (take (length line - (from + s)) (drop (from + s) line)) (omega (arith, spaces ∙ ap spaces_of (take_rest line from)))

-- what is left behind an item
pub left_behind : (line : List ℕ) (at long n : ℕ) → n ≡ long → at + long ≤ length line →
    items false (at + 1 + long) (drop long (take (length line - at) (drop at line))) ≡ items_from line (at + n)
left_behind line at long n e h =
    let within : min (at + n) (length line) ≡ at + long = omega arith in
    ap (λ l. items false (at + 1 + long) (drop long l)) (take_rest line at) ∙ ap (items false (at + 1 + long)) (drop-drop long at line) ∙
    at_place false _ _ (drop (at + long) line) (omega arith) ∙ ap (λ m. items false (m + 1) (drop m line)) (sym within)
