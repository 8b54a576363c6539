-- What the rules of tables say of an image.
use Rattle.std.proofs.Common.{◌≡◌, ℕ, zero, suc, ◌+◌, ◌*◌, ◌/◌, ◌%◌, ◌<◌, ◌≤◌, Bool, true, false, cond, not, ◌&&◌, ltb, ◌≢◌, ◌⊎◌, List, [], ◌∷◌, ◌++◌, length, get_or, take, drop, set, ℤ, pos, negsuc, Ok, Err, sym, refl, ap, ◌∙◌, inl, inr, arith, mul-zero, w16, to_z, of_z}
use lib.Signed.{lt_z}
use Rattle.std.specs.Simd.{first_chunks}
use Rattle.std.proofs.lemmas.List.{get_or-take, get_or-drop, drop-drop, length-set, get_or-set_same, get_or-set_other, same_lists}
use Rattle.std.proofs.lemmas.Bool.{lt-ltb, le-ltb, cond-true, cond-false, ltb-true, and_parts, and_left, and_from, cases_eq}
use Rattle.plant.specs.declared.refusals.Refusal.TheVariants.{NoSuchElement}
use Rattle.plant.proofs.Readings.{read_below}
use Rattle.plant.specs.Meaning.{has, within, get_answer, put_answer, put_meaning, with_number}
use Rattle.plant.specs.ByteTable.{word_at, image_count, cell_place, signed_16, bits_16, cell_number, first_values, length_first_values, image_meaning, with_cell, bytes_after_put}

pub get_or_first_values : (n : ℕ) (f : ℕ → ℤ) (k : ℕ) (d : ℤ) → k < n → get_or (first_values n f) k d ≡ f k
unfolding first_values
get_or_first_values zero f k d h = absurd (omega arith)
get_or_first_values (suc n) f zero d h = refl
get_or_first_values (suc n) f (suc k) d h = get_or_first_values n (λ j. f (suc j)) k d (omega arith)

-- Two functions that differ at one place give lists that differ at that place.
pub first_values_set : (m n : ℕ) (f g : ℕ → ℤ) (e : ℕ) (v : ℤ) → m ≡ n → e < n → g e ≡ v → ((k : ℕ) → k ≢ e → g k ≡ f k)
    → first_values m g ≡ set (first_values n f) e v
first_values_set m n f g e v size lt here others =
    same_lists _ _
    (length_first_values m g ∙ size ∙ sym (length-set (first_values n f) e v ∙ length_first_values n f))
    (λ k d h. at k d (omega (arith, length_first_values m g)) (cases_eq k e)) where
      at : (k : ℕ) (d : ℤ) → k < m → (k ≡ e) ⊎ (k ≡ e → ⊥) → get_or (first_values m g) k d ≡ get_or (set (first_values n f) e v) k d
      at k d h (inl same) =
          let inside : e < length (first_values n f) = rw length_first_values lt in
          get_or_first_values m g k d h ∙ ap g same ∙ here
          ∙ sym (ap (λ (i : ℕ). get_or (set (first_values n f) e v) i d) same ∙ get_or-set_same (first_values n f) e v d inside)
      at k d h (inr apart) =
          get_or_first_values m g k d h ∙ others k apart
          ∙ sym (get_or-set_other (first_values n f) e k v d apart ∙ get_or_first_values n f k d (omega arith))

-- The machine's reading of 16 bits is the one that the rules state, and so is the way back.
pub signed_is : (n : ℕ) → n < 65_536 → to_z w16 n ≡ signed_16 n
signed_is n h = grind arith

pub bits_is : (v : ℤ) → of_z w16 v ≡ bits_16 v
bits_is (pos n) = refl
bits_is (negsuc n) = omega arith

-- A number within 16 signed bits is read back from its bits.
pub bits_back : (v : ℤ) → not (lt_z v (negsuc 32_767)) ≡ true → not (lt_z (pos 32_767) v) ≡ true → (bits_16 v < 65_536) × (signed_16 (bits_16 v) ≡ v)
bits_back (pos n) l h = (grind arith, grind arith)
bits_back (negsuc n) l h = (grind arith, grind arith)

-- Chunk e of m elements each begins at element m times e.
pub get_or-first_chunks : {X : Type 0} (m n e : ℕ) (xs : List X) (d : List X) → e < n → get_or (first_chunks m n xs) e d ≡ take m (drop (m * e) xs)
get_or-first_chunks m zero e xs d h = absurd (omega arith)
get_or-first_chunks m (suc n) zero xs d h = rw mul-zero refl
get_or-first_chunks m (suc n) (suc e) xs d h =
    let next : m + m * e ≡ m * suc e = grind arith in
    get_or-first_chunks m n e (drop m xs) d (omega arith) ∙ ap (take m) (drop-drop (m * e) m xs ∙ ap (λ (k : ℕ). drop k xs) next)

-- A cell is read as the word that the rules state.
pub cell_word : (bs cell : List ℕ) (e : ℕ) → cell ≡ take 2 (drop (2 * e) (drop 2 bs)) → get_or cell 0 0 * 256 + get_or cell 1 0 ≡ word_at bs (cell_place e)
cell_word bs cell e is =
    let high = byte 0 (cell_place e) (omega arith) (omega arith) in
    let low = byte 1 (cell_place e + 1) (omega arith) (omega arith) in
    omega arith where
      byte : (k i : ℕ) → k < 2 → 2 + (2 * e + k) ≡ i → get_or cell k 0 ≡ get_or bs i 0
      byte k i h at =
          ap (λ (l : List ℕ). get_or l k 0) is ∙ get_or-take 2 (drop (2 * e) (drop 2 bs)) k 0 h ∙ get_or-drop (2 * e) (drop 2 bs) k 0
          ∙ get_or-drop 2 bs (2 * e + k) 0 ∙ ap (λ (j : ℕ). get_or bs j 0) at

-- Two elements written in a row.
pub write_two : {X : Type 0} (xs : List X) (p : ℕ) (x y : X) → suc p < length xs → take p xs ++ ((x ∷ y ∷ []) ++ drop 2 (drop p xs)) ≡ set (set xs p x) (suc p) y
write_two [] p x y h = absurd (omega arith)
write_two (a ∷ []) p x y h = absurd (omega arith)
write_two (a ∷ b ∷ xs) zero x y h = refl
write_two (a ∷ b ∷ xs) (suc p) x y h = ap (λ l. a ∷ l) (write_two (b ∷ xs) p x y (omega arith))

-- An element that the image has lies in its bytes.
pub has_cell : (bs : List ℕ) (e : ℕ) → e < image_count bs → 3 + 2 * e < length bs
has_cell bs e h = grind arith

-- An element that was read is one that the image has.
pub got_below : (bs : List ℕ) (e : ℕ) (v : ℤ) → Ok v ≡ get_answer (image_meaning bs) e → e < image_count bs
got_below bs e v h = let below = read_below (image_meaning bs) e v h in omega (arith, length_first_values (image_count bs) (cell_number bs))

pub get_is_cell : (bs : List ℕ) (e : ℕ) → e < image_count bs → get_answer (image_meaning bs) e ≡ Ok (cell_number bs e)
get_is_cell bs e h =
    let lt : e < length (first_values (image_count bs) (cell_number bs)) = rw length_first_values h in
    cond-true (has (image_meaning bs) e) (Ok (get_or (first_values (image_count bs) (cell_number bs)) e (pos 0))) _ (lt-ltb _ _ lt)
    ∙ ap (λ (v : ℤ). Ok v) (get_or_first_values (image_count bs) (cell_number bs) e (pos 0) h)

-- A write to one cell leaves the length, and every byte outside the cell.
pub with_cell_length : (bs : List ℕ) (e : ℕ) (v : ℤ) → length (with_cell bs e v) ≡ length bs
with_cell_length bs e v = simp length-set

pub with_cell_other : (bs : List ℕ) (e : ℕ) (v : ℤ) (k : ℕ) → k ≢ cell_place e → k ≢ cell_place e + 1 → get_or (with_cell bs e v) k 0 ≡ get_or bs k 0
with_cell_other bs e v k p q = rw (get_or-set_other, get_or-set_other)

-- So the count stays.
pub with_cell_count : (bs : List ℕ) (e : ℕ) (v : ℤ) → image_count (with_cell bs e v) ≡ image_count bs
with_cell_count bs e v =
    let l = with_cell_length bs e v in
    let a = with_cell_other bs e v 0 (λ h. omega arith) (λ h. omega arith) in
    let b = with_cell_other bs e v 1 (λ h. omega arith) (λ h. omega arith) in
    cc

-- The cell that was written holds the number, and every other cell what it held.
pub with_cell_same : (bs : List ℕ) (e : ℕ) (v : ℤ) → 3 + 2 * e < length bs → within (image_meaning bs) v ≡ true → cell_number (with_cell bs e v) e ≡ v
with_cell_same bs e v h w =
    let high : get_or (with_cell bs e v) (cell_place e) 0 ≡ bits_16 v / 256 =
    let apart : cell_place e ≢ cell_place e + 1 = λ q. omega arith in
    let lt : cell_place e < length bs = omega arith in
    rw (get_or-set_other, get_or-set_same) in
    let low : get_or (with_cell bs e v) (cell_place e + 1) 0 ≡ bits_16 v % 256 =
    let lt : cell_place e + 1 < length (set bs (cell_place e) (bits_16 v / 256)) = rw length-set (omega arith) in
    rw get_or-set_same in
    let word : word_at (with_cell bs e v) (cell_place e) ≡ bits_16 v = omega arith in
    let inside = and_parts _ _ w in
    ap signed_16 word ∙ (bits_back v inside.0 inside.1).1

pub with_cell_others : (bs : List ℕ) (e : ℕ) (v : ℤ) (k : ℕ) → k ≢ e → cell_number (with_cell bs e v) k ≡ cell_number bs k
with_cell_others bs e v k ne =
    let a = with_cell_other bs e v (cell_place k) (λ h. ne (omega arith)) (λ h. omega arith) in
    let b = with_cell_other bs e v (cell_place k + 1) (λ h. omega arith) (λ h. ne (omega arith)) in
    cc

-- A put is a write to one cell, or nothing.
pub with_cell_meaning : (bs : List ℕ) (e : ℕ) (v : ℤ) → e < image_count bs → within (image_meaning bs) v ≡ true
    → image_meaning (with_cell bs e v) ≡ with_number (image_meaning bs) e v
with_cell_meaning bs e v h w =
    ap (λ (ns : List ℤ). record { numbers = ns; lowest = negsuc 32_767; highest = pos 32_767 })
    (first_values_set _ (image_count bs) (cell_number bs) (cell_number (with_cell bs e v)) e v
    (with_cell_count bs e v) h (with_cell_same bs e v (has_cell bs e h) w) (with_cell_others bs e v))

pub has_is : (bs : List ℕ) (e : ℕ) → has (image_meaning bs) e ≡ ltb e (image_count bs)
has_is bs e = ap (ltb e) (length_first_values _ _)

pub put_by_cases : (bs : List ℕ) (e : ℕ) (v : ℤ) (b c : Bool) → (b ≡ true → e < image_count bs) → (c ≡ true → within (image_meaning bs) v ≡ true)
    → image_meaning (cond (b && c) (with_cell bs e v) bs) ≡ cond b (cond c (with_number (image_meaning bs) e v) (image_meaning bs)) (image_meaning bs)
put_by_cases bs e v true true h w = with_cell_meaning bs e v (h refl) (w refl)
put_by_cases bs e v true false h w = refl
put_by_cases bs e v false c h w = refl

pub put_is_bytes : (bs : List ℕ) (e : ℕ) (v : ℤ) → image_meaning (bytes_after_put bs e v) ≡ put_meaning (image_meaning bs) e v
put_is_bytes bs e v =
    put_by_cases bs e v (has (image_meaning bs) e) (within (image_meaning bs) v)
    (λ t. ltb-true e _ (sym (has_is bs e) ∙ t)) (λ t. t)

-- Which elements the image has, by its count.
pub has_not : (bs : List ℕ) (e : ℕ) → image_count bs ≤ e → has (image_meaning bs) e ≡ false
has_not bs e h = has_is bs e ∙ le-ltb e _ h

pub has_so : (bs : List ℕ) (e : ℕ) → e < image_count bs → has (image_meaning bs) e ≡ true
has_so bs e h = has_is bs e ∙ lt-ltb e _ h

pub get_none : (bs : List ℕ) (e : ℕ) → image_count bs ≤ e → get_answer (image_meaning bs) e ≡ Err NoSuchElement
get_none bs e h = cond-false _ _ _ (has_not bs e h)

pub put_none : (bs : List ℕ) (e : ℕ) (v : ℤ) → image_count bs ≤ e → (put_answer (image_meaning bs) e v ≡ Err NoSuchElement) × (bytes_after_put bs e v ≡ bs)
put_none bs e v h = let no = has_not bs e h in (cond-false _ _ _ no, cond-false _ _ _ (and_left _ _ no))

pub put_done : (bs : List ℕ) (e : ℕ) (v : ℤ) → e < image_count bs → within (image_meaning bs) v ≡ true → (put_answer (image_meaning bs) e v ≡ Ok tt) × (bytes_after_put bs e v ≡ with_cell bs e v)
put_done bs e v h w = (cond-true _ _ _ (has_so bs e h) ∙ cond-true _ _ _ w, cond-true _ _ _ (and_from _ _ (has_so bs e h) w))

-- The two bytes that the machine makes of a number are the two that the rules state.
pub bytes_of : (v : ℤ) → bits_16 v < 65_536 → (of_z w16 v / 256 % 256 ≡ bits_16 v / 256) × (of_z w16 v % 256 ≡ bits_16 v % 256)
bytes_of v h = let is = bits_is v in (omega arith, omega arith)

-- A number that is written into an element's two bytes leaves what the rules of a put state.
pub put_written : (bs ws : List ℕ) (e p n : ℕ) (v : ℤ) → p ≡ cell_place e → n ≡ 2 → e < image_count bs → within (image_meaning bs) v ≡ true
    → ws ≡ (of_z w16 v / 256 % 256) ∷ (of_z w16 v % 256) ∷ [] → take p bs ++ (ws ++ drop n (drop p bs)) ≡ bytes_after_put bs e v
put_written bs ws e p n v place two there inside word =
    let limits = and_parts _ _ inside in
    let halves = bytes_of v (bits_back v limits.0 limits.1).0 in
    let long : suc (cell_place e) < length bs = let last = has_cell bs e there in omega arith in
    let wrote = write_two bs (cell_place e) (bits_16 v / 256) (bits_16 v % 256) long in
    let next : suc (cell_place e) ≡ cell_place e + 1 = omega arith in
    rw (place, two, word, halves.0, halves.1) (wrote ∙ ap (λ (i : ℕ). set (set bs (cell_place e) (bits_16 v / 256)) i (bits_16 v % 256)) next ∙ sym (put_done bs e v there inside).1)
