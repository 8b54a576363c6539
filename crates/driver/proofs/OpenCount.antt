-- How many elements an open can ask for.
use Rattle.std.proofs.Common.{◌≡◌, ◌∙◌, ℕ, ◌≤◌, true, List, [], ◌∷◌, ℤ, pos, negsuc, None, Ok, unsigned_abs, arith}
use Rattle.std.proofs.lemmas.Bool.{and_parts, leb-true}
use Rattle.items.specs.Items.{Mark}
use Rattle.forms.specs.Forms.{in_range, blank, form_of}
use Rattle.forms.specs.declared.shapes.RankKind.{RankKind}
use Rattle.forms.specs.declared.shapes.Role.{Role}
use Rattle.forms.specs.declared.shapes.Part.{Part}
use Rattle.forms.specs.declared.shapes.Shape.{Shape}
use Rattle.forms.specs.declared.makers.Form.{Form}
use Rattle.forms.specs.declared.makers.Numbers.{Numbers}
use Rattle.script.specs.Reading.{Fit, fits_open, fits_close, fits_word, fits_number, fits_end, Fits, noted_at, numbers_of, too_long, no_form, out_of_turn, reads, Reads}

in_count : (z : ℤ) → in_range Role.Count z ≡ true → unsigned_abs z ≤ 256
in_count (pos k) e = leb-true k 256 (and_parts _ _ e).1
in_count (negsuc k) e = absurd cc

one_more : (n : Numbers) (p : Part) (m : Mark) → n.count ≤ 256 → Fit p m → (noted_at n p m).count ≤ 256
one_more n _ _ h fits_open = h
one_more n _ _ h fits_close = h
one_more n _ _ h (fits_word w) = h
one_more n _ _ h (fits_number Role.Count z e) = in_count z e
one_more n _ _ h (fits_number Role.Client z e) = h
one_more n _ _ h (fits_number Role.Element z e) = h
one_more n _ _ h (fits_number Role.Pointer z e) = h
one_more n _ _ h (fits_number Role.Grade z e) = h
one_more n _ _ h (fits_number Role.Minute z e) = h
one_more n _ _ h (fits_number Role.Weight z e) = h
one_more n _ _ h (fits_number Role.Value z e) = h
one_more n _ _ h fits_end = h

-- a line along a shape counts no more elements than there may be
counted : (n : Numbers) (ps : List Part) (ms : List Mark) → n.count ≤ 256 → Fits ps ms → (numbers_of n ps ms).count ≤ 256
counted n [] ms h f = h
counted n (p ∷ ps) [] h f = h
counted n (p ∷ ps) (m ∷ ms) h f = counted (noted_at n p m) ps ms (one_more n p m h f.0) f.1

-- an open comes of its own shape, with the count of its numbers
few_of : (shape : Shape) (n : Numbers) (count : ℕ) (kind : RankKind) → n.count ≤ 256 → Form.Open count kind ≡ form_of shape n → count ≤ 256
few_of (Shape.Open k) n count kind h e = let same : count ≡ n.count = cc in omega (arith, h)
few_of (Shape.Begin RankKind.Grade) n count kind h e = absurd cc
few_of (Shape.Begin RankKind.Due) n count kind h e = absurd cc
few_of (Shape.Lock k) n count kind h e = absurd cc
few_of Shape.Read n count kind h e = absurd cc
few_of Shape.Change n count kind h e = absurd cc
few_of Shape.Commit n count kind h e = absurd cc
few_of Shape.Back n count kind h e = absurd cc
few_of Shape.End n count kind h e = absurd cc
few_of Shape.GiveUp n count kind h e = absurd cc
few_of Shape.Clear n count kind h e = absurd cc
few_of Shape.Bind n count kind h e = absurd cc
few_of Shape.Remove n count kind h e = absurd cc
few_of Shape.Get n count kind h e = absurd cc
few_of Shape.Put n count kind h e = absurd cc

-- an open asks for no more elements than there may be
pub open_few : (line : List ℕ) (count : ℕ) (kind : RankKind) → Reads None line (Ok (Form.Open count kind)) → count ≤ 256
open_few line count kind (too_long l e) = absurd cc
open_few line count kind (no_form place l s e) = absurd cc
open_few line count kind (out_of_turn form l s t e) = absurd cc
open_few line count kind (reads form l s t e) =
    let same : Form.Open count kind ≡ form = cc in
    few_of s.shape _ count kind (counted blank _ _ (omega arith) s.fit) (same ∙ s.says)
