-- A walk along a shape, one item on.
use Rattle.std.proofs.Common.{◌≡◌, ℕ, ◌+◌, ◌<◌, Bool, true, false, cond, List, ◌∷◌, length, get_or, drop, Some, None, Ok, Err, Option, Result, sym, ap, ◌∙◌}
use Rattle.std.proofs.lemmas.List.{at_drop_more}
use Rattle.std.specs.Option.{ok_or}
use Rattle.items.specs.Items.{Mark, behind}
use Rattle.script.specs.Reading.{noted_at}
use Rattle.script.specs.Steps.{fits, walk_of}
use Rattle.forms.specs.declared.shapes.Part.{Part}
use Rattle.forms.specs.declared.makers.Numbers.{Numbers}

-- what a test's outcome says of the walk, where the item is tested and where the walk has it
err_by : (t : Bool) (x : Numbers) (p q : ℕ) (more : Result Numbers ℕ) → Err q ≡ ok_or (cond t (Some x) None) p → cond t more (Err p) ≡ Err q
err_by true x p q more e = cc
err_by false x p q more e = sym e

ok_by : (t : Bool) (x m : Numbers) (p : ℕ) (more : Numbers → Result Numbers ℕ) → Ok m ≡ ok_or (cond t (Some x) None) p → cond t (more x) (Err p) ≡ more m
ok_by true x m p more e = let same : x ≡ m = cc in ap more same
ok_by false x m p more e = cc

module _ (n : Numbers) (ps : List Part) (k : ℕ) (its rest : List (ℕ × Mark)) (it : ℕ × Mark) (inside : k < length ps) (first : its ≡ it ∷ rest) where
  step : walk_of n (drop k ps) its ≡
      cond (fits (get_or ps k Part.Open) it.1) (walk_of (noted_at n (get_or ps k Part.Open) it.1) (drop (k + 1) ps) (behind its)) (Err it.0)
  step = ap (walk_of n (drop k ps)) first ∙ at_drop_more (λ l. walk_of n l (it ∷ rest)) ps k Part.Open inside ∙
      ap (λ l. cond (fits (get_or ps k Part.Open) it.1) (walk_of (noted_at n (get_or ps k Part.Open) it.1) (drop (k + 1) ps) (behind l)) (Err it.0)) (sym first)

  module _ (fitted : Option Numbers) (result : Result Numbers ℕ) (fit : fitted ≡ cond (fits (get_or ps k Part.Open) it.1) (Some (noted_at n (get_or ps k Part.Open) it.1)) None) (or : result ≡ ok_or fitted it.0) where
    pub walk_stops : (place : ℕ) → result ≡ Err place → walk_of n (drop k ps) its ≡ Err place
    walk_stops place e = step ∙ err_by (fits (get_or ps k Part.Open) it.1) _ it.0 place _ (sym e ∙ or ∙ ap (λ o. ok_or o it.0) fit)

    pub walk_goes : (m : Numbers) → result ≡ Ok m → walk_of n (drop k ps) its ≡ walk_of m (drop (k + 1) ps) (behind its)
    walk_goes m e = step ∙ ok_by (fits (get_or ps k Part.Open) it.1) _ m it.0 (λ x. walk_of x (drop (k + 1) ps) (behind its)) (sym e ∙ or ∙ ap (λ o. ok_or o it.0) fit)
