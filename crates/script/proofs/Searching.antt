-- A search through the shapes, one shape on.
use Rattle.std.proofs.Common.{◌≡◌, ℕ, ◌+◌, ◌<◌, ◌≤◌, max, true, false, cond, List, length, get_or, drop, Ok, Err, Option, ap, ◌∙◌}
use Rattle.std.proofs.lemmas.List.{at_drop_more, at_drop_all}
use Rattle.std.proofs.lemmas.Bool.{cond-true, cond-false}
use Rattle.items.specs.Items.{Mark}
use Rattle.forms.specs.Shapes.{parts_of, allows}
use Rattle.forms.specs.Forms.{blank, form_of}
use Rattle.script.specs.Steps.{walk_of, search_on, search_of}
use Rattle.forms.specs.declared.shapes.RankKind.{RankKind}
use Rattle.forms.specs.declared.shapes.Shape.{Shape}
use Rattle.forms.specs.declared.makers.Numbers.{Numbers}

module _ (opened : Option RankKind) (its : List (ℕ × Mark)) (best : ℕ) (ss : List Shape) (i : ℕ) where
  step : i < length ss → search_of opened its best (drop i ss) ≡
      cond (allows opened (get_or ss i (Shape.Open RankKind.Grade)))
      (search_on (get_or ss i (Shape.Open RankKind.Grade)) (walk_of blank (parts_of (get_or ss i (Shape.Open RankKind.Grade))) its) best (λ b. search_of opened its b (drop (i + 1) ss)))
      (search_of opened its best (drop (i + 1) ss))
  unfolding search_of
  step h = at_drop_more (search_of opened its best) ss i (Shape.Open RankKind.Grade) h

  pub search_skips : i < length ss → allows opened (get_or ss i (Shape.Open RankKind.Grade)) ≡ false →
      search_of opened its best (drop i ss) ≡ search_of opened its best (drop (i + 1) ss)
  search_skips h e = step h ∙ cond-false _ _ _ e

  pub search_passes : (p : ℕ) → i < length ss → allows opened (get_or ss i (Shape.Open RankKind.Grade)) ≡ true →
      walk_of blank (parts_of (get_or ss i (Shape.Open RankKind.Grade))) its ≡ Err p →
      search_of opened its best (drop i ss) ≡ search_of opened its (max best p) (drop (i + 1) ss)
  search_passes p h e w =
      step h ∙ cond-true _ _ _ e ∙ ap (λ x. search_on (get_or ss i (Shape.Open RankKind.Grade)) x best (λ b. search_of opened its b (drop (i + 1) ss))) w

  pub search_finds : (n : Numbers) → i < length ss → allows opened (get_or ss i (Shape.Open RankKind.Grade)) ≡ true →
      walk_of blank (parts_of (get_or ss i (Shape.Open RankKind.Grade))) its ≡ Ok n →
      search_of opened its best (drop i ss) ≡ Ok (form_of (get_or ss i (Shape.Open RankKind.Grade)) n)
  search_finds n h e w =
      step h ∙ cond-true _ _ _ e ∙ ap (λ x. search_on (get_or ss i (Shape.Open RankKind.Grade)) x best (λ b. search_of opened its b (drop (i + 1) ss))) w

  pub search_ends : length ss ≤ i → search_of opened its best (drop i ss) ≡ Err best
  unfolding search_of
  search_ends h = at_drop_all (search_of opened its best) ss i h
