-- Going over the slots that hold a lock.
use Rattle.std.proofs.Common.{◌≡◌, Bool, true, false, cond, List, [], ◌∷◌, ◌++◌, length, map, Some, None, Option, Bor, sym, refl, ap, ◌∙◌, subst}
use Rattle.std.specs.Bool.{MatchBool}
use Rattle.std.specs.List.{fold, flat_map}
use Rattle.std.specs.Option.{option_to_list}
use Rattle.std.specs.Iterator.Adapters.{option_iter_item, option_iter_done, option_iter_steps}
use Rattle.std.proofs.lemmas.Iterator.{YieldsList}
use Rattle.std.proofs.lemmas.Iterator.Consumers.{YieldsList-from_shown}
use Rattle.std.proofs.lemmas.List.{map-append}
use Rattle.std.proofs.lemmas.List.Sums.{fold-append}
use Rattle.inner.specs.declared.slots.Held.{Held}
use Rattle.inner.specs.declared.cells.Cell.{Cell}
use Rattle.inner.specs.Cells.{release_slot, release_slots}

-- The cells after one lock was given up.
abbrev pub release_held : List Cell → Held → List Cell
release_held cells h = release_slot cells (Some h)

-- One lock more is given up.
pub one_more : (cells new old : List Cell) (given : List (Bor Held)) (h : Bor Held) → cells ≡ fold release_held old (map (λ y. y.now) given) →
    new ≡ release_held cells h.now → new ≡ fold release_held old (map (λ y. y.now) (given ++ h ∷ []))
one_more cells new old given h before is =
    is ∙ ap (λ c. release_held c h.now) before
    ∙ sym (fold-append release_held old (map (λ y. y.now) given) (h.now ∷ [])) ∙ ap (fold release_held old) (sym (map-append (λ y. y.now) given (h ∷ [])))

-- The locks that the slots hold, given up, are the slots given up.
pub all_given : (slots : List (Option Held)) (cells : List Cell) → fold release_held cells (flat_map option_to_list slots) ≡ release_slots cells slots
all_given [] cells = refl
all_given (None ∷ ss) cells = all_given ss cells
all_given (Some h ∷ ss) cells = all_given ss (release_held cells h)

-- An option gives what is in it.
pub YieldsList-from_option : {A : Type 0} {s : _} (o : Option A) → option_iter_item s ≡ o → option_iter_done s ≡ false → YieldsList option_iter_steps (λ y. y.now) s (option_to_list o)
YieldsList-from_option {A} {s} o is fresh =
    subst (λ xs. YieldsList option_iter_steps (λ y. y.now) s xs) (ap (λ b. cond b [] (option_to_list (option_iter_item s))) fresh ∙ ap option_to_list is)
    (YieldsList-from_shown option_iter_steps (λ y. y.now) (λ u. cond (option_iter_done u) [] (option_to_list (option_iter_item u)))
    (λ u t h. nothing (option_iter_done u) (option_iter_item u) h.1)
    (λ u x t h. one (option_iter_done u) (option_iter_item u) x h.1 ∙ ap (λ b. x.now ∷ cond b [] (option_to_list (option_iter_item t))) (sym h.0)) s)
  where
    nothing : (done : Bool) (o : Option A) → MatchBool done (◌≡◌ {A = Option (Bor A)} None None) (None ≡ o) → length (cond done [] (option_to_list o)) ≡ 0
    nothing true o h = refl
    nothing false o h = ap (λ k. length (option_to_list k)) (sym h)

    one : (done : Bool) (o : Option A) (x : Bor A) → MatchBool done (◌≡◌ {A = Option (Bor A)} (Some x) None) (Some x.now ≡ o) → cond done [] (option_to_list o) ≡ x.now ∷ []
    one true o x h = absurd (cc)
    one false o x h = ap option_to_list (sym h)
