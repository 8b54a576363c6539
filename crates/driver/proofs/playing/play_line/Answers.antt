use Rattle.std.proofs.Common.{◌≡◌, ℕ, List, Some, Result, sym, refl, subst, ◌∙◌, rules}
use Rattle.forms.specs.declared.makers.Form.{Form}
use Rattle.forms.specs.declared.shapes.RankKind.{RankKind}
use Rattle.script.specs.Reading.{Reads}
use Rattle.script.specs.declared.reader.Fault.{Fault}
use Rattle.driver.specs.Playing.{faulty, makes}
use Rattle.driver.proofs.playing.play_line.Goals as goal

-- what a line reads as where the code's constant is the kind
of_kind : {found kind : RankKind} {line : List ℕ} {answer : Result Form Fault} → found ≡ kind → Reads (Some found) line answer → Reads (Some kind) line answer
of_kind {line = line} {answer = answer} e r = let P : RankKind → Type 0 = λ k. Reads (Some k) line answer in subst P e r

pub returns-in_err-form : goal.returns-in_err-form
returns-in_err-form g c =
    faulty c.in_err-form.field-0.0 (of_kind (search rules) c.in_err-form.ensures.means) (search rules) (refl {a = c.args.engine.now}) (refl {a = c.args.ranks.now})

pub unreachable-requires : goal.unreachable-requires
unreachable-requires g c =
    g.met.K.ScriptRank.asks c.args.line.now c.in_ok-form.form (of_kind (search rules) c.in_ok-form.ensures.means) (sym c.call_of.ensures ∙ c.in_default.is)

pub returns : goal.returns
returns g c =
    makes c.in_ok-form.form c.in-Some.call c.perform.result (of_kind (search rules) c.in_ok-form.ensures.means) (sym c.call_of.ensures ∙ c.in-Some.is) refl (record {
      steps = c.perform.ensures.value;
      ranked = c.perform.ensures.ranks;
      law = c.perform.ensures.law;
    })
