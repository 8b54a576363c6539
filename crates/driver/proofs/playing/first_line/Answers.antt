use Rattle.std.proofs.Common.{◌≡◌, None, Ok, Err, refl, subst, rules}
use Rattle.forms.specs.declared.makers.Form.{Form}
use Rattle.script.specs.Reading.{Reads}
use Rattle.driver.specs.Playing.{no_open, opened}
use Rattle.driver.proofs.OpenCount.{open_few}
use Rattle.driver.proofs.playing.first_line.Goals as goal

pub returns-in_err-count : goal.returns-in_err-count
returns-in_err-count c =
    let faulty : c.read_line.result ≡ Err c.in_err-count.field-0.0 = search rules in
    no_open c.in_err-count.field-0.0 (subst (Reads None c.args.line.now) faulty c.read_line.ensures.means) (search rules)

pub invariant_of-result : goal.invariant_of-result
invariant_of-result c =
    let an_open : c.read_line.result ≡ Ok (Form.Open c.in-Open.count c.in-Open.kind) = search rules in
    record { few = open_few _ _ _ (subst (Reads None c.args.line.now) an_open c.read_line.ensures.means) }

pub returns : goal.returns
returns c =
    let an_open : c.read_line.result ≡ Ok (Form.Open c.in-Open.count c.in-Open.kind) = search rules in
    opened _ (subst (Reads None c.args.line.now) an_open c.read_line.ensures.means) refl
