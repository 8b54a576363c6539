use Rattle.std.proofs.Common.{◌≤ℤ◌, pos, subst, rules}
use Rattle.engine.specs.Answering.{state_of}
use Rattle.scaling.specs.Run.{scaled}
use Rattle.scaling.proofs.RunLaws.{capped}
use Rattle.scaling.proofs.handles.Open.scale_pair.Goals as goal

pub returns-in_err-change : goal.returns-in_err-change
returns-in_err-change g c =
    let h = capped (state_of g.T.Table.meaning c.take-2.new.engine) c.args.self.now.client.0 c.args.pair.target.0
    (scaled c.args.ratio c.in_ok-base-2.base) (subst (λ v. v ≤ℤ pos 1_000_000_000_000) c.highest-highest.ensures.value c.highest-highest.ensures.bound) in
    search rules

pub returns : goal.returns
returns g c =
    let h = capped (state_of g.T.Table.meaning c.take-2.new.engine) c.args.self.now.client.0 c.args.pair.target.0
    (scaled c.args.ratio c.in_ok-base-2.base) (subst (λ v. v ≤ℤ pos 1_000_000_000_000) c.highest-highest.ensures.value c.highest-highest.ensures.bound) in
    search rules
