use Rattle.engine.proofs.opening.Engine.open.Goals as goal

pub returns-clause-state : goal.returns-clause-state
returns-clause-state g c = c.new.ensures (g.T.Table.meaning c.args.table)
