use Rattle.std.proofs.Common.{rules}
use Rattle.engine.proofs.opening.Engine.bind.Goals as goal

-- What the book has become is said at every meaning of a table: here at that of the engine's.
pub returns : goal.returns
returns g c = let h = c.tie.ensures (g.T.Table.meaning c.args.self.now.table) in search rules
