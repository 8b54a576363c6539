use Rattle.std.proofs.Common.{rules}
use Rattle.ranks.specs.Standing.{stands_above}
use Rattle.book.proofs.keeping.Book.is_lost.Goals as goal

pub returns : goal.returns
returns g c = c.some_blocker.ensures (λ d. stands_above g.K.Rank.above c.args.ranks.now d c.args.request.client.0) (λ d b p. search rules)
