use Rattle.std.proofs.Common.{rules}
use Rattle.rules.specs.State.{is_committing}
use Rattle.inner.specs.Whole.{client_of}
use Rattle.book.proofs.keeping.Book.must_wait.Goals as goal

pub returns : goal.returns
returns c = c.some_blocker.ensures (λ d. is_committing (client_of c.args.self.now.inner d).state) (λ d b p. search rules)
