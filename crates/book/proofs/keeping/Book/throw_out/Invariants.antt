use Rattle.std.proofs.Common.{◌&&◌, ltb, length}
use Rattle.rules.specs.Locking.{leave}
use Rattle.rules.specs.declared.ClientState.TheVariants.{ThrownOut}
use Rattle.book.specs.Model.{Becomes}
use Rattle.book.specs.Requests.{blocks}
use Rattle.book.proofs.keeping.Book.throw_out.Given as goal

-- Those so far that stood in the way have left.
abbrev pub invariant-loop-client : goal.invariant-loop-client
invariant-loop-client l = Becomes l.initial.self.inner l.self.inner (leave (λ d. ltb d (length l.yielded) && blocks l.initial.self.inner l.request d) ThrownOut)
