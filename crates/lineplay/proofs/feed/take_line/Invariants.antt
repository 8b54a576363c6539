-- What was taken of the line so far has no byte 10, and its front is kept.
use Rattle.std.proofs.Common.{◌≡◌, ◌≢◌, ℕ, List, All, take}
use Rattle.std.specs.Io.KnownBytes.{Consumes}
use Rattle.lineplay.proofs.feed.take_line.Given as goal

abbrev pub invariant-loop : goal.invariant-loop
invariant-loop g l =
    (done : List ℕ) × All (λ byte. byte ≢ 10) done × (l.line.items ≡ take 121 done) × Consumes (g.B.Read.remaining l.fn.source) (g.B.Read.remaining l.source) done
