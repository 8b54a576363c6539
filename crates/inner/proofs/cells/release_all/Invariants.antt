use Rattle.std.proofs.Common.{◌≡◌, map}
use Rattle.std.specs.List.{fold}
use Rattle.inner.proofs.Giving.{release_held}
use Rattle.inner.proofs.cells.release_all.Given as goal

-- The locks so far are given up.
abbrev pub invariant-loop-held : goal.invariant-loop-held
invariant-loop-held l = l.cells ≡ fold release_held l.initial.cells (map (λ y. y.now) l.yielded)
