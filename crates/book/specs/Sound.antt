-- What the inner struct must know of itself: each cell's holder count is the number of locks on it, no
-- client has two locks on one element, and every list has its length.
use Rattle.std.specs.Prelude.{◌≡◌, ℕ, ◌+◌, ◌<◌, ◌≤◌, List, [], ◌∷◌, length}
use Rattle.inner.specs.declared.slots.ClientRecord.{ClientRecord}
use Rattle.inner.specs.declared.whole.Inner.{Inner}
use Rattle.inner.specs.Slots.{locks_on}
use Rattle.inner.specs.Whole.{client_of, cell_of}

-- How many locks of these clients are on an element.
abbrev pub all_locks : List ClientRecord → ℕ → ℕ
all_locks [] e = 0
all_locks (r ∷ rs) e = locks_on r.slots e + all_locks rs e

-- Every list has its length.
pub record Sized (n : Inner) : Type 0 where
  pub clients : length n.clients ≡ 16
  pub cells : length n.cells ≡ 256
  pub ties : length n.ties ≡ 64

-- Each client has 32 slots, and at most one lock on an element; each cell counts the locks on it.
pub record Counted (n : Inner) : Type 0 where
  pub slots : (c : ℕ) → c < 16 → length (client_of n c).slots ≡ 32
  pub once : (c e : ℕ) → locks_on (client_of n c).slots e ≤ 1
  pub holders : (e : ℕ) → (cell_of n e).holders ≡ all_locks n.clients e

pub record Sound (n : Inner) : Type 0 where
  pub sized : Sized n
  pub counted : Counted n
