-- What the inner struct means: with the meaning of a table, a state of the rules.
use Rattle.std.specs.Prelude.{◌≡◌}
use Rattle.plant.specs.Meaning.{Meaning}
use Rattle.rules.specs.State.{State}
use Rattle.inner.specs.declared.whole.Inner.{Inner}
use Rattle.inner.specs.Slots.{lock_in}
use Rattle.inner.specs.Whole.{client_of, cell_of, tie_of}

-- Each part of the state is read from its list; a client's lock on an element is that of its first slot on it.
abbrev pub model : Meaning → Inner → State
model m n =
    record {
      table = m;
      clients = λ c. (client_of n c).state;
      locks = λ c e. lock_in (client_of n c).slots e;
      marked = λ e. (cell_of n e).marked;
      second = λ e. (cell_of n e).second;
      ties = λ p. tie_of n p;
    }

-- Whatever the table means: what the inner struct meant has become this of it.
abbrev pub Becomes : Inner → Inner → (State → State) → Type 0
Becomes old new change = (m : Meaning) → model m new ≡ change (model m old)
