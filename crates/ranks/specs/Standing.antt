-- Which client stands above which, by the ranks in the host's rank list.
use Rattle.std.specs.Prelude.{◌≡◌, ℕ, Bool, true, false, not, ◌&&◌, ◌||◌, ◌⊎◌, List, Some, None, Option, ◌≢◌, nat_lt}
use Rattle.std.specs.List.{slice_get}

-- What makes "above" an order of ranks: no rank is above itself; what is above a rank is above all that
-- this rank is above; ranks of which neither is above the other are above and below the same ranks.
pub record Order {K : Type 0} (above : K → K → Bool) : Type 0 where
  pub irreflexive : (a : K) → above a a ≡ false
  pub transitive : (a b c : K) → above a b ≡ true → above b c ≡ true → above a c ≡ true
  pub even : (a b c : K) → above a b ≡ false → above b a ≡ false → (above a c ≡ above b c) × (above c a ≡ above c b)

-- A client c with the rank a stands above a client d with the rank b if a is above b. Where neither of the
-- two ranks is above the other, the lower client number decides.
abbrev pub stands : {K : Type 0} → (K → K → Bool) → K → ℕ → K → ℕ → Bool
stands above a c b d = above a b || (not (above b a) && nat_lt c d)

-- The same of two ranks as they were found in a list; a client with no entry stands above nobody.
abbrev pub found_stands : {K : Type 0} → (K → K → Bool) → Option K → ℕ → Option K → ℕ → Bool
found_stands above None c b d = false
found_stands above (Some a) c None d = false
found_stands above (Some a) c (Some b) d = stands above a c b d

-- The client c stands above the client d, by their entries in the rank list.
abbrev pub stands_above : {K : Type 0} → (K → K → Bool) → List K → ℕ → ℕ → Bool
stands_above above ranks c d = found_stands above (slice_get ranks c) c (slice_get ranks d) d

-- Standing above is an order that decides between any two clients: never both ways round; passed on from
-- client to client; and of two different clients with entries in the list, one stands above the other.
pub record Decides {K : Type 0} (above : K → K → Bool) : Type 0 where
  pub asymmetric : (ranks : List K) (c d : ℕ) → stands_above above ranks c d ≡ true → stands_above above ranks d c ≡ false
  pub passed_on : (ranks : List K) (c d e : ℕ) →
      stands_above above ranks c d ≡ true → stands_above above ranks d e ≡ true → stands_above above ranks c e ≡ true
  pub total : (ranks : List K) (c d : ℕ) (a b : K) → slice_get ranks c ≡ Some a → slice_get ranks d ≡ Some b → (c ≢ d) →
      (stands_above above ranks c d ≡ true) ⊎ (stands_above above ranks d c ≡ true)
