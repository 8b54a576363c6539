-- Going over all clients.
use Rattle.std.proofs.Common.{◌≡◌, ℕ, zero, suc, ◌+◌, ◌<◌, Bool, ◌||◌, List, length, get_or, map, sym, refl, ap, ◌∙◌, arith}
use Rattle.std.specs.List.{list_any, range_with_len}
use Rattle.std.specs.Iterator.Adapters.{map_source, map_callee}
use Rattle.std.specs.Fn.{Called}
use Rattle.std.specs.declared.iter.Map.{Map}
use Rattle.std.specs.declared.ops.Range.{Range}
use Rattle.std.proofs.iter.Yields.{nat_range_steps}
use Rattle.std.proofs.lemmas.Iterator.{YieldsList, maps, YieldsList-from_range, YieldsList-from_map}
use denote.Param.Members.{Mut}
use Rattle.rules.specs.Scans.{some_below}
use Rattle.inner.proofs.ScanLaws.{some_alike, some_front}
use Rattle.ranks.specs.declared.Client.{Client}

-- The clients, by their numbers.
abbrev pub numbered : ℕ → Client
numbered d = record { 0 = d }

abbrev pub all_clients : List Client
all_clients = map numbered (range_with_len 0 16)

-- The range of their numbers gives them.
pub YieldsList-from_clients : {F : Type 0} {s : Map (Range ℕ) F} {f : F} (g : Mut F (ℕ × Unit {0}) Client) → map_source s ≡ record { start = 0; end = 16 } → map_callee s ≡ f →
    ((x : ℕ) (r : Client) (q : F) → Called g f (x, tt) r q → (q ≡ f) × (r ≡ numbered x)) → YieldsList (maps nat_range_steps g) (λ r. r) s all_clients
YieldsList-from_clients g is callee calls = YieldsList-from_map g numbered (YieldsList-from_range 0 16 16 is refl) callee calls

from_any : (p : Client → Bool) (n a : ℕ) → list_any p (map numbered (range_with_len a n)) ≡ some_below n (λ k. p (numbered (a + k)))
unfolding some_below
from_any p zero a = refl
from_any p (suc n) a =
    ap (λ b. p (numbered a) || b) (from_any p n (a + 1) ∙ some_alike n (λ k. p (numbered (a + 1 + k))) (λ k. p (numbered (a + suc k))) (λ k l. ap (λ d. p (numbered d)) (omega arith)))
    ∙ ap (λ d. p (numbered d) || some_below n (λ k. p (numbered (a + suc k)))) (omega arith)
    ∙ sym (some_front n (λ k. p (numbered (a + k))))

-- Some client passes the test.
pub some_client : (p : Client → Bool) → list_any p all_clients ≡ some_below 16 (λ d. p (numbered d))
some_client p = from_any p 16 0 ∙ some_alike 16 (λ k. p (numbered (0 + k))) (λ d. p (numbered d)) (λ k l. ap (λ d. p (numbered d)) (omega arith))

-- The client that comes after some.
at_number : (n a i : ℕ) (d : Client) → i < length (map numbered (range_with_len a n)) → (i < n) × (get_or (map numbered (range_with_len a n)) i d ≡ numbered (a + i))
at_number zero a i d l = absurd (omega arith)
at_number (suc n) a zero d l = (omega arith, ap numbered (omega arith))
at_number (suc n) a (suc i) d l = let h = at_number n (a + 1) i d (omega arith) in (omega (arith, h.0), h.1 ∙ ap numbered (omega arith))

pub next_client : (i : ℕ) (client : Client) → (i < length all_clients) × (client ≡ get_or all_clients i client) → (i < 16) × (client.0 ≡ i)
next_client i client h = let k = at_number 16 0 i client h.0 in (k.0, omega (arith, ap (λ d. d.0) (h.1 ∙ k.1)))
