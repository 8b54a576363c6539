use Rattle.std.proofs.Common.{ℕ, zero, ◌+◌, ◌*◌, ◌<◌, ◌≤◌, ◌≡◌, sym, arith}
use Rattle.std.proofs.Math.Nat.{div-eq_of_lt-le, div-mul-le_self, lt-div-mul-add}
use Rattle.scaling.specs.declared.run.Ratio.{Ratio}
use Rattle.scaling.specs.Run.{IsRounded, scaled}
use Rattle.scaling.proofs.run.scaling_rounds_halves_up.Goals as goal

-- Between its two bounds there is one multiple of twice the second.
is_scaled : (ratio : Ratio) (v r : ℕ) → IsRounded ratio v r → r ≡ scaled ratio v
is_scaled ratio v r is =
    let low : r * (2 * ratio.second) ≤ 2 * v * ratio.first + ratio.second = omega (arith, is.low) in
    let high : 2 * v * ratio.first + ratio.second < (r + 1) * (2 * ratio.second) = omega (arith, is.high) in
    sym (div-eq_of_lt-le _ low high)

-- The quotient is between them.
is_rounded : (ratio : Ratio) (v r : ℕ) → 0 < ratio.second → r ≡ scaled ratio v → IsRounded ratio v r
is_rounded ratio v r some is =
    let twice : zero < 2 * ratio.second = omega arith in
    let below : r * (2 * ratio.second) ≤ 2 * v * ratio.first + ratio.second = rw is (div-mul-le_self _ _) in
    let above : 2 * v * ratio.first + ratio.second < r * (2 * ratio.second) + 2 * ratio.second = rw is (lt-div-mul-add twice) in
    record { low = omega (arith, below); high = omega (arith, above) }

pub returns : goal.returns
returns c = λ ratio v r some. (is_scaled ratio v r, is_rounded ratio v r some)
