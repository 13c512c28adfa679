-- The next multiple of a number.
use Rattle.std.proofs.Common.{◌<◌, ◌≤◌, ◌+◌, ◌-◌, ℕ, arith}
use Rattle.std.proofs.Math.Nat.{div-add-mod', mod-lt}
use Rattle.om_fields.specs.Places.{round_up}

pub rounded_above : (n to : ℕ) → 0 < to → n ≤ round_up n to
rounded_above n to h =
    let e = div-add-mod' (n + (to - 1)) to in
    let f = mod-lt (n + (to - 1)) h in
    omega (arith, e, f)

pub rounded_below : (n to : ℕ) → 0 < to → round_up n to < n + to
rounded_below n to h =
    let e = div-add-mod' (n + (to - 1)) to in
    omega (arith, e)
