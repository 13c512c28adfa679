-- The parts of the memory as ranges of addresses.
use Rattle.std.proofs.Common.{◌≡◌, ◌≤◌, ◌<◌, ℕ, zero, suc, ◌+◌, ◌-◌, ◌/◌, ◌%◌, List, length, take, drop, slice_index, refl, sym, arith, add-one}
use Rattle.std.proofs.Math.Seq.{drop-cons}
use Rattle.std.proofs.lemmas.Bool.Decides.{nat_tests}
use Rattle.byteorder.specs.Endian.{little_bytes}
use Rattle.om_image.specs.Layout.{data_base, data_limit}
use Rattle.om_image.specs.NumState.{stack_base, stack_size, heap_base}
use Rattle.om_image.specs.NumAccess.{bytes_from}
use Rattle.om_machine.specs.Mapped.{Mapped}
use Rattle.om_machine.specs.Memory.{memory_of, IsPlace}

-- the low bytes of a number that was cut to them
pub two_bytes : (n : ℕ) → little_bytes 2 (n % 65536) ≡ little_bytes 2 n
two_bytes n =
    let a : n % 65536 % 256 ≡ n % 256 = omega arith in
    let b : n % 65536 / 256 % 256 ≡ n / 256 % 256 = omega arith in
    cc

pub four_bytes : (n : ℕ) → little_bytes 4 (n % 4294967296) ≡ little_bytes 4 n
four_bytes n =
    let a : n % 4294967296 % 256 ≡ n % 256 = omega arith in
    let b : n % 4294967296 / 256 % 256 ≡ n / 256 % 256 = omega arith in
    let d : n % 4294967296 / 65536 % 256 ≡ n / 65536 % 256 = omega arith in
    let e : n % 4294967296 / 16777216 % 256 ≡ n / 16777216 % 256 = omega arith in
    cc

-- bytes of a function that is a list from base on
range_of : (f : ℕ → ℕ) (xs : List ℕ) (base at n : ℕ) → ((k : ℕ) → k < length xs → f (base + k) ≡ slice_index xs k) → at + n ≤ length xs → bytes_from f (base + at) n ≡ take n (drop at xs)
range_of f xs base at zero same fits = refl
range_of f xs base at (suc n) same fits =
    let here : at < length xs = omega arith in
    let next : (base + at) + 1 ≡ base + (at + 1) = omega arith in
    let rest = range_of f xs base (at + 1) n same (omega arith) in
    let step : at + 1 ≡ suc at = add-one at in
    rw (drop-cons xs at 0 here, same at here, next, rest, step) refl

data_is : (m : Mapped) (k : ℕ) → length m.bytes ≤ data_limit → k < length m.bytes → memory_of m (data_base + k) ≡ slice_index m.bytes k
data_is m k h g =
    let e : data_base + k - data_base ≡ k = omega arith in
    grind (arith, nat_tests)

stack_is : (m : Mapped) (k : ℕ) → length m.stack ≡ stack_size → k < length m.stack → memory_of m (stack_base + k) ≡ slice_index m.stack k
stack_is m k h g =
    let e : stack_base + k - stack_base ≡ k = omega arith in
    grind (arith, nat_tests)

heap_is : (m : Mapped) (k : ℕ) → memory_of m (heap_base + k) ≡ slice_index m.heap k
heap_is m k =
    let e : heap_base + k - heap_base ≡ k = omega arith in
    grind (arith, nat_tests)

-- the bytes at a place of each part
taken_from : (f : ℕ → ℕ) (xs : List ℕ) (base a n at : ℕ) → ((k : ℕ) → k < length xs → f (base + k) ≡ slice_index xs k) → IsPlace base (length xs) a n at → take (at + n - at) (drop at xs) ≡ bytes_from f a n
taken_from f xs base a n at same p =
    let e : at + n - at ≡ n = omega arith in
    rw (e, ← p.place) (sym (range_of f xs base at n same p.fits))

pub data_range : (m : Mapped) (a n at : ℕ) → length m.bytes ≤ data_limit → IsPlace data_base (length m.bytes) a n at → take (at + n - at) (drop at m.bytes) ≡ bytes_from (memory_of m) a n
data_range m a n at h p = taken_from (memory_of m) m.bytes data_base a n at (λ k. data_is m k h) p

pub stack_range : (m : Mapped) (a n at : ℕ) → length m.stack ≡ stack_size → IsPlace stack_base (length m.stack) a n at → take (at + n - at) (drop at m.stack) ≡ bytes_from (memory_of m) a n
stack_range m a n at h p =
    taken_from (memory_of m) m.stack stack_base a n at (λ k. stack_is m k h) p

pub heap_range : (m : Mapped) (a n at : ℕ) → m.heap_size ≤ length m.heap → IsPlace heap_base m.heap_size a n at → take (at + n - at) (drop at m.heap) ≡ bytes_from (memory_of m) a n
heap_range m a n at h p =
    let q : IsPlace heap_base (length m.heap) a n at = record { place = p.place; fits = omega (arith, p.fits) } in
    taken_from (memory_of m) m.heap heap_base a n at (λ k _. heap_is m k) q
