-- The worked image meets what the law asks for.
use Rattle.std.proofs.Common.{◌≡◌, ◌⊎◌, inl, inr, ℕ, ◌+◌, ◌%◌, ◌^◌, ◌<◌, ◌≤◌, Bool, true, false, cond, ◌&&◌, ◌||◌, nat_lt, nat_le, List, Option, Some, None, refl, ap, sym, subst, ◌∙◌, arith}
use Rattle.std.specs.Prelude.{IsTrue, ℤ, negsuc}
use Rattle.std.proofs.lemmas.Int.{ints}
use Rattle.std.proofs.lemmas.Bool.Decides.{nat_tests}
use Rattle.om_isa.specs.declared.instr.BrOp.TheVariants.{Br}
use Rattle.om_isa.specs.declared.instr.Instr.TheVariants.{Branch}
use Rattle.om_isa.specs.SystemCall.{heap_limit}
use Rattle.om_isa.specs.Words.{Encodes}
use Rattle.om_value.specs.declared.value.Place.{Place}
use Rattle.om_value.specs.declared.value.Region.{Region}
use Rattle.om_value.specs.declared.value.Region.TheVariants.{Sec, Common, Stack, Heap}
use Rattle.om_prog.specs.Act.{Word}
use Rattle.om_prog.specs.Step.{sized}
use Rattle.om_prog.specs.Flow.{GoesTo}
use Rattle.om_prog.specs.Within.{ActWithin}
use Rattle.om_image.specs.NumState.{heap_base}
use Rattle.om_image.specs.NumAccess.{is_mapped}
use Rattle.om_image.specs.NumStep.{data_size, is_text}
use Rattle.om_lockstep.specs.Addresses.{IsLaidOut}
use Rattle.om_lockstep.specs.Goes.{most_of}
use Rattle.om_lockstep.specs.Forms.{IsEncoded, Stands}
use Rattle.om_lockstep.specs.Lockstep.{StartsAlike, HasCodes, KeepsCodes, AreBytes, InLockstep}
use Rattle.om_lockstep.specs.Rows.{first, is_first, IsFirst, loop_word, loop_script, loop_region, loop_addresses, loop_image, LoopRunsInLockstep}
use Rattle.om_lockstep.proofs.Small.{same_place}
use Rattle.om_lockstep.proofs.Coded.{keeps_codes}
use Rattle.om_lockstep.proofs.Steps.{in_lockstep}

aligned : (r : Region) → loop_region r % 16 ≡ 0
aligned (Sec o n) = refl
aligned (Common s) = refl
aligned Stack = refl
aligned Heap = refl

above : (r : Region) → 0x10000 ≤ loop_region r
above (Sec o n) = omega arith
above (Common s) = omega arith
above Stack = omega arith
above Heap = omega arith

below : (r : Region) → loop_region r + most_of loop_script r < 2 ^ 63
below (Sec o n) = omega arith
below (Common s) = omega arith
below Stack = omega arith
below Heap = omega arith

apart : (r s : Region) (x y : ℕ) → x < most_of loop_script r → y < most_of loop_script s → loop_region r + x ≡ loop_region s + y → r ≡ s
apart Stack Stack x y hx hy e = refl
apart Heap Heap x y hx hy e = refl
apart Stack Heap x y hx hy e = absurd (omega arith)
apart Heap Stack x y hx hy e = absurd (omega arith)
apart (Sec o n) s x y hx hy e = absurd (omega arith)
apart (Common k) s x y hx hy e = absurd (omega arith)
apart Stack (Sec o n) x y hx hy e = absurd (omega arith)
apart Stack (Common k) x y hx hy e = absurd (omega arith)
apart Heap (Sec o n) x y hx hy e = absurd (omega arith)
apart Heap (Common k) x y hx hy e = absurd (omega arith)

laid : IsLaidOut loop_addresses (most_of loop_script)
laid = record {
  aligned = aligned;
  above = above;
  below = below;
  apart = apart;
  code_aligned = λ p. refl;
  code_above = λ p. omega arith;
  code_below = λ p. omega arith;
  gp = λ t. omega arith;
  half = λ p. omega arith;
}

low : (r : Region) (x : ℕ) → (r ≡ Heap → ⊥) → x < most_of loop_script r → loop_region r + x < heap_base
low (Sec o n) x h k = absurd (omega arith)
low (Common s) x h k = absurd (omega arith)
low Stack x h k = omega arith
low Heap x h k = absurd (h refl)

mapped : (r : Region) (x n heap : ℕ) → heap ≤ heap_limit → 0 < n → x + n ≤ sized loop_script.sizes heap r → is_mapped (data_size loop_image) heap (loop_region r + x) n ≡ true
mapped (Sec o k) x n heap h some fits = absurd (omega arith)
mapped (Common s) x n heap h some fits = absurd (omega arith)
mapped Stack x n heap h some fits = grind (arith, nat_tests)
mapped Heap x n heap h some fits = grind (arith, nat_tests)

only_word : (b : Bool) (w : Word) → cond b (Some loop_word) None ≡ Some w → loop_word ≡ w
only_word true w e = cc
only_word false w e = cc

branches : Encodes 0xc3ffffff (Branch Br 31 (negsuc 0))
branches = record { fields = (omega arith, omega (arith, ints)); word = refl }

stands : (p : Place) (w : Word) → IsFirst p → loop_script.fetch p ≡ Some w → Stands loop_script loop_addresses loop_image p w
stands p w h e =
    subst (λ w. Stands loop_script loop_addresses loop_image p w) (only_word (is_first p) w e)
    (record {
      here = refl;
      word = 0xc3ffffff;
      found = refl;
      form = (negsuc 0, branches, refl);
      next = λ k. absurd (k refl);
    })

encoded : IsEncoded loop_script loop_addresses loop_image IsFirst IsFirst
encoded = record {
  laid = laid;
  heap = refl;
  low = low;
  mapped = mapped;
  lands = λ q k h. refl;
  stands = stands;
}

starts : StartsAlike loop_script loop_addresses loop_image
starts = record {
  entry = refl;
  gp = refl;
  stack = refl;
  cells = λ r x. omega arith;
  memory = record { agrees = λ r x h. zeros (loop_region r + x) };
}
  where
    zeros : (a : ℕ) → ◌≡◌ {A = ℕ} (cond (nat_le 0x140000000 a) 0 0) 0
    zeros a = by_test (nat_le 0x140000000 a)
      where
        by_test : (b : Bool) → ◌≡◌ {A = ℕ} (cond b 0 0) 0
        by_test true = refl
        by_test false = refl

goes : (q : Place) (w : Word) (n : Place) → IsFirst q → loop_script.fetch q ≡ Some w → GoesTo IsFirst w n → IsFirst n
goes q w n h e g = by_word (subst (λ w. GoesTo IsFirst w n) (sym (only_word (is_first q) w e)) g)
  where
    by_word : GoesTo IsFirst loop_word n → IsFirst n
    by_word (inl k) = absurd k.0
    by_word (inr k) = subst IsFirst k refl

brings : (q : Place) (w : Word) → IsFirst q → loop_script.fetch q ≡ Some w → ActWithin IsFirst w.at w.act
brings q w h e = subst (λ w. ActWithin IsFirst w.at w.act) (only_word (is_first q) w e) (inl refl)

has_codes : HasCodes loop_script IsFirst IsFirst
has_codes = record { entry = refl; begins = refl; cells = λ r x. tt; words = brings; goes = goes }

pub loop_runs : LoopRunsInLockstep
loop_runs = record {
  encoded = encoded;
  starts = starts;
  codes = λ input. keeps_codes loop_script IsFirst IsFirst has_codes input;
  runs = λ input bytes. in_lockstep loop_script loop_addresses loop_image IsFirst IsFirst encoded starts input bytes (keeps_codes loop_script IsFirst IsFirst has_codes input);
}
