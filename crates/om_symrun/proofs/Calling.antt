-- System calls over states.
use Rattle.std.proofs.Common.{◌≡◌, ◌≤◌, ◌⊎◌, ℕ, zero, suc, ◌+◌, List, [], ◌∷◌, ◌++◌, length, take, drop, true, false, Option, Some, None, Ok, Err, refl, ap, sym, subst, ◌∙◌, append_assoc, inl, inr, arith, length-take, length-drop}
use Rattle.std.proofs.lemmas.List.{take-append-drop}
use Rattle.om_io.specs.Outside.{IsFrontOf}
use Rattle.om_isa.specs.SystemCall as call
use Rattle.om_value.specs.declared.value.Region.{Region}
use Rattle.om_value.specs.declared.value.Value.{Value}
use Rattle.om_value.specs.declared.value.Value.TheVariants.{Num, Ptr}
use Rattle.om_value.specs.declared.value.Region.TheVariants.{Heap}
use Rattle.om_prog.specs.Step.{SymState, answers, calls, resizes}
use Rattle.om_symrun.specs.RegionCells.{RegionCells, Regions}
use Rattle.om_symrun.specs.Memory.{cells_for, count_of, memory_size, heap_size}
use Rattle.om_symrun.specs.Streams.{Told, Tells, TellsText, Puts, Takes}
use Rattle.om_symrun.specs.View.{View, state_of}
use Rattle.om_symrun.specs.Calls.{IsState, FailsToTake, FailsToPut, took, bytes_of_region, region_bytes}
use Rattle.om_symrun.proofs.States.{with_memory, took_state}

drop_past : (n : ℕ) (xs : List ℕ) → length xs ≤ n → drop n xs ≡ []
drop_past zero [] h = refl
drop_past (suc n) [] h = refl
drop_past zero (x ∷ xs) h = absurd (omega arith)
drop_past (suc n) (x ∷ xs) h = drop_past n xs (omega arith)

take_past : (n : ℕ) (xs : List ℕ) → length xs ≤ n → take n xs ≡ xs
take_past zero [] h = refl
take_past (suc n) [] h = refl
take_past zero (x ∷ xs) h = absurd (omega arith)
take_past (suc n) (x ∷ xs) h = ap (λ ys. x ∷ ys) (take_past n xs (omega arith))

-- what was taken is what was asked for, or all
record IsWhole (count taken : ℕ) (xs : List ℕ) : Type 0 where
  bytes : take taken xs ≡ take count xs
  number : taken ≡ length (take count xs)

whole : (count taken : ℕ) (xs : List ℕ) → taken ≤ length xs → (taken ≡ count) ⊎ ((taken ≤ count) × (taken ≡ length xs)) → IsWhole count taken xs
whole count taken xs few (inl e) =
    record {
      bytes = ap (λ n. take n xs) e;
      number = let n = length-take count xs in omega (arith, n);
    }
whole count taken xs few (inr p) =
    record {
      bytes = take_past taken xs (omega (arith, p.1)) ∙ sym (take_past count xs (omega (arith, p.0, p.1)));
      number = let n = length-take count xs in omega (arith, n, p.0, p.1);
    }

module _ (v w : View) (m : Regions) (region : Region) (at count : ℕ) (before left : Option (List ℕ)) (told_out told_err : Told) where
  take_at :
      (i o e : List ℕ) (taken : ℕ) → ((i o e : List ℕ) → state_of w i o e ≡ answers (state_of (with_memory v m) i o e) v.place (Num taken) 0) →
      Takes {E = ℕ} v.memory m region at count i left (Ok taken) → Tells told_out o → Tells told_err e →
      IsState w left told_out told_err (calls (state_of v i o e) v.place (call.Takes count) (Ptr region at))
  take_at i o e taken answered t out err =
      let all = whole count taken i t.0.enough t.1 in
      let n = length (take count i) in
      let same = took_state v m region at (take taken i) i o e (drop n i) t.0.writes in
      record {
        machine =
            answered (drop n i) o e
            ∙ ap (λ (s : SymState). answers s v.place (Num taken) 0) same
            ∙ ap (λ (bytes : List ℕ). answers (took (state_of v i o e) (Ptr region at) bytes (drop n i)) v.place (Num taken) 0) all.bytes
            ∙ ap (λ (k : ℕ). answers (took (state_of v i o e) (Ptr region at) (take count i) (drop n i)) v.place (Num k) 0) all.number;
        input = t.0.rest ∙ ap (λ (k : ℕ). Some (drop k i)) all.number;
        out = out;
        err = err;
      }

  pub takes :
      (s : SymState) (taken : ℕ) (a1 : Value) → a1 ≡ Ptr region at →
      ((i o e : List ℕ) → state_of w i o e ≡ answers (state_of (with_memory v m) i o e) v.place (Num taken) 0) →
      Takes {E = ℕ} v.memory m region at count s.input left (Ok taken) → IsState v before told_out told_err s →
      IsState w left told_out told_err (calls s s.place (call.Takes count) a1)
  takes s taken a1 here answered t h =
      subst (λ (x : Value). IsState w left told_out told_err (calls s s.place (call.Takes count) x)) (sym here)
      (subst (λ (x : SymState). IsState w left told_out told_err (calls x x.place (call.Takes count) (Ptr region at))) h.machine
      (take_at s.input s.out s.err taken answered t h.out h.err))

  fail_at :
      (i o e : List ℕ) → ((i o e : List ℕ) → state_of w i o e ≡ state_of (with_memory v m) i o e) →
      Takes {E = Unit {0}} v.memory m region at count i left (Err tt) → Tells told_out o → Tells told_err e →
      FailsToTake (call.Takes count) (Ptr region at) (state_of v i o e) w left told_out told_err
  fail_at i o e same t out err =
      let k = t.0 in
      let n = length-take k i in
      record {
        count = count;
        bytes = take k i;
        rest = drop k i;
        asked = refl;
        few = omega (arith, n, t.1);
        split = sym (take-append-drop k i);
        state =
            record {
              machine = same (drop k i) o e ∙ took_state v m region at (take k i) i o e (drop k i) t.2.writes;
              input = t.2.rest;
              out = out;
              err = err;
            };
      }

  pub fails :
      (s : SymState) (a1 : Value) → a1 ≡ Ptr region at →
      ((i o e : List ℕ) → state_of w i o e ≡ state_of (with_memory v m) i o e) →
      Takes {E = Unit {0}} v.memory m region at count s.input left (Err tt) → IsState v before told_out told_err s →
      FailsToTake (call.Takes count) a1 s w left told_out told_err
  fails s a1 here same t h =
      subst (λ (x : Value). FailsToTake (call.Takes count) x s w left told_out told_err) (sym here)
      (subst (λ (x : SymState). FailsToTake (call.Takes count) (Ptr region at) x w left told_out told_err) h.machine
      (fail_at s.input s.out s.err same t h.out h.err))

-- how many bytes a range has
count_range : (o : Option RegionCells) (at n : ℕ) → at + n ≤ count_of o → length (bytes_of_region o at n) ≡ n
count_range (Some c) at n fits =
    let a = length-take n (drop at c.bytes) in
    let b = length-drop at c.bytes in
    omega (arith, a, b)
count_range None at n fits =
    let empty : List ℕ = [] in
    let a = length-take n (drop at empty) in
    let b = length-drop at empty in
    omega (arith, a, b)

pub length-region_bytes : (m : Regions) (r : Region) (at n : ℕ) → at + n ≤ memory_size m r → length (region_bytes m r at n) ≡ n
length-region_bytes m r at n fits = count_range (cells_for m r) at n fits

-- a sink told what was put, or a front of it
told_put : (tells : Option (List ℕ)) (old new : Option (List ℕ)) (text bytes : List ℕ) → ((xs : List ℕ) → old ≡ Some xs → Puts xs new bytes true) → TellsText tells old text → TellsText tells new (text ++ bytes)
told_put (Some before) old new text bytes put told =
    put (before ++ text) told ∙ ap Some (append_assoc before text bytes)
told_put None old new text bytes put told = tt

record IsFront (tells : Option (List ℕ)) (new : Option (List ℕ)) (text bytes : List ℕ) : Type 0 where
  front : List ℕ
  is_front : IsFrontOf front bytes
  told : TellsText tells new (text ++ front)

told_front : (tells : Option (List ℕ)) (old new : Option (List ℕ)) (text bytes : List ℕ) → ((xs : List ℕ) → old ≡ Some xs → Puts xs new bytes false) → TellsText tells old text → IsFront tells new text bytes
told_front (Some before) old new text bytes put told =
    let p = put (before ++ text) told in
    record { front = p.0; is_front = p.1; told = p.2 ∙ ap Some (append_assoc before text p.0) }
told_front None old new text bytes put told =
    record { front = []; is_front = (bytes, refl); told = tt }

module _ (v w : View) (left : Option (List ℕ)) (tells : Option (List ℕ)) (old new : Option (List ℕ)) (other : Told) (bytes : List ℕ) (s : SymState) where
  place_is : state_of v s.input s.out s.err ≡ s → v.place ≡ s.place
  place_is e = ap (λ (x : SymState). x.place) e

  pub puts_out :
      (n : ℕ) (a1 : Value) → length bytes ≡ n → ((i o e : List ℕ) → state_of w i o e ≡ answers (state_of v i o e) v.place (Num n) 0) →
      ((xs : List ℕ) → old ≡ Some xs → Puts xs new bytes true) → IsState v left (tells, old) other s →
      IsState w left (tells, new) other (calls s s.place (call.Puts 1 bytes) a1)
  puts_out n a1 count answered put h =
      record {
        machine =
            answered s.input (s.out ++ bytes) s.err
            ∙ ap (λ (x : SymState). answers (record x { out = s.out ++ bytes }) v.place (Num n) 0) h.machine
            ∙ ap (λ p. answers (record s { out = s.out ++ bytes }) p (Num n) 0) (place_is h.machine)
            ∙ ap (λ k. answers (record s { out = s.out ++ bytes }) s.place (Num k) 0) (sym count);
        input = h.input;
        out = told_put tells old new s.out bytes put h.out;
        err = h.err;
      }

  pub puts_err :
      (n : ℕ) (a1 : Value) → length bytes ≡ n → ((i o e : List ℕ) → state_of w i o e ≡ answers (state_of v i o e) v.place (Num n) 0) →
      ((xs : List ℕ) → old ≡ Some xs → Puts xs new bytes true) → IsState v left other (tells, old) s →
      IsState w left other (tells, new) (calls s s.place (call.Puts 2 bytes) a1)
  puts_err n a1 count answered put h =
      record {
        machine =
            answered s.input s.out (s.err ++ bytes)
            ∙ ap (λ (x : SymState). answers (record x { err = s.err ++ bytes }) v.place (Num n) 0) h.machine
            ∙ ap (λ p. answers (record s { err = s.err ++ bytes }) p (Num n) 0) (place_is h.machine)
            ∙ ap (λ k. answers (record s { err = s.err ++ bytes }) s.place (Num k) 0) (sym count);
        input = h.input;
        out = h.out;
        err = told_put tells old new s.err bytes put h.err;
      }

  pub fails_out : w ≡ v → ((xs : List ℕ) → old ≡ Some xs → Puts xs new bytes false) → IsState v left (tells, old) other s → FailsToPut (call.Puts 1 bytes) s w left (tells, new) other
  fails_out same put h =
      let f = told_front tells old new s.out bytes put h.out in
      record {
        descriptor = 1;
        bytes = bytes;
        front = f.front;
        asked = refl;
        is_front = f.is_front;
        state =
            record {
              machine =
                  ap (λ (x : View). state_of x s.input (s.out ++ f.front) s.err) same
                  ∙ ap (λ (x : SymState). record x { out = s.out ++ f.front }) h.machine;
              input = h.input;
              out = f.told;
              err = h.err;
            };
      }

  pub fails_err : w ≡ v → ((xs : List ℕ) → old ≡ Some xs → Puts xs new bytes false) → IsState v left other (tells, old) s → FailsToPut (call.Puts 2 bytes) s w left other (tells, new)
  fails_err same put h =
      let f = told_front tells old new s.err bytes put h.err in
      record {
        descriptor = 2;
        bytes = bytes;
        front = f.front;
        asked = refl;
        is_front = f.is_front;
        state =
            record {
              machine =
                  ap (λ (x : View). state_of x s.input s.out (s.err ++ f.front)) same
                  ∙ ap (λ (x : SymState). record x { err = s.err ++ f.front }) h.machine;
              input = h.input;
              out = h.out;
              err = f.told;
            };
      }

module _ (v w : View) (left : Option (List ℕ)) (told_out told_err : Told) (s : SymState) (h : IsState v left told_out told_err s) where
  here : v.place ≡ s.place
  here = ap (λ (x : SymState). x.place) h.machine

  pub answers_state : (v0 : Value) (a3 : ℕ) → ((i o e : List ℕ) → state_of w i o e ≡ answers (state_of v i o e) v.place v0 a3) → IsState w left told_out told_err (answers s s.place v0 a3)
  answers_state v0 a3 answered =
      record {
        machine =
            answered s.input s.out s.err
            ∙ ap (λ (x : SymState). answers x v.place v0 a3) h.machine
            ∙ ap (λ p. answers s p v0 a3) here;
        input = h.input;
        out = h.out;
        err = h.err;
      }

  pub heap_end_state : (size : ℕ) → size ≡ heap_size v.memory → ((i o e : List ℕ) → state_of w i o e ≡ answers (state_of v i o e) v.place (Ptr Heap size) 0) → IsState w left told_out told_err (answers s s.place (Ptr Heap (heap_size v.memory)) 0)
  heap_end_state size is answered =
      subst (λ n. IsState w left told_out told_err (answers s s.place (Ptr Heap n) 0)) is (answers_state (Ptr Heap size) 0 answered)

  pub resizes_state : (size : ℕ) → ((i o e : List ℕ) → state_of w i o e ≡ resizes (state_of v i o e) v.place size) → IsState w left told_out told_err (resizes s s.place size)
  resizes_state size resized =
      record {
        machine =
            resized s.input s.out s.err
            ∙ ap (λ (x : SymState). resizes x v.place size) h.machine
            ∙ ap (λ p. resizes s p size) here;
        input = h.input;
        out = h.out;
        err = h.err;
      }

  pub same_state_is : ((i o e : List ℕ) → state_of w i o e ≡ state_of v i o e) → IsState w left told_out told_err s
  same_state_is same =
      record { machine = same s.input s.out s.err ∙ h.machine; input = h.input; out = h.out; err = h.err }
