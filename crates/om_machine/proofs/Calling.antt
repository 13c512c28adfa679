-- System calls over states.
use Rattle.std.proofs.Common.{◌≡◌, ◌≤◌, ◌⊎◌, ℕ, zero, suc, ◌+◌, List, [], ◌∷◌, ◌++◌, length, take, drop, true, false, Option, Some, None, Ok, Err, refl, ap, sym, subst, ◌∙◌, append_assoc, inl, inr, arith, length-take}
use Rattle.std.proofs.lemmas.List.{take-append-drop}
use Rattle.om_io.specs.Outside.{IsFrontOf}
use Rattle.om_isa.specs.SystemCall as call
use Rattle.om_image.specs.NumState.{NumState}
use Rattle.om_image.specs.NumAccess.{written, bytes_from}
use Rattle.om_image.specs.NumStep.{answers, calls, takes_to, puts_on}
use Rattle.om_machine.specs.Mapped.{Mapped}
use Rattle.om_machine.specs.Memory.{memory_of}
use Rattle.om_machine.specs.Streams.{Told, Tells, TellsText, Puts, Takes}
use Rattle.om_machine.specs.View.{View, state_of}
use Rattle.om_machine.specs.Calls.{IsState, FailsToTake, FailsToPut}
use mathlib.Core.Path.{fun_ext}

drop_past : (n : ℕ) (xs : List ℕ) → length xs ≤ n → drop n xs ≡ []
drop_past zero [] h = refl
drop_past (suc n) [] h = refl
drop_past zero (x ∷ xs) h = absurd (omega arith)
drop_past (suc n) (x ∷ xs) h = drop_past n xs (omega arith)

take_past : (n : ℕ) (xs : List ℕ) → length xs ≤ n → take n xs ≡ xs
take_past zero [] h = refl
take_past (suc n) [] h = refl
take_past zero (x ∷ xs) h = absurd (omega arith)
take_past (suc n) (x ∷ xs) h = ap (λ ys. x ∷ ys) (take_past n xs (omega arith))

-- what was taken is what was asked for, or all
record IsWhole (count taken : ℕ) (xs : List ℕ) : Type 0 where
  bytes : take taken xs ≡ take count xs
  rest : drop taken xs ≡ drop count xs
  number : taken ≡ length (take count xs)

whole : (count taken : ℕ) (xs : List ℕ) → taken ≤ length xs → (taken ≡ count) ⊎ ((taken ≤ count) × (taken ≡ length xs)) → IsWhole count taken xs
whole count taken xs few (inl e) =
    record {
      bytes = ap (λ n. take n xs) e;
      rest = ap (λ n. drop n xs) e;
      number = let n = length-take count xs in omega (arith, n);
    }
whole count taken xs few (inr p) =
    record {
      bytes = take_past taken xs (omega (arith, p.1)) ∙ sym (take_past count xs (omega (arith, p.0, p.1)));
      rest = drop_past taken xs (omega (arith, p.1)) ∙ sym (drop_past count xs (omega (arith, p.0, p.1)));
      number = let n = length-take count xs in omega (arith, n, p.0, p.1);
    }

-- a memory that took bytes, in a state
took : (v : View) (m : Mapped) (a1 : ℕ) (bytes : List ℕ) (i o e : List ℕ) → m.heap_size ≡ v.memory.heap_size → ((a : ℕ) → memory_of m a ≡ written (memory_of v.memory) (a1, bytes) a) → (r i' : List ℕ) → state_of (record v { memory = m }) r o e ≡ takes_to (state_of v i o e) a1 bytes r
took v m a1 bytes i o e size places r i' =
    let p : memory_of m ≡ written (memory_of v.memory) (a1, bytes) = fun_ext places in
    cc (p, size)

module _ (v w : View) (m : Mapped) (a1 count : ℕ) (before left : Option (List ℕ)) (told_out told_err : Told) (size : m.heap_size ≡ v.memory.heap_size) where
  take_at : (i o e : List ℕ) (taken : ℕ) → ((i o e : List ℕ) → state_of w i o e ≡ answers (state_of (record v { memory = m }) i o e) taken 0) → Takes {E = ℕ} v.memory m a1 count i left (Ok taken) → Tells told_out o → Tells told_err e → IsState w left told_out told_err (answers (takes_to (state_of v i o e) a1 (take count i) (drop count i)) (length (take count i)) 0)
  take_at i o e taken answered t out err =
      let all = whole count taken i t.0.enough t.1 in
      let same = took v m a1 (take count i) i o e size (λ a. t.0.places a ∙ ap (λ bytes. written (memory_of v.memory) (a1, bytes) a) all.bytes) (drop count i) i in
      record {
        machine = answered (drop count i) o e ∙ ap (λ s. answers s taken 0) same ∙ ap (λ n. answers (takes_to (state_of v i o e) a1 (take count i) (drop count i)) n 0) all.number;
        input = t.0.rest ∙ ap Some all.rest;
        out = out;
        err = err;
      }

  pub takes : (s : NumState) (taken : ℕ) → ((i o e : List ℕ) → state_of w i o e ≡ answers (state_of (record v { memory = m }) i o e) taken 0) → Takes {E = ℕ} v.memory m a1 count s.input left (Ok taken) → IsState v before told_out told_err s → IsState w left told_out told_err (answers (takes_to s a1 (take count s.input) (drop count s.input)) (length (take count s.input)) 0)
  takes s taken answered t h =
      subst (λ (x : NumState). IsState w left told_out told_err (answers (takes_to x a1 (take count x.input) (drop count x.input)) (length (take count x.input)) 0)) h.machine (take_at s.input s.out s.err taken answered t h.out h.err)

  fail_at : (i o e : List ℕ) → ((i o e : List ℕ) → state_of w i o e ≡ state_of (record v { memory = m }) i o e) → Takes {E = Unit {0}} v.memory m a1 count i left (Err tt) → Tells told_out o → Tells told_err e → FailsToTake (call.Takes count) a1 (state_of v i o e) w left told_out told_err
  fail_at i o e same t out err =
      let k = t.0 in
      let n = length-take k i in
      record {
        count = count;
        bytes = take k i;
        rest = drop k i;
        asked = refl;
        few = omega (arith, n, t.1);
        split = sym (take-append-drop k i);
        state =
            record {
              machine = same (drop k i) o e ∙ took v m a1 (take k i) i o e size t.2.places (drop k i) i;
              input = t.2.rest;
              out = out;
              err = err;
            };
      }

  pub fails : (s : NumState) → ((i o e : List ℕ) → state_of w i o e ≡ state_of (record v { memory = m }) i o e) → Takes {E = Unit {0}} v.memory m a1 count s.input left (Err tt) → IsState v before told_out told_err s → FailsToTake (call.Takes count) a1 s w left told_out told_err
  fails s same t h =
      subst (λ (x : NumState). FailsToTake (call.Takes count) a1 x w left told_out told_err) h.machine (fail_at s.input s.out s.err same t h.out h.err)

pub length-bytes_from : (f : ℕ → ℕ) (a n : ℕ) → length (bytes_from f a n) ≡ n
length-bytes_from f a zero = refl
length-bytes_from f a (suc n) = let r = length-bytes_from f (a + 1) n in omega (arith, r)

-- a sink told what was put, or a front of it
told_put : (tells : Option (List ℕ)) (old new : Option (List ℕ)) (text bytes : List ℕ) → ((xs : List ℕ) → old ≡ Some xs → Puts xs new bytes true) → TellsText tells old text → TellsText tells new (text ++ bytes)
told_put (Some before) old new text bytes put told =
    put (before ++ text) told ∙ ap Some (append_assoc before text bytes)
told_put None old new text bytes put told = tt

record IsFront (tells : Option (List ℕ)) (new : Option (List ℕ)) (text bytes : List ℕ) : Type 0 where
  front : List ℕ
  is_front : IsFrontOf front bytes
  told : TellsText tells new (text ++ front)

told_front : (tells : Option (List ℕ)) (old new : Option (List ℕ)) (text bytes : List ℕ) → ((xs : List ℕ) → old ≡ Some xs → Puts xs new bytes false) → TellsText tells old text → IsFront tells new text bytes
told_front (Some before) old new text bytes put told =
    let p = put (before ++ text) told in
    record { front = p.0; is_front = p.1; told = p.2 ∙ ap Some (append_assoc before text p.0) }
told_front None old new text bytes put told =
    record { front = []; is_front = (bytes, refl); told = tt }

module _ (v w : View) (left : Option (List ℕ)) (tells : Option (List ℕ)) (old new : Option (List ℕ)) (other : Told) (bytes : List ℕ) (s : NumState) where
  pub puts_out : (n : ℕ) → length bytes ≡ n → ((i o e : List ℕ) → state_of w i o e ≡ answers (state_of v i o e) n 0) → ((xs : List ℕ) → old ≡ Some xs → Puts xs new bytes true) → IsState v left (tells, old) other s → IsState w left (tells, new) other (answers (puts_on s 1 bytes) (length bytes) 0)
  puts_out n count answered put h =
      record {
        machine =
            answered s.input (s.out ++ bytes) s.err
            ∙ ap (λ (x : NumState). answers (record x { out = s.out ++ bytes }) n 0) h.machine
            ∙ ap (λ k. answers (record s { out = s.out ++ bytes }) k 0) (sym count);
        input = h.input;
        out = told_put tells old new s.out bytes put h.out;
        err = h.err;
      }

  pub puts_err : (n : ℕ) → length bytes ≡ n → ((i o e : List ℕ) → state_of w i o e ≡ answers (state_of v i o e) n 0) → ((xs : List ℕ) → old ≡ Some xs → Puts xs new bytes true) → IsState v left other (tells, old) s → IsState w left other (tells, new) (answers (puts_on s 2 bytes) (length bytes) 0)
  puts_err n count answered put h =
      record {
        machine =
            answered s.input s.out (s.err ++ bytes)
            ∙ ap (λ (x : NumState). answers (record x { err = s.err ++ bytes }) n 0) h.machine
            ∙ ap (λ k. answers (record s { err = s.err ++ bytes }) k 0) (sym count);
        input = h.input;
        out = h.out;
        err = told_put tells old new s.err bytes put h.err;
      }

  pub fails_out : w ≡ v → ((xs : List ℕ) → old ≡ Some xs → Puts xs new bytes false) → IsState v left (tells, old) other s → FailsToPut (call.Puts 1 bytes) s w left (tells, new) other
  fails_out same put h =
      let f = told_front tells old new s.out bytes put h.out in
      record {
        descriptor = 1;
        bytes = bytes;
        front = f.front;
        asked = refl;
        is_front = f.is_front;
        state =
            record {
              machine =
                  ap (λ x. state_of x s.input (s.out ++ f.front) s.err) same
                  ∙ ap (λ (x : NumState). record x { out = s.out ++ f.front }) h.machine;
              input = h.input;
              out = f.told;
              err = h.err;
            };
      }

  pub fails_err : w ≡ v → ((xs : List ℕ) → old ≡ Some xs → Puts xs new bytes false) → IsState v left other (tells, old) s → FailsToPut (call.Puts 2 bytes) s w left other (tells, new)
  fails_err same put h =
      let f = told_front tells old new s.err bytes put h.err in
      record {
        descriptor = 2;
        bytes = bytes;
        front = f.front;
        asked = refl;
        is_front = f.is_front;
        state =
            record {
              machine =
                  ap (λ x. state_of x s.input s.out (s.err ++ f.front)) same
                  ∙ ap (λ (x : NumState). record x { err = s.err ++ f.front }) h.machine;
              input = h.input;
              out = h.out;
              err = f.told;
            };
      }

module _ (v w : View) (left : Option (List ℕ)) (told_out told_err : Told) (s : NumState) where
  pub answers_state : (v0 a3 : ℕ) → ((i o e : List ℕ) → state_of w i o e ≡ answers (state_of v i o e) v0 a3) → IsState v left told_out told_err s → IsState w left told_out told_err (answers s v0 a3)
  answers_state v0 a3 answered h =
      record {
        machine = answered s.input s.out s.err ∙ ap (λ (x : NumState). answers x v0 a3) h.machine;
        input = h.input;
        out = h.out;
        err = h.err;
      }

  pub resizes_state : (size a1 : ℕ) → ((i o e : List ℕ) → state_of w i o e ≡ calls (state_of v i o e) (call.Resizes size) 0) → IsState v left told_out told_err s → IsState w left told_out told_err (calls s (call.Resizes size) a1)
  resizes_state size a1 answered h =
      record {
        machine = answered s.input s.out s.err ∙ ap (λ (x : NumState). calls x (call.Resizes size) 0) h.machine;
        input = h.input;
        out = h.out;
        err = h.err;
      }
