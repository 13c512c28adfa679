-- Effects that agree keep the states together.
use Rattle.std.proofs.Common.{◌≡◌, ◌⊎◌, inl, inr, ℕ, zero, suc, ◌+◌, ◌-◌, ◌^◌, ◌<◌, ◌≤◌, Bool, true, false, cond, not, ◌&&◌, ◌==◌, nat_lt, nat_le, List, [], ◌∷◌, length, map, take, drop, Some, None, refl, ap, sym as back, subst, ◌∙◌, arith, slice_index, slice_index_or}
use Rattle.std.proofs.lemmas.List.{length-map}
use Rattle.std.proofs.lemmas.Bool.{eqb-true, eqb-false, ltb-true}
use Rattle.std.proofs.lemmas.Bool.Decides.{nat_tests}
use Rattle.om_isa.specs.Effect.{Nothing, Set, Store, Jump, Stop, Calls, StepObserves}
use Rattle.om_isa.specs.SystemCall.{Call, Exits, Answers, Puts, Takes, HeapEnd, Resizes, CallObserves, heap_limit}
use Rattle.om_value.specs.declared.value.Place.{Place}
use Rattle.om_value.specs.declared.value.Region.{Region}
use Rattle.om_value.specs.declared.value.Region.TheVariants.{Sec, Common, Stack, Heap}
use Rattle.om_value.specs.declared.value.Value.{Value}
use Rattle.om_value.specs.declared.value.Value.TheVariants.{Num, Ptr, Code, Gp, Half, GpOff}
use Rattle.om_value.specs.Same.{region_eq}
use Rattle.om_prog.specs.Cells.{store_cells, Cell, Byte}
use Rattle.om_prog.specs.Act.{Script}
use Rattle.om_prog.specs.Step as sym
use Rattle.om_prog.specs.Step.{SymState, SymEnd, SymEffect, ExitedWith, TrappedAt, ObservedAt, read_reg, write_reg, sized, next_place}
use Rattle.om_image.specs.declared.image.Image.{Image}
use Rattle.om_image.specs.NumState.{heap_base, NumState, Exited, Trapped, with_register}
use Rattle.om_image.specs.NumStep as num
use Rattle.om_image.specs.NumStep.{NumEffect, num_step, num_start, start_registers, data_size, is_text, start_memory}
use Rattle.om_image.specs.NumAccess as moved
use Rattle.om_image.specs.NumAccess.{written}
use Rattle.om_lockstep.specs.Addresses.{Addresses, IsValue, IsCell, number_of_value, ptr_number}
use Rattle.om_lockstep.specs.Goes.{cell_byte, MemoryAlike, IsFixed, most_of, IsLowered, SameStreams, GoesWith, Goes, CallAlike, EffectAlike, NeedsNext}
use Rattle.om_lockstep.specs.Forms.{IsEncoded}
use Rattle.om_lockstep.proofs.Memory.{AreCells, after_write, store_alike, store_fixed}
use Rattle.om_lockstep.proofs.Agree.{sized_most}

-- ---- lists of bytes

take_small : (m : ℕ) (xs : List ℕ) → ((k : ℕ) → slice_index xs k < 256) → (k : ℕ) → slice_index (take m xs) k < 256
take_small zero xs h k = omega arith
take_small (suc m) [] h k = omega arith
take_small (suc m) (x ∷ xs) h zero = h zero
take_small (suc m) (x ∷ xs) h (suc k) = take_small m xs (λ j. h (suc j)) k

drop_small : (m : ℕ) (xs : List ℕ) → ((k : ℕ) → slice_index xs k < 256) → (k : ℕ) → slice_index (drop m xs) k < 256
drop_small zero xs h k = h k
drop_small (suc m) [] h k = omega arith
drop_small (suc m) (x ∷ xs) h k = drop_small m xs (λ j. h (suc j)) k

bytes_cells : (l : Addresses) (bs : List ℕ) → ((k : ℕ) → slice_index bs k < 256) → AreCells l (map (λ b. Byte b) bs)
bytes_cells l [] h k = omega arith
bytes_cells l (b ∷ bs) h zero = h zero
bytes_cells l (b ∷ bs) h (suc k) = bytes_cells l bs (λ j. h (suc j)) k

bytes_same : (l : Addresses) (bs : List ℕ) → map (cell_byte l) (map (λ b. Byte b) bs) ≡ bs
bytes_same l [] = refl
bytes_same l (b ∷ bs) = ap (λ (xs : List ℕ). b ∷ xs) (bytes_same l bs)

take_length : (m : ℕ) (xs : List ℕ) → length (take m xs) ≤ m
take_length zero xs = omega arith
take_length (suc m) [] = omega arith
take_length (suc m) (x ∷ xs) = let h = take_length m xs in omega arith

-- what is left behind what was taken
drop_taken : (m : ℕ) (xs : List ℕ) → drop (length (take m xs)) xs ≡ drop m xs
drop_taken zero xs = refl
drop_taken (suc m) [] = refl
drop_taken (suc m) (x ∷ xs) = drop_taken m xs

in_range : (a low high : ℕ) → (nat_le low a && nat_lt a high) ≡ true → (low ≤ a) × (a < high)
in_range a low high e = grind (arith, nat_tests)

shifted_test : (b x n : ℕ) → nat_lt (b + x) (b + n) ≡ nat_lt x n
shifted_test b x n = grind (arith, nat_tests)

-- ---- cells after a write are cells

cells_written : (l : Addresses) (cells : Region → ℕ → Cell) (r : Region) (x : ℕ) (cs : List Cell) → ((s : Region) (y : ℕ) → IsCell l (cells s y)) → AreCells l cs → (s : Region) (y : ℕ) → IsCell l (after_write cells r x cs s y)
cells_written l cells r x cs h k s y = by_region (region_eq s r)
  where
    by_range : (b : Bool) → IsCell l (cond b (slice_index_or cs (y - x) (Byte 0)) (cells s y))
    by_range true = k (y - x)
    by_range false = h s y

    by_region : (b : Bool) → IsCell l (cond b (store_cells (cells s) x cs y) (cells s y))
    by_region true = by_range (nat_le x y && nat_lt y (x + length cs))
    by_region false = h s y

module _ (c : Script) (l : Addresses) (i : Image) (K G : Place → Type 0) (enc : IsEncoded c l i K G) where
  -- ---- registers

  pub reg_written : (regs : ℕ → Value) (numbers : ℕ → ℕ) (r : ℕ) (v : Value) (n : ℕ) → ((x : ℕ) → numbers x ≡ number_of_value l (regs x)) → (r ≡ 31) ⊎ (n ≡ number_of_value l v) → (x : ℕ) → with_register numbers r n x ≡ number_of_value l (write_reg regs r v x)
  reg_written regs numbers r v n h e x = by_tests (x == r) (r == 31) refl
    where
      by_given : (r == 31) ≡ false → (r ≡ 31) ⊎ (n ≡ number_of_value l v) → n ≡ number_of_value l v
      by_given z (inl e) = absurd (eqb-false r 31 z e)
      by_given z (inr e) = e

      by_tests : (p q : Bool) → (r == 31) ≡ q → cond (p && not q) n (numbers x) ≡ number_of_value l (cond (p && not q) v (regs x))
      by_tests true true z = h x
      by_tests true false z = by_given z e
      by_tests false q z = h x

  pub value_written : (regs : ℕ → Value) (r : ℕ) (v : Value) → ((x : ℕ) → IsValue (regs x)) → IsValue v → (x : ℕ) → IsValue (write_reg regs r v x)
  value_written regs r v h hv x = by_test ((x == r) && not (r == 31))
    where
      by_test : (b : Bool) → IsValue (cond b v (regs x))
      by_test true = hv
      by_test false = h x

  module _ (s : SymState) (t : NumState) (going : s.ended ≡ None) (low : IsLowered c l (start_memory i) s t) (at : Place) (pc : t.pc ≡ l.code at) where
    abbrev Follows : Type 0
    Follows = l.code (next_place at) ≡ l.code at + 4

    next_is : Follows → t.pc + 4 ≡ l.code (next_place at)
    next_is f = omega (arith, pc, f)

    -- a state that has not ended goes on by its numbers
    goes : (u : SymState) (w : NumState) → u.ended ≡ None → IsLowered c l (start_memory i) u w → Goes c l (start_memory i) u w
    goes u w e h = subst (λ o. GoesWith c l (start_memory i) o u w) (back e) h

    at_most : (r : Region) → sized c.sizes s.heap r ≤ most_of c r
    at_most = sized_most c.sizes s.heap low.heap_small

    -- registers and the place change
    set_low : (r : ℕ) (v : Value) (n : ℕ) (to : Place) (a : ℕ) → IsValue v → (r ≡ 31) ⊎ (n ≡ number_of_value l v) → a ≡ l.code to → IsLowered c l (start_memory i) (record s { place = to; regs = write_reg s.regs r v }) (record t { pc = a; registers = with_register t.registers r n })
    set_low r v n to a hv e f = record {
      running = low.running;
      regs = reg_written s.regs t.registers r v n low.regs e;
      values = value_written s.regs r v low.values hv;
      cells = low.cells;
      place = f;
      memory = low.memory;
      fixed = low.fixed;
      heap = low.heap;
      heap_small = low.heap_small;
      input = low.input;
      out = low.out;
      err = low.err;
      taken = low.taken;
    }

    place_low : (to : Place) (a : ℕ) → a ≡ l.code to → IsLowered c l (start_memory i) (record s { place = to }) (record t { pc = a })
    place_low to a f = record {
      running = low.running;
      regs = low.regs;
      values = low.values;
      cells = low.cells;
      place = f;
      memory = low.memory;
      fixed = low.fixed;
      heap = low.heap;
      heap_small = low.heap_small;
      input = low.input;
      out = low.out;
      err = low.err;
      taken = low.taken;
    }

    -- a number is written to register 31, and lost
    lost_low : (n : ℕ) (to : Place) (a : ℕ) → a ≡ l.code to → IsLowered c l (start_memory i) (record s { place = to }) (record t { pc = a; registers = with_register t.registers 31 n })
    lost_low n to a f = record {
      running = low.running;
      regs = λ x. lost x (x == 31) ∙ low.regs x;
      values = low.values;
      cells = low.cells;
      place = f;
      memory = low.memory;
      fixed = low.fixed;
      heap = low.heap;
      heap_small = low.heap_small;
      input = low.input;
      out = low.out;
      err = low.err;
      taken = low.taken;
    }
      where
        lost : (x : ℕ) (b : Bool) → cond (b && false) n (t.registers x) ≡ t.registers x
        lost x true = refl
        lost x false = refl

    -- a write into a region
    record Wrote (r : Region) (x : ℕ) (cs : List Cell) (bs : List ℕ) (a : ℕ) : Type 0 where
      cells : (q : Region) (y : ℕ) → IsCell l (after_write s.cells r x cs q y)
      memory : MemoryAlike l (sized c.sizes s.heap) (after_write s.cells r x cs) (written t.memory (a, bs))
      fixed : (b : ℕ) → IsFixed l (most_of c) b → written t.memory (a, bs) b ≡ start_memory i b

    wrote : (r : Region) (x : ℕ) (cs : List Cell) (bs : List ℕ) (a : ℕ) → bs ≡ map (cell_byte l) cs → a ≡ l.region r + x → x + length cs ≤ sized c.sizes s.heap r → AreCells l cs → Wrote r x cs bs a
    wrote r x cs bs a eb ea fits hc = record {
      cells = cells_written l s.cells r x cs low.cells hc;
      memory =
          subst (λ bs. MemoryAlike l (sized c.sizes s.heap) (after_write s.cells r x cs) (written t.memory (a, bs))) (back eb)
          (subst (λ a. MemoryAlike l (sized c.sizes s.heap) (after_write s.cells r x cs) (written t.memory (a, map (cell_byte l) cs))) (back ea)
          (store_alike l (most_of c) enc.laid (sized c.sizes s.heap) at_most s.cells t.memory r x cs low.memory fits));
      fixed =
          λ b h. let n : length bs ≡ length cs = ap length eb ∙ length-map cs (cell_byte l) in
          ap (λ a. written t.memory (a, bs) b) ea
          ∙ store_fixed l (most_of c) enc.laid (sized c.sizes s.heap) at_most t.memory r x bs b (omega arith) h ∙ low.fixed b h;
    }

    store_low : (w : sym.Write) (u : moved.Write) (a : ℕ) → a ≡ l.code (next_place at) → EffectAlike l (sized c.sizes s.heap) (Store w) (Store u) → IsLowered c l (start_memory i) (record s { place = next_place at; cells = sym.writes_cells s at w }) (record t { pc = a; memory = written t.memory u })
    store_low w u a f e =
        let k = wrote w.0 w.1 w.2 u.1 u.0 (ap (λ (p : moved.Write). p.1) e.0) (ap (λ (p : moved.Write). p.0) e.0) e.1 e.2 in
        record {
          running = low.running;
          regs = low.regs;
          values = low.values;
          cells = k.cells;
          place = f;
          memory = k.memory;
          fixed = k.fixed;
          heap = low.heap;
          heap_small = low.heap_small;
          input = low.input;
          out = low.out;
          err = low.err;
          taken = low.taken;
        }

    -- ---- calls

    answered_regs : (v : Value) (n k : ℕ) → n ≡ number_of_value l v → (x : ℕ) → num.answered t n k x ≡ number_of_value l (sym.answered s at v k x)
    answered_regs v n k e =
        reg_written (write_reg s.regs 0 v) (with_register t.registers 0 n) 19 (Num k) k (reg_written s.regs t.registers 0 v n low.regs (inr e)) (inr refl)

    answered_values : (v : Value) (k : ℕ) → IsValue v → k < 2 ^ 64 → (x : ℕ) → IsValue (sym.answered s at v k x)
    answered_values v k hv hk = value_written (write_reg s.regs 0 v) 19 (Num k) (value_written s.regs 0 v low.values hv) hk

    answer_low : (v : Value) (n k a : ℕ) → a ≡ l.code (next_place at) → n ≡ number_of_value l v → IsValue v → k < 2 ^ 64 → IsLowered c l (start_memory i) (record s { place = next_place at; regs = sym.answered s at v k }) (record t { pc = a; registers = num.answered t n k })
    answer_low v n k a f e hv hk = record {
      running = low.running;
      regs = answered_regs v n k e;
      values = answered_values v k hv hk;
      cells = low.cells;
      place = f;
      memory = low.memory;
      fixed = low.fixed;
      heap = low.heap;
      heap_small = low.heap_small;
      input = low.input;
      out = low.out;
      err = low.err;
      taken = low.taken;
    }

    puts_low : (d : ℕ) (bs : List ℕ) (a : ℕ) → a ≡ l.code (next_place at) → length bs < 2 ^ 64 → IsLowered c l (start_memory i) (sym.puts s at d bs) (record (num.puts_on t d bs) { pc = a; registers = num.answered t (length bs) 0 })
    puts_low d bs a f h = record {
      running = low.running;
      regs = answered_regs (Num (length bs)) (length bs) 0 refl;
      values = answered_values (Num (length bs)) 0 h (omega arith);
      cells = low.cells;
      place = f;
      memory = low.memory;
      fixed = low.fixed;
      heap = low.heap;
      heap_small = low.heap_small;
      input = low.input;
      out = rw (low.out) refl;
      err = rw (low.err) refl;
      taken = low.taken;
    }

    takes_low : (bs : List ℕ) (r : Region) (x a b : ℕ) → a ≡ l.code (next_place at) → b ≡ l.region r + x → x + length bs ≤ sized c.sizes s.heap r → ((k : ℕ) → slice_index bs k < 256) → IsLowered c l (start_memory i) (sym.takes s at bs (Ptr r x)) (record (num.takes_to t b bs (drop (length bs) t.input)) { pc = a; registers = num.answered t (length bs) 0 })
    takes_low bs r x a b f e fits small =
        let n = length-map bs (λ b. Byte b) in
        let z = at_most r in
        let y = enc.laid.below r in
        let k = wrote r x (map (λ b. Byte b) bs) bs b (back (bytes_same l bs)) e (omega (arith, n)) (bytes_cells l bs small) in
        record {
          running = low.running;
          regs = answered_regs (Num (length bs)) (length bs) 0 refl;
          values = answered_values (Num (length bs)) 0 (omega arith) (omega arith);
          cells = k.cells;
          place = f;
          memory = k.memory;
          fixed = k.fixed;
          heap = low.heap;
          heap_small = low.heap_small;
          input = ap (drop (length bs)) low.input;
          out = low.out;
          err = low.err;
          taken = drop_small (length bs) s.input low.taken;
        }

    -- ---- the heap's size

    -- what lies below the heap stays
    kept_memory : (n a : ℕ) → a < heap_base → num.resized_memory t n a ≡ t.memory a
    kept_memory n a h = let e : nat_le heap_base a ≡ false = grind (arith, nat_tests) in rw e refl

    other_resized : (n : ℕ) (r : Region) (x : ℕ) → x < most_of c r → x < sized c.sizes s.heap r → (r ≡ Heap → ⊥) → num.resized_memory t n (l.region r + x) ≡ cell_byte l (s.cells r x)
    other_resized n r x h k other = kept_memory n (l.region r + x) (enc.low r x other h) ∙ low.memory.agrees r x k

    heap_resized : (n x : ℕ) → n ≤ heap_limit → x < n → num.resized_memory t n (l.region Heap + x) ≡ cell_byte l (sym.resized_cells s at n Heap x)
    heap_resized n x h k = ap (num.resized_memory t n) (ap (λ b. b + x) hb) ∙ by_old (nat_lt x s.heap) refl
      where
        hb : l.region Heap ≡ heap_base
        hb = enc.heap

        e0 : nat_le heap_base (heap_base + x) ≡ true
        e0 = grind (arith, nat_tests)

        e1 : heap_base + x - heap_base ≡ x
        e1 = omega arith

        e3 : nat_lt x n ≡ true
        e3 = grind (arith, nat_tests)

        e4 : nat_lt x t.heap_size ≡ nat_lt x s.heap
        e4 = ap (nat_lt x) low.heap

        inside : x < s.heap → t.memory (heap_base + x) ≡ cell_byte l (s.cells Heap x)
        inside z = ap (λ b. t.memory (b + x)) (back hb) ∙ low.memory.agrees Heap x z

        by_old : (b : Bool) → nat_lt x s.heap ≡ b → num.resized_memory t n (heap_base + x) ≡ cell_byte l (sym.resized_cells s at n Heap x)
        by_old true z = rw (e0, e1, e4, e3, z) (inside (ltb-true x s.heap z))
        by_old false z = rw (e0, e1, e4, e3, z) refl

    resized_agrees : (n : ℕ) → n ≤ heap_limit → (r : Region) (x : ℕ) → x < sized c.sizes n r → num.resized_memory t n (l.region r + x) ≡ cell_byte l (sym.resized_cells s at n r x)
    resized_agrees n h (Sec o k) x z = other_resized n (Sec o k) x z z (λ e. cc)
    resized_agrees n h (Common k) x z = other_resized n (Common k) x z z (λ e. cc)
    resized_agrees n h Stack x z = other_resized n Stack x z z (λ e. cc)
    resized_agrees n h Heap x z = heap_resized n x h z

    resized_cells : (n : ℕ) (r : Region) (x : ℕ) → IsCell l (sym.resized_cells s at n r x)
    resized_cells n (Sec o k) x = low.cells (Sec o k) x
    resized_cells n (Common k) x = low.cells (Common k) x
    resized_cells n Stack x = low.cells Stack x
    resized_cells n Heap x = by_test (nat_lt x s.heap && nat_lt x n)
      where
        by_test : (b : Bool) → IsCell l (cond b (s.cells Heap x) (Byte 0))
        by_test true = low.cells Heap x
        by_test false = omega arith

    resizes_low : (n a : ℕ) → a ≡ l.code (next_place at) → n ≤ heap_limit → IsLowered c l (start_memory i) (sym.resizes s at n) (record t { pc = a; registers = num.answered t 0 0; heap_size = n; memory = num.resized_memory t n })
    resizes_low n a f h = record {
      running = low.running;
      regs = answered_regs (Num 0) 0 0 refl;
      values = answered_values (Num 0) 0 (omega arith) (omega arith);
      cells = resized_cells n;
      place = f;
      memory = record { agrees = resized_agrees n h };
      fixed = λ b k. kept_memory n b k.below ∙ low.fixed b k;
      heap = refl;
      heap_small = h;
      input = low.input;
      out = low.out;
      err = low.err;
      taken = low.taken;
    }

    streams : SameStreams c l (start_memory i) s t
    streams = record { input = low.input; out = low.out; err = low.err }

    calls_go : (call other : Call) (v : Value) (a : ℕ) → CallAlike l (sized c.sizes s.heap) call v other a → Follows → Goes c l (start_memory i) (sym.calls s at call v) (num.calls t other a)
    calls_go CallObserves other v a h f = tt
    calls_go (Exits m) (Exits n) v a h f = (record { input = low.input; out = low.out; err = low.err }, ap (λ n. Some (Exited n)) (back h))
    calls_go (Answers m k) (Answers n j) v a h f =
        subst (λ n. Goes c l (start_memory i) (sym.answers s at (Num m) k) (num.calls t (Answers n j) a)) h.0
        (subst (λ j. Goes c l (start_memory i) (sym.answers s at (Num m) k) (num.calls t (Answers m j) a)) h.1
        (goes _ _ going (answer_low (Num m) m k (t.pc + 4) (next_is f) refl h.2 h.3)))
    calls_go (Puts d bs) (Puts e cs) v a h f =
        subst (λ e. Goes c l (start_memory i) (sym.puts s at d bs) (num.calls t (Puts e cs) a)) h.0
        (subst (λ cs. Goes c l (start_memory i) (sym.puts s at d bs) (num.calls t (Puts d cs) a)) h.1
        (goes _ _ going (puts_low d bs (t.pc + 4) (next_is f) h.2)))
    calls_go (Takes m) (Takes n) (Ptr r x) a h f =
        let same : take n t.input ≡ take m s.input = ap (λ k. take k t.input) (back h.0) ∙ ap (take m) low.input in
        let left : drop n t.input ≡ drop (length (take m s.input)) t.input = ap (λ k. drop k t.input) (back h.0) ∙ back (drop_taken m t.input) ∙ ap (λ (xs : List ℕ). drop (length (take m xs)) t.input) low.input in
        let short : length (take m s.input) ≤ m = take_length m s.input in
        subst (λ bs. Goes c l (start_memory i) (sym.takes s at (take m s.input) (Ptr r x)) (num.answers (num.takes_to t a bs (drop n t.input)) (length bs) 0)) (back same)
        (subst (λ rest. Goes c l (start_memory i) (sym.takes s at (take m s.input) (Ptr r x)) (num.answers (num.takes_to t a (take m s.input) rest) (length (take m s.input)) 0)) (back left)
        (goes _ _ going (takes_low (take m s.input) r x (t.pc + 4) a (next_is f) h.1.0 (let z = h.1.1 in omega arith) (take_small m s.input low.taken))))
    calls_go (Takes m) (Takes n) (Num x) a h f = absurd h.1
    calls_go (Takes m) (Takes n) (Code p) a h f = absurd h.1
    calls_go (Takes m) (Takes n) (Gp p) a h f = absurd h.1
    calls_go (Takes m) (Takes n) (Half p) a h f = absurd h.1
    calls_go (Takes m) (Takes n) (GpOff p g) a h f = absurd h.1
    calls_go (HeapEnd m) (HeapEnd n) v a h f =
        let k : heap_base + m ≡ ptr_number l Heap m = (let hb : l.region Heap ≡ heap_base = enc.heap in let hs = h.1 in omega arith) in
        subst (λ n. Goes c l (start_memory i) (sym.answers s at (Ptr Heap m) 0) (num.answers t (heap_base + n) 0)) h.0
        (goes _ _ going (answer_low (Ptr Heap m) (heap_base + m) 0 (t.pc + 4) (next_is f) k (let hs = h.1 in omega arith) (omega arith)))
    calls_go (Resizes m) (Resizes n) v a h f =
        subst (λ n. Goes c l (start_memory i) (sym.resizes s at m) (num.calls t (Resizes n) a)) h.0
        (goes _ _ going (resizes_low m (t.pc + 4) (next_is f) h.1))
    calls_go _ _ _ a h f = absurd h

    linked : (r : ℕ) → ((r ≡ 31 → ⊥) → Follows) → (r ≡ 31) ⊎ (t.pc + 4 ≡ l.code (next_place at))
    linked r n = by_test (r == 31) refl
      where
        by_test : (b : Bool) → (r == 31) ≡ b → (r ≡ 31) ⊎ (t.pc + 4 ≡ l.code (next_place at))
        by_test true z = inl (eqb-true r 31 z)
        by_test false z = inr (next_is (n (eqb-false r 31 z)))

    pub after_goes : (e : SymEffect) (f : NumEffect) → EffectAlike l (sized c.sizes s.heap) e f → (NeedsNext e → Follows) → Goes c l (start_memory i) (sym.after s at e) (num.after t f)
    after_goes StepObserves f h n = tt
    after_goes Nothing Nothing h n = goes _ _ going (place_low (next_place at) (t.pc + 4) (next_is (n tt)))
    after_goes Nothing (Set q k) h n =
        subst (λ q. Goes c l (start_memory i) (sym.after s at Nothing) (num.after t (Set q k))) (back h)
        (goes _ _ going (lost_low k (next_place at) (t.pc + 4) (next_is (n tt))))
    after_goes (Set r v) (Set q k) h n =
        subst (λ q. Goes c l (start_memory i) (sym.sets s at r v) (num.after t (Set q k))) (back h.0)
        (goes _ _ going (set_low r v k (next_place at) (t.pc + 4) h.1 h.2 (next_is (n tt))))
    after_goes (Store w) (Store u) h n = goes _ _ going (store_low w u (t.pc + 4) (next_is (n tt)) h)
    after_goes (Jump None q) (Jump None a) h n = goes _ _ going (place_low q a h)
    after_goes (Jump (Some r) q) (Jump (Some k) a) h n =
        subst (λ k. Goes c l (start_memory i) (sym.jumps s at (Some r) q) (num.after t (Jump (Some k) a))) (back h.0)
        (goes _ _ going (set_low r (Code (next_place at)) (t.pc + 4) q a tt (linked r (n)) h.1))
    after_goes (Stop k) (Stop m) h n = (record { input = low.input; out = low.out; err = low.err }, ap (λ k. Some (Trapped k t.pc)) (back h) ∙ ap (λ a. Some (Trapped k a)) pc)
    after_goes (Calls call v) (Calls other a) h n = calls_go call other v a h (n tt)
    after_goes _ _ h n = absurd h
