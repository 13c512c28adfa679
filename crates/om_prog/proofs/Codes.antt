-- Codes that a run holds stay places of K.
use Rattle.std.proofs.Common.{ℕ, zero, suc, ◌+◌, ◌*◌, ◌/◌, Bool, true, false, cond, ◌&&◌, ◌==◌, ◌||◌, List, [], ◌∷◌, map, Option, Some, None}
use Rattle.std.specs.Prelude.{ℤ, slice_index_or, nat_lt}
use Rattle.std.specs.Option.{option_or}
use Rattle.om_alpha.specs.declared.op.AluOp.{AluOp}
use Rattle.om_alpha.specs.declared.op.Cmp.{Cmp}
use Rattle.om_alpha.specs.declared.op.TrapKind.TheVariants as trap
use Rattle.om_isa.specs.declared.instr.MemOp.{MemOp}
use Rattle.om_isa.specs.declared.instr.MemOp.TheVariants.{Ldl}
use Rattle.om_isa.specs.declared.instr.BrOp.{BrOp}
use Rattle.om_isa.specs.declared.instr.BrOp.TheVariants.{Br, Bsr, If}
use Rattle.om_isa.specs.declared.instr.Opnd.{Opnd}
use Rattle.om_isa.specs.declared.instr.Opnd.TheVariants.{R, Lit as Literal}
use Rattle.om_isa.specs.declared.instr.Instr.{Instr}
use Rattle.om_isa.specs.declared.instr.Instr.TheVariants.{Mem, Jump as Jumps, Branch, Alu, Cmov, Misc, Fnop, Halt, Callsys}
use Rattle.om_isa.specs.declared.instr.Access.{Access}
use Rattle.om_isa.specs.declared.instr.Access.TheVariants.{Address, Load, Store as Stores}
use Rattle.om_isa.specs.Registers.{access_of}
use Rattle.om_isa.specs.Effect.{Nothing, Set, Store, Jump, Stop, StepObserves, with_value}
use Rattle.om_value.specs.declared.value.Place.{Place}
use Rattle.om_value.specs.declared.value.Region.{Region}
use Rattle.om_value.specs.declared.value.Target.{Target}
use Rattle.om_value.specs.declared.value.Target.TheVariants as target
use Rattle.om_value.specs.declared.value.Value.{Value}
use Rattle.om_value.specs.declared.value.Value.TheVariants.{Num, Ptr, Code, Gp, Half, GpOff}
use Rattle.om_value.specs.Lift.{lifted, lifted_add, lifted_condition, when, on_numbers, moves_pointer, keeps_value, distance, compares, compares_pointers, above_small, low_bits, named_bytes, from_gp, value_of}
use Rattle.om_prog.specs.Cells.{Cell, Byte, Part, bytes_of, parts_from, cells_of, cells_from, load_cells, whole_value, or_whole, all_bytes, store_cells}
use Rattle.om_prog.specs.Act.{Act, Plain, Lit, GpHi, GpLo, To, AddrLda, AddrHi, UseLo, UseGp, Wrong, Script}
use Rattle.om_prog.specs.Step.{SymState, SymEffect, Spot, Inside, Refused, Hidden, read_reg, act_effect, plain_effect, memory_effect, branch_effect, jump_effect, used_effect, operand, load, store, accessed, access_size, spot_of, size_now, region_size, overflows_on, is_number, extended, stored, needs, at_spot}
use Rattle.om_prog.specs.Within.{TargetWithin, ValueWithin, CellWithin, StateWithin, LinkWithin, ActWithin, PlainWithin, BranchWithin}

module _ (K : Place → Type 0) where
  -- ---- values

  abbrev pub OptionWithin : Option Value → Type 0
  OptionWithin None = Unit {0}
  OptionWithin (Some v) = ValueWithin K v

  within_or : (a b : Option Value) → OptionWithin a → OptionWithin b → OptionWithin (option_or a b)
  within_or None b f g = g
  within_or (Some v) b f g = f

  within_when : (b : Bool) (v : Value) → ValueWithin K v → OptionWithin (when b v)
  within_when true v f = f
  within_when false v f = tt

  number_when : (b : Bool) (n : ℕ) → OptionWithin (when b (Num n))
  number_when true n = tt
  number_when false n = tt

  pointer_when : (b : Bool) (r : Region) (x : ℕ) → OptionWithin (when b (Ptr r x))
  pointer_when true r x = tt
  pointer_when false r x = tt

  within_target : (t : Target) → TargetWithin K t → ValueWithin K (value_of t)
  within_target (target.Num n) f = tt
  within_target (target.Ptr r x) f = tt
  within_target (target.Code q) f = f

  numbers_within : (op : AluOp) (a b : Value) → OptionWithin (on_numbers op a b)
  unfolding on_numbers
  numbers_within op (Num m) (Num n) = tt
  numbers_within op a (Num n) = within_when _ (Num _) tt
  numbers_within op a b = tt

  moves_within : (op : AluOp) (a b : Value) → OptionWithin (moves_pointer op a b)
  unfolding moves_pointer
  moves_within op (Ptr r x) (Num n) = within_when _ (Ptr r _) tt
  moves_within op (Num n) (Ptr r x) = within_when _ (Ptr r _) tt
  moves_within op a b = tt

  keeps_within : (op : AluOp) (a b : Value) → ValueWithin K a → ValueWithin K b → OptionWithin (keeps_value op a b)
  unfolding keeps_value
  keeps_within op a (Num n) f g = within_when _ a f
  keeps_within op (Num n) b f g = within_when _ b g
  keeps_within op a b f g = within_when _ a f

  distance_within : (op : AluOp) (a b : Value) → OptionWithin (distance op a b)
  unfolding distance
  distance_within op (Ptr r x) (Ptr s y) = within_when _ (Num _) tt
  distance_within op a b = tt

  choice_within : (b : Bool) (o p : Option Value) → OptionWithin o → OptionWithin p → OptionWithin (cond b o p)
  choice_within true o p f g = f
  choice_within false o p f g = g

  compares_within : (c : Option Cmp) (a : Value) (m : ℕ) (b : Value) (n : ℕ) → OptionWithin (compares c a m b n)
  unfolding compares compares_pointers
  compares_within (Some c) (Ptr r x) m (Ptr s y) n = search (choice_within, number_when)
  compares_within (Some c) (Code p) m (Code q) n = within_when _ (Num _) tt
  compares_within c a m b n = tt

  above_within : (c : Option Cmp) (a : Value) (m : ℕ) (b : Value) (n : ℕ) → OptionWithin (above_small c a m b n)
  unfolding above_small
  above_within (Some c) (Num k) m b n = within_when _ (Num _) tt
  above_within (Some c) a m (Num k) n = within_when _ (Num _) tt
  above_within c a m b n = tt

  low_within : (op : AluOp) (a b : Value) → OptionWithin (low_bits op a b)
  unfolding low_bits
  low_within op (Ptr r x) (Num n) = search (within_or, number_when, pointer_when)
  low_within op (Num n) (Ptr r x) = within_when _ (Num _) tt
  low_within op a b = tt

  named_within : (op : AluOp) (a b : Value) → OptionWithin (named_bytes op a b)
  unfolding named_bytes
  named_within op (Num n) (Ptr r x) = within_when _ (Num _) tt
  named_within op a b = tt

  gp_within : (op : AluOp) (a b : Value) → ValueWithin K a → ValueWithin K b → OptionWithin (from_gp op a b)
  unfolding from_gp
  gp_within op (Gp o) (GpOff p t) f g = within_when _ (value_of t) (within_target t g)
  gp_within op (GpOff p t) (Gp o) f g = within_when _ (value_of t) (within_target t f)
  gp_within op a b f g = tt

  pub lift_within : (op : AluOp) (a : Value) (m : ℕ) (b : Value) (n : ℕ) → ValueWithin K a → ValueWithin K b → OptionWithin (lifted op a m b n)
  unfolding lifted
  lift_within op a m b n f g =
      within_or _ _ (numbers_within op a b) (within_or _ _ (moves_within op a b) (within_or _ _ (keeps_within op a b f g)
      (within_or _ _ (distance_within op a b) (within_or _ _ (compares_within _ a m b n) (within_or _ _ (above_within _ a m b n)
      (within_or _ _ (low_within op a b) (within_or _ _ (named_within op a b) (gp_within op a b f g))))))))

  pub add_within : (a : Value) (z : ℤ) → ValueWithin K a → OptionWithin (lifted_add a z)
  unfolding lifted_add
  add_within a z f = lift_within _ a _ (Num _) _ f tt

  -- ---- cells

  abbrev pub CellsWithin : List Cell → Type 0
  CellsWithin [] = Unit {0}
  CellsWithin (c ∷ cs) = CellWithin K c × CellsWithin cs

  pub bytes_within : (n m : ℕ) → CellsWithin (bytes_of n m)
  bytes_within zero m = tt
  bytes_within (suc n) m = (tt, bytes_within n _)

  pub parts_within : (v : Value) (i count n : ℕ) → ValueWithin K v → CellsWithin (parts_from v i count n)
  parts_within v i zero n f = tt
  parts_within v i (suc count) n f = (f, parts_within v (i + 1) count n f)

  from_within : (cell : ℕ → Cell) (x n : ℕ) → ((y : ℕ) → CellWithin K (cell y)) → CellsWithin (cells_from cell x n)
  from_within cell x zero f = tt
  from_within cell x (suc n) f = (f x, from_within cell (x + 1) n f)

  pub index_within : (cs : List Cell) (k : ℕ) → CellsWithin cs → CellWithin K (slice_index_or cs k (Byte 0))
  index_within [] k f = tt
  index_within (c ∷ cs) zero f = f.0
  index_within (c ∷ cs) (suc k) f = index_within cs k f.1

  pub pick_within : (b : Bool) (c d : Cell) → CellWithin K c → CellWithin K d → CellWithin K (cond b c d)
  pick_within true c d f g = f
  pick_within false c d f g = g

  pub written_within : (cell : ℕ → Cell) (x : ℕ) (cs : List Cell) → ((y : ℕ) → CellWithin K (cell y)) → CellsWithin cs → (y : ℕ) → CellWithin K (store_cells cell x cs y)
  written_within cell x cs f g y = pick_within _ _ _ (index_within cs _ g) (f y)

  whole_within : (cs : List Cell) → CellsWithin cs → OptionWithin (whole_value cs)
  whole_within [] f = tt
  whole_within (Byte b ∷ cs) f = tt
  whole_within (Part v i n ∷ cs) f = choice_within _ (Some v) None f.0 tt

  in_within : (o : Option (List ℕ)) (cs : List Cell) → CellsWithin cs → OptionWithin (or_whole o cs)
  in_within (Some bs) cs f = tt
  in_within None cs f = whole_within cs f

  extended_within : (op : MemOp) (v : Value) → ValueWithin K v → ValueWithin K (extended op v)
  extended_within Ldl (Num n) f = tt
  extended_within op v f = f

  pub map_within : (bs : List ℕ) → CellsWithin (map (λ b. Byte b) bs)
  map_within [] = tt
  map_within (b ∷ bs) = (tt, map_within bs)

  -- ---- effects

  abbrev pub EffectWithin : Place → SymEffect → Type 0
  EffectWithin at (Set r v) = ValueWithin K v
  EffectWithin at (Store w) = CellsWithin w.2
  EffectWithin at (Jump (Some r) q) = LinkWithin K r at
  EffectWithin at _ = Unit {0}

  pub record IsWithin (at : Place) (e : SymEffect) : Type 0 where
    pub is : EffectWithin at e

  within_if : (at : Place) (b : Bool) (e f : SymEffect) → IsWithin at e → IsWithin at f → IsWithin at (cond b e f)
  within_if at true e f d g = d
  within_if at false e f d g = g

  within_with : {A : Type 0} (at : Place) (o : Option A) (f : A → SymEffect) → ((a : A) → IsWithin at (f a)) → IsWithin at (with_value o f)
  within_with at None f d = record { is = tt }
  within_with at (Some a) f d = d a

  within_value : (at : Place) (o : Option Value) (f : Value → SymEffect) → OptionWithin o → ((v : Value) → ValueWithin K v → IsWithin at (f v)) → IsWithin at (with_value o f)
  within_value at None f g d = record { is = tt }
  within_value at (Some a) f g d = d a g

  StoredOption : Option (List Cell) → Type 0
  StoredOption None = Unit {0}
  StoredOption (Some cs) = CellsWithin cs

  within_cells : (at : Place) (o : Option (List Cell)) (f : List Cell → SymEffect) → StoredOption o → ((cs : List Cell) → CellsWithin cs → IsWithin at (f cs)) → IsWithin at (with_value o f)
  unfolding StoredOption
  within_cells at None f g d = record { is = tt }
  within_cells at (Some a) f g d = d a g

  within_spot : (at : Place) (sp : Spot) (f : Region → ℕ → SymEffect) → ((r : Region) (y : ℕ) → IsWithin at (f r y)) → IsWithin at (at_spot sp f)
  within_spot at (Inside r y) f d = d r y
  within_spot at (Refused kind) f d = record { is = tt }
  within_spot at Hidden f d = record { is = tt }

  whole_stored : (b : Bool) (cs : List Cell) → CellsWithin cs → StoredOption (cond b (Some cs) None)
  unfolding StoredOption
  whole_stored true cs f = f
  whole_stored false cs f = tt

  stored_within : (n : ℕ) (v : Value) → ValueWithin K v → StoredOption (stored n v)
  unfolding StoredOption
  stored_within n (Num m) f = bytes_within n m
  stored_within n (Ptr r x) f = whole_stored _ (cells_of 8 (Ptr r x)) (parts_within (Ptr r x) 0 8 8 f)
  stored_within n (Code q) f = whole_stored _ (cells_of 8 (Code q)) (parts_within (Code q) 0 8 8 f)
  stored_within n (Gp o) f = whole_stored _ (cells_of 8 (Gp o)) (parts_within (Gp o) 0 8 8 f)
  stored_within n (Half q) f = whole_stored _ (cells_of 8 (Half q)) (parts_within (Half q) 0 8 8 f)
  stored_within n (GpOff o t) f = whole_stored _ (cells_of 8 (GpOff o t)) (parts_within (GpOff o t) 0 8 8 f)

  module _ (c : Script) (s : SymState) (fine : StateWithin K s) (at : Place) where
    pub read_within : (r : ℕ) → ValueWithin K (read_reg s.regs r)
    read_within r = by_case (r == 31)
      where
        by_case : (b : Bool) → ValueWithin K (cond b (Num 0) (s.regs r))
        by_case true = tt
        by_case false = fine.regs r

    operand_within : (rb : Opnd) → ValueWithin K (operand c s rb)
    operand_within (R r) = read_within r
    operand_within (Literal n) = tt

    load_within : (op : MemOp) (ra : ℕ) (v : Value) → IsWithin at (load c s op ra v)
    load_within op ra v =
        let n = access_size op in
        within_spot at (spot_of (size_now c s) n v) (λ r y. with_value (load_cells (s.cells r) y n) (λ w. Set ra (extended op w)))
        (λ r y. within_value at (load_cells (s.cells r) y n) (λ w. Set ra (extended op w))
        (in_within (all_bytes (cells_from (s.cells r) y n)) (cells_from (s.cells r) y n) (from_within (s.cells r) y n (fine.cells r)))
        (λ w f. record { is = extended_within op w f }))

    store_within : (op : MemOp) (w v : Value) → ValueWithin K w → IsWithin at (store c s op w v)
    store_within op w v f =
        let n = access_size op in
        within_spot at (spot_of (size_now c s) n v) (λ r y. with_value (stored n w) (λ cs. Store (r, y, cs)))
        (λ r y. within_cells at (stored n w) (λ cs. Store (r, y, cs)) (stored_within n w f) (λ cs g. record { is = g }))

    memory_within : (a : Access) (op : MemOp) (ra : ℕ) (base : Value) (disp : ℤ) → ValueWithin K base → IsWithin at (memory_effect c s a op ra base disp)
    memory_within Address op ra base disp f = within_value at (lifted_add base _) (λ v. Set ra v) (add_within base _ f) (λ v g. record { is = g })
    memory_within Load op ra base disp f =
        within_if at (ra == 31) Nothing (with_value (lifted_add base disp) (λ v. load c s op ra (accessed op v))) (record { is = tt })
        (within_with at (lifted_add base disp) (λ v. load c s op ra (accessed op v)) (λ v. load_within op ra (accessed op v)))
    memory_within Stores op ra base disp f =
        within_with at (lifted_add base disp) (λ v. store c s op (read_reg s.regs ra) (accessed op v)) (λ v. store_within op (read_reg s.regs ra) (accessed op v) (read_within ra))

    jump_within : (ra : ℕ) (v : Value) → LinkWithin K ra at → IsWithin at (jump_effect c s ra v)
    jump_within ra (Code q) f = within_if at (c.lands q) (Jump (Some ra) q) StepObserves (record { is = f }) (record { is = tt })
    jump_within ra (Num n) f = within_if at (nat_lt (n / 4 * 4) 0x10000) (Stop trap.Access) StepObserves (record { is = tt }) (record { is = tt })
    jump_within ra v f = record { is = tt }

    plain_within : (i : Instr) → PlainWithin K i at → IsWithin at (plain_effect c s i)
    plain_within (Mem op ra rb disp) f = memory_within (access_of op) op ra (read_reg s.regs rb) disp (read_within rb)
    plain_within (Jumps kind ra rb hint) f = jump_within ra (read_reg s.regs rb) f
    plain_within (Branch op ra disp) f = record { is = tt }
    plain_within (Alu op ra rb rc) f =
        let x = read_reg s.regs ra in
        let y = operand c s rb in
        let o = lifted op x (region_size c s x) y (region_size c s y) in
        within_if at (overflows_on c s op x y) (Stop trap.Overflow) (with_value o (λ v. Set rc v)) (record { is = tt })
        (within_value at o (λ v. Set rc v) (lift_within op x _ y _ (read_within ra) (operand_within rb)) (λ v g. record { is = g }))
    plain_within (Cmov k ra rb rc) f =
        let x = read_reg s.regs ra in
        within_with at (lifted_condition k x (region_size c s x)) (λ b. cond b (Set rc (operand c s rb)) Nothing)
        (λ b. within_if at b (Set rc (operand c s rb)) Nothing (record { is = operand_within rb }) (record { is = tt }))
    plain_within (Misc op ra rb) f = record { is = tt }
    plain_within Fnop f = record { is = tt }
    plain_within Halt f = record { is = tt }
    plain_within Callsys f = record { is = tt }

    branch_within : (op : BrOp) (ra : ℕ) (q : Place) → BranchWithin K op ra at → IsWithin at (branch_effect c s op ra q)
    branch_within Br ra q f = record { is = f }
    branch_within Bsr ra q f = record { is = f }
    branch_within (If k) ra q f =
        let x = read_reg s.regs ra in
        within_with at (lifted_condition k x (region_size c s x)) (λ b. cond b (Jump None q) Nothing) (λ b. within_if at b (Jump None q) Nothing (record { is = tt }) (record { is = tt }))

    needs_within : (b : Bool) (e : SymEffect) → IsWithin at e → IsWithin at (cond b e StepObserves)
    needs_within b e f = within_if at b e StepObserves f (record { is = tt })

    used_within : (i : Instr) (t : Target) → TargetWithin K t → IsWithin at (used_effect c s i t)
    used_within (Mem op ra rb disp) t f = memory_within (access_of op) op ra (value_of t) disp (within_target t f)
    used_within i t f = record { is = tt }

    sets_target : (ra : ℕ) (t : Target) → TargetWithin K t → IsWithin at (Set ra (value_of t))
    sets_target ra t f = record { is = within_target t f }

    pub act_within : (a : Act) → ActWithin K at a → IsWithin at (act_effect c s at a)
    act_within (Plain i) f = plain_within i f
    act_within (Lit ra rb t) f = within_if at (ra == 31) Nothing (needs c s rb (Gp (c.table at.obj)) (Set ra (value_of t))) (record { is = tt }) (needs_within _ (Set ra (value_of t)) (sets_target ra t f))
    act_within (GpHi ra rb base) f = needs_within _ (Set ra (Half at)) (record { is = tt })
    act_within (GpLo ra rb hi) f = needs_within _ (Set ra (Gp (c.table at.obj))) (record { is = tt })
    act_within (To op ra q) f = branch_within op ra q f
    act_within (AddrLda ra rb t) f = within_if at ((ra == 31) || (is_number c s t && (rb == 31))) (Set ra (value_of t)) (needs c s rb (Gp (c.table at.obj)) (Set ra (value_of t))) (sets_target ra t f) (needs_within _ (Set ra (value_of t)) (sets_target ra t f))
    act_within (AddrHi ra rb t) f = within_if at (ra == 31) Nothing (needs c s rb (Gp (c.table at.obj)) (Set ra (Half at))) (record { is = tt }) (needs_within _ (Set ra (Half at)) (record { is = tt }))
    act_within (UseLo i hi t) f = needs_within _ (used_effect c s i t) (used_within i t f)
    act_within (UseGp i gp t) f = needs_within _ (used_effect c s i t) (used_within i t f)
    act_within Wrong f = record { is = tt }
