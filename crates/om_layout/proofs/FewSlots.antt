-- The slots of a table are as few as its loads' targets are.
use Rattle.std.proofs.Common.{◌≡◌, ◌⊎◌, inl, inr, ℕ, suc, ◌≤◌, Bool, true, false, cond, ◌&&◌, ◌||◌, ◌==◌, List, [], ◌∷◌, ◌++◌, length, Option, Some, None, refl, ap, sym, subst, ◌∙◌, arith}
use Rattle.std.specs.Prelude.{map, flat_map}
use Rattle.std.specs.List.{list_any}
use Rattle.std.proofs.lemmas.Bool.{eqb-true}
use Rattle.std.proofs.lemmas.Bool.Decides.{nat_tests}
use Rattle.om_isa.specs.declared.instr.Instr.{Instr}
use Rattle.om_isa.specs.declared.instr.Instr.TheVariants.{Mem, Jump, Branch, Alu, Cmov, Misc, Fnop, Halt, Callsys}
use Rattle.om_value.specs.declared.value.Region.{Region}
use Rattle.om_value.specs.declared.value.Region.TheVariants.{Sec, Common, Stack, Heap}
use Rattle.om_value.specs.declared.value.Target.{Target}
use Rattle.om_value.specs.declared.value.Target.TheVariants as target
use Rattle.om_value.specs.Same.{region_eq, target_eq}
use Rattle.om_prog.specs.Act as act
use Rattle.om_prog.specs.Act.{Act, Word}
use Rattle.om_prog.specs.View.{ProgramView}
use Rattle.om_prog.specs.Valid.{IsProgram, with_target, slot_limit}
use Rattle.om_graph.specs.declared.op.Op.{Op}
use Rattle.om_graph.specs.declared.op.OpKind.{OpKind}
use Rattle.om_graph.specs.declared.op.OpKind.TheVariants as op
use Rattle.om_graph.specs.declared.op.Last.{Last}
use Rattle.om_graph.specs.declared.op.Last.TheVariants.{Fall, Off, Br, Cond, Call, CallBy, JumpBy}
use Rattle.om_graph.specs.View.{GraphView, Has, ops_of}
use Rattle.om_graph.specs.Run.{words, op_word, op_act, use_of, target_at, last_words, cond_act, table_of}
use Rattle.om_graph.specs.OfProgram.{IsGraphOf}
use Rattle.om_graph.proofs.Labels.{HasIn, has_append, has_in, self_eq}
use Rattle.om_graph.proofs.Places.{of_op}
use Rattle.om_graph.proofs.OfProgram.{words_in_place}
use Rattle.om_layout.specs.Order.{act_targets, word_targets, targets_of, firsts_onto, slots_of}

-- ---- lists without an element twice

abbrev pub NoTwice : List Target → Type 0
NoTwice [] = Unit {0}
NoTwice (x ∷ xs) = (Has xs x → ⊥) × NoTwice xs

-- a list without one of its elements
record Without (ys : List Target) (x : Target) : Type 0 where
  rest : List Target
  shorter : length ys ≡ suc (length rest)
  keeps : (z : Target) → Has ys z → (x ≡ z → ⊥) → Has rest z

without : (ys : List Target) (x : Target) → Has ys x → Without ys x
without [] x h = absurd h
without (y ∷ ys) x (inl e) = record { rest = ys; shorter = refl; keeps = keeps }
  where
    keeps : (z : Target) → Has (y ∷ ys) z → (x ≡ z → ⊥) → Has ys z
    keeps z (inl f) n = absurd (n (sym e ∙ f))
    keeps z (inr h) n = h
without (y ∷ ys) x (inr h) = more (without ys x h)
  where
    more : Without ys x → Without (y ∷ ys) x
    more w = record { rest = y ∷ w.rest; shorter = ap suc w.shorter; keeps = keeps }
      where
        keeps : (z : Target) → Has (y ∷ ys) z → (x ≡ z → ⊥) → Has (y ∷ w.rest) z
        keeps z (inl f) n = inl f
        keeps z (inr k) n = inr (w.keeps z k n)

pub few : (xs ys : List Target) → NoTwice xs → ((z : Target) → Has xs z → Has ys z) → length xs ≤ length ys
few [] ys n h = omega arith
few (x ∷ xs) ys n h =
    let w = without ys x (h x (inl refl)) in
    let s = w.shorter in
    let r = few xs w.rest n.1 (λ z k. w.keeps z (h z (inr k)) (λ e. n.0 (subst (Has xs) (sym e) k))) in
    omega (arith, s, r)

snoc_once : (xs : List Target) (t : Target) → NoTwice xs → (Has xs t → ⊥) → NoTwice (xs ++ t ∷ [])
snoc_once [] t n h = ((λ k. k), tt)
snoc_once (x ∷ xs) t n h = ((λ k. by_case (has_append xs (t ∷ []) x k)), snoc_once xs t n.1 (λ k. h (inr k)))
  where
    by_case : Has xs x ⊎ Has (t ∷ []) x → ⊥
    by_case (inl k) = n.0 k
    by_case (inr (inl e)) = h (inl (sym e))
    by_case (inr (inr e)) = e

-- ---- equal targets

true_and : (a b : Bool) → a ≡ true → b ≡ true → (a && b) ≡ true
true_and true b e f = f
true_and false b e f = cc

eqb_self : (n : ℕ) → (n == n) ≡ true
eqb_self n = grind (arith, nat_tests)

pub region_self : (r : Region) → region_eq r r ≡ true
region_self (Sec o n) = true_and (o == o) (n == n) (eqb_self o) (eqb_self n)
region_self (Common a) = eqb_self a
region_self Stack = refl
region_self Heap = refl

target_self : (t : Target) → target_eq t t ≡ true
target_self (target.Num n) = eqb_self n
target_self (target.Ptr r x) = true_and (region_eq r r) (x == x) (region_self r) (eqb_self x)
target_self (target.Code q) = self_eq q

any_of : (ts : List Target) (t : Target) → Has ts t → list_any (λ u. target_eq u t) ts ≡ true
any_of [] t h = absurd h
any_of (u ∷ ts) t (inl e) = let s : target_eq u t ≡ true = ap (target_eq u) (sym e) ∙ target_self u in rw s refl
any_of (u ∷ ts) t (inr h) = or_right (target_eq u t) (any_of ts t h)
  where
    or_right : (b : Bool) → list_any (λ u. target_eq u t) ts ≡ true → (b || list_any (λ u. target_eq u t) ts) ≡ true
    or_right true e = refl
    or_right false e = e

with_once : (ts : List Target) (t : Target) → NoTwice ts → NoTwice (with_target ts t)
with_once ts t n = by_any (list_any (λ u. target_eq u t) ts) refl
  where
    differ : {b : Bool} → b ≡ true → b ≡ false → ⊥
    differ e f = cc

    by_any : (b : Bool) → list_any (λ u. target_eq u t) ts ≡ b → NoTwice (cond b ts (ts ++ t ∷ []))
    by_any true e = n
    by_any false e = snoc_once ts t n (λ h. differ (any_of ts t h) e)

with_from : (ts : List Target) (t x : Target) → Has (with_target ts t) x → Has ts x ⊎ (t ≡ x)
with_from ts t x h = by_any (list_any (λ u. target_eq u t) ts) h
  where
    by_case : Has ts x ⊎ Has (t ∷ []) x → Has ts x ⊎ (t ≡ x)
    by_case (inl k) = inl k
    by_case (inr (inl e)) = inr e
    by_case (inr (inr e)) = absurd e

    by_any : (b : Bool) → Has (cond b ts (ts ++ t ∷ [])) x → Has ts x ⊎ (t ≡ x)
    by_any true h = inl h
    by_any false h = by_case (has_append ts (t ∷ []) x h)

pub firsts_once : (seen ts : List Target) → NoTwice seen → NoTwice (firsts_onto seen ts)
firsts_once seen [] n = n
firsts_once seen (t ∷ ts) n = firsts_once (with_target seen t) ts (with_once seen t n)

pub firsts_from : (seen ts : List Target) (x : Target) → Has (firsts_onto seen ts) x → Has seen x ⊎ Has ts x
firsts_from seen [] x h = inl h
firsts_from seen (t ∷ ts) x h = by_case (firsts_from (with_target seen t) ts x h)
  where
    by_first : Has seen x ⊎ (t ≡ x) → Has seen x ⊎ Has (t ∷ ts) x
    by_first (inl k) = inl k
    by_first (inr e) = inr (inl e)

    by_case : Has (with_target seen t) x ⊎ Has ts x → Has seen x ⊎ Has (t ∷ ts) x
    by_case (inl k) = by_first (with_from seen t x k)
    by_case (inr k) = inr (inr k)

-- ---- loads

-- a word that loads the address of a target, of an object of a table
pub record IsLoadOf (table : ℕ → ℕ) (k : ℕ) (x : Target) (w : Word) : Type 0 where
  pub object : table w.at.obj ≡ k
  pub ra : ℕ
  pub rb : ℕ
  pub loads : w.act ≡ act.Lit ra rb x

by_act : (table : ℕ → ℕ) (k : ℕ) (x : Target) (w : Word) (a : Act) → w.act ≡ a → table w.at.obj ≡ k → Has (act_targets a) x → IsLoadOf table k x w
by_act table k x w (act.Lit ra rb t) e o (inl s) = record { object = o; ra = ra; rb = rb; loads = e ∙ ap (act.Lit ra rb) s }
by_act table k x w (act.Lit ra rb t) e o (inr s) = absurd s
by_act table k x w (act.Plain i) e o h = absurd h
by_act table k x w (act.GpHi ra rb b) e o h = absurd h
by_act table k x w (act.GpLo ra rb b) e o h = absurd h
by_act table k x w (act.To op ra q) e o h = absurd h
by_act table k x w (act.AddrLda ra rb t) e o h = absurd h
by_act table k x w (act.AddrHi ra rb t) e o h = absurd h
by_act table k x w (act.UseLo i hi t) e o h = absurd h
by_act table k x w (act.UseGp i gp t) e o h = absurd h
by_act table k x w act.Wrong e o h = absurd h

pub load_of : (table : ℕ → ℕ) (k : ℕ) (ws : List Word) (x : Target) → Has (flat_map (word_targets table k) ws) x → (w : Word) × Has ws w × IsLoadOf table k x w
load_of table k [] x h = absurd h
load_of table k (w ∷ ws) x h = by_case (has_append (word_targets table k w) (flat_map (word_targets table k) ws) x h) (load_of table k ws x)
  where
    here : (b : Bool) → (table w.at.obj == k) ≡ b → Has (cond b (act_targets w.act) []) x → IsLoadOf table k x w
    here true e h = by_act table k x w w.act refl (eqb-true (table w.at.obj) k e) h
    here false e h = absurd h

    by_case : Has (word_targets table k w) x ⊎ Has (flat_map (word_targets table k) ws) x → (Has (flat_map (word_targets table k) ws) x → (v : Word) × Has ws v × IsLoadOf table k x v) → (v : Word) × Has (w ∷ ws) v × IsLoadOf table k x v
    by_case (inl m) again = (w, inl refl, here (table w.at.obj == k) refl m)
    by_case (inr m) again = let r = again m in (r.0, inr r.1, r.2)

-- an op that loads is of that kind
pub lit_kind : (ops : List Op) (k : OpKind) (ra rb : ℕ) (x : Target) → op_act ops k ≡ act.Lit ra rb x → k ≡ op.Lit ra rb x
lit_kind ops (op.Lit rc rd t) ra rb x e = same e
  where
    same : act.Lit rc rd t ≡ act.Lit ra rb x → op.Lit rc rd t ≡ op.Lit ra rb x
    same e = cc
lit_kind ops (op.Plain i) ra rb x e = cc
lit_kind ops (op.AddrLda rc rd t) ra rb x e = cc
lit_kind ops (op.AddrHi rc rd t l) ra rb x e = cc
lit_kind ops (op.UseGp i gp t) ra rb x e = cc
lit_kind ops (op.GpHi rc rd b) ra rb x e = cc
lit_kind ops (op.GpLo rc rd b) ra rb x e = cc
lit_kind ops (op.UseLo i hi) ra rb x e = absurd (by_target (target_at ops hi) e)
  where
    by_target : (o : Option Target) → use_of i hi o ≡ act.Lit ra rb x → ⊥
    by_target None e = cc
    by_target (Some t) e = cc

-- no block ends in a load
pub no_last : (l : Last) (w : Word) (ra rb : ℕ) (x : Target) → Has (last_words l) w → w.act ≡ act.Lit ra rb x → ⊥
no_last Fall w ra rb x h e = h
no_last Off w ra rb x h e = h
no_last (Br at op rc to) w ra rb x (inl s) e = let f = ap (λ (y : Word). y.act) s ∙ e in absurd (not f)
  where
    not : act.To op rc to ≡ act.Lit ra rb x → ⊥
    not e = cc
no_last (Br at op rc to) w ra rb x (inr s) e = s
no_last (Call at op rc to) w ra rb x (inl s) e = let f = ap (λ (y : Word). y.act) s ∙ e in absurd (not f)
  where
    not : act.To op rc to ≡ act.Lit ra rb x → ⊥
    not e = cc
no_last (Call at op rc to) w ra rb x (inr s) e = s
no_last (CallBy at i) w ra rb x (inl s) e = let f = ap (λ (y : Word). y.act) s ∙ e in absurd (not f)
  where
    not : act.Plain i ≡ act.Lit ra rb x → ⊥
    not e = cc
no_last (CallBy at i) w ra rb x (inr s) e = s
no_last (JumpBy at i) w ra rb x (inl s) e = let f = ap (λ (y : Word). y.act) s ∙ e in absurd (not f)
  where
    not : act.Plain i ≡ act.Lit ra rb x → ⊥
    not e = cc
no_last (JumpBy at i) w ra rb x (inr s) e = s
no_last (Cond at i to) w ra rb x (inl s) e = let f = ap (λ (y : Word). y.act) s ∙ e in absurd (by_instr i f)
  where
    by_instr : (i : Instr) → cond_act i to ≡ act.Lit ra rb x → ⊥
    by_instr (Branch op ra d) e = cc
    by_instr (Mem op ra rb d) e = cc
    by_instr (Jump k ra rb h) e = cc
    by_instr (Alu op ra rb rc) e = cc
    by_instr (Cmov k ra rb rc) e = cc
    by_instr (Misc op ra rb) e = cc
    by_instr Fnop e = cc
    by_instr Halt e = cc
    by_instr Callsys e = cc
no_last (Cond at i to) w ra rb x (inr s) e = s

module _ (p : ProgramView) (prog : IsProgram p) (g : GraphView) (of : IsGraphOf p g) (k : ℕ) where
  among : (x : Target) → Has (slots_of g k) x → Has (of.slots k).0 x
  among x h = by_case (firsts_from [] (targets_of g k) x h)
    where
      by_load : (w : Word) × Has (words g) w × IsLoadOf (table_of g) k x w → Has (of.slots k).0 x
      by_load (w, hw, load) = by_word (has_append (map (op_word (ops_of i.block)) (ops_of i.block)) (last_words i.block.last) w i.word)
        where
          i : HasIn g.blocks w
          i = has_in g.blocks w hw

          object : w.at.obj ≡ i.block.label.obj
          object = ((words_in_place p prog g of).words i.block w i.among i.word).object

          by_word : Has (map (op_word (ops_of i.block)) (ops_of i.block)) w ⊎ Has (last_words i.block.last) w → Has (of.slots k).0 x
          by_word (inr m) = absurd (no_last i.block.last w load.ra load.rb x m load.loads)
          by_word (inl m) =
              let o = of_op (ops_of i.block) (ops_of i.block) w m in
              (of.slots k).2 i.block o.op load.ra load.rb x i.among o.among
              (ap (table_of g) (sym object) ∙ load.object)
              (lit_kind (ops_of i.block) o.op.kind load.ra load.rb x (ap (λ (y : Word). y.act) o.word ∙ load.loads))

      by_case : Has [] x ⊎ Has (targets_of g k) x → Has (of.slots k).0 x
      by_case (inl n) = absurd n
      by_case (inr m) = by_load (load_of (table_of g) k (words g) x m)

  pub few_slots : length (slots_of g k) ≤ slot_limit
  few_slots =
      let a = few (slots_of g k) (of.slots k).0 (firsts_once [] (targets_of g k) tt) among in
      let b = (of.slots k).1 in
      omega (arith, a, b)
