-- Each edit lowers the weight.
use Rattle.std.proofs.Common.{◌≡◌, ◌<◌, ◌≤◌, ◌+◌, ℕ, Bool, true, false, cond, ◌&&◌, List, [], ◌∷◌, ◌++◌, Some, refl, sym, ap, ◌∙◌, subst, arith, IsTrue}
use Rattle.std.specs.Prelude.{find, is_some, ℤ}
use Rattle.std.proofs.lemmas.Bool.{true≢false}
use Rattle.om_isa.specs.declared.instr.Access.{Access}
use Rattle.om_isa.specs.declared.instr.Access.TheVariants.{Address, Load, Store}
use Rattle.om_isa.specs.declared.instr.BrOp.TheVariants.{Br as Straight, Bsr, If}
use Rattle.om_isa.specs.declared.instr.Opnd.TheVariants.{R, Lit as Literal}
use Rattle.om_isa.specs.declared.instr.Instr.{Instr}
use Rattle.om_isa.specs.declared.instr.Instr.TheVariants.{Mem, Jump, Branch, Alu, Cmov, Misc, Fnop, Halt, Callsys}
use Rattle.om_value.specs.declared.value.Place.{Place}
use Rattle.om_value.specs.Same.{place_eq}
use Rattle.om_graph.specs.declared.op.Op.{Op}
use Rattle.om_graph.specs.declared.op.OpKind.{OpKind}
use Rattle.om_graph.specs.declared.op.OpKind.TheVariants as op
use Rattle.om_graph.specs.declared.op.Last.{Last}
use Rattle.om_graph.specs.declared.op.Last.TheVariants.{Fall, Off, Br, Cond, Call, CallBy, JumpBy}
use Rattle.om_graph.specs.View.{Block, GraphView}
use Rattle.om_graph.specs.Uses.{IsBaseUse, IsByteUse, with_literal}
use Rattle.om_graph.specs.Weight.{total, one_if, access_weight, use_weight, op_weight, opens, last_weight, block_weight, weight}
use Rattle.om_passes.specs.Blocks.{OneBlock}

total_append : {A : Type 0} (f : A → ℕ) (xs ys : List A) → total f (xs ++ ys) ≡ total f xs + total f ys
total_append f [] ys = omega arith
total_append f (x ∷ xs) ys = let i = total_append f xs ys in omega (arith, i)

total_same : {A : Type 0} (f g : A → ℕ) (xs : List A) → ((x : A) → f x ≡ g x) → total f xs ≡ total g xs
total_same f g [] e = refl
total_same f g (x ∷ xs) e = let a = e x in let i = total_same f g xs e in omega (arith, a, i)

total_less : {A : Type 0} (f g : A → ℕ) (xs : List A) → ((x : A) → f x ≤ g x) → total f xs ≤ total g xs
total_less f g [] e = omega arith
total_less f g (x ∷ xs) e = let a = e x in let i = total_less f g xs e in omega (arith, a, i)

-- ---- ops

pub base_weight : (r : ℕ) (i : Instr) (z : ℤ) → IsBaseUse r i z → use_weight i ≡ 1
base_weight r (Mem o ra rb d) z b = by_access _ b.2
  where
    by_access : (a : Access) → (a ≡ Address → ⊥) → access_weight a ≡ 1
    by_access Address n = absurd (n refl)
    by_access Load n = refl
    by_access Store n = refl
base_weight r (Jump k ra rb h) z b = absurd b
base_weight r (Branch o ra d) z b = absurd b
base_weight r (Alu o ra rb rc) z b = absurd b
base_weight r (Cmov k ra rb rc) z b = absurd b
base_weight r (Misc o ra rb) z b = absurd b
base_weight r Fnop z b = absurd b
base_weight r Halt z b = absurd b
base_weight r Callsys z b = absurd b

is_one : (b : Bool) → IsTrue b → one_if b ≡ 1
is_one true t = refl
is_one false t = absurd (true≢false (sym t))

pub byte_weight : (r n : ℕ) (i : Instr) → IsByteUse r i → (use_weight i ≡ 1) × (use_weight (with_literal n i) ≡ 0)
byte_weight r n (Alu o ra (R rb) rc) b = (is_one _ b.0, refl)
byte_weight r n (Alu o ra (Literal m) rc) b = absurd b
byte_weight r n (Mem o ra rb d) b = absurd b
byte_weight r n (Jump k ra rb h) b = absurd b
byte_weight r n (Branch o ra d) b = absurd b
byte_weight r n (Cmov k ra rb rc) b = absurd b
byte_weight r n (Misc o ra rb) b = absurd b
byte_weight r n Fnop b = absurd b
byte_weight r n Halt b = absurd b
byte_weight r n Callsys b = absurd b

pub set_weight : (pre post : List Op) (o n : Op) → op_weight n.kind < op_weight o.kind → total (λ x. op_weight x.kind) (pre ++ n ∷ post) < total (λ x. op_weight x.kind) (pre ++ o ∷ post)
set_weight [] post o n l = omega (arith, l)
set_weight (x ∷ pre) post o n l = let i = set_weight pre post o n l in omega (arith, i)

pub some_weight : (k : OpKind) → 0 < op_weight k
some_weight (op.Plain i) = omega arith
some_weight (op.Lit ra rb t) = omega arith
some_weight (op.AddrLda ra rb t) = omega arith
some_weight (op.AddrHi ra rb t least) = omega arith
some_weight (op.UseLo i hi) = omega arith
some_weight (op.UseGp i gp t) = omega arith
some_weight (op.GpHi ra rb base) = omega arith
some_weight (op.GpLo ra rb hi) = omega arith

pub gone_weight : (pre post : List Op) (o : Op) → total (λ x. op_weight x.kind) (pre ++ post) < total (λ x. op_weight x.kind) (pre ++ o ∷ post)
gone_weight [] post o = let s = some_weight o.kind in omega (arith, s)
gone_weight (x ∷ pre) post o = let i = gone_weight pre post o in omega (arith, i)

-- ---- blocks

one_if_less : (a b : Bool) → (a ≡ true → b ≡ true) → one_if a ≤ one_if b
one_if_less true true f = omega arith
one_if_less true false f = absurd (true≢false (sym (f refl)))
one_if_less false true f = omega arith
one_if_less false false f = omega arith

last_less : (bs cs : List Block) → ((q : Place) → opens bs q ≡ true → opens cs q ≡ true) → (l : Last) → last_weight bs l ≤ last_weight cs l
last_less bs cs f Fall = omega arith
last_less bs cs f Off = omega arith
last_less bs cs f (Br at Bsr ra to) = let a = one_if_less (opens bs to) (opens cs to) (f to) in omega (arith, a)
last_less bs cs f (Br at Straight ra to) = omega arith
last_less bs cs f (Br at (If k) ra to) = omega arith
last_less bs cs f (Call at Bsr ra to) = let a = one_if_less (opens bs to) (opens cs to) (f to) in omega (arith, a)
last_less bs cs f (Call at Straight ra to) = omega arith
last_less bs cs f (Call at (If k) ra to) = omega arith
last_less bs cs f (Cond at i to) = omega arith
last_less bs cs f (CallBy at i) = omega arith
last_less bs cs f (JumpBy at i) = omega arith

block_less : (bs cs : List Block) → ((q : Place) → opens bs q ≡ true → opens cs q ≡ true) → (b : Block) → block_weight bs b ≤ block_weight cs b
block_less bs cs f b = let l = last_less bs cs f b.last in omega (arith, l)

opens_one : (before after : List Block) (b n : Block) → n.label ≡ b.label → n.opening ≡ b.opening → (q : Place) → opens (before ++ n ∷ after) q ≡ true → opens (before ++ b ∷ after) q ≡ true
opens_one [] after b n l o q h = by_test (b.opening && place_eq b.label q) (n.opening && place_eq n.label q) (ap (λ (x : Bool). x && place_eq n.label q) o ∙ ap (λ (x : Place). b.opening && place_eq x q) l) h
  where
    by_test : (s t : Bool) → t ≡ s → is_some (cond t (Some n) (find (λ c. c.opening && place_eq c.label q) after)) ≡ true → is_some (cond s (Some b) (find (λ c. c.opening && place_eq c.label q) after)) ≡ true
    by_test true t e h = refl
    by_test false true e h = absurd (true≢false e)
    by_test false false e h = h
opens_one (c ∷ before) after b n l o q h = by_test (c.opening && place_eq c.label q) h (opens_one before after b n l o q)
  where
    by_test :
        (t : Bool) → is_some (cond t (Some c) (find (λ c. c.opening && place_eq c.label q) (before ++ n ∷ after))) ≡ true → (opens (before ++ n ∷ after) q ≡ true → opens (before ++ b ∷ after) q ≡ true) →
        is_some (cond t (Some c) (find (λ c. c.opening && place_eq c.label q) (before ++ b ∷ after))) ≡ true
    by_test true h i = refl
    by_test false h i = i h

opens_gone : (before after : List Block) (b : Block) (q : Place) → opens (before ++ after) q ≡ true → opens (before ++ b ∷ after) q ≡ true
opens_gone [] after b q h = by_test (b.opening && place_eq b.label q)
  where
    by_test : (t : Bool) → is_some (cond t (Some b) (find (λ c. c.opening && place_eq c.label q) after)) ≡ true
    by_test true = refl
    by_test false = h
opens_gone (c ∷ before) after b q h = by_test (c.opening && place_eq c.label q) h (opens_gone before after b q)
  where
    by_test :
        (t : Bool) → is_some (cond t (Some c) (find (λ c. c.opening && place_eq c.label q) (before ++ after))) ≡ true → (opens (before ++ after) q ≡ true → opens (before ++ b ∷ after) q ≡ true) →
        is_some (cond t (Some c) (find (λ c. c.opening && place_eq c.label q) (before ++ b ∷ after))) ≡ true
    by_test true h i = refl
    by_test false h i = i h

-- one block lighter
pub one_lighter : (old new : GraphView) (b n : Block) → OneBlock old.blocks new.blocks b n → n.label ≡ b.label → n.opening ≡ b.opening → block_weight old.blocks n < block_weight old.blocks b → weight new < weight old
one_lighter old new b n o label opening l =
    let w = block_less new.blocks old.blocks fewer in
    let a = total_less (block_weight new.blocks) (block_weight old.blocks) new.blocks w in
    let e = ap (total (block_weight old.blocks)) o.now ∙ total_append (block_weight old.blocks) o.before (n ∷ o.after) in
    let f = ap (total (block_weight old.blocks)) o.was ∙ total_append (block_weight old.blocks) o.before (b ∷ o.after) in
    omega (arith, a, e, f, l)
  where
    fewer : (q : Place) → opens new.blocks q ≡ true → opens old.blocks q ≡ true
    fewer q h =
        subst (λ (bs : List Block). opens bs q ≡ true) (sym o.was)
        (opens_one o.before o.after b n label opening q (subst (λ (bs : List Block). opens bs q ≡ true) o.now h))

-- a block gone
pub fewer_lighter : (old new : GraphView) (b : Block) (before after : List Block) → old.blocks ≡ before ++ b ∷ after → new.blocks ≡ before ++ after → weight new < weight old
fewer_lighter old new b before after was now =
    let w = block_less new.blocks old.blocks fewer in
    let a = total_less (block_weight new.blocks) (block_weight old.blocks) new.blocks w in
    let e = ap (total (block_weight old.blocks)) now ∙ total_append (block_weight old.blocks) before after in
    let f = ap (total (block_weight old.blocks)) was ∙ total_append (block_weight old.blocks) before (b ∷ after) in
    let l = some_block old.blocks b in
    omega (arith, a, e, f, l)
  where
    fewer : (q : Place) → opens new.blocks q ≡ true → opens old.blocks q ≡ true
    fewer q h =
        subst (λ (bs : List Block). opens bs q ≡ true) (sym was)
        (opens_gone before after b q (subst (λ (bs : List Block). opens bs q ≡ true) now h))

    some_block : (bs : List Block) (c : Block) → 0 < block_weight bs c
    some_block bs c = omega arith
