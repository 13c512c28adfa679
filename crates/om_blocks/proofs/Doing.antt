-- What words do, one after the other.
use Rattle.std.proofs.Common.{◌≡◌, ◌⊎◌, inl, inr, ◌<◌, ℕ, zero, suc, ◌^◌, ◌-◌, Bool, true, false, cond, ◌==◌, ◌&&◌, ◌||◌, List, [], ◌∷◌, ◌++◌, Option, Some, None, refl, sym, ap, ◌∙◌, subst, arith}
use Rattle.std.specs.Prelude.{◌↔◌, not}
use Rattle.std.specs.Int.{bit_at, bit_not, w32}
use Rattle.std.specs.Int.Bits.{bit_and, bit_or}
use Rattle.std.specs.List.{list_any}
use Rattle.std.proofs.lemmas.Bool.{eqb-true}
use Rattle.std.proofs.lemmas.Nat.Bits.{bit_at_or, bit_at_and, bit_at_not, bit_at-lt, bit_at-zero}
use Rattle.om_isa.specs.declared.instr.Instr.{Instr}
use Rattle.om_isa.specs.declared.instr.Instr.TheVariants.{Mem, Jump, Branch, Alu, Cmov, Misc, Fnop, Halt, Callsys}
use Rattle.om_isa.specs.Registers.{mask_of}
use Rattle.om_isa.proofs.Masks.{bits_of_mask}
use Rattle.om_value.specs.declared.value.Place.{Place}
use Rattle.om_value.specs.declared.value.Target.{Target}
use Rattle.om_prog.specs.Act.{Act, Word, Script, act_reads, act_writes}
use Rattle.om_prog.specs.Act as act
use Rattle.om_prog.specs.Facts.{Fact, Any, Table, Unknown, has, changed, set_fact}
use Rattle.om_flow.specs.declared.parts.Transfer.{Transfer}
use Rattle.om_flow.specs.declared.parts.Transfer.TheVariants.{Keep, SetTable, SetUnknown}
use Rattle.om_graph.specs.declared.op.Op.{Op}
use Rattle.om_graph.specs.declared.op.OpKind.{OpKind}
use Rattle.om_graph.specs.declared.op.OpKind.TheVariants as op
use Rattle.om_graph.specs.declared.op.Last.{Last}
use Rattle.om_graph.specs.declared.op.Last.TheVariants as last
use Rattle.om_graph.specs.View.{Has}
use Rattle.om_graph.specs.Form.{LastForm}
use Rattle.om_graph.specs.Run.{op_act, op_word, use_of, target_at, last_words}
use Rattle.om_graph.specs.Checks.{onward, reads_first, written_in}
use Rattle.om_blocks.specs.declared.effects.Effect.{Effect}
use Rattle.om_blocks.specs.IsFlow.{behind}
use Rattle.om_blocks.specs.Effects.{kind_reads, kind_writes, last_reads, last_writes, other_value, kind_transfer, transfer_then, effect_then, Does, DoAll}

-- ---- masks

has_any : (rs : List ℕ) (r : ℕ) → list_any (λ q. q == r) rs ≡ has rs r
has_any [] r = refl
has_any (q ∷ rs) r = ap (λ (b : Bool). (q == r) || b) (has_any rs r)

low_bit : (r : ℕ) → r < 31 → (r == 31) ≡ false
low_bit r h = by_case (r == 31) refl
  where
    by_case : (t : Bool) → (r == 31) ≡ t → t ≡ false
    by_case true e = let s = eqb-true r 31 e in absurd (omega (arith, s, h))
    by_case false e = refl

-- bit r of a mask of registers
pub bit_is : (rs : List ℕ) (r : ℕ) → r < 31 → bit_at (mask_of rs) r ≡ cond (has rs r) 1 0
bit_is rs r h = bits_of_mask rs r ∙ ap (λ (b : Bool). cond b 0 (cond (list_any (λ q. q == r) rs) 1 0)) (low_bit r h) ∙ ap (λ (b : Bool). cond b 1 0) (has_any rs r)

pub bare_bit : (rs : List ℕ) → bit_at (mask_of rs) 31 ≡ 0
bare_bit rs = bits_of_mask rs 31

abbrev flag : Bool → ℕ
flag b = cond b 1 0

set_bit : (b : Bool) → (flag b ≡ 1) ↔ (b ≡ true)
set_bit true = (λ e. refl, λ e. refl)
set_bit false = (λ e. cc, λ e. cc)

clear_bit : (b : Bool) → (flag b ≡ 0) ↔ (b ≡ false)
clear_bit true = (λ e. cc, λ e. cc)
clear_bit false = (λ e. refl, λ e. refl)

read_bit : (m : ℕ) (rs : List ℕ) (r : ℕ) → m ≡ mask_of rs → r < 31 → (bit_at m r ≡ 1) ↔ (has rs r ≡ true)
read_bit m rs r e h =
    let f : bit_at m r ≡ cond (has rs r) 1 0 = ap (λ (x : ℕ). bit_at x r) e ∙ bit_is rs r h in
    (λ q. (set_bit (has rs r)).0 (sym f ∙ q), λ q. f ∙ (set_bit (has rs r)).1 q)

write_bit : (m : ℕ) (rs : List ℕ) (r : ℕ) → m ≡ mask_of rs → r < 31 → (bit_at m r ≡ 0) ↔ (has rs r ≡ false)
write_bit m rs r e h =
    let f : bit_at m r ≡ cond (has rs r) 1 0 = ap (λ (x : ℕ). bit_at x r) e ∙ bit_is rs r h in
    (λ q. (clear_bit (has rs r)).0 (sym f ∙ q), λ q. f ∙ (clear_bit (has rs r)).1 q)

-- ---- one word

-- what its write of r29 leaves
abbrev Leaves : ℕ → Word → Transfer → Type 0
Leaves table w t = (c : Script) (x : Fact) → c.table w.at.obj ≡ table → changed c w x ≡ behind t x

leaves_other : (table : ℕ) (w : Word) → ((c : Script) → set_fact c w w.act ≡ Unknown) → Leaves table w (other_value (has (act_writes w.act) 29))
leaves_other table w s c x e = by_case (has (act_writes w.act) 29) refl x
  where
    by_case : (b : Bool) → has (act_writes w.act) 29 ≡ b → (x : Fact) → changed c w x ≡ behind (other_value b) x
    by_case true q Any = refl
    by_case true q (Table t) = rw q (s c)
    by_case true q Unknown = rw q (s c)
    by_case false q Any = refl
    by_case false q (Table t) = rw q refl
    by_case false q Unknown = rw q refl

low_has : (ra : ℕ) → has (ra ∷ []) 29 ≡ (ra == 29)
low_has ra = by_case (ra == 29)
  where
    by_case : (b : Bool) → (b || false) ≡ b
    by_case true = refl
    by_case false = refl

leaves_low : (table : ℕ) (w : Word) (ra rb : ℕ) (hi : Place) → w.act ≡ act.GpLo ra rb hi → Leaves table w (cond (ra == 29) (SetTable table) Keep)
leaves_low table w ra rb hi a c x e = by_case (ra == 29) refl x
  where
    writes : has (act_writes w.act) 29 ≡ (ra == 29)
    writes = ap (λ (y : Act). has (act_writes y) 29) a ∙ low_has ra

    sets : set_fact c w w.act ≡ Table table
    sets = ap (set_fact c w) a ∙ ap Table e

    by_case : (b : Bool) → (ra == 29) ≡ b → (x : Fact) → changed c w x ≡ behind (cond b (SetTable table) Keep) x
    by_case true q Any = refl
    by_case true q (Table t) = rw (writes, q) sets
    by_case true q Unknown = rw (writes, q) sets
    by_case false q Any = refl
    by_case false q (Table t) = rw (writes, q) refl
    by_case false q Unknown = rw (writes, q) refl

does_other :
    (table : ℕ) (w : Word) (rs ws : List ℕ) (e : Effect) → act_reads w.act ≡ rs → act_writes w.act ≡ ws → ((c : Script) → set_fact c w w.act ≡ Unknown) →
    e.reads ≡ mask_of rs → e.writes ≡ mask_of ws → e.transfer ≡ other_value (has ws 29) → Does table w e
does_other table w rs ws e r s other a b t = record {
  reads = λ k h. read_bit e.reads (act_reads w.act) k (a ∙ ap mask_of (sym r)) h;
  bare = ap (λ (x : ℕ). bit_at x 31) a ∙ bare_bit rs;
  writes = λ k h. write_bit e.writes (act_writes w.act) k (b ∙ ap mask_of (sym s)) h;
  transfer = λ c x q. leaves_other table w other c x q ∙ ap (λ (y : Transfer). behind y x) (ap (λ (l : List ℕ). other_value (has l 29)) s ∙ sym t);
}

-- the word of an op
pub op_does :
    (table : ℕ) (ops : List Op) (o : Op) (k : OpKind) (e : Effect) → o.kind ≡ k → ((op_act ops k ≡ act.Wrong) → ⊥) → e.reads ≡ mask_of (kind_reads k) → e.writes ≡ mask_of (kind_writes k) →
    e.transfer ≡ kind_transfer table k → Does table (op_word ops o) e
op_does table ops o k e q right a b t =
    subst (λ (x : OpKind). Does table (record { at = o.place; act = op_act ops x }) e) (sym q) (by_kind k right a b t)
  where
    by_target : (i : Instr) (hi : Place) (z : Option Target) → (use_of i hi z ≡ act.Wrong → ⊥) → e.reads ≡ mask_of (kind_reads (op.UseLo i hi)) → e.writes ≡ mask_of (kind_writes (op.UseLo i hi)) →
        e.transfer ≡ kind_transfer table (op.UseLo i hi) → Does table (record { at = o.place; act = use_of i hi z }) e
    by_target i hi None right a b t = absurd (right refl)
    by_target i hi (Some z) right a b t = does_other table _ _ _ e refl refl (λ c. refl) a b t

    by_kind : (k : OpKind) → (op_act ops k ≡ act.Wrong → ⊥) → e.reads ≡ mask_of (kind_reads k) → e.writes ≡ mask_of (kind_writes k) → e.transfer ≡ kind_transfer table k →
        Does table (record { at = o.place; act = op_act ops k }) e
    by_kind (op.Plain i) right a b t = does_other table _ _ _ e refl refl (λ c. refl) a b t
    by_kind (op.Lit ra rb z) right a b t = does_other table _ _ _ e refl refl (λ c. refl) a b t
    by_kind (op.AddrLda ra rb z) right a b t = does_other table _ _ _ e refl refl (λ c. refl) a b t
    by_kind (op.AddrHi ra rb z least) right a b t = does_other table _ _ _ e refl refl (λ c. refl) a b t
    by_kind (op.UseLo i hi) right a b t = by_target i hi (target_at ops hi) right a b t
    by_kind (op.UseGp i gp z) right a b t = does_other table _ _ _ e refl refl (λ c. refl) a b t
    by_kind (op.GpHi ra rb base) right a b t = does_other table _ _ _ e refl refl (λ c. refl) a b t
    by_kind (op.GpLo ra rb hi) right a b t = record {
      reads = λ j h. read_bit e.reads (rb ∷ []) j a h;
      bare = ap (λ (x : ℕ). bit_at x 31) a ∙ bare_bit (rb ∷ []);
      writes = λ j h. write_bit e.writes (ra ∷ []) j b h;
      transfer = λ c x q. leaves_low table (record { at = o.place; act = act.GpLo ra rb hi }) ra rb hi refl c x q ∙ ap (λ (y : Transfer). behind y x) (sym t);
    }

-- ---- words in a row

or_zero : (a b r : ℕ) → (bit_at (bit_or a b) r ≡ 0) ↔ ((bit_at a r ≡ 0) × (bit_at b r ≡ 0))
or_zero a b r = (
  λ e. (omega (arith, bit_at_or a b r, bit_at-lt a r, bit_at-lt b r, e), omega (arith, bit_at_or a b r, bit_at-lt a r, bit_at-lt b r, e)),
  λ p. omega (arith, bit_at_or a b r, p.0, p.1),
)

-- the bits of what is read first
first_bit : (a d w r : ℕ) → w < 2 ^ 32 → r < 31 → (bit_at (bit_or a (bit_and d (bit_not w32 w))) r ≡ 1) ↔ ((bit_at a r ≡ 1) ⊎ ((bit_at w r ≡ 0) × (bit_at d r ≡ 1)))
first_bit a d w r f h = (forth, back)
  where
    n : bit_at (bit_not w32 w) r ≡ 1 - bit_at w r
    n = bit_at_not w32 w r f (omega (arith, h))

    forth : bit_at (bit_or a (bit_and d (bit_not w32 w))) r ≡ 1 → (bit_at a r ≡ 1) ⊎ ((bit_at w r ≡ 0) × (bit_at d r ≡ 1))
    forth e = by_case (bit_at a r) refl
      where
        by_case : (x : ℕ) → bit_at a r ≡ x → (bit_at a r ≡ 1) ⊎ ((bit_at w r ≡ 0) × (bit_at d r ≡ 1))
        by_case zero q = inr (
          omega (arith, q, e, n, bit_at_or a (bit_and d (bit_not w32 w)) r, bit_at_and d (bit_not w32 w) r, bit_at-lt d r, bit_at-lt w r),
          omega (arith, q, e, n, bit_at_or a (bit_and d (bit_not w32 w)) r, bit_at_and d (bit_not w32 w) r, bit_at-lt d r, bit_at-lt w r),
        )
        by_case (suc x) q = inl (omega (arith, q, bit_at-lt a r))

    back : (bit_at a r ≡ 1) ⊎ ((bit_at w r ≡ 0) × (bit_at d r ≡ 1)) → bit_at (bit_or a (bit_and d (bit_not w32 w))) r ≡ 1
    back (inl e) = omega (arith, e, bit_at_or a (bit_and d (bit_not w32 w)) r, bit_at_and d (bit_not w32 w) r, bit_at-lt d r, bit_at-lt (bit_not w32 w) r)
    back (inr p) = omega (arith, p.0, p.1, n, bit_at_or a (bit_and d (bit_not w32 w)) r, bit_at_and d (bit_not w32 w) r, bit_at-lt a r)

-- one word more
reads_more : (ws : List Word) (w : Word) (r : ℕ) → (reads_first (ws ++ w ∷ []) r ≡ true) ↔ ((reads_first ws r ≡ true) ⊎ ((written_in ws r ≡ false) × (has (act_reads w.act) r ≡ true)))
reads_more [] w r = (λ e. inr (refl, one (has (act_reads w.act) r) (has (act_writes w.act) r) e), λ p. two (has (act_reads w.act) r) (has (act_writes w.act) r) p)
  where
    one : (a b : Bool) → (a || (not b && false)) ≡ true → a ≡ true
    one true b e = refl
    one false true e = cc
    one false false e = cc

    two : (a b : Bool) → (false ≡ true) ⊎ ((false ≡ false) × (a ≡ true)) → (a || (not b && false)) ≡ true
    two a b (inl e) = cc
    two a b (inr p) = rw p.1 refl
reads_more (v ∷ ws) w r = by_bits (has (act_reads v.act) r) (has (act_writes v.act) r) (reads_more ws w r)
  where
    by_bits : (a b : Bool) → (reads_first (ws ++ w ∷ []) r ≡ true) ↔ ((reads_first ws r ≡ true) ⊎ ((written_in ws r ≡ false) × (has (act_reads w.act) r ≡ true))) →
        ((a || (not b && reads_first (ws ++ w ∷ []) r)) ≡ true) ↔ (((a || (not b && reads_first ws r)) ≡ true) ⊎ (((b || written_in ws r) ≡ false) × (has (act_reads w.act) r ≡ true)))
    by_bits true b i = (λ e. inl refl, λ p. refl)
    by_bits false true i = (λ e. cc, neither)
      where
        neither : (false ≡ true) ⊎ ((true ≡ false) × (has (act_reads w.act) r ≡ true)) → false ≡ true
        neither (inl e) = e
        neither (inr p) = cc
    by_bits false false i = i

written_more : (ws : List Word) (w : Word) (r : ℕ) → (written_in (ws ++ w ∷ []) r ≡ false) ↔ ((written_in ws r ≡ false) × (has (act_writes w.act) r ≡ false))
written_more [] w r = (λ e. (refl, one (has (act_writes w.act) r) e), λ p. two (has (act_writes w.act) r) p.1)
  where
    one : (a : Bool) → (a || false) ≡ false → a ≡ false
    one true e = cc
    one false e = refl

    two : (a : Bool) → a ≡ false → (a || false) ≡ false
    two true e = cc
    two false e = refl
written_more (v ∷ ws) w r = by_bit (has (act_writes v.act) r) (written_more ws w r)
  where
    by_bit : (a : Bool) → (written_in (ws ++ w ∷ []) r ≡ false) ↔ ((written_in ws r ≡ false) × (has (act_writes w.act) r ≡ false)) →
        ((a || written_in (ws ++ w ∷ []) r) ≡ false) ↔ (((a || written_in ws r) ≡ false) × (has (act_writes w.act) r ≡ false))
    by_bit true i = (λ e. cc, λ p. cc)
    by_bit false i = i

onward_more : (c : Script) (x : Fact) (ws : List Word) (w : Word) → onward c x (ws ++ w ∷ []) ≡ changed c w (onward c x ws)
onward_more c x [] w = refl
onward_more c x (v ∷ ws) w = onward_more c (changed c v x) ws w

behind_then : (t u : Transfer) (x : Fact) → behind u (behind t x) ≡ behind (transfer_then t u) x
behind_then t Keep x = refl
behind_then Keep (SetTable v) x = refl
behind_then (SetTable u) (SetTable v) Any = refl
behind_then (SetTable u) (SetTable v) (Table y) = refl
behind_then (SetTable u) (SetTable v) Unknown = refl
behind_then SetUnknown (SetTable v) Any = refl
behind_then SetUnknown (SetTable v) (Table y) = refl
behind_then SetUnknown (SetTable v) Unknown = refl
behind_then Keep SetUnknown x = refl
behind_then (SetTable u) SetUnknown Any = refl
behind_then (SetTable u) SetUnknown (Table y) = refl
behind_then (SetTable u) SetUnknown Unknown = refl
behind_then SetUnknown SetUnknown Any = refl
behind_then SetUnknown SetUnknown (Table y) = refl
behind_then SetUnknown SetUnknown Unknown = refl

left_in : (ws vs : List Word) (v : Word) → Has ws v → Has (ws ++ vs) v
left_in [] vs v h = absurd h
left_in (w ∷ ws) vs v (inl e) = inl e
left_in (w ∷ ws) vs v (inr h) = inr (left_in ws vs v h)

end_in : (ws : List Word) (w : Word) → Has (ws ++ w ∷ []) w
end_in [] w = inl refl
end_in (v ∷ ws) w = inr (end_in ws w)

bare_or : (a d w : ℕ) → bit_at a 31 ≡ 0 → bit_at d 31 ≡ 0 → bit_at (bit_or a (bit_and d w)) 31 ≡ 0
bare_or a d w e f = omega (arith, e, f, bit_at_or a (bit_and d w) 31, bit_at_and d w 31, bit_at-lt w 31)

pub does_more : (table : ℕ) (ws : List Word) (w : Word) (e d : Effect) → e.writes < 2 ^ 32 → DoAll table ws e → Does table w d → DoAll table (ws ++ w ∷ []) (effect_then e d)
does_more table ws w e d small all one = record {
  reads = λ r h. let b = first_bit e.reads d.reads e.writes r small h in let m = reads_more ws w r in (
    λ q. m.1 (forth r h (b.0 q)),
    λ q. b.1 (back r h (m.0 q)),
  );
  bare = bare_or e.reads d.reads (bit_not w32 e.writes) all.bare one.bare;
  writes = λ r h. let b = or_zero e.writes d.writes r in let m = written_more ws w r in (
    λ q. let p = b.0 q in m.1 ((all.writes r h).0 p.0, (one.writes r h).0 p.1),
    λ q. let p = m.0 q in b.1 ((all.writes r h).1 p.0, (one.writes r h).1 p.1),
  );
  transfer = λ c x t.
      onward_more c x ws w ∙ one.transfer c (onward c x ws) (t w (end_in ws w)) ∙ ap (behind d.transfer) (all.transfer c x (λ v i. t v (left_in ws (w ∷ []) v i)))
      ∙ behind_then e.transfer d.transfer x;
}
  where
    forth : (r : ℕ) → r < 31 → (bit_at e.reads r ≡ 1) ⊎ ((bit_at e.writes r ≡ 0) × (bit_at d.reads r ≡ 1)) → (reads_first ws r ≡ true) ⊎ ((written_in ws r ≡ false) × (has (act_reads w.act) r ≡ true))
    forth r h (inl q) = inl ((all.reads r h).0 q)
    forth r h (inr p) = inr ((all.writes r h).0 p.0, (one.reads r h).0 p.1)

    back : (r : ℕ) → r < 31 → (reads_first ws r ≡ true) ⊎ ((written_in ws r ≡ false) × (has (act_reads w.act) r ≡ true)) → (bit_at e.reads r ≡ 1) ⊎ ((bit_at e.writes r ≡ 0) × (bit_at d.reads r ≡ 1))
    back r h (inl q) = inl ((all.reads r h).1 q)
    back r h (inr p) = inr ((all.writes r h).1 p.0, (one.reads r h).1 p.1)

-- nothing more
pub does_none : (table : ℕ) (ws : List Word) (e d : Effect) → e.writes < 2 ^ 32 → DoAll table ws e → d.reads ≡ 0 → d.writes ≡ 0 → d.transfer ≡ Keep → DoAll table ws (effect_then e d)
does_none table ws e d small all a b t = record {
  reads = λ r h. let f = first_bit e.reads d.reads e.writes r small h in let z : bit_at d.reads r ≡ 0 = ap (λ (x : ℕ). bit_at x r) a ∙ bit_at-zero r in (
    λ q. (all.reads r h).0 (only r z (f.0 q)),
    λ q. f.1 (inl ((all.reads r h).1 q)),
  );
  bare = bare_or e.reads d.reads (bit_not w32 e.writes) all.bare (ap (λ (x : ℕ). bit_at x 31) a ∙ bit_at-zero 31);
  writes = λ r h. let f = or_zero e.writes d.writes r in let z : bit_at d.writes r ≡ 0 = ap (λ (x : ℕ). bit_at x r) b ∙ bit_at-zero r in (
    λ q. (all.writes r h).0 (f.0 q).0,
    λ q. f.1 ((all.writes r h).1 q, z),
  );
  transfer = λ c x s. all.transfer c x s ∙ ap (λ (y : Transfer). behind (transfer_then e.transfer y) x) (sym t);
}
  where
    only : (r : ℕ) → bit_at d.reads r ≡ 0 → (bit_at e.reads r ≡ 1) ⊎ ((bit_at e.writes r ≡ 0) × (bit_at d.reads r ≡ 1)) → bit_at e.reads r ≡ 1
    only r z (inl q) = q
    only r z (inr p) = absurd (omega (arith, z, p.1))

pub does_first : (table : ℕ) (e : Effect) → e.reads ≡ 0 → e.writes ≡ 0 → e.transfer ≡ Keep → DoAll table [] e
does_first table e a b t = record {
  reads = λ r h. (λ q. absurd (omega (arith, sym q ∙ ap (λ (x : ℕ). bit_at x r) a, bit_at-zero r)), λ q. cc);
  bare = ap (λ (x : ℕ). bit_at x 31) a ∙ bit_at-zero 31;
  writes = λ r h. (λ q. refl, λ q. ap (λ (x : ℕ). bit_at x r) b ∙ bit_at-zero r);
  transfer = λ c x s. ap (λ (y : Transfer). behind y x) (sym t);
}

-- the word that ends a block
pub last_does :
    (table : ℕ) (ws : List Word) (l : Last) (e d : Effect) → LastForm l → e.writes < 2 ^ 32 → DoAll table ws e → d.reads ≡ mask_of (last_reads l) → d.writes ≡ mask_of (last_writes l) →
    d.transfer ≡ other_value (has (last_writes l) 29) → DoAll table (ws ++ last_words l) (effect_then e d)
last_does table ws last.Fall e d f small all a b t = subst (λ (vs : List Word). DoAll table vs (effect_then e d)) (sym (no_end ws)) (does_none table ws e d small all a b t)
  where
    no_end : (xs : List Word) → xs ++ [] ≡ xs
    no_end [] = refl
    no_end (x ∷ xs) = ap (λ l. x ∷ l) (no_end xs)
last_does table ws last.Off e d f small all a b t = subst (λ (vs : List Word). DoAll table vs (effect_then e d)) (sym (no_end ws)) (does_none table ws e d small all a b t)
  where
    no_end : (xs : List Word) → xs ++ [] ≡ xs
    no_end [] = refl
    no_end (x ∷ xs) = ap (λ l. x ∷ l) (no_end xs)
last_does table ws (last.Br at op ra to) e d f small all a b t = does_more table ws _ e d small all (does_other table (record { at = at; act = act.To op ra to }) _ _ d refl refl (λ c. refl) a b t)
last_does table ws (last.Call at op ra to) e d f small all a b t = does_more table ws _ e d small all (does_other table (record { at = at; act = act.To op ra to }) _ _ d refl refl (λ c. refl) a b t)
last_does table ws (last.CallBy at i) e d f small all a b t = does_more table ws _ e d small all (does_other table (record { at = at; act = act.Plain i }) _ _ d refl refl (λ c. refl) a b t)
last_does table ws (last.JumpBy at i) e d f small all a b t = does_more table ws _ e d small all (does_other table (record { at = at; act = act.Plain i }) _ _ d refl refl (λ c. refl) a b t)
last_does table ws (last.Cond at (Branch op ra disp) to) e d f small all a b t = does_more table ws _ e d small all (does_other table (record { at = at; act = act.To op ra to }) _ _ d refl refl (λ c. refl) a b t)
last_does table ws (last.Cond at (Mem op ra rb z) to) e d f small all a b t = absurd f
last_does table ws (last.Cond at (Jump k ra rb h) to) e d f small all a b t = absurd f
last_does table ws (last.Cond at (Alu op ra rb rc) to) e d f small all a b t = absurd f
last_does table ws (last.Cond at (Cmov k ra rb rc) to) e d f small all a b t = absurd f
last_does table ws (last.Cond at (Misc op ra rb) to) e d f small all a b t = absurd f
last_does table ws (last.Cond at Fnop to) e d f small all a b t = absurd f
last_does table ws (last.Cond at Halt to) e d f small all a b t = absurd f
last_does table ws (last.Cond at Callsys to) e d f small all a b t = absurd f
