-- Worked rows of the table.
use Rattle.std.specs.Prelude.{◌≡◌, true, false, refl}
use Rattle.om_alpha.specs.declared.op.Width.TheVariants.{Long, Quad}
use Rattle.om_alpha.specs.declared.op.Scale.TheVariants.{One, Four, Eight}
use Rattle.om_alpha.specs.declared.op.Cmp.TheVariants as cmp
use Rattle.om_alpha.specs.declared.op.Size.TheVariants as size
use Rattle.om_alpha.specs.declared.op.Wide.TheVariants as wide
use Rattle.om_alpha.specs.declared.op.AluOp.TheVariants.{Add, Sub, Mul, AddV, SubV, MulV, Umulh, Compare, Cmpbge, Bic, Ornot, Eqv, Sll, Srl, Sra, Zap, Zapnot, Sextb, Sextw, ExtLow, ExtHigh, InsLow, InsHigh, MskLow, MskHigh}
use Rattle.om_alpha.specs.declared.op.Cond.TheVariants as cond
use Rattle.om_alpha.specs.Arithmetic.{alu_result, overflows, holds}

pub row_addq_wraps : alu_result (Add One Quad) 0xffffffffffffffff 1 ≡ 0
row_addq_wraps = refl

pub row_addl_sign : alu_result (Add One Long) 0x7fffffff 1 ≡ 0xffffffff80000000
row_addl_sign = refl

pub row_s4addl : alu_result (Add Four Long) 0x40000000 5 ≡ 5
row_s4addl = refl

pub row_s8subq : alu_result (Sub Eight Quad) 1 9 ≡ 0xffffffffffffffff
row_s8subq = refl

pub row_subl : alu_result (Sub One Long) 0x80000000 1 ≡ 0x7fffffff
row_subl = refl

pub row_mull_sign : alu_result (Mul Long) 0x80000001 1 ≡ 0xffffffff80000001
row_mull_sign = refl

pub row_mulq : alu_result (Mul Quad) 0xffffffffffffffff 0xffffffffffffffff ≡ 1
row_mulq = refl

pub row_umulh : alu_result Umulh 0xffffffffffffffff 0xffffffffffffffff ≡ 0xfffffffffffffffe
row_umulh = refl

pub row_cmplt : alu_result (Compare cmp.Lt) 0xffffffffffffffff 0 ≡ 1
row_cmplt = refl

pub row_cmpult : alu_result (Compare cmp.Ult) 0xffffffffffffffff 0 ≡ 0
row_cmpult = refl

pub row_cmpule : alu_result (Compare cmp.Ule) 5 5 ≡ 1
row_cmpule = refl

pub row_cmpbge : alu_result Cmpbge 0x0102030405060708 0x0102030505060709 ≡ 0xee
row_cmpbge = refl

pub row_bic : alu_result Bic 0xff 0x0f ≡ 0xf0
row_bic = refl

pub row_ornot : alu_result Ornot 0 0xffffffffffffffff ≡ 0
row_ornot = refl

pub row_eqv : alu_result Eqv 0xff 0xff ≡ 0xffffffffffffffff
row_eqv = refl

pub row_sll : alu_result Sll 1 65 ≡ 2
row_sll = refl

pub row_srl : alu_result Srl 0xffffffffffffffff 60 ≡ 0xf
row_srl = refl

pub row_sra : alu_result Sra 0x8000000000000000 63 ≡ 0xffffffffffffffff
row_sra = refl

pub row_zap : alu_result Zap 0x0102030405060708 0x81 ≡ 0x0002030405060700
row_zap = refl

pub row_zapnot : alu_result Zapnot 0x0102030405060708 0x0f ≡ 0x05060708
row_zapnot = refl

pub row_sextb : alu_result Sextb 7 0x180 ≡ 0xffffffffffffff80
row_sextb = refl

pub row_sextw : alu_result Sextw 7 0x7fff ≡ 0x7fff
row_sextw = refl

pub row_extwl : alu_result (ExtLow size.Word) 0x8182838485868788 7 ≡ 0x81
row_extwl = refl

pub row_extlh : alu_result (ExtHigh wide.Long) 0x8182838485868788 6 ≡ 0x87880000
row_extlh = refl

pub row_extqh_none : alu_result (ExtHigh wide.Quad) 0x8182838485868788 8 ≡ 0x8182838485868788
row_extqh_none = refl

pub row_insll : alu_result (InsLow size.Long) 0x8182838485868788 6 ≡ 0x8788000000000000
row_insll = refl

pub row_inslh : alu_result (InsHigh wide.Long) 0x8182838485868788 6 ≡ 0x8586
row_inslh = refl

pub row_mskwl : alu_result (MskLow size.Word) 0x8182838485868788 7 ≡ 0x0082838485868788
row_mskwl = refl

pub row_mskqh : alu_result (MskHigh wide.Quad) 0x8182838485868788 3 ≡ 0x8182838485000000
row_mskqh = refl

pub row_mskqh_none : alu_result (MskHigh wide.Quad) 0x8182838485868788 0 ≡ 0x8182838485868788
row_mskqh_none = refl

pub row_overflow_addq : overflows (AddV Quad) 0x7fffffffffffffff 1 ≡ true
row_overflow_addq = refl

pub row_overflow_addq_fits : overflows (AddV Quad) 0x7fffffffffffffff 0xffffffffffffffff ≡ false
row_overflow_addq_fits = refl

pub row_overflow_addl : overflows (AddV Long) 0x7fffffff 1 ≡ true
row_overflow_addl = refl

pub row_overflow_addl_high : overflows (AddV Long) 0x7fffffff00000000 0x7fffffff00000001 ≡ false
row_overflow_addl_high = refl

pub row_overflow_subq : overflows (SubV Quad) 0 0x8000000000000000 ≡ true
row_overflow_subq = refl

pub row_overflow_mulq : overflows (MulV Quad) 0x8000000000000000 0xffffffffffffffff ≡ true
row_overflow_mulq = refl

pub row_overflow_mull : overflows (MulV Long) 0x10000 0x8000 ≡ true
row_overflow_mull = refl

pub row_overflow_unchecked : overflows (Add One Quad) 0x7fffffffffffffff 1 ≡ false
row_overflow_unchecked = refl

pub row_lbc : holds cond.Lbc 2 ≡ true
row_lbc = refl

pub row_lbs : holds cond.Lbs 2 ≡ false
row_lbs = refl

pub row_eq : holds cond.Eq 0 ≡ true
row_eq = refl

pub row_ne : holds cond.Ne 0 ≡ false
row_ne = refl

pub row_lt : holds cond.Lt 0x8000000000000000 ≡ true
row_lt = refl

pub row_ge : holds cond.Ge 0x8000000000000000 ≡ false
row_ge = refl

pub row_le : holds cond.Le 0 ≡ true
row_le = refl

pub row_gt : holds cond.Gt 0 ≡ false
row_gt = refl
