-- Worked graphs of which a rule of rewriting is left something, and what is dead behind words.
use Rattle.std.specs.Prelude.{◌≡◌, ℕ, ◌+◌, ◌*◌, ◌==◌, ℤ, pos, Bool, true, false, List, [], ◌∷◌, refl}
use Rattle.om_alpha.specs.declared.op.AluOp.TheVariants.{ExtLow}
use Rattle.om_alpha.specs.declared.op.Size.TheVariants.{Byte}
use Rattle.om_isa.specs.declared.instr.MemOp.TheVariants.{Lda, Ldq, Stq}
use Rattle.om_isa.specs.declared.instr.JumpOp.TheVariants.{Jsr, Ret}
use Rattle.om_isa.specs.declared.instr.Opnd.TheVariants.{R}
use Rattle.om_isa.specs.declared.instr.Instr.TheVariants.{Mem, Jump, Alu}
use Rattle.om_value.specs.declared.value.Region.TheVariants.{Sec}
use Rattle.om_value.specs.declared.value.Target.{Target}
use Rattle.om_value.specs.declared.value.Target.TheVariants as target
use Rattle.om_prog.specs.View.{ProgramView}
use Rattle.om_prog.specs.Act.{Act, Plain, Lit, AddrLda, Word}
use Rattle.om_graph.specs.declared.op.OpKind.{OpKind}
use Rattle.om_graph.specs.declared.op.OpKind.TheVariants as op
use Rattle.om_graph.specs.declared.op.Last.TheVariants.{JumpBy, CallBy}
use Rattle.om_graph.specs.View.{Node, Block, GraphView}
use Rattle.om_graph.specs.Checks.{live_in}
use Rattle.om_graph.specs.Left.{IsNear}
use Rattle.om_graph.specs.Rows.{at}

-- ---- dead results: whether a register may be read behind words, where out may be read behind the
-- last of them

abbrev pub plain_word : ℕ → Act → Word
plain_word n a = record { at = at n; act = a }

-- stq r1,0(r30); lda r1,0(r31)
abbrev pub stores_1 : Word
stores_1 = plain_word 4 (Plain (Mem Stq 1 30 (pos 0)))

abbrev pub sets_1 : Word
sets_1 = plain_word 8 (Plain (Mem Lda 1 31 (pos 0)))

abbrev pub nothing_out : ℕ → Bool
nothing_out r = false

abbrev pub one_out : ℕ → Bool
one_out r = r == 1

pub row_dead_at_end : live_in [] nothing_out 1 ≡ false
row_dead_at_end = refl

pub row_live_at_end : live_in [] one_out 1 ≡ true
row_live_at_end = refl

pub row_read_first : live_in (stores_1 ∷ sets_1 ∷ []) nothing_out 1 ≡ true
row_read_first = refl

-- what is written before it is read is dead, whatever is read behind
pub row_written_first : live_in (sets_1 ∷ stores_1 ∷ []) one_out 1 ≡ false
row_written_first = refl

-- a load into r31 reads nothing, but its base is read once it has become LDA
pub row_idle_load : live_in (plain_word 0 (Lit 31 1 (target.Num 0)) ∷ []) nothing_out 1 ≡ false
row_idle_load = refl

pub row_idle_lda : live_in (plain_word 0 (AddrLda 31 1 (target.Num 0)) ∷ []) nothing_out 1 ≡ true
row_idle_lda = refl

-- ---- near, with the global pointer at 0x140008000 and a region of 65,544 bytes at 0x140000000

abbrev pub wide : ProgramView
wide = record {
  texts = [];
  regions = record { region = Sec 0 3; size = 65544; zero = true; bytes = []; fields = [] } ∷ [];
  entry = at 0;
}

abbrev pub wide_gp : ℕ → ℕ
wide_gp o = 0x140008000

abbrev pub wide_address : Target → ℕ
wide_address (target.Ptr r x) = 0x140000000 + x
wide_address (target.Num n) = n
wide_address (target.Code q) = 0x140008000

abbrev pub byte_at : ℕ → Target
byte_at x = target.Ptr (Sec 0 3) x

abbrev pub IsNearAt : Target → Type 0
IsNearAt t = IsNear wide wide_gp wide_address 0 t

-- ---- graphs of one block, which returns by r26, with these ops; the text goes on behind it

abbrev pub node : ℕ → OpKind → Node
node n k = record { id = n; op = record { place = at (4 * n); kind = k } }

abbrev pub block_with_ops : List Node → Block
block_with_ops ops =
    record {
      id = 0;
      label = at 0;
      opening = false;
      ops = ops;
      last = JumpBy (at 12)
          (Jump Ret 31 26 0);
    }

abbrev pub one_block : Block → GraphView
one_block b = record {
  counts = 8 ∷ [];
  roots = at 0 ∷ [];
  tables = 0 ∷ [];
  labels = at 0 ∷ at 16 ∷ [];
  blocks = b ∷ [];
  touched = [];
}

-- a load of the address 16 into r27; jsr r26,(r27)
abbrev pub calling_block : Block
calling_block = record {
  id = 0;
  label = at 0;
  opening = false;
  ops = node 0 (op.Lit 27 29 (target.Code (at 16))) ∷ [];
  last = CallBy (at 12) (Jump Jsr 26 27 0);
}

-- a load of the address of byte 5; extbl r2,r1,r3
abbrev pub byte_block : Block
byte_block =
    block_with_ops (node 0 (op.Lit 1 29 (byte_at 5)) ∷ node 1 (op.Plain (Alu (ExtLow Byte) 2 (R 1) 3)) ∷ [])

-- lda r1 to byte 8, over r29; ldq r2,z(r1)
abbrev pub use_block : ℤ → Block
use_block z =
    block_with_ops (node 0 (op.AddrLda 1 29 (byte_at 8)) ∷ node 1 (op.Plain (Mem Ldq 2 1 z)) ∷ [])

-- a load of the address of a byte, and ldq r2,0(r1)
abbrev pub load_block : ℕ → Block
load_block x =
    block_with_ops (node 0 (op.Lit 1 29 (byte_at x)) ∷ node 1 (op.Plain (Mem Ldq 2 1 (pos 0))) ∷ [])
