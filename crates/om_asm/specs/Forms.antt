-- The names of instructions, each with what it stands for.
use Rattle.std.specs.Prelude.{ℕ, List, [], ◌∷◌, codes, bytes_eq, Option, find}
use Rattle.om_alpha.specs.declared.op.Width.TheVariants.{Long, Quad}
use Rattle.om_alpha.specs.declared.op.Scale.TheVariants.{One, Four, Eight}
use Rattle.om_alpha.specs.declared.op.Cmp.TheVariants as cmp
use Rattle.om_alpha.specs.declared.op.Cond.TheVariants as cond
use Rattle.om_alpha.specs.declared.op.Size.TheVariants as size
use Rattle.om_alpha.specs.declared.op.Wide.TheVariants as wide
use Rattle.om_alpha.specs.declared.op.AluOp.TheVariants.{Add, Sub, Mul, AddV, SubV, MulV, Umulh, Compare, Cmpbge, And, Bis, Xor, Bic, Ornot, Eqv, Sll, Srl, Sra, Zap, Zapnot, Sextb, Sextw, ExtLow, ExtHigh, InsLow, InsHigh, MskLow, MskHigh}
use Rattle.om_isa.specs.declared.instr.MemOp.TheVariants as mem
use Rattle.om_isa.specs.declared.instr.JumpOp.TheVariants as jump
use Rattle.om_isa.specs.declared.instr.BrOp.TheVariants as br
use Rattle.om_isa.specs.declared.instr.MiscOp.TheVariants as misc
use Rattle.om_listing.specs.Names.{memory_name, branch_name, jump_name, barrier_name, operate_name, move_name}
use Rattle.om_asm.specs.declared.forms.Form.{Form}
use Rattle.om_asm.specs.declared.forms.Form.TheVariants.{Memory, Jump, Branch, Operate, Move, Barrier, Fnop, Halt, Callsys}

abbrev pub form_name : Form → List ℕ
form_name (Memory op) = memory_name op
form_name (Jump kind) = jump_name kind
form_name (Branch op) = branch_name op
form_name (Operate op) = operate_name op
form_name (Move c) = move_name c
form_name (Barrier op) = barrier_name op
form_name Fnop = codes "fnop"
form_name Halt = codes "halt"
form_name Callsys = codes "callsys"

-- each form, once
abbrev pub all_forms : List Form
all_forms =
    (Memory mem.Lda) ∷ (Memory mem.Ldah) ∷ (Memory mem.Ldbu) ∷ (Memory mem.LdqU) ∷ (Memory mem.Ldwu)
    ∷ (Memory mem.Stw) ∷ (Memory mem.Stb) ∷ (Memory mem.StqU) ∷ (Memory mem.Ldl) ∷ (Memory mem.Ldq)
    ∷ (Memory mem.Stl) ∷ (Memory mem.Stq) ∷ (Jump jump.Jmp) ∷ (Jump jump.Jsr) ∷ (Jump jump.Ret)
    ∷ (Jump jump.Jcr) ∷ (Branch br.Br) ∷ (Branch br.Bsr) ∷ (Branch (br.If cond.Lbc)) ∷ (Branch (br.If cond.Eq))
    ∷ (Branch (br.If cond.Lt)) ∷ (Branch (br.If cond.Le)) ∷ (Branch (br.If cond.Lbs)) ∷ (Branch (br.If cond.Ne))
    ∷ (Branch (br.If cond.Ge)) ∷ (Branch (br.If cond.Gt)) ∷ (Operate (Add One Long)) ∷ (Operate (Add One Quad))
    ∷ (Operate (Add Four Long)) ∷ (Operate (Add Four Quad)) ∷ (Operate (Add Eight Long))
    ∷ (Operate (Add Eight Quad)) ∷ (Operate (Sub One Long)) ∷ (Operate (Sub One Quad))
    ∷ (Operate (Sub Four Long)) ∷ (Operate (Sub Four Quad)) ∷ (Operate (Sub Eight Long))
    ∷ (Operate (Sub Eight Quad)) ∷ (Operate (Mul Long)) ∷ (Operate (Mul Quad)) ∷ (Operate (AddV Long))
    ∷ (Operate (AddV Quad)) ∷ (Operate (SubV Long)) ∷ (Operate (SubV Quad)) ∷ (Operate (MulV Long))
    ∷ (Operate (MulV Quad)) ∷ (Operate Umulh) ∷ (Operate (Compare cmp.Eq)) ∷ (Operate (Compare cmp.Lt))
    ∷ (Operate (Compare cmp.Le)) ∷ (Operate (Compare cmp.Ult)) ∷ (Operate (Compare cmp.Ule)) ∷ (Operate Cmpbge)
    ∷ (Operate And) ∷ (Operate Bis) ∷ (Operate Xor) ∷ (Operate Bic) ∷ (Operate Ornot) ∷ (Operate Eqv)
    ∷ (Operate Sll) ∷ (Operate Srl) ∷ (Operate Sra) ∷ (Operate Zap) ∷ (Operate Zapnot) ∷ (Operate Sextb)
    ∷ (Operate Sextw) ∷ (Operate (ExtLow size.Byte)) ∷ (Operate (ExtLow size.Word))
    ∷ (Operate (ExtLow size.Long)) ∷ (Operate (ExtLow size.Quad)) ∷ (Operate (ExtHigh wide.Word))
    ∷ (Operate (ExtHigh wide.Long)) ∷ (Operate (ExtHigh wide.Quad)) ∷ (Operate (InsLow size.Byte))
    ∷ (Operate (InsLow size.Word)) ∷ (Operate (InsLow size.Long)) ∷ (Operate (InsLow size.Quad))
    ∷ (Operate (InsHigh wide.Word)) ∷ (Operate (InsHigh wide.Long)) ∷ (Operate (InsHigh wide.Quad))
    ∷ (Operate (MskLow size.Byte)) ∷ (Operate (MskLow size.Word)) ∷ (Operate (MskLow size.Long))
    ∷ (Operate (MskLow size.Quad)) ∷ (Operate (MskHigh wide.Word)) ∷ (Operate (MskHigh wide.Long))
    ∷ (Operate (MskHigh wide.Quad)) ∷ (Move cond.Lbs) ∷ (Move cond.Lbc) ∷ (Move cond.Eq) ∷ (Move cond.Ne)
    ∷ (Move cond.Lt) ∷ (Move cond.Ge) ∷ (Move cond.Le) ∷ (Move cond.Gt) ∷ (Barrier misc.Trapb)
    ∷ (Barrier misc.Excb) ∷ (Barrier misc.Mb) ∷ (Barrier misc.Wmb) ∷ Fnop ∷ Halt ∷ Callsys
    ∷ []

-- the form of a name
unfoldable pub form_of : List ℕ → Option Form
form_of name = find (λ f. bytes_eq (form_name f) name) all_forms
