-- The names of all forms differ, and none has a space: so a name is read as its form.
use Rattle.std.proofs.Common.{◌≡◌, ℕ, true, List, Some, refl}
use Rattle.std.specs.Prelude.{bytes_eq}
use Rattle.std.proofs.lemmas.Slice.Eq.{bytes_eq-Decides}
use Rattle.om_alpha.specs.declared.op.Width.TheVariants.{Long}
use Rattle.om_alpha.specs.declared.op.Scale.TheVariants.{One, Four, Eight}
use Rattle.om_alpha.specs.declared.op.Cmp.TheVariants as cmp
use Rattle.om_alpha.specs.declared.op.Cond.TheVariants as cond
use Rattle.om_alpha.specs.declared.op.Size.TheVariants as size
use Rattle.om_alpha.specs.declared.op.Wide.TheVariants as wide
use Rattle.om_alpha.specs.declared.op.AluOp.TheVariants.{Add, Sub, Mul, AddV, SubV, MulV, Compare, ExtLow, ExtHigh, InsLow, InsHigh, MskLow, MskHigh}
use Rattle.om_isa.specs.declared.instr.MemOp.TheVariants as mem
use Rattle.om_isa.specs.declared.instr.JumpOp.TheVariants as jump
use Rattle.om_isa.specs.declared.instr.BrOp.TheVariants as br
use Rattle.om_isa.specs.declared.instr.MiscOp.TheVariants as misc
use Rattle.om_isa.proofs.Found.{find_passes}
use Rattle.om_asm.specs.declared.forms.Form.{Form}
use Rattle.om_asm.specs.declared.forms.Form.TheVariants.{Memory, Jump, Branch, Operate, Move, Barrier}
use Rattle.om_asm.specs.Forms.{form_name, all_forms, form_of}
use Rattle.om_asm.proofs.Pieces.{is_clear}

pub name_read : (f : Form) → form_of (form_name f) ≡ Some f
unfolding form_of
name_read (Memory mem.Lda) = refl
name_read (Jump jump.Jmp) = refl
name_read (Branch (br.If cond.Eq)) = refl
name_read (Operate (Add One Long)) = refl
name_read (Operate (Add Four Long)) = refl
name_read (Operate (Add Eight Long)) = refl
name_read (Operate (Sub One Long)) = refl
name_read (Operate (Sub Four Long)) = refl
name_read (Operate (Sub Eight Long)) = refl
name_read (Operate (Mul Long)) = refl
name_read (Operate (AddV Long)) = refl
name_read (Operate (SubV Long)) = refl
name_read (Operate (MulV Long)) = refl
name_read (Operate (Compare cmp.Eq)) = refl
name_read (Operate (ExtLow size.Byte)) = refl
name_read (Operate (ExtHigh wide.Word)) = refl
name_read (Operate (InsLow size.Byte)) = refl
name_read (Operate (InsHigh wide.Word)) = refl
name_read (Operate (MskLow size.Byte)) = refl
name_read (Operate (MskHigh wide.Word)) = refl
name_read (Move cond.Eq) = refl
name_read (Barrier misc.Mb) = refl
name_read _ = refl

pub name_clear : (f : Form) → is_clear 32 (form_name f) ≡ true
name_clear (Memory mem.Lda) = refl
name_clear (Jump jump.Jmp) = refl
name_clear (Branch (br.If cond.Eq)) = refl
name_clear (Operate (Add One Long)) = refl
name_clear (Operate (Add Four Long)) = refl
name_clear (Operate (Add Eight Long)) = refl
name_clear (Operate (Sub One Long)) = refl
name_clear (Operate (Sub Four Long)) = refl
name_clear (Operate (Sub Eight Long)) = refl
name_clear (Operate (Mul Long)) = refl
name_clear (Operate (AddV Long)) = refl
name_clear (Operate (SubV Long)) = refl
name_clear (Operate (MulV Long)) = refl
name_clear (Operate (Compare cmp.Eq)) = refl
name_clear (Operate (ExtLow size.Byte)) = refl
name_clear (Operate (ExtHigh wide.Word)) = refl
name_clear (Operate (InsLow size.Byte)) = refl
name_clear (Operate (InsHigh wide.Word)) = refl
name_clear (Operate (MskLow size.Byte)) = refl
name_clear (Operate (MskHigh wide.Word)) = refl
name_clear (Move cond.Eq) = refl
name_clear (Barrier misc.Mb) = refl
name_clear _ = refl

pub name_is : (name : List ℕ) (f : Form) → form_of name ≡ Some f → form_name f ≡ name
unfolding form_of
name_is name f e = (bytes_eq-Decides (form_name f) name).0 (find_passes (λ f. bytes_eq (form_name f) name) all_forms f e)
