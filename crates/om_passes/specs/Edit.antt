-- What an edit may make of the words of a block, so that the block stays one of its program.
use Rattle.std.specs.Prelude.{◌≡◌, ℕ, true, List, Option, Some, None}
use Rattle.om_isa.specs.declared.instr.Instr.{Instr}
use Rattle.om_value.specs.declared.value.Region.{Region}
use Rattle.om_value.specs.declared.value.Target.TheVariants as target
use Rattle.om_prog.specs.Act.{Plain, Lit, Word, act_reads, act_writes}
use Rattle.om_prog.specs.Flow.{Among}
use Rattle.om_prog.specs.View.{ProgramView}
use Rattle.om_graph.specs.View.{Has}
use Rattle.om_graph.specs.Form.{is_address}
use Rattle.om_graph.specs.Rewritten.{each_word}
use Rattle.om_graph.specs.Uses.{IsLocalUse, IsByteUse}
use Rattle.om_graph.specs.OfProgram.{IsForm, IsFollowed, IsLastWriter, CameFromLoad}

-- an edit of the words bs of a block, which stand for the words ss of the program
pub record WordEdit (p : ProgramView) (ss bs : List Word) (f : Word → Option Word) : Type 0 where
  pub places : (x u : Word) → Has bs x → f x ≡ Some u → u.at ≡ x.at
  -- what is gone is of an address, and not the last word of its text
  pub gone : (x : Word) → Has bs x → f x ≡ None → (is_address x.act ≡ true) × IsFollowed p x.at
  -- what stays is in a form of its word
  pub forms :
      (w x u : Word) → Has ss w → Has bs x → x.at ≡ w.at → IsForm p ss w x.act → f x ≡ Some u →
      IsForm p ss w u.act
  -- and writes what it wrote, and comes from a load only where it did
  pub more :
      (x u : Word) (r : ℕ) → Has bs x → f x ≡ Some u → Among (act_writes x.act) r →
      Among (act_writes u.act) r
  pub fewer :
      (x u : Word) (r : ℕ) → Has bs x → f x ≡ Some u → Among (act_writes u.act) r →
      Among (act_writes x.act) r
  pub loads : (x u : Word) → Has bs x → f x ≡ Some u → CameFromLoad u.act → CameFromLoad x.act
  -- a word as it stands was one, and reads nothing else
  pub plain :
      (x u : Word) (i : Instr) (r : ℕ) → Has bs x → f x ≡ Some u → u.act ≡ Plain i →
      Among (act_reads u.act) r → (j : Instr) × (x.act ≡ Plain j) × Among (act_reads x.act) r
  -- where such a word reads what is gone, that came from no load, and what was written there before
  -- does not either
  pub lost :
      (d x : Word) (j : Instr) (r : ℕ) → IsLocalUse bs d x r → f d ≡ None → x.act ≡ Plain j →
      (CameFromLoad d.act → ⊥)
      × ((u : Word) → IsLastWriter (each_word f bs) x.at r u → CameFromLoad u.act → ⊥)
  -- a byte use as it stands was there, and its load stands as it was
  pub bytes :
      (x u : Word) (i : Instr) (r : ℕ) → Has bs x → f x ≡ Some u → u.act ≡ Plain i →
      IsByteUse r i → u ≡ x
  pub byte_loads :
      (load x : Word) (r rb n : ℕ) (region : Region) (i : Instr) → Has bs load →
      IsLocalUse bs load x r → load.act ≡ Lit r rb (target.Ptr region n) → x.act ≡ Plain i →
      IsByteUse r i → f x ≡ Some x → f load ≡ Some load
