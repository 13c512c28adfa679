-- The forms of the words of an image, and what a layout and an image have to do with a script.
use Rattle.std.specs.Prelude.{◌≡◌, ◌⊎◌, ℕ, ◌+◌, ◌/◌, ◌%◌, ◌^◌, ◌<◌, ◌≤◌, ℤ, pos, ◌*ℤ◌, Bool, true, false, ◌==◌, ◌&&◌, if◌then◌else◌, length, Some, FitsSigned}
use Rattle.std.specs.Int.{w16}
use Rattle.om_isa.specs.declared.instr.BrOp.{BrOp}
use Rattle.om_isa.specs.declared.instr.BrOp.TheVariants.{If}
use Rattle.om_isa.specs.declared.instr.MemOp.TheVariants.{Lda, Ldah, Ldq}
use Rattle.om_isa.specs.declared.instr.Instr.{Instr}
use Rattle.om_isa.specs.declared.instr.Instr.TheVariants.{Mem, Branch, Jump as Jumps}
use Rattle.om_isa.specs.declared.instr.Access.TheVariants.{Address}
use Rattle.om_isa.specs.Registers.{access_of}
use Rattle.om_isa.specs.Target.{displaced}
use Rattle.om_isa.specs.Words.{Encodes}
use Rattle.om_value.specs.declared.value.Place.{Place}
use Rattle.om_value.specs.declared.value.Region.{Region}
use Rattle.om_value.specs.declared.value.Region.TheVariants.{Heap}
use Rattle.om_value.specs.declared.value.Target.{Target}
use Rattle.om_value.specs.declared.value.Target.TheVariants as target
use Rattle.om_prog.specs.Act.{Act, Plain, Lit, GpHi, GpLo, To, AddrLda, AddrHi, UseLo, UseGp, Wrong, Word, Script, base_of}
use Rattle.om_prog.specs.Step.{sized, next_place}
use Rattle.om_isa.specs.SystemCall.{heap_limit}
use Rattle.om_image.specs.declared.image.Image.{Image}
use Rattle.om_image.specs.NumState.{heap_base}
use Rattle.om_image.specs.NumAccess.{plus, is_mapped}
use Rattle.om_image.specs.NumStep.{is_text, word_at, data_size, start_memory}
use Rattle.om_lockstep.specs.Addresses.{Addresses, target_number, IsTarget, IsLaidOut}
use Rattle.om_lockstep.specs.Goes.{IsFixed, most_of}

-- eight bytes of memory that no step writes hold the address of a target
pub record IsSlot (c : Script) (l : Addresses) (i : Image) (a : ℕ) (t : Target) : Type 0 where
  pub aligned : a % 8 ≡ 0
  pub mapped : (heap : ℕ) → is_mapped (data_size i) heap a 8 ≡ true
  pub fixed : (k : ℕ) → k < 8 → IsFixed l (most_of c) (a + k)
  pub holds : (k : ℕ) → k < 8 → start_memory i (a + k) ≡ target_number l t / 256 ^ k % 256

abbrev pub is_num : Target → Bool
is_num (target.Num n) = true
is_num _ = false

module _ (c : Script) (l : Addresses) (i : Image) (at : Place) where
  -- the GP of the word's object
  abbrev pub gp_at : ℕ
  gp_at = l.gp (c.table at.obj)

  -- a load or store over a target, as one over a base that holds a number
  abbrev pub IsUseForm : Instr → ℕ → ℕ → Target → ℕ → Type 0
  IsUseForm (Mem op ra rb disp) base held t word =
      (d : ℤ) × Encodes word (Mem op ra base d) × (plus held d ≡ plus (target_number l t) disp) × FitsSigned w16 disp × (access_of op ≡ Address → ⊥)
  IsUseForm _ base held t word = ⊥

  -- the words that an act may have
  abbrev pub IsForm : Act → ℕ → Type 0
  IsForm (Plain instr) word = Encodes word instr
  IsForm (Lit ra rb t) word =
      (d : ℤ) × Encodes word (Mem Ldq ra rb d) × ((ra ≡ 31) ⊎ (IsSlot c l i (plus gp_at d) t × IsTarget t))
  IsForm (GpHi ra rb base) word =
      (hi : ℤ) × Encodes word (Mem Ldah ra rb hi) × (plus (l.code base) (pos 65536 *ℤ hi) ≡ l.half at)
  IsForm (GpLo ra rb hi) word = (lo : ℤ) × Encodes word (Mem Lda ra rb lo) × (plus (l.half hi) (pos 1 *ℤ lo) ≡ gp_at)
  IsForm (To op ra q) word =
      (d : ℤ) × Encodes word (Branch op ra d) × (displaced (l.code at) d ≡ l.code q)
  IsForm (AddrLda ra rb t) word =
      (d : ℤ) × Encodes word (Mem Lda ra rb d) × IsTarget t
      × ((ra ≡ 31) ⊎ (plus (if is_num t && (rb == 31) then 0 else gp_at) (pos 1 *ℤ d) ≡ target_number l t))
  IsForm (AddrHi ra rb t) word =
      (hi : ℤ) × Encodes word (Mem Ldah ra rb hi) × ((ra ≡ 31) ⊎ (plus gp_at (pos 65536 *ℤ hi) ≡ l.half at))
  IsForm (UseLo instr hi t) word = IsUseForm instr (base_of instr) (l.half hi) t word × IsTarget t
  IsForm (UseGp instr gp t) word = IsUseForm instr gp gp_at t word × IsTarget t
  IsForm Wrong word = ⊥

-- a word after which the next one is run, or whose next place is written to a register
abbrev pub branch_has_next : BrOp → ℕ → Type 0
branch_has_next (If k) ra = Unit {0}
branch_has_next op ra = ra ≡ 31 → ⊥

abbrev pub plain_has_next : Instr → Type 0
plain_has_next (Jumps kind ra rb hint) = ra ≡ 31 → ⊥
plain_has_next _ = Unit {0}

abbrev pub HasNext : Act → Type 0
HasNext (Plain instr) = plain_has_next instr
HasNext (To op ra q) = branch_has_next op ra
HasNext _ = Unit {0}

-- the word found at a place stands at the place's address, in a form of its act, before the next place
pub record Stands (c : Script) (l : Addresses) (i : Image) (p : Place) (w : Word) : Type 0 where
  pub here : l.code p ≡ l.code w.at
  pub word : ℕ
  pub found : word_at i.text (l.code w.at) ≡ Some word
  pub form : IsForm c l i w.at w.act word
  pub next : HasNext w.act → l.code (next_place w.at) ≡ l.code w.at + 4

-- an image holds a script; K has the places that codes in values name, G those where a run comes
pub record IsEncoded (c : Script) (l : Addresses) (i : Image) (K G : Place → Type 0) : Type 0 where
  pub laid : IsLaidOut l (most_of c)
  pub heap : l.region Heap ≡ heap_base
  pub low : (r : Region) (x : ℕ) → (r ≡ Heap → ⊥) → x < most_of c r → l.region r + x < heap_base
  pub mapped :
      (r : Region) (x n heap : ℕ) → heap ≤ heap_limit → 0 < n → x + n ≤ sized c.sizes heap r
      → is_mapped (data_size i) heap (l.region r + x) n ≡ true
  pub lands : (q : Place) → K q → c.lands q ≡ true → is_text (length i.text) (l.code q) ≡ true
  pub stands : (p : Place) (w : Word) → G p → c.fetch p ≡ Some w → Stands c l i p w
