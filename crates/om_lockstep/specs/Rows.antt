-- A worked image: the one word `br r31,-1`, which branches to itself, with no data.
use Rattle.std.specs.Prelude.{◌≡◌, ℕ, ◌+◌, IsTrue, Bool, if◌then◌else◌, List, [], ◌∷◌, Some, None}
use Rattle.om_isa.specs.declared.instr.BrOp.TheVariants.{Br}
use Rattle.om_value.specs.declared.value.Place.{Place}
use Rattle.om_value.specs.declared.value.Region.{Region}
use Rattle.om_value.specs.declared.value.Region.TheVariants.{Stack, Heap}
use Rattle.om_value.specs.Same.{place_eq}
use Rattle.om_prog.specs.Cells.{Byte}
use Rattle.om_prog.specs.Act.{To, Word, Script}
use Rattle.om_image.specs.Layout.{text_base, data_base}
use Rattle.om_image.specs.NumState.{stack_base, stack_size, heap_base}
use Rattle.om_image.specs.declared.image.Image.{Image}
use Rattle.om_lockstep.specs.Addresses.{Addresses}
use Rattle.om_lockstep.specs.Forms.{IsEncoded}
use Rattle.om_lockstep.specs.Lockstep.{StartsAlike, KeepsCodes, AreBytes, InLockstep}

abbrev pub first : Place
first = record { obj = 0; off = 0 }

abbrev pub is_first : Place → Bool
is_first p = place_eq p first

abbrev pub loop_word : Word
loop_word = record { at = first; act = To Br 31 first }

abbrev pub loop_size : Region → ℕ
loop_size Stack = stack_size
loop_size _ = 0

abbrev pub loop_script : Script
loop_script = record {
  fetch = λ p. if is_first p then Some loop_word else None;
  lands = is_first;
  table = λ obj. obj;
  entry = first;
  sizes = loop_size;
  cells = λ r x. Byte 0;
}

abbrev pub loop_region : Region → ℕ
loop_region Stack = stack_base
loop_region Heap = heap_base
loop_region _ = data_base

abbrev pub loop_addresses : Addresses
loop_addresses = record { region = loop_region; code = λ p. text_base; gp = λ table. data_base + 32768; half = λ p. 0 }

abbrev pub loop_image : Image
loop_image = record {
  entry = text_base;
  gp = data_base + 32768;
  text = 0xc3ffffff ∷ [];
  bytes = [];
  bss = 0;
  map = record { objects = []; tables = []; regions = []; words = [] };
}

abbrev pub IsFirst : Place → Type 0
IsFirst p = IsTrue (is_first p)

-- the image meets all that the law asks for, and so it runs as the script
pub record LoopRunsInLockstep : Type 0 where
  pub encoded : IsEncoded loop_script loop_addresses loop_image IsFirst IsFirst
  pub starts : StartsAlike loop_script loop_addresses loop_image
  pub codes : (input : List ℕ) → KeepsCodes loop_script IsFirst IsFirst input
  pub runs : (input : List ℕ) → AreBytes input → InLockstep loop_script loop_addresses loop_image input
