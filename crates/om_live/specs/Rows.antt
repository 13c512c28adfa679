-- Worked masks of the graph of a call: bit r of a number is register r.
use Rattle.std.specs.Prelude.{◌≡◌, ◌^◌, ◌+◌, true, false, [], ◌∷◌, refl}
use Rattle.om_graph.specs.View.{is_live_block, dropped}
use Rattle.om_graph.specs.Rows.{at, calling}
use Rattle.om_blocks.specs.declared.exits.Exit.TheVariants.{Nowhere, ByRegister}
use Rattle.om_blocks.specs.Found.{masks_in}
use Rattle.om_live.specs.Passing.{with_exit}

-- the number of a block's label finds its mask; of a place inside a block every register may be read
pub row_label : masks_in calling (2 ^ 26 ∷ 2 ^ 16 ∷ []) (at 4) 16 ≡ true
row_label = refl

pub row_other_register : masks_in calling (2 ^ 26 ∷ 2 ^ 16 ∷ []) (at 4) 26 ≡ false
row_other_register = refl

pub row_inside : masks_in calling (2 ^ 26 ∷ 2 ^ 16 ∷ []) (at 8) 26 ≡ true
row_inside = refl

-- a block that was dropped is no kept one, nor is one whose number is still to be given
pub row_kept : is_live_block calling 1 ≡ true
row_kept = refl

pub row_dropped : is_live_block (dropped calling 1) 1 ≡ false
row_dropped = refl

pub row_added : is_live_block calling 4 ≡ false
row_added = refl

-- a jump allows what is in its block's mask or written there; an end that is no jump allows all
pub row_jump : with_exit ByRegister (2 ^ 1 + 2 ^ 2 + 2 ^ 3) (2 ^ 1) (2 ^ 3) ≡ 2 ^ 1 + 2 ^ 3
row_jump = refl

pub row_no_jump : with_exit Nowhere (2 ^ 1 + 2 ^ 2) (2 ^ 1) 0 ≡ 2 ^ 1 + 2 ^ 2
row_no_jump = refl
