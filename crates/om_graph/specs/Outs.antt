-- The registers that may be read from a block's end on, computed from the masks of blocks: those in the mask of a block
-- that a walk enters from there.
use Rattle.std.specs.Prelude.{ℕ, Bool, true, false, not, ◌&&◌, ◌||◌, ◌==◌, List, [], ◌∷◌}
use Rattle.std.specs.List.{list_any}
use Rattle.om_isa.specs.declared.instr.BrOp.{BrOp}
use Rattle.om_isa.specs.declared.instr.BrOp.TheVariants.{If}
use Rattle.om_isa.specs.declared.instr.Instr.{Instr}
use Rattle.om_isa.specs.declared.instr.Instr.TheVariants.{Jump as Jumps}
use Rattle.om_value.specs.declared.value.Place.{Place}
use Rattle.om_value.specs.Same.{place_eq}
use Rattle.om_prog.specs.Act.{Act, Plain, Lit, To, Word}
use Rattle.om_prog.specs.Step.{next_place}
use Rattle.om_graph.specs.declared.op.Last.{Last}
use Rattle.om_graph.specs.declared.op.Last.TheVariants.{Fall, Cond}
use Rattle.om_graph.specs.View.{Block, GraphView}
use Rattle.om_graph.specs.Run.{block_words, words}
use Rattle.om_graph.specs.Landing.{names_place}

-- ---- what a word names

abbrev pub loads_code : Place → Act → Bool
loads_code q (Lit ra rb t) = names_place q t
loads_code q _ = false

abbrev pub plain_links : Instr → Bool
plain_links (Jumps kind ra rb hint) = not (ra == 31)
plain_links _ = false

abbrev pub branch_links : BrOp → ℕ → Bool
branch_links (If k) ra = false
branch_links op ra = not (ra == 31)

-- a word writes a link register
abbrev pub act_links : Act → Bool
act_links (Plain i) = plain_links i
act_links (To op ra to) = branch_links op ra
act_links _ = false

abbrev pub names_landing : Place → Word → Bool
names_landing q w = loads_code q w.act || (act_links w.act && place_eq (next_place w.at) q)

-- what is kept names a place as one to which a jump by a register may go
abbrev pub is_named : GraphView → Place → Bool
is_named g q = list_any (λ r. place_eq r q) g.roots || list_any (names_landing q) (words g)

-- ---- from block to block

abbrev pub plain_goes : Bool → Instr → Bool
plain_goes named (Jumps kind ra rb hint) = named
plain_goes named _ = false

-- a word goes to a place, which something names or not
abbrev pub act_goes : Bool → Place → Act → Bool
act_goes named q (Plain i) = plain_goes named i
act_goes named q (To op ra to) = place_eq to q
act_goes named q _ = false

-- the last of some words goes there
abbrev pub last_goes : Bool → Place → List Word → Bool
last_goes named q [] = false
last_goes named q (w ∷ []) = act_goes named q w.act
last_goes named q (w ∷ x ∷ ws) = last_goes named q (x ∷ ws)

abbrev pub falls_on : Last → Bool
falls_on Fall = true
falls_on (Cond at i to) = true
falls_on _ = false

-- the blocks of two labels stand one right before the other
abbrev pub are_next : List Block → Place → Place → Bool
are_next [] p q = false
are_next (b ∷ []) p q = false
are_next (b ∷ n ∷ bs) p q = (place_eq b.label p && place_eq n.label q) || are_next (n ∷ bs) p q

-- a walk enters one kept block from the end of another
abbrev pub enters : GraphView → Block → Block → Bool
enters g b n =
    (are_next g.blocks b.label n.label && (n.label.obj == b.label.obj) && falls_on b.last)
    || last_goes (is_named g n.label) n.label (block_words b)

-- ---- masks

-- the registers in the mask of a block that a walk enters from the end of the block of a label
abbrev pub outs_of : GraphView → (Place → ℕ → Bool) → Place → ℕ → Bool
outs_of g masks label r =
    list_any (λ b. place_eq b.label label && list_any (λ n. enters g b n && masks n.label r) g.blocks) g.blocks
