-- Where control goes from the end of a block: by its last word, and into the block behind it.
use Rattle.std.specs.Prelude.{◌≡◌, ◌⊎◌, ℕ, Bool, false, ◌==◌, if◌then◌else◌, Option, Some, None}
use Rattle.om_value.specs.declared.value.Place.{Place}
use Rattle.om_graph.specs.declared.op.Last.{Last}
use Rattle.om_graph.specs.declared.op.Last.TheVariants as last
use Rattle.om_graph.specs.View.{Block, GraphView, labelled, label_of, block_id_after}
use Rattle.om_graph.specs.Outs.{falls_on}
use Rattle.om_blocks.specs.declared.exits.Exit.{Exit}
use Rattle.om_blocks.specs.declared.exits.Exit.TheVariants as exit

-- to the kept block of a label, if there is one
abbrev pub exit_at : Option ℕ → Exit
exit_at None = exit.Nowhere
exit_at (Some id) = exit.Block id

-- where the word that ends a block goes
abbrev pub last_exit : GraphView → Last → Exit
last_exit g last.Fall = exit.Nowhere
last_exit g last.Off = exit.Nowhere
last_exit g (last.Br at op ra to) = exit_at (labelled g to)
last_exit g (last.Cond at i to) = exit_at (labelled g to)
last_exit g (last.Call at op ra to) = exit_at (labelled g to)
last_exit g (last.CallBy at i) = exit.ByRegister
last_exit g (last.JumpBy at i) = exit.ByRegister

abbrev pub same_text : Option Place → Option Place → Bool
same_text (Some p) (Some q) = q.obj == p.obj
same_text _ _ = false

abbrev pub in_text : GraphView → ℕ → Option ℕ → Option ℕ
in_text g id None = None
in_text g id (Some next) = if same_text (label_of g id) (label_of g next) then Some next else None

-- the block that a block falls into: the next kept one of its text
abbrev pub next_fallen : GraphView → ℕ → Last → Option ℕ
next_fallen g id last = if falls_on last then in_text g id (block_id_after id g.blocks) else None

-- control goes from the end of a block to the block of an id, and not by a register
abbrev pub Leads : GraphView → Block → ℕ → Type 0
Leads g b id = (last_exit g b.last ≡ exit.Block id) ⊎ (next_fallen g b.id b.last ≡ Some id)

abbrev pub JumpsBy : GraphView → Block → Type 0
JumpsBy g b = last_exit g b.last ≡ exit.ByRegister
