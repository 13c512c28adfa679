-- What a flow that is inside gives: the hub has no edge to itself, and does nothing.
use Rattle.std.proofs.Common.{◌≡◌, ℕ, List, [], length, subst, arith}
use Rattle.om_flow.specs.declared.parts.FlowBlock.{FlowBlock}
use Rattle.om_flow.specs.declared.parts.Transfer.TheVariants.{Keep}
use Rattle.om_flow.specs.Edges.{IsAmong, Edge}
use Rattle.om_flow.specs.Seen.{pair_of, edges_of, transfers_of, reads_of, writes_of, IsFlowInside}
use Rattle.om_flow.specs.Facts.{transfer_at}
use Rattle.om_flow.specs.Masks.{number_at}
use Rattle.om_flow.proofs.Fields.{field_last}

module _ (blocks : List FlowBlock) (lands : List ℕ) (entry : ℕ) (inside : IsFlowInside blocks lands entry) where
  pub hub_lands : (c : ℕ) → Edge (edges_of blocks lands) (length blocks) c → IsAmong lands c
  hub_lands c e = subst (λ (l : List ℕ). IsAmong l c) (field_last pair_of blocks lands []) e.among

  pub hub_apart : Edge (edges_of blocks lands) (length blocks) (length blocks) → ⊥
  hub_apart e = omega (arith, inside.landing.below (length blocks) (hub_lands (length blocks) e))

pub hub_keeps : (blocks : List FlowBlock) → transfer_at (transfers_of blocks) (length blocks) ≡ Keep
hub_keeps blocks = field_last (λ b. b.transfer) blocks Keep Keep

pub hub_reads : (blocks : List FlowBlock) → number_at (reads_of blocks) (length blocks) ≡ 0
hub_reads blocks = field_last (λ b. b.reads) blocks 0 0

pub hub_writes : (blocks : List FlowBlock) → number_at (writes_of blocks) (length blocks) ≡ 0
hub_writes blocks = field_last (λ b. b.writes) blocks 0 0
