-- Worked facts and chains. Block 0 goes to blocks 1 and 2, block 1 sets r29 to another value, and both go on to block 3,
-- which jumps to the hub, 4, and from there back to block 0.
use Rattle.std.specs.Prelude.{◌≡◌, ℕ, List, [], ◌∷◌, refl}
use Rattle.om_flow.specs.declared.parts.Fact.TheVariants.{Any, Table, Unknown}
use Rattle.om_flow.specs.declared.parts.FlowBlock.{FlowBlock}
use Rattle.om_flow.specs.declared.parts.Transfer.{Transfer}
use Rattle.om_flow.specs.declared.parts.Transfer.TheVariants.{Keep, SetTable, SetUnknown}
use Rattle.om_flow.specs.Seen.{edges_of}
use Rattle.om_flow.specs.Facts.{sent}
use Rattle.om_flow.specs.FactSteps.{joined}
use Rattle.om_flow.specs.Chain.{ends_of, chain, sources}

abbrev pub block : ℕ → ℕ → Transfer → FlowBlock
block first second transfer = record { first = first; second = second; transfer = transfer; reads = 0; writes = 0 }

abbrev pub diamond : List FlowBlock
diamond = block 1 2 Keep ∷ block 3 3 SetUnknown ∷ block 3 3 Keep ∷ block 4 4 Keep ∷ []

abbrev pub edges : List (List ℕ)
edges = edges_of diamond (0 ∷ [])

pub row_edges : edges ≡ (1 ∷ 2 ∷ []) ∷ (3 ∷ 3 ∷ []) ∷ (3 ∷ 3 ∷ []) ∷ (4 ∷ 4 ∷ []) ∷ (0 ∷ []) ∷ []
row_edges = refl

-- ---- facts

pub row_sent_any : sent (SetTable 3) Any ≡ Any
row_sent_any = refl

pub row_sent_table : sent (SetTable 3) Unknown ≡ Table 3
row_sent_table = refl

pub row_sent_other : sent SetUnknown (Table 3) ≡ Unknown
row_sent_other = refl

pub row_joined_same : joined (Table 3) (Table 3) ≡ Table 3
row_joined_same = refl

pub row_joined_two : joined (Table 3) (Table 4) ≡ Unknown
row_joined_two = refl

pub row_joined_any : joined Any (Table 4) ≡ Table 4
row_joined_any = refl

-- ---- chains: edges 2 b and 2 b + 1 of block b, edge 8 the hub's

pub row_ends : ends_of diamond (0 ∷ []) ≡ 1 ∷ 2 ∷ 3 ∷ 3 ∷ 3 ∷ 3 ∷ 4 ∷ 4 ∷ 0 ∷ []
row_ends = refl

abbrev pub more : List ℕ
more = 0 ∷ 0 ∷ 0 ∷ 3 ∷ 4 ∷ 5 ∷ 0 ∷ 7 ∷ 0 ∷ []

-- the chain of block 3 begins at edge 5, that of block 0 at edge 8
pub row_chain : chain more 6 ≡ 5 ∷ 4 ∷ 3 ∷ 2 ∷ []
row_chain = refl

pub row_sources : sources 4 more 6 ≡ 2 ∷ 2 ∷ 1 ∷ 1 ∷ []
row_sources = refl

pub row_source_is_the_hub : sources 4 more 9 ≡ 4 ∷ []
row_source_is_the_hub = refl
