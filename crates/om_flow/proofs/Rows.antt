-- A worked walk over the diamond of specs/Rows.
use Rattle.std.proofs.Common.{inl, Some, None, refl}
use Rattle.om_flow.specs.Edges.{Edge}
use Rattle.om_flow.specs.Seen.{transfers_of}
use Rattle.om_flow.specs.Facts.{transfer_at, Starts, Goes, Mixed, Other}
use Rattle.om_flow.specs.Rows.{diamond, edges}

-- a walk by block 1 leaves another value at block 3, so its fact is Unknown
pub row_mixed : Mixed (Edge edges) (transfer_at (transfers_of diamond)) 0 7 3
row_mixed =
    Other (Goes 1 3 (Some 7) None
    (Goes 0 1 (Some 7) (Some 7) (Starts 0 (Some 7) refl refl) (record { among = inl refl }) refl) (record { among = inl refl }) refl)
