-- Worked pieces: no bytes are written in no pieces, few bytes in one, and one byte past a full piece in a second.
use Rattle.std.proofs.Common.{[], ◌∷◌, ◌++◌, replicate, refl, arith}
use Rattle.om_isa.specs.SystemCall.{ArePieces}

row_no_pieces : ArePieces [] []
row_no_pieces = record { joined = refl; sizes = tt }

row_piece : ArePieces (104 ∷ 105 ∷ []) ((104 ∷ 105 ∷ []) ∷ [])
row_piece = record { joined = refl; sizes = (omega arith, omega arith) }

row_pieces : ArePieces (replicate 4096 7 ++ 8 ∷ []) (replicate 4096 7 ∷ (8 ∷ []) ∷ [])
row_pieces = record { joined = refl; sizes = (refl, (omega arith, omega arith)) }
