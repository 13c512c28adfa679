-- What a dropped block and an entry owe to masks is needed: graphs whose masks pass the check, and
-- no longer do after the edit.
use Rattle.std.specs.Prelude.{◌&&◌, ◌==◌, ℕ, pos, Bool, true, false, [], ◌∷◌}
use Rattle.om_isa.specs.declared.instr.BrOp.TheVariants.{Bsr}
use Rattle.om_isa.specs.declared.instr.MemOp.TheVariants.{Lda, Stq}
use Rattle.om_isa.specs.declared.instr.Instr.TheVariants.{Mem}
use Rattle.om_value.specs.declared.value.Place.{Place}
use Rattle.om_graph.specs.declared.op.OpKind.TheVariants as op
use Rattle.om_graph.specs.declared.op.Last.TheVariants.{Fall, Off, Br}
use Rattle.om_graph.specs.View.{Block, GraphView, dropped, last_set}
use Rattle.om_graph.specs.Checks.{MaskChecked}

abbrev pub at : ℕ → Place
at n = record { obj = 0; off = n }

-- ---- a block that another falls into

abbrev pub falls : Block
falls = record { id = 0; label = at 0; opening = false; ops = []; last = Fall }

abbrev pub writes : Block
writes =
    record {
      id = 1;
      label = at 4;
      opening = false;
      ops = record {
        id = 10;
        op = record { place = at 4; kind = op.Plain (Mem Lda 1 31 (pos 0)) };
      } ∷ [];
      last = Fall;
    }

abbrev pub reads : Block
reads =
    record {
      id = 2;
      label = at 8;
      opening = false;
      ops = record {
        id = 11;
        op = record { place = at 8; kind = op.Plain (Mem Stq 1 31 (pos 0)) };
      } ∷ [];
      last = Off;
    }

abbrev pub three : GraphView
three =
    record {
      counts = 3 ∷ [];
      roots = at 4 ∷ [];
      tables = 0 ∷ [];
      labels = at 0 ∷ at 4 ∷ at 8 ∷ [];
      blocks = falls ∷ writes ∷ reads ∷ [];
      touched = [];
    }

-- r1 may be read in the last block alone
abbrev pub ones : Place → ℕ → Bool
ones q r = (q.off == 8) && (r == 1)

-- ---- a call that goes past a pair

abbrev pub calls : Block
calls = record { id = 0; label = at 0; opening = false; ops = []; last = Br (at 0) Bsr 31 (at 4) }

abbrev pub pair : Block
pair = record {
  id = 1;
  label = at 4;
  opening = true;
  ops =
      record {
        id = 10;
        op = record {
          place = at 4;
          kind = op.GpHi 29 31 (at 4);
        };
      } ∷ record {
        id = 11;
        op = record {
          place = at 8;
          kind = op.GpLo 29 29 (at 4);
        };
      } ∷ [];
  last = Fall;
}

abbrev pub uses : Block
uses =
    record {
      id = 2;
      label = at 12;
      opening = false;
      ops = record {
        id = 12;
        op = record { place = at 12; kind = op.Plain (Mem Stq 29 31 (pos 0)) };
      } ∷ [];
      last = Off;
    }

abbrev pub entered : GraphView
entered =
    record {
      counts = 4 ∷ [];
      roots = at 0 ∷ [];
      tables = 0 ∷ [];
      labels = at 0 ∷ at 4 ∷ at 12 ∷ [];
      blocks = calls ∷ pair ∷ uses ∷ [];
      touched = [];
    }

-- r29 may be read behind the pair alone
abbrev pub gps : Place → ℕ → Bool
gps q r = (q.off == 12) && (r == 29)

pub record ChecksMayFail : Type 0 where
  -- a block into which another falls, gone: the one before falls into the one behind
  pub passes_before : MaskChecked ones three
  pub fails_after : MaskChecked ones (dropped three 1) → ⊥
  -- a call past a pair that wrote r29, read behind it
  pub passes_pair : MaskChecked gps entered
  pub fails_past : MaskChecked gps (last_set entered 0 (Br (at 0) Bsr 31 (at 12))) → ⊥
