-- Rounds may begin at the grouped graph of a program, and what they make of it is an image of the program.
use Rattle.std.proofs.Common.{◌≡◌, ℕ, List, sym, subst}
use Rattle.om_alpha.specs.declared.op.Level.TheVariants as level
use Rattle.om_value.specs.declared.value.Target.{Target}
use Rattle.om_prog.specs.View.{ProgramView}
use Rattle.om_prog.specs.Valid.{IsProgram}
use Rattle.om_graph.specs.View.{GraphView}
use Rattle.om_graph.specs.Fits.{OpsFit}
use Rattle.om_graph.specs.Grouping.{graph_tables, IsGrouped}
use Rattle.om_graph.specs.Kept.{Comes}
use Rattle.om_graph.specs.Lifted.{IsLifted}
use Rattle.om_graph.specs.Stands.{BasesStand, PairsWhole}
use Rattle.om_graph.specs.Tables.{with_tables}
use Rattle.om_graph.proofs.Compose.{keeps_both}
use Rattle.om_passes.proofs.Starts.{lifted_stands}
use Rattle.om_image.specs.declared.image.Image.{Image}
use Rattle.om_image.specs.Valid.{IsValidImage}
use Rattle.om_layout.specs.Facts.{LaysOut}
use Rattle.om_layout.specs.Layout.{LayoutView}
use Rattle.om_layout.specs.Limits.{IsWithinLimits}
use Rattle.om_layout.proofs.Natural.{lays_out}
use Rattle.om_encode.specs.Fitting.{BranchesFit}
use Rattle.om_encode.specs.TrueMap.{IsMapIn}
use Rattle.om_encode.proofs.Reached.{reached_branches_fit}
use Rattle.om_thorough.proofs.Rest.{rest_is_thorough}
use Rattle.om_counted.specs.Levels.{IsImageAt}
use Rattle.om_link.specs.Plain.{BranchesReach}
use Rattle.om_link.specs.Rounds.{MayBegin, AreRounds}
use Rattle.om_link.proofs.Lifted.{ops_fit, branches_in_reach}

module _ (p : ProgramView) (prog : IsProgram p) (g : GraphView) (lifted : IsLifted p g) where
  -- ---- other tables leave blocks as they are

  bases_there : (ts : List ℕ) → BasesStand p (with_tables g ts)
  bases_there ts =
      let b = lifted_stands.bases p g prog lifted in
      record { uses = b.uses; idle = b.idle }

  pairs_there : (ts : List ℕ) → PairsWhole p (with_tables g ts)
  pairs_there ts = let h = lifted_stands.pairs p g prog lifted in record { low = h.low; high = h.high }

  fits_there : (ts : List ℕ) (gp : ℕ → ℕ) (address : Target → ℕ) → OpsFit p gp address (with_tables g ts)
  fits_there ts gp address = record { ops = (ops_fit p prog g lifted gp address).ops }

  module _ (h : GraphView) (grouped : IsGrouped p g h) where
    pub may_begin : BranchesReach p → h ≡ with_tables g (graph_tables g) → MayBegin p h
    may_begin reach same = record {
      goes_on = record { graph = grouped.of; kept = grouped.kept; reach = grouped.reach (branches_in_reach p prog g lifted reach) };
      bases = subst (BasesStand p) (sym same) (bases_there (graph_tables g));
      pairs = subst (PairsWhole p) (sym same) (pairs_there (graph_tables g));
      tables = grouped.tables;
      fits = λ gp address. subst (OpsFit p gp address) (sym same) (fits_there (graph_tables g) gp address);
    }

    -- ---- behind the rounds

    module _ (n : GraphView) (l : LayoutView) (done : AreRounds p h n l) where
      pub lays : LaysOut p n l (Comes n)
      lays = lays_out p prog n done.of l done.laid (Comes n)

      pub branches : BranchesFit n l
      branches = reached_branches_fit p n l prog done.of done.laid done.reach

      pub full_image : (i : Image) → IsWithinLimits p → IsMapIn p n l i → IsValidImage i → IsImageAt level.Full p i
      full_image i limits true_map valid = record {
        program = prog;
        lifted = g;
        graph = n;
        layout = l;
        origin = lifted;
        keeps = keeps_both p g h n grouped.keeps done.keeps;
        of = done.of;
        kept = done.kept;
        laid = done.laid;
        fits = done.fits;
        bases = done.bases;
        true_map = true_map;
        valid = valid;
        finished =
            rest_is_thorough p n l i prog done.of done.kept limits done.laid.data_part true_map done.fits done.bases done.pairs
            done.facts done.masks done.outs done.rest;
      }
