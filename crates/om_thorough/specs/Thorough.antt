-- What holds of an image that was rewritten until nothing was left: of the program, the image's map and its kept code.
use Rattle.std.specs.Prelude.{◌≡◌, ℕ, ℤ, ◌+ℤ◌, Bool, true, false, List, [], map, length, Option, Some, None, slice_get, option_and_then, FitsSigned}
use Rattle.std.specs.Int.{w16}
use Rattle.om_isa.specs.declared.instr.BrOp.TheVariants.{Bsr}
use Rattle.om_isa.specs.declared.instr.MemOp.TheVariants.{Lda, Ldq}
use Rattle.om_isa.specs.declared.instr.Instr.{Instr}
use Rattle.om_isa.specs.declared.instr.Instr.TheVariants.{Mem, Branch}
use Rattle.om_isa.specs.Words.{instr_of}
use Rattle.om_value.specs.declared.value.Place.{Place}
use Rattle.om_value.specs.declared.value.Region.{Region}
use Rattle.om_value.specs.declared.value.Target.{Target}
use Rattle.om_value.specs.declared.value.Target.TheVariants as target
use Rattle.om_prog.specs.Act.{Act, Plain, Lit, GpHi, GpLo, To, Word, act_writes}
use Rattle.om_prog.specs.Step.{next_place}
use Rattle.om_prog.specs.Flow.{Among}
use Rattle.om_prog.specs.View.{ProgramView}
use Rattle.om_prog.specs.Script.{program_fetch}
use Rattle.om_graph.specs.View.{Block, Shape, GraphView, Has}
use Rattle.om_graph.specs.Run.{words, block_words, shape_words, table_of, graph_script}
use Rattle.om_graph.specs.Form.{is_address}
use Rattle.om_graph.specs.Kept.{IsInKeptSet}
use Rattle.om_graph.specs.Index.{index_of, InReach}
use Rattle.om_graph.specs.Landing.{are_halves}
use Rattle.om_graph.specs.Lifted.{lifted_shapes}
use Rattle.om_graph.specs.OfProgram.{IsFollowed}
use Rattle.om_graph.specs.Uses.{IsLocalUse, IsBaseUse, IsByteUse, IsKnownCall, IsClosedPair, IsClosedOpening, Unwritten}
use Rattle.om_graph.specs.Walks.{WalksTo, MayRead, IsDeadAfter, IsGpFact}
use Rattle.om_graph.specs.Fits.{from_gp, SumIsWithin}
use Rattle.om_image.specs.declared.image.Image.{Image}
use Rattle.om_image.specs.declared.map.MapWord.{MapWord}
use Rattle.om_layout.specs.Layout.{LayoutView, TableAt, gp_of, address_of, table_at}
use Rattle.om_graph.specs.Grouping.{grouped_tables}
use Rattle.om_graph.specs.Left.{StandsIn, IsNear, IsFarLoad, high_word}
use Rattle.om_graph.specs.Stands.{IsClosedIn}

-- ---- the words of the image

-- the number of words of each object
abbrev pub counts_of : ProgramView → List ℕ
counts_of p = map (λ text. length text) p.texts

abbrev pub is_kept_word : Option MapWord → Bool
is_kept_word None = false
is_kept_word (Some w) = w.kept

module _ (p : ProgramView) (i : Image) where
  -- what the map says of a word of the program
  abbrev pub in_map : Place → Option MapWord
  in_map q = slice_get i.map.words (index_of (counts_of p) q)

  -- the word at a place of the program is kept
  abbrev pub kept_in_map : Place → Bool
  kept_in_map q = is_kept_word (in_map q)

  -- the image's instruction for it
  abbrev pub image_instr : Place → Option Instr
  image_instr q = option_and_then (λ w. option_and_then instr_of (slice_get i.text w.position)) (in_map q)

  -- it is kept, as this instruction
  pub record Becomes (q : Place) (new : Instr) : Type 0 where
    pub kept : kept_in_map q ≡ true
    pub instr : image_instr q ≡ Some new

  -- a word of a LITERAL load that is kept as an LDQ
  pub record IsKeptLoad (q : Place) (t : Target) : Type 0 where
    pub ra : ℕ
    pub rb : ℕ
    pub loads : program_fetch p q ≡ Some (record { at = q; act = Lit ra rb t })
    pub rc : ℕ
    pub rd : ℕ
    pub disp : ℤ
    pub word : Becomes q (Mem Ldq rc rd disp)

-- the word at a place of the program came from a LITERAL load or a GPDISP
abbrev pub CameFromAddress : ProgramView → Place → Type 0
CameFromAddress p q = (w : Word) × (program_fetch p q ≡ Some w) × (is_address w.act ≡ true)

-- ---- the clauses

-- no kept load of a slot has a near target
pub record NearLoadsGone (p : ProgramView) (l : LayoutView) (i : Image) : Type 0 where
  pub gone : (q : Place) (t : Target) → IsKeptLoad p i q t → IsNear p (gp_of l) (address_of l) q.obj t → ⊥

-- a kept known call whose place is in reach is a BSR
pub record KnownCallsDirect (p : ProgramView) (i : Image) : Type 0 where
  pub direct :
      (s : Shape) (call : Word) (ra : ℕ) (q : Place) → Has (lifted_shapes p) s → IsKnownCall (shape_words s) call ra q →
      kept_in_map p i call.at ≡ true → InReach (counts_of p) call.at q → (d : ℤ) × Becomes p i call.at (Branch Bsr ra d)

abbrev pub is_half : Act → Bool
is_half (GpHi ra rb base) = true
is_half (GpLo ra rb hi) = true
is_half _ = false

-- every pair of the objects is closed
abbrev pub AllClosed : ProgramView → Type 0
AllClosed p = (hi lo : Place) → are_halves p hi lo ≡ true → (s : Shape) × Has (lifted_shapes p) s × IsClosedIn p s hi lo

-- no other word of the objects writes r29
abbrev pub OnlyPairsWrite : ProgramView → Type 0
OnlyPairsWrite p = (q : Place) (w : Word) → program_fetch p q ≡ Some w → Among (act_writes w.act) 29 → is_half w.act ≡ true

-- then, where the image has one table, no half of a pair is kept
pub record SettingsGone (p : ProgramView) (i : Image) : Type 0 where
  pub gone :
      length i.map.tables ≡ 1 → AllClosed p → OnlyPairsWrite p → (q : Place) (w : Word) → program_fetch p q ≡ Some w →
      is_half w.act ≡ true → kept_in_map p i q ≡ true → ⊥

-- no kept word of a LITERAL load or a GPDISP has a dead result, apart from the last word of a text
pub record NoDeadResult (p : ProgramView) (g : GraphView) : Type 0 where
  pub none :
      (w : Word) (r : ℕ) → Has (words g) w → CameFromAddress p w.at → Among (act_writes w.act) r → IsDeadAfter g r w →
      IsFollowed p w.at → ⊥

-- the slots of each table are the targets of its kept loads, each once
pub record SlotsAreUsed (p : ProgramView) (l : LayoutView) (i : Image) : Type 0 where
  pub used :
      (k : ℕ) (t : TableAt) (u : Target) → slice_get l.tables k ≡ Some t → Has t.slots u →
      (q : Place) × (table_at l q.obj ≡ k) × IsKeptLoad p i q u
  pub all :
      (q : Place) (u : Target) → IsKeptLoad p i q u →
      (t : TableAt) × (slice_get l.tables (table_at l q.obj) ≡ Some t) × Has t.slots u
  pub once :
      (k : ℕ) (t : TableAt) (j m : ℕ) (u : Target) → slice_get l.tables k ≡ Some t → slice_get t.slots j ≡ Some u →
      slice_get t.slots m ≡ Some u → j ≡ m

-- each object has its table of the grouping
pub record TablesAreGrouped (p : ProgramView) (i : Image) : Type 0 where
  pub tables : map (λ o. o.table) i.map.objects ≡ grouped_tables p

-- kept words stand in blocks of the kept set, and what is gone from these came from LITERAL loads and GPDISPs
pub record KeptWordsAreTheKeptSets (p : ProgramView) (g : GraphView) (i : Image) : Type 0 where
  pub kept :
      (q : Place) (w : Word) → program_fetch p q ≡ Some w → kept_in_map p i q ≡ true →
      (s : Shape) × Has (lifted_shapes p) s × Has (shape_words s) w × IsInKeptSet g s.label
  pub gone :
      (s : Shape) (w : Word) → Has (lifted_shapes p) s → Has (shape_words s) w → IsInKeptSet g s.label →
      kept_in_map p i w.at ≡ false → is_address w.act ≡ true

-- a register is not read from a block's end on
abbrev pub IsUnreadAtEnd : GraphView → Block → ℕ → Type 0
IsUnreadAtEnd g b r = (bf : List Word) (w : Word) (q : Place) → StandsIn g b bf w [] → WalksTo g w q → MayRead g r q → ⊥

module _ (p : ProgramView) (g : GraphView) (l : LayoutView) (i : Image) where
  abbrev pub distance_to : ℕ → Target → ℤ
  distance_to o t = from_gp p (gp_of l) (address_of l) o t

  -- nothing is left to rewrite
  pub record NothingLeft : Type 0 where
    -- no kept closed pair has its object's table as fact before its high half
    pub pairs :
        (b : Block) (bf ws : List Word) (hi lo : Place) (h : IsClosedPair g b hi lo) →
        StandsIn g b bf (high_word hi h.rb h.base) ws →
        IsGpFact (graph_script p g) g (table_of g hi.obj) bf (high_word hi h.rb h.base) → ⊥
    -- no kept BSR goes to a kept closed opening pair whose object's table is the fact before it
    pub entries :
        (b e : Block) (bf ws : List Word) (w : Word) (ra : ℕ) → StandsIn g b bf w ws → Has g.blocks e →
        w.act ≡ To Bsr ra e.label → (ra ≡ 29 → ⊥) → IsClosedOpening g e →
        InReach (counts_of p) w.at (next_place (next_place e.label)) →
        IsGpFact (graph_script p g) g (table_of g e.label.obj) bf w → ⊥
    -- no base use of a load of a pointer that became LDA stands as it was and could take the load's base
    pub uses :
        (s : Shape) (load user : Word) (r rb x : ℕ) (region : Region) (instr : Instr) (z : ℤ) (rc rd : ℕ) (d : ℤ) →
        Has (lifted_shapes p) s → (u : IsLocalUse (shape_words s) load user r) →
        load.act ≡ Lit r rb (target.Ptr region x) → Becomes p i load.at (Mem Lda rc rd d) → user.act ≡ Plain instr →
        IsBaseUse r instr z → Becomes p i user.at instr → (r ≡ rb → ⊥) → Unwritten rb u.mid →
        SumIsWithin p (gp_of l) (address_of l) (target.Ptr region x) z →
        FitsSigned w16 (distance_to load.at.obj (target.Ptr region x) +ℤ z) → ⊥
    -- no kept byte use of a load of a pointer stands as it was
    pub bytes :
        (s : Shape) (load user : Word) (r rb x : ℕ) (region : Region) (instr : Instr) → Has (lifted_shapes p) s →
        IsLocalUse (shape_words s) load user r → load.act ≡ Lit r rb (target.Ptr region x) → user.act ≡ Plain instr →
        IsByteUse r instr → Becomes p i user.at instr → ⊥
    -- no kept load of a slot could become LDAH with all of its uses
    pub highs :
        (b : Block) (load : Word) (r rb x : ℕ) (region : Region) → Has g.blocks b → Has (block_words b) load →
        IsKeptLoad p i load.at (target.Ptr region x) →
        IsFarLoad p (gp_of l) (address_of l) (block_words b) load r rb x region → IsUnreadAtEnd g b r → ⊥

  pub record IsThorough : Type 0 where
    pub near_loads_gone : NearLoadsGone p l i
    pub known_calls_direct : KnownCallsDirect p i
    pub settings_gone : SettingsGone p i
    pub no_dead_result : NoDeadResult p g
    pub slots_are_used : SlotsAreUsed p l i
    pub tables_are_grouped : TablesAreGrouped p i
    pub kept_words_are_the_kept_sets : KeptWordsAreTheKeptSets p g i
    pub nothing_left : NothingLeft
