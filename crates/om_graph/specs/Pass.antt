-- What a pass owes so that it keeps meaning.
use Rattle.std.specs.Prelude.{◌≡◌, ◌⊎◌, ℕ, Bool, true, false, List, [], ◌∷◌, Option, Some}
use Rattle.om_isa.specs.Effect.{Nothing, Set, Jump}
use Rattle.om_value.specs.declared.value.Place.{Place}
use Rattle.om_value.specs.declared.value.Value.{Value}
use Rattle.om_prog.specs.Act.{Word, Script, act_keeps, act_writes}
use Rattle.om_prog.specs.Step.{SymState, SymEffect, read_reg, next_place, after, act_effect}
use Rattle.om_prog.specs.Runs.{sym_start, step_word, has_observed}
use Rattle.om_prog.specs.Flow.{Among, GoesTo, effect_ends, effect_place}
use Rattle.om_prog.specs.Within.{ActWithin, StateWithin}
use Rattle.om_graph.specs.View.{GraphView}
use Rattle.om_graph.specs.LeftIn.{is_left}
use Rattle.om_graph.specs.Form.{is_address}

-- registers agree where they are cared for
abbrev pub Agreeing : (Place → ℕ → Bool) → SymState → SymState → Type 0
Agreeing live s t = (r : ℕ) → live s.place r ≡ true → read_reg t.regs r ≡ read_reg s.regs r

-- what a run knows of itself
pub record Keeping (c : Script) (K : Place → Type 0) (I : SymState → Type 0) : Type 0 where
  pub starts : (input : List ℕ) → I (sym_start c input)
  pub steps :
      (s : SymState) (w : Word) → StateWithin K s → I s → c.fetch s.place ≡ Some w → I (step_word c s (Some w))

module _ (c : Script) (fetch : Place → Option Word) (K : Place → Type 0) (g : GraphView)
    (live : List Place → Place → ℕ → Bool) (Meet : List Place → Place → Place → Type 0) (I : SymState → Type 0) (L : List Place → Place → (ℕ → Value) → Type 0) where
  -- a new effect beside the old one of a word that is left in
  pub data Like (ps : List Place) (w : Word) (new old : SymEffect) : Type 0 where
    -- the same, and from where it goes the same words follow
    same : new ≡ old → (effect_ends old ≡ false → Meet (w.at ∷ ps) (effect_place w.at old) (effect_place w.at old)) → Like ps w new old
    -- a jump to a place from which the same words that are left in follow
    jumps : (link : Option ℕ) (to at : Place) → new ≡ Jump link to → old ≡ Jump link at → Meet (w.at ∷ ps) to at → Like ps w new old
    -- another value in a register that is not cared for
    sets :
        (r : ℕ) (u v : Value) → new ≡ Set r u → old ≡ Set r v → live (w.at ∷ ps) (next_place w.at) r ≡ false → Meet (w.at ∷ ps) (next_place w.at) (next_place w.at) →
        Like ps w new old
    -- a write to r31, where nothing was done
    idles :
        (v : Value) → new ≡ Set 31 v → old ≡ Nothing → Meet (w.at ∷ ps) (next_place w.at) (next_place w.at) → Like ps w new old

  pub record Pass : Type 0 where
    -- the old run: its codes, and what is known of it
    pub fine : (s : SymState) (w : Word) → I s → c.fetch s.place ≡ Some w → ActWithin K w.at w.act
    pub first : (input : List ℕ) → StateWithin K (sym_start c input)
    pub starts : (input : List ℕ) → I (sym_start c input)
    pub steps : (s : SymState) (w : Word) → StateWithin K s → I s → c.fetch s.place ≡ Some w → I (step_word c s (Some w))
    -- registers cared for
    pub keeps : (s : SymState) (ps : List Place) (w : Word) (r : ℕ) → I s → c.fetch s.place ≡ Some w → is_left g ps w.at ≡ true → Among (act_keeps w.act) r → live ps s.place r ≡ true
    pub goes :
        (ps : List Place) (s : SymState) (w : Word) (q : Place) (r : ℕ) → I s → c.fetch s.place ≡ Some w → is_left g ps w.at ≡ true → GoesTo K w q →
        live (w.at ∷ ps) q r ≡ true → Among (act_writes w.act) r ⊎ (live ps s.place r ≡ true)
    pub goes_out :
        (ps : List Place) (s : SymState) (q : Place) (w : Word) (r : ℕ) → I s → c.fetch s.place ≡ Some w → is_left g ps w.at ≡ false → Meet ps q s.place →
        live ps (next_place w.at) r ≡ true → Among (act_writes w.act) r ⊎ (live ps s.place r ≡ true)
    -- places of the two runs
    pub meet_first : Meet [] c.entry c.entry
    pub kept :
        (ps : List Place) (s : SymState) (q : Place) (w : Word) → I s → c.fetch s.place ≡ Some w → is_left g ps w.at ≡ true → Meet ps q s.place →
        (u : Word) × (fetch q ≡ Some u) × (u.at ≡ w.at)
    pub like :
        (ps : List Place) (s : SymState) (rs : ℕ → Value) (q : Place) (w u : Word) → StateWithin K s → I s → c.fetch s.place ≡ Some w → is_left g ps w.at ≡ true → Meet ps q s.place → fetch q ≡ Some u →
        L ps s.place rs → Agreeing (live ps) s (record s { regs = rs; place = q }) → has_observed (step_word c s (Some w)).ended ≡ false →
        Like ps w (act_effect c (record s { regs = rs; place = q }) w.at u.act) (act_effect c s w.at w.act)
    -- words that are left out
    pub gone :
        (ps : List Place) (s : SymState) (q : Place) (w : Word) → I s → c.fetch s.place ≡ Some w → is_left g ps w.at ≡ false → Meet ps q s.place → Meet ps q (next_place w.at)
    pub address : (ps : List Place) (s : SymState) (q : Place) (w : Word) → I s → c.fetch s.place ≡ Some w → is_left g ps w.at ≡ false → Meet ps q s.place → is_address w.act ≡ true
    pub settled :
        (ps : List Place) (s : SymState) (rs : ℕ → Value) (q : Place) (w : Word) (r : ℕ) → I s → c.fetch s.place ≡ Some w → is_left g ps w.at ≡ false → Meet ps q s.place →
        Among (act_writes w.act) r → live ps (next_place w.at) r ≡ true → L ps s.place rs → has_observed (step_word c s (Some w)).ended ≡ false →
        read_reg rs r ≡ read_reg (step_word c s (Some w)).regs r
    -- what is known of the new run's registers
    pub l_first : (input : List ℕ) → L [] c.entry (sym_start c input).regs
    pub l_kept :
        (ps : List Place) (s : SymState) (rs : ℕ → Value) (q : Place) (w u : Word) → I s → c.fetch s.place ≡ Some w → is_left g ps w.at ≡ true → Meet ps q s.place → fetch q ≡ Some u →
        L ps s.place rs → Agreeing (live ps) s (record s { regs = rs; place = q }) → has_observed (step_word c s (Some w)).ended ≡ false → effect_ends (act_effect c s w.at w.act) ≡ false →
        GoesTo K w (effect_place w.at (act_effect c s w.at w.act)) →
        L (w.at ∷ ps) (effect_place w.at (act_effect c s w.at w.act)) (after (record s { regs = rs; place = q }) w.at (act_effect c (record s { regs = rs; place = q }) w.at u.act)).regs
    pub l_gone :
        (ps : List Place) (s t : SymState) (w : Word) → I s → c.fetch s.place ≡ Some w → is_left g ps w.at ≡ false → Meet ps t.place s.place → Agreeing (live ps) s t →
        L ps s.place t.regs → L ps (next_place w.at) t.regs
