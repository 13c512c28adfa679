-- The codes of a program's initial cells.
use Rattle.std.proofs.Common.{◌≡◌, ◌⊎◌, inl, inr, ℕ, ◌-◌, Bool, true, false, cond, List, [], ◌∷◌, Some, refl}
use Rattle.std.specs.Prelude.{find}
use Rattle.om_value.specs.declared.value.Place.{Place}
use Rattle.om_value.specs.declared.value.Region.{Region}
use Rattle.om_value.specs.declared.value.Region.TheVariants.{Sec, Common, Stack, Heap}
use Rattle.om_value.specs.declared.value.Value.{Value}
use Rattle.om_value.specs.declared.value.Value.TheVariants.{Num, Ptr, Code, Gp, Half, GpOff}
use Rattle.om_prog.specs.declared.item.Field.{Field}
use Rattle.om_prog.specs.Cells.{cells_of}
use Rattle.om_prog.specs.Within.{ValueWithin, CellWithin}
use Rattle.om_prog.specs.View.{ProgramView}
use Rattle.om_prog.specs.Script.{retabled, init_cell, field_cell, initial}
use Rattle.om_prog.specs.declared.region.RegionInit.{RegionInit}
use Rattle.om_prog.proofs.Codes.{CellsWithin, bytes_within, parts_within, index_within}

unfoldable pub HasInit : List RegionInit → RegionInit → Type 0
HasInit [] x = ⊥
HasInit (i ∷ is) x = (i ≡ x) ⊎ HasInit is x

unfoldable pub HasField : List Field → Field → Type 0
HasField [] x = ⊥
HasField (f ∷ fs) x = (f ≡ x) ⊎ HasField fs x

module _ (K : Place → Type 0) where
  retabled_within : (table : ℕ → ℕ) (v : Value) → ValueWithin K v → ValueWithin K (retabled table v)
  retabled_within table (Num n) f = tt
  retabled_within table (Ptr r x) f = tt
  retabled_within table (Code q) f = f
  retabled_within table (Gp o) f = tt
  retabled_within table (Half q) f = tt
  retabled_within table (GpOff o t) f = f

  held_within : (n : ℕ) (v : Value) → ValueWithin K v → CellsWithin K (cells_of n v)
  held_within n (Num m) f = bytes_within K n m
  held_within n (Ptr r x) f = parts_within K (Ptr r x) 0 n n f
  held_within n (Code q) f = parts_within K (Code q) 0 n n f
  held_within n (Gp o) f = parts_within K (Gp o) 0 n n f
  held_within n (Half q) f = parts_within K (Half q) 0 n n f
  held_within n (GpOff o t) f = parts_within K (GpOff o t) 0 n n f

  module _ (table : ℕ → ℕ) where
    field_within : (bytes : List ℕ) (x : ℕ) (pred : Field → Bool) (fs : List Field) → ((f : Field) → HasField fs f → ValueWithin K f.value) → CellWithin K (field_cell table bytes x (find pred fs))
    unfolding HasField
    field_within bytes x pred [] h = tt
    field_within bytes x pred (f ∷ fs) h = by_case (pred f) (field_within bytes x pred fs (λ g i. h g (inr i)))
      where
        by_case : (b : Bool) → CellWithin K (field_cell table bytes x (find pred fs)) → CellWithin K (field_cell table bytes x (cond b (Some f) (find pred fs)))
        by_case true i = index_within K (cells_of f.width (retabled table f.value)) (x - f.off) (held_within f.width (retabled table f.value) (retabled_within table f.value (h f (inl refl))))
        by_case false i = i

    inits_within : (x : ℕ) (pred : RegionInit → Bool) (is : List RegionInit) → ((i : RegionInit) → HasInit is i → (f : Field) → HasField i.fields f → ValueWithin K f.value) → CellWithin K (init_cell table (find pred is) x)
    unfolding HasInit
    inits_within x pred [] h = tt
    inits_within x pred (i ∷ is) h = by_case (pred i) (inits_within x pred is (λ j m. h j (inr m)))
      where
        by_case : (b : Bool) → CellWithin K (init_cell table (find pred is) x) → CellWithin K (init_cell table (cond b (Some i) (find pred is)) x)
        by_case true m = field_within i.bytes x _ i.fields (h i (inl refl))
        by_case false m = m

    pub initial_within : (p : ProgramView) → ((i : RegionInit) → HasInit p.regions i → (f : Field) → HasField i.fields f → ValueWithin K f.value) → (r : Region) (x : ℕ) → CellWithin K (initial p table r x)
    initial_within p h Stack x = tt
    initial_within p h Heap x = tt
    initial_within p h (Sec o n) x = inits_within x _ p.regions h
    initial_within p h (Common s) x = inits_within x _ p.regions h
