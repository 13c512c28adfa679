-- A region that grows.
use Rattle.std.proofs.Common.{◌≡◌, ◌≤◌, ◌<◌, ℕ, List, length, slice_index, refl, ap, sym, ◌∙◌, arith}
use Rattle.std.proofs.Common.{◌⊎◌, inl, inr}
use Rattle.std.proofs.lemmas.Bool.{cases_lt, lt-ltb, le-ltb}
use Rattle.std.proofs.lemmas.List.{get_or_past}
use Rattle.om_isa.specs.SystemCall.{resized}
use Rattle.om_prog.specs.Cells.{Byte}
use Rattle.om_symrun.specs.RegionCells.{RegionCells}
use Rattle.om_symrun.specs.CellsIn.{cell_in, cell_marked, mark_at, Resized}
use Rattle.om_symrun.specs.declared.cells.Mark.{Mark}
use Rattle.om_symrun.specs.declared.cells.Mark.TheVariants as mark

abbrev with_lists : RegionCells → List ℕ → List Mark → RegionCells
with_lists c bytes marks = record c { bytes = bytes; marks = marks }

same_marked : (c : RegionCells) (bytes : List ℕ) (marks : List Mark) (x : ℕ) (m : Mark) → slice_index bytes x ≡ slice_index c.bytes x → cell_marked (with_lists c bytes marks) x m ≡ cell_marked c x m
same_marked c bytes marks x mark.Byte e = ap Byte e
same_marked c bytes marks x mark.Eight e = refl
same_marked c bytes marks x mark.Four e = refl

module _ (c : RegionCells) (bytes : List ℕ) (marks : List Mark) (size : ℕ) where
  grown_at :
      length c.bytes ≤ size → length bytes ≡ size → length marks ≡ size →
      ((k : ℕ) → k < size → k < length c.bytes → slice_index bytes k ≡ slice_index c.bytes k) →
      ((k : ℕ) → length c.bytes ≤ k → k < size → slice_index bytes k ≡ 0) →
      ((k : ℕ) → k < size → k < length c.bytes → mark_at marks k ≡ mark_at c.marks k) →
      ((k : ℕ) → length c.bytes ≤ k → k < size → mark_at marks k ≡ mark.Byte) →
      (x : ℕ) → (x < length c.bytes) ⊎ (length c.bytes ≤ x) → (x < size) ⊎ (size ≤ x) →
      cell_in (with_lists c bytes marks) x ≡ resized (Byte 0) (length c.bytes) size (cell_in c) x
  grown_at le lb lm sb zb sm zm x (inl h) (inl k) =
      ap (cell_marked (with_lists c bytes marks) x) (sm x k h)
      ∙ same_marked c bytes marks x (mark_at c.marks x) (sb x k h)
      ∙ sym (rw (lt-ltb x (length c.bytes) h, lt-ltb x size k) refl)
  grown_at le lb lm sb zb sm zm x (inl h) (inr k) = absurd (omega arith)
  grown_at le lb lm sb zb sm zm x (inr h) (inl k) =
      ap (cell_marked (with_lists c bytes marks) x) (zm x h k)
      ∙ ap Byte (zb x h k)
      ∙ sym (rw (le-ltb x (length c.bytes) h) refl)
  grown_at le lb lm sb zb sm zm x (inr h) (inr k) =
      ap (cell_marked (with_lists c bytes marks) x) (get_or_past marks x mark.Byte (omega arith))
      ∙ ap Byte (get_or_past bytes x 0 (omega arith))
      ∙ sym (rw (le-ltb x (length c.bytes) h) refl)

  pub grown :
      length c.bytes ≤ size → length bytes ≡ size → length marks ≡ size →
      ((k : ℕ) → k < size → k < length c.bytes → slice_index bytes k ≡ slice_index c.bytes k) →
      ((k : ℕ) → length c.bytes ≤ k → k < size → slice_index bytes k ≡ 0) →
      ((k : ℕ) → k < size → k < length c.bytes → mark_at marks k ≡ mark_at c.marks k) →
      ((k : ℕ) → length c.bytes ≤ k → k < size → mark_at marks k ≡ mark.Byte) →
      Resized c (with_lists c bytes marks) size
  grown le lb lm sb zb sm zm =
      record {
        size_is = lb;
        places = λ x. grown_at le lb lm sb zb sm zm x (cases_lt x (length c.bytes)) (cases_lt x size);
      }
