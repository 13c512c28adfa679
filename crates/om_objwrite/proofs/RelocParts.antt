-- What is read of the relocations of a written file.
use Rattle.std.proofs.Common.{◌≡◌, ◌<◌, ◌+◌, ◌*◌, ◌%◌, ◌^◌, ℕ, suc, Bool, true, false, List, [], ◌∷◌, length, get_or, refl, ap, ◌∙◌, arith}
use Rattle.std.specs.Prelude.{flat_map, slice_index, not, ◌&&◌, ◌==◌}
use Rattle.byteorder.specs.Endian.{little_from}
use Rattle.byteorder.specs.Numbers.{little_number-reads_back}
use Rattle.om_fields.specs.Places.{number_at, each_from}
use Rattle.om_reloc.specs.declared.reloc.Reloc.{Reloc}
use Rattle.om_reloc.specs.declared.reloc.RelocKind.{RelocKind}
use Rattle.om_reloc.specs.declared.reloc.RelocKind.TheVariants.{Ignore, RefLong, RefQuad, GpRel32, Literal, LitUse, GpDisp, BrAddr, Hint, Other}
use Rattle.om_reloc.specs.Relocs.{kind_code, kind_of, reloc_at}
use Rattle.om_object.specs.Rules.{is_ignore, is_unknown, no_reloc}
use Rattle.om_objwrite.specs.Written.{external_bit, reloc_bytes}
use Rattle.om_objwrite.proofs.Tables.{reloc_length}
use Rattle.om_objwrite.proofs.Standing.{IsAt, first_in, second_in, number_in, byte_in}

-- a relocation that can be read back
pub record RelocFine (r : Reloc) : Type 0 where
  pub place : r.place < 2 ^ 64
  pub index : r.index < 2 ^ 32
  pub known : (not (is_ignore r.kind) && is_unknown r.kind) ≡ false

place_there : (r : Reloc) → r.place < 2 ^ 64 → little_from 0 8 (reloc_bytes r) ≡ r.place
unfolding reloc_bytes
place_there r h = little_number-reads_back 8 r.place [] h

index_there : (r : Reloc) → r.index < 2 ^ 32 → little_from 8 4 (reloc_bytes r) ≡ r.index
unfolding reloc_bytes
index_there r h = little_number-reads_back 4 r.index [] h

kind_there : (r : Reloc) → slice_index (reloc_bytes r) 12 ≡ kind_code r.kind
unfolding reloc_bytes
kind_there r = refl

external_there : (r : Reloc) → slice_index (reloc_bytes r) 13 ≡ external_bit r.external
unfolding reloc_bytes
external_there r = refl

kind_back : (k : RelocKind) → (not (is_ignore k) && is_unknown k) ≡ false → kind_of (kind_code k) ≡ k
kind_back Ignore h = refl
kind_back RefLong h = refl
kind_back RefQuad h = refl
kind_back GpRel32 h = refl
kind_back Literal h = refl
kind_back LitUse h = refl
kind_back GpDisp h = refl
kind_back BrAddr h = refl
kind_back Hint h = refl
kind_back (Other n) h = cc

external_back : (e : Bool) → (external_bit e % 2 == 1) ≡ e
external_back true = refl
external_back false = refl

made : ℕ → ℕ → RelocKind → Bool → Reloc
made p i k e = record { place = p; index = i; kind = k; external = e }

same_reloc : (p q i j : ℕ) (k l : RelocKind) (e f : Bool) → p ≡ q → i ≡ j → k ≡ l → e ≡ f
    → (let a : Reloc = record { place = p; index = i; kind = k; external = e } in
    let b : Reloc = record { place = q; index = j; kind = l; external = f } in a ≡ b)
same_reloc p q i j k l e f hp hi hk he = cc

pub reloc_back : {file : List ℕ} {at : ℕ} (r : Reloc) → IsAt file (reloc_bytes r) at → RelocFine r → reloc_at file at ≡ r
reloc_back {file} {at} r h fine =
    let long = reloc_length r in
    same_reloc (number_at file at 8) r.place (number_at file (at + 8) 4) r.index (kind_of (slice_index file (at + 12))) r.kind
    (slice_index file (at + 13) % 2 == 1) r.external
    (number_in h 0 8 at (omega arith) (omega (arith, long)) ∙ place_there r fine.place)
    (number_in h 8 4 (at + 8) (omega arith) (omega (arith, long)) ∙ index_there r fine.index)
    (ap kind_of (byte_in h 12 (at + 12) (omega arith) (omega (arith, long)) ∙ kind_there r) ∙ kind_back r.kind fine.known)
    (ap (λ (b : ℕ). b % 2 == 1) (byte_in h 13 (at + 13) (omega arith) (omega (arith, long)) ∙ external_there r) ∙ external_back r.external)

-- the entries from one place on, of which the k-th comes first
pub entries_back : {file : List ℕ} (rs : List Reloc) (start k : ℕ) → IsAt file (flat_map reloc_bytes rs) (start + 16 * k)
    → ((i : ℕ) → i < length rs → RelocFine (get_or rs i no_reloc))
    → each_from (λ i. reloc_at file (start + 16 * i)) k (length rs) ≡ rs
entries_back [] start k h fine = refl
entries_back {file} (r ∷ rs) start k h fine =
    let first = reloc_back r (first_in (reloc_bytes r) (flat_map reloc_bytes rs) h) (fine 0 (omega arith)) in
    let long = reloc_length r in
    let others = entries_back rs start (k + 1) (second_in (reloc_bytes r) (flat_map reloc_bytes rs) (start + 16 * (k + 1)) h (omega (arith, long)))
    (λ i below. fine (suc i) (omega arith)) in
    ap (λ (x : Reloc). x ∷ each_from (λ i. reloc_at file (start + 16 * i)) (k + 1) (length rs)) first
    ∙ ap (λ (xs : List Reloc). r ∷ xs) others
