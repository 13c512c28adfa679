-- Objects that break no rule, and against which there is no cause, have a program.
use Rattle.std.proofs.Common.{◌≡◌, inl, inr, ℕ, zero, suc, ◌+◌, ◌*◌, ◌/◌, ◌^◌, ◌<◌, ◌≤◌, List, length, Option, Some, None, refl, ap, sym, subst, ◌∙◌, arith}
use Rattle.std.specs.Prelude.{unwrap_or}
use Rattle.om_fields.specs.Places.{each, each_from}
use Rattle.om_fields.proofs.Each.{each_from-length}
use Rattle.om_isa.specs.declared.instr.Instr.TheVariants.{Halt}
use Rattle.om_object.specs.declared.parts.Section.{Section}
use Rattle.om_object.specs.declared.parts.Parts.{Parts}
use Rattle.om_object.specs.Words.{section_of}
use Rattle.om_value.specs.declared.value.Target.TheVariants.{Num}
use Rattle.om_prog.specs.Valid.{fits, slots, literal_of, IsItem, AreItems, IsText, AreTexts, IsProgram}
use Rattle.om_resolve.specs.Names.{object_at}
use Rattle.om_resolve.specs.Causes.{first_cause}
use Rattle.om_resolve.specs.Program.{place_at, role_at, item_of, items_of, text_of, program_of}
use Rattle.om_resolve.specs.Laws.{AreObjects, ObjectsMakePrograms}
use Rattle.om_resolve.proofs.Members.{In}
use Rattle.om_resolve.proofs.ProgramWords.{each_inside}
use Rattle.om_resolve.proofs.ProgramEntry.{text_is_short, entry_is_word}
use Rattle.om_resolve.proofs.ProgramApart.{regions_fit}
use Rattle.om_resolve.proofs.ProgramOnce.{regions_once}
use Rattle.om_resolve.proofs.ProgramSlots.{few_slots}
use Rattle.om_resolve.proofs.ProgramLoads.{reached_target}
use Rattle.om_resolve.proofs.ProgramFits.{instr_there, role_fits, item_reached, item_loads_none}

in_each_from : {X : Type 0} (f : ℕ → X) (k n : ℕ) (x : X) → In (each_from f k n) x → (j : ℕ) × (j < n) × (f (k + j) ≡ x)
in_each_from f k zero x h = absurd h
in_each_from f k (suc n) x (inl e) = let z : k + 0 ≡ k = omega arith in (0, omega arith, ap f z ∙ e)
in_each_from f k (suc n) x (inr h) =
    let r = in_each_from f (k + 1) n x h in
    let e : k + suc r.0 ≡ k + 1 + r.0 = omega arith in
    (suc r.0, omega (arith, r.1), ap f e ∙ r.2)

in_each : {X : Type 0} (f : ℕ → X) (n : ℕ) (x : X) → In (each f n) x → (j : ℕ) × (j < n) × (f j ≡ x)
in_each f n x h = let r = in_each_from f 0 n x h in let e : r.0 ≡ 0 + r.0 = omega arith in (r.0, r.1, ap f e ∙ r.2)

module _ (objects : List Parts) (sound : AreObjects objects) (uncaused : first_cause objects ≡ None) where
  module _ (obj : ℕ) (ho : obj < length objects) (s : Section) (hs : section_of (object_at objects obj) 1 ≡ Some s) where
    item_is : (k : ℕ) → k < s.size / 4 → IsItem (program_of objects) (each (item_of objects obj s) (s.size / 4)) (place_at obj (4 * k)) (item_of objects obj s k)
    item_is k b =
        let i = instr_there objects sound.each uncaused obj ho s hs k b in
        record {
          instr = i.1 ∙ ap (λ o. Some (unwrap_or o Halt)) (sym i.1);
          role =
              ap (λ o. fits (program_of objects) (each (item_of objects obj s) (s.size / 4)) (place_at obj (4 * k)) (role_at objects obj s (4 * k)) (unwrap_or o Halt)) i.1
              ∙ role_fits objects sound.each uncaused obj ho s hs k i.0 b i.2;
        }

    items_are : AreItems (program_of objects) obj (each (item_of objects obj s) (s.size / 4))
    items_are = record {
      each = λ k i e.
          let a = each_inside (item_of objects obj s) (s.size / 4) k i e in
          subst (IsItem (program_of objects) (each (item_of objects obj s) (s.size / 4)) (place_at obj (4 * k))) a.1 (item_is k a.0);
    }

    slots_are_few : length (slots (each (item_of objects obj s) (s.size / 4))) ≤ 8192
    slots_are_few = by_table (section_of (object_at objects obj) 13) refl
      where
        by_table : (o : Option Section) → section_of (object_at objects obj) 13 ≡ o → length (slots (each (item_of objects obj s) (s.size / 4))) ≤ 8192
        by_table (Some lita) e =
            few_slots (reached_target objects obj lita) 8192 (each (item_of objects obj s) (s.size / 4))
            (λ i u h l.
            let a = in_each (item_of objects obj s) (s.size / 4) i h in
            item_reached objects sound.each uncaused obj ho s hs lita e a.0 u a.1 (ap literal_of a.2 ∙ l))
        by_table None e =
            few_slots (λ q. Num 0) 8192 (each (item_of objects obj s) (s.size / 4))
            (λ i u h l.
            let a = in_each (item_of objects obj s) (s.size / 4) i h in
            absurd (item_loads_none objects sound.each uncaused obj ho s hs e a.0 u (ap literal_of a.2 ∙ l)))

  text_is : (obj : ℕ) → obj < length objects → IsText (program_of objects) obj (text_of objects obj)
  unfolding text_of
  text_is obj ho = by_section (section_of (object_at objects obj) 1) refl (text_is_short objects uncaused obj ho)
    where
      by_section : (o : Option Section) → section_of (object_at objects obj) 1 ≡ o → length (items_of objects obj o) < 2 ^ 30 → IsText (program_of objects) obj (items_of objects obj o)
      by_section None e short = record { words = short; few = omega arith; items = record { each = λ k i e. absurd cc } }
      by_section (Some s) e short = record { words = short; few = slots_are_few obj ho s e; items = items_are obj ho s e }

  texts_are : AreTexts (program_of objects)
  unfolding program_of
  texts_are = record {
    each = λ obj text e.
        let a = each_inside (text_of objects) (length objects) obj text e in
        subst (IsText (program_of objects) obj) a.1 (text_is obj a.0);
  }

  texts_count : length (program_of objects).texts ≡ length objects
  unfolding program_of
  texts_count = each_from-length (text_of objects) 0 (length objects)

  pub program_is : length objects < 2 ^ 32 → IsProgram (program_of objects)
  program_is few = record {
    objects = let count = texts_count in omega (arith, count, few);
    texts = texts_are;
    entry = entry_is_word objects uncaused sound.each;
    regions = regions_fit objects sound.each uncaused;
    once = regions_once objects;
  }

pub objects_make_programs : ObjectsMakePrograms
objects_make_programs objects few sound uncaused = program_is objects sound uncaused few
