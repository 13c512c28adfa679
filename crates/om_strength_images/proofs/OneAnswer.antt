-- Two answers that meet a clause are equal, but for want of memory.
use Rattle.std.proofs.Common.{◌≡◌, inl, inr, ℕ, List, refl, sym, ap, ◌∙◌, arith}
use Rattle.std.specs.Prelude.{Result, Ok, Err, Some}
use Rattle.om_fields.specs.Rules.{IsFirstFault, AreAbove, first_fault}
use Rattle.om_fields.proofs.FirstFault.{least_is_first}
use Rattle.om_image.specs.declared.errors.ImageErr.{ImageErr}
use Rattle.om_image.specs.declared.errors.ImageErr.TheVariants as image
use Rattle.om_image.specs.Rules.{image_rules}
use Rattle.om_strength_images.specs.OneAnswer.{ReadsOneImage}

-- two least faults of a file are one
same_fault : (file : List ℕ) (r p s q : ℕ)
    → first_fault image_rules file ≡ Some (r, p) → first_fault image_rules file ≡ Some (s, q)
    → ◌≡◌ {A = ImageErr} (image.Rule r p) (image.Rule s q)
same_fault file r p s q e f =
    let pair : ◌≡◌ {A = ℕ × ℕ} (r, p) (s, q) = cc in
    let rules : r ≡ s = ap (λ (t : ℕ × ℕ). t.0) pair in
    let places : p ≡ q = ap (λ (t : ℕ × ℕ). t.1) pair in
    ap (λ n. image.Rule n p) rules ∙ ap (λ n. image.Rule s n) places

rules_rise : AreAbove 0 image_rules
rules_rise =
    (omega arith, (omega arith, (omega arith, (omega arith, (omega arith, (omega arith, (omega arith, (omega arith, (omega arith, tt)))))))))

first : (file : List ℕ) (r p : ℕ) → IsFirstFault image_rules file r p → first_fault image_rules file ≡ Some (r, p)
first file r p f = least_is_first 0 image_rules file r p rules_rise f

pub reads_one_image : ReadsOneImage
reads_one_image file (Err image.NoMemory) b h k = inl refl
reads_one_image file (Ok x) (Err image.NoMemory) h k = inr (inl refl)
reads_one_image file (Err (image.Rule r p)) (Err image.NoMemory) h k = inr (inl refl)
reads_one_image file (Ok x) (Ok y) h k = inr (inr (ap Ok (h.image ∙ sym k.image)))
reads_one_image file (Ok x) (Err (image.Rule s q)) h k = absurd (h.unbroken.nowhere s q k.broken)
reads_one_image file (Err (image.Rule r p)) (Ok y) h k = absurd (k.unbroken.nowhere r p h.broken)
reads_one_image file (Err (image.Rule r p)) (Err (image.Rule s q)) h k =
    inr (inr (ap Err (same_fault file r p s q (first file r p h) (first file s q k))))
