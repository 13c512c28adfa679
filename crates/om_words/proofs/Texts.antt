-- How the words that fit are counted, from a place on.
use Rattle.std.proofs.Common.{◌≡◌, ◌+◌, ◌-◌, ◌<◌, ◌∙◌, ℕ, zero, suc, Bool, true, false, cond, List, [], ◌∷◌, length, take, drop, length-drop, get_or, sym, ap, arith}
use Rattle.std.specs.Prelude.{String, string_bytes}
use Rattle.std.specs.declared.alloc.Global.{Global}
use Rattle.std.proofs.Math.Seq.{drop-cons, take-length}
use Rattle.std.proofs.lemmas.List.{length-map, drop-map}
use Rattle.om_words.specs.Sentences.{fits, fitting, texts}
use Rattle.om_words.specs.declared.form.Form.{Form}

-- the text of the word at a place
pub text_at : (words : List (String Global)) (k : ℕ) (w : String Global) (name : List ℕ) → k < length words → w ≡ get_or words k w →
    name ≡ string_bytes w → get_or (texts words) k [] ≡ name
text_at [] k w name below e is = absurd (omega (arith, below))
text_at (x ∷ xs) zero w name below e is = sym (is ∙ ap string_bytes e)
text_at (x ∷ xs) (suc k) w name below e is = text_at xs k w name (omega arith) e is

-- the texts from a place on, of which there is one more
rest_is : (words : List (String Global)) (k : ℕ) (w : String Global) (name : List ℕ) → k < length words → w ≡ get_or words k w →
    name ≡ string_bytes w → drop k (texts words) ≡ name ∷ drop (suc k) (texts words)
rest_is words k w name below e is =
    drop-cons (texts words) k [] (let same : length (texts words) ≡ length words = length-map words string_bytes in omega (arith, below, same))
    ∙ ap (λ t. t ∷ drop (suc k) (texts words)) (text_at words k w name below e is)

count_by : (form : Form) (k : ℕ) (w : List ℕ) (ws : List (List ℕ)) (b : Bool) → fits form k w ≡ b →
    fitting form k (w ∷ ws) ≡ cond b (suc (fitting form (suc k) ws)) 0
count_by form k w ws b e = ap (λ t. cond t (suc (fitting form (suc k) ws)) 0) e

-- a word that does not fit ends the count
pub count_ends : (form : Form) (words : List (String Global)) (k : ℕ) (w : String Global) (name : List ℕ) → k < length words →
    w ≡ get_or words k w → name ≡ string_bytes w → fits form k name ≡ false → fitting form k (drop k (texts words)) ≡ 0
count_ends form words k w name below e is no_fit =
    ap (λ l. fitting form k l) (rest_is words k w name below e is) ∙ count_by form k name (drop (suc k) (texts words)) false no_fit

-- one that fits is counted
goes_on_by : (form : Form) (words : List (String Global)) (k m : ℕ) (w : String Global) (name : List ℕ) → suc k ≡ m → k < length words →
    w ≡ get_or words k w → name ≡ string_bytes w → fits form k name ≡ true →
    fitting form k (drop k (texts words)) ≡ suc (fitting form m (drop m (texts words)))
goes_on_by form words k m w name next below e is fit =
    ap (λ l. fitting form k l) (rest_is words k w name below e is) ∙ count_by form k name (drop (suc k) (texts words)) true fit
    ∙ ap (λ n. suc (fitting form n (drop n (texts words)))) next

pub count_goes_on : (form : Form) (words : List (String Global)) (k : ℕ) (w : String Global) (name : List ℕ) → k < length words →
    w ≡ get_or words k w → name ≡ string_bytes w → fits form k name ≡ true →
    fitting form k (drop k (texts words)) ≡ suc (fitting form (k + 1) (drop (k + 1) (texts words)))
count_goes_on form words k w name below e is fit = goes_on_by form words k (k + 1) w name (omega arith) below e is fit

-- the words of a slice that goes to the end
pub rest_of : (words : List (String Global)) (k : ℕ) → texts (take (length words - k) (drop k words)) ≡ drop k (texts words)
rest_of words k =
    ap (λ l. texts l) (ap (λ n. take n (drop k words)) (sym (length-drop k words)) ∙ take-length (drop k words)) ∙ sym (drop-map string_bytes k words)
