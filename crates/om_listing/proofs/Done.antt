-- The lines of one word and of one object more.
use Rattle.std.proofs.Common.{◌≡◌, ◌++◌, ◌+◌, ◌*◌, ◌<◌, ◌≤◌, ◌∙◌, ℕ, zero, suc, List, [], ◌∷◌, length, take, drop, get_or, refl, sym, ap, append_assoc, append-nil, arith}
use Rattle.std.proofs.lemmas.List.{drop-drop}
use Rattle.std.proofs.lemmas.List.Sums.{sum_by_more_le, sum_by-cons}
use Rattle.om_image.specs.declared.map.MapObj.{MapObj}
use Rattle.om_image.specs.declared.map.MapWord.{MapWord}
use Rattle.om_listing.specs.Listing.{word_lines, lines_from, object_lines, word_count}

lines_next : (text : List ℕ) (object offset : ℕ) (ws : List MapWord) (k : ℕ) (d : MapWord) → k < length ws →
    lines_from text object offset (take k ws) ++ word_lines text object (offset + 4 * k) (get_or ws k d)
    ≡ lines_from text object offset (take (suc k) ws)
lines_next text object offset [] k d below = absurd (omega (arith, below))
lines_next text object offset (w ∷ ws) zero d below =
    ap (λ n. word_lines text object n w) same ∙ sym (append-nil (word_lines text object offset w))
  where
    same : offset + 4 * 0 ≡ offset
    same = omega arith
lines_next text object offset (w ∷ ws) (suc k) d below =
    append_assoc (word_lines text object offset w) (lines_from text object (offset + 4) (take k ws))
    (word_lines text object (offset + 4 * suc k) (get_or ws k d))
    ∙ ap (λ l. word_lines text object offset w ++ l)
    (ap (λ n. lines_from text object (offset + 4) (take k ws) ++ word_lines text object n (get_or ws k d)) same
    ∙ lines_next text object (offset + 4) ws k d (omega arith))
  where
    same : offset + 4 * suc k ≡ offset + 4 + 4 * k
    same = omega arith

-- the lines of one word more
pub lines_done : (text : List ℕ) (object : ℕ) (ws : List MapWord) (k : ℕ) (d : MapWord) → k < length ws →
    lines_from text object 0 (take k ws) ++ word_lines text object (4 * k) (get_or ws k d) ≡ lines_from text object 0 (take (k + 1) ws)
lines_done text object ws k d below =
    ap (λ n. lines_from text object 0 (take k ws) ++ word_lines text object n (get_or ws k d)) (start k)
    ∙ lines_next text object 0 ws k d below ∙ ap (λ n. lines_from text object 0 (take n ws)) (next k)
  where
    start : (k : ℕ) → 4 * k ≡ 0 + 4 * k
    start k = omega arith

    next : (k : ℕ) → suc k ≡ k + 1
    next k = omega arith

objects_next : (text : List ℕ) (n : ℕ) (os : List MapObj) (ws : List MapWord) (k : ℕ) (d : MapObj) → k < length os →
    object_lines text n (take k os) ws
    ++ lines_from text (n + k) 0 (take (get_or os k d).words (drop (word_count (take k os)) ws))
    ≡ object_lines text n (take (suc k) os) ws
objects_next text n [] ws k d below = absurd (omega (arith, below))
objects_next text n (o ∷ os) ws zero d below =
    ap (λ m. lines_from text m 0 (take o.words ws)) same ∙ sym (append-nil (lines_from text n 0 (take o.words ws)))
  where
    same : n + 0 ≡ n
    same = omega arith
objects_next text n (o ∷ os) ws (suc k) d below =
    ap (λ m. object_lines text n (take (suc k) (o ∷ os)) ws ++ lines_from text (n + suc k) 0 (take (get_or os k d).words (drop m ws)))
    (sum_by-cons (λ (o : MapObj). o.words) o (take k os))
    ∙ append_assoc (lines_from text n 0 (take o.words ws)) (object_lines text (n + 1) (take k os) (drop o.words ws))
    (lines_from text (n + suc k) 0 (take (get_or os k d).words (drop (o.words + word_count (take k os)) ws)))
    ∙ ap (λ l. lines_from text n 0 (take o.words ws) ++ l)
    (ap (λ l. object_lines text (n + 1) (take k os) (drop o.words ws) ++ lines_from text (n + suc k) 0 (take (get_or os k d).words l))
    (sym (drop-drop (word_count (take k os)) o.words ws))
    ∙ ap (λ m. object_lines text (n + 1) (take k os) (drop o.words ws)
    ++ lines_from text m 0 (take (get_or os k d).words (drop (word_count (take k os)) (drop o.words ws)))) same
    ∙ objects_next text (n + 1) os (drop o.words ws) k d (omega arith))
  where
    same : n + suc k ≡ n + 1 + k
    same = omega arith

-- the lines of one object more
pub objects_done : (text : List ℕ) (os : List MapObj) (ws : List MapWord) (k : ℕ) (d : MapObj) → k < length os →
    object_lines text 0 (take k os) ws ++ lines_from text k 0 (take (get_or os k d).words (drop (word_count (take k os)) ws))
    ≡ object_lines text 0 (take (k + 1) os) ws
objects_done text os ws k d below =
    ap (λ m. object_lines text 0 (take k os) ws ++ lines_from text m 0 (take (get_or os k d).words (drop (word_count (take k os)) ws))) (start k)
    ∙ objects_next text 0 os ws k d below ∙ ap (λ n. object_lines text 0 (take n os) ws) (next k)
  where
    start : (k : ℕ) → k ≡ 0 + k
    start k = omega arith

    next : (k : ℕ) → suc k ≡ k + 1
    next k = omega arith

-- the words of the objects so far and of the next are words
pub words_within : (os : List MapObj) (k : ℕ) (d : MapObj) → k < length os → word_count (take k os) + (get_or os k d).words ≤ word_count os
words_within os k d below = sum_by_more_le (λ o. o.words) os k d below

-- the lines of some words, and of some objects, are a front of those of all
pub lines_front : (text : List ℕ) (object offset : ℕ) (ws : List MapWord) (k : ℕ) →
    (rest : List ℕ) × (lines_from text object offset (take k ws) ++ rest ≡ lines_from text object offset ws)
lines_front text object offset ws zero = (lines_from text object offset ws, refl)
lines_front text object offset [] (suc k) = ([], refl)
lines_front text object offset (w ∷ ws) (suc k) =
    let more = lines_front text object (offset + 4) ws k in (
      more.0,
      append_assoc (word_lines text object offset w) (lines_from text object (offset + 4) (take k ws)) more.0
          ∙ ap (λ l. word_lines text object offset w ++ l) more.1,
    )

pub objects_front : (text : List ℕ) (n : ℕ) (os : List MapObj) (ws : List MapWord) (k : ℕ) →
    (rest : List ℕ) × (object_lines text n (take k os) ws ++ rest ≡ object_lines text n os ws)
objects_front text n os ws zero = (object_lines text n os ws, refl)
objects_front text n [] ws (suc k) = ([], refl)
objects_front text n (o ∷ os) ws (suc k) =
    let more = objects_front text (n + 1) os (drop o.words ws) k in (
      more.0,
      append_assoc (lines_from text n 0 (take o.words ws)) (object_lines text (n + 1) (take k os) (drop o.words ws)) more.0
          ∙ ap (λ l. lines_from text n 0 (take o.words ws) ++ l) more.1,
    )
