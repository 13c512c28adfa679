-- One word and one object more of a listing, and puts that failed in the midst of one.
use Rattle.std.proofs.Common.{◌≡◌, ◌++◌, ◌+◌, ◌-◌, ◌*◌, ◌<◌, ◌∙◌, ℕ, List, [], length, take, drop, get_or, Option, Some, Result, Ok, Err, refl, sym, ap, append-nil, arith, length-drop}
use Rattle.std.proofs.lemmas.List.{take_all}
use Rattle.std.specs.Prelude.{IsErr}
use Rattle.std.proofs.lemmas.Bool.{true≢false}
use Rattle.om_io.specs.Outside.{Appends}
use Rattle.om_image.specs.declared.image.Image.{Image}
use Rattle.om_image.specs.declared.map.MapObj.{MapObj}
use Rattle.om_image.specs.declared.map.MapWord.{MapWord}
use Rattle.om_listing.specs.Sending.{Sends}
use Rattle.om_listing.specs.Listing.{word_lines, lines_from, object_lines, word_count, totals, listing}
use Rattle.om_listing.proofs.Sent.{sends_more, sends_into, sends_as, all_sent}
use Rattle.om_listing.proofs.Done.{lines_done, objects_done, lines_front, objects_front}

module _ (text : List ℕ) (object : ℕ) (ws : List MapWord) (k : ℕ) (d : MapWord) {T E : Type 0} {w0 : Option (List ℕ)} {f0 : ℕ} {p0 : List ℕ}
    {w1 : Option (List ℕ)} {f1 : ℕ} {p1 : List ℕ} {w2 : Option (List ℕ)} {f2 : ℕ} {p2 : List ℕ} {done : T} where
  pub word_put : {T' E' : Type 0} {x : T'} → k < length ws → Sends {T = T} {E = E} (lines_from text object 0 (take k ws)) w0 f0 p0 w1 f1 p1 (Ok done) →
      Sends {T = T'} {E = E'} (word_lines text object (4 * k) (get_or ws k d)) w1 f1 p1 w2 f2 p2 (Ok x) →
      Sends {T = T} {E = E} (lines_from text object 0 (take (k + 1) ws)) w0 f0 p0 w2 f2 p2 (Ok done)
  word_put below before now = sends_as done (lines_done text object ws k d below) (sends_more before now)

  pub word_failed : {T' E' T'' E'' : Type 0} {e : E'} {r : Result T'' E''} {p3 : List ℕ} → k < length ws → IsErr r →
      Sends {T = T} {E = E} (lines_from text object 0 (take k ws)) w0 f0 p0 w1 f1 p1 (Ok done) →
      Sends {T = T'} {E = E'} (word_lines text object (4 * k) (get_or ws k d)) w1 f1 p1 w2 f2 p2 (Err e) →
      Sends {T = T''} {E = E''} (lines_from text object 0 ws) w0 f0 p0 w2 f2 p3 r
  word_failed below failed before now =
      let front = lines_front text object 0 ws (k + 1) in
      sends_into (lines_from text object 0 ws) front.0 (ap (λ l. l ++ front.0) (lines_done text object ws k d below) ∙ front.1) failed
      (sends_more before now)

-- the next words, as they are cut from all words
pub cut : (n at : ℕ) (ws : List MapWord) → take n (take (length ws - at) (drop at ws)) ≡ take n (drop at ws)
cut n at ws = ap (λ l. take n l) (take_all (length ws - at) (drop at ws) (omega (arith, length-drop at ws)))

module _ (text : List ℕ) (os : List MapObj) (ws : List MapWord) (k : ℕ) (d : MapObj) (at : ℕ) (piece : List MapWord) where
  its_lines : k < length os → at ≡ word_count (take k os) → piece ≡ take (get_or os k d).words (drop at ws) →
      object_lines text 0 (take k os) ws ++ lines_from text k 0 piece ≡ object_lines text 0 (take (k + 1) os) ws
  its_lines below place same =
      ap (λ l. object_lines text 0 (take k os) ws ++ lines_from text k 0 l)
      (same ∙ ap (λ n. take (get_or os k d).words (drop n ws)) place)
      ∙ objects_done text os ws k d below

module _ (text : List ℕ) (os : List MapObj) (ws : List MapWord) (k : ℕ) (d : MapObj) (at : ℕ) (piece : List MapWord) {T E : Type 0}
    {w0 : Option (List ℕ)} {f0 : ℕ} {p0 : List ℕ} {w1 : Option (List ℕ)} {f1 : ℕ} {p1 : List ℕ} {w2 : Option (List ℕ)} {f2 : ℕ} {p2 : List ℕ}
    {done : T} where
  pub object_put : {T' E' : Type 0} {x : T'} → k < length os → at ≡ word_count (take k os) → piece ≡ take (get_or os k d).words (drop at ws) →
      Sends {T = T} {E = E} (object_lines text 0 (take k os) ws) w0 f0 p0 w1 f1 p1 (Ok done) →
      Sends {T = T'} {E = E'} (lines_from text k 0 piece) w1 f1 p1 w2 f2 p2 (Ok x) →
      Sends {T = T} {E = E} (object_lines text 0 (take (k + 1) os) ws) w0 f0 p0 w2 f2 p2 (Ok done)
  object_put below place same before now = sends_as done (its_lines text os ws k d at piece below place same) (sends_more before now)

  pub object_failed : {T' E' T'' E'' : Type 0} {e : E'} {r : Result T'' E''} {p3 : List ℕ} → k < length os → at ≡ word_count (take k os) →
      piece ≡ take (get_or os k d).words (drop at ws) → IsErr r →
      Sends {T = T} {E = E} (object_lines text 0 (take k os) ws) w0 f0 p0 w1 f1 p1 (Ok done) →
      Sends {T = T'} {E = E'} (lines_from text k 0 piece) w1 f1 p1 w2 f2 p2 (Err e) →
      Sends {T = T''} {E = E''} (object_lines text 0 os ws) w0 f0 p0 w2 f2 p3 r
  object_failed below place same failed before now =
      let front = objects_front text 0 os ws (k + 1) in
      sends_into (object_lines text 0 os ws) front.0 (ap (λ l. l ++ front.0) (its_lines text os ws k d at piece below place same) ∙ front.1) failed
      (sends_more before now)

module _ (i : Image) {text : List ℕ} {os : List MapObj} {ws : List MapWord} where
  same_lines : text ≡ i.text → os ≡ i.map.objects → ws ≡ i.map.words →
      object_lines text 0 os ws ≡ object_lines i.text 0 i.map.objects i.map.words
  same_lines t o w =
      ap (λ l. object_lines l 0 os ws) t ∙ ap (λ l. object_lines i.text 0 l ws) o ∙ ap (λ l. object_lines i.text 0 i.map.objects l) w

  -- a put failed among the lines
  pub lines_failed : {T E T' E' : Type 0} {w0 : Option (List ℕ)} {f0 : ℕ} {p0 : List ℕ} {w1 : Option (List ℕ)} {f1 : ℕ} {p1 : List ℕ} {e : E}
      (r : Result T' E') → text ≡ i.text → os ≡ i.map.objects → ws ≡ i.map.words → p0 ≡ [] → IsErr r →
      Sends {T = T} {E = E} (object_lines text 0 os ws) w0 f0 p0 w1 f1 p1 (Err e) →
      (old : List ℕ) → w0 ≡ Some old → Appends old w1 (listing i) r
  lines_failed {T' = T'} {E' = E'} (Err e') t o w begun failed sends =
      all_sent {T = T'} {E = E'} (Err e') begun tt
      (sends_into (listing i) (totals i.map) {p2 = []} (ap (λ l. l ++ totals i.map) (same_lines t o w)) refl sends)
  lines_failed (Ok x) t o w begun failed sends = absurd (true≢false (sym failed))

  -- a put failed among the totals
  pub totals_failed : {T E T' E' T'' E'' : Type 0} {w0 : Option (List ℕ)} {f0 : ℕ} {p0 : List ℕ} {w1 : Option (List ℕ)} {f1 : ℕ} {p1 : List ℕ}
      {w2 : Option (List ℕ)} {f2 : ℕ} {p2 : List ℕ} {done : T} {e : E'} (r : Result T'' E'') →
      text ≡ i.text → os ≡ i.map.objects → ws ≡ i.map.words → p0 ≡ [] → IsErr r →
      Sends {T = T} {E = E} (object_lines text 0 os ws) w0 f0 p0 w1 f1 p1 (Ok done) →
      Sends {T = T'} {E = E'} (totals i.map) w1 f1 p1 w2 f2 p2 (Err e) →
      (old : List ℕ) → w0 ≡ Some old → Appends old w2 (listing i) r
  totals_failed {T'' = T''} {E'' = E''} (Err e') t o w begun failed before now =
      all_sent {T = T''} {E = E''} (Err e') begun tt
      (sends_into (listing i) [] {p2 = []}
      (append-nil (object_lines text 0 os ws ++ totals i.map) ∙ ap (λ l. l ++ totals i.map) (same_lines t o w)) refl (sends_more before now))
  totals_failed (Ok x) t o w begun failed before now = absurd (true≢false (sym failed))
