-- Files that are loaded one after the other.
use Rattle.std.proofs.Common.{◌≡◌, ◌≤◌, ◌<◌, ◌+◌, ◌-◌, ◌++◌, ◌∙◌, ℕ, suc, List, [], ◌∷◌, length, map, Some, refl, sym, ap, subst, inl, inr, arith}
use Rattle.std.specs.Prelude.{IsTrue, sum_by, String, string_bytes}
use Rattle.std.specs.declared.alloc.Global.{Global}
use Rattle.om_words.specs.Sentences.{texts}
use Rattle.std.proofs.lemmas.Bool.{cases_lt}
use Rattle.om_io.specs.Causes.{raised, Rose}
use Rattle.om_object.specs.File.{IsAccepted, parts_of}
use Rattle.om_object.specs.declared.parts.Parts.{Parts}
use Rattle.om_command.specs.StoreCalls.{most_bytes}
use Rattle.om_command.specs.Loading.{item_at, size_of, Loads, AreRead, IsObjectIn, IsNoObject, StopsAt}
use Rattle.om_command.specs.StoreCalls.{LoadsOne, NoLoadFailed}
use Rattle.om_command.specs.World.{Files}
use Rattle.om_command.specs.declared.loading.Loaded.{Loaded}
use Rattle.om_command.specs.declared.loading.FileStop.{FileStop}
use Rattle.om_command.specs.declared.loading.FileStop.TheVariants as stop
use Rattle.std.proofs.Math.ListN.{get_or-append}
use Rattle.std.proofs.Math.Seq.{get_or-append_seam}
use Rattle.std.proofs.lemmas.List.{map-append, length-append, length-map}
use Rattle.std.proofs.lemmas.List.Sums.{sum_by-append}

-- the files before a place are loaded, and so many bytes are left
pub record SoFar (names : List (List ℕ)) (place left : ℕ) (objects : List Parts) (old new : Files) : Type 0 where
  pub loads : Loads place old new
  pub unfailed : NoLoadFailed old new
  pub contents : List (List ℕ)
  pub count : length contents ≡ place
  pub read : AreRead old names contents
  pub objects_are : objects ≡ map parts_of contents
  pub left_is : left ≡ most_bytes - size_of contents

one_more : (n m : ℕ) (a b c : Files) → suc n ≡ m → Loads n a b → LoadsOne b c → Loads m a c
one_more n m a b c next p q = subst (λ k. Loads k a c) next (record {
  tells = q.tells ∙ p.tells;
  same = λ name. q.same name ∙ p.same name;
  loads = q.loads ∙ ap raised p.loads;
  saves = q.saves ∙ p.saves;
  no_save = q.no_save ∙ p.no_save;
})

still_unfailed : (a b c : Files) → NoLoadFailed a b → NoLoadFailed b c → NoLoadFailed a c
still_unfailed a b c p q = (q.0 ∙ p.0, q.1 ∙ p.1)

told_before : (a b : Files) (n : ℕ) → Loads n a b → IsTrue a.tells → IsTrue b.tells
told_before a b n p t = subst IsTrue (sym p.tells) t

-- a cause after some loads is one from the start
moved : (stop : FileStop) (name : List ℕ) (left n : ℕ) (a b c : Files) → Loads n a b → NoLoadFailed a b → IsNoObject stop name left b c →
    IsNoObject stop name left a c
moved stop.Missing name left n a b c p u h = (λ t. sym (p.same name) ∙ h.0 (told_before a b n p t), still_unfailed a b c u h.1)
moved stop.TooLong name left n a b c p u h =
    (λ t. let x = h.0 (told_before a b n p t) in (x.0, sym (p.same name) ∙ x.1, x.2), still_unfailed a b c u h.1)
moved (stop.Rule rule at) name left n a b c p u h =
    ((h.0.0, λ t. sym (p.same name) ∙ h.0.1 (told_before a b n p t), h.0.2, h.0.3), still_unfailed a b c u h.1)
moved stop.ReadFault name left n a b c p u h = (subst (λ k. Rose k c.failed_loads) u.0 h.0, h.1)
moved stop.NoMemory name left n a b c p u h = still_unfailed a b c u h

-- the file at a place gives no object
pub refused : (names : List (List ℕ)) (place left : ℕ) (objects : List Parts) (a b c : Files) (name : List ℕ) (stop : FileStop) →
    SoFar names place left objects a b → place < length names → item_at names place ≡ name → LoadsOne b c → IsNoObject stop name left b c →
    StopsAt names place stop a c
refused names place left objects a b c name stop done inside is one cause = record {
  loads = one_more place (suc place) a b c refl done.loads one;
  inside = inside;
  contents = done.contents;
  count = done.count;
  read = done.read;
  cause = subst (λ l. IsNoObject stop (item_at names place) l a c) done.left_is
      (subst (λ n. IsNoObject stop n left a c) (sym is) (moved stop name left place a b c done.loads done.unfailed cause));
}

item_before : (cs : List (List ℕ)) (b : List ℕ) (k : ℕ) → k < length cs → item_at (cs ++ b ∷ []) k ≡ item_at cs k
item_before cs b k below = get_or-append cs (b ∷ []) [] k below

item_last : (cs : List (List ℕ)) (b : List ℕ) (k : ℕ) → k ≡ length cs → item_at (cs ++ b ∷ []) k ≡ b
item_last cs b k e = ap (λ n. item_at (cs ++ b ∷ []) n) e ∙ get_or-append_seam cs b [] []

size_more : (cs : List (List ℕ)) (b : List ℕ) → size_of (cs ++ b ∷ []) ≡ size_of cs + length b
size_more cs b = let e = sum_by-append (λ (bytes : List ℕ). length bytes) cs (b ∷ []) in let one : sum_by (λ (bytes : List ℕ). length bytes) (b ∷ []) ≡ length b = omega arith in omega (arith, e, one)

length_more : (cs : List (List ℕ)) (b : List ℕ) → length (cs ++ b ∷ []) ≡ length cs + 1
length_more cs b = length-append cs (b ∷ [])

-- by where a place of one more is
by_place : (P : Type 0) (k : ℕ) (cs : List (List ℕ)) (b : List ℕ) → k < length (cs ++ b ∷ []) → (k < length cs → P) → (k ≡ length cs → P) → P
by_place P k cs b below before last =
    elim (cases_lt k (length cs)) [ inl less ↦ before less | inr more ↦ last (let l = length_more cs b in omega (arith, below, l, more)) ]

read_more : (files : Files) (names cs : List (List ℕ)) (b : List ℕ) → AreRead files names cs →
    (IsTrue files.tells → files.file (item_at names (length cs)) ≡ Some b) → IsAccepted b → size_of cs + length b ≤ most_bytes →
    AreRead files names (cs ++ b ∷ [])
read_more files names cs b read there accepted short = record {
  there = λ k below tells. by_place (files.file (item_at names k) ≡ Some (item_at (cs ++ b ∷ []) k)) k cs b below
      (λ less. read.there k less tells ∙ ap (λ (l : List ℕ). Some l) (sym (item_before cs b k less)))
      (λ last. ap (λ n. files.file (item_at names n)) last ∙ there tells ∙ ap (λ (l : List ℕ). Some l) (sym (item_last cs b k last)));
  accepted = λ k below. by_place (IsAccepted (item_at (cs ++ b ∷ []) k)) k cs b below
      (λ less. subst IsAccepted (sym (item_before cs b k less)) (read.accepted k less))
      (λ last. subst IsAccepted (sym (item_last cs b k last)) accepted);
  short = let s = size_more cs b in omega (arith, s, short);
}

-- one file more is loaded
pub one_loaded : (names : List (List ℕ)) (place left : ℕ) (objects objects' : List Parts) (a b c : Files) (name : List ℕ) (loaded : Loaded) →
    SoFar names place left objects a b → item_at names place ≡ name → LoadsOne b c → NoLoadFailed b c → IsObjectIn name left b loaded →
    objects' ≡ objects ++ loaded.object ∷ [] → SoFar names (place + 1) (left - loaded.size) objects' a c
one_loaded names place left objects objects' a b c name loaded done is one unfailed here more = record {
  loads = one_more place (place + 1) a b c (omega arith) done.loads one;
  unfailed = still_unfailed a b c done.unfailed unfailed;
  contents = done.contents ++ here.bytes ∷ [];
  count = let l = length_more done.contents here.bytes in omega (arith, l, done.count);
  read = read_more a names done.contents here.bytes done.read
      (λ t. ap (λ n. a.file (item_at names n)) done.count ∙ ap a.file is ∙ sym (done.loads.same name) ∙ here.there (told_before a b place done.loads t))
      here.accepted (let s : size_of done.contents ≤ most_bytes = done.read.short in omega (arith, s, here.short, done.left_is));
  objects_are = more ∙ ap (λ l. l ++ loaded.object ∷ []) done.objects_are ∙ ap (λ o. map parts_of done.contents ++ o ∷ []) here.object
      ∙ sym (map-append parts_of done.contents (here.bytes ∷ []));
  left_is = let s = size_more done.contents here.bytes in omega (arith, s, done.left_is, here.size);
}

pub inside_texts : (words : List (String Global)) (k : ℕ) → k < length words → k < length (texts words)
inside_texts words k below = let l = length-map words string_bytes in omega (arith, below, l)
