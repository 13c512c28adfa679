-- What files hold decides why they are no program.
use Rattle.std.proofs.Common.{◌≡◌, ◌≤◌, ◌<◌, ◌+◌, ◌-◌, ◌⊎◌, ◌∙◌, ℕ, suc, List, [], ◌∷◌, ◌++◌, length, map, Option, Some, None, refl, sym, ap, subst, inl, inr, arith}
use Rattle.std.specs.Prelude.{IsTrue}
use Rattle.std.proofs.lemmas.Option.{same_Some, none-some}
use Rattle.std.proofs.lemmas.Bool.{cases_lt}
use Rattle.std.proofs.lemmas.List.Sums.{sum_by-cons}
use Rattle.om_fields.specs.Rules.{Breaks, IsFirstFault}
use Rattle.om_object.specs.File.{object_rules, parts_of}
use Rattle.om_object.specs.declared.parts.Parts.{Parts}
use Rattle.om_prog.specs.View.{ProgramView}
use Rattle.om_resolve.specs.Causes.{first_cause, Blames}
use Rattle.om_resolve.specs.Program.{program_of}
use Rattle.om_resolve.specs.declared.causes.ResolveErr.{ResolveErr}
use Rattle.om_resolve.specs.declared.causes.ResolveErr.TheVariants as resolve
use Rattle.om_command.specs.StoreCalls.{most_bytes}
use Rattle.om_command.specs.Loading.{item_at, size_of, AreRead, AreLoaded, IsNoObject, StopsAt}
use Rattle.om_command.specs.Programs.{IsRefused, IsFirstRefused, FilesHaveCause, FilesHoldProgram, HoldsProgram, AreNoProgram}
use Rattle.om_command.specs.World.{Files}
use Rattle.om_command.specs.declared.loading.FileStop.{FileStop}
use Rattle.om_command.specs.declared.loading.FileStop.TheVariants.{Missing, TooLong, Rule, ReadFault, NoMemory}
use Rattle.om_command.specs.declared.loading.Refused.{Refused}
use Rattle.om_command.specs.declared.no_program.NoProgram.{NoProgram}
use Rattle.om_command.specs.declared.no_program.NoProgram.TheVariants.{File, Objects}

-- ---- contents are what their files hold

abbrev Held : (ℕ → Option (List ℕ)) → List (List ℕ) → Type 0
Held f cs = (k : ℕ) → k < length cs → f k ≡ Some (item_at cs k)

tail_held : (f : ℕ → Option (List ℕ)) (c : List ℕ) (cs : List (List ℕ)) → Held f (c ∷ cs) → Held (λ k. f (suc k)) cs
tail_held f c cs h k below = h (suc k) (omega (arith, below))

head_same : (f : ℕ → Option (List ℕ)) (c d : List ℕ) (cs ds : List (List ℕ)) → Held f (c ∷ cs) → Held f (d ∷ ds) → c ≡ d
head_same f c d cs ds h k = same_Some c d (sym (h 0 (omega arith)) ∙ k 0 (omega arith))

-- of two that hold what the files hold the shorter is a front
fronts : (f : ℕ → Option (List ℕ)) (cs ds : List (List ℕ)) → Held f cs → Held f ds → length cs ≤ length ds → (rest : List (List ℕ)) × (ds ≡ cs ++ rest)
fronts f [] ds h k few = (ds, refl)
fronts f (c ∷ cs) [] h k few = absurd (omega (arith, few))
fronts f (c ∷ cs) (d ∷ ds) h k few =
    let more = fronts (λ n. f (suc n)) cs ds (tail_held f c cs h) (tail_held f d ds k) (omega (arith, few)) in
    (more.0, ap (λ x. x ∷ ds) (sym (head_same f c d cs ds h k)) ∙ ap (λ l. c ∷ l) more.1)

held : (files : Files) (names cs : List (List ℕ)) → IsTrue files.tells → AreRead files names cs → Held (λ k. files.file (item_at names k)) cs
held files names cs tells read = λ k below. read.there k below tells

none_left : (cs rest : List (List ℕ)) → length (cs ++ rest) ≡ length cs → cs ++ rest ≡ cs
none_left [] [] e = refl
none_left [] (r ∷ rest) e = absurd (omega (arith, e))
none_left (c ∷ cs) rest e = ap (λ l. c ∷ l) (none_left cs rest (omega (arith, e)))

pub same_contents : (files : Files) (names cs ds : List (List ℕ)) → IsTrue files.tells → AreRead files names cs → AreRead files names ds → length cs ≡ length ds → ds ≡ cs
same_contents files names cs ds tells p q same =
    let front = fronts (λ k. files.file (item_at names k)) cs ds (held files names cs tells p) (held files names ds tells q) (omega (arith, same)) in
    let count : length (cs ++ front.0) ≡ length cs = sym (ap (λ (l : List (List ℕ)). length l) front.1) ∙ sym same in
    front.1 ∙ none_left cs front.0 count

-- what stands behind a front, and how many bytes are left for it
behind : (cs rest : List (List ℕ)) → length cs < length (cs ++ rest) → size_of cs + length (item_at (cs ++ rest) (length cs)) ≤ size_of (cs ++ rest)
behind [] [] below = absurd (omega (arith, below))
behind [] (r ∷ rest) below =
    let whole : size_of ([] ++ r ∷ rest) ≡ length r + size_of rest = sum_by-cons (λ (bytes : List ℕ). length bytes) r rest in
    let here : length (item_at ([] ++ r ∷ rest) 0) ≡ length r = refl in
    let none : size_of [] ≡ 0 = refl in
    omega (arith, whole, here, none)
behind (c ∷ cs) rest below =
    let more = behind cs rest (omega (arith, below)) in
    let front : size_of (c ∷ cs) ≡ length c + size_of cs = sum_by-cons (λ (bytes : List ℕ). length bytes) c cs in
    let whole : size_of ((c ∷ cs) ++ rest) ≡ length c + size_of (cs ++ rest) = sum_by-cons (λ (bytes : List ℕ). length bytes) c (cs ++ rest) in
    let here : length (item_at ((c ∷ cs) ++ rest) (length (c ∷ cs))) ≡ length (item_at (cs ++ rest) (length cs)) = refl in
    omega (arith, more, front, whole, here)

pub room_behind : (files : Files) (names cs ds : List (List ℕ)) → IsTrue files.tells → AreRead files names cs → AreRead files names ds → length cs < length ds →
    length (item_at ds (length cs)) ≤ most_bytes - size_of cs
room_behind files names cs ds tells p q below =
    let front = fronts (λ k. files.file (item_at names k)) cs ds (held files names cs tells p) (held files names ds tells q) (omega (arith, below)) in
    let all = subst (λ (l : List (List ℕ)). length cs < length l → size_of cs + length (item_at l (length cs)) ≤ size_of l) (sym front.1) (behind cs front.0) below in
    let short : size_of ds ≤ most_bytes = q.short in
    omega (arith, all, short)

-- a file that was read is not refused
pub not_refused : (files : Files) (names cs ds : List (List ℕ)) (stop : FileStop) (place : ℕ) → IsTrue files.tells → AreRead files names cs → length cs ≡ place →
    AreRead files names ds → place < length ds → IsRefused stop (item_at names place) (most_bytes - size_of cs) files → ⊥
not_refused files names cs ds Missing place tells p count q below refused = none-some (item_at ds place) (sym refused ∙ q.there place below tells)
not_refused files names cs ds TooLong place tells p count q below refused =
    let same = same_Some refused.0 (item_at ds place) (sym refused.1 ∙ q.there place below tells) in
    let room = room_behind files names cs ds tells p q (omega (arith, count, below)) in
    let here : length refused.0 ≡ length (item_at ds (length cs)) = ap (λ (l : List ℕ). length l) same ∙ ap (λ k. length (item_at ds k)) (sym count) in
    absurd (omega (arith, room, here, refused.2))
not_refused files names cs ds (Rule rule at) place tells p count q below refused =
    let same = same_Some refused.0 (item_at ds place) (sym refused.1 ∙ q.there place below tells) in
    (q.accepted place below).nowhere rule at (subst (λ (l : List ℕ). Breaks object_rules l rule at) same refused.3.broken)
not_refused files names cs ds ReadFault place tells p count q below refused = refused
not_refused files names cs ds NoMemory place tells p count q below refused = refused

-- ---- a file is refused for one reason

no_earlier : (bytes : List ℕ) (rule at other place : ℕ) → IsFirstFault object_rules bytes rule at → IsFirstFault object_rules bytes other place → rule ≤ other
no_earlier bytes rule at other place p q =
    elim (cases_lt other rule) [ inl less ↦ absurd (p.no_less other place less q.broken) | inr more ↦ more ]

no_nearer : (bytes : List ℕ) (rule at place : ℕ) → IsFirstFault object_rules bytes rule at → IsFirstFault object_rules bytes rule place → at ≤ place
no_nearer bytes rule at place p q =
    elim (cases_lt place at) [ inl less ↦ absurd (p.no_nearer place less q.broken) | inr more ↦ more ]

same_fault : (bytes : List ℕ) (rule at other place : ℕ) → IsFirstFault object_rules bytes rule at → IsFirstFault object_rules bytes other place → Rule rule at ≡ Rule other place
same_fault bytes rule at other place p q =
    let rules : rule ≡ other = omega (arith, no_earlier bytes rule at other place p q, no_earlier bytes other place rule at q p) in
    let first = subst (λ (r : ℕ). IsFirstFault object_rules bytes r at) rules p in
    let places : at ≡ place = omega (arith, no_nearer bytes other at place first q, no_nearer bytes other place at q first) in
    ap (λ (r : ℕ). Rule r at) rules ∙ ap (λ (a : ℕ). Rule other a) places

refused_once : (s t : FileStop) (name : List ℕ) (left : ℕ) (files : Files) → IsRefused s name left files → IsRefused t name left files → t ≡ s
refused_once Missing Missing name left files p q = refl
refused_once Missing TooLong name left files p q = absurd (none-some q.0 (sym p ∙ q.1))
refused_once Missing (Rule rule at) name left files p q = absurd (none-some q.0 (sym p ∙ q.1))
refused_once TooLong Missing name left files p q = absurd (none-some p.0 (sym q ∙ p.1))
refused_once TooLong TooLong name left files p q = refl
refused_once TooLong (Rule rule at) name left files p q =
    let same : length p.0 ≡ length q.0 = ap (λ (l : List ℕ). length l) (same_Some p.0 q.0 (sym p.1 ∙ q.1)) in absurd (omega (arith, same, p.2, q.2))
refused_once (Rule rule at) Missing name left files p q = absurd (none-some p.0 (sym q ∙ p.1))
refused_once (Rule rule at) TooLong name left files p q =
    let same : length p.0 ≡ length q.0 = ap (λ (l : List ℕ). length l) (same_Some p.0 q.0 (sym p.1 ∙ q.1)) in absurd (omega (arith, same, p.2, q.2))
refused_once (Rule rule at) (Rule other place) name left files p q =
    let same : p.0 ≡ q.0 = same_Some p.0 q.0 (sym p.1 ∙ q.1) in
    sym (same_fault q.0 rule at other place (subst (λ (b : List ℕ). IsFirstFault object_rules b rule at) same p.3) q.3)
refused_once ReadFault t name left files p q = absurd p
refused_once NoMemory t name left files p q = absurd p
refused_once s ReadFault name left files p q = absurd q
refused_once s NoMemory name left files p q = absurd q

-- what a load that failed, or want of memory, leaves unsaid
abbrev pub IsWant : FileStop → Type 0
IsWant stop = (stop ≡ ReadFault) ⊎ (stop ≡ NoMemory)

refused_or_want : (stop : FileStop) (name : List ℕ) (left : ℕ) (old new : Files) → IsTrue old.tells → IsNoObject stop name left old new →
    IsRefused stop name left old ⊎ IsWant stop
refused_or_want Missing name left old new tells h = inl (h.0 tells)
refused_or_want TooLong name left old new tells h = inl (h.0 tells)
refused_or_want (Rule rule at) name left old new tells h = inl (h.0.0, h.0.1 tells, h.0.2, h.0.3)
refused_or_want ReadFault name left old new tells h = inr (inl refl)
refused_or_want NoMemory name left old new tells h = inr (inr refl)

-- ---- the file that stops a command

-- where more files are read than those before it, only a failed load or want of memory stops it
pub stops_by_want : (names ds : List (List ℕ)) (place : ℕ) (stop : FileStop) (old new : Files) → IsTrue old.tells → StopsAt names place stop old new →
    AreRead old names ds → place < length ds → IsWant stop
stops_by_want names ds place stop old new tells s read below =
    elim (refused_or_want stop (item_at names place) (most_bytes - size_of s.contents) old new tells s.cause) [
      | inl refused ↦ absurd (not_refused old names s.contents ds stop place tells s.read s.count read below refused)
      | inr want ↦ want
    ]

-- the first file that is refused stops it, but for a failed load or want of memory
abbrev StopsThere : ℕ → FileStop → ℕ → FileStop → Type 0
StopsThere place stop at by = ((at ≡ place) × (by ≡ stop)) ⊎ IsWant by

by_same : (names : List (List ℕ)) (place at : ℕ) (stop by : FileStop) (old new : Files) → IsTrue old.tells → IsFirstRefused names place stop old →
    StopsAt names at by old new → at ≡ place → StopsThere place stop at by
by_same names place at stop by old new tells r s same =
    let contents = same_contents old names s.contents r.contents tells s.read r.read (omega (arith, same, s.count, r.count)) in
    elim (refused_or_want by (item_at names at) (most_bytes - size_of s.contents) old new tells s.cause) [
      | inl refused ↦ inl (
        same,
        refused_once stop by (item_at names place) (most_bytes - size_of r.contents) old r.refused
            (subst (λ (cs : List (List ℕ)). IsRefused by (item_at names place) (most_bytes - size_of cs) old) (sym contents)
            (subst (λ (k : ℕ). IsRefused by (item_at names k) (most_bytes - size_of s.contents) old) same refused)),
      )
      | inr want ↦ inr want
    ]

pub stops_there : (names : List (List ℕ)) (place at : ℕ) (stop by : FileStop) (old new : Files) → IsTrue old.tells → IsFirstRefused names place stop old →
    StopsAt names at by old new → StopsThere place stop at by
stops_there names place at stop by old new tells r s =
    elim (cases_lt at place) [
      | inl less ↦ inr (stops_by_want names r.contents at by old new tells s r.read (omega (arith, less, r.count)))
      | inr more ↦ elim (cases_lt place at) [
        | inl past ↦ absurd (not_refused old names r.contents s.contents stop place tells r.read r.count s.read (omega (arith, past, s.count)) r.refused)
        | inr here ↦ by_same names place at stop by old new tells r s (omega (arith, more, here))
      ]
    ]

-- where a file is refused, not all are loaded
pub not_all : (names : List (List ℕ)) (place : ℕ) (stop : FileStop) (objects : List Parts) (files : Files) → IsTrue files.tells →
    IsFirstRefused names place stop files → AreLoaded files names objects → ⊥
not_all names place stop objects files tells r all =
    not_refused files names r.contents all.contents stop place tells r.read r.count all.read (omega (arith, all.count, r.inside)) r.refused

-- all files hold the same objects at each time
pub same_objects : (names : List (List ℕ)) (ps qs : List Parts) (files : Files) → IsTrue files.tells → AreLoaded files names ps → AreLoaded files names qs → qs ≡ ps
same_objects names ps qs files tells p q =
    q.objects_are ∙ ap (λ (cs : List (List ℕ)). map parts_of cs) (same_contents files names p.contents q.contents tells p.read q.read (omega (arith, p.count, q.count))) ∙ sym p.objects_are

-- ---- why the files are no program

-- a failed load, or want of memory
abbrev pub IsWanting : NoProgram → Type 0
IsWanting (File refused) = IsWant refused.stop
IsWanting (Objects cause) = cause ≡ resolve.NoMemory

same_file : (a b : ℕ) (s t : FileStop) → a ≡ b → s ≡ t → File (record { place = a; stop = s }) ≡ File (record { place = b; stop = t })
same_file a b s t p q = ap (λ (x : ℕ). File (record { place = x; stop = s })) p ∙ ap (λ (y : FileStop). File (record { place = b; stop = y })) q

file_stops : (r q : Refused) → StopsThere r.place r.stop q.place q.stop → (File q ≡ File r) ⊎ IsWanting (File q)
file_stops r q (inl same) = inl (same_file q.place r.place q.stop r.stop same.0 same.1)
file_stops r q (inr want) = inr want

blamed : (cause : Option ResolveErr) (first e : ResolveErr) → cause ≡ Some first → Blames cause e → (e ≡ first) ⊎ (e ≡ resolve.NoMemory)
blamed cause first resolve.NoMemory is h = inr refl
blamed cause first (resolve.Duplicate name a b) is h = inl (same_Some _ first (sym h ∙ is))
blamed cause first (resolve.Unresolved name a) is h = inl (same_Some _ first (sym h ∙ is))
blamed cause first (resolve.Rule a rule at) is h = inl (same_Some _ first (sym h ∙ is))
blamed cause first (resolve.Limit which total) is h = inl (same_Some _ first (sym h ∙ is))
blamed cause first (resolve.TooFar from words) is h = inl (same_Some _ first (sym h ∙ is))

unblamed : (cause : Option ResolveErr) (e : ResolveErr) → cause ≡ None → Blames cause e → e ≡ resolve.NoMemory
unblamed cause resolve.NoMemory is h = refl
unblamed cause (resolve.Duplicate name a b) is h = absurd (none-some _ (sym is ∙ h))
unblamed cause (resolve.Unresolved name a) is h = absurd (none-some _ (sym is ∙ h))
unblamed cause (resolve.Rule a rule at) is h = absurd (none-some _ (sym is ∙ h))
unblamed cause (resolve.Limit which total) is h = absurd (none-some _ (sym is ∙ h))
unblamed cause (resolve.TooFar from words) is h = absurd (none-some _ (sym is ∙ h))

objects_stop : (first e : ResolveErr) → (e ≡ first) ⊎ (e ≡ resolve.NoMemory) → (Objects e ≡ Objects first) ⊎ IsWanting (Objects e)
objects_stop first e (inl same) = inl (ap (λ (x : ResolveErr). Objects x) same)
objects_stop first e (inr want) = inr want

-- the cause that the files have is answered, but for a failed load or want of memory
pub cause_told : (names : List (List ℕ)) (cause told : NoProgram) (old new : Files) → IsTrue old.tells → FilesHaveCause names cause old →
    AreNoProgram names told old new → (told ≡ cause) ⊎ IsWanting told
cause_told names (File r) (File q) old new tells have is = file_stops r q (stops_there names r.place q.place r.stop q.stop old new tells have is)
cause_told names (File r) (Objects e) old new tells have is = absurd (not_all names r.place r.stop is.objects old tells have is.loaded.loaded)
cause_told names (Objects first) (File q) old new tells have is =
    inr (stops_by_want names have.loaded.contents q.place q.stop old new tells is have.loaded.read (omega (arith, have.loaded.count, is.inside)))
cause_told names (Objects first) (Objects e) old new tells have is =
    let same = same_objects names have.objects is.objects old tells have.loaded is.loaded.loaded in
    objects_stop first e (blamed (first_cause have.objects) first e have.first (subst (λ (ps : List Parts). Blames (first_cause ps) e) same is.answer))

-- and there is no program
pub no_program_there : (names : List (List ℕ)) (cause : NoProgram) (old new : Files) (p : ProgramView) → IsTrue old.tells → FilesHaveCause names cause old →
    HoldsProgram names old new p → ⊥
no_program_there names (File r) old new p tells have is = not_all names r.place r.stop is.objects old tells have is.loaded.loaded
no_program_there names (Objects first) old new p tells have is =
    let same = same_objects names have.objects is.objects old tells have.loaded is.loaded.loaded in
    none-some first (sym (subst (λ (ps : List Parts). first_cause ps ≡ None) same is.uncaused) ∙ have.first)

-- where the files hold a program, only a failed load or want of memory stands in its way
pub no_cause_told : (names : List (List ℕ)) (objects : List Parts) (told : NoProgram) (old new : Files) → IsTrue old.tells → FilesHoldProgram names objects old →
    AreNoProgram names told old new → IsWanting told
no_cause_told names objects (File q) old new tells have is =
    stops_by_want names have.loaded.contents q.place q.stop old new tells is have.loaded.read (omega (arith, have.loaded.count, is.inside))
no_cause_told names objects (Objects e) old new tells have is =
    let same = same_objects names objects is.objects old tells have.loaded is.loaded.loaded in
    unblamed (first_cause objects) e have.uncaused (subst (λ (ps : List Parts). Blames (first_cause ps) e) same is.answer)

pub same_program : (names : List (List ℕ)) (objects : List Parts) (old new : Files) (p : ProgramView) → IsTrue old.tells → FilesHoldProgram names objects old →
    HoldsProgram names old new p → p ≡ program_of objects
same_program names objects old new p tells have is =
    is.program ∙ ap (λ (ps : List Parts). program_of ps) (same_objects names objects is.objects old tells have.loaded is.loaded.loaded)
