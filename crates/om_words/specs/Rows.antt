-- Rows that were worked by hand.
use Rattle.std.specs.Prelude.{◌≡◌, [], ◌∷◌, Some, None, codes}
use Rattle.std.proofs.Common.{refl}
use Rattle.om_alpha.specs.declared.op.Level.TheVariants.{Plain, Full}
use Rattle.om_words.specs.Sentences.{wrong_place}
use Rattle.om_words.specs.Meaning.{Link, Exec, Run, Gen, Count, Place, meaning}

links : meaning (codes "link" ∷ codes "-O0" ∷ codes "-o" ∷ codes "p" ∷ codes "a.o" ∷ codes "b.o" ∷ [])
    ≡ Some (Link Plain (codes "p") (codes "a.o" ∷ codes "b.o" ∷ []))
links = refl

links_fully : meaning (codes "link" ∷ codes "-o" ∷ codes "p" ∷ codes "a.o" ∷ []) ≡ Some (Link Full (codes "p") (codes "a.o" ∷ []))
links_fully = refl

executes : meaning (codes "exec" ∷ codes "-n" ∷ codes "100" ∷ codes "-O0" ∷ codes "a.o" ∷ []) ≡ Some (Exec Plain 100 (codes "a.o" ∷ []))
executes = refl

runs : meaning (codes "run" ∷ codes "q" ∷ []) ≡ Some (Run 1000000000 (codes "q"))
runs = refl

counts : meaning (codes "count" ∷ codes "-o" ∷ codes "c" ∷ codes "-n" ∷ codes "7" ∷ codes "p" ∷ []) ≡ Some (Count 7 (codes "c") (codes "p"))
counts = refl

places : meaning (codes "place" ∷ codes "-o" ∷ codes "q" ∷ codes "-c" ∷ codes "c" ∷ codes "a.o" ∷ []) ≡ Some (Place (codes "c") (codes "q") (codes "a.o" ∷ []))
places = refl

generates : meaning (codes "gen" ∷ codes "18446744073709551615" ∷ []) ≡ Some (Gen 18446744073709551615)
generates = refl

too_large : meaning (codes "gen" ∷ codes "18446744073709551616" ∷ []) ≡ None
too_large = refl

-- a second option, an option behind a file, `link` without `-o`, and no words at all
twice : wrong_place (codes "exec" ∷ codes "-n" ∷ codes "1" ∷ codes "-n" ∷ codes "1" ∷ codes "a.o" ∷ []) ≡ 4
twice = refl

behind : wrong_place (codes "exec" ∷ codes "a.o" ∷ codes "-O0" ∷ []) ≡ 3
behind = refl

unsaved : wrong_place (codes "link" ∷ codes "a.o" ∷ []) ≡ 2
unsaved = refl

cut : wrong_place (codes "link" ∷ codes "-o" ∷ codes "p" ∷ []) ≡ 4
cut = refl

empty : wrong_place [] ≡ 1
empty = refl
