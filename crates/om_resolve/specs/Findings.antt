-- What is wrong at relocations, and the first that is.
use Rattle.std.specs.Prelude.{Bool, false, ◌&&◌, ◌||◌, ◌==◌, nat_lt, if◌then◌else◌, List, fold, Option, Some, None}
use Rattle.om_resolve.specs.declared.finding.Finding.{Finding}
use Rattle.om_resolve.specs.declared.finding.Finding.TheVariants.{Nameless, Broken, Far}

-- by the number of the name, then the object; by the object, then the rule, then the address; by the place
abbrev pub is_before : Finding → Finding → Bool
is_before (Nameless n f) (Nameless m g) = nat_lt n m || ((n == m) && nat_lt f g)
is_before (Broken f r a) (Broken g s b) = nat_lt f g || ((f == g) && (nat_lt r s || ((r == s) && nat_lt a b)))
is_before (Far p d) (Far q e) = nat_lt p.obj q.obj || ((p.obj == q.obj) && nat_lt p.off q.off)
is_before _ _ = false

abbrev pub better : Option Finding → Option Finding → Option Finding
better None found = found
better (Some a) None = Some a
better (Some a) (Some b) = if is_before b a then Some b else Some a

-- the first of those that are found
abbrev pub first_found : List (Option Finding) → Option Finding
first_found found = fold better None found
