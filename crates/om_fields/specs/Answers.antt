-- What a reader of a file's table answers.
use Rattle.std.specs.Prelude.{◌≡◌, ⊤, ℕ, List, Result, Ok, Err}
use Rattle.om_fields.specs.Rules.{Rule, IsFirstFault, IsUnbroken}
use Rattle.om_fields.specs.declared.head.FieldErr.{FieldErr}
use Rattle.om_fields.specs.declared.head.FieldErr.TheVariants.{Rule as Broken, NoMemory}

-- Ok: that value, and no rule of the table is broken anywhere. Rule: the least broken rule, with the least place where it
-- is broken. Want of memory is answered of any file.
abbrev pub Reads : {T : Type 0} → List (Rule (List ℕ)) → List ℕ → T → Result T FieldErr → Type 0
Reads rules file v (Ok w) = (w ≡ v) × IsUnbroken rules file
Reads rules file v (Err (Broken rule at)) = IsFirstFault rules file rule at
Reads rules file v (Err NoMemory) = ⊤
