-- What is known of a program while its parts are tested.
use Rattle.std.specs.Prelude.{◌≡◌, option_map}
use Rattle.om_value.specs.declared.value.Region.{Region}
use Rattle.om_prog.specs.declared.known.Known.{Known}
use Rattle.om_prog.specs.View.{ProgramView, items_lists, init_of}
use Rattle.om_prog.specs.Keys.{size_in}

-- the texts are the program's, and so are the sizes of the regions
pub record IsKnown (k : Known) (v : ProgramView) : Type 0 where
  pub texts : v.texts ≡ items_lists k.texts.now
  pub sizes : (r : Region) → size_in k.sizes r ≡ option_map (λ i. i.size) (init_of v r)
