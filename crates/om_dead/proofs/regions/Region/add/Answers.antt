use Rattle.std.proofs.Common.{◌≡◌, ◌⊎◌, inr, ◌++◌, ◌∷◌, [], ℕ, List, Result, Ok, Err}
use Rattle.std.specs.Prelude.{OnOk}
use Rattle.om_graph.specs.View.{Has}
use Rattle.om_dead.proofs.OnRegions.{put_has}
use Rattle.om_dead.proofs.regions.Region.add.Goals as goal

there : {T E : Type 0} (Z : Type 0) (xs new : List ℕ) (b : ℕ) (r : Result T E) → OnOk r (new ≡ xs ++ b ∷ []) → OnOk r (Z ⊎ Has new b)
there Z xs new b (Ok x) e = inr (put_has xs new b e)
there Z xs new b (Err x) e = e

pub returns-clause-there : goal.returns-clause-there
returns-clause-there c = there _ c.args.self.now.blocks.items c.put.new.self.blocks.items c.args.b c.put.result c.put.ensures
