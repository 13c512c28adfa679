-- What one insertion does to the nodes and the ends.
use Rattle.std.specs.Prelude.{◌≡◌, ℕ, Some}
use Rattle.om_arena.specs.Keyed.{Keyed, Updates}
use Rattle.om_arena.specs.Linked.{slots_after, slots_before, ends_after, ends_before}
use Rattle.om_arena.specs.declared.links.Node.{Node}
use Rattle.om_arena.specs.declared.links.Link.{Link}
use Rattle.om_arena.specs.declared.links.Links.{Links}

module _ {T : Type 0} where
  -- a node under a new id, and the links of its neighbours set to it
  pub record IsInserted (old new : Links T) (link : Link) (value : T) (id : ℕ) : Type 0 where
    pub placed : Keyed (Node T)
    pub updates : Updates old.nodes placed id (Some (record { value = value; link = link }))
    pub slots : new.nodes.slots ≡ slots_before (slots_after placed.slots link.before (Some id)) link.after (Some id)
    pub ends : new.ends.items ≡ ends_before (ends_after old.ends.items link.list link.before (Some id)) link.list link.after (Some id)
