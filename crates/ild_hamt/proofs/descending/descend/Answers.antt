use Rattle.std.proofs.Common.{◌∙◌, subst}
use Rattle.ild_data.specs.declared.hamt_shape.HamtShape.{HamtShape}
use Rattle.ild_node_slots.specs.Views.{HasSlots}
use Rattle.ild_hamt.specs.Descending.{Descends}
use Rattle.ild_hamt.proofs.descending.descend.Goals as goal

pub returns : goal.returns
returns g c = λ p slots has.
    subst (λ (q : HamtShape). HasSlots q c.args.root slots → Descends g.H.KeyHash.hash_of q c.args.key.now slots (g.K.Store.moment c.args.store.now) c.descend_in.result (g.K.Store.moment c.descend_in.new.store)) (c.shape.ensures ∙ has.shape)
    (c.descend_in.ensures slots) has
