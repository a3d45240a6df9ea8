use Rattle.ild_path_hops.proofs.Linking.{linked_none}
use Rattle.std.proofs.Common.{List, ap, subst, ◌∙◌}
use Rattle.std.specs.Prelude.{IfOk}
use Rattle.ild_data.specs.Spell.{id_of}
use Rattle.ild_path_found.specs.Sites.{RefusesBroken}
use Rattle.ild_path_hops.specs.declared.hop.Hop.{Hop}
use Rattle.ild_path_inward.proofs.Refusing.{none_left}
use Rattle.ild_path_inward.specs.Refuses.{GoesDeeper, block_behind}
use Rattle.ild_view.specs.View.{slot_of}
use Rattle.ild_path_inward.proofs.inward.go_inward.Goals as goal

pub returns-clause-leads : goal.returns-clause-leads
returns-clause-leads g c = c.go_from.ensures.leads (linked_none c.args.root.now c.new.result.items c.new.ensures.items)

pub returns-clause-refused : goal.returns-clause-refused
returns-clause-refused g c = λ f t is front low.
    let h = g.H.KeyHash.hash_of in
    let rows = c.args.acc.now in
    let here = c.go_from.ensures.refused (slot_of c.args.root.now) t f (none_left c.args.root.now rows c.new.result.items c.args.room t f c.new.ensures.items is front low) in
    subst (λ b. RefusesBroken h rows (id_of b) c.args.room (slot_of c.args.root.now) t (g.K.Store.moment c.args.store.now) c.go_from.result (g.K.Store.moment c.go_from.new.store))
    (ap (block_behind c.block_of.result.now) c.new.ensures.items ∙ c.block_of.ensures) here

pub returns-clause-deeper : goal.returns-clause-deeper
returns-clause-deeper g c = λ f t is front low.
    let h = g.H.KeyHash.hash_of in
    let rows = c.args.acc.now in
    let told = (g.K.Store.moment c.args.store.now).blocks in
    let s = slot_of c.args.root.now in
    let here = c.go_from.ensures.deeper s t f (none_left c.args.root.now rows c.new.result.items c.args.room t f c.new.ensures.items is front low) in
    let own = subst (λ (gs : List Hop). IfOk c.go_from.result (GoesDeeper h rows told c.args.root.now c.block_of.result.now (id_of (block_behind c.block_of.result.now gs)) c.args.room s t)) c.new.ensures.items here in
    subst (λ b. IfOk c.go_from.result (GoesDeeper h rows told c.args.root.now b (id_of b) c.args.room s t)) c.block_of.ensures own
