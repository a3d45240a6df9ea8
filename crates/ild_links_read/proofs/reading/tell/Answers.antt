use Rattle.std.proofs.Common.{List, subst}
use Rattle.ild_data.specs.Spell.{id_of}
use Rattle.ild_links_read.proofs.Viewing.{tells}
use Rattle.ild_open.proofs.Shallow.{root_is_shallow}
use Rattle.ild_schema.specs.declared.row.Row.{Row}
use Rattle.ild_typed.specs.Schema.{IsSchema}
use Rattle.ild_links_read.proofs.reading.tell.Goals as goal

pub returns : goal.returns
returns g c =
    let schema = subst (λ (rows : List Row). IsSchema rows) c.schema.ensures (record { table = c.recall.ensures.table; accepted = c.recall.ensures.accepted }) in
    tells c.values_are_trees.ensures c.standing_are_held.ensures c.held_are_standing.ensures id_of c.args.doc.now c.view-view.result schema c.view-view.ensures.table c.view-view.ensures.slot c.view-view.ensures.whole
    c.args.path.now c.args.what (g.K.Store.moment c.args.store.now) (g.K.Store.moment c.read.new.store) c.read.result c.read.ensures.replies c.read.ensures.own

pub read-requires : goal.read-requires
read-requires g c = record { shallow = root_is_shallow c.args.doc.now c.view-view.result c.args.doc.now.stands c.view-view.ensures.table c.view-view.ensures.slot c.view-view.ensures.front }
