use Rattle.std.proofs.Common.{List, ℕ, subst, true}
use Rattle.ild_cbor.specs.declared.piece.Piece.TheVariants as P
use Rattle.ild_data.specs.Spell.{id_of}
use Rattle.ild_open_read.specs.Parts.{ReadsSlot}
use Rattle.ild_open.specs.Blocks.{bytes_in}
use Rattle.ild_open.proofs.Carrying.{flat_loads, loads_piece}
use Rattle.ild_open.proofs.loading.load_node.Goals as goal

pub returns-then-is_nest : goal.returns-then-is_nest
returns-then-is_nest g c =
    let h = g.H.KeyHash.hash_of in
    let rows = c.args.acc.now in
    let m = g.K.Store.moment c.args.store.now in
    let n = g.K.Store.moment c.load_in.new.store in
    loads_piece h rows c.args.room c.args.slot (id_of (bytes_in c.args.at)) (P.Node c.args.node.now) m n c.load_in.result c.requires.tree
    (subst (λ (a : List ℕ). ReadsSlot h a rows c.args.room true c.args.slot (P.Node c.args.node.now) m c.load_in.result n) c.id.ensures c.load_in.ensures)

pub load_flat-requires-clause-flat : goal.load_flat-requires-clause-flat
load_flat-requires-clause-flat g c = c.is_nest.ensures c.if-is_nest.false

pub returns : goal.returns
returns g c =
    flat_loads g.H.KeyHash.hash_of c.args.acc.now c.args.room c.args.slot (id_of (bytes_in c.args.at)) (P.Node c.args.node.now) (g.K.Store.moment c.args.store.now) (g.K.Store.moment c.load_flat.new.store) c.load_flat.result c.load_flat.ensures
