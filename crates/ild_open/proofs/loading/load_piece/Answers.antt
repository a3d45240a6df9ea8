use Rattle.std.proofs.Common.{sym, List, ℕ, subst, true}
use Rattle.ild_cbor.specs.declared.piece.Piece.TheVariants as P
use Rattle.ild_data.specs.Spell.{id_of}
use Rattle.ild_open_read.specs.Parts.{ReadsSlot}
use Rattle.ild_open.specs.inside.Item.{LoadsPiece}
use Rattle.ild_open.specs.Blocks.{bytes_in}
use Rattle.ild_open.proofs.Carrying.{flat_loads, loads_piece}
use Rattle.ild_open.proofs.loading.load_piece.Goals as goal

pub returns-in-Node : goal.returns-in-Node
returns-in-Node g c =
    let m = g.K.Store.moment c.args.store.now in
    let n = g.K.Store.moment c.load_node.new.store in
    subst (λ p. LoadsPiece g.H.KeyHash.hash_of c.args.acc.now c.args.room c.args.slot (id_of (bytes_in c.args.at)) p m c.load_node.result n) (sym c.in-Node.is) c.load_node.ensures

pub returns-in-Inline : goal.returns-in-Inline
returns-in-Inline g c =
    let h = g.H.KeyHash.hash_of in
    let rows = c.args.acc.now in
    let m = g.K.Store.moment c.args.store.now in
    let n = g.K.Store.moment c.load_in.new.store in
    let at = id_of (bytes_in c.args.at) in
    subst (λ p. LoadsPiece h rows c.args.room c.args.slot at p m c.load_in.result n) (sym c.in-Inline.is)
    (loads_piece h rows c.args.room c.args.slot at (P.Inline c.in-Inline.field-0 c.in-Inline.field-1) m n c.load_in.result (rw c.in-Inline.is at c.requires.tree)
    (subst (λ (a : List ℕ). ReadsSlot h a rows c.args.room true c.args.slot (P.Inline c.in-Inline.field-0 c.in-Inline.field-1) m c.load_in.result n) c.id.ensures (rw c.in-Inline.is at c.load_in.ensures)))

pub returns-in-Text : goal.returns-in-Text
returns-in-Text g c =
    let m = g.K.Store.moment c.args.store.now in
    let n = g.K.Store.moment c.load_flat.new.store in
    let at = id_of (bytes_in c.args.at) in
    subst (λ p. LoadsPiece g.H.KeyHash.hash_of c.args.acc.now c.args.room c.args.slot at p m c.load_flat.result n) (sym c.in-Text.is)
    (flat_loads g.H.KeyHash.hash_of c.args.acc.now c.args.room c.args.slot at (P.Text c.in-Text.field-0) m n c.load_flat.result (rw c.in-Text.is at c.load_flat.ensures))

pub returns-in-Bytes : goal.returns-in-Bytes
returns-in-Bytes g c =
    let m = g.K.Store.moment c.args.store.now in
    let n = g.K.Store.moment c.load_flat-in-Bytes.new.store in
    let at = id_of (bytes_in c.args.at) in
    subst (λ p. LoadsPiece g.H.KeyHash.hash_of c.args.acc.now c.args.room c.args.slot at p m c.load_flat-in-Bytes.result n) (sym c.in-Bytes.is)
    (flat_loads g.H.KeyHash.hash_of c.args.acc.now c.args.room c.args.slot at (P.Bytes c.in-Bytes.field-0) m n c.load_flat-in-Bytes.result (rw c.in-Bytes.is at c.load_flat-in-Bytes.ensures))
