use Rattle.std.proofs.Common.{◌≡◌, Ok, Err, sym, subst}
use Rattle.ild_typed.specs.Schema.{IsSchema}
use Rattle.ild_data.specs.Bytes.{AreBytes}
use Rattle.ild_open_parts.proofs.Turning.{only_refl}
use Rattle.ild_view_doc.specs.Docs.{block_in}
use Rattle.ild_compare.specs.Compared.{Compares}
use Rattle.ild_compare.specs.declared.compared.Compared.{Compared}
use Rattle.ild_compare.specs.declared.compared.Compared.TheVariants as C
use Rattle.ild_compare.proofs.Settling.{compares_blocks, compares_walk}
use Rattle.ild_compare.proofs.compare.compare_trees.Goals as goal

pub returns-in-Ok : goal.returns-in-Ok
returns-in-Ok g c =
    let schema = subst IsSchema c.schema.ensures (record { table = c.recall.ensures.table; accepted = c.recall.ensures.accepted }) in
    let block = c.blocks_differ.ensures.same c.if-blocks_differ.false in
    rw c.compared.ensures (compares_walk g.H.KeyHash.hash_of c.args.left.now c.args.right.now schema c.requires.one_table c.requires.one_type (g.K.Store.moment c.args.left_store.now) (g.L.Store.moment c.args.right_store.now) (sym block)
    (Ok c.in-Ok.parted) (g.K.Store.moment c.walk.new.left) (g.L.Store.moment c.walk.new.right) (rw (c.schema-2.ensures, c.ty.ensures, c.block-2.ensures) at c.in-Ok.ensures))

pub returns-in-Err : goal.returns-in-Err
returns-in-Err g c =
    let schema = subst IsSchema c.schema.ensures (record { table = c.recall.ensures.table; accepted = c.recall.ensures.accepted }) in
    let block = c.blocks_differ.ensures.same c.if-blocks_differ.false in
    compares_walk g.H.KeyHash.hash_of c.args.left.now c.args.right.now schema c.requires.one_table c.requires.one_type (g.K.Store.moment c.args.left_store.now) (g.L.Store.moment c.args.right_store.now) (sym block)
    (Err c.in-Err.fault) (g.K.Store.moment c.walk.new.left) (g.L.Store.moment c.walk.new.right) (rw (c.schema-2.ensures, c.ty.ensures, c.block-2.ensures) at c.in-Err.ensures)

pub returns-then-blocks_differ : goal.returns-then-blocks_differ
returns-then-blocks_differ g c =
    let h = g.H.KeyHash.hash_of in
    let left = c.args.left.now in
    let right = c.args.right.now in
    let m = g.K.Store.moment c.args.left_store.now in
    let n = g.L.Store.moment c.args.right_store.now in
    let schema = subst IsSchema c.schema.ensures (record { table = c.recall.ensures.table; accepted = c.recall.ensures.accepted }) in
    let x : (c.in_ok-collision.field-0 ≡ C.Collide (block_in left) (block_in right)) × AreBytes (block_in left) × AreBytes (block_in right) = rw (c.block.ensures, c.block-then-blocks_differ.ensures) at c.in_ok-collision.ensures in
    subst (λ (d : Compared). Compares h left right m n (Ok d) m n) (sym x.0)
    (compares_blocks h left right schema c.requires.one_table c.requires.one_type m n (only_refl m) (only_refl n) (c.roots_differ.ensures.same c.if-roots_differ.false) (c.blocks_differ.ensures.other c.if-blocks_differ.true) x.1 x.2)
