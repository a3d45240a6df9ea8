use Rattle.std.specs.Prelude.{Ok, Err}
use Rattle.ild_open_parts.specs.declared.fault.OpenFault.TheVariants as F
use Rattle.ild_open.proofs.Carrying.{flat_shown, never_refused}
use Rattle.ild_open.proofs.loading.load_flat.Goals as goal

pub returns-in-Ok : goal.returns-in-Ok
returns-in-Ok g c =
    flat_shown g.H.KeyHash.hash_of c.args.acc.now c.args.room c.args.slot c.args.piece.now _ (g.K.Store.moment c.args.store.now) (g.K.Store.moment c.load_in.new.store) c.requires.tree c.requires.flat (Ok c.in-Ok.val) c.in-Ok.ensures

pub unreachable-requires : goal.unreachable-requires
unreachable-requires g c =
    never_refused g.H.KeyHash.hash_of c.args.acc.now c.args.room c.args.slot c.args.piece.now _ (g.K.Store.moment c.args.store.now) (g.K.Store.moment c.load_in.new.store) c.requires.tree c.requires.flat _ _
    (rw c.in-Err-Block.field-0-is at c.in-Err-Block.ensures)

pub returns-in-Err-Store : goal.returns-in-Err-Store
returns-in-Err-Store g c =
    flat_shown g.H.KeyHash.hash_of c.args.acc.now c.args.room c.args.slot c.args.piece.now _ (g.K.Store.moment c.args.store.now) (g.K.Store.moment c.load_in.new.store) c.requires.tree c.requires.flat (Err F.Store)
    (rw c.in-Err-Store.field-0-is at c.in-Err-Store.ensures)

pub returns-in-Err-Memory : goal.returns-in-Err-Memory
returns-in-Err-Memory g c =
    flat_shown g.H.KeyHash.hash_of c.args.acc.now c.args.room c.args.slot c.args.piece.now _ (g.K.Store.moment c.args.store.now) (g.K.Store.moment c.load_in.new.store) c.requires.tree c.requires.flat (Err F.Memory)
    (rw c.in-Err-Memory.field-0-is at c.in-Err-Memory.ensures)
