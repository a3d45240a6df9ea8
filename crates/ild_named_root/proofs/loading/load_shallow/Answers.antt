use Rattle.std.proofs.Math.Logic.{∥∥₁_map}
use Rattle.ild_named_root.proofs.Reading.{shallow_failed, shallow_found, shallow_stopped, shallow_wanting}
use Rattle.ild_named_root.proofs.loading.load_shallow.Goals as goal

pub read_in-requires-clause-front : goal.read_in-requires-clause-front
read_in-requires-clause-front g c = ∥∥₁_map c.requires.root (λ x. record { tree = x.root.tree; block = x.root.block; front = c.requires.front x.root.tree x.root.block })

pub deeper-requires-clause-front : goal.deeper-requires-clause-front
deeper-requires-clause-front g c = ∥∥₁_map c.requires.root (λ x. record { tree = x.root.tree; block = x.root.block; front = (x.value, x.root.front.fits, x.root.front.tree) })

pub returns-in-Ok : goal.returns-in-Ok
returns-in-Ok g c =
    shallow_found c.args.acc.now (record { table = c.recall.ensures.table; accepted = c.recall.ensures.accepted }) g.H.KeyHash.hash_of c.args.ty c.args.block.now (g.K.Store.moment c.args.store.now)
    (g.K.Store.moment c.read_in.new.store) (∥∥₁_map c.requires.root (λ x. record { tree = x.root.tree; block = x.root.block; front = c.requires.front x.root.tree x.root.block })) c.requires.front c.in-Ok.ensures

pub returns-in-Err-Block : goal.returns-in-Err-Block
returns-in-Err-Block g c =
    shallow_stopped c.args.acc.now (record { table = c.recall.ensures.table; accepted = c.recall.ensures.accepted }) g.H.KeyHash.hash_of c.args.ty c.args.block.now (g.K.Store.moment c.args.store.now)
    (g.K.Store.moment c.read_in.new.store) (∥∥₁_map c.requires.root (λ x. record { tree = x.root.tree; block = x.root.block; front = c.requires.front x.root.tree x.root.block })) c.requires.front _ _
    (rw c.in-Err-Block.field-0-is at c.in-Err-Block.ensures) (g.K.Store.moment c.deeper.new.store) c.deeper.result c.deeper.ensures

pub returns-in-Err-Store : goal.returns-in-Err-Store
returns-in-Err-Store g c =
    shallow_failed c.args.acc.now (record { table = c.recall.ensures.table; accepted = c.recall.ensures.accepted }) g.H.KeyHash.hash_of c.args.ty c.args.block.now (g.K.Store.moment c.args.store.now)
    (g.K.Store.moment c.read_in.new.store) (∥∥₁_map c.requires.root (λ x. record { tree = x.root.tree; block = x.root.block; front = c.requires.front x.root.tree x.root.block })) c.requires.front
    (rw c.in-Err-Store.field-0-is at c.in-Err-Store.ensures)

pub returns-in-Err-Memory : goal.returns-in-Err-Memory
returns-in-Err-Memory g c =
    shallow_wanting c.args.acc.now (record { table = c.recall.ensures.table; accepted = c.recall.ensures.accepted }) g.H.KeyHash.hash_of c.args.ty c.args.block.now (g.K.Store.moment c.args.store.now)
    (g.K.Store.moment c.read_in.new.store) (∥∥₁_map c.requires.root (λ x. record { tree = x.root.tree; block = x.root.block; front = c.requires.front x.root.tree x.root.block })) c.requires.front
    (rw c.in-Err-Memory.field-0-is at c.in-Err-Memory.ensures)
