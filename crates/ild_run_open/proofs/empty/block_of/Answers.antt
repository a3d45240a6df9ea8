use Rattle.ild_schema.specs.ValueSeen.{value_of}
use Rattle.ild_run_open.proofs.Empties.{fits, typed}
use Rattle.ild_run_open.proofs.Putting.{builds, stops}
use Rattle.ild_run_open.proofs.Short.{of_empty}
use Rattle.ild_run_open.proofs.empty.block_of.Goals as goal

pub build-requires-clause-typed : goal.build-requires-clause-typed
build-requires-clause-typed g c = typed c.args.acc.now c.args.ty (value_of c.args.empty.now) c.requires.empty

pub build-requires-clause-fits : goal.build-requires-clause-fits
build-requires-clause-fits g c = fits c.args.acc.now c.args.ty (value_of c.args.empty.now) c.requires.empty

pub built_fault-requires : goal.built_fault-requires
built_fault-requires g c =
    of_empty g.H.KeyHash.hash_of c.args.acc.now c.args.ty (value_of c.args.empty.now) (g.K.Store.moment c.args.store.now) (g.K.Store.moment c.build.new.store) c.in-Err.fault c.requires.empty c.in-Err.ensures.answer

pub returns-in-Ok : goal.returns-in-Ok
returns-in-Ok g c =
    builds g.H.KeyHash.hash_of c.args.acc.now c.args.ty (value_of c.args.empty.now) c.requires.empty (g.K.Store.moment c.args.store.now) (g.K.Store.moment c.build.new.store) c.in-Ok.block c.in-Ok.ensures

pub returns-in-Err : goal.returns-in-Err
returns-in-Err g c =
    stops g.H.KeyHash.hash_of c.args.acc.now c.args.ty (value_of c.args.empty.now) c.requires.empty (g.K.Store.moment c.args.store.now) (g.K.Store.moment c.build.new.store) c.in-Err.fault c.built_fault.result c.built_fault.ensures c.in-Err.ensures
