use Rattle.std.proofs.Common.{sym, subst}
use Rattle.std.specs.Prelude.{Err}
use Rattle.ild_run_named.specs.Shows.{Shows}
use Rattle.ild_run_show.specs.declared.fault.ShowFault.{ShowFault}
use Rattle.ild_run_named.proofs.Stepping.{not_described, not_typed, shows}
use Rattle.ild_run_named.proofs.showing.show_named.Goals as goal

pub returns-in-Err : goal.returns-in-Err
returns-in-Err g c =
    let h = g.H.KeyHash.hash_of in
    let m = g.K.Store.moment c.args.store.now in
    let k = g.K.Store.moment c.describe.new.store in
    subst (λ (e : ShowFault). Shows h c.args.id.now.0 m (Err e) k) (sym c.open_fault.ensures) (not_described h c.args.id.now.0 m k c.in-Err.fault c.in-Err.ensures)

pub returns-in-Err-type_of : goal.returns-in-Err-type_of
returns-in-Err-type_of g c =
    let h = g.H.KeyHash.hash_of in
    let m = g.K.Store.moment c.args.store.now in
    let k = g.K.Store.moment c.describe.new.store in
    subst (λ (e : ShowFault). Shows h c.args.id.now.0 m (Err e) k) (sym c.open_fault-in-Err-type_of.ensures)
    (not_typed h c.args.id.now.0 m k c.in-Ok.described c.in-Ok.ensures c.in-Err-type_of.fault c.in-Err-type_of.ensures.types)

pub returns : goal.returns
returns g c =
    shows g.H.KeyHash.hash_of c.args.id.now.0 (g.K.Store.moment c.args.store.now) (g.K.Store.moment c.describe.new.store) c.in-Ok.described c.in-Ok.ensures c.in-Ok-type_of.typed.0 c.in-Ok-type_of.typed.1
    c.in-Ok-type_of.ensures.types (g.K.Store.moment c.show_value.new.store) c.show_value.result c.show_value.ensures
