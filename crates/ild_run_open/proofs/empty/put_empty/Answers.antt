use Rattle.std.proofs.Common.{Ok, Err, sym, ap, ◌∙◌}
use Rattle.std.specs.Prelude.{option_and_then}
use Rattle.ild_schema.specs.ValueSeen.{value_of}
use Rattle.ild_run_open.specs.Empty.{empty_in, IsEmpty}
use Rattle.ild_run_open.proofs.Putting.{not_put, puts}
use Rattle.ild_run_open.proofs.empty.put_empty.Goals as goal

pub returns-in-Err : goal.returns-in-Err
returns-in-Err g c =
    let empty : IsEmpty c.args.acc.now c.args.ty (value_of c.in-Some.empty) = ap (λ o. option_and_then empty_in o) c.form.ensures ∙ sym c.in-Some.ensures in
    not_put g.H.KeyHash.hash_of c.args.acc.now c.args.ty (value_of c.in-Some.empty) empty (g.K.Store.moment c.args.store.now) (g.K.Store.moment c.block_of.new.store) c.in-Err.fault c.in-Err.ensures

pub returns-in-Ok-publish : goal.returns-in-Ok-publish
returns-in-Ok-publish g c =
    let empty : IsEmpty c.args.acc.now c.args.ty (value_of c.in-Some.empty) = ap (λ o. option_and_then empty_in o) c.form.ensures ∙ sym c.in-Some.ensures in
    let put = rw c.as_slice.ensures.same at c.in-Ok-publish.ensures in
    puts g.H.KeyHash.hash_of c.args.acc.now c.args.ty (value_of c.in-Some.empty) empty (g.K.Store.moment c.args.store.now) (g.K.Store.moment c.block_of.new.store) (g.K.Store.moment c.publish.new.store)
    c.in-Ok.block c.in-Ok.ensures (Ok c.in-Ok-publish.field-0) put

pub returns : goal.returns
returns g c =
    let empty : IsEmpty c.args.acc.now c.args.ty (value_of c.in-Some.empty) = ap (λ o. option_and_then empty_in o) c.form.ensures ∙ sym c.in-Some.ensures in
    let put = rw c.as_slice.ensures.same at c.in-Err-publish.ensures in
    rw c.put_fault.ensures (puts g.H.KeyHash.hash_of c.args.acc.now c.args.ty (value_of c.in-Some.empty) empty (g.K.Store.moment c.args.store.now) (g.K.Store.moment c.block_of.new.store) (g.K.Store.moment c.publish.new.store)
    c.in-Ok.block c.in-Ok.ensures (Err c.in-Err-publish.fault) put)
