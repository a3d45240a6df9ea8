use Rattle.std.proofs.Common.{subst}
use Rattle.std.proofs.Math.Logic.{∥∥₁_map}
use Rattle.std.proofs.lemmas.Result.{err_from_is_err_and}
use Rattle.ild_data.specs.Spell.{id_of}
use Rattle.ild_inclusion.specs.declared.proof.Proof.{Proof}
use Rattle.ild_typed.specs.Schema.{IsSchema}
use Rattle.ild_view_doc.specs.Docs.{block_in, table_in, type_in}
use Rattle.ild_inclusion_prove.proofs.Tops.{fails_alone, held_none, held_proof, held_wanting, proves, refuses}
use Rattle.ild_inclusion_prove.proofs.proving.prove.Goals as goal

pub returns-in_err-proof-clause-stands : goal.returns-in_err-proof-clause-stands
returns-in_err-proof-clause-stands g c = λ was v told own st.
    let p = err_from_is_err_and c.from_residual.result c.from_residual.ensures.1 in
    rw (p.1, p.2) (held_wanting g.H.KeyHash.hash_of (table_in c.args.doc.now) (type_in c.args.doc.now) (id_of (block_in c.args.doc.now)) v c.args.path.now (g.K.Store.moment c.args.store.now))

pub returns-in-Ok-clause-proves : goal.returns-in-Ok-clause-proves
returns-in-Ok-clause-proves g c = ∥∥₁_map c.args.doc.now.stands (λ r.
    let adds = rw c.as_slice.ensures at (c.in-Ok.ensures.adds r.value (c.view.ensures.front r.value r.root)) in
    proves g.H.KeyHash.hash_of (table_in c.args.doc.now) (type_in c.args.doc.now) (block_in c.args.doc.now) c.view.result c.view.ensures.table c.view.ensures.slot r.value r.root c.args.path.now (g.K.Store.moment c.args.store.now)
    (g.K.Store.moment c.follow.new.store) _ _ c.in_ok-proof.ensures adds)

pub returns-in-Ok-clause-stands : goal.returns-in-Ok-clause-stands
returns-in-Ok-clause-stands g c = λ was v told own st.
    let rows = table_in c.args.doc.now in
    let schema = subst IsSchema c.schema.ensures (record { table = c.recall.ensures.table; accepted = c.recall.ensures.accepted }) in
    held_proof g.H.KeyHash.hash_of rows schema was (type_in c.args.doc.now) (block_in c.args.doc.now) v st own (g.K.Store.moment c.args.store.now) told c.view.result c.view.ensures.table c.view.ensures.slot c.view.ensures.front c.view.ensures.whole
    c.proofs_hold.ensures c.args.path.now (g.K.Store.moment c.follow.new.store) c.in-Ok.field-0 (rw c.as_slice.ensures at c.in-Ok.ensures.tells) _ _ c.in_ok-proof.ensures (λ f is. rw c.as_slice.ensures at (c.in-Ok.ensures.adds f is))

pub returns-in-Err-clause-stands : goal.returns-in-Err-clause-stands
returns-in-Err-clause-stands g c = λ was v told own st.
    let rows = table_in c.args.doc.now in
    let schema = subst IsSchema c.schema.ensures (record { table = c.recall.ensures.table; accepted = c.recall.ensures.accepted }) in
    held_none g.H.KeyHash.hash_of rows schema was (type_in c.args.doc.now) (block_in c.args.doc.now) v st own (g.K.Store.moment c.args.store.now) told c.view.result c.view.ensures.table c.view.ensures.slot c.view.ensures.front c.view.ensures.whole
    c.args.path.now (g.K.Store.moment c.follow.new.store) c.in-Err.fault c.in-Err.ensures.alone (rw c.as_slice.ensures at c.in-Err.ensures.tells)

pub returns-in-Err-clause-failed : goal.returns-in-Err-clause-failed
returns-in-Err-clause-failed g c = fails_alone Proof (g.K.Store.moment c.args.store.now) (g.K.Store.moment c.follow.new.store) c.in-Err.fault c.in-Err.ensures.alone c.in-Err.ensures.tells.failed

pub returns-in-Err-clause-refused : goal.returns-in-Err-clause-refused
returns-in-Err-clause-refused g c = λ f root.
    refuses Proof g.H.KeyHash.hash_of (table_in c.args.doc.now) (type_in c.args.doc.now) (block_in c.args.doc.now) c.block.result.now c.view.result c.view.ensures.table c.view.ensures.slot c.block.ensures f root (c.view.ensures.front f root)
    (g.K.Store.moment c.args.store.now) (g.K.Store.moment c.follow.new.store) c.in-Err.fault c.in-Err.ensures.refused
