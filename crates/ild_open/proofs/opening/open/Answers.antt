use Rattle.std.proofs.Common.{◌≡◌, ℕ, List, None, sym, subst}
use Rattle.std.specs.Prelude.{Ok, Err}
use Rattle.ild_cbor.specs.Reading.{fault_of}
use Rattle.ild_data.specs.Bytes.{AreBytes}
use Rattle.ild_view_doc.specs.Block.{HasRoot}
use Rattle.ild_view_doc.specs.Docs.{block_in}
use Rattle.ild_open.specs.inside.Found.{HasKept, ReadsRoot}
use Rattle.ild_open.proofs.Settling.{open_breaks, open_goes, open_stops, root_faultless}
use Rattle.ild_open.proofs.opening.open.Goals as goal

pub returns-in-Err : goal.returns-in-Err
returns-in-Err g c =
    let h = g.H.KeyHash.hash_of in
    let rows = c.args.acc.now in
    let m = g.K.Store.moment c.args.store.now in
    open_stops rows (record { table = c.recall.ensures.table; accepted = c.recall.ensures.accepted }) h c.args.ty c.args.id.now.0 c.recall.ensures.legible
    (HasKept h rows c.args.ty c.args.id.now.0 (g.K.Store.moment c.find.new.store) c.args.keep) m (g.K.Store.moment c.find.new.store) c.in-Err.fault c.in-Err.ensures

pub read_root-requires-clause-faultless : goal.read_root-requires-clause-faultless
read_root-requires-clause-faultless g c =
    subst (λ (b : List ℕ). fault_of b ≡ None) (sym c.block-block.ensures) (root_faultless c.args.acc.now c.args.ty (block_in c.in-Ok.doc) c.in-Ok.ensures.answer.root)

pub read_root-requires-clause-root : goal.read_root-requires-clause-root
read_root-requires-clause-root g c =
    ∣ subst (λ (b : List ℕ). HasRoot c.args.acc.now c.args.ty b) (sym c.block-block.ensures) c.in-Ok.ensures.answer.root ∣₁

pub returns-in-Ok-read_root : goal.returns-in-Ok-read_root
returns-in-Ok-read_root g c =
    let h = g.H.KeyHash.hash_of in
    let rows = c.args.acc.now in
    let m = g.K.Store.moment c.args.store.now in
    let k = g.K.Store.moment c.find.new.store in
    let n = g.K.Store.moment c.read_root.new.store in
    open_goes rows (record { table = c.recall.ensures.table; accepted = c.recall.ensures.accepted }) h c.args.ty c.args.id.now.0 m k n c.in-Ok.doc c.in-Ok.ensures c.args.keep
    (subst AreBytes c.block-block.ensures c.are_bytes.ensures) c.in-Ok-read_root.val
    (subst (λ (b : List ℕ). ReadsRoot h rows c.args.ty c.args.id.now.0 b c.args.keep k (Ok c.in-Ok-read_root.val) n) c.block-block.ensures c.in-Ok-read_root.ensures)

pub returns : goal.returns
returns g c =
    let h = g.H.KeyHash.hash_of in
    let rows = c.args.acc.now in
    let m = g.K.Store.moment c.args.store.now in
    let k = g.K.Store.moment c.find.new.store in
    let n = g.K.Store.moment c.read_root.new.store in
    open_breaks rows (record { table = c.recall.ensures.table; accepted = c.recall.ensures.accepted }) h c.args.ty c.args.id.now.0 m k n c.in-Ok.doc c.in-Ok.ensures c.args.keep
    (HasKept h rows c.args.ty c.args.id.now.0 n c.args.keep) c.in-Err-read_root.fault
    (subst (λ (b : List ℕ). ReadsRoot h rows c.args.ty c.args.id.now.0 b c.args.keep k (Err c.in-Err-read_root.fault) n) c.block-block.ensures c.in-Err-read_root.ensures)
