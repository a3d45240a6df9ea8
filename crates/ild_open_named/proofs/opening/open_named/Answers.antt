use Rattle.std.proofs.Common.{List, ℕ, subst}
use Rattle.std.specs.Prelude.{Ok, Err}
use Rattle.ild_data.specs.Bytes.{AreBytes}
use Rattle.ild_schema.specs.declared.number.TypeNo.{TypeNo}
use Rattle.ild_schema.specs.declared.row.Row.{Row}
use Rattle.ild_view_named.specs.NamedDocs.{block_in, table_in}
use Rattle.ild_open_named.specs.Opened.{HasNamedValue}
use Rattle.ild_open_named.specs.inside.Found.{FindsText, ReadsNamed}
use Rattle.ild_open_named.proofs.Settling.{open_breaks, open_goes, open_unrooted, open_unschemed}
use Rattle.ild_open_named.proofs.opening.open_named.Goals as goal

pub returns-in-Err : goal.returns-in-Err
returns-in-Err g c =
    let h = g.H.KeyHash.hash_of in
    let rows = c.args.acc.now in
    let n = g.K.Store.moment c.find_root.new.store in
    open_unrooted rows (record { table = c.recall.ensures.table; accepted = c.recall.ensures.accepted }) c.recall.ensures.legible h c.args.ty c.args.id.now.0 (g.K.Store.moment c.args.store.now)
    (HasNamedValue h rows c.args.ty c.args.id.now.0 n) n c.in-Err.fault c.in-Err.ensures

pub returns-in-Err-find_text : goal.returns-in-Err-find_text
returns-in-Err-find_text g c =
    let h = g.H.KeyHash.hash_of in
    let rows = c.args.acc.now in
    let k = g.K.Store.moment c.find_root.new.store in
    let n = g.K.Store.moment c.find_text.new.store in
    let root = c.in-Ok.ensures.answer.root in
    let link = (c.parts.ensures root.name root.schema root.tree root.root).schema_is in
    open_unschemed rows (record { table = c.recall.ensures.table; accepted = c.recall.ensures.accepted }) c.recall.ensures.legible h c.args.ty c.args.id.now.0 (g.K.Store.moment c.args.store.now) c.in-Ok.doc k c.in-Ok.ensures
    (HasNamedValue h rows c.args.ty c.args.id.now.0 n) n c.in-Err-find_text.fault (subst (λ (i : List ℕ). FindsText i k (Err c.in-Err-find_text.fault) n) link c.in-Err-find_text.ensures)

pub returns-in-Ok-read_value : goal.returns-in-Ok-read_value
returns-in-Ok-read_value g c =
    let h = g.H.KeyHash.hash_of in
    let rows = c.args.acc.now in
    let k = g.K.Store.moment c.find_root.new.store in
    let j = g.K.Store.moment c.find_text.new.store in
    let n = g.K.Store.moment c.read_value.new.store in
    let d = c.in-Ok.doc in
    let x = c.in-Ok.ensures in
    let root = x.answer.root in
    let link = (c.parts.ensures root.name root.schema root.tree root.root).schema_is in
    let reads : ReadsNamed h rows c.args.ty c.args.id.now.0 (block_in d) j (Ok c.in-Ok-read_value.val) n
    = subst (λ (r : List Row). ReadsNamed h r c.args.ty c.args.id.now.0 (block_in d) j (Ok c.in-Ok-read_value.val) n) x.answer.table
    (subst (λ (ty : TypeNo). ReadsNamed h (table_in d) ty c.args.id.now.0 (block_in d) j (Ok c.in-Ok-read_value.val) n) x.answer.type c.in-Ok-read_value.ensures) in
    open_goes rows (record { table = c.recall.ensures.table; accepted = c.recall.ensures.accepted }) c.recall.ensures.legible h c.args.ty c.args.id.now.0 (g.K.Store.moment c.args.store.now) d k x j c.in-Ok-find_text.text
    (subst (λ (i : List ℕ). FindsText i k (Ok c.in-Ok-find_text.text) j) link c.in-Ok-find_text.ensures) n (subst AreBytes c.block.ensures c.are_bytes.ensures) c.as_slice.ensures.bytes c.in-Ok-read_value.val reads

pub returns : goal.returns
returns g c =
    let h = g.H.KeyHash.hash_of in
    let rows = c.args.acc.now in
    let k = g.K.Store.moment c.find_root.new.store in
    let j = g.K.Store.moment c.find_text.new.store in
    let n = g.K.Store.moment c.read_value.new.store in
    let d = c.in-Ok.doc in
    let x = c.in-Ok.ensures in
    let root = x.answer.root in
    let link = (c.parts.ensures root.name root.schema root.tree root.root).schema_is in
    let fault = c.in-Err-read_value.fault in
    let reads : ReadsNamed h rows c.args.ty c.args.id.now.0 (block_in d) j (Err fault) n
    = subst (λ (r : List Row). ReadsNamed h r c.args.ty c.args.id.now.0 (block_in d) j (Err fault) n) x.answer.table
    (subst (λ (ty : TypeNo). ReadsNamed h (table_in d) ty c.args.id.now.0 (block_in d) j (Err fault) n) x.answer.type c.in-Err-read_value.ensures) in
    open_breaks rows (record { table = c.recall.ensures.table; accepted = c.recall.ensures.accepted }) c.recall.ensures.legible h c.args.ty c.args.id.now.0 (g.K.Store.moment c.args.store.now) d k x j c.in-Ok-find_text.text
    (subst (λ (i : List ℕ). FindsText i k (Ok c.in-Ok-find_text.text) j) link c.in-Ok-find_text.ensures) n (HasNamedValue h rows c.args.ty c.args.id.now.0 n) fault reads
