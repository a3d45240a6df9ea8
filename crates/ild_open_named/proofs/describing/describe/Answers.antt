use Rattle.std.proofs.Common.{List, ℕ, sym, subst}
use Rattle.ild_data.specs.Data.{text}
use Rattle.ild_cbor.specs.Block.{IsBlockOf}
use Rattle.ild_view_named.specs.NamedBlock.{IsNamedBlock}
use Rattle.ild_view_named.specs.NamedDocs.{IsMisnamedBlock}
use Rattle.ild_open_named.specs.inside.Found.{StopsAt}
use Rattle.ild_open_named.proofs.Finding.{misfound}
use Rattle.ild_open_named.proofs.Telling.{has_description, memory_stops, root_stops, schema_stops}
use Rattle.ild_open_named.proofs.describing.describe.Goals as goal

pub returns-in-Err-names_in : goal.returns-in-Err-names_in
returns-in-Err-names_in g c =
    let m = g.K.Store.moment c.args.store.now in
    let k = g.K.Store.moment c.get_block.new.store in
    root_stops {A = List ℕ} (λ (b : List ℕ). Unit {0}) c.args.id.now.0 m k c.in-Err-names_in.fault
    (misfound {A = List ℕ} (λ (b : List ℕ). Unit {0}) IsMisnamedBlock c.args.id.now.0 m k c.in-Ok.root c.in-Err-names_in.fault c.in-Ok.ensures
    (subst (λ (b : List ℕ). StopsAt IsMisnamedBlock c.args.id.now.0 b c.in-Err-names_in.fault) c.as_slice-bytes.ensures.same c.in-Err-names_in.ensures))

pub returns-in-Err-find_text : goal.returns-in-Err-find_text
returns-in-Err-find_text g c =
    let names = c.in-Ok-names_in.ensures in
    schema_stops c.args.id.now.0 (g.K.Store.moment c.args.store.now) (g.K.Store.moment c.get_block.new.store) (g.K.Store.moment c.find_text.new.store) c.in-Ok.root c.in-Ok-names_in.names.0 c.in-Ok-names_in.names.1.0 names.0
    c.in-Err-find_text.fault c.in-Ok.ensures (subst (λ (b : List ℕ). IsNamedBlock b c.in-Ok-names_in.names.0 c.in-Ok-names_in.names.1.0 names.0) c.as_slice-bytes.ensures.same names.1) c.in-Err-find_text.ensures

pub returns-in-Ok-text_in : goal.returns-in-Ok-text_in
returns-in-Ok-text_in g c =
    let names = c.in-Ok-names_in.ensures in
    let found = c.in-Ok-find_text.ensures in
    has_description c.args.id.now.0 (g.K.Store.moment c.args.store.now) (g.K.Store.moment c.get_block.new.store) (g.K.Store.moment c.find_text.new.store) c.in-Ok.root c.in-Ok-find_text.block names.0
    (record { type_name = c.in-Ok-names_in.names.0; schema = c.in-Ok-names_in.names.1; source = c.in-Ok-text_in.source }) found.answer.text.source c.in-Ok.ensures c.as_slice-bytes.ensures.bytes
    (subst (λ (b : List ℕ). IsNamedBlock b c.in-Ok-names_in.names.0 c.in-Ok-names_in.names.1.0 names.0) c.as_slice-bytes.ensures.same names.1) found c.as_slice-bytes-2.ensures.bytes found.answer.text.block
    (c.in-Ok-text_in.ensures found.answer.text.source (subst (λ (b : List ℕ). IsBlockOf b (text found.answer.text.source)) (sym c.as_slice-bytes-2.ensures.same) found.answer.text.block))

pub returns : goal.returns
returns g c =
    memory_stops c.args.id.now.0 (g.K.Store.moment c.args.store.now) (g.K.Store.moment c.get_block.new.store) (g.K.Store.moment c.find_text.new.store) c.in-Ok.root c.in-Ok-names_in.names.1.0 c.in-Ok-find_text.block c.in-Ok.ensures
    c.in-Ok-find_text.ensures
