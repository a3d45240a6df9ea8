use Rattle.std.proofs.Common.{◌-◌, ap, List, ℕ, [], ◌∷◌, ◌++◌, take, sym, subst, ◌∙◌, length}
use Rattle.ild_schema.specs.declared.row.Row.{Row}
use Rattle.ild_schema.specs.Slots.{plainly}
use Rattle.ild_typed.specs.At.{InSlot}
use Rattle.ild_typed.specs.Schema.{IsSchema}
use Rattle.ild_view_doc.specs.Docs.{block_in, table_in, type_in}
use Rattle.ild_path_inward.specs.Levels.{CanGo}
use Rattle.ild_path_place.specs.Places.{Locates}
use Rattle.ild_path_place.proofs.Failing.{whole_fails}
use Rattle.ild_path_place.proofs.Docked.{can_go, rooted}
use Rattle.ild_path_place.proofs.Located.{empty, split_last}
use Rattle.ild_path_place.proofs.Whole.{locates_whole}
use Rattle.ild_data.specs.Spell.{id_of}
use Rattle.ild_path_found.specs.Sites.{block_in as block_in_piece}
use Rattle.ild_path_place.proofs.Refusing.{breaks_in, whole_block, whole_breaks}
use Rattle.ild_path_place.specs.declared.place.Place.{Place}
use Rattle.ild_schema.specs.declared.number.Slot.{Slot}
use Rattle.ild_typed.specs.Fits.{Front}
use Rattle.ild_view.specs.View.{piece_of, slot_of}
use Rattle.ild_path_place.proofs.locating.locate.Goals as goal

pub returns-in-Some-clause-stands : goal.returns-in-Some-clause-stands
returns-in-Some-clause-stands g c = λ was v told own st.
    let h = g.H.KeyHash.hash_of in
    let rows = table_in c.args.doc.now in
    let p : InSlot = (plainly (type_in c.args.doc.now), v) in
    let schema = subst IsSchema c.schema.ensures (record { table = c.recall.ensures.table; accepted = c.recall.ensures.accepted }) in
    let go = can_go h rows schema was (type_in c.args.doc.now) (block_in c.args.doc.now) v st own c.view.result c.view.ensures.table c.view.ensures.slot c.view.ensures.front in
    let same = c.schema-in-Some.ensures in
    let own = c.locate_last.ensures.told was p st.tree told (subst (λ (r : List Row). CanGo h r was 96 p st.tree c.view.result) (sym same) go) in
    subst (λ (xs : List (List ℕ)). Locates h rows was p xs c.args.verb (g.K.Store.moment c.args.store.now) c.locate_last.result (g.K.Store.moment c.locate_last.new.store))
    (split_last c.as_slice-segments.result.now c.in-Some.last.now c.in-Some.ensures.value ∙ c.as_slice-segments.ensures)
    (subst (λ (r : List Row). Locates h r was p (take (length c.as_slice-segments.result.now - 1) c.as_slice-segments.result.now ++ c.in-Some.last.now ∷ []) c.args.verb (g.K.Store.moment c.args.store.now) c.locate_last.result (g.K.Store.moment c.locate_last.new.store)) same own)

pub returns-in-None-clause-stands : goal.returns-in-None-clause-stands
returns-in-None-clause-stands g c = λ was v told own st.
    let h = g.H.KeyHash.hash_of in
    let rows = table_in c.args.doc.now in
    let p : InSlot = (plainly (type_in c.args.doc.now), v) in
    subst (λ (xs : List (List ℕ)). Locates h rows was p xs c.args.verb (g.K.Store.moment c.args.store.now) c.whole.result (g.K.Store.moment c.args.store.now))
    (sym (empty c.as_slice-segments.result.now c.in-None.ensures.value) ∙ c.as_slice-segments.ensures)
    (locates_whole h rows was p (g.K.Store.moment c.args.store.now) _ c.view-in-None.ensures.slot c.args.verb c.whole.result c.whole.ensures.whole)

pub returns-in-None-clause-failed : goal.returns-in-None-clause-failed
returns-in-None-clause-failed g c =
    let m = g.K.Store.moment c.args.store.now in
    whole_fails _ c.args.verb m m c.whole.result c.whole.ensures.whole

pub returns-in-Some-clause-rooted : goal.returns-in-Some-clause-rooted
returns-in-Some-clause-rooted g c = λ was v told own st.
    let h = g.H.KeyHash.hash_of in
    let rows = table_in c.args.doc.now in
    let n = type_in c.args.doc.now in
    let b = block_in c.args.doc.now in
    let schema = subst IsSchema c.schema.ensures (record { table = c.recall.ensures.table; accepted = c.recall.ensures.accepted }) in
    let go = can_go h rows schema was n b v st own c.view.result c.view.ensures.table c.view.ensures.slot c.view.ensures.front in
    rooted h rows schema was n b v st own c.view.result go c.view.ensures.whole c.locate_last.result c.locate_last.ensures.root

pub returns-in-None-clause-rooted : goal.returns-in-None-clause-rooted
returns-in-None-clause-rooted g c = λ was v told own st.
    let h = g.H.KeyHash.hash_of in
    let rows = table_in c.args.doc.now in
    let n = type_in c.args.doc.now in
    let b = block_in c.args.doc.now in
    let schema = subst IsSchema c.schema.ensures (record { table = c.recall.ensures.table; accepted = c.recall.ensures.accepted }) in
    let view = c.view-in-None.result in
    let go = can_go h rows schema was n b v st own view c.view-in-None.ensures.table c.view-in-None.ensures.slot c.view-in-None.ensures.front in
    rooted h rows schema was n b v st own view go c.view-in-None.ensures.whole c.whole.result c.whole.ensures.root

pub returns-in-Some-clause-refused : goal.returns-in-Some-clause-refused
returns-in-Some-clause-refused g c = λ f x.
    let h = g.H.KeyHash.hash_of in
    let rows = table_in c.args.doc.now in
    let view = c.view.result in
    let acc = c.schema-in-Some.result.now in
    let same = c.schema-in-Some.ensures in
    let front = subst (λ (r : List Row). Front r 96 (slot_of view) f x.tree) (sym same) (subst (λ (u : Slot). Front rows 96 u f x.tree) (sym c.view.ensures.slot) x.front) in
    breaks_in Place h acc rows (id_of (block_in_piece (piece_of view))) (id_of (block_in c.args.doc.now)) 96 (slot_of view) (plainly (type_in c.args.doc.now)) x.tree (g.K.Store.moment c.args.store.now) (g.K.Store.moment c.locate_last.new.store) c.locate_last.result
    same (ap id_of (whole_block view (block_in c.args.doc.now) x.tree x.block (c.view.ensures.whole x.tree x.block))) c.view.ensures.slot (c.locate_last.ensures.refused f x.tree (c.view.ensures.front f x) front)

pub returns-in-None-clause-refused : goal.returns-in-None-clause-refused
returns-in-None-clause-refused g c = λ f x.
    let m = g.K.Store.moment c.args.store.now in
    whole_breaks _ (plainly (type_in c.args.doc.now)) c.args.verb g.H.KeyHash.hash_of (table_in c.args.doc.now) (id_of (block_in c.args.doc.now)) 96 x.tree m m c.whole.result c.whole.ensures.whole
