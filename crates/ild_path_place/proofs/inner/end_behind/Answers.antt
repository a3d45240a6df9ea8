use Rattle.std.proofs.Common.{List, ap, refl, sym, subst, ◌∙◌}
use Rattle.ild_schema.specs.declared.row.Row.{Row}
use Rattle.ild_path_inward.specs.Levels.{CanGo}
use Rattle.ild_path_inward.proofs.Inwarding.{can_go}
use Rattle.std.specs.Prelude.{IfOk}
use Rattle.ild_path_place.specs.Holes.{VerbHole}
use Rattle.ild_path_place.specs.inside.Inner.{EndsThere, LeadsTo}
use Rattle.ild_path_place.specs.Rooms.{HasRoom}
use Rattle.ild_path_place.specs.declared.ending.Found.{Found}
use Rattle.ild_path_inward.proofs.Failing.{last_under}
use Rattle.ild_path_place.proofs.Linking.{behind_last, behind_top}
use Rattle.ild_path_place.specs.inside.Slots.{IsPartSlot}
use Rattle.ild_data.specs.Data.{Data}
use Rattle.ild_data.specs.Spell.{id_of}
use Rattle.ild_path_entry.specs.Entry.{slot_in, table_in}
use Rattle.ild_path_found.specs.Sites.{block_in}
use Rattle.ild_path_inward.specs.Halts.{room_stopped}
use Rattle.ild_path_inward.specs.Refuses.{block_behind}
use Rattle.ild_path_place.proofs.Refusing.{breaks_in}
use Rattle.ild_schema.specs.declared.number.Slot.{Slot}
use Rattle.ild_typed.specs.Fits.{Front}
use Rattle.ild_view.specs.View.{piece_of, slot_of}
use Rattle.ild_path_place.proofs.inner.end_behind.Goals as goal

pub returns-in-Some-clause-told : goal.returns-in-Some-clause-told
returns-in-Some-clause-told g c = λ was limit q holder d told on to.
    let h = g.H.KeyHash.hash_of in
    let rows = c.args.acc.now in
    let e = on.inner c.in-Some.hop.now c.in-Some.ensures.value in
    let same = c.schema.ensures ∙ e.table in
    let go = can_go h rows was limit q d c.args.root.now c.args.hops.now on c.in-Some.hop.now c.in-Some.ensures.value c.view.result c.view.ensures.table c.view.ensures.slot c.view.ensures.front in
    subst (λ (r : List Row). EndsThere h r was limit q c.args.front holder c.args.last.now c.args.k c.args.verb (g.K.Store.moment c.args.store.now) c.end_of.result (g.K.Store.moment c.end_of.new.store)) same
    (c.end_of.ensures.told was limit q holder d told (subst (λ (r : List Row). CanGo h r was limit q d c.view.result) (sym same) go) (subst (λ (r : List Row). LeadsTo r limit q c.args.front c.args.room holder) (sym same) to))

pub returns-in-None-clause-told : goal.returns-in-None-clause-told
returns-in-None-clause-told g c = λ was limit q holder d told on to.
    c.end_of-in-None.ensures.told was limit q holder d told (record { schema = on.schema; low = on.low; held = on.held; stands = on.top c.in-None.ensures.value }) to

pub returns-in-Some-clause-room : goal.returns-in-Some-clause-room
returns-in-Some-clause-room g c = λ was limit q holder d on to.
    let h = g.H.KeyHash.hash_of in
    let rows = c.args.acc.now in
    let e = on.inner c.in-Some.hop.now c.in-Some.ensures.value in
    let same = c.schema.ensures ∙ e.table in
    let go = can_go h rows was limit q d c.args.root.now c.args.hops.now on c.in-Some.hop.now c.in-Some.ensures.value c.view.result c.view.ensures.table c.view.ensures.slot c.view.ensures.front in
    subst (λ (r : List Row). IfOk c.end_of.result (λ (found : Found). HasRoom r holder.0 c.args.room c.args.last.now found.room)) same
    (c.end_of.ensures.room was limit q holder d (subst (λ (r : List Row). CanGo h r was limit q d c.view.result) (sym same) go) (subst (λ (r : List Row). LeadsTo r limit q c.args.front c.args.room holder) (sym same) to))

pub returns-in-None-clause-room : goal.returns-in-None-clause-room
returns-in-None-clause-room g c = λ was limit q holder d on to.
    c.end_of-in-None.ensures.room was limit q holder d (record { schema = on.schema; low = on.low; held = on.held; stands = on.top c.in-None.ensures.value }) to

pub returns-in-Some-clause-part : goal.returns-in-Some-clause-part
returns-in-Some-clause-part g c = λ all.
    let same = c.schema.ensures ∙ last_under c.args.acc.now c.args.hops.now c.in-Some.hop.now c.in-Some.ensures.value all in
    subst (λ (r : List Row). IfOk c.end_of.result (λ (found : Found). IsPartSlot r found.slot)) same c.end_of.ensures.part

pub returns-in-Some-clause-hole : goal.returns-in-Some-clause-hole
returns-in-Some-clause-hole g c = λ was limit q holder d on to.
    let h = g.H.KeyHash.hash_of in
    let rows = c.args.acc.now in
    let e = on.inner c.in-Some.hop.now c.in-Some.ensures.value in
    let same = c.schema.ensures ∙ e.table in
    let go = can_go h rows was limit q d c.args.root.now c.args.hops.now on c.in-Some.hop.now c.in-Some.ensures.value c.view.result c.view.ensures.table c.view.ensures.slot c.view.ensures.front in
    subst (λ (r : List Row). IfOk c.end_of.result (λ (found : Found). VerbHole r holder c.args.last.now c.args.verb found.hole)) same
    (c.end_of.ensures.hole was limit q holder d (subst (λ (r : List Row). CanGo h r was limit q d c.view.result) (sym same) go) (subst (λ (r : List Row). LeadsTo r limit q c.args.front c.args.room holder) (sym same) to))

pub returns-in-None-clause-hole : goal.returns-in-None-clause-hole
returns-in-None-clause-hole g c = λ was limit q holder d on to.
    c.end_of-in-None.ensures.hole was limit q holder d (record { schema = on.schema; low = on.low; held = on.held; stands = on.top c.in-None.ensures.value }) to

pub returns-in-Some-clause-leads : goal.returns-in-Some-clause-leads
returns-in-Some-clause-leads g c = λ parts.
    behind_last c.args.root.now c.args.hops.now c.in-Some.hop.now c.in-Some.ensures.value c.args.front c.view.result c.view.ensures.table c.view.ensures.slot c.view.ensures.front parts c.end_of.result c.end_of.ensures.leads

pub returns-in-None-clause-leads : goal.returns-in-None-clause-leads
returns-in-None-clause-leads g c = λ parts.
    behind_top c.args.root.now c.args.hops.now c.in-None.ensures.value c.args.front parts c.end_of-in-None.result c.end_of-in-None.ensures.leads

pub returns-in-Some-clause-refused : goal.returns-in-Some-clause-refused
returns-in-Some-clause-refused g c = λ s f t less d own.
    let h = g.H.KeyHash.hash_of in
    let rows = c.args.acc.now in
    let hop = c.in-Some.hop.now in
    let e = d.inner hop c.in-Some.ensures.value in
    let table = c.schema.ensures ∙ e.table in
    let slot = c.view.ensures.slot ∙ e.slot in
    let held = subst (λ (r : List Row). Front r less s f t) (sym e.table) d.front in
    let there = subst (λ (u : Slot). Front (table_in hop.entry) less u f t) (sym e.slot) held in
    let is = c.view.ensures.front f less (subst (λ (x : Data). Front (table_in hop.entry) less (slot_in hop.entry) f x) (sym e.tree) there) in
    let here = subst (λ (r : List Row). Front r less s f t) (sym table) d.front in
    let room = own ∙ (λ i. room_stopped (sym table i) less (sym slot i, f) c.args.front) in
    breaks_in Found h c.schema.result.now rows (id_of c.block_under-block.result.now) (id_of (block_behind (block_in (piece_of c.args.root.now)) c.args.hops.now)) less (slot_of c.view.result) s t (g.K.Store.moment c.args.store.now) (g.K.Store.moment c.end_of.new.store) c.end_of.result
    table (ap id_of (c.block_under-block.ensures ∙ ap (λ b. block_behind b c.args.hops.now) c.block_of.ensures)) slot (c.end_of.ensures.refused f t less is (subst (λ (u : Slot). Front c.schema.result.now less u f t) (sym slot) here) room)

pub returns-in-None-clause-refused : goal.returns-in-None-clause-refused
returns-in-None-clause-refused g c = λ s f t less d own.
    let h = g.H.KeyHash.hash_of in
    let rows = c.args.acc.now in
    let top = d.top c.in-None.ensures.value in
    breaks_in Found h rows rows (id_of c.block_under-block.result.now) (id_of (block_behind (block_in (piece_of c.args.root.now)) c.args.hops.now)) less (slot_of c.args.root.now) s t (g.K.Store.moment c.args.store.now) (g.K.Store.moment c.end_of-in-None.new.store) c.end_of-in-None.result
    refl (ap id_of (c.block_under-block.ensures ∙ ap (λ b. block_behind b c.args.hops.now) c.block_of.ensures)) top.0
    (c.end_of-in-None.ensures.refused f t less top.1 (subst (λ (u : Slot). Front rows less u f t) (sym top.0) d.front) (own ∙ ap (λ (u : Slot). room_stopped rows less (u, f) c.args.front) (sym top.0)))
