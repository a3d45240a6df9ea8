use Rattle.std.proofs.Common.{List, ℕ, refl, ◌∙◌, subst}
use Rattle.ild_path_inward.specs.Halts.{HaltsAt}
use Rattle.ild_schema.specs.Value.{Value}
use Rattle.ild_view.specs.View.{IsView, slot_of, table_of}
use Rattle.std.specs.Prelude.{IfOk}
use Rattle.ild_path_place.specs.inside.Slots.{IsPartSlot}
use Rattle.ild_path_place.specs.declared.ending.Found.{Found}
use Rattle.ild_schema.specs.declared.row.Row.{Row}
use Rattle.ild_path_place.proofs.Failing.{block_fails}
use Rattle.ild_path_place.proofs.Linking.{follows_key, follows_none, rooted_hamt}
use Rattle.ild_path_place.proofs.AtEnd.{can_end_at, ends_at_key, ends_in_block, hole_kept, hole_there, of_holder, room_kept, room_low}
use Rattle.ild_path_place.specs.Holes.{VerbHole}
use Rattle.ild_path_place.specs.Rooms.{HasRoom}
use Rattle.ild_data.specs.Spell.{id_of}
use Rattle.ild_path_place.proofs.Refusing.{breaks, holder_site, none_breaks, root_there}
use Rattle.ild_typed.specs.Schema.{IsSchema}
use Rattle.ild_path_place.proofs.inner.end_of.Goals as goal

pub returns-in-Some-clause-told : goal.returns-in-Some-clause-told
returns-in-Some-clause-told g c = λ was limit q holder d told x to.
    let h = g.H.KeyHash.hash_of in
    let rows = c.args.acc.now in
    let view = c.args.inner.now in
    let halts : (f : Value) → IsView view f → HaltsAt (table_of view) c.args.room (slot_of view, f) c.args.front c.halt_in.result = λ f is. subst (λ (p : List (List ℕ)). HaltsAt (table_of view) c.args.room (slot_of view, f) p c.halt_in.result) c.as_slice.ensures (c.halt_in.ensures.halts f is) in
    let can = can_end_at h rows was limit q d view x c.args.front c.args.room holder to c.halt_in.result halts _ c.in-Some.field-0 c.in-Some.ensures in
    ends_at_key h rows was limit q d view x c.args.front c.args.room holder to c.halt_in.result halts _ c.in-Some.field-0 c.in-Some.ensures
    c.args.last.now c.args.k c.args.verb (g.K.Store.moment c.args.store.now) (g.K.Store.moment c.end_at_key.new.store) c.end_at_key.result (c.end_at_key.ensures.told was limit q told can)

pub returns-in-None-clause-told : goal.returns-in-None-clause-told
returns-in-None-clause-told g c = λ was limit q holder d told x to.
    let h = g.H.KeyHash.hash_of in
    let rows = c.args.acc.now in
    let view = c.args.inner.now in
    let halts : (f : Value) → IsView view f → HaltsAt (table_of view) c.args.room (slot_of view, f) c.args.front c.halt_in.result = λ f is. subst (λ (p : List (List ℕ)). HaltsAt (table_of view) c.args.room (slot_of view, f) p c.halt_in.result) c.as_slice.ensures (c.halt_in.ensures.halts f is) in
    ends_in_block h rows was limit q d view x c.args.front c.args.room holder to c.halt_in.result halts _ c.in-None.ensures
    c.args.last.now c.args.k c.args.verb (g.K.Store.moment c.args.store.now) (g.K.Store.moment c.args.store.now) c.end_in_block.result refl c.end_in_block.ensures.ends

pub returns-in-Some-clause-room : goal.returns-in-Some-clause-room
returns-in-Some-clause-room g c = λ was limit q holder d x to.
    let h = g.H.KeyHash.hash_of in
    let rows = c.args.acc.now in
    let view = c.args.inner.now in
    let halts : (f : Value) → IsView view f → HaltsAt (table_of view) c.args.room (slot_of view, f) c.args.front c.halt_in.result = λ f is. subst (λ (p : List (List ℕ)). HaltsAt (table_of view) c.args.room (slot_of view, f) p c.halt_in.result) c.as_slice.ensures (c.halt_in.ensures.halts f is) in
    let low = room_low h rows was limit q d view x c.args.front c.args.room holder to c.halt_in.result halts in
    let has = subst (λ (s : List ℕ). HasRoom rows (slot_of c.halt_in.result.view) c.args.room s c.in_ok-left.left) c.as_str.ensures.same (c.in_ok-left.ensures.room low) in
    let own = of_holder h rows was limit q d view x c.args.front c.args.room holder to c.halt_in.result halts c.args.last.now c.in_ok-left.left has in
    room_kept rows holder.0 c.args.room c.args.last.now c.in_ok-left.left c.end_at_key.result c.end_at_key.ensures.room own

pub returns-in-None-clause-room : goal.returns-in-None-clause-room
returns-in-None-clause-room g c = λ was limit q holder d x to.
    let h = g.H.KeyHash.hash_of in
    let rows = c.args.acc.now in
    let view = c.args.inner.now in
    let halts : (f : Value) → IsView view f → HaltsAt (table_of view) c.args.room (slot_of view, f) c.args.front c.halt_in.result = λ f is. subst (λ (p : List (List ℕ)). HaltsAt (table_of view) c.args.room (slot_of view, f) p c.halt_in.result) c.as_slice.ensures (c.halt_in.ensures.halts f is) in
    let low = room_low h rows was limit q d view x c.args.front c.args.room holder to c.halt_in.result halts in
    let has = subst (λ (s : List ℕ). HasRoom rows (slot_of c.halt_in.result.view) c.args.room s c.in_ok-left.left) c.as_str.ensures.same (c.in_ok-left.ensures.room low) in
    let own = of_holder h rows was limit q d view x c.args.front c.args.room holder to c.halt_in.result halts c.args.last.now c.in_ok-left.left has in
    room_kept rows holder.0 c.args.room c.args.last.now c.in_ok-left.left c.end_in_block.result c.end_in_block.ensures.room own

pub returns-in-None-clause-failed : goal.returns-in-None-clause-failed
returns-in-None-clause-failed g c =
    let m = g.K.Store.moment c.args.store.now in
    block_fails c.halt_in.result.view c.args.front c.args.last.now c.args.k c.args.verb m m c.end_in_block.result c.end_in_block.ensures.ends

pub returns-in-None-clause-part : goal.returns-in-None-clause-part
returns-in-None-clause-part g c =
    subst (λ (r : List Row). IfOk c.end_in_block.result (λ (found : Found). IsPartSlot r found.slot)) (c.halt_in.ensures.table ∙ c.requires) c.end_in_block.ensures.part

pub returns-in-Some-clause-hole : goal.returns-in-Some-clause-hole
returns-in-Some-clause-hole g c = λ was limit q holder d x to.
    let h = g.H.KeyHash.hash_of in
    let rows = c.args.acc.now in
    let view = c.args.inner.now in
    let halts : (f : Value) → IsView view f → HaltsAt (table_of view) c.args.room (slot_of view, f) c.args.front c.halt_in.result = λ f is. subst (λ (p : List (List ℕ)). HaltsAt (table_of view) c.args.room (slot_of view, f) p c.halt_in.result) c.as_slice.ensures (c.halt_in.ensures.halts f is) in
    let low = room_low h rows was limit q d view x c.args.front c.args.room holder to c.halt_in.result halts in
    let has = of_holder h rows was limit q d view x c.args.front c.args.room holder to c.halt_in.result halts c.as_str.result.now c.in_ok-left.left (c.in_ok-left.ensures.room low) in
    let own = hole_there h rows was limit q d view x c.args.front c.args.room holder to c.halt_in.result halts c.as_str-2.result.now c.args.verb c.leaves-hole.result has.form has.form_is c.leaves-hole.ensures in
    hole_kept rows holder c.args.last.now c.args.verb c.leaves-hole.result c.end_at_key.result c.end_at_key.ensures.hole (subst (λ (s : List ℕ). VerbHole rows holder s c.args.verb c.leaves-hole.result) c.as_str-2.ensures.same own)

pub returns-in-None-clause-hole : goal.returns-in-None-clause-hole
returns-in-None-clause-hole g c = λ was limit q holder d x to.
    let h = g.H.KeyHash.hash_of in
    let rows = c.args.acc.now in
    let view = c.args.inner.now in
    let halts : (f : Value) → IsView view f → HaltsAt (table_of view) c.args.room (slot_of view, f) c.args.front c.halt_in.result = λ f is. subst (λ (p : List (List ℕ)). HaltsAt (table_of view) c.args.room (slot_of view, f) p c.halt_in.result) c.as_slice.ensures (c.halt_in.ensures.halts f is) in
    let low = room_low h rows was limit q d view x c.args.front c.args.room holder to c.halt_in.result halts in
    let has = of_holder h rows was limit q d view x c.args.front c.args.room holder to c.halt_in.result halts c.as_str.result.now c.in_ok-left.left (c.in_ok-left.ensures.room low) in
    let own = hole_there h rows was limit q d view x c.args.front c.args.room holder to c.halt_in.result halts c.as_str-2.result.now c.args.verb c.leaves-hole.result has.form has.form_is c.leaves-hole.ensures in
    hole_kept rows holder c.args.last.now c.args.verb c.leaves-hole.result c.end_in_block.result c.end_in_block.ensures.hole (subst (λ (s : List ℕ). VerbHole rows holder s c.args.verb c.leaves-hole.result) c.as_str-2.ensures.same own)

pub end_at_key-requires-clause-hamt : goal.end_at_key-requires-clause-hamt
end_at_key-requires-clause-hamt g c = rooted_hamt c.halt_in.result.view _ c.in-Some.field-0 c.in-Some.ensures

pub returns-in-Some-clause-leads : goal.returns-in-Some-clause-leads
returns-in-Some-clause-leads g c =
    let view = c.args.inner.now in
    let halts : (f : Value) → IsView view f → HaltsAt (table_of view) c.args.room (slot_of view, f) c.args.front c.halt_in.result = λ f is. subst (λ (p : List (List ℕ)). HaltsAt (table_of view) c.args.room (slot_of view, f) p c.halt_in.result) c.as_slice.ensures (c.halt_in.ensures.halts f is) in
    follows_key view c.args.room c.args.front c.halt_in.result halts _ c.in-Some.field-0 c.in-Some.ensures c.end_at_key.result c.end_at_key.ensures.front

pub returns-in-None-clause-leads : goal.returns-in-None-clause-leads
returns-in-None-clause-leads g c = follows_none c.args.inner.now c.args.front c.end_in_block.result c.end_in_block.ensures.front

pub returns-in-Some-clause-refused : goal.returns-in-Some-clause-refused
returns-in-Some-clause-refused g c = λ f t less is front own.
    let h = g.H.KeyHash.hash_of in
    let rows = c.args.acc.now in
    let view = c.args.inner.now in
    let s = slot_of view in
    let schema : IsSchema rows = record { table = c.recall.ensures.table; accepted = c.recall.ensures.accepted } in
    let halts = subst (λ (r : List Row). HaltsAt r c.args.room (s, f) c.args.front c.halt_in.result) c.requires (subst (λ (p : List (List ℕ)). HaltsAt (table_of view) c.args.room (s, f) p c.halt_in.result) c.as_slice.ensures (c.halt_in.ensures.halts f is)) in
    let m = g.K.Store.moment c.args.store.now in
    let n = g.K.Store.moment c.end_at_key.new.store in
    let law = c.parts_stand_in_data.ensures in
    breaks law h rows schema c.args.block.now less c.args.room c.args.room s f t front c.args.front own c.halt_in.result halts (λ e stands. root_there c.halt_in.result.view _ c.in-Some.field-0 e (c.in-Some.ensures e stands)) Found m n c.end_at_key.result
    (c.end_at_key.ensures.refused _ (holder_site law h rows schema c.args.block.now less c.args.room c.args.room s f t front c.args.front own c.halt_in.result halts (λ e stands. root_there c.halt_in.result.view _ c.in-Some.field-0 e (c.in-Some.ensures e stands))))

pub returns-in-None-clause-refused : goal.returns-in-None-clause-refused
returns-in-None-clause-refused g c = λ f t less is front own.
    let m = g.K.Store.moment c.args.store.now in
    none_breaks c.halt_in.result.view c.args.front c.args.last.now c.args.k c.args.verb g.H.KeyHash.hash_of c.args.acc.now (id_of c.args.block.now) less (slot_of c.args.inner.now) t m m c.end_in_block.result c.end_in_block.ensures.ends
