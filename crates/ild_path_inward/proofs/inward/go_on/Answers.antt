use Rattle.std.proofs.Common.{List, refl, sym, subst, ◌∙◌}
use Rattle.ild_schema.specs.declared.row.Row.{Row}
use Rattle.ild_path_inward.proofs.Failing.{last_under}
use Rattle.ild_path_inward.specs.Levels.{CanGo, GoesIn, PassesUnder}
use Rattle.ild_path_inward.proofs.Inwarding.{can_go}
use Rattle.ild_path_inward.proofs.Leading.{behind_last, behind_top, entry_leads}
use Rattle.ild_data.specs.Data.{Data}
use Rattle.ild_path_entry.specs.Entry.{slot_in, table_in}
use Rattle.ild_path_inward.proofs.Refusing.{leaves_in, level_in}
use Rattle.ild_path_inward.specs.Refuses.{block_behind}
use Rattle.ild_schema.specs.declared.number.Slot.{Slot}
use Rattle.ild_typed.specs.Fits.{Front}
use Rattle.ild_view.specs.View.{slot_of}
use Rattle.ild_path_inward.proofs.inward.go_on.Goals as goal

pub returns-in-Some-clause-told : goal.returns-in-Some-clause-told
returns-in-Some-clause-told g c = λ was q t told on.
    let h = g.H.KeyHash.hash_of in
    let rows = c.args.acc.now in
    let e = on.inner c.in-Some.hop.now c.in-Some.ensures.value in
    let same = c.schema.ensures ∙ e.table in
    let go = can_go h rows was c.args.room q t c.args.root.now c.args.hops.now on c.in-Some.hop.now c.in-Some.ensures.value c.view.result c.view.ensures.table c.view.ensures.slot c.view.ensures.front in
    subst (λ (r : List Row). GoesIn h r was c.args.room q c.args.segments.now (g.K.Store.moment c.args.store.now) c.go_in.result (g.K.Store.moment c.go_in.new.store)) same
    (c.go_in.ensures.told was q t told (subst (λ (r : List Row). CanGo h r was c.args.room q t c.view.result) (sym same) go))

pub returns-in-None-clause-told : goal.returns-in-None-clause-told
returns-in-None-clause-told g c = λ was q t told on.
    c.go_in-in-None.ensures.told was q t told (record { schema = on.schema; low = on.low; held = on.held; stands = on.top c.in-None.ensures.value })

pub returns-in-Some-clause-under : goal.returns-in-Some-clause-under
returns-in-Some-clause-under g c = λ all.
    let same = c.schema.ensures ∙ last_under c.args.acc.now c.args.hops.now c.in-Some.hop.now c.in-Some.ensures.value all in
    subst (λ (r : List Row). PassesUnder r c.go_in.result) same c.go_in.ensures.under

pub returns-in-Some-clause-leads : goal.returns-in-Some-clause-leads
returns-in-Some-clause-leads g c =
    behind_last c.args.root.now c.args.hops.now c.in-Some.hop.now c.in-Some.ensures.value c.go_in.result
    (λ f room front. entry_leads _ _ _ _ f c.go_in.result c.view.ensures.table c.view.ensures.slot (c.go_in.ensures.leads f (c.view.ensures.front f room front)))

pub returns-in-None-clause-leads : goal.returns-in-None-clause-leads
returns-in-None-clause-leads g c = behind_top c.args.root.now c.args.hops.now c.in-None.ensures.value c.go_in-in-None.result c.go_in-in-None.ensures.leads

pub returns-in-Some-clause-refused : goal.returns-in-Some-clause-refused
returns-in-Some-clause-refused g c = λ s t f d.
    let h = g.H.KeyHash.hash_of in
    let rows = c.args.acc.now in
    let hop = c.in-Some.hop.now in
    let e = d.inner hop c.in-Some.ensures.value in
    let table = c.schema.ensures ∙ e.table in
    let slot = c.view.ensures.slot ∙ e.slot in
    let own = subst (λ (r : List Row). Front r c.args.room s f t) (sym e.table) d.front in
    let there = subst (λ (u : Slot). Front (table_in hop.entry) c.args.room u f t) (sym e.slot) own in
    let is = c.view.ensures.front f c.args.room (subst (λ (x : Data). Front (table_in hop.entry) c.args.room (slot_in hop.entry) f x) (sym e.tree) there) in
    let here = subst (λ (r : List Row). Front r c.args.room s f t) (sym table) d.front in
    level_in h c.schema.result.now rows c.block_under-at.result.now (block_behind c.args.block.now c.args.hops.now) c.args.room (slot_of c.view.result) s t (g.K.Store.moment c.args.store.now) (g.K.Store.moment c.go_in.new.store) c.go_in.result
    table c.block_under-at.ensures slot (c.go_in.ensures.refused f t is (subst (λ (u : Slot). Front c.schema.result.now c.args.room u f t) (sym slot) here) d.low)

pub returns-in-None-clause-refused : goal.returns-in-None-clause-refused
returns-in-None-clause-refused g c = λ s t f d.
    let h = g.H.KeyHash.hash_of in
    let rows = c.args.acc.now in
    let top = d.top c.in-None.ensures.value in
    level_in h rows rows c.block_under-at.result.now (block_behind c.args.block.now c.args.hops.now) c.args.room (slot_of c.args.root.now) s t (g.K.Store.moment c.args.store.now) (g.K.Store.moment c.go_in-in-None.new.store) c.go_in-in-None.result
    refl c.block_under-at.ensures top.0 (c.go_in-in-None.ensures.refused f t top.1 (subst (λ (u : Slot). Front rows c.args.room u f t) (sym top.0) d.front) d.low)

pub returns-in-Some-clause-room : goal.returns-in-Some-clause-room
returns-in-Some-clause-room g c = λ s t f d.
    let rows = c.args.acc.now in
    let hop = c.in-Some.hop.now in
    let e = d.inner hop c.in-Some.ensures.value in
    let own = subst (λ (r : List Row). Front r c.args.room s f t) (sym e.table) d.front in
    let there = subst (λ (u : Slot). Front (table_in hop.entry) c.args.room u f t) (sym e.slot) own in
    let is = c.view.ensures.front f c.args.room (subst (λ (x : Data). Front (table_in hop.entry) c.args.room (slot_in hop.entry) f x) (sym e.tree) there) in
    leaves_in c.schema.result.now rows c.args.room (slot_of c.view.result) s f c.go_in.result (c.schema.ensures ∙ e.table) (c.view.ensures.slot ∙ e.slot) (c.go_in.ensures.room f is)

pub returns-in-None-clause-room : goal.returns-in-None-clause-room
returns-in-None-clause-room g c = λ s t f d.
    let rows = c.args.acc.now in
    let top = d.top c.in-None.ensures.value in
    leaves_in rows rows c.args.room (slot_of c.args.root.now) s f c.go_in-in-None.result refl top.0 (c.go_in-in-None.ensures.room f top.1)
