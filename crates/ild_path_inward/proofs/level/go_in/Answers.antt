use Rattle.std.proofs.Common.{List, arith, refl, subst, sym}
use Rattle.ild_path_inward.proofs.Going.{can_enter, goes_nowhere}
use Rattle.ild_path_inward.proofs.Leading.{keyed_hamt, level_leads, part_led, root_led, rooms_led}
use Rattle.ild_path_inward.proofs.Reading.{only_viewed}
use Rattle.ild_view.specs.View.{slot_of, table_of}
use Rattle.ild_path_inward.proofs.Refusing.{halts_at_site, leaves_here, meets_level}
use Rattle.ild_path_inward.specs.Halts.{HaltsAt}
use Rattle.ild_schema.specs.declared.row.Row.{Row}
use Rattle.ild_typed.specs.Schema.{IsSchema}
use Rattle.ild_path_inward.proofs.level.go_in.Goals as goal

pub returns-in-Some-clause-reads : goal.returns-in-Some-clause-reads
returns-in-Some-clause-reads g c = only_viewed c.halt_in-halt.result.view (g.K.Store.moment c.args.store.now) (g.K.Store.moment c.enter_at.new.store) c.enter_at.ensures.reads

pub returns-in-Some-clause-told : goal.returns-in-Some-clause-told
returns-in-Some-clause-told g c = λ was p t told x.
    c.enter_at.ensures.told was c.args.room p c.args.segments.now told
    (can_enter g.H.KeyHash.hash_of c.args.acc.now was c.args.room p t c.args.root.now x c.args.segments.now c.halt_in-halt.result c.halt_in-halt.ensures.halts c.in_ok-front.front _ c.in_ok-front.ensures refl c.in-Some.key c.in-Some.behind c.in-Some.ensures.key)

pub returns-in-None-clause-told : goal.returns-in-None-clause-told
returns-in-None-clause-told g c = λ was p t told x. (
  goes_nowhere g.H.KeyHash.hash_of c.args.acc.now was c.args.room p t c.args.root.now x c.args.segments.now c.halt_in-halt.result c.halt_in-halt.ensures.halts _ _ c.in_ok-front.ensures refl refl refl c.in-None.ensures.key,
  omega arith,
)

pub enter_at-requires-clause-hamt : goal.enter_at-requires-clause-hamt
enter_at-requires-clause-hamt g c = keyed_hamt c.halt_in-halt.result.view c.halt_in-halt.result.left.now (c.in-Some.key, c.in-Some.behind) c.in-Some.ensures.key

pub returns-in-Some-clause-leads : goal.returns-in-Some-clause-leads
returns-in-Some-clause-leads g c = λ f is.
    let v = c.args.root.now in
    level_leads (table_of v) (slot_of v, f) c.in_ok-front.front
    (root_led (table_of v) c.args.room (slot_of v, f) c.args.segments.now c.halt_in-halt.result (c.halt_in-halt.ensures.halts f is) c.in_ok-front.front _ c.in_ok-front.ensures refl (c.in-Some.key, c.in-Some.behind) c.in-Some.ensures.key)
    c.enter_at.result c.enter_at.ensures.fronts

pub returns-in-None-clause-leads : goal.returns-in-None-clause-leads
returns-in-None-clause-leads g c = λ f is.
    let v = c.args.root.now in
    part_led (table_of v) c.args.room (slot_of v, f) c.args.segments.now c.halt_in-halt.result (c.halt_in-halt.ensures.halts f is) c.in_ok-front.front _ c.in_ok-front.ensures refl

pub returns-in-Some-clause-refused : goal.returns-in-Some-clause-refused
returns-in-Some-clause-refused g c = λ f t is front low.
    let h = g.H.KeyHash.hash_of in
    let rows = c.args.acc.now in
    let s = slot_of c.args.root.now in
    let schema : IsSchema rows = record { table = c.recall.ensures.table; accepted = c.recall.ensures.accepted } in
    let halts = subst (λ (r : List Row). HaltsAt r c.args.room (s, f) c.args.segments.now c.halt_in-halt.result) c.requires (c.halt_in-halt.ensures.halts f is) in
    let m = g.K.Store.moment c.args.store.now in
    let n = g.K.Store.moment c.enter_at.new.store in
    let law = c.parts_stand_in_data.ensures in
    meets_level law h rows schema c.args.block.now c.args.room s f t front low c.args.segments.now c.halt_in-halt.result halts (c.in-Some.key, c.in-Some.behind) c.in-Some.ensures.key m n c.in-Some.key.now c.enter_at.result
    (c.enter_at.ensures.refused _ (halts_at_site law h rows schema c.args.block.now c.args.room s f t front low c.args.segments.now c.halt_in-halt.result halts (c.in-Some.key, c.in-Some.behind) c.in-Some.ensures.key))

pub returns-in-Some-clause-room : goal.returns-in-Some-clause-room
returns-in-Some-clause-room g c = λ f is.
    let rows = c.args.acc.now in
    let s = slot_of c.args.root.now in
    let halts = subst (λ (r : List Row). HaltsAt r c.args.room (s, f) c.args.segments.now c.halt_in-halt.result) c.requires (c.halt_in-halt.ensures.halts f is) in
    leaves_here rows c.args.room c.halt_in-halt.result.room (s, f) c.in_ok-front.front c.enter_at.result c.enter_at.ensures.room c.enter_at.ensures.fronts
    (rooms_led rows c.args.room (s, f) c.args.segments.now c.halt_in-halt.result halts c.in_ok-front.front _ c.in_ok-front.ensures refl)

pub returns-in-None-clause-room : goal.returns-in-None-clause-room
returns-in-None-clause-room g c = λ f is.
    let rows = c.args.acc.now in
    let s = slot_of c.args.root.now in
    let halts = subst (λ (r : List Row). HaltsAt r c.args.room (s, f) c.args.segments.now c.halt_in-halt.result) c.requires (c.halt_in-halt.ensures.halts f is) in
    sym (rooms_led rows c.args.room (s, f) c.args.segments.now c.halt_in-halt.result halts c.in_ok-front.front _ c.in_ok-front.ensures refl)
