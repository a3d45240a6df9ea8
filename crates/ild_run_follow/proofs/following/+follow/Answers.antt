use Rattle.std.proofs.Common.{Some, Ok, Err, drop, length, refl, ap, ◌∙◌, subst, arith}
use Rattle.std.proofs.Math.Logic.{∥∥₁_elim, ∥∥₁_map}
use Rattle.std.proofs.Props.{props}
use Rattle.std.proofs.lemmas.Result.{err_from_is_err_and}
use Rattle.ild_data.specs.Spell.{id_of}
use Rattle.ild_open.specs.Blocks.{bytes_in}
use Rattle.ild_schema.specs.Slots.{form_of}
use Rattle.ild_schema.specs.Value.{hamt}
use Rattle.ild_typed.specs.Schema.{IsSchema}
use Rattle.ild_run_follow.proofs.Leading.{below_length, enters_lower, enters_root, enters_within, key_behind, never_past, on_lower, stepped, tells_here, tells_in, tells_none}
use Rattle.ild_view.specs.View.{slot_of, table_of}
use Rattle.ild_run_follow.proofs.Refusing.{goes_on, left_of_site, nothing_along, nothing_in, refuses_entered, refuses_here, stops_at, stops_in}
use Rattle.ild_run_follow.proofs.Rooms.{left_behind}
use Rattle.ild_run_follow.proofs.Shallow.{shallow_entry, shallow_here}
use Rattle.ild_run_follow.proofs.Within.{tells_absent, tells_on, tells_refused, tells_stopped}
use Rattle.ild_run_follow.proofs.following.+follow.Goals as goal

pub tell_from-tell_in-requires : goal.tell_from-tell_in-requires
tell_from-tell_in-requires g t c = λ κs le.
    let rest = drop c.args.from c.args.path.now in
    let step = stepped c.args.view c.args.from (drop c.args.from c.args.path.now) c.in-Ok-Enter.field-0 _ (rw c.in-Ok-Enter.is at c.in-Ok-Enter.field-0-is) (rw c.in-Ok-Enter.is at c.reach-left.ensures.steps) in
    let behind = key_behind c.args.view c.args.from rest c.in-Ok-Enter.hamt c.in-Ok-Enter.k step in
    let lower = enters_lower (length c.args.path.now) c.args.from c.in-Ok-Enter.k behind in
    let root = enters_root c.args.view c.args.from rest c.in-Ok-Enter.hamt c.in-Ok-Enter.k step in
    let within = enters_within c.args.view c.args.from c.args.path.now c.in-Ok-Enter.hamt c.in-Ok-Enter.k behind step in
    (omega (arith, lower), (le.0, (le.1, (omega (arith, c.reach-left.ensures.low, c.requires.low), (root, within)))))

pub tell_from-returns-in-Ok-Here-clause-tells : goal.tell_from-returns-in-Ok-Here-clause-tells
tell_from-returns-in-Ok-Here-clause-tells g t c =
    let schema = subst IsSchema c.schema.ensures (record { table = c.recall.ensures.table; accepted = c.recall.ensures.accepted }) in
    tells_here g.H.KeyHash.hash_of c.args.room c.requires.low c.args.view schema c.args.from (drop c.args.from c.args.path.now) c.args.tell (g.K.Store.moment c.args.store.now) (g.K.Store.moment c.tell_here.new.store)
    c.tell_here.result c.in-Ok-Here.part c.reach-left.result.1 (stepped c.args.view c.args.from (drop c.args.from c.args.path.now) c.in-Ok-Here.field-0 _ (rw c.in-Ok-Here.is at c.in-Ok-Here.field-0-is) (rw c.in-Ok-Here.is at c.reach-left.ensures.steps)) c.reach-left.ensures.leaves c.tell_here.ensures.tells

pub tell_from-returns-in-Ok-Enter-clause-tells : goal.tell_from-returns-in-Ok-Enter-clause-tells
tell_from-returns-in-Ok-Enter-clause-tells g t c =
    let schema = subst IsSchema c.schema.ensures (record { table = c.recall.ensures.table; accepted = c.recall.ensures.accepted }) in
    let view = c.args.view in
    let left = drop c.args.from c.args.path.now in
    let step = stepped c.args.view c.args.from (drop c.args.from c.args.path.now) c.in-Ok-Enter.field-0 _ (rw c.in-Ok-Enter.is at c.in-Ok-Enter.field-0-is) (rw c.in-Ok-Enter.is at c.reach-left.ensures.steps) in
    let m = g.K.Store.moment c.args.store.now in
    let n = g.K.Store.moment c.tell_in.new.store in
    tells_in g.H.KeyHash.hash_of c.args.room c.requires.low view schema c.args.from left c.args.tell m n c.tell_in.result c.in-Ok-Enter.hamt c.reach-left.result.1 c.in-Ok-Enter.k c.args.path.now refl step c.reach-left.ensures.leaves
    c.tell_in.ensures.tells

pub tell_from-returns-in-Err-clause-tells : goal.tell_from-returns-in-Err-clause-tells
tell_from-returns-in-Err-clause-tells g t c =
    let schema = subst IsSchema c.schema.ensures (record { table = c.recall.ensures.table; accepted = c.recall.ensures.accepted }) in
    tells_none g.H.KeyHash.hash_of c.args.room c.requires.low c.args.view schema c.args.from (drop c.args.from c.args.path.now) c.args.tell (g.K.Store.moment c.args.store.now) (g.K.Store.moment c.args.store.now) c.absent.result
    c.in-Err.field-0 (rw c.in-Err.is at c.reach-left.ensures.steps) c.absent.ensures refl

pub tell_in-returns-in_err-trail-clause-tells : goal.tell_in-returns-in_err-trail-clause-tells
tell_in-returns-in_err-trail-clause-tells g t c =
    let schema = subst IsSchema c.schema.ensures (record { table = c.recall.ensures.table; accepted = c.recall.ensures.accepted }) in
    let here = ap Some c.as_str.ensures.same ∙ c.in-Some-get.ensures in
    let p = err_from_is_err_and c.from_residual.result c.from_residual.ensures.1 in
    rw (p.1, p.2) (tells_stopped g.H.KeyHash.hash_of c.args.room c.requires.low c.args.hamt schema (g.K.Store.moment c.args.store.now) c.args.path.now c.args.k c.args.tell c.in-Some.root c.in-Some.ensures c.as_str.result.now here
    (Err c.in_err-trail.field-0.0) (g.K.Store.moment c.trail_of.new.store) c.in_err-trail.ensures.enters c.in_err-trail.field-0.0 refl)

pub tell_in-returns-in_default-found-clause-tells : goal.tell_in-returns-in_default-found-clause-tells
tell_in-returns-in_default-found-clause-tells g t c =
    let schema = subst IsSchema c.schema.ensures (record { table = c.recall.ensures.table; accepted = c.recall.ensures.accepted }) in
    let here = ap Some c.as_str.ensures.same ∙ c.in-Some-get.ensures in
    tells_absent g.H.KeyHash.hash_of c.args.room c.requires.low c.args.hamt schema (g.K.Store.moment c.args.store.now) c.args.path.now c.args.k c.args.tell c.in-Some.root c.in-Some.ensures c.as_str.result.now here (Ok c.in_ok-trail.trail)
    (g.K.Store.moment c.trail_of.new.store) c.in_ok-trail.ensures.enters c.in_ok-trail.trail refl c.found.result (λ p slots es has is. c.found.ensures.trie g.H.KeyHash.hash_of p c.as_str.result.now slots es has is) c.absent.result
    c.in_default-found.is c.absent.ensures

pub tell_in-overflow_add-k : goal.tell_in-overflow_add-k
tell_in-overflow_add-k g t c =
    let here = ap Some c.as_str.ensures.same ∙ c.in-Some-get.ensures in
    let less = below_length c.args.path.now c.args.k c.as_str.result.now here in
    omega (arith, less, c.len-count.ensures, c.len-count.type_inv)

pub tell_in-tell_from-requires : goal.tell_in-tell_from-requires
tell_in-tell_from-requires g t c = λ κs le.
    let here = ap Some c.as_str.ensures.same ∙ c.in-Some-get.ensures in
    let lower = on_lower (length c.args.path.now) c.args.k (below_length c.args.path.now c.args.k c.as_str.result.now here) in
    let node = c.in-Some-found.node in
    let shallow = shallow_entry (table_of c.args.hamt) c.saturating_sub-less.result (form_of (table_of c.args.hamt) (slot_of c.args.hamt)) node c.in-Ok.part (∥∥₁_map node.stands (λ s. (s.of, s.spells))) c.in-Ok.ensures.checks in
    (omega (arith, lower), (le.0, (le.1, (omega (arith, c.saturating_sub-less.ensures, c.requires.low), shallow))))

pub tell_from-tell_here-requires-clause-shallow : goal.tell_from-tell_here-requires-clause-shallow
tell_from-tell_here-requires-clause-shallow g t c =
    let schema = subst IsSchema c.schema.ensures (record { table = c.recall.ensures.table; accepted = c.recall.ensures.accepted }) in
    shallow_here c.args.room c.args.view schema c.args.from (drop c.args.from c.args.path.now) c.in-Ok-Here.part c.reach-left.result.1 (stepped c.args.view c.args.from (drop c.args.from c.args.path.now) c.in-Ok-Here.field-0 _ (rw c.in-Ok-Here.is at c.in-Ok-Here.field-0-is) (rw c.in-Ok-Here.is at c.reach-left.ensures.steps)) c.reach-left.ensures.leaves c.requires.shallow

pub tell_in-returns-in-Ok-clause-tells : goal.tell_in-returns-in-Ok-clause-tells
tell_in-returns-in-Ok-clause-tells g t c =
    let schema = subst IsSchema c.schema.ensures (record { table = c.recall.ensures.table; accepted = c.recall.ensures.accepted }) in
    let here = ap Some c.as_str.ensures.same ∙ c.in-Some-get.ensures in
    tells_on g.H.KeyHash.hash_of c.args.room c.requires.low c.args.hamt schema (g.K.Store.moment c.args.store.now) c.args.path.now c.args.k c.args.tell c.in-Some.root c.in-Some.ensures c.as_str.result.now here (Ok c.in_ok-trail.trail)
    (g.K.Store.moment c.trail_of.new.store) c.in_ok-trail.ensures.enters c.in_ok-trail.trail refl c.found.result (λ p slots es has is. c.found.ensures.trie g.H.KeyHash.hash_of p c.as_str.result.now slots es has is)
    c.saturating_sub-less.result (left_behind c.args.room c.saturating_sub-less.result c.levels.result _ c.saturating_sub-less.ensures c.levels.ensures) c.in-Some-found.node c.in-Ok.part (g.K.Store.moment c.tell_from.new.store) c.tell_from.result c.in-Some-found.is c.in-Ok.ensures.checks c.tell_from.ensures.tells

pub tell_in-returns-clause-tells : goal.tell_in-returns-clause-tells
tell_in-returns-clause-tells g t c =
    let schema = subst IsSchema c.schema.ensures (record { table = c.recall.ensures.table; accepted = c.recall.ensures.accepted }) in
    let here = ap Some c.as_str.ensures.same ∙ c.in-Some-get.ensures in
    tells_refused g.H.KeyHash.hash_of c.args.room c.requires.low c.args.hamt schema (g.K.Store.moment c.args.store.now) c.args.path.now c.args.k c.args.tell c.in-Some.root c.in-Some.ensures c.as_str.result.now here (Ok c.in_ok-trail.trail)
    (g.K.Store.moment c.trail_of.new.store) c.in_ok-trail.ensures.enters c.in_ok-trail.trail refl c.found.result (λ p slots es has is. c.found.ensures.trie g.H.KeyHash.hash_of p c.as_str.result.now slots es has is)
    c.saturating_sub-less.result (left_behind c.args.room c.saturating_sub-less.result c.levels.result _ c.saturating_sub-less.ensures c.levels.ensures) c.in-Some-found.node c.in-Err.fault c.in-Some-found.is c.in-Err.ensures.checks

pub tell_in-unreachable-requires : goal.tell_in-unreachable-requires
tell_in-unreachable-requires g t c = ∥∥₁_elim c.requires.root (hlevel props) (λ x. c.in_default.ensures (hamt x.0) x.1)

pub tell_in-unreachable-requires-in_default-get : goal.tell_in-unreachable-requires-in_default-get
tell_in-unreachable-requires-in_default-get g t c = never_past c.args.path.now c.args.k c.requires.within c.in_default-get.ensures

pub tell_from-returns-in-Ok-Here-clause-refused : goal.tell_from-returns-in-Ok-Here-clause-refused
tell_from-returns-in-Ok-Here-clause-refused g t c = λ f d seen front.
    let view = c.args.view in
    let schema = subst IsSchema c.schema.ensures (record { table = c.recall.ensures.table; accepted = c.recall.ensures.accepted }) in
    let left = drop c.args.from c.args.path.now in
    refuses_here c.parts_stand_in_data.ensures g.H.KeyHash.hash_of (table_of view) schema (id_of (bytes_in c.args.at)) c.args.room c.args.from (slot_of view, f) d left front (g.K.Store.moment c.args.store.now)
    (g.K.Store.moment c.tell_here.new.store) c.tell_here.result c.in-Ok-Here.part c.reach-left.result.1 (c.reach-left.ensures.leaves f seen) (stepped c.args.view c.args.from (drop c.args.from c.args.path.now) c.in-Ok-Here.field-0 _ (rw c.in-Ok-Here.is at c.in-Ok-Here.field-0-is) (rw c.in-Ok-Here.is at c.reach-left.ensures.steps) f seen) c.tell_here.ensures.refused

pub tell_from-returns-in-Ok-Enter-clause-refused : goal.tell_from-returns-in-Ok-Enter-clause-refused
tell_from-returns-in-Ok-Enter-clause-refused g t c = λ f d seen front.
    let view = c.args.view in
    let schema = subst IsSchema c.schema.ensures (record { table = c.recall.ensures.table; accepted = c.recall.ensures.accepted }) in
    let left = drop c.args.from c.args.path.now in
    refuses_entered c.parts_stand_in_data.ensures g.H.KeyHash.hash_of (table_of view) schema (id_of (bytes_in c.args.at)) c.args.room c.args.from (slot_of view, f) d left front (g.K.Store.moment c.args.store.now)
    (g.K.Store.moment c.tell_in.new.store) c.tell_in.result c.in-Ok-Enter.hamt c.in-Ok-Enter.k c.reach-left.result.1 (bytes_in c.args.at) refl (c.reach-left.ensures.leaves f seen)
    (stepped c.args.view c.args.from (drop c.args.from c.args.path.now) c.in-Ok-Enter.field-0 _ (rw c.in-Ok-Enter.is at c.in-Ok-Enter.field-0-is) (rw c.in-Ok-Enter.is at c.reach-left.ensures.steps) f seen) c.tell_in.ensures.refused

pub tell_from-returns-in-Err-clause-refused : goal.tell_from-returns-in-Err-clause-refused
tell_from-returns-in-Err-clause-refused g t c = λ f d seen front.
    let view = c.args.view in
    let m = g.K.Store.moment c.args.store.now in
    nothing_along g.H.KeyHash.hash_of (table_of view) (id_of (bytes_in c.args.at)) c.args.room (slot_of view) d m m c.args.tell c.absent.result c.absent.ensures

pub tell_in-returns-in_err-trail-clause-refused : goal.tell_in-returns-in_err-trail-clause-refused
tell_in-returns-in_err-trail-clause-refused g t c =
    let p = err_from_is_err_and c.from_residual.result c.from_residual.ensures.1 in
    rw (p.1, p.2) (λ slot z x lower.
    stops_in g.H.KeyHash.hash_of c.args.hamt slot (bytes_in c.args.at) c.as_str.result.now z (g.K.Store.moment c.args.store.now) (g.K.Store.moment c.trail_of.new.store) x c.in-Some.root (c.in-Some.ensures (hamt x.tree) x.stands)
    c.in_err-trail.field-0.0 c.in_err-trail.ensures.walks)

pub tell_in-returns-in_default-found-clause-refused : goal.tell_in-returns-in_default-found-clause-refused
tell_in-returns-in_default-found-clause-refused g t c = λ slot z x lower.
    nothing_in g.H.KeyHash.hash_of (table_of c.args.hamt) z (g.K.Store.moment c.args.store.now) (g.K.Store.moment c.trail_of.new.store) c.args.tell c.absent.result c.absent.ensures

pub tell_in-returns-in-Ok-clause-refused : goal.tell_in-returns-in-Ok-clause-refused
tell_in-returns-in-Ok-clause-refused g t c = λ slot z x lower.
    goes_on g.H.KeyHash.hash_of c.args.hamt slot (bytes_in c.args.at) c.as_str.result.now z (g.K.Store.moment c.args.store.now) (g.K.Store.moment c.trail_of.new.store) x c.in-Some.root (c.in-Some.ensures (hamt x.tree) x.stands)
    c.in_ok-trail.trail c.in_ok-trail.ensures.walks c.in-Some-found.node c.in-Some-found.ensures.at_end _ c.end_at-end.ensures c.saturating_sub-less.result
    (left_of_site c.args.hamt slot (bytes_in c.args.at) z x c.args.room c.saturating_sub-less.result c.levels.result lower c.saturating_sub-less.ensures c.levels.ensures) c.in-Ok.part (g.K.Store.moment c.tell_from.new.store)
    c.tell_from.result c.in-Ok.ensures.checks c.tell_from.ensures.refused

pub tell_in-returns-clause-refused : goal.tell_in-returns-clause-refused
tell_in-returns-clause-refused g t c = λ slot z x lower.
    stops_at g.H.KeyHash.hash_of c.args.hamt slot (bytes_in c.args.at) c.as_str.result.now z (g.K.Store.moment c.args.store.now) (g.K.Store.moment c.trail_of.new.store) x c.in-Some.root (c.in-Some.ensures (hamt x.tree) x.stands)
    c.in_ok-trail.trail c.in_ok-trail.ensures.walks c.in-Some-found.node c.in-Some-found.ensures.at_end _ c.end_at-end.ensures c.saturating_sub-less.result
    (left_of_site c.args.hamt slot (bytes_in c.args.at) z x c.args.room c.saturating_sub-less.result c.levels.result lower c.saturating_sub-less.ensures c.levels.ensures) c.in-Err.fault c.in-Err.ensures.refused
