use Rattle.std.proofs.Common.{◌∷◌, ◌++◌, false, Ok, Err, length, refl, ap, ◌∙◌, subst, arith}
use Rattle.std.proofs.lemmas.Result.{err_from_is_err_and}
use Rattle.ild_path_inward.proofs.Halting.{none_left}
use Rattle.ild_run_follow.proofs.Refusing.{goes_on, left_of_site, stops_at, stops_in}
use Rattle.ild_run_follow.proofs.Rooms.{left_behind}
use Rattle.ild_run_follow.proofs.Within.{has_slots, tells_absent, tells_on, tells_refused, tells_stopped}
use Rattle.ild_run_follow.specs.declared.kind.Tell.TheVariants.{Presence}
use Rattle.ild_run_follow.specs.inside.Faults.{hamt_fault}
use Rattle.ild_schema.specs.Value.{hamt}
use Rattle.ild_typed.specs.Schema.{IsSchema}
use Rattle.ild_view.specs.View.{slot_of, table_of}
use Rattle.ild_inclusion_prove.proofs.Along.{adds_here, adds_in, adds_nowhere}
use Rattle.ild_inclusion_prove.proofs.Entering.{adds_absent, adds_on}
use Rattle.ild_inclusion_prove.proofs.Halts.{room_kept}
use Rattle.ild_hamt.proofs.Failing.{descent_reads}
use Rattle.ild_inclusion_prove.proofs.Reading.{enter_wanting, entered, follow_here, follow_in, follow_none, follow_refused, is_root, same_key, walked}
use Rattle.ild_inclusion_prove.specs.inside.Faults.{told_as}
use Rattle.ild_inclusion_prove.proofs.walking.+way.Goals as goal

pub follow-enter-requires : goal.follow-enter-requires
follow-enter-requires g t c = λ κs le.
    let left = ap length c.in-Some.ensures.cases.0 in
    let few = c.halt_in-halt.ensures.left in
    let low = room_kept c.args.view c.args.room c.args.segments.now c.halt_in-halt.result c.halt_in-halt.ensures.halts in
    (omega (arith, left, few), (le.0, (le.1, (omega (arith, low, c.requires), c.in-Some-hamt.ensures))))

pub follow-returns-in_default-clause-adds : goal.follow-returns-in_default-clause-adds
follow-returns-in_default-clause-adds g t c = λ f is.
    adds_here g.H.KeyHash.hash_of (table_of c.args.view) c.args.room (slot_of c.args.view, f) c.args.segments.now c.halt_in-halt.result (c.halt_in-halt.ensures.halts f is) (g.K.Store.moment c.args.store.now) c.args.proof.now
    (none_left c.halt_in-halt.result.left.now c.in_default.ensures.cases)

pub follow-returns-in_default-clause-tells : goal.follow-returns-in_default-clause-tells
follow-returns-in_default-clause-tells g t c =
    let schema = subst IsSchema c.schema.ensures (record { table = c.recall.ensures.table; accepted = c.recall.ensures.accepted }) in
    follow_here g.H.KeyHash.hash_of c.args.room c.requires c.args.view schema c.args.segments.now c.halt_in-halt.result c.halt_in-halt.ensures.halts (g.K.Store.moment c.args.store.now)
    (none_left c.halt_in-halt.result.left.now c.in_default.ensures.cases)

pub follow-returns-in-Some-hamt-clause-adds : goal.follow-returns-in-Some-hamt-clause-adds
follow-returns-in-Some-hamt-clause-adds g t c = λ f is.
    adds_in g.H.KeyHash.hash_of (table_of c.args.view) c.args.room (slot_of c.args.view, f) c.args.segments.now c.halt_in-halt.result (c.halt_in-halt.ensures.halts f is) c.in-Some-hamt.root c.in-Some-hamt.ensures
    c.in-Some.key.now c.in-Some.behind.now c.in-Some.ensures.cases.0 (g.K.Store.moment c.args.store.now) (g.K.Store.moment c.enter.new.store) c.args.proof.now c.enter.new.proof c.enter.result c.enter.ensures.adds

pub follow-returns-in-Some-hamt-clause-tells : goal.follow-returns-in-Some-hamt-clause-tells
follow-returns-in-Some-hamt-clause-tells g t c =
    let schema = subst IsSchema c.schema.ensures (record { table = c.recall.ensures.table; accepted = c.recall.ensures.accepted }) in
    follow_in g.H.KeyHash.hash_of c.args.room c.requires c.args.view schema c.args.segments.now c.halt_in-halt.result c.halt_in-halt.ensures.halts (g.K.Store.moment c.args.store.now) c.in-Some-hamt.root c.in-Some-hamt.ensures
    c.in-Some.key.now c.in-Some.behind.now c.in-Some.ensures.cases.0 (g.K.Store.moment c.enter.new.store) c.enter.result c.enter.ensures.tells

pub follow-returns-in-Some-hamt-clause-refused : goal.follow-returns-in-Some-hamt-clause-refused
follow-returns-in-Some-hamt-clause-refused g t c =
    let schema = subst IsSchema c.schema.ensures (record { table = c.recall.ensures.table; accepted = c.recall.ensures.accepted }) in
    follow_refused g.H.KeyHash.hash_of c.args.room c.requires c.args.view schema c.args.segments.now c.halt_in-halt.result c.halt_in-halt.ensures.halts (g.K.Store.moment c.args.store.now) c.parts_stand_in_data.ensures c.in-Some-hamt.root
    c.in-Some-hamt.ensures c.in-Some.key.now c.in-Some.behind.now c.in-Some.ensures.cases.0 c.args.block.now (g.K.Store.moment c.enter.new.store) c.enter.result c.enter.ensures.refused

pub follow-returns-in-None-clause-adds : goal.follow-returns-in-None-clause-adds
follow-returns-in-None-clause-adds g t c = λ f is.
    adds_nowhere g.H.KeyHash.hash_of (table_of c.args.view) c.args.room (slot_of c.args.view, f) c.args.segments.now c.halt_in-halt.result (c.halt_in-halt.ensures.halts f is) (g.K.Store.moment c.args.store.now) c.args.proof.now
    c.in-Some.key.now c.in-Some.behind.now c.in-Some.ensures.cases.0 c.in-None.ensures

pub follow-returns-in-None-clause-tells : goal.follow-returns-in-None-clause-tells
follow-returns-in-None-clause-tells g t c =
    let schema = subst IsSchema c.schema.ensures (record { table = c.recall.ensures.table; accepted = c.recall.ensures.accepted }) in
    follow_none g.H.KeyHash.hash_of c.args.room c.requires c.args.view schema c.args.segments.now c.halt_in-halt.result c.halt_in-halt.ensures.halts (g.K.Store.moment c.args.store.now)
    c.in-Some.key.now c.in-Some.behind.now c.in-Some.ensures.cases.0 c.in-None.ensures

-- ---- a HAMT

pub enter-returns-in-Err-clause-alone : goal.enter-returns-in-Err-clause-alone
enter-returns-in-Err-clause-alone g t c = descent_reads g.H.KeyHash.hash_of c.args.root c.as_str.result.now (g.K.Store.moment c.args.store.now) (g.K.Store.moment c.descend.new.store) c.in-Err.fault c.in-Err.ensures

pub enter-returns-in-Err-clause-tells : goal.enter-returns-in-Err-clause-tells
enter-returns-in-Err-clause-tells g t c =
    let h = g.H.KeyHash.hash_of in
    let schema = subst IsSchema c.schema.ensures (record { table = c.recall.ensures.table; accepted = c.recall.ensures.accepted }) in
    let m = g.K.Store.moment c.args.store.now in
    let n = g.K.Store.moment c.descend.new.store in
    let e = c.in-Err.fault in
    let key = c.args.key.now in
    let descent = same_key h c.args.root m n (Err e) c.as_str.result.now c.args.key.now c.as_str.ensures.same c.in-Err.ensures in
    tells_stopped h c.args.room c.requires.low c.args.hamt schema m (key ∷ c.args.behind.now) 0 Presence c.args.root c.requires.root key refl (Err (hamt_fault e)) n (entered h c.args.hamt c.args.root key m n (Err e) descent) (hamt_fault e) refl

pub enter-returns-in-Err-clause-refused : goal.enter-returns-in-Err-clause-refused
enter-returns-in-Err-clause-refused g t c = λ slot z x lower.
    let h = g.H.KeyHash.hash_of in
    let m = g.K.Store.moment c.args.store.now in
    let n = g.K.Store.moment c.descend.new.store in
    let e = c.in-Err.fault in
    let key = c.args.key.now in
    let descent = same_key h c.args.root m n (Err e) c.as_str.result.now c.args.key.now c.as_str.ensures.same c.in-Err.ensures in
    stops_in h c.args.hamt slot c.args.block.now key z m n x c.args.root (c.requires.root (hamt x.tree) x.stands) (hamt_fault e) (walked h c.args.hamt c.args.root key m n (Err e) descent)

pub enter-returns-in_err-add_all-clause-tells : goal.enter-returns-in_err-add_all-clause-tells
enter-returns-in_err-add_all-clause-tells g t c =
    let h = g.H.KeyHash.hash_of in
    let schema = subst IsSchema c.schema.ensures (record { table = c.recall.ensures.table; accepted = c.recall.ensures.accepted }) in
    let m = g.K.Store.moment c.args.store.now in
    let n = g.K.Store.moment c.descend.new.store in
    let trail = c.in-Ok.trail in
    let descent = same_key h c.args.root m n (Ok trail) c.as_str.result.now c.args.key.now c.as_str.ensures.same c.in-Ok.ensures in
    let p = err_from_is_err_and c.from_residual.result c.from_residual.ensures.1 in
    rw (p.1, p.2) (enter_wanting h c.args.hamt c.args.root c.args.key.now m n (Ok trail) descent c.args.room c.requires.low schema c.requires.root c.args.behind.now)

pub enter-returns-in_default-clause-adds : goal.enter-returns-in_default-clause-adds
enter-returns-in_default-clause-adds g t c = λ d is.
    let h = g.H.KeyHash.hash_of in
    let m = g.K.Store.moment c.args.store.now in
    let n = g.K.Store.moment c.descend.new.store in
    let trail = c.in-Ok.trail in
    let descent = same_key h c.args.root m n (Ok trail) c.as_str.result.now c.args.key.now c.as_str.ensures.same c.in-Ok.ensures in
    adds_absent h c.args.hamt c.args.root c.requires.root c.args.key.now c.args.behind.now c.args.room m n trail descent c.args.proof.now c.add_all.new.proof
    (c.in_ok-add_all.ensures ∙ ap (λ xs. c.args.proof.now ++ xs) c.blocks-nodes.ensures) d is c.found.result c.found.ensures.at_end c.in_default.is

pub enter-returns-in_default-clause-tells : goal.enter-returns-in_default-clause-tells
enter-returns-in_default-clause-tells g t c =
    let h = g.H.KeyHash.hash_of in
    let schema = subst IsSchema c.schema.ensures (record { table = c.recall.ensures.table; accepted = c.recall.ensures.accepted }) in
    let m = g.K.Store.moment c.args.store.now in
    let n = g.K.Store.moment c.descend.new.store in
    let key = c.args.key.now in
    let trail = c.in-Ok.trail in
    let descent = same_key h c.args.root m n (Ok trail) c.as_str.result.now c.args.key.now c.as_str.ensures.same c.in-Ok.ensures in
    tells_absent h c.args.room c.requires.low c.args.hamt schema m (key ∷ c.args.behind.now) 0 Presence c.args.root c.requires.root key refl (Ok trail) n (entered h c.args.hamt c.args.root key m n (Ok trail) descent) trail refl
    c.found.result (λ p slots es has of. c.found.ensures.trie h p key slots es has of) (told_as (Ok false)) c.in_default.is refl

pub enter-entry_view-requires : goal.enter-entry_view-requires
enter-entry_view-requires g t c = is_root c.args.hamt c.args.root c.requires.root

pub enter-follow-requires : goal.enter-follow-requires
enter-follow-requires g t c = λ κs le. (omega arith, (le.0, (le.1, omega (arith, c.saturating_sub-less.ensures, c.requires.low))))

pub enter-returns-in-Ok-entry_view-clause-adds : goal.enter-returns-in-Ok-entry_view-clause-adds
enter-returns-in-Ok-entry_view-clause-adds g t c = λ d is.
    let h = g.H.KeyHash.hash_of in
    let m = g.K.Store.moment c.args.store.now in
    let n = g.K.Store.moment c.descend.new.store in
    let trail = c.in-Ok.trail in
    let descent = same_key h c.args.root m n (Ok trail) c.as_str.result.now c.args.key.now c.as_str.ensures.same c.in-Ok.ensures in
    let lower = left_behind c.args.room c.saturating_sub-less.result c.levels.result _ c.saturating_sub-less.ensures c.levels.ensures in
    adds_on h c.args.hamt c.args.root c.requires.root c.args.key.now c.args.behind.now c.args.room m n trail descent c.args.proof.now c.add_all.new.proof
    (c.in_ok-add_all.ensures ∙ ap (λ xs. c.args.proof.now ++ xs) c.blocks-nodes.ensures) d is c.found.result c.found.ensures.at_end c.in-Some.node c.in-Some.is c.saturating_sub-less.result lower c.in-Ok-entry_view.part
    c.in-Ok-entry_view.ensures.checks (g.K.Store.moment c.follow.new.store) c.follow.new.proof c.follow.result c.follow.ensures.adds

pub enter-returns-in-Ok-entry_view-clause-tells : goal.enter-returns-in-Ok-entry_view-clause-tells
enter-returns-in-Ok-entry_view-clause-tells g t c =
    let h = g.H.KeyHash.hash_of in
    let schema = subst IsSchema c.schema.ensures (record { table = c.recall.ensures.table; accepted = c.recall.ensures.accepted }) in
    let m = g.K.Store.moment c.args.store.now in
    let n = g.K.Store.moment c.descend.new.store in
    let key = c.args.key.now in
    let trail = c.in-Ok.trail in
    let descent = same_key h c.args.root m n (Ok trail) c.as_str.result.now c.args.key.now c.as_str.ensures.same c.in-Ok.ensures in
    let lower = left_behind c.args.room c.saturating_sub-less.result c.levels.result _ c.saturating_sub-less.ensures c.levels.ensures in
    tells_on h c.args.room c.requires.low c.args.hamt schema m (key ∷ c.args.behind.now) 0 Presence c.args.root c.requires.root key refl (Ok trail) n (entered h c.args.hamt c.args.root key m n (Ok trail) descent) trail refl
    c.found.result (λ p slots es has of. c.found.ensures.trie h p key slots es has of) c.saturating_sub-less.result lower c.in-Some.node c.in-Ok-entry_view.part (g.K.Store.moment c.follow.new.store) (told_as c.follow.result) c.in-Some.is
    c.in-Ok-entry_view.ensures.checks c.follow.ensures.tells

pub enter-returns-in-Ok-entry_view-clause-refused : goal.enter-returns-in-Ok-entry_view-clause-refused
enter-returns-in-Ok-entry_view-clause-refused g t c = λ slot z x lower.
    let h = g.H.KeyHash.hash_of in
    let m = g.K.Store.moment c.args.store.now in
    let n = g.K.Store.moment c.descend.new.store in
    let key = c.args.key.now in
    let trail = c.in-Ok.trail in
    let descent = same_key h c.args.root m n (Ok trail) c.as_str.result.now c.args.key.now c.as_str.ensures.same c.in-Ok.ensures in
    goes_on h c.args.hamt slot c.args.block.now key z m n x c.args.root (c.requires.root (hamt x.tree) x.stands) trail (walked h c.args.hamt c.args.root key m n (Ok trail) descent) c.in-Some.node c.in-Some.ensures.at_end _ c.end_of-end.ensures
    c.saturating_sub-less.result (left_of_site c.args.hamt slot c.args.block.now z x c.args.room c.saturating_sub-less.result c.levels.result lower c.saturating_sub-less.ensures c.levels.ensures) c.in-Ok-entry_view.part
    (g.K.Store.moment c.follow.new.store) (told_as c.follow.result) c.in-Ok-entry_view.ensures.checks c.follow.ensures.refused

pub enter-returns-clause-tells : goal.enter-returns-clause-tells
enter-returns-clause-tells g t c =
    let h = g.H.KeyHash.hash_of in
    let schema = subst IsSchema c.schema.ensures (record { table = c.recall.ensures.table; accepted = c.recall.ensures.accepted }) in
    let m = g.K.Store.moment c.args.store.now in
    let n = g.K.Store.moment c.descend.new.store in
    let key = c.args.key.now in
    let trail = c.in-Ok.trail in
    let descent = same_key h c.args.root m n (Ok trail) c.as_str.result.now c.args.key.now c.as_str.ensures.same c.in-Ok.ensures in
    let lower = left_behind c.args.room c.saturating_sub-less.result c.levels.result _ c.saturating_sub-less.ensures c.levels.ensures in
    tells_refused h c.args.room c.requires.low c.args.hamt schema m (key ∷ c.args.behind.now) 0 Presence c.args.root c.requires.root key refl (Ok trail) n (entered h c.args.hamt c.args.root key m n (Ok trail) descent) trail refl
    c.found.result (λ p slots es has of. c.found.ensures.trie h p key slots es has of) c.saturating_sub-less.result lower c.in-Some.node (hamt_fault c.in-Err-entry_view.fault) c.in-Some.is c.in-Err-entry_view.ensures.checks

pub enter-returns-clause-refused : goal.enter-returns-clause-refused
enter-returns-clause-refused g t c = λ slot z x lower.
    let h = g.H.KeyHash.hash_of in
    let m = g.K.Store.moment c.args.store.now in
    let n = g.K.Store.moment c.descend.new.store in
    let key = c.args.key.now in
    let trail = c.in-Ok.trail in
    let descent = same_key h c.args.root m n (Ok trail) c.as_str.result.now c.args.key.now c.as_str.ensures.same c.in-Ok.ensures in
    stops_at h c.args.hamt slot c.args.block.now key z m n x c.args.root (c.requires.root (hamt x.tree) x.stands) trail (walked h c.args.hamt c.args.root key m n (Ok trail) descent) c.in-Some.node c.in-Some.ensures.at_end _ c.end_of-end.ensures
    c.saturating_sub-less.result (left_of_site c.args.hamt slot c.args.block.now z x c.args.room c.saturating_sub-less.result c.levels.result lower c.saturating_sub-less.ensures c.levels.ensures) (hamt_fault c.in-Err-entry_view.fault)
    c.in-Err-entry_view.ensures.refused
