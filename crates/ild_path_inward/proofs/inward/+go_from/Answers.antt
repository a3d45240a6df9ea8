use Rattle.std.proofs.Common.{List, Err, Ok, refl, sym, subst, ◌∙◌}
use Rattle.std.proofs.lemmas.Result.{err_from_is_err_and}
use Rattle.std.specs.List.{All}
use Rattle.std.proofs.lemmas.List.Elements.{All-push}
use Rattle.ild_path_hops.proofs.Linking.{linked_more}
use Rattle.ild_path_hops.specs.Hops.{AreHops}
use Rattle.ild_path_hops.specs.Links.{AreLinked}
use Rattle.ild_path_hops.specs.declared.hop.Hop.{Hop}
use Rattle.ild_path_inward.specs.Inwards.{CanGoOn}
use Rattle.ild_path_inward.specs.Levels.{GoesIn, IsUnder, LevelBehind, PassesUnder}
use Rattle.ild_path_inward.specs.declared.level.Level.{Level}
use Rattle.ild_path_inward.specs.declared.inward.Inward.{Inward}
use Rattle.ild_path_inward.proofs.Failing.{later_fails, same_fails}
use Rattle.ild_path_inward.proofs.Inwarding.{can_go_on, fails_inward, goes_further, hops_more, no_more, stops_inward}
use Rattle.ild_path_inward.proofs.Refusing.{data_next, deeper_here, deeper_next, level_refuses, pass_low, refuses_next}
use Rattle.ild_path_inward.specs.Refuses.{IsDataBehind, LeavesRoom, MeetsLevel, block_behind}
use Rattle.ild_path_inward.proofs.inward.+go_from.Goals as goal

pub returns-in_err-front-clause-told : goal.returns-in_err-front-clause-told
returns-in_err-front-clause-told g t c = λ was limit p q d told go are.
    let h = g.H.KeyHash.hash_of in
    let rows = c.args.acc.now in
    let on = can_go_on h rows was c.args.hops.items limit p q c.args.room d c.args.root.now go are in
    let own = c.in_err-front.ensures.told was q on.0 told (subst (λ (gs : List Hop). CanGoOn h rows was c.args.room q on.0 c.args.root.now gs) (sym c.deref.ensures.value) on.1) in
    let r = err_from_is_err_and c.from_residual.result c.from_residual.ensures.1 in
    rw (r.1, r.2) (fails_inward h rows was limit p c.args.hops.items q c.args.room are c.args.segments.now (g.K.Store.moment c.args.store.now) (g.K.Store.moment c.go_on.new.store) c.in_err-front.field-0.0 own)

pub returns-in_err-push-in-Passes-clause-told : goal.returns-in_err-push-in-Passes-clause-told
returns-in_err-push-in-Passes-clause-told g t c = λ was limit p q d told go are.
    let h = g.H.KeyHash.hash_of in
    let rows = c.args.acc.now in
    let m = g.K.Store.moment c.args.store.now in
    let k = g.K.Store.moment c.go_on.new.store in
    let on = can_go_on h rows was c.args.hops.items limit p q c.args.room d c.args.root.now go are in
    let own = c.in_ok-front.ensures.told was q on.0 told (subst (λ (gs : List Hop). CanGoOn h rows was c.args.room q on.0 c.args.root.now gs) (sym c.deref.ensures.value) on.1) in
    let pass = subst (λ (l : Level). GoesIn h rows was c.args.room q c.args.segments.now m (Ok l) k) c.in-Passes.is own in
    let r = err_from_is_err_and c.from_residual-in_err-push-in-Passes.result c.from_residual-in_err-push-in-Passes.ensures.1 in
    rw (r.1, r.2) (no_more h rows was limit p c.args.hops.items q c.args.room are c.args.segments.now m k c.in-Passes.hop c.in-Passes.behind.now pass.0 c.in-Passes.less pass.1 pass.2)

pub returns-in-Stops-clause-told : goal.returns-in-Stops-clause-told
returns-in-Stops-clause-told g t c = λ was limit p q d told go are.
    let h = g.H.KeyHash.hash_of in
    let rows = c.args.acc.now in
    let m = g.K.Store.moment c.args.store.now in
    let k = g.K.Store.moment c.go_on.new.store in
    let on = can_go_on h rows was c.args.hops.items limit p q c.args.room d c.args.root.now go are in
    let own = c.in_ok-front.ensures.told was q on.0 told (subst (λ (gs : List Hop). CanGoOn h rows was c.args.room q on.0 c.args.root.now gs) (sym c.deref.ensures.value) on.1) in
    let stop = subst (λ (l : Level). GoesIn h rows was c.args.room q c.args.segments.now m (Ok l) k) c.in-Stops.is own in
    stops_inward h rows was limit p c.args.hops.items q c.args.room are c.args.segments.now m k c.in-Stops.field-0 _ refl refl refl refl stop

pub returns-in_ok-push-in-Passes-clause-told : goal.returns-in_ok-push-in-Passes-clause-told
returns-in_ok-push-in-Passes-clause-told g t c = λ was limit p q d told go are.
    let h = g.H.KeyHash.hash_of in
    let rows = c.args.acc.now in
    let m = g.K.Store.moment c.args.store.now in
    let k = g.K.Store.moment c.go_on.new.store in
    let on = can_go_on h rows was c.args.hops.items limit p q c.args.room d c.args.root.now go are in
    let own = c.in_ok-front.ensures.told was q on.0 told (subst (λ (gs : List Hop). CanGoOn h rows was c.args.room q on.0 c.args.root.now gs) (sym c.deref.ensures.value) on.1) in
    let pass = subst (λ (l : Level). GoesIn h rows was c.args.room q c.args.segments.now m (Ok l) k) c.in-Passes.is own in
    let items = c.in_ok-push-in-Passes.ensures.items in
    let more = hops_more h rows was limit p c.args.hops.items q c.args.room are c.args.segments.now m k c.in-Passes.hop c.in-Passes.behind.now pass.0 c.in-Passes.less pass.1 pass.2 in
    let rest = c.go_from.ensures.told was limit p pass.0 d (c.go_on.ensures.reads.blocks ∙ told) go (subst (λ (gs : List Hop). AreHops h rows was limit p gs pass.0 c.in-Passes.less) (sym items) more) in
    goes_further h rows was limit p c.args.hops.items q c.args.room are c.args.segments.now m k c.in-Passes.hop c.in-Passes.behind.now pass.0 c.in-Passes.less pass.1 pass.2
    (g.K.Store.moment c.go_from.new.store) c.go_from.result c.go_on.ensures.reads c.push.new.self.items items rest

pub returns-in_err-front-clause-failed : goal.returns-in_err-front-clause-failed
returns-in_err-front-clause-failed g t c =
    let r = err_from_is_err_and c.from_residual.result c.from_residual.ensures.1 in
    rw (r.1, r.2) (same_fails Level Inward (g.K.Store.moment c.args.store.now) (g.K.Store.moment c.go_on.new.store) c.in_err-front.field-0.0 c.in_err-front.ensures.failed)

pub returns-in_ok-push-in-Passes-clause-failed : goal.returns-in_ok-push-in-Passes-clause-failed
returns-in_ok-push-in-Passes-clause-failed g t c =
    later_fails Inward (g.K.Store.moment c.args.store.now) (g.K.Store.moment c.go_on.new.store) (g.K.Store.moment c.go_from.new.store) c.go_on.ensures.reads c.go_from.result c.go_from.ensures.failed

pub returns-in-Stops-clause-under : goal.returns-in-Stops-clause-under
returns-in-Stops-clause-under g t c = λ all. all

pub returns-in_ok-push-in-Passes-clause-under : goal.returns-in_ok-push-in-Passes-clause-under
returns-in_ok-push-in-Passes-clause-under g t c = λ all.
    let rows = c.args.acc.now in
    let own = c.in_ok-front.ensures.under (subst (λ (gs : List Hop). All (IsUnder rows) gs) (sym c.deref.ensures.value) all) in
    let passed = subst (λ (l : Level). PassesUnder rows (Ok l)) c.in-Passes.is own in
    c.go_from.ensures.under (subst (λ (gs : List Hop). All (IsUnder rows) gs) (sym c.in_ok-push-in-Passes.ensures.items) (All-push (IsUnder rows) c.args.hops.items c.in-Passes.hop all passed))

pub returns-in-Stops-clause-leads : goal.returns-in-Stops-clause-leads
returns-in-Stops-clause-leads g t c = λ all.
    let root = c.args.root.now in
    let own = subst (λ (gs : List Hop). LevelBehind root gs (Ok c.in_ok-front.field-0)) c.deref.ensures.value c.in_ok-front.ensures.leads in
    record { hops = all; front = subst (λ (l : Level). LevelBehind root c.args.hops.items (Ok l)) c.in-Stops.is own }

pub returns-in_ok-push-in-Passes-clause-leads : goal.returns-in_ok-push-in-Passes-clause-leads
returns-in_ok-push-in-Passes-clause-leads g t c = λ all.
    let root = c.args.root.now in
    let own = subst (λ (gs : List Hop). LevelBehind root gs (Ok c.in_ok-front.field-0)) c.deref.ensures.value c.in_ok-front.ensures.leads in
    let passed = subst (λ (l : Level). LevelBehind root c.args.hops.items (Ok l)) c.in-Passes.is own in
    c.go_from.ensures.leads (subst (AreLinked root) (sym c.in_ok-push-in-Passes.ensures.items) (linked_more root c.args.hops.items c.in-Passes.hop all passed))

pub returns-in_err-front-clause-refused : goal.returns-in_err-front-clause-refused
returns-in_err-front-clause-refused g t c = λ s x f d.
    let h = g.H.KeyHash.hash_of in
    let rows = c.args.acc.now in
    let m = g.K.Store.moment c.args.store.now in
    let k = g.K.Store.moment c.go_on.new.store in
    let block = block_behind c.args.block.now c.args.hops.items in
    let own = c.in_err-front.ensures.refused s x f (subst (λ (gs : List Hop). IsDataBehind rows c.args.root.now gs c.args.room s x f) (sym c.deref.ensures.value) d) in
    let here = subst (λ (gs : List Hop). MeetsLevel h rows (block_behind c.args.block.now gs) c.args.room s x m (Err c.in_err-front.field-0.0) k) c.deref.ensures.value own in
    let r = err_from_is_err_and c.from_residual.result c.from_residual.ensures.1 in
    rw (r.1, r.2) (level_refuses Inward h rows block c.args.room s x m k c.in_err-front.field-0.0 here)

pub returns-in_ok-push-in-Passes-clause-refused : goal.returns-in_ok-push-in-Passes-clause-refused
returns-in_ok-push-in-Passes-clause-refused g t c = λ s x f d.
    let h = g.H.KeyHash.hash_of in
    let rows = c.args.acc.now in
    let m = g.K.Store.moment c.args.store.now in
    let k = g.K.Store.moment c.go_on.new.store in
    let own = c.in_ok-front.ensures.refused s x f (subst (λ (gs : List Hop). IsDataBehind rows c.args.root.now gs c.args.room s x f) (sym c.deref.ensures.value) d) in
    let here = subst (λ (gs : List Hop). MeetsLevel h rows (block_behind c.args.block.now gs) c.args.room s x m (Ok c.in_ok-front.field-0) k) c.deref.ensures.value own in
    let pass = subst (λ (l : Level). MeetsLevel h rows (block_behind c.args.block.now c.args.hops.items) c.args.room s x m (Ok l) k) c.in-Passes.is here in
    let items = c.in_ok-push-in-Passes.ensures.items in
    let le = pass_low rows m.blocks (block_behind c.args.block.now c.args.hops.items) c.args.room s x c.in-Passes.hop c.in-Passes.less pass d.low in
    let next = data_next h rows c.args.root.now c.args.block.now c.args.hops.items c.push.new.self.items c.args.room s x f d c.in-Passes.hop c.in-Passes.less m k pass c.go_on.ensures.reads items le in
    refuses_next h rows c.args.root.now c.args.block.now c.args.hops.items c.push.new.self.items c.args.room s x f d c.in-Passes.hop c.in-Passes.less m k pass c.go_on.ensures.reads items Inward (g.K.Store.moment c.go_from.new.store) c.go_from.result
    (c.go_from.ensures.refused _ _ _ next)

pub returns-in-Stops-clause-deeper : goal.returns-in-Stops-clause-deeper
returns-in-Stops-clause-deeper g t c = λ s x f d.
    let h = g.H.KeyHash.hash_of in
    let rows = c.args.acc.now in
    let own = c.in_ok-front.ensures.room s x f (subst (λ (gs : List Hop). IsDataBehind rows c.args.root.now gs c.args.room s x f) (sym c.deref.ensures.value) d) in
    let leaves = subst (λ (l : Level). LeavesRoom rows c.args.room (s, f) (Ok l)) c.in-Stops.is own in
    deeper_here h rows (g.K.Store.moment c.args.store.now).blocks c.args.root.now c.args.block.now c.args.hops.items c.args.room s x f _ c.in-Stops.field-0 d leaves refl refl refl

pub returns-in_ok-push-in-Passes-clause-deeper : goal.returns-in_ok-push-in-Passes-clause-deeper
returns-in_ok-push-in-Passes-clause-deeper g t c = λ s x f d.
    let h = g.H.KeyHash.hash_of in
    let rows = c.args.acc.now in
    let m = g.K.Store.moment c.args.store.now in
    let k = g.K.Store.moment c.go_on.new.store in
    let own = c.in_ok-front.ensures.refused s x f (subst (λ (gs : List Hop). IsDataBehind rows c.args.root.now gs c.args.room s x f) (sym c.deref.ensures.value) d) in
    let here = subst (λ (gs : List Hop). MeetsLevel h rows (block_behind c.args.block.now gs) c.args.room s x m (Ok c.in_ok-front.field-0) k) c.deref.ensures.value own in
    let pass = subst (λ (l : Level). MeetsLevel h rows (block_behind c.args.block.now c.args.hops.items) c.args.room s x m (Ok l) k) c.in-Passes.is here in
    let items = c.in_ok-push-in-Passes.ensures.items in
    let le = pass_low rows m.blocks (block_behind c.args.block.now c.args.hops.items) c.args.room s x c.in-Passes.hop c.in-Passes.less pass d.low in
    let next = data_next h rows c.args.root.now c.args.block.now c.args.hops.items c.push.new.self.items c.args.room s x f d c.in-Passes.hop c.in-Passes.less m k pass c.go_on.ensures.reads items le in
    deeper_next h rows c.args.root.now c.args.block.now c.args.hops.items c.push.new.self.items c.args.room s x f d c.in-Passes.hop c.in-Passes.less m k pass c.go_on.ensures.reads items c.go_from.result
    (c.go_from.ensures.deeper _ _ _ next)
