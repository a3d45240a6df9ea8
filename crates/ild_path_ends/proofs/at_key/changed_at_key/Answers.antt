use Rattle.std.proofs.Math.Logic.{∥∥₁_elim}
use Rattle.std.proofs.Props.{props}
use Rattle.ild_path_ends.proofs.AtKeys.{at_key_cut, at_key_ins, at_key_set}
use Rattle.ild_path_ends.proofs.Ending.{held_q}
use Rattle.ild_path_ends.proofs.Inner.{inner_view}
use Rattle.ild_path_ends.proofs.Leading.{inner_leads}
use Rattle.ild_path_ends.proofs.at_key.changed_at_key.Goals as goal

pub returns-in-Set-clause-changes : goal.returns-in-Set-clause-changes
returns-in-Set-clause-changes g c = λ is_key was v w x t u q less k told level leads key change.
    let h = g.H.KeyHash.hash_of in
    let root = c.args.root.now in
    let hops = c.args.hops.now in
    let d = held_q h is_key was v t root hops q less level leads in
    let view = inner_view h is_key was v t root hops q less level leads d.0 d.1.tree c.innermost-view.result c.innermost-view.ensures.root c.innermost-view.ensures.entry in
    at_key_set h is_key was v t root hops q less level leads c.args.front.now k c.args.trail key c.innermost-view.result view (g.K.Store.moment c.args.store.now) (g.K.Store.moment c.set_key.new.store) told c.in-Set.item w x u
    (rw c.in-Set.is at change) c.set_key.result c.set_key.ensures.sets

pub returns-in-Insert-clause-changes : goal.returns-in-Insert-clause-changes
returns-in-Insert-clause-changes g c = λ is_key was v w x t u q less k told level leads key change.
    let h = g.H.KeyHash.hash_of in
    let root = c.args.root.now in
    let hops = c.args.hops.now in
    let d = held_q h is_key was v t root hops q less level leads in
    let view = inner_view h is_key was v t root hops q less level leads d.0 d.1.tree c.innermost-view.result c.innermost-view.ensures.root c.innermost-view.ensures.entry in
    at_key_ins h is_key was v t root hops q less level leads c.args.front.now k c.args.trail key c.innermost-view.result view (g.K.Store.moment c.args.store.now) (g.K.Store.moment c.set_key-in-Insert.new.store) told c.in-Insert.item w x u
    (rw c.in-Insert.is at change) c.set_key-in-Insert.result c.set_key-in-Insert.ensures.sets

pub returns-in-Delete-clause-changes : goal.returns-in-Delete-clause-changes
returns-in-Delete-clause-changes g c = λ is_key was v w x t u q less k told level leads key change.
    let h = g.H.KeyHash.hash_of in
    let root = c.args.root.now in
    let hops = c.args.hops.now in
    let d = held_q h is_key was v t root hops q less level leads in
    let view = inner_view h is_key was v t root hops q less level leads d.0 d.1.tree c.innermost-view.result c.innermost-view.ensures.root c.innermost-view.ensures.entry in
    at_key_cut h is_key was v t root hops q less level leads c.args.front.now k c.args.trail key c.innermost-view.result view (g.K.Store.moment c.args.store.now) (g.K.Store.moment c.cut_key.new.store) told w x u
    (rw c.in-Delete.is at change) c.cut_key.result c.cut_key.ensures.cuts

pub set_key-requires : goal.set_key-requires
set_key-requires g c =
    ∥∥₁_elim c.requires (hlevel props) (λ x.
    inner_leads c.args.root.now c.args.hops.now c.args.front.now c.innermost-view.result x c.innermost-view.ensures.root c.innermost-view.ensures.entry)

pub set_key-requires-in-Insert : goal.set_key-requires-in-Insert
set_key-requires-in-Insert g c =
    ∥∥₁_elim c.requires (hlevel props) (λ x.
    inner_leads c.args.root.now c.args.hops.now c.args.front.now c.innermost-view.result x c.innermost-view.ensures.root c.innermost-view.ensures.entry)

pub cut_key-requires : goal.cut_key-requires
cut_key-requires g c =
    ∥∥₁_elim c.requires (hlevel props) (λ x.
    inner_leads c.args.root.now c.args.hops.now c.args.front.now c.innermost-view.result x c.innermost-view.ensures.root c.innermost-view.ensures.entry)
