use Rattle.std.proofs.Common.{◌∙◌}
use Rattle.std.proofs.Math.Logic.{∥∥₁_elim}
use Rattle.std.proofs.Props.{props}
use Rattle.ild_path_hops.proofs.Linking.{at_last, none_last}
use Rattle.ild_path_hops.specs.Links.{IsRootAt}
use Rattle.ild_cbor.specs.Nodes.{HasData}
use Rattle.ild_path_entry.specs.Entry.{IsEntry}
use Rattle.ild_path_outward.proofs.Stepping.{entry_view, last_is, leads_entry, leads_root, sets_at, sets_in}
use Rattle.ild_path_outward.proofs.step.set_last.Goals as goal

pub returns-in-Some-clause-below : goal.returns-in-Some-clause-below
returns-in-Some-clause-below g c = λ is_key rows s was k before above told is x entry stands.
    let same = last_is before above c.in-Some.hop.now c.args.hops.now is c.in-Some.ensures.value in
    let own : IsEntry rows s x.room x.t c.in-Some.hop.now.entry = rw same entry in
    let view = c.view-level.result in
    let at = c.view-level.ensures in
    let sets = sets_in g.H.KeyHash.hash_of view c.args.front.now c.args.trail c.args.item.now (g.K.Store.moment c.args.store.now) (g.K.Store.moment c.set_entry.new.store) c.set_entry.result c.set_entry.ensures.sets in
    sets_at g.H.KeyHash.hash_of rows s view c.args.front.now c.args.trail (λ d. HasData c.args.item.now d) (g.K.Store.moment c.args.store.now) (g.K.Store.moment c.set_entry.new.store) c.set_entry.result (at.table ∙ own.table) (at.slot ∙ own.slot) sets is_key was k told x
    (entry_view g.H.KeyHash.hash_of rows s x.room x.v x.t c.in-Some.hop.now.entry view x.schema x.held.fits x.held.tree own at.table at.slot at.safe at.whole) stands

pub returns-in-None-clause-root : goal.returns-in-None-clause-root
returns-in-None-clause-root g c = λ none.
    sets_in g.H.KeyHash.hash_of c.args.root c.args.front.now c.args.trail c.args.item.now (g.K.Store.moment c.args.store.now) (g.K.Store.moment c.set_entry-in-None.new.store) c.set_entry-in-None.result c.set_entry-in-None.ensures.sets

pub set_entry-requires-clause-leads : goal.set_entry-requires-clause-leads
set_entry-requires-clause-leads g c =
    let at = c.view-level.ensures in
    ∥∥₁_elim c.requires.leads (hlevel props) (λ x.
    leads_entry c.in-Some.hop.now.entry c.args.front.now c.view-level.result at.table at.slot at.front
    (at_last (λ rows p. IsRootAt rows p c.args.front.now) c.args.root c.args.hops.now c.in-Some.hop.now c.in-Some.ensures.value x))

pub set_entry-requires-in-None-clause-leads : goal.set_entry-requires-in-None-clause-leads
set_entry-requires-in-None-clause-leads g c =
    ∥∥₁_elim c.requires.leads (hlevel props) (λ x. leads_root c.args.root c.args.hops.now c.args.front.now (none_last c.args.hops.now c.in-None.ensures.value) x)
