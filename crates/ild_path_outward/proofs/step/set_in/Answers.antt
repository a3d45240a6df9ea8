use Rattle.std.proofs.Common.{subst}
use Rattle.ild_cbor.specs.Nodes.{HasData}
use Rattle.ild_node.specs.Rows.{deepest_value}
use Rattle.ild_view.specs.View.{slot_of, table_of}
use Rattle.ild_path_outward.proofs.Stepping.{entry_nests, item_is, step_none}
use Rattle.ild_path_outward.proofs.step.set_in.Goals as goal

pub returns-in-Err-clause-root : goal.returns-in-Err-clause-root
returns-in-Err-clause-root g c = λ none is_key was k told x root is.
    step_none g.H.KeyHash.hash_of is_key (table_of c.args.root) (slot_of c.args.root) was c.args.front.now k c.args.trail x (g.K.Store.moment c.args.store.now)

pub returns-in-Err-clause-below : goal.returns-in-Err-clause-below
returns-in-Err-clause-below g c = λ is_key rows s was k before above told is x entry gives.
    step_none g.H.KeyHash.hash_of is_key rows s was c.args.front.now k c.args.trail x (g.K.Store.moment c.args.store.now)

pub returns-in-Err-renewed-clause-root : goal.returns-in-Err-renewed-clause-root
returns-in-Err-renewed-clause-root g c = λ none is_key was k told x root is.
    step_none g.H.KeyHash.hash_of is_key (table_of c.args.root) (slot_of c.args.root) was c.args.front.now k c.args.trail x (g.K.Store.moment c.args.store.now)

pub returns-in-Err-renewed-clause-below : goal.returns-in-Err-renewed-clause-below
returns-in-Err-renewed-clause-below g c = λ is_key rows s was k before above told is x entry gives.
    step_none g.H.KeyHash.hash_of is_key rows s was c.args.front.now k c.args.trail x (g.K.Store.moment c.args.store.now)

pub returns-clause-root : goal.returns-clause-root
returns-clause-root g c = λ none is_key was k told x root spelled.
    let found = c.in-Ok.ensures.found in
    let same = c.as_slice.ensures.same in
    let stands = item_is g.H.KeyHash.hash_of is_key (table_of c.args.root) (slot_of c.args.root) was c.args.front.now k c.args.trail x c.args.new.now c.in-Ok.item found.0 spelled (rw same at found.1) (rw same at found.2) in
    let is = c.in-Ok-renewed.ensures x.d stands in
    c.set_last.ensures.root none is_key was k told x root (subst (HasData c.node.result) is.tree c.node.ensures.stands)

pub returns-clause-below : goal.returns-clause-below
returns-clause-below g c = λ is_key rows s was k before above told last x entry spelled.
    let found = c.in-Ok.ensures.found in
    let same = c.as_slice.ensures.same in
    let stands = item_is g.H.KeyHash.hash_of is_key rows s was c.args.front.now k c.args.trail x c.args.new.now c.in-Ok.item found.0 spelled (rw same at found.1) (rw same at found.2) in
    let is = c.in-Ok-renewed.ensures x.d stands in
    c.set_last.ensures.below is_key rows s was k before above told last x entry (subst (HasData c.node.result) is.tree c.node.ensures.stands)

pub set_last-requires-clause-nests : goal.set_last-requires-clause-nests
set_last-requires-clause-nests g c = entry_nests c.args.entry.now c.in-Ok-renewed.value c.in-Ok.item c.node.result deepest_value c.requires.room c.in-Ok-renewed.ensures c.node.ensures.nests
