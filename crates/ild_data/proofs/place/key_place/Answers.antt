use Rattle.std.proofs.Common.{ℕ, List, rules}
use Rattle.std.proofs.lemmas.Fn.{always_returns_same}
use Rattle.ild_data.specs.Key.{key_cmp}
use Rattle.ild_data.specs.contracts.place.key_place.{V-type}
use Rattle.ild_data.proofs.Places.{searched, place_same, place_kept, place_value, place_absent, place_set, place_inserted, place_removed}
use Rattle.ild_data.proofs.place.key_place.Goals as goal

pub returns-clause-value : goal.returns-clause-value
returns-clause-value g c =
    let by_key = c.binary_search_by.ensures.position (λ (p : List ℕ × V-type g.row.V). key_cmp p.0 c.args.key.now) (always_returns_same _ _ _ (λ a r g called. search rules)) in
    place_value c.args.key.now c.args.pairs.now _ (searched c.args.key.now c.args.pairs.now c.requires _ c.binary_search_by.ensures.bound by_key)

pub returns-clause-absent : goal.returns-clause-absent
returns-clause-absent g c =
    let by_key = c.binary_search_by.ensures.position (λ (p : List ℕ × V-type g.row.V). key_cmp p.0 c.args.key.now) (always_returns_same _ _ _ (λ a r g called. search rules)) in
    place_absent c.args.key.now c.args.pairs.now _ (searched c.args.key.now c.args.pairs.now c.requires _ c.binary_search_by.ensures.bound by_key)

pub returns-clause-set : goal.returns-clause-set
returns-clause-set g c =
    let by_key = c.binary_search_by.ensures.position (λ (p : List ℕ × V-type g.row.V). key_cmp p.0 c.args.key.now) (always_returns_same _ _ _ (λ a r g called. search rules)) in
    place_set c.args.key.now c.args.pairs.now _ (searched c.args.key.now c.args.pairs.now c.requires _ c.binary_search_by.ensures.bound by_key)

pub returns-clause-inserted : goal.returns-clause-inserted
returns-clause-inserted g c =
    let by_key = c.binary_search_by.ensures.position (λ (p : List ℕ × V-type g.row.V). key_cmp p.0 c.args.key.now) (always_returns_same _ _ _ (λ a r g called. search rules)) in
    place_inserted c.args.key.now c.args.pairs.now _ (searched c.args.key.now c.args.pairs.now c.requires _ c.binary_search_by.ensures.bound by_key)

pub returns-clause-removed : goal.returns-clause-removed
returns-clause-removed g c =
    let by_key = c.binary_search_by.ensures.position (λ (p : List ℕ × V-type g.row.V). key_cmp p.0 c.args.key.now) (always_returns_same _ _ _ (λ a r g called. search rules)) in
    place_removed c.args.key.now c.args.pairs.now _ (searched c.args.key.now c.args.pairs.now c.requires _ c.binary_search_by.ensures.bound by_key)

pub returns-clause-same : goal.returns-clause-same
returns-clause-same g c =
    let by_key = c.binary_search_by.ensures.position (λ (p : List ℕ × V-type g.row.V). key_cmp p.0 c.args.key.now) (always_returns_same _ _ _ (λ a r g called. search rules)) in
    place_same c.args.key.now c.args.pairs.now _ (searched c.args.key.now c.args.pairs.now c.requires _ c.binary_search_by.ensures.bound by_key)

pub returns-clause-kept : goal.returns-clause-kept
returns-clause-kept g c =
    let by_key = c.binary_search_by.ensures.position (λ (p : List ℕ × V-type g.row.V). key_cmp p.0 c.args.key.now) (always_returns_same _ _ _ (λ a r g called. search rules)) in
    place_kept c.args.key.now c.args.pairs.now _ (searched c.args.key.now c.args.pairs.now c.requires _ c.binary_search_by.ensures.bound by_key)
