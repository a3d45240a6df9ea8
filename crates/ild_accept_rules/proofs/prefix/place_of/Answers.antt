use Rattle.std.proofs.Common.{ℕ, List, rules}
use Rattle.std.proofs.lemmas.Fn.{always_returns_same}
use Rattle.ild_accept_rules.specs.inside.Ordered.{prefix_cmp}
use Rattle.ild_accept_rules.proofs.Orders.{search_found, search_between, search_absent}
use Rattle.ild_accept_rules.proofs.prefix.place_of.Goals as goal

pub returns-clause-found : goal.returns-clause-found
returns-clause-found c =
    let is = c.binary_search_by.ensures.position (λ (y : List ℕ). prefix_cmp y c.args.prefix.now) (always_returns_same _ _ _ (λ a r g called. search rules)) in
    search_found c.args.seen.now c.args.prefix.now _ c.binary_search_by.ensures.bound is

pub returns-clause-absent : goal.returns-clause-absent
returns-clause-absent c =
    let is = c.binary_search_by.ensures.position (λ (y : List ℕ). prefix_cmp y c.args.prefix.now) (always_returns_same _ _ _ (λ a r g called. search rules)) in
    search_absent c.args.seen.now c.args.prefix.now _ (search_between c.args.seen.now c.args.prefix.now _ c.requires c.binary_search_by.ensures.bound is)

pub returns-clause-between : goal.returns-clause-between
returns-clause-between c =
    let is = c.binary_search_by.ensures.position (λ (y : List ℕ). prefix_cmp y c.args.prefix.now) (always_returns_same _ _ _ (λ a r g called. search rules)) in
    search_between c.args.seen.now c.args.prefix.now _ c.requires c.binary_search_by.ensures.bound is
