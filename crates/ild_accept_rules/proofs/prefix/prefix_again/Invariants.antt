use Rattle.std.proofs.Common.{◌≡◌, ℕ, List, [], take, drop, filter_map}
use Rattle.std.specs.List.{list_any}
use Rattle.ild_schema.specs.Places.{first_beside}
use Rattle.ild_schema.specs.Prefixes.{prefix_fails, prefix_of, touch}
use Rattle.ild_accept_rules.specs.inside.Ordered.{IsApart}
use Rattle.ild_accept_rules.proofs.prefix.prefix_again.Given as goal

abbrev pub invariant-loop-member : goal.invariant-loop-member
invariant-loop-member l = record {
  so_far : first_beside (prefix_fails l.form) (λ m. m.at) (take l.member-index l.members) (drop l.member-index l.members) ≡ first_beside (prefix_fails l.form) (λ m. m.at) [] l.members;
  apart : IsApart l.seen.items;
  seen : (q : List ℕ) → list_any (touch q) l.seen.items ≡ list_any (touch q) (filter_map (prefix_of l.form) (take l.member-index l.members));
}
