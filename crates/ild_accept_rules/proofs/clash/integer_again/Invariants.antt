use Rattle.std.proofs.Common.{◌≡◌, ℕ, ℤ, List, [], ◌&&◌, Some, length, take, drop}
use Rattle.std.specs.Prelude.{bytes_eq}
use Rattle.std.specs.BTreeSet.{contains}
use Rattle.std.specs.Ordering.{int_cmp}
use Rattle.std.specs.List.{list_any}
use Rattle.ild_schema.specs.declared.def.EnumForm.TheVariants as E
use Rattle.ild_schema.specs.Clashes.{is_value_again, are_equal}
use Rattle.ild_schema.specs.Marks.{is_valued, member_integer}
use Rattle.ild_schema.specs.Places.{first_beside}
use Rattle.ild_accept_rules.specs.inside.Seen.{first_named, is_seen}
use Rattle.ild_accept_rules.proofs.clash.integer_again.Given as goal

abbrev pub invariant-loop-member : goal.invariant-loop-member
invariant-loop-member l = record {
  so_far : first_beside (is_value_again E.Int) (λ m. m.at) (take l.member-index l.def.members) (drop l.member-index l.def.members) ≡ first_beside (is_value_again E.Int) (λ m. m.at) [] l.def.members;
  size : length l.names.items ≡ length l.def.members;
  names : (q : List ℕ) → is_seen l.names.items (first_named l.schema l.ty.0 q) ≡ list_any (λ g. is_valued E.Int g && bytes_eq q g.name) (take l.member-index l.def.members);
  numbers : (q : ℤ) → contains int_cmp l.numbers q ≡ list_any (λ g. is_valued E.Int g && are_equal (Some q) (member_integer g)) (take l.member-index l.def.members);
}
