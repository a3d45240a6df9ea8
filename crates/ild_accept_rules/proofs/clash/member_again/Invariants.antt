use Rattle.std.proofs.Common.{◌≡◌, ℕ, List, [], ◌&&◌, length, take, drop}
use Rattle.std.specs.Prelude.{bytes_eq}
use Rattle.std.specs.List.{list_any}
use Rattle.ild_schema.specs.Clashes.{is_member_again}
use Rattle.ild_schema.specs.Marks.{is_marked}
use Rattle.ild_schema.specs.Places.{first_beside}
use Rattle.ild_accept_rules.specs.inside.Seen.{first_named, is_seen}
use Rattle.ild_accept_rules.proofs.clash.member_again.Given as goal

abbrev pub invariant-loop-part : goal.invariant-loop-part
invariant-loop-part l = record {
  so_far : first_beside (is_member_again l.schema l.def.form) (λ m. m.at) (take l.part l.def.members) (drop l.part l.def.members) ≡ first_beside (is_member_again l.schema l.def.form) (λ m. m.at) [] l.def.members;
  size : length l.names.items ≡ length l.def.members;
  names : (q : List ℕ) → is_seen l.names.items (first_named l.schema l.ty.0 q) ≡ list_any (λ g. is_marked l.def.form g && bytes_eq q g.name) (take l.part l.def.members);
}
