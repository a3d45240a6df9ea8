use Rattle.std.proofs.Common.{◌≡◌, ◌++◌, ◌&&◌, take, drop, length, Some, ap, ◌∙◌, arith}
use Rattle.std.specs.BTreeSet.{contains}
use Rattle.std.specs.Ordering.{int_cmp}
use Rattle.std.specs.Option.{option_and_then}
use Rattle.std.proofs.lemmas.List.{take_at}
use Rattle.ild_schema.specs.declared.def.EnumForm.TheVariants as E
use Rattle.ild_schema.specs.Clashes.{is_value_again, are_equal}
use Rattle.ild_schema.specs.Marks.{is_valued, member_integer}
use Rattle.ild_schema.specs.Parts.{part_named}
use Rattle.ild_accept_rules.specs.inside.Seen.{first_named, is_seen}
use Rattle.ild_accept_rules.proofs.Among.{among_next, integer_judged, names_next}
use Rattle.ild_accept_rules.proofs.Stepping.{beside_found, beside_next}
use Rattle.ild_accept_rules.proofs.clash.integer_again.Goals as goal

pub returns-then-branch : goal.returns-then-branch
returns-then-branch c =
    let first = first_named c.args.schema.now c.args.ty.0 in
    let is : is_value_again E.Int (take c.loop-member.member-index c.args.def.now.members) c.member-item.result ≡ c.in_ok-is_integer_seen.field-0 =
    integer_judged (take c.loop-member.member-index c.args.def.now.members) c.member-item.result (λ q. is_seen c.loop-member.names.items (first q)) (λ q. contains int_cmp c.loop-member.numbers q) c.in_ok-is_integer_seen.field-0 c.loop-member.invariant.names c.loop-member.invariant.numbers (rw c.deref_mut.ensures.value at c.in_ok-is_integer_seen.ensures.was) in
    beside_found (is_value_again E.Int) (λ m. m.at) c.args.def.now.members c.loop-member.member-index c.member-item.result _ (rw c.as_slice-member-items.ensures at c.loop-member-test.true) (rw c.as_slice-member-items.ensures at c.member-item.is) (is ∙ c.if-branch.true) c.loop-member.invariant.so_far

pub loop-member-preserved : goal.loop-member-preserved
loop-member-preserved c =
    let first = first_named c.args.schema.now c.args.ty.0 in
    let is : is_value_again E.Int (take c.loop-member.member-index c.args.def.now.members) c.member-item.result ≡ c.in_ok-is_integer_seen.field-0 =
    integer_judged (take c.loop-member.member-index c.args.def.now.members) c.member-item.result (λ q. is_seen c.loop-member.names.items (first q)) (λ q. contains int_cmp c.loop-member.numbers q) c.in_ok-is_integer_seen.field-0 c.loop-member.invariant.names c.loop-member.invariant.numbers (rw c.deref_mut.ensures.value at c.in_ok-is_integer_seen.ensures.was) in
    let kept : take c.loop-member.names.len (c.is_integer_seen.new.names ++ drop (length c.is_integer_seen.new.names) c.loop-member.names.items) ≡ c.is_integer_seen.new.names =
    take_at c.is_integer_seen.new.names (drop (length c.is_integer_seen.new.names) c.loop-member.names.items) c.loop-member.names.len (omega (arith, (rw c.deref_mut.ensures.value at c.is_integer_seen.ensures.size))) in
    record {
      so_far = beside_next (is_value_again E.Int) (λ m. m.at) c.args.def.now.members c.loop-member.member-index c.member-item.result _ (rw c.as_slice-member-items.ensures at c.loop-member-test.true) (rw c.as_slice-member-items.ensures at c.member-item.is) (is ∙ c.if-branch.false) c.loop-member.invariant.so_far;
      size = ap length kept ∙ (rw c.deref_mut.ensures.value at c.is_integer_seen.ensures.size) ∙ c.loop-member.invariant.size;
      names = λ q. ap (λ ms. is_seen ms (first q)) kept ∙ names_next (λ m. m.name) (is_valued E.Int) first c.args.def.now.members c.loop-member.member-index c.member-item.result c.loop-member.names.items c.is_integer_seen.new.names
          (rw c.as_slice-member-items.ensures at c.loop-member-test.true) (rw c.as_slice-member-items.ensures at c.member-item.is) (λ t. ap (option_and_then (part_named t)) c.requires.def) c.loop-member.invariant.names (rw c.deref_mut.ensures.value at c.in_ok-is_integer_seen.ensures.names) q;
      numbers = among_next (λ q g. is_valued E.Int g && are_equal (Some q) (member_integer g)) c.args.def.now.members c.loop-member.member-index c.member-item.result (λ q. contains int_cmp c.loop-member.numbers q) (λ q. contains int_cmp c.is_integer_seen.new.numbers q)
          (rw c.as_slice-member-items.ensures at c.loop-member-test.true) (rw c.as_slice-member-items.ensures at c.member-item.is) c.loop-member.invariant.numbers c.in_ok-is_integer_seen.ensures.numbers;
    }
