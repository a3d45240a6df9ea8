use Rattle.std.proofs.Common.{◌≡◌, ◌++◌, take, drop, length, ap, ◌∙◌, arith}
use Rattle.std.specs.Option.{option_and_then}
use Rattle.std.proofs.lemmas.List.{take_at}
use Rattle.ild_schema.specs.Clashes.{is_member_again}
use Rattle.ild_schema.specs.Marks.{is_marked}
use Rattle.ild_schema.specs.Parts.{part_named}
use Rattle.ild_accept_rules.specs.inside.Seen.{first_named, is_seen}
use Rattle.ild_accept_rules.proofs.Among.{member_judged, names_next}
use Rattle.ild_accept_rules.proofs.Stepping.{beside_found, beside_next}
use Rattle.ild_accept_rules.proofs.clash.member_again.Goals as goal

pub returns-then-is_member_seen : goal.returns-then-is_member_seen
returns-then-is_member_seen c =
    let is : is_member_again c.args.schema.now c.args.def.now.form (take c.loop-part.part c.args.def.now.members) c.member-item.result ≡ c.is_member_seen.result =
    member_judged c.args.schema.now c.args.ty.0 c.loop-part.part c.args.def.now c.member-item.result (λ q. is_seen c.loop-part.names.items (first_named c.args.schema.now c.args.ty.0 q)) c.is_member_seen.result c.requires.def c.loop-part.invariant.names (rw c.deref_mut.ensures.value at c.is_member_seen.ensures.was) in
    beside_found (is_member_again c.args.schema.now c.args.def.now.form) (λ m. m.at) c.args.def.now.members c.loop-part.part c.member-item.result _ (rw c.as_slice-member-items.ensures at c.loop-part-test.true) (rw c.as_slice-member-items.ensures at c.member-item.is) (is ∙ c.if-is_member_seen.true) c.loop-part.invariant.so_far

pub loop-part-preserved : goal.loop-part-preserved
loop-part-preserved c =
    let first = first_named c.args.schema.now c.args.ty.0 in
    let is : is_member_again c.args.schema.now c.args.def.now.form (take c.loop-part.part c.args.def.now.members) c.member-item.result ≡ c.is_member_seen.result =
    member_judged c.args.schema.now c.args.ty.0 c.loop-part.part c.args.def.now c.member-item.result (λ q. is_seen c.loop-part.names.items (first q)) c.is_member_seen.result c.requires.def c.loop-part.invariant.names (rw c.deref_mut.ensures.value at c.is_member_seen.ensures.was) in
    let kept : take c.loop-part.names.len (c.is_member_seen.new.names ++ drop (length c.is_member_seen.new.names) c.loop-part.names.items) ≡ c.is_member_seen.new.names =
    take_at c.is_member_seen.new.names (drop (length c.is_member_seen.new.names) c.loop-part.names.items) c.loop-part.names.len (omega (arith, (rw c.deref_mut.ensures.value at c.is_member_seen.ensures.size))) in
    record {
      so_far = beside_next (is_member_again c.args.schema.now c.args.def.now.form) (λ m. m.at) c.args.def.now.members c.loop-part.part c.member-item.result _ (rw c.as_slice-member-items.ensures at c.loop-part-test.true) (rw c.as_slice-member-items.ensures at c.member-item.is) (is ∙ c.if-is_member_seen.false) c.loop-part.invariant.so_far;
      size = ap length kept ∙ (rw c.deref_mut.ensures.value at c.is_member_seen.ensures.size) ∙ c.loop-part.invariant.size;
      names = λ q. ap (λ ms. is_seen ms (first q)) kept ∙ names_next (λ m. m.name) (is_marked c.args.def.now.form) first c.args.def.now.members c.loop-part.part c.member-item.result c.loop-part.names.items c.is_member_seen.new.names
          (rw c.as_slice-member-items.ensures at c.loop-part-test.true) (rw c.as_slice-member-items.ensures at c.member-item.is) (λ t. ap (option_and_then (part_named t)) c.requires.def) c.loop-part.invariant.names (rw c.deref_mut.ensures.value at c.is_member_seen.ensures.names) q;
    }
