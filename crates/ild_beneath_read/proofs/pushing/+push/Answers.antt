use Rattle.std.proofs.Common.{◌-◌, subst, arith}
use Rattle.ild_beneath.specs.Children.{found}
use Rattle.ild_beneath.specs.Parts.{named_parts}
use Rattle.ild_data.specs.CidView.{cid_bytes}
use Rattle.ild_data.specs.Data as T
use Rattle.ild_typed.specs.Named.{pair_entries}
use Rattle.ild_beneath_read.specs.inside.Left.{IsWithinFirst, SplitsOff}
use Rattle.ild_beneath_read.proofs.Appending.{bucket_told, fields_are, going_on, going_past, link_told, listed_slot, member_slot, named_slot, no_steps, none_more, nothing_slot, parts_slot, pushes_same, root_slot, walking_on}
use Rattle.ild_beneath_read.proofs.pushing.+push.Goals as goal

-- ---- an element of a node

pub push_element-returns-in-Some : goal.push_element-returns-in-Some
push_element-returns-in-Some t c = λ d stands.
    pushes_same c.push_link.result c.args.out.now.items c.push_link.new.out.items _ _
    (link_told c.args.acc.now c.args.steps c.args.value c.args.kind c.args.element.now d (cid_bytes c.in-Some.cid) (c.in-Some.ensures d stands)) (c.push_link.ensures (found c.args.acc.now c.args.steps c.args.value))

pub push_element-returns-in-Some-items : goal.push_element-returns-in-Some-items
push_element-returns-in-Some-items t c = λ d stands.
    let x = bucket_told c.args.acc.now c.args.steps c.args.value c.args.kind c.args.element.now d c.in-Some-items.entries (c.in-Some-items.ensures d stands) in
    pushes_same c.push_parts.result c.args.out.now.items c.push_parts.new.out.items _ _ x.2 (c.push_parts.ensures x.0 x.1)

-- ---- a node

pub push_node-loop-element-preserved : goal.push_node-loop-element-preserved
push_node-loop-element-preserved t c = λ d stands.
    walking_on (found c.args.acc.now c.args.steps c.args.value) c.args.kind c.args.out.now.items _ c.loop-element.left c.next.new.self c.loop-element.out.items (c.loop-element.invariant d stands)
    c.in-Some-next.element c.push_element.new.out.items c.in-Some-next.ensures.steps c.in_ok-push_element.ensures

-- ---- fields

pub push_named-returns : goal.push_named-returns
push_named-returns t c = λ es left.
    c.push_parts.ensures (named_parts c.args.fields.now.def.now.fields es)
    (fields_are c.args.fields.now.def.now.fields c.as_slice.result.now es c.in_ok-nodes.nodes.items c.as_slice-2.result.now c.as_slice.ensures c.as_slice-2.ensures.value (c.in_ok-nodes.ensures es left))

pub push_listed-returns : goal.push_listed-returns
push_listed-returns t c = λ ds left.
    c.push_parts.ensures (named_parts c.args.fields.now.def.now.fields (pair_entries (T.items_list ds)))
    (fields_are c.args.fields.now.def.now.fields c.as_slice.result.now (pair_entries (T.items_list ds)) c.in_ok-nodes.nodes.items c.as_slice-2.result.now c.as_slice.ensures c.as_slice-2.ensures.value (c.in_ok-nodes.ensures ds left))

-- ---- parts

pub push_parts-loop-part-preserved-in_default-part : goal.push_parts-loop-part-preserved-in_default-part
push_parts-loop-part-preserved-in_default-part t c = (
  (c.in-Some.ensures.within c.args.acc.now c.loop-part.invariant.0).1,
  λ ps are.
      let h = c.loop-part.invariant.1 ps are in
      going_past c.args.acc.now c.args.steps c.args.out.now.items ps c.loop-part.left c.in-Some.behind c.loop-part.out.items h (subst (λ o. SplitsOff h.rest o c.in-Some.behind) c.in_default-part.is (c.in-Some.ensures.step h.rest h.are)),
)

pub push_parts-push_slot-requires : goal.push_parts-push_slot-requires
push_parts-push_slot-requires t c =
    let low = subst (IsWithinFirst c.args.acc.now) c.in-Some-part.is (c.in-Some.ensures.within c.args.acc.now c.loop-part.invariant.0).0 in
    (omega arith, (low, (tt, tt)))

pub push_parts-loop-part-preserved : goal.push_parts-loop-part-preserved
push_parts-loop-part-preserved t c = (
  (c.in-Some.ensures.within c.args.acc.now c.loop-part.invariant.0).1,
  λ ps are.
      let h = c.loop-part.invariant.1 ps are in
      going_on c.args.acc.now c.args.steps c.args.out.now.items ps c.loop-part.left c.in-Some.behind c.loop-part.out.items h c.in-Some-part.slot c.in-Some-part.node c.push_slot.new.out.items
      (subst (λ o. SplitsOff h.rest o c.in-Some.behind) c.in-Some-part.is (c.in-Some.ensures.step h.rest h.are)) c.in_ok-push_slot.ensures,
)

-- ---- a piece in a slot

pub push_slot-returns-then-steps-eq0 : goal.push_slot-returns-then-steps-eq0
push_slot-returns-then-steps-eq0 t c = λ d stands. none_more c.args.out.now.items (found c.args.acc.now c.args.steps c.args.slot d) (no_steps c.args.acc.now c.args.slot d c.args.steps (omega arith))

pub push_slot-returns-in-Nothing : goal.push_slot-returns-in-Nothing
push_slot-returns-in-Nothing t c = λ d stands.
    none_more c.args.out.now.items (found c.args.acc.now c.args.steps c.args.slot d) (nothing_slot c.args.acc.now c.args.slot d c.args.steps (c.args.steps - 1) (omega arith) (c.in-Nothing.ensures.opens d stands))

pub push_slot-returns-in-Parts : goal.push_slot-returns-in-Parts
push_slot-returns-in-Parts t c = λ d stands.
    let x = parts_slot c.args.acc.now c.args.slot d c.args.steps (c.args.steps - 1) (omega arith) c.in-Parts.parts (c.in-Parts.ensures.opens d stands) in
    pushes_same c.push_parts.result c.args.out.now.items c.push_parts.new.out.items _ _ x.2 (c.push_parts.ensures x.0 x.1)

pub push_slot-returns-in-Named : goal.push_slot-returns-in-Named
push_slot-returns-in-Named t c = λ d stands.
    let x = named_slot c.args.acc.now c.args.slot d c.args.steps (c.args.steps - 1) (omega arith) c.in-Named.fields c.in-Named.entries (c.in-Named.ensures.opens d stands) in
    pushes_same c.push_named.result c.args.out.now.items c.push_named.new.out.items _ _ x.2 (c.push_named.ensures x.0 x.1)

pub push_slot-returns-in-Listed : goal.push_slot-returns-in-Listed
push_slot-returns-in-Listed t c = λ d stands.
    let x = listed_slot c.args.acc.now c.args.slot d c.args.steps (c.args.steps - 1) (omega arith) c.in-Listed.fields c.in-Listed.items (c.in-Listed.ensures.opens d stands) in
    pushes_same c.push_listed.result c.args.out.now.items c.push_listed.new.out.items _ _ x.2 (c.push_listed.ensures x.0 x.1)

pub push_slot-returns-in-Member : goal.push_slot-returns-in-Member
push_slot-returns-in-Member t c = λ d stands.
    let x = member_slot c.args.acc.now c.args.slot d c.args.steps (c.args.steps - 1) (omega arith) c.in-Member.own c.in-Member.part (c.in-Member.ensures.opens d stands) in
    pushes_same c.push_slot.result c.args.out.now.items c.push_slot.new.out.items _ _ x.2 (c.push_slot.ensures x.0 x.1)

pub push_slot-returns-in-Root : goal.push_slot-returns-in-Root
push_slot-returns-in-Root t c = λ d stands.
    let x = root_slot c.args.acc.now c.args.slot d c.args.steps (c.args.steps - 1) (omega arith) c.in-Root.value c.in-Root.node _ (omega arith) (c.in-Root.ensures.opens d stands) in
    pushes_same c.push_node.result c.args.out.now.items c.push_node.new.out.items _ _ x.2 (c.push_node.ensures x.0 x.1)
