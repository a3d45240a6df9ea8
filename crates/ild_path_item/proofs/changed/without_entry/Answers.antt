use Rattle.std.proofs.Common.{[], None, subst, sym}
use Rattle.std.specs.Prelude.{Ok}
use Rattle.ild_path_apply.specs.Applies.{Applies}
use Rattle.ild_splice_changes.specs.TreeChange.{one, remove_entry}
use Rattle.ild_path_item.proofs.Blocks.{gone_part, left_faultless, left_root, left_short}
use Rattle.ild_path_item.proofs.changed.without_entry.Goals as goal

pub unreachable-requires : goal.unreachable-requires
unreachable-requires c =
    left_short c.args.key.now c.args.node.now c.apart.result c.apart.ensures (rw c.in-Err-Size.field-0-is at (c.in-Err-Size.ensures None None (gone_part c.args.key)))

pub known_root-requires : goal.known_root-requires
known_root-requires c =
    left_faultless c.args.key.now c.args.node.now c.apart.result c.as_slice.result.now c.apart.ensures c.changes_stay_within.ensures (subst (λ y. Applies c.apart.result (one [] (remove_entry c.args.key.now)) (Ok y)) (sym c.as_slice.ensures.same) (rw c.in-Ok.is at (c.applied.ensures None None (gone_part c.args.key))))

pub returns : goal.returns
returns c = λ t w x u not h.
    let made = subst (λ y. Applies c.apart.result (one [] (remove_entry c.args.key.now)) (Ok y)) (sym c.as_slice.ensures.same) (rw c.in-Ok.is at (c.applied.ensures None None (gone_part c.args.key))) in
    c.in_item.ensures t (left_root c.args.key.now c.args.node.now c.apart.result c.known_root.result c.as_slice.result.now t w c.apart.ensures c.changes_stay_within.ensures c.nodes_are_at_places.ensures.root made c.known_root.ensures) x u not h
