-- From the item of a part to that of its holder.
use Rattle.std.proofs.Common.{◌≡◌, ◌∷◌, refl, sym, ◌∙◌, ap}
use Rattle.std.specs.Option.{option_map_or}
use Rattle.ild_path_changes.proofs.HaveTrees.{has_trees}
use Rattle.ild_path_changes.specs.LiftLaws.{of_fronts}
use Rattle.ild_path_edits.proofs.KeepTyped.{of_type_is_kept}
use Rattle.ild_path_edits.proofs.RoomTests.{schemas_have_tests}
use Rattle.ild_path_holder.proofs.Written.{has_part}
use Rattle.ild_path_item.specs.Upward.{ItemsAreBlocks, ItemsBegin, ItemsGoUp, PartsAreSet}
use Rattle.ild_typed.specs.At.{InSlot, changed_in, seen}
use Rattle.ild_typed.specs.Hamt.{alone}
use Rattle.ild_typed.specs.Holder.{value_of}
use Rattle.ild_typed.specs.Represented.{represented}
use Rattle.ild_typed.specs.Segment.{set_part}

pub parts_are_set : PartsAreSet
parts_are_set rows schema p q s c d n is there new made stands =
    let tests = schemas_have_tests rows schema in
    record {
      holds = has_part (seen rows p) s q there;
      allows = (q.0, (of_type_is_kept rows tests.0.is_key schema tests.1.keys).slots p q s is there, record { fits = new; tree = d; tree_is = made; stands = stands });
    }

pub items_begin : ItemsBegin
items_begin rows edit w q s result item = record { made = item.made; refused = item.refused }

pub items_go_up : ItemsGoUp
items_go_up rows f p q s t ss n result there item =
    let same : changed_in rows f p s (t ∷ ss) ≡ value_of (set_part (seen rows p) s (changed_in rows f q t ss)) = ap (λ o. option_map_or (λ (q : InSlot). value_of (set_part (seen rows p) s (changed_in rows f q t ss))) o p.1) there in
    record { made = λ u e. item.made u (ap (represented alone rows p.0) (sym same) ∙ e); refused = λ refusing e. item.refused refusing (ap (represented alone rows p.0) (sym same) ∙ e) }

pub items_are_blocks : ItemsAreBlocks
items_are_blocks rows schema q u b is made nested item = record {
  within = record { tree = has_trees alone rows (of_fronts refl) schema.table.texts.spelled q.0 q.1 u is made; nested = nested; sized = item.1 };
  spelled = item.0;
}
