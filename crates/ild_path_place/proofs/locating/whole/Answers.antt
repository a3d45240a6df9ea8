use Rattle.std.proofs.Common.{◌≡◌, true, sym, subst}
use Rattle.ild_path_place.proofs.Linking.{linked_whole}
use Rattle.ild_schema.specs.declared.number.Slot.{Slot}
use Rattle.ild_view.specs.Safe.{is_safe}
use Rattle.ild_view.specs.View.{table_of}
use Rattle.ild_path_place.proofs.locating.whole.Goals as goal

pub invariant_of-result-clause-safe : goal.invariant_of-result-clause-safe
invariant_of-result-clause-safe c = subst (λ (s : Slot). is_safe (table_of c.args.root) s ≡ true) (sym c.slot.ensures) c.args.root.safe

pub invariant_of-result-clause-linked : goal.invariant_of-result-clause-linked
invariant_of-result-clause-linked c = ∣ linked_whole c.args.root c.new.result.items c.new.ensures.items ∣₁
