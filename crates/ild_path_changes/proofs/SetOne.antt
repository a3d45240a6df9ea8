-- A set of a part that is there is one change.
use Rattle.ild_schema.proofs.Legibly.{legible}
use Rattle.ild_value_meaning.proofs.Told.{told}
use Rattle.std.proofs.Common.{◌≡◌, ℕ, List, [], Some, ap, sym, subst, ◌∙◌}
use Rattle.std.proofs.lemmas.Option.{same_Some}
use Rattle.ild_schema.specs.declared.number.Slot.{Slot}
use Rattle.ild_schema.specs.Value.{Value}
use Rattle.ild_splice_changes.specs.TreeChange.{replace, one}
use Rattle.ild_typed.specs.Holder.{Holder, value_of}
use Rattle.ild_typed.specs.Segment.{part, set_part}
use Rattle.ild_typed.specs.At.{InSlot, seen}
use Rattle.ild_typed.specs.Represented.{represented}
use Rattle.ild_typed.specs.OfType.{OfType}
use Rattle.ild_path_changes.specs.LiftLaws.{set_last, SetIsOneChange}
use Rattle.ild_path_changes.proofs.Commuting.{one_change}
use Rattle.ild_path_changes.proofs.HaveTrees.{has_trees}
use Rattle.ild_path_edits.proofs.Paths.{last_there, set_typed}
use Rattle.ild_path_changes.proofs.Represented.{represents}
use Rattle.ild_path_edits.proofs.KeepTyped.{of_type_is_kept}

pub set_is_one_change : SetIsOneChange
set_is_one_change rows is_key hamts tried schema keys p q s ss l w t d u is there last new was part_is now =
    let P = λ (slot : Slot) (v : Value). OfType rows slot v in
    let kept = of_type_is_kept rows is_key schema keys in
    let r = represents rows is_key (told rows schema).apart (told rows schema).any_there keys (legible rows schema.accepted).clear hamts (has_trees hamts rows tried schema.table.texts.spelled) kept in
    let found = last_there rows is_key P kept s ss p q there is in
    let same : found.0 ≡ l = same_Some found.0 l (sym found.1 ∙ last) in
    let at_last : part l.0 l.1 ≡ Some q = ap (λ (k : Holder × List ℕ). part k.0 k.1) (sym same) ∙ found.2 in
    one_change rows is_key P (λ slot v t. represented hamts rows slot v ≡ Some t) kept r (λ h k. set_part h k w) (set_last hamts rows l.1 w d) l
    (subst (λ (k : Holder × List ℕ). (r : InSlot) → OfType rows r.0 r.1 → seen rows r ≡ k.0 → OfType rows r.0 (value_of (set_part k.0 k.1 w))) same
    (set_typed rows is_key P kept found.0 q.0 w found.3 found.4 new))
    (λ k a b typed eq old after.
    let here : part (seen rows k) l.1 ≡ Some q = ap (λ h. part h l.1) eq ∙ at_last in
    let e = r.parts k q l.1 a typed here old in
    r.lifts k q l.1 w a b e.0 (one [] (replace d)) typed here new old e.1 part_is (subst (λ h. represented hamts rows k.0 (value_of (set_part h l.1 w)) ≡ Some b) (sym eq) after))
    p s ss t u is last was now
