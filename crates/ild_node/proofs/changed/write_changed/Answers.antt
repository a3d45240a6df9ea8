use Rattle.std.proofs.Common.{Bool, length, set, refl, sym, ap, ◌∙◌, ◌++◌, flat_map, arith}
use Rattle.std.specs.List.{count_by}
use Rattle.std.proofs.lemmas.List.{take_all, length-set}
use Rattle.ild_data.specs.Trie.{elements_of}
use Rattle.ild_node.specs.NewSlots.{slot_seen}
use Rattle.ild_node.specs.Written.{spelled, IsSound}
use Rattle.ild_node.proofs.Exchanging.{set-written}
use Rattle.ild_node.proofs.Nodes.{node-block}
use Rattle.ild_node.proofs.Standing.{all-set, slots-sound}
use Rattle.ild_node.proofs.Changing.{used-slot}
use Rattle.ild_node.proofs.Writing.{count-used, node-done}
use Rattle.ild_node.proofs.changed.write_changed.Goals as goal

pub returns : goal.returns
returns c = λ p slots has filled lt.
    let s = slot_seen c.args.slot.now in
    let ss = set slots c.args.i s in
    let made = c.in_ok-used.ensures p slots s has (used-slot c.args.slot.now c.is_some.result c.is_some.ensures) in
    let parts = c.around.ensures p slots has lt in
    node-block p ss _ (length-set slots c.args.i s ∙ has.form.many) (all-set (IsSound p) slots c.args.i s (slots-sound p c.args.view slots has) (c.in_ok-add_slot.ensures.sound p filled))
    (c.finish.ensures
    ∙ node-done elements_of ss ss c.deref.result.now c.in_ok-out.out c.spelled-2.new.self c.count_of.result (length ss) c.in_ok-out.ensures (c.deref.ensures.value ∙ made) refl
    (c.count_of.ensures ∙ ap (count_by (λ (b : Bool). b)) (c.deref-2.ensures.value ∙ made) ∙ count-used ss)
    (set-written slots c.args.i s c.in_ok-out.out c.spelled.new.self c.add_slot.new.out c.spelled-2.new.self c.around.result.0.now c.around.result.1.now lt parts.0 parts.1
    c.in_ok-spelled.ensures.ok c.in_ok-add_slot.ensures.element c.in_ok-spelled-2.ensures.ok
    ∙ ap (λ xs. c.in_ok-out.out ++ spelled (flat_map elements_of xs)) (sym (take_all (length ss) ss (omega arith))))
    (omega arith))
