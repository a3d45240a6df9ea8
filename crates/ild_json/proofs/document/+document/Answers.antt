use Rattle.std.proofs.Common.{◌≡◌, map, ◌++◌, ◌∷◌, [], List, sym, ap, ◌∙◌, subst, arith, rules, map-id}
use Rattle.std.proofs.lemmas.Iterator.Adapters.{YieldsList-from_vec}
use Rattle.std.proofs.lemmas.Iterator.Consumers.{YieldsList-end, YieldsList-turn}
use Rattle.json.specs.declared.value.Value.{Value}
use Rattle.std.specs.declared.alloc.Global.{Global}
use Rattle.ild_data.specs.Data.{items_list}
use Rattle.ild_data.specs.Seen.{data_of, pair_of}
use Rattle.ild_json.specs.Sound.{Member}
use Rattle.ild_json.proofs.Documents.{AreItems, AreEntries, items_more, list_means, item_depth, entries_more, entries_rise, entries_mean, member_depth, reserved_some, on_told, ok_told, if_told, null_means, bool_means, text_means, number_means}
use Rattle.ild_json.proofs.document.+document.Goals as goal

pub entries_of-loop-key-init : goal.entries_of-loop-key-init
entries_of-loop-key-init t c = record { sound = tt; same = ap (map pair_of) (sym (ok_told c.with_capacity.result c.in_ok-pairs.pairs (λ v. v.items ≡ []) c.in_ok-pairs.ensures.value c.with_capacity.ensures.items)) }

pub entries_of-tree_of-requires : goal.entries_of-tree_of-requires
entries_of-tree_of-requires t c =
    let at = YieldsList-turn (YieldsList-from_vec {s = c.into_iter-key-iterator.result} c.in_ok-sorted.sorted.items (search rules) (search rules)) c.loop-key.yielded c.loop-key.key-iterator c.loop-key.yielded_by c.next.result c.next.new.self
    (c.in-Some.key, c.in-Some.member) c.in-Some.is c.next.ensures.steps in
    let below = member_depth c.args.members.items c.in_ok-sorted.sorted.items _ (c.in-Some.key, c.in-Some.member) c.in_ok-sorted.ensures.same at.0 at.1 in
    (omega (arith, below), tt)

pub entries_of-loop-key-preserved : goal.entries_of-loop-key-preserved
entries_of-loop-key-preserved t c =
    entries_more c.loop-key.yielded (c.in-Some.key, c.in-Some.member) c.loop-key.pairs.items c.push.new.self.items c.in_ok-name.name c.in_ok-tree.tree c.loop-key.invariant c.in_ok-name.ensures c.in_ok-tree.ensures
    (if_told _ c.push.new.self.items (c.loop-key.pairs.items ++ (c.in_ok-name.name, c.in_ok-tree.tree) ∷ []) c.loop-key.pairs.items c.in_ok-ok.ensures.variant c.push.ensures.items)

pub entries_of-from_vec-entries-requires : goal.entries_of-from_vec-entries-requires
entries_of-from_vec-entries-requires t c =
    let end = YieldsList-end (YieldsList-from_vec {s = c.into_iter-key-iterator.result} c.in_ok-sorted.sorted.items (search rules) (search rules)) c.loop-key.yielded c.loop-key.key-iterator c.loop-key.yielded_by c.next.result c.next.new.self
    c.in-None.is c.next.ensures.steps in
    let all = sym (map-id c.loop-key.yielded) ∙ end.0 in
    entries_rise c.in_ok-sorted.sorted.items c.loop-key.pairs.items c.in_ok-sorted.ensures.rises (subst (λ (ms : List Member). AreEntries ms c.loop-key.pairs.items) all c.loop-key.invariant)

pub entries_of-returns : goal.entries_of-returns
entries_of-returns t c =
    let end = YieldsList-end (YieldsList-from_vec {s = c.into_iter-key-iterator.result} c.in_ok-sorted.sorted.items (search rules) (search rules)) c.loop-key.yielded c.loop-key.key-iterator c.loop-key.yielded_by c.next.result c.next.new.self
    c.in-None.is c.next.ensures.steps in
    let all = sym (map-id c.loop-key.yielded) ∙ end.0 in
    entries_mean c.args.members.items c.in_ok-sorted.sorted.items c.loop-key.pairs.items c.from_vec-entries.result c.in_ok-sorted.ensures (subst (λ (ms : List Member). AreEntries ms c.loop-key.pairs.items) all c.loop-key.invariant)
    c.from_vec-entries.ensures (sym c.is_slash_alone.ensures ∙ c.if-is_slash_alone.false)

pub object_of-returns-in-Some : goal.object_of-returns-in-Some
object_of-returns-in-Some t c = reserved_some c.reserved_of.result c.args.members.items c.in-Some.value.now c.in-Some.ensures c.reserved_of.ensures

pub tree_of-returns-in-Null : goal.tree_of-returns-in-Null
tree_of-returns-in-Null t c = null_means c.args.value c.in-Null.is

pub tree_of-returns-in-Bool : goal.tree_of-returns-in-Bool
tree_of-returns-in-Bool t c = bool_means c.args.value c.in-Bool.b c.in-Bool.is

pub tree_of-returns-in_ok-integer-in-Number : goal.tree_of-returns-in_ok-integer-in-Number
tree_of-returns-in_ok-integer-in-Number t c = number_means c.args.value c.in-Number.text c.in_ok-integer-in-Number.field-0 c.in-Number.is c.in_ok-integer-in-Number.ensures

pub tree_of-returns-in_ok-text_of-in-String : goal.tree_of-returns-in_ok-text_of-in-String
tree_of-returns-in_ok-text_of-in-String t c = text_means c.args.value c.in-String.text c.in_ok-text_of-in-String.field-0 c.in-String.is c.in_ok-text_of-in-String.ensures

pub trees_of-loop-item-init : goal.trees_of-loop-item-init
trees_of-loop-item-init t c = record { sound = tt; same = sym (ap items_list c.new-trees.ensures) }

pub trees_of-loop-item-preserved : goal.trees_of-loop-item-preserved
trees_of-loop-item-preserved t c =
    items_more c.loop-item.yielded c.in-Some.item c.loop-item.trees c.push.new.self (data_of c.in_ok-tree_of.field-0) c.loop-item.invariant c.in_ok-tree_of.ensures (on_told c.push.result _ c.in_ok-ok.ensures.value c.push.ensures.ok)

pub trees_of-tree_of-requires : goal.trees_of-tree_of-requires
trees_of-tree_of-requires t c =
    let at = YieldsList-turn (YieldsList-from_vec {s = c.into_iter-item-iterator.result} c.args.items.items (search rules) (search rules)) c.loop-item.yielded c.loop-item.item-iterator c.loop-item.yielded_by c.next.result c.next.new.self
    c.in-Some.item c.in-Some.is c.next.ensures.steps in
    let below = item_depth c.args.items.items _ c.in-Some.item at.0 at.1 in
    (omega (arith, below), tt)

pub trees_of-returns : goal.trees_of-returns
trees_of-returns t c =
    let end = YieldsList-end (YieldsList-from_vec {s = c.into_iter-item-iterator.result} c.args.items.items (search rules) (search rules)) c.loop-item.yielded c.loop-item.item-iterator c.loop-item.yielded_by c.next.result c.next.new.self
    c.in-None.is c.next.ensures.steps in
    let all = sym (map-id c.loop-item.yielded) ∙ end.0 in
    list_means c.args.items.items c.loop-item.trees (subst (λ (vs : List (Value Global)). AreItems vs c.loop-item.trees) all c.loop-item.invariant)
