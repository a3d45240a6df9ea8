use Rattle.std.proofs.Common.{◌≡◌, ◌++◌, ◌≤◌, ℕ, List, length, sym, ap, ◌∙◌, arith}
use Rattle.ild_data.specs.Data.{depth, items_depth, members_depth, items_list, members_list}
use Rattle.ild_data.specs.Spell.{head, spell_text}
use Rattle.ild_data.specs.Seen.{data_of}
use Rattle.ild_data.proofs.Spelling.{item_depth-in, member_depth-in, spelled-more, spelled_pairs-more, spelled-all, spelled_pairs-all}
use Rattle.ild_emit.proofs.Growing.{grown_same, grown_then, on_err_always, appended}
use Rattle.ild_emit.proofs.tree.+add.Goals as goal

pub add_trees-add_tree-requires : goal.add_trees-add_tree-requires
add_trees-add_tree-requires t c =
    let ts = c.as_slice-tree-items.result.now in
    let below : depth (data_of c.tree-item.result) ≤ items_depth c.args.trees.now =
    item_depth-in ts c.args.trees.now c.loop-tree.tree-index c.tree-item.result c.as_slice-tree-items.ensures (omega arith) c.tree-item.is in
    (omega arith, tt)

pub add_trees-loop-tree-preserved : goal.add_trees-loop-tree-preserved
add_trees-loop-tree-preserved t c =
    let ts = c.as_slice-tree-items.result.now in
    let more = spelled-more ts c.loop-tree.tree-index c.tree-item.result (omega arith) c.tree-item.is in
    appended _ _ _ _ _ c.loop-tree.invariant c.in_ok-add_tree.ensures.ok ∙ ap (λ xs. c.add_head.new.out.items ++ xs) (sym more)

pub add_trees-returns-in_err-add_tree-clause-err : goal.add_trees-returns-in_err-add_tree-clause-err
add_trees-returns-in_err-add_tree-clause-err t c =
    let out = appended c.args.out.now.items c.add_head.new.out.items c.loop-tree.out.items _ _ c.in_ok-add_head.ensures.ok c.loop-tree.invariant in
    on_err_always _ _ (grown_then c.args.out.now.items c.loop-tree.out.items c.add_tree.new.out.items _ out c.in_err-add_tree.ensures.err)

pub add_trees-returns-clause-ok : goal.add_trees-returns-clause-ok
add_trees-returns-clause-ok t c =
    let ts = c.as_slice-tree-items.result.now in
    let all = spelled-all ts c.args.trees.now c.loop-tree.tree-index c.as_slice-tree-items.ensures (omega arith) in
    let count : c.add_head.new.out.items ≡ c.args.out.now.items ++ head 4 (length (items_list c.args.trees.now)) =
    c.in_ok-add_head.ensures.ok ∙ ap (λ n. c.args.out.now.items ++ head 4 n) c.len.ensures.count in
    rw (← all) (appended _ _ _ _ _ count c.loop-tree.invariant)

pub add_entries-add_tree-requires : goal.add_entries-add_tree-requires
add_entries-add_tree-requires t c =
    let ps = c.as_slice-pair-items.result.now in
    let below : depth (data_of c.pair-item.result.1) ≤ members_depth c.args.entries.now =
    member_depth-in ps c.args.entries.now c.loop-pair.pair-index c.pair-item.result c.as_slice-pair-items.ensures (omega arith) c.pair-item.is in
    (omega arith, tt)

pub add_entries-returns-in_err-add_string-clause-err : goal.add_entries-returns-in_err-add_string-clause-err
add_entries-returns-in_err-add_string-clause-err t c =
    let out = appended c.args.out.now.items c.add_head.new.out.items c.loop-pair.out.items _ _ c.in_ok-add_head.ensures.ok c.loop-pair.invariant in
    on_err_always _ _ (grown_then c.args.out.now.items c.loop-pair.out.items c.add_string.new.out.items _ out (grown_same _ _ c.in_err-add_string.ensures.err))

key_added : (out now : List ℕ) (s k b : List ℕ) → now ≡ out ++ (head 3 (length b) ++ b) → b ≡ s → s ≡ k → now ≡ out ++ spell_text k
key_added out now s k b is bytes same = is ∙ ap (λ x. out ++ spell_text x) (bytes ∙ same)

pub add_entries-returns-in_err-add_tree-clause-err : goal.add_entries-returns-in_err-add_tree-clause-err
add_entries-returns-in_err-add_tree-clause-err t c =
    let before = appended c.args.out.now.items c.add_head.new.out.items c.loop-pair.out.items _ _ c.in_ok-add_head.ensures.ok c.loop-pair.invariant in
    let out = appended c.args.out.now.items c.loop-pair.out.items c.add_string.new.out.items _ _ before c.in_ok-add_string.ensures.ok in
    on_err_always _ _ (grown_then c.args.out.now.items c.add_string.new.out.items c.add_tree.new.out.items _ out c.in_err-add_tree.ensures.err)

pub add_entries-loop-pair-preserved : goal.add_entries-loop-pair-preserved
add_entries-loop-pair-preserved t c =
    let ps = c.as_slice-pair-items.result.now in
    let more = spelled_pairs-more ps c.loop-pair.pair-index c.pair-item.result (omega arith) c.pair-item.is in
    let key = key_added c.loop-pair.out.items c.add_string.new.out.items c.as_str.result.now c.pair-item.result.0 c.as_bytes.result.now
    c.in_ok-add_string.ensures.ok c.as_bytes.ensures.value c.as_str.ensures.same in
    let both = appended c.loop-pair.out.items c.add_string.new.out.items c.add_tree.new.out.items _ _ key c.in_ok-add_tree.ensures.ok in
    appended _ _ _ _ _ c.loop-pair.invariant both ∙ ap (λ xs. c.add_head.new.out.items ++ xs) (sym more)

pub add_entries-returns-clause-ok : goal.add_entries-returns-clause-ok
add_entries-returns-clause-ok t c =
    let ps = c.as_slice-pair-items.result.now in
    let all = spelled_pairs-all ps c.args.entries.now c.loop-pair.pair-index c.as_slice-pair-items.ensures (omega arith) in
    let count : c.add_head.new.out.items ≡ c.args.out.now.items ++ head 5 (length (members_list c.args.entries.now)) =
    c.in_ok-add_head.ensures.ok ∙ ap (λ n. c.args.out.now.items ++ head 5 n) c.len.ensures.count in
    rw (← all) (appended _ _ _ _ _ count c.loop-pair.invariant)
