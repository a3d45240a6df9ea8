use Rattle.std.proofs.Common.{◌≤◌, List, ◌∷◌, [], ◌++◌, sym, ap, ◌∙◌, refl, subst, arith}
use Rattle.std.proofs.lemmas.Result.{err_from_is_err_and}
use Rattle.json.specs.Token.{begin_array, begin_object, key}
use Rattle.ild_data.specs.Data.{depth, items_depth, members_depth}
use Rattle.ild_data.specs.Seen.{data_of, pair_of}
use Rattle.ild_data.proofs.Spelling.{item_depth-in}
use Rattle.ild_json.specs.Tokens.{AreBytewise, entries_seen}
use Rattle.ild_json.proofs.Shows.{Held, tree_tokens, tree_reserved, held_tokens, held_reserved, appends_more, items_written, entry_written, members_written, held_depth, any_more, items_free, item_reserved, members_free, member_reserved}
use Rattle.ild_json.proofs.show.+show.Goals as goal

pub write_items-loop-tree-init : goal.write_items-loop-tree-init
write_items-loop-tree-init t c = record {
  done = record { before = c.in_ok-begin_array.ensures.room.0; tokens = c.in_ok-begin_array.ensures.ok };
  free = refl;
}

pub write_items-write-requires : goal.write_items-write-requires
write_items-write-requires t c =
    let ts = c.as_slice-tree-items.result.now in
    let below : depth (data_of c.tree-item.result) ≤ items_depth c.args.trees.now =
    item_depth-in ts c.args.trees.now c.loop-tree.tree-index c.tree-item.result c.as_slice-tree-items.ensures (omega arith) c.tree-item.is in
    (omega arith, tt)

pub write_items-returns-in_err-write-clause-reserved : goal.write_items-returns-in_err-write-clause-reserved
write_items-returns-in_err-write-clause-reserved t c =
    let one = item_reserved c.as_slice-tree-items.result.now c.args.trees.now c.loop-tree.tree-index c.tree-item.result c.as_slice-tree-items.ensures (omega arith) c.tree-item.is in
    let p = err_from_is_err_and c.from_residual-in_err-write.result c.from_residual-in_err-write.ensures.1 in
    rw (p.1, p.2) (λ is. one (c.in_err-write.ensures.reserved is))

pub write_items-loop-tree-preserved : goal.write_items-loop-tree-preserved
write_items-loop-tree-preserved t c =
    let ts = c.as_slice-tree-items.result.now in
    record {
      done = appends_more tree_tokens (begin_array ∷ []) c.args.out.now c.loop-tree.out c.write.new.out ts c.loop-tree.tree-index c.tree-item.result (omega arith) c.tree-item.is c.loop-tree.invariant.done c.in_ok-write.ensures.ok;
      free = any_more tree_reserved ts c.loop-tree.tree-index c.tree-item.result (omega arith) c.tree-item.is c.loop-tree.invariant.free c.in_ok-write.ensures.free;
    }

pub write_items-returns-clause-ok : goal.write_items-returns-clause-ok
write_items-returns-clause-ok t c =
    items_written c.as_slice-tree-items.result.now c.args.trees.now c.loop-tree.tree-index c.args.out.now c.loop-tree.out c.end_array.new.self c.as_slice-tree-items.ensures (omega arith) c.loop-tree.invariant.done
    (record { before = c.in_ok-end_array.ensures.room.0; tokens = c.in_ok-end_array.ensures.ok })

pub write_items-returns-clause-free : goal.write_items-returns-clause-free
write_items-returns-clause-free t c =
    items_free c.as_slice-tree-items.result.now c.args.trees.now c.loop-tree.tree-index c.as_slice-tree-items.ensures (omega arith) c.loop-tree.invariant.free

pub write_members-loop-pair-init : goal.write_members-loop-pair-init
write_members-loop-pair-init t c = record {
  done = record { before = c.in_ok-begin_object.ensures.room.0; tokens = c.in_ok-begin_object.ensures.ok };
  free = refl;
}

pub write_members-write-requires : goal.write_members-write-requires
write_members-write-requires t c =
    let ps = c.deref-pair-items.result.now in
    let order : AreBytewise c.args.entries.now (entries_seen ps) = subst (λ (xs : List Held). AreBytewise c.args.entries.now (entries_seen xs)) (sym c.deref-pair-items.ensures.value) c.in_ok-pairs.ensures in
    let below : depth (data_of c.pair-item.result.now.1) ≤ members_depth c.args.entries.now = held_depth ps c.args.entries.now c.loop-pair.pair-index c.pair-item.result order (omega arith) c.pair-item.is in
    (omega arith, tt)

pub write_members-returns-in_err-write-clause-reserved : goal.write_members-returns-in_err-write-clause-reserved
write_members-returns-in_err-write-clause-reserved t c =
    let ps = c.deref-pair-items.result.now in
    let order : AreBytewise c.args.entries.now (entries_seen ps) = subst (λ (xs : List Held). AreBytewise c.args.entries.now (entries_seen xs)) (sym c.deref-pair-items.ensures.value) c.in_ok-pairs.ensures in
    let one = member_reserved ps c.args.entries.now c.loop-pair.pair-index c.pair-item.result order (omega arith) c.pair-item.is in
    let p = err_from_is_err_and c.from_residual-in_err-write.result c.from_residual-in_err-write.ensures.1 in
    rw (p.1, p.2) (λ is. one (c.in_err-write.ensures.reserved is))

pub write_members-loop-pair-preserved : goal.write_members-loop-pair-preserved
write_members-loop-pair-preserved t c =
    let ps = c.deref-pair-items.result.now in
    record {
      done = appends_more held_tokens (begin_object ∷ []) c.args.out.now c.loop-pair.out c.write.new.out ps c.loop-pair.pair-index c.pair-item.result (omega arith) c.pair-item.is c.loop-pair.invariant.done
          (entry_written c.loop-pair.out c.key.new.self c.write.new.out (pair_of c.pair-item.result.now)
          (record { before = c.in_ok-key.ensures.room.0; tokens = c.in_ok-key.ensures.ok ∙ ap (λ k. c.loop-pair.out.tokens ++ key k ∷ []) c.as_str.ensures.same }) c.in_ok-write.ensures.ok);
      free = any_more held_reserved ps c.loop-pair.pair-index c.pair-item.result (omega arith) c.pair-item.is c.loop-pair.invariant.free c.in_ok-write.ensures.free;
    }

pub write_members-returns-clause-ok : goal.write_members-returns-clause-ok
write_members-returns-clause-ok t c =
    let ps = c.deref-pair-items.result.now in
    let order : AreBytewise c.args.entries.now (entries_seen ps) = subst (λ (xs : List Held). AreBytewise c.args.entries.now (entries_seen xs)) (sym c.deref-pair-items.ensures.value) c.in_ok-pairs.ensures in
    members_written ps c.args.entries.now c.loop-pair.pair-index c.args.out.now c.loop-pair.out c.end_object.new.self order (omega arith) c.loop-pair.invariant.done
    (record { before = c.in_ok-end_object.ensures.room.0; tokens = c.in_ok-end_object.ensures.ok })

pub write_members-returns-clause-free : goal.write_members-returns-clause-free
write_members-returns-clause-free t c =
    let ps = c.deref-pair-items.result.now in
    let order : AreBytewise c.args.entries.now (entries_seen ps) = subst (λ (xs : List Held). AreBytewise c.args.entries.now (entries_seen xs)) (sym c.deref-pair-items.ensures.value) c.in_ok-pairs.ensures in
    members_free ps c.args.entries.now c.loop-pair.pair-index order (omega arith) c.loop-pair.invariant.free (sym c.is_slash_alone.ensures ∙ c.if-is_slash_alone.false)
