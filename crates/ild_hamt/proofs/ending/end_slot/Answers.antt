use Rattle.std.proofs.Common.{◌-◌, length, refl, sym, subst, arith, List}
use Rattle.ild_data.specs.Trie.{TrieSlot}
use Rattle.ild_hamt_climb.specs.NodeBytes.{IsNodeBytes}
use Rattle.ild_hamt_climb.specs.Seen.{IsReadOf}
use Rattle.ild_hamt_climb.specs.Way.{slot_for}
use Rattle.ild_hamt.proofs.Fulling.{node-last}
use Rattle.ild_hamt.proofs.ending.end_slot.Goals as goal

pub returns-clause-shows : goal.returns-clause-shows
returns-clause-shows c = λ slots last has ends deep lt.
    c.slot_at-2.ensures.shows last (c.view_in-view.ensures.only last
    (node-last c.args.shape c.args.blocks.now c.index-blocks-count.result c.index-blocks-count.result slots last _ refl c.index-blocks-count.is refl (omega (arith, c.if-count-eq0.false)) ends))

pub returns-then-count-eq0-clause-shows : goal.returns-then-count-eq0-clause-shows
returns-then-count-eq0-clause-shows c = λ slots last has ends deep lt.
    subst (λ (ss : List TrieSlot). IsReadOf c.slot_at.result (slot_for c.args.shape c.args.hash.now c.args.depth ss)) (ends.root (omega (arith, c.if-count-eq0.true))) (c.slot_at.ensures.shows slots has)

pub view_in-view-requires : goal.view_in-view-requires
view_in-view-requires c = subst (IsNodeBytes c.args.shape) (sym c.index-blocks-count.is) (c.requires (length c.args.blocks.now - 1) _ (omega (arith, c.if-count-eq0.false)))
