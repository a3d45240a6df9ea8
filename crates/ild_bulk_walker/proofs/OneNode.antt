-- A block is the node of one list of slots.
use Rattle.std.proofs.Common.{◌≡◌, List, [], length, sym, ◌∙◌, arith, append-nil, ℕ}
use Rattle.ild_cbor.proofs.Blocks.{one_spelling_within}
use Rattle.ild_data.specs.declared.hamt_shape.HamtShape.{HamtShape}
use Rattle.ild_data.specs.Spell.{spell}
use Rattle.ild_data.specs.Trie.{TrieSlot, node_data}
use Rattle.ild_hamt_trie.proofs.Bits.{same_node}
use Rattle.ild_node_slots.proofs.Shapes.{whole_map}
use Rattle.ild_bulk_walker.specs.Gives.{IsNodeOf}

pub same-slots : (p : HamtShape) (ss ts : List TrieSlot) (b : List ℕ) → IsNodeOf p b ss → IsNodeOf p b ts → ss ≡ ts
same-slots p ss ts b one two =
    let same : node_data ss ≡ node_data ts = (one_spelling_within (node_data ss) (node_data ts) [] [] one.is.within two.is.within
    (append-nil (spell (node_data ss)) ∙ sym one.is.spelled ∙ two.is.spelled ∙ sym (append-nil (spell (node_data ts))))).0 in
    same_node ss ts (whole_map p.width (length ss) (omega arith) one.form.many) (two.form.many ∙ sym one.form.many) same
