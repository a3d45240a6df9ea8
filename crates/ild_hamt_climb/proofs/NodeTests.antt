-- The test of a node's block, and what it says.
use Rattle.std.proofs.Common.{◌≡◌, ℕ, true, List, None, refl, ap, ◌∙◌, subst}
use Rattle.std.specs.Prelude.{is_none, Option, Some}
use Rattle.std.proofs.lemmas.Bool.{and_from, and_parts}
use Rattle.ild_data.specs.declared.hamt_shape.HamtShape.{HamtShape}
use Rattle.ild_data.specs.Bytes.{AreBytes}
use Rattle.ild_data.specs.Data.{Data}
use Rattle.ild_data.specs.Trie.{node_data}
use Rattle.ild_cbor.specs.Reading.{fault_of}
use Rattle.ild_cbor.specs.Block.{IsBlockOf}
use Rattle.ild_cbor.specs.declared.fault.CborFault.{CborFault}
use Rattle.ild_typed.specs.NodeReading.{node_fits}
use Rattle.ild_typed.proofs.NodeRoots.{node-read, node-taken}
use Rattle.ild_node_slots.specs.Spelled.{tree_in}
use Rattle.ild_node_slots.proofs.Trees.{faultless, spelled-value, spelling-of}
use Rattle.ild_hamt_climb.specs.NodeBytes.{IsNodeBlock, is_node_bytes}

pub node-tested : (p : HamtShape) (b : List ℕ) → IsNodeBlock p b → is_node_bytes p b ≡ true
node-tested p b n =
    and_from (is_none (fault_of b)) (node_fits p (tree_in b)) (faultless b (node_data n.slots) n.is.within n.is.spelled)
    (ap (node_fits p) (spelled-value (node_data n.slots) b n.is.within n.is.spelled) ∙ node-read p n.slots p.wide n.form.many n.form.each)

pub no-fault : (p : HamtShape) (b : List ℕ) → is_node_bytes p b ≡ true → fault_of b ≡ None
no-fault p b is = none (fault_of b) (and_parts (is_none (fault_of b)) (node_fits p (tree_in b)) is).0
  where
    none : (o : Option CborFault) → is_none o ≡ true → o ≡ None
    none None e = refl
    none (Some x) e = absurd cc

pub node-told : (p : HamtShape) (b : List ℕ) → AreBytes b → is_node_bytes p b ≡ true → IsNodeBlock p b
node-told p b fits is =
    let both = and_parts (is_none (fault_of b)) (node_fits p (tree_in b)) is in
    let block = spelling-of b fits both.0 in
    let n = node-taken p (tree_in b) p.wide block.within.tree both.1 in
    record { slots = n.slots; is = subst (λ (d : Data). IsBlockOf b d) n.is block; form = record { many = n.many; each = n.each } }
