-- The tree that a spelling is of.
use Rattle.std.proofs.Common.{◌≡◌, ℕ, List, [], Ok, refl, sym, ap, ◌∙◌, subst, append-nil, arith}
use Rattle.ild_data.specs.Data.{Data}
use Rattle.ild_data.specs.Spell.{spell}
use Rattle.ild_data.specs.Limits.{IsWithin, deepest}
use Rattle.ild_cbor.specs.Reading.{item_at, all_at, fault_of}
use Rattle.ild_cbor.proofs.Again.{item_again}
use Rattle.ild_node_slots.specs.Spelled.{tree_in, IsFaultless}
use Rattle.ild_cbor.specs.declared.fault.CborFault.{CborFault}
use Rattle.ild_cbor.specs.Block.{IsBlockOf}
use Rattle.ild_cbor.proofs.Blocks.{block_again, block_taken}
use Rattle.ild_data.specs.Bytes.{AreBytes}
use Rattle.std.specs.Prelude.{is_none, true, Option, Some, None}

pub tree-in : (d : Data) → IsWithin d → tree_in (spell d) ≡ d
unfolding tree_in all_at
tree-in d w =
    let sized = w.sized in
    let read : item_at deepest (spell d) ≡ Ok (d, []) =
    subst (λ (c : List ℕ). item_at deepest c ≡ Ok (d, [])) (append-nil (spell d)) (item_again deepest d [] w.tree w.nested (omega arith)) in
    rw read refl

pub spelled-value : (d : Data) (b : List ℕ) → IsWithin d → b ≡ spell d → tree_in b ≡ d
spelled-value d b w is = ap tree_in is ∙ tree-in d w

-- bytes without a fault are the spelling of their tree
pub spelling-of : (b : List ℕ) → AreBytes b → IsFaultless b → IsBlockOf b (tree_in b)
spelling-of b fits is =
    let found = block_taken b fits (no_fault (fault_of b) is) in
    subst (λ (d : Data). IsBlockOf b d) (sym (spelled-value found.0 b found.1.within found.1.spelled)) found.1
  where
    no_fault : (o : Option CborFault) → is_none o ≡ true → o ≡ None
    no_fault None is = refl
    no_fault (Some e) is = absurd cc

pub faultless : (b : List ℕ) (d : Data) → IsWithin d → b ≡ spell d → IsFaultless b
faultless b d w is = ap is_none (block_again b d (record { within = w; spelled = is }))
