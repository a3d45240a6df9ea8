-- The way of a key, node by node.
use Rattle.std.proofs.Common.{◌≡◌, ◌<◌, ℕ, ◌+◌, List, [], ◌∷◌, Option, Some, None, Result, Ok, Err, refl, sym, ap, ◌∙◌, subst}
use Rattle.std.specs.Prelude.{get_or}
use Rattle.std.specs.Borrow.{Bor}
use Rattle.std.specs.FinMap.{find}
use Rattle.ild_cbor.specs.declared.node.Node.{Node}
use Rattle.ild_data.specs.ByteOrder.{bytewise}
use Rattle.ild_data.specs.Data.{Data}
use Rattle.ild_data.specs.Trie.{TrieSlot, empty, bucket, child}
use Rattle.ild_data.specs.TrieShape.{index, trie_levels}
use Rattle.ild_data.specs.declared.hamt_shape.HamtShape.{HamtShape}
use Rattle.ild_node_slots.specs.Views.{HasEntries, SlotHolds, ValueIn}
use Rattle.ild_node_slots.specs.declared.bucket.Bucket.{Bucket}
use Rattle.ild_node_slots.specs.declared.view.NodeView.{NodeView}
use Rattle.ild_node_slots.specs.declared.view.NodeSlot.TheVariants as S
use Rattle.ild_data.specs.declared.id.BlockId.{BlockId}
use Rattle.ild_inclusion.specs.Branches.{so, not_so}
use Rattle.ild_inclusion.specs.Way.{AtSlot, NextNode, NodeIn, OnWay}
use Rattle.ild_inclusion.specs.Given.{BeneathGiven, EndGiven, NodeGiven, ValueGiven, WrongGiven}
use Rattle.ild_inclusion.specs.declared.end.End.{End}
use Rattle.ild_inclusion.specs.declared.fault.Reject.{Reject}
use Rattle.ild_inclusion.specs.declared.fault.Reject.TheVariants as R
use Rattle.ild_inclusion.specs.declared.way.Beneath.{Beneath}
use Rattle.ild_inclusion.proofs.Mapping.{next_map, node_map}

-- ---- what a slot is, by what was read of it

pub slot_empty : (v : NodeView) (slots : List TrieSlot) (i : ℕ) (z : TrieSlot) → SlotHolds v slots i S.Empty z → z ≡ empty
slot_empty v slots i empty h = refl
slot_empty v slots i (bucket es) h = absurd h
slot_empty v slots i (child id) h = absurd h

pub record IsBucketOf (b : Bucket) (z : TrieSlot) : Type 0 where
  pub entries : List (List ℕ × Data)
  pub is : z ≡ bucket entries
  pub has : HasEntries b entries

pub slot_bucket : (v : NodeView) (slots : List TrieSlot) (i : ℕ) (b : Bucket) (z : TrieSlot) → SlotHolds v slots i (S.Bucket b) z → IsBucketOf b z
slot_bucket v slots i b empty h = absurd h
slot_bucket v slots i b (bucket es) h = record { entries = es; is = refl; has = h.entries }
slot_bucket v slots i b (child id) h = absurd h

pub slot_child : (v : NodeView) (slots : List TrieSlot) (i : ℕ) (id : BlockId) (z : TrieSlot) → SlotHolds v slots i (S.Child id) z → z ≡ child id.0
slot_child v slots i id empty h = absurd h
slot_child v slots i id (bucket es) h = absurd h
slot_child v slots i id (child c) h = ap child (sym h)

pub value_given : (n : Node) (es : List (List ℕ × Data)) (key : List ℕ) (o : Option Data) (r : Option Node) → ValueIn n es key o r → ValueGiven o r
value_given n es key None None v = tt
value_given n es key (Some d) (Some m) v = v.part.stands
value_given n es key None (Some m) v = absurd v
value_given n es key (Some d) None v = absurd v

pub at_index : (p : HamtShape) (slots : List TrieSlot) (hash : List ℕ) (depth j : ℕ) (z : TrieSlot) → j ≡ index p hash depth → get_or slots j empty ≡ z → get_or slots (index p hash depth) empty ≡ z
at_index p slots hash depth j z e is = ap (λ n. get_or slots n empty) (sym e) ∙ is

-- ---- a step by the slot

pub next_is : (p : HamtShape) (W : Reject → Type 0) (B : List TrieSlot → List (List ℕ) → Type 0) (id : List ℕ) (i : ℕ) (bs : List (List ℕ)) (b : List ℕ) (cs : List (List ℕ)) → bs ≡ b ∷ cs → NodeIn p id (i + 1) b (λ below. B below cs) W → NextNode p id i bs B W
next_is p W B id i bs b cs e n = subst (λ (xs : List (List ℕ)). NextNode p id i xs B W) (sym e) n

pub next_none : (p : HamtShape) (W : Reject → Type 0) (B : List TrieSlot → List (List ℕ) → Type 0) (id : List ℕ) (i : ℕ) (bs : List (List ℕ)) → bs ≡ [] → W (R.Missing (i + 1)) → NextNode p id i bs B W
next_none p W B id i bs e w = subst (λ (xs : List (List ℕ)). NextNode p id i xs B W) (sym e) w

module _ (p : HamtShape) (hash key : List ℕ) (E : ℕ → List (List ℕ) → Option Data → Type 0) (W : Reject → Type 0) (depth i : ℕ) (slots : List TrieSlot) where
  at_slot : (O : List ℕ → Type 0) (bs : List (List ℕ)) (z : TrieSlot) → get_or slots (index p hash depth) empty ≡ z → AtSlot key (E i bs) O z → AtSlot key (E i bs) O (get_or slots (index p hash depth) empty)
  at_slot O bs z e a = subst (λ x. AtSlot key (E i bs) O x) (sym e) a

  pub way_empty : (bs : List (List ℕ)) → get_or slots (index p hash depth) empty ≡ empty → E i bs None → OnWay p hash key E W depth i slots bs
  way_empty [] e x = at_slot _ [] empty e x
  way_empty (b ∷ bs) e x = at_slot _ (b ∷ bs) empty e x

  pub way_bucket : (bs : List (List ℕ)) (es : List (List ℕ × Data)) → get_or slots (index p hash depth) empty ≡ bucket es → E i bs (find bytewise key es) → OnWay p hash key E W depth i slots bs
  way_bucket [] es e x = at_slot _ [] (bucket es) e x
  way_bucket (b ∷ bs) es e x = at_slot _ (b ∷ bs) (bucket es) e x

  pub way_last : (bs : List (List ℕ)) (id : List ℕ) → get_or slots (index p hash depth) empty ≡ child id → (depth + 1 < trie_levels p → ⊥) → W (R.Shape i) → OnWay p hash key E W depth i slots bs
  way_last [] id e last w = at_slot _ [] (child id) e (not_so last w)
  way_last (b ∷ bs) id e last w = at_slot _ (b ∷ bs) (child id) e (not_so last w)

  pub way_next : (bs : List (List ℕ)) (id : List ℕ) → get_or slots (index p hash depth) empty ≡ child id → depth + 1 < trie_levels p
      → NextNode p id i bs (λ below cs. OnWay p hash key E W (depth + 1) (i + 1) below cs) W → OnWay p hash key E W depth i slots bs
  way_next [] id e low n = at_slot _ [] (child id) e (so low n)
  way_next (b ∷ bs) id e low n = at_slot _ (b ∷ bs) (child id) e (so low n)

-- ---- the calls

-- the next node is there
pub goes_beneath : (p : HamtShape) (hash key : List ℕ) (result : Result End Reject) (depth i : ℕ) (id : List ℕ) (bs : List (List ℕ)) (x : Beneath) → NextNode p id i bs (BeneathGiven p (Ok x)) (WrongGiven {X = Beneath} (Ok x))
    → ((slots : List TrieSlot) (cs : List (List ℕ)) → BeneathGiven p (Ok x) slots cs → OnWay p hash key (EndGiven result) (WrongGiven result) depth (i + 1) slots cs)
    → NextNode p id i bs (λ below cs. OnWay p hash key (EndGiven result) (WrongGiven result) depth (i + 1) below cs) (WrongGiven result)
goes_beneath p hash key result depth i id bs x n on = next_map (WrongGiven {X = Beneath} (Ok x)) (WrongGiven result) (λ r e. absurd cc) p id i bs (BeneathGiven p (Ok x)) _ on n

-- it isn't
pub stops_beneath : (p : HamtShape) (hash key : List ℕ) (depth i : ℕ) (id : List ℕ) (bs : List (List ℕ)) (e : Reject) → NextNode p id i bs (BeneathGiven p (Err e)) (WrongGiven {X = Beneath} (Err e))
    → NextNode p id i bs (λ below cs. OnWay p hash key (EndGiven (Err e)) (WrongGiven {X = End} (Err e)) depth (i + 1) below cs) (WrongGiven {X = End} (Err e))
stops_beneath p hash key depth i id bs e n = next_map (WrongGiven {X = Beneath} (Err e)) (WrongGiven {X = End} (Err e)) wrong p id i bs (BeneathGiven p (Err e)) _ (λ slots cs none. absurd none) n where
  wrong : (r : Reject) → WrongGiven {X = Beneath} (Err e) r → WrongGiven {X = End} (Err e) r
  wrong r is = let same : e ≡ r = cc in ap Err same

pub beneath_given : (p : HamtShape) (id : List ℕ) (i : ℕ) (bs : List (List ℕ)) (held b : List ℕ) (left : Bor (List (List ℕ))) (v : NodeView) → bs ≡ b ∷ left.now → held ≡ b → NodeIn p id (i + 1) held (NodeGiven p (Ok v)) (WrongGiven {X = NodeView} (Ok v))
    → NextNode p id i bs (BeneathGiven p (Ok (record { node = v; left = left }))) (WrongGiven {X = Beneath} (Ok (record { node = v; left = left })))
beneath_given p id i bs held b left v e same n =
    next_is p _ _ id i bs b left.now e
    (node_map (WrongGiven {X = NodeView} (Ok v)) (WrongGiven {X = Beneath} (Ok (record { node = v; left = left }))) (λ r is. absurd cc) p id (i + 1) b (NodeGiven p (Ok v)) _ (λ slots has. (has, refl)) (subst (λ (x : List ℕ). NodeIn p id (i + 1) x (NodeGiven p (Ok v)) (WrongGiven {X = NodeView} (Ok v))) same n))

pub beneath_wrong : (p : HamtShape) (id : List ℕ) (i : ℕ) (bs : List (List ℕ)) (held b : List ℕ) (cs : List (List ℕ)) (e : Reject) → bs ≡ b ∷ cs → held ≡ b → NodeIn p id (i + 1) held (NodeGiven p (Err e)) (WrongGiven {X = NodeView} (Err e))
    → NextNode p id i bs (BeneathGiven p (Err e)) (WrongGiven {X = Beneath} (Err e))
beneath_wrong p id i bs held b cs e is same n =
    next_is p _ _ id i bs b cs is
    (node_map (WrongGiven {X = NodeView} (Err e)) (WrongGiven {X = Beneath} (Err e)) wrong p id (i + 1) b (NodeGiven p (Err e)) _ (λ slots none. absurd none) (subst (λ (x : List ℕ). NodeIn p id (i + 1) x (NodeGiven p (Err e)) (WrongGiven {X = NodeView} (Err e))) same n)) where
      wrong : (r : Reject) → WrongGiven {X = NodeView} (Err e) r → WrongGiven {X = Beneath} (Err e) r
      wrong r is = let same : e ≡ r = cc in ap Err same
