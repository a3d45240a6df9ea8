-- The entries of a HAMT with the spellings of their values, and the root map over them (IPLD HashMap).
use Rattle.std.specs.Prelude.{◌≡◌, ℕ, ◌≤◌, true, false, cond, is_none, nat_lt, List, [], ◌∷◌, ◌++◌, length, Some}
use Rattle.std.specs.List.{sum_by}
use Rattle.ild_bulk.specs.Children.{Follows}
use Rattle.ild_bulk.specs.Planned.{planned}
use Rattle.ild_bulk.specs.Keyed.{IsMarked, entry_spelled}
use Rattle.ild_bulk.specs.declared.entries.KeyedMark.{KeyedMark}
use Rattle.ild_data.specs.ByteOrder.{in_byte_order}
use Rattle.ild_data.specs.Data.{Data}
use Rattle.ild_data.specs.Limits.{longest_block}
use Rattle.ild_data.specs.Spell.{spell}
use Rattle.ild_data.specs.Trie.{trie}
use Rattle.ild_data.specs.TrieBlocks.{nodes_beneath}
use Rattle.ild_data.specs.TrieShape.{trie_levels}
use Rattle.ild_data.specs.declared.hamt_shape.HamtShape.{HamtShape}
use Rattle.ild_emit.specs.Grown.{IsGrown}
use Rattle.ild_node.specs.Rows.{deepest_value}
use Rattle.ild_typed.specs.Hamt.{root_map}
use Rattle.ild_typed.specs.Nested.{BlockIn, TreeIn}
use Rattle.ild_build_entries.specs.Fine.{IsFine, SetWhere}
use Rattle.ild_build_entries.specs.declared.hamt.MarkedEntries.{MarkedEntries}
use Rattle.ild_build_entries.specs.declared.nodes.Nodes.{Nodes}

-- one of a block that is too long
abbrev pub over : List ℕ → ℕ
over b = cond (nat_lt longest_block (length b)) 1 0

-- a value that an entry can hold
pub record FitsEntry (b : List ℕ) : Type 0 where
  pub block : BlockIn deepest_value b
  pub sized : length b ≤ longest_block

-- the key of an entry, and its mark in these bytes
pub record IsKeyedMark (h : List ℕ → List ℕ) (b : List ℕ) (e : List ℕ × Data) (k : KeyedMark) : Type 0 where
  pub key : k.key.now ≡ e.0
  pub mark : IsMarked h b e k.mark

abbrev pub AreKeyedMarks : (List ℕ → List ℕ) → List ℕ → List (List ℕ × Data) → List KeyedMark → Type 0
AreKeyedMarks h b [] [] = Unit {0}
AreKeyedMarks h b [] (k ∷ ks) = ⊥
AreKeyedMarks h b (e ∷ es) [] = ⊥
AreKeyedMarks h b (e ∷ es) (k ∷ ks) = IsKeyedMark h b e k × AreKeyedMarks h b es ks

-- The last entry of a buffer, behind so many bytes. Where nothing stands against the value, it is the value of these bytes.
pub record EndsEntry (key value : List ℕ) (nodes : Nodes) (old new : List ℕ) (from : ℕ) : Type 0 where
  pub of : Data
  pub front : List ℕ
  pub is : new ≡ front ++ entry_spelled (key, of)
  pub at : from ≡ length front
  pub grown : IsGrown old new
  pub shallow : TreeIn deepest_value of
  pub exact : IsFine nodes → (t : Data) → TreeIn deepest_value t → value ≡ spell t → of ≡ t

-- An entry was appended. Where nothing stands against the value, it is the value of these bytes.
pub record AddsEntry (h : List ℕ → List ℕ) (key value : List ℕ) (was now : Nodes) (old new : MarkedEntries) : Type 0 where
  pub of : Data
  pub last : KeyedMark
  pub marks : new.marks.items ≡ old.marks.items ++ last ∷ []
  pub marked : IsKeyedMark h new.out (key, of) last
  pub grown : IsGrown old.out new.out
  pub shallow : TreeIn deepest_value of
  pub blocks : now.blocks.items ≡ was.blocks.items
  pub exhausted : now.exhausted ≡ was.exhausted
  pub stays : was.long ≡ true → now.long ≡ true
  pub exact : IsFine now → (t : Data) → TreeIn deepest_value t → value ≡ spell t → of ≡ t
  pub long : was.long ≡ false → now.long ≡ true → over value ≡ 1

-- one where entries have no trie of this shape
abbrev pub untried : (List ℕ → List ℕ) → HamtShape → List (List ℕ × Data) → ℕ
untried h p es = cond (is_none (trie h p es 0)) 1 0

-- The root map of the trie of this shape of entries was appended, and the blocks beneath it; or there is none.
pub record AddsRoot (h : List ℕ → List ℕ) (p : HamtShape) (es : List (List ℕ × Data)) (old new : List ℕ) (was now : Nodes) : Type 0 where
  pub grown : IsGrown old new
  pub added : List (List ℕ)
  pub blocks : now.blocks.items ≡ was.blocks.items ++ added
  pub follows : (before : List (List ℕ)) → Follows before added
  pub exhausted : SetWhere was.exhausted (untried h p es) now.exhausted
  pub long : now.long ≡ was.long
  pub spelled : (node : Data) → trie h p es 0 ≡ Some node → new ≡ old ++ spell (root_map p node)
  pub plan : (node : Data) → trie h p es 0 ≡ Some node → added ≡ planned h p (trie_levels p) 0 (in_byte_order es)
  pub same : (node : Data) → trie h p es 0 ≡ Some node → (f : List ℕ → ℕ) → sum_by f added ≡ sum_by f (nodes_beneath h p (trie_levels p) 0 (in_byte_order es))
