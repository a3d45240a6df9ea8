-- The laws of data that differ in their links alone, each link being as long as the other's.
use Rattle.std.specs.Prelude.{◌≡◌, ℕ, List, map, length, option_map}
use Rattle.ild_data.specs.ByteOrder.{in_byte_order}
use Rattle.ild_data.specs.Data.{Data}
use Rattle.ild_data.specs.Spell.{spell}
use Rattle.ild_data.specs.Trie.{trie}
use Rattle.ild_data.specs.TrieBlocks.{nodes_beneath}
use Rattle.ild_data.specs.TrieShape.{trie_levels}
use Rattle.ild_data.specs.declared.hamt_shape.HamtShape.{HamtShape}
use Rattle.ild_data_alike.specs.Blank.{blank, blank_entries}

-- they are spelled as long
abbrev pub AlikeAreAsLong : Type 0
AlikeAreAsLong = (d e : Data) → blank d ≡ blank e → length (spell d) ≡ length (spell e)

-- Where the values of entries are such data, so are the root nodes of their tries; and the nodes beneath are as many, each as long.
pub record TriesAlike (h : List ℕ → List ℕ) (p : HamtShape) (es fs : List (List ℕ × Data)) : Type 0 where
  pub root : option_map blank (trie h p es 0) ≡ option_map blank (trie h p fs 0)
  pub nodes : map length (nodes_beneath h p (trie_levels p) 0 (in_byte_order es)) ≡ map length (nodes_beneath h p (trie_levels p) 0 (in_byte_order fs))

abbrev pub AlikeHaveAlikeTries : Type 0
AlikeHaveAlikeTries = (h : List ℕ → List ℕ) (p : HamtShape) (es fs : List (List ℕ × Data)) → blank_entries es ≡ blank_entries fs → TriesAlike h p es fs
