-- Rows with the hashes of their keys, and their spellings in one buffer.
use Rattle.std.specs.Prelude.{◌≡◌, ◌<◌, ◌≤◌, ◌+◌, ◌^◌, ℕ, ◌==◌, List, [], ◌∷◌, ◌++◌, drop, length, map, slice_index_or, take}
use Rattle.std.specs.List.{AllByRecursion, filter}
use Rattle.std.specs.Global.{Vec}
use Rattle.ild_data.specs.Data.{Data}
use Rattle.ild_data.specs.Spell.{head, spell, spell_bytes}
use Rattle.ild_data.specs.Trie.{at_depth, entry_data, part}
use Rattle.ild_data.specs.declared.hamt_shape.HamtShape.{HamtShape}
use Rattle.ild_data.specs.TrieShape.{index}
use Rattle.ild_node.specs.Hashed.{AreHashed}
use Rattle.ild_node.specs.Keyed.{keyed_seen}
use Rattle.ild_node.specs.declared.keyed.Keyed.{Keyed}
use Rattle.ild_node.specs.declared.hashed.HashedEntry.{HashedEntry}
use Rattle.ild_bulk.specs.declared.entries.BorrowedMark.{BorrowedMark}
use Rattle.ild_bulk.specs.declared.entries.Mark.{Mark}
use Rattle.ild_bulk.specs.declared.entries.Entries.{Entries}
use Rattle.ild_bulk.specs.declared.entries.KeyedMark.{KeyedMark}

-- each has the hash of its key
abbrev pub AreKeyed : (List ℕ → List ℕ) → List Keyed → Type 0
AreKeyed h ks = AllByRecursion (λ k. k.hash ≡ h (keyed_seen k).0) ks

-- ---- entries in one buffer

abbrev pub entry_spelled : List ℕ × Data → List ℕ
entry_spelled e = spell (entry_data e)

-- what stands before the value of an entry
abbrev pub entry_front : List ℕ → List ℕ
entry_front k = head 4 2 ++ spell_bytes k

-- the hash of an entry's key, and where its spelling stands in these bytes
pub record IsMarked (h : List ℕ → List ℕ) (b : List ℕ) (e : List ℕ × Data) (m : Mark) : Type 0 where
  pub hash : m.hash ≡ h e.0
  pub within : m.from + m.len ≤ length b
  pub spelled : take m.len (drop m.from b) ≡ entry_spelled e

abbrev pub AreMarked : (List ℕ → List ℕ) → List ℕ → List (List ℕ × Data) → List Mark → Type 0
AreMarked h b [] [] = Unit {0}
AreMarked h b [] (m ∷ ms) = ⊥
AreMarked h b (e ∷ es) [] = ⊥
AreMarked h b (e ∷ es) (m ∷ ms) = IsMarked h b e m × AreMarked h b es ms

abbrev pub mark_in : KeyedMark → Mark
mark_in k = k.mark

abbrev pub mark_behind : BorrowedMark → Mark
mark_behind k = k.mark.now

-- what is written of entries
pub record HasEntries (h : List ℕ → List ℕ) (es : List (List ℕ × Data)) (w : Entries) : Type 0 where
  pub marks : AreMarked h w.out es w.marks.items

-- ---- their parts by index

abbrev pub hashed_index : HamtShape → ℕ → HashedEntry → ℕ
hashed_index p depth k = index p k.hash depth

-- the entries of one index, in their order
abbrev pub hashed_part : HamtShape → ℕ → List HashedEntry → ℕ → List HashedEntry
hashed_part p depth ks i = filter (λ k. hashed_index p depth k == i) ks

-- all stand in their parts
pub record Parted (at : HashedEntry → ℕ) (count : ℕ) (ks : List HashedEntry) (parts : List (Vec HashedEntry)) : Type 0 where
  pub many : length parts ≡ count
  pub each : (i : ℕ) (z : Vec HashedEntry) → i < count → (slice_index_or parts i z).items ≡ filter (λ k. at k == i) ks

-- the pieces of entries stand in their parts
pub record HasParts (h : List ℕ → List ℕ) (p : HamtShape) (depth : ℕ) (es : List (List ℕ × Data)) (parts : List (Vec HashedEntry)) : Type 0 where
  pub pieces : List HashedEntry
  pub are : AreHashed h es pieces
  pub parted : Parted (hashed_index p depth) (2 ^ p.width) pieces parts

-- vectors without entries
pub record AreEmpty (count : ℕ) (parts : List (Vec HashedEntry)) : Type 0 where
  pub many : length parts ≡ count
  pub each : (i : ℕ) (z : Vec HashedEntry) → i < count → (slice_index_or parts i z).items ≡ []

-- ---- their marks by index

-- the marks of the entries of each index stand in their part
pub record HasMarks (h : List ℕ → List ℕ) (p : HamtShape) (depth : ℕ) (b : List ℕ) (es : List (List ℕ × Data)) (parts : List (Vec BorrowedMark)) : Type 0 where
  pub many : length parts ≡ 2 ^ p.width
  pub each : (i : ℕ) (z : Vec BorrowedMark) → i < 2 ^ p.width → AreMarked h b (part (at_depth h p depth) es i) (map mark_behind (slice_index_or parts i z).items)

-- vectors without marks
pub record AreBare (count : ℕ) (parts : List (Vec BorrowedMark)) : Type 0 where
  pub many : length parts ≡ count
  pub each : (i : ℕ) (z : Vec BorrowedMark) → i < count → (slice_index_or parts i z).items ≡ []
