-- Entries that are spelled, with the hashes of their keys.
use Rattle.std.specs.Prelude.{◌≡◌, ℕ, List, [], ◌∷◌}
use Rattle.ild_data.specs.Data.{Data}
use Rattle.ild_data.specs.Spell.{spell}
use Rattle.ild_data.specs.Trie.{entry_data}
use Rattle.ild_node.specs.declared.hashed.HashedEntry.{HashedEntry}

-- the spelling of an entry, with the hash of its key
pub record IsHashed (h : List ℕ → List ℕ) (e : List ℕ × Data) (k : HashedEntry) : Type 0 where
  pub hash : k.hash ≡ h e.0
  pub spelled : k.entry.now ≡ spell (entry_data e)

-- those of entries, one after another
abbrev pub AreHashed : (List ℕ → List ℕ) → List (List ℕ × Data) → List HashedEntry → Type 0
AreHashed h [] [] = Unit {0}
AreHashed h [] (k ∷ ks) = ⊥
AreHashed h (e ∷ es) [] = ⊥
AreHashed h (e ∷ es) (k ∷ ks) = IsHashed h e k × AreHashed h es ks
