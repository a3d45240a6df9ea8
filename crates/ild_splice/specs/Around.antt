-- The entries of a map before and behind a key.
use Rattle.std.specs.Prelude.{◌≡◌, ℕ, List, ◌∷◌, ◌++◌, length, ◌+◌}
use Rattle.ild_splice_changes.specs.Laws.{spell_pairs}
use Rattle.ild_data.specs.Data.{Data}
use Rattle.ild_data.specs.Key.{put, without}

-- the entries before the place of the key, and those behind it, the entry at the key left out
pub record IsCut (key : List ℕ) (ms front behind : List (List ℕ × Data)) : Type 0 where
  pub puts : (e : Data) → put key e ms ≡ front ++ (key, e) ∷ behind
  pub goes : without key ms ≡ front ++ behind

-- how many bytes of the entries' spelling stand before the place of the key, and how many with the entry at the key
pub record AreCutAtKey (from to : ℕ) (key : List ℕ) (ms : List (List ℕ × Data)) : Type 0 where
  pub front : List (List ℕ × Data)
  pub here : List ℕ
  pub behind : List (List ℕ × Data)
  pub cuts : IsCut key ms front behind
  pub whole : spell_pairs ms ≡ spell_pairs front ++ (here ++ spell_pairs behind)
  pub from_is : from ≡ length (spell_pairs front)
  pub to_is : to ≡ length (spell_pairs front) + length here

-- what is spelled before the place of the key, and behind it
pub record AreAroundKey (before after key : List ℕ) (ms : List (List ℕ × Data)) : Type 0 where
  pub front : List (List ℕ × Data)
  pub behind : List (List ℕ × Data)
  pub cuts : IsCut key ms front behind
  pub before_is : before ≡ spell_pairs front
  pub after_is : after ≡ spell_pairs behind
