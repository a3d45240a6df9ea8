-- The entries that the slots of a node hold, gathered slot by slot.
use Rattle.std.specs.Prelude.{ℕ, ◌+◌, ◌==◌, nat_lt, ◌||◌, List, [], ◌∷◌, length, Option, Some, None}
use Rattle.std.specs.List.{filter}
use Rattle.std.specs.FinMap.{put}
use Rattle.ild_data.specs.Data.{Data}
use Rattle.ild_data.specs.ByteOrder.{bytewise}
use Rattle.ild_data.specs.Trie.{TrieSlot, empty, bucket, child}

-- each of these entries put among others, one after another
abbrev pub put_each : List (List ℕ × Data) → List (List ℕ × Data) → List (List ℕ × Data)
put_each [] rows = rows
put_each (e ∷ es) rows = put_each es (put bytewise e.0 e.1 rows)

-- how many entries a slot stands for, or one more than a bucket takes where it is a child's
abbrev pub weight : ℕ → TrieSlot → ℕ
weight most empty = 0
weight most (bucket es) = length es
weight most (child id) = most + 1

-- the entries of one index, and of those below another
abbrev pub held_to : (List ℕ → ℕ) → ℕ → ℕ → List (List ℕ × Data) → List (List ℕ × Data)
held_to at i j es = filter (λ e. (at e.0 == i) || nat_lt (at e.0) j) es

abbrev pub some_entry : Option (List ℕ × Data) → List (List ℕ × Data)
some_entry None = []
some_entry (Some e) = e ∷ []
