-- Places by steps, and places by numbers as the reader of a block counts them: a change of a tree changes one span of its block.
use Rattle.std.specs.Prelude.{◌≡◌, ℕ, ◌+◌, List, [], ◌∷◌, ◌++◌, take, drop, Some, slice_range}
use Rattle.std.specs.Option.{option_map_or}
use Rattle.ild_data.specs.Data.{Data}
use Rattle.ild_data.specs.Spell.{spell}
use Rattle.ild_cbor.specs.Span.{Span, index_of, span_of, tree_at}
use Rattle.ild_splice_changes.specs.TreeChange.{TreeStep, nth, key, TreeChange, child, part_at, changed, change_here}

-- the number of the part to which a step leads: an item's place, or that of an entry's key
abbrev pub number_of : TreeStep → Data → ℕ
number_of (nth i) t = i
number_of (key k) t = index_of k t

abbrev pub numbers_of : List TreeStep → Data → List ℕ
numbers_of [] t = []
numbers_of (s ∷ q) t = number_of s t ∷ option_map_or (λ u. numbers_of q u) (child s t) []

-- steps and their numbers lead to one part
abbrev pub PartsAreNumbered : Type 0
PartsAreNumbered = (q : List TreeStep) (t d : Data) → part_at q t ≡ Some d → tree_at t (numbers_of q t) ≡ Some d

-- the change of a part gives the same block but for the span of that part, where what it becomes is spelled
pub record IsSpliced (t d : Data) (q : List TreeStep) (c : TreeChange) : Type 0 where
  pub span : Span
  pub is : span_of t (numbers_of q t) ≡ Some span
  pub now : slice_range (spell t) span.start (span.start + span.size) ≡ spell d
  pub after : spell (changed q c t) ≡ take span.start (spell t) ++ (spell (change_here c d) ++ drop (span.start + span.size) (spell t))

abbrev pub ChangesAreSpliced : Type 0
ChangesAreSpliced = (q : List TreeStep) (c : TreeChange) (t d : Data) → part_at q t ≡ Some d → IsSpliced t d q c
