-- The parts of a piece in order: the items of a list, and the entries of a map.
use Rattle.std.specs.Borrow.{Bor}
use Rattle.std.specs.Prelude.{◌≡◌, ℕ, List, [], ◌∷◌, Option, Some, None}
use Rattle.ild_data.specs.Data as T
use Rattle.ild_data.specs.Data.{Data, Members, members_list}
use Rattle.ild_data.specs.Key.{without}
use Rattle.ild_cbor.specs.declared.node.Node.{Node}
use Rattle.ild_cbor.specs.declared.items.Items.{Items}
use Rattle.ild_cbor.specs.Nodes.{HasData}
use Rattle.ild_cbor.specs.Steps.{HasItems, HasEntries}
use Rattle.ild_layer_piece.specs.declared.walk.MapEntries.{MapEntries}

-- the node stands for the data that were sought, where they are there
abbrev pub Found : Option Data → Option Node → Type 0
Found (Some d) (Some n) = HasData n d
Found None None = Unit {0}
Found (Some d) None = ⊥
Found None (Some n) = ⊥

-- an iterator over these items, where there are items
abbrev pub Lists : Option (List Data) → Option Items → Type 0
Lists (Some ds) (Some s) = HasItems s (T.items_of ds)
Lists None None = Unit {0}
Lists (Some ds) None = ⊥
Lists None (Some s) = ⊥

-- the entries of a map that are handed out, where one may be passed over
abbrev pub but_for : Option (Bor (List ℕ)) → List (List ℕ × Data) → List (List ℕ × Data)
but_for None es = es
but_for (Some key) es = without key.now es

-- the iterator has these entries left
pub record HasLeft (s : MapEntries) (es : List (List ℕ × Data)) : Type 0 where
  pub entries : Members
  pub left : HasEntries s.pairs entries
  pub is : es ≡ but_for s.passed (members_list entries)

-- a key, a node for its value, and an iterator that has the others left
pub record StepsOver (k : List ℕ) (d : Data) (es : List (List ℕ × Data)) (key : List ℕ) (n : Node) (t : MapEntries) : Type 0 where
  pub key_is : key ≡ k
  pub stands : HasData n d
  pub left : HasLeft t es

abbrev pub EntryStep : List (List ℕ × Data) → Option (Bor (List ℕ) × Node) → MapEntries → Type 0
EntryStep [] None t = HasLeft t []
EntryStep [] (Some x) t = ⊥
EntryStep (e ∷ es) None t = ⊥
EntryStep (e ∷ es) (Some x) t = StepsOver e.0 e.1 es x.0.now x.1 t

abbrev pub EntriesGive : MapEntries → Option (Bor (List ℕ) × Node) → MapEntries → Type 0
EntriesGive s r t = (es : List (List ℕ × Data)) → HasLeft s es → EntryStep es r t

-- an iterator over these entries, where there are entries
abbrev pub Maps : Option (List (List ℕ × Data)) → Option MapEntries → Type 0
Maps (Some es) (Some s) = HasLeft s es
Maps None None = Unit {0}
Maps (Some es) None = ⊥
Maps None (Some s) = ⊥
