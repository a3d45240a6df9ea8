-- What is looked up for the fields of a struct, under their names.
use Rattle.std.specs.Prelude.{ℕ, zero, suc, Bool, false, is_none, List, [], ◌∷◌, map, Option, Some, None}
use Rattle.ild_cbor.specs.declared.node.Node.{Node}
use Rattle.ild_data.specs.Data.{Data}
use Rattle.ild_data.specs.Key.{value_at}
use Rattle.ild_layer_piece.specs.Entries.{Found}
use Rattle.ild_schema.specs.Marks.{field_text}
use Rattle.ild_schema.specs.declared.def.Field.{Field}

-- the value under each field's name
abbrev pub looked_up : List Field → List (List ℕ × Data) → List (Option Data)
looked_up fs es = map (λ f. value_at (field_text f) es) fs

-- nodes for the data that were sought
abbrev pub AllFound : List (Option Data) → List (Option Node) → Type 0
AllFound [] [] = Unit {0}
AllFound [] (n ∷ ns) = ⊥
AllFound (o ∷ os) [] = ⊥
AllFound (o ∷ os) (n ∷ ns) = Found o n × AllFound os ns

-- nothing stands at a place so far
abbrev pub is_free : List (Option Node) → ℕ → Bool
is_free [] i = false
is_free (o ∷ os) zero = is_none o
is_free (o ∷ os) (suc i) = is_free os i

-- the node at a place, where nothing stands there so far
abbrev pub first_kept : Option Node → Node → Option Node
first_kept None n = Some n
first_kept (Some m) n = Some m

abbrev pub noted : ℕ → Node → List (Option Node) → List (Option Node)
noted i n [] = []
noted zero n (o ∷ os) = first_kept o n ∷ os
noted (suc i) n (o ∷ os) = o ∷ noted i n os
