-- Paths into small values.
use Rattle.std.specs.Prelude.{◌≡◌, ℕ, pos, Bool, true, false, List, [], ◌∷◌, ◌++◌, Some, None, codes, refl}
use Rattle.ild_data.specs.Data as T
use Rattle.ild_data.specs.Data.{Data}
use Rattle.ild_data.specs.TrieShape.{usual}
use Rattle.ild_schema.specs.declared.def.TypeDef.TheVariants as D
use Rattle.ild_schema.specs.declared.def.MapForm.TheVariants as MF
use Rattle.ild_schema.specs.declared.def.StructForm.TheVariants as S
use Rattle.ild_schema.specs.declared.def.UnionForm.TheVariants as UF
use Rattle.ild_schema.specs.declared.def.Field.{Field}
use Rattle.ild_schema.specs.declared.def.Mark.TheVariants as M
use Rattle.ild_schema.specs.declared.row.Row.{Row}
use Rattle.ild_schema.specs.Prelude.{prelude, given, number, anything}
use Rattle.ild_schema.specs.Slots.{plainly}
use Rattle.ild_schema.specs.Value as V
use Rattle.ild_schema.specs.Value.{Value}
use Rattle.ild_typed.specs.At.{InSlot, at, reached, here, enter, no_path}
use Rattle.ild_typed.specs.Segment.{index_of}
use Rattle.std.specs.Fmt.{digits}

abbrev field : List ℕ → ℕ → Bool → Field
field name n optional = record { name = name; at = 0; optional = optional; slot = plainly (number n); rename = None; implicit = None }

-- type 8 is a struct of a list of integers and an optional map, type 9 the list, type 10 the map, type 11 a union
rows : List Row
rows =
    prelude
    ++ given [] (D.Struct (record { fields = field (codes "l") 9 false ∷ field (codes "m") 10 true ∷ []; form = S.Tuple }))
    ∷ given [] (D.List (plainly (number 3)) 0)
    ∷ given [] (D.Map (number 7) 0 (plainly (number 3)) 0 (MF.Hamt usual))
    ∷ given [] (D.Union (record { members = record { name = codes "Int"; at = 0; ty = number 3; mark = M.Text (codes "i") } ∷ []; form = UF.Keyed }))
    ∷ []

abbrev n : ℕ → Value
n k = V.integer (pos k)

abbrev list_of : Value
list_of = V.list (V.value (n 5) (V.value (n 6) V.no_values))

abbrev whole : InSlot
whole = (plainly (number 8), V.struct (V.present list_of (V.present (V.map (V.pair (codes "a") (n 1) V.no_pairs)) V.no_optionals)))

abbrev rooted : InSlot
rooted = (plainly (number 8), V.struct (V.present list_of (V.present (V.hamt T.null) V.no_optionals)))

the_whole : at rows whole [] ≡ Some whole
the_whole = refl

an_element : at rows whole (codes "l" ∷ codes "1" ∷ []) ≡ Some (plainly (number 3), n 6)
unfolding index_of digits rows
an_element = refl

no_leading_zeros : at rows whole (codes "l" ∷ codes "01" ∷ []) ≡ None
unfolding index_of digits rows
no_leading_zeros = refl

behind_the_last : at rows whole (codes "l" ∷ codes "2" ∷ []) ≡ None
unfolding index_of digits rows
behind_the_last = refl

an_entry : at rows whole (codes "m" ∷ codes "a" ∷ []) ≡ Some (plainly (number 3), n 1)
unfolding rows
an_entry = refl

no_entry : reached rows 0 whole (codes "m" ∷ codes "b" ∷ []) ≡ no_path 1
unfolding rows
no_entry = refl

no_field : reached rows 0 whole (codes "x" ∷ codes "b" ∷ []) ≡ no_path 0
unfolding rows
no_field = refl

absent_field : at rows (plainly (number 8), V.struct (V.present list_of (V.absent V.no_optionals))) (codes "m" ∷ []) ≡ None
unfolding rows
absent_field = refl

-- the root of a HAMT is entered at the segment that is a key
root_itself : reached rows 0 rooted (codes "m" ∷ []) ≡ here (plainly (number 10), V.hamt T.null)
unfolding rows
root_itself = refl

behind_a_root : reached rows 0 rooted (codes "m" ∷ codes "a" ∷ []) ≡ enter (plainly (number 10), V.hamt T.null) 1
unfolding rows
behind_a_root = refl

a_member : at rows (plainly (number 11), V.union 0 (n 7)) (codes "Int" ∷ []) ≡ Some (plainly (number 3), n 7)
unfolding rows
a_member = refl

-- not by the text that stands in a block
no_member : at rows (plainly (number 11), V.union 0 (n 7)) (codes "i" ∷ []) ≡ None
unfolding rows
no_member = refl

-- inside an Any each part is of the slot that may be null
inside_any : at rows (plainly (number 0), V.any (T.map (T.member (codes "k") T.null T.no_members))) (codes "k" ∷ []) ≡ Some (anything, V.null)
inside_any = refl
