-- The fields of a struct as a block has them (IPLD Schemas, "Struct Representation Strategies"). Each optional value goes
-- with the field of its place; without a value a field must be optional.
use Rattle.std.specs.Prelude.{ℕ, Bool, true, false, cond, not, ◌&&◌, nat_eq, ℤ, pos, negsuc, List, [], ◌∷◌, ◌++◌, Option, Some, None, option_map, bytes_eq}
use Rattle.ild_data.specs.Data as T
use Rattle.ild_data.specs.Data.{Data}
use Rattle.ild_schema.specs.declared.def.Field.{Field}
use Rattle.ild_schema.specs.declared.def.Scalar.{Scalar}
use Rattle.ild_schema.specs.declared.def.Scalar.TheVariants as C
use Rattle.ild_schema.specs.Marks.{field_text}

abbrev pub same_bool : Bool → Bool → Bool
same_bool true b = b
same_bool false b = not b

abbrev pub same_int : ℤ → ℤ → Bool
same_int (pos m) (pos n) = nat_eq m n
same_int (negsuc m) (negsuc n) = nat_eq m n
same_int (pos m) (negsuc n) = false
same_int (negsuc m) (pos n) = false

abbrev pub is_scalar : Scalar → Data → Bool
is_scalar (C.Bool a) (T.boolean b) = same_bool a b
is_scalar (C.Int a) (T.integer b) = same_int a b
is_scalar (C.Text a) (T.text b) = bytes_eq a b
is_scalar s d = false

-- whether the data are those of the value that stands for the field where it is left out
abbrev pub is_implicit : Option Scalar → Data → Bool
is_implicit None d = false
is_implicit (Some s) d = is_scalar s d

-- what is written of a field with these data
abbrev pub entries_of : Field → Data → List (List ℕ × Data)
entries_of f d = cond (is_implicit f.implicit d) [] ((field_text f, d) ∷ [])

-- names with values, in the order of declaration
abbrev pub field_entries : List Field → List (Option Data) → Option (List (List ℕ × Data))
field_entries [] [] = Some []
field_entries [] (o ∷ os) = None
field_entries (f ∷ fs) [] = None
field_entries (f ∷ fs) (Some d ∷ os) = option_map (λ es. entries_of f d ++ es) (field_entries fs os)
field_entries (f ∷ fs) (None ∷ os) = cond f.optional (field_entries fs os) None

-- whether all fields may be left out, and are
abbrev pub are_absent : List Field → List (Option Data) → Bool
are_absent [] [] = true
are_absent [] (o ∷ os) = false
are_absent (f ∷ fs) [] = false
are_absent (f ∷ fs) (Some d ∷ os) = false
are_absent (f ∷ fs) (None ∷ os) = f.optional && are_absent fs os

-- the values in the order of declaration, where only last ones are absent
abbrev pub tuple_items : List Field → List (Option Data) → Option (List Data)
tuple_items [] [] = Some []
tuple_items [] (o ∷ os) = None
tuple_items (f ∷ fs) [] = None
tuple_items (f ∷ fs) (Some d ∷ os) = option_map (λ ds. d ∷ ds) (tuple_items fs os)
tuple_items (f ∷ fs) (None ∷ os) = cond (are_absent (f ∷ fs) (None ∷ os)) (Some []) None

-- the values, where none is absent
abbrev pub all_items : List Field → List (Option Data) → Option (List Data)
all_items [] [] = Some []
all_items [] (o ∷ os) = None
all_items (f ∷ fs) [] = None
all_items (f ∷ fs) (Some d ∷ os) = option_map (λ ds. d ∷ ds) (all_items fs os)
all_items (f ∷ fs) (None ∷ os) = None
