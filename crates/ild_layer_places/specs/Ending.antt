-- Where the ways of parts end: at the part itself, but for parts without parts of their own, and for the member of an inline
-- union, which is the whole without the entry of its discriminant.
use Rattle.std.specs.Prelude.{◌≡◌, ◌⊎◌, ℕ, Bool, true, List, [], ◌∷◌, Some, None, is_some}
use Rattle.std.specs.List.{AllByRecursion}
use Rattle.ild_data.specs.Data.{Data}
use Rattle.ild_data.specs.Key.{put, value_at}
use Rattle.ild_data.specs.Data as T
use Rattle.ild_data.specs.Tree.{IsTree}
use Rattle.ild_layer_piece.specs.Pieces.{inline_key}
use Rattle.ild_schema.specs.Slots.{form_of}
use Rattle.ild_schema.specs.declared.def.StructDef.{StructDef}
use Rattle.ild_schema.specs.declared.def.TypeDef.{TypeDef}
use Rattle.ild_schema.specs.declared.def.TypeDef.TheVariants as D
use Rattle.ild_schema.specs.declared.number.Slot.{Slot}
use Rattle.ild_schema.specs.declared.row.Row.{Row}
use Rattle.ild_typed.specs.Refused.{AreParts}
use Rattle.ild_typed.specs.Schema.{IsSchema}
use Rattle.ild_typed.specs.Spots.{Spot, Step}
use Rattle.ild_typed.specs.Strings.{map_data}
use Rattle.ild_typed.specs.Ways.{found_at, step_in}

-- data without parts
abbrev pub IsPlain : Data → Type 0
IsPlain d = (s : Step) → step_in s d ≡ None

-- the way ends at these data
abbrev pub Ends : List Step → Data → Data → Type 0
Ends way t d = (o : ℕ) × (found_at way t ≡ Some (o, d))

-- the same below the data themselves
pub record EndsBelow (way : List Step) (t d : Data) : Type 0 where
  pub step : Step
  pub rest : List Step
  pub is : way ≡ step ∷ rest
  pub ends : Ends way t d

-- the part stands where its way ends, or has no parts
abbrev pub IsOwn : Data → Spot → Type 0
IsOwn t p = IsPlain p.tree ⊎ EndsBelow p.at t p.tree

-- the part is the whole without one entry
pub record IsLess (t : Data) (p : Spot) : Type 0 where
  pub key : List ℕ
  pub name : List ℕ
  pub entries : List (List ℕ × Data)
  pub none : value_at key entries ≡ None
  pub whole : map_data (put key (T.text name) entries) ≡ t
  pub part : p.tree ≡ map_data entries

-- whether a discriminant stands among the entries of a union's member
abbrev pub has_inline : TypeDef → Bool
has_inline d = is_some (inline_key d)

-- the member of a union is the whole, or there the whole without one entry
abbrev pub IsMember : Bool → Data → Spot → Type 0
IsMember inline t p = (p.at ≡ []) × ((p.tree ≡ t) ⊎ ((inline ≡ true) × IsLess t p))

abbrev pub EndsAt : Bool → Data → Spot → Type 0
EndsAt inline t p = IsOwn t p ⊎ IsMember inline t p

abbrev pub PartsEnd : Type 0
PartsEnd =
    (rows : List Row) → IsSchema rows → (s : Slot) (d : TypeDef) → form_of rows s ≡ Some d
    → (t : Data) (ps : List Spot) → IsTree t → AreParts d t ps → AllByRecursion (EndsAt (has_inline d) t) ps

-- those of a struct are no such members
abbrev pub FieldsEnd : Type 0
FieldsEnd =
    (rows : List Row) → IsSchema rows → (s : Slot) (st : StructDef) → form_of rows s ≡ Some (D.Struct st)
    → (t : Data) (ps : List Spot) → IsTree t → AreParts (D.Struct st) t ps → AllByRecursion (IsOwn t) ps
