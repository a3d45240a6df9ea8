-- Tables of types: lists of rows, in which a type's number is its place.
use Rattle.std.specs.Prelude.{◌≡◌, ℕ, ◌<◌, ◌≤◌, List, [], ◌∷◌, true, None, length, take, map, slice_index_or}
use Rattle.std.specs.List.{All}
use Rattle.ild_schema.specs.declared.def.TypeDef.{TypeDef}
use Rattle.ild_schema.specs.declared.def.TypeDef.TheVariants as D
use Rattle.ild_schema.specs.declared.row.Row.{Row}
use Rattle.ild_schema.specs.Copies.{NoneIsCircular}
use Rattle.ild_schema.specs.Names.{is_open, number_named}
use Rattle.ild_schema.specs.Prelude.{prelude}
use Rattle.ild_schema.specs.Spelled.{HasTexts}
pub use Rattle.ild_schema.specs.Rows.{def_at, name_at, place_at}

-- how many fields or members a type has
abbrev pub parts_of : TypeDef → ℕ
parts_of (D.Struct s) = length s.fields
parts_of (D.Union u) = length u.members
parts_of (D.Enum e) = length e.members
parts_of d = 0

-- the numbers of the types on which a type is made
abbrev pub numbers_of : TypeDef → List ℕ
numbers_of (D.Link target) = target.0 ∷ []
numbers_of (D.List elem at) = elem.ty.0 ∷ []
numbers_of (D.Map key key_at value at form) = key.0 ∷ value.ty.0 ∷ []
numbers_of (D.Struct s) = map (λ f. f.slot.ty.0) s.fields
numbers_of (D.Union u) = map (λ m. m.ty.0) u.members
numbers_of (D.Copy target) = target.0 ∷ []
numbers_of d = []

-- a type of a table of so many types: it has at most 1,024 parts, and each type that it is made on is in the table
abbrev pub IsWithin : ℕ → TypeDef → Type 0
IsWithin count def = (parts_of def ≤ 1024) × All (λ n. n < count) (numbers_of def)

-- a name that a text can use stands for one type: no type has the name of one before it
abbrev pub AreNamedOnce : List Row → Type 0
AreNamedOnce rows = (n : ℕ) (r : Row) → n < length rows → is_open (slice_index_or rows n r).origin ≡ true → number_named (slice_index_or rows n r).name (take n rows) ≡ None

-- the tables of schemas: the prelude, at most 65,535 types of a text, and one more that may be made of them, of which none is a
-- copy of itself, and whose texts and integers are those of blocks
pub record IsTable (rows : List Row) : Type 0 where
  pub prelude_first : take 8 rows ≡ prelude
  pub size : length rows ≤ 65544
  pub within : All (λ r. IsWithin (length rows) r.def) rows
  pub named_once : AreNamedOnce rows
  pub none_circular : NoneIsCircular rows
  pub texts : HasTexts rows
