-- What a piece of a block stands for: the data that represent a value of a type there (IPLD Schemas, "Representation
-- Strategies"). The member of an inline union is its map without the entry of the discriminant.
use Rattle.std.specs.Prelude.{◌≡◌, ℕ, ◌<◌, Bool, true, false, is_some, List, length, Option, Some, None, option_and_then}
use Rattle.ild_data.specs.Data as T
use Rattle.ild_data.specs.Data.{Data, Members, members_list}
use Rattle.ild_data.specs.Key.{same_text, value_at, without}
use Rattle.ild_cbor.specs.declared.node.Node.{Node}
use Rattle.ild_cbor.specs.declared.piece.Piece.{Piece}
use Rattle.ild_cbor.specs.declared.piece.Piece.TheVariants as P
use Rattle.ild_cbor.specs.Nodes.{HasData}
use Rattle.ild_schema.specs.declared.def.TypeDef.{TypeDef}
use Rattle.ild_schema.specs.declared.def.TypeDef.TheVariants as D
use Rattle.ild_schema.specs.declared.def.UnionForm.{UnionForm}
use Rattle.ild_schema.specs.declared.def.UnionForm.TheVariants as UF
use Rattle.ild_schema.specs.declared.row.Row.{Row}
use Rattle.ild_schema.specs.Kinds.{meant}
use Rattle.ild_typed.specs.Strings.{map_data}

-- the key of a discriminant that stands among the entries of a union's member
abbrev pub form_key : UnionForm → Option (List ℕ)
form_key (UF.Inline key) = Some key
form_key form = None

abbrev pub inline_key : TypeDef → Option (List ℕ)
inline_key (D.Union u) = form_key u.form
inline_key d = None

-- that of the type with a number, copies followed
abbrev pub passed_key : List Row → ℕ → Option (List ℕ)
passed_key rows u = option_and_then inline_key (meant rows u)

-- a key is the one that is passed over
abbrev pub is_key : List ℕ → Option (List ℕ) → Bool
is_key key None = false
is_key key (Some passed) = same_text key passed

-- a map that has an entry at the key, without this entry
pub record IsWithout (passed : Option (List ℕ)) (n : Node) (t : Data) : Type 0 where
  pub key : List ℕ
  pub key_is : passed ≡ Some key
  pub entries : Members
  pub stands : HasData n (T.map entries)
  pub has : is_some (value_at key (members_list entries)) ≡ true
  pub rest : t ≡ map_data (without key (members_list entries))

abbrev pub StandsFor : List Row → Piece → Data → Type 0
StandsFor rows (P.Node n) t = HasData n t
StandsFor rows (P.Text s) t = t ≡ T.text s.now
StandsFor rows (P.Bytes s) t = t ≡ T.bytes s.now
StandsFor rows (P.Inline n u) t = IsWithout (passed_key rows u) n t

-- the union whose discriminant is passed over, if one is, is in the table
abbrev pub IsNumbered : List Row → Piece → Type 0
IsNumbered rows (P.Node n) = Unit {0}
IsNumbered rows (P.Text s) = Unit {0}
IsNumbered rows (P.Bytes s) = Unit {0}
IsNumbered rows (P.Inline n u) = u < length rows
