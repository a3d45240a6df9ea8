-- The parts of a root that names its schema, read from its block; or why data are no such root's.
use Rattle.std.specs.Prelude.{◌≡◌, ℕ, codes, cond, List, length, Bool, ◌&&◌, nat_eq, Result, Ok, Err, is_some}
use Rattle.ild_data.specs.Data.{Data, map, members_list}
use Rattle.ild_cbor.specs.Nodes.{IsPart}
use Rattle.ild_cbor.specs.Span.{entry_of, place_of}
use Rattle.ild_cbor.specs.declared.node.Node.{Node}
use Rattle.ild_cbor.specs.declared.why.Why.{Why}
use Rattle.ild_cbor.specs.declared.why.Why.TheVariants as Y
use Rattle.ild_named.specs.Named.{named_data}
use Rattle.ild_named.specs.declared.parts.NamedParts.{NamedParts}

-- these are the parts of the root that the data of a node are
pub record HasParts (node : Node) (t : Data) (p : NamedParts) : Type 0 where
  pub value : Data
  pub is : t ≡ named_data p.name.now p.schema.0 value
  pub wide : length p.schema.0 ≡ 32
  pub part : IsPart node p.value (place_of t 1) value

-- data of no root that names its schema
abbrev pub IsUnnamed : Data → Type 0
IsUnnamed t = (name id : List ℕ) (d : Data) → length id ≡ 32 → t ≡ named_data name id d → ⊥

abbrev pub has_names : Data → Bool
has_names t = is_some (entry_of t (codes "type")) && (is_some (entry_of t (codes "value")) && is_some (entry_of t (codes "schema")))

-- what is told of them: they are no map, or one with another number of entries, or with other names; else `type` is no text, or
-- `schema` no link to a block
abbrev pub unnamed_why : Data → Why
unnamed_why (map ms) = cond (nat_eq (length (members_list ms)) 3) (cond (has_names (map ms)) Y.Kind Y.Name) Y.Count
unnamed_why t = Y.Kind

-- they are no such root's, for what is told
pub record IsMisnamed (t : Data) (why : Why) : Type 0 where
  pub unnamed : IsUnnamed t
  pub told : why ≡ unnamed_why t

abbrev pub FindsParts : Node → Data → Result NamedParts Why → Type 0
FindsParts node t (Ok p) = HasParts node t p
FindsParts node t (Err why) = IsMisnamed t why
