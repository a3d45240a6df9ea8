-- Roots that name their schema: a map of the name of the value's type, the value, and a link to the block of the schema's text (IPLD
-- Schemas; DAG-CBOR, "Links").
use Rattle.std.specs.Prelude.{ℕ, ◌≤◌, codes, List, [], ◌∷◌, length, IsUtf8}
use Rattle.ild_data.specs.Data.{Data, text, map, link, members_of}
use Rattle.ild_data.specs.Limits.{longest_block}
use Rattle.ild_data.specs.Spell.{spell, cid_of, id_of}
use Rattle.ild_typed.specs.Stands.{Frame, IsFrame}

-- the map over the value's data, where the schema's block has this id; its keys stand in the order of a block
abbrev pub named_data : List ℕ → List ℕ → Data → Data
named_data name id d = map (members_of ((codes "type", text name) ∷ (codes "value", d) ∷ (codes "schema", link (cid_of id)) ∷ []))

-- the block of a schema's text
abbrev pub schema_block : List ℕ → List ℕ
schema_block source = spell (text source)

-- the frame of a root that names a type of a schema: the map is one level of the block
abbrev pub named : List ℕ → List ℕ → Frame
named name source = record { room = 95; wrap = named_data name (id_of (schema_block source)); beside = schema_block source ∷ [] }

-- a name and a schema's source are texts, and the source's is no longer than a block may be
pub record AreNaming (name source : List ℕ) : Type 0 where
  pub name_text : IsUtf8 name
  pub source_text : IsUtf8 source
  pub short : length (schema_block source) ≤ longest_block

-- what stands under such a root is told by it, as by a bare one
abbrev pub NamedAreFrames : Type 0
NamedAreFrames = (name source : List ℕ) → AreNaming name source → IsFrame (named name source)
