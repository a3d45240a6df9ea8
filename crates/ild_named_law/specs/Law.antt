-- A root that names its schema, as a value of the struct that stands last in the longer table.
use Rattle.std.specs.Prelude.{◌↔◌, ℕ, ◌<◌, List, [], ◌∷◌, length, Option}
use Rattle.ild_data.specs.Among.{AreUnderIds}
use Rattle.ild_data.specs.Spell.{cid_of, id_of}
use Rattle.ild_schema.specs.declared.number.TypeNo.{TypeNo}
use Rattle.ild_schema.specs.declared.row.Row.{Row}
use Rattle.ild_schema.specs.Table.{IsTable}
use Rattle.ild_schema.specs.Value as V
use Rattle.ild_schema.specs.Value.{Value}
use Rattle.ild_typed.specs.Stands.{Stands, bare}
use Rattle.ild_named.specs.Named.{AreNaming, named, schema_block}
use Rattle.ild_named_type.specs.Root.{named_rows, root_type}

-- the struct over a value: the name of its type, the value, and the link to the block of the schema's text
abbrev pub rooted : List ℕ → List ℕ → Value → Value
rooted name source v = V.struct (V.present (V.text name) (V.present v (V.present (V.link (cid_of (id_of (schema_block source)))) V.no_optionals)))

-- block is what a store answers for an id, and h the hash of HAMTs
abbrev pub RootsAreStructs : Type 0
RootsAreStructs =
    (block : List ℕ → Option (List ℕ)) (h : List ℕ → List ℕ) (rows : List Row) (n : TypeNo) → IsTable rows → n.0 < length rows
    → (name source : List ℕ) → AreNaming name source → (id : List ℕ) (v : Value)
    → Stands (named name source) block h rows n id v
    ↔ (Stands bare block h (named_rows rows n) (root_type rows) id (rooted name source v) × AreUnderIds block (schema_block source ∷ []))
