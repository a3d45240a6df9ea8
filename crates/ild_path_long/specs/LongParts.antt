-- A part of a value that is longer than a block may be stands in a block that is too long (IPLD HashMap, "Element": entries of a HAMT
-- stand in the blocks of its nodes).
use Rattle.std.specs.Prelude.{◌≡◌, ℕ, Bool, true, List, ◌∷◌, Some}
use Rattle.ild_bulk.specs.Build.{any_long}
use Rattle.ild_data.specs.Data.{Data}
use Rattle.ild_data.specs.Spell.{spell}
use Rattle.ild_path_sizes.specs.Long.{HasLongPart}
use Rattle.ild_schema.specs.declared.row.Row.{Row}
use Rattle.ild_typed.specs.At.{InSlot}
use Rattle.ild_typed.specs.Blocks.{nodes}
use Rattle.ild_typed.specs.Hamt.{whole}
use Rattle.ild_typed.specs.OfType.{OfType, TestsKeys}
use Rattle.ild_typed.specs.Represented.{represented}
use Rattle.ild_typed.specs.Schema.{IsSchema}

-- where some part is too long, at any path, also through the entries of HAMTs, the value's own block is, or that of a node in it
abbrev pub LongPartsAreInBlocks : Type 0
LongPartsAreInBlocks =
    (h : List ℕ → List ℕ) (rows : List Row) (is_key : ℕ → List ℕ → Bool) → IsSchema rows → TestsKeys rows is_key → (p : InSlot) (u : Data)
    → OfType rows p.0 p.1 → represented (whole h) rows p.0 p.1 ≡ Some u → HasLongPart h rows p → any_long (spell u ∷ nodes h rows p.0 p.1) ≡ true
