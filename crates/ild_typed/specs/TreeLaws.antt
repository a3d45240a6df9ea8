-- The laws of trees: what stands in a block is a tree within its limits.
use Rattle.std.specs.Prelude.{◌≡◌, ℕ, List, ◌∷◌, Some}
use Rattle.std.specs.List.{AllByRecursion}
use Rattle.ild_data.specs.Data.{Data}
use Rattle.ild_data.specs.Spell.{spell}
use Rattle.ild_schema.specs.declared.number.Slot.{Slot}
use Rattle.ild_schema.specs.declared.number.TypeNo.{TypeNo}
use Rattle.ild_schema.specs.declared.row.Row.{Row}
use Rattle.ild_schema.specs.Value.{Value}
use Rattle.ild_typed.specs.Hamt.{whole}
use Rattle.ild_typed.specs.Represented.{represented}
use Rattle.ild_typed.specs.Fits.{Fits, Front}
use Rattle.ild_typed.specs.Schema.{IsSchema}
use Rattle.ild_typed.specs.Shown.{shown}
use Rattle.ild_typed.specs.Nested.{TreeIn, BlockIn, IsBlock}
use Rattle.ild_typed.specs.Blocks.{nodes}
use Rattle.ild_typed.specs.Stands.{Frame, IsFrame, blocks_of, Storable}

-- the data of a front are a tree, nested no deeper than the front's room
abbrev pub FrontsAreTrees : Type 0
FrontsAreTrees =
    (rows : List Row) → IsSchema rows → (room : ℕ) (s : Slot) (f : Value) (d : Data) → Front rows room s f d → TreeIn room d

-- the representation of a value is a tree, nested no deeper than the room in which the value fits
abbrev pub ValuesAreTrees : Type 0
ValuesAreTrees =
    (h : List ℕ → List ℕ) (rows : List Row) → IsSchema rows → (room : ℕ) (s : Slot) (v : Value) (d : Data)
    → Fits rows room s v → represented (whole h) rows s v ≡ Some d → TreeIn room d

-- and they have a front: the block of a value can be viewed
abbrev pub ValuesHaveFronts : Type 0
ValuesHaveFronts =
    (h : List ℕ → List ℕ) (rows : List Row) → IsSchema rows → (room : ℕ) (s : Slot) (v : Value) (d : Data)
    → Fits rows room s v → represented (whole h) rows s v ≡ Some d → (f : Value) × Front rows room s f d

-- each of its blocks is such a tree, those of the nodes of its HAMTs too
abbrev pub BlocksAreNested : Type 0
BlocksAreNested =
    (h : List ℕ → List ℕ) (rows : List Row) → IsSchema rows → (room : ℕ) (s : Slot) (v : Value) (d : Data)
    → Fits rows room s v → represented (whole h) rows s v ≡ Some d → AllByRecursion (BlockIn room) (spell d ∷ nodes h rows s v)

-- each block of a value that a store can hold is within the limits
abbrev pub StorableBlocks : Type 0
StorableBlocks =
    (f : Frame) → IsFrame f → (h : List ℕ → List ℕ) (rows : List Row) → IsSchema rows → (n : TypeNo) (v : Value) (d : Data)
    → Storable f h rows n v d → AllByRecursion IsBlock (blocks_of f h rows n v d)

-- and the shown form is a tree that nests no deeper either
abbrev pub ShownAreTrees : Type 0
ShownAreTrees =
    (rows : List Row) → IsSchema rows → (room : ℕ) (s : Slot) (v : Value) → Fits rows room s v → TreeIn room (shown rows s v)
