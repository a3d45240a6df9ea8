-- Where HAMTs stand in the data of a typed value: in a block, and in the values of entries of other HAMTs (IPLD HashMap; IPLD
-- Schemas, "Advanced Data Layouts").
use Rattle.std.specs.Prelude.{◌≡◌, ℕ, zero, suc, ◌+◌, ◌-◌, List, Option, Some, Contains, slice_get}
use Rattle.ild_data.specs.Data.{Data}
use Rattle.ild_data.specs.Trie.{TrieSlot, bucket}
use Rattle.ild_data.specs.declared.hamt_shape.HamtShape.{HamtShape}
use Rattle.ild_schema.specs.declared.def.Field.{Field}
use Rattle.ild_schema.specs.declared.def.Member.{Member}
use Rattle.ild_schema.specs.declared.def.TypeDef.{TypeDef}
use Rattle.ild_schema.specs.declared.def.TypeDef.TheVariants as D
use Rattle.ild_schema.specs.declared.def.MapForm.TheVariants as MF
use Rattle.ild_schema.specs.declared.number.Slot.{Slot}
use Rattle.ild_schema.specs.declared.number.TypeNo.{TypeNo}
use Rattle.ild_schema.specs.declared.row.Row.{Row}
use Rattle.ild_schema.specs.Slots.{form_of}
use Rattle.ild_typed.specs.Composed.{composed}
use Rattle.ild_typed.specs.Hamt.{alone}
use Rattle.ild_typed.specs.Layer.{Layer, list, map, struct, union}
use Rattle.ild_typed.specs.Node.{IsRoot}
use Rattle.ild_typed.specs.Pieces.{needs}
use Rattle.ild_typed.specs.Slots.{slot_of}
use Rattle.ild_bulk_walker.specs.OnTree.{HasNode, IsOnTree}

-- these data are the part at a slot of a layer of a type's form
abbrev pub IsPartIn : TypeDef → Layer Data → Slot → Data → Type 0
IsPartIn (D.List elem at) (list ds) s x = (s ≡ elem) × Contains ds x
IsPartIn (D.Map key key_at value at form) (map es) s x = (s ≡ value) × (k : List ℕ) × Contains es (k, x)
IsPartIn (D.Struct def) (struct os) s x =
    (i : ℕ) × (f : Field) × (slice_get def.fields i ≡ Some f) × (slice_get os i ≡ Some (Some x)) × (s ≡ f.slot)
IsPartIn (D.Union def) (union n y) s x = (m : Member) × (slice_get def.members n ≡ Some m) × (s ≡ slot_of m) × (x ≡ y)
IsPartIn d l s x = ⊥

-- of data of the type
pub record IsPartOf (d : TypeDef) (t : Data) (s : Slot) (x : Data) : Type 0 where
  pub layer : Layer Data
  pub made : composed alone d layer ≡ Some t
  pub part : IsPartIn d layer s x

-- a HAMT: the block in which its root stands, the slots of its root node, the type of its keys, the slot of its values, and the room
-- that is left for these
pub record Site : Type 0 where
  pub block : List ℕ
  pub shape : HamtShape
  pub slots : List TrieSlot
  pub key : TypeNo
  pub value : Slot
  pub room : ℕ

-- its root are these data of a slot, where so much room is left
pub record IsSite (rows : List Row) (room : ℕ) (s : Slot) (t : Data) (z : Site) : Type 0 where
  pub key_at : ℕ
  pub at : ℕ
  pub form : form_of rows s ≡ Some (D.Map z.key key_at z.value at (MF.Hamt z.shape))
  pub root : IsRoot z.shape z.slots t
  pub left : room ≡ z.room + 5

pub record StepsTo (rows : List Row) (room : ℕ) (s : Slot) (t : Data) (later : ℕ → Slot → Data → Type 0) : Type 0 where
  pub type : TypeDef
  pub form : form_of rows s ≡ Some type
  pub slot : Slot
  pub tree : Data
  pub part : IsPartOf type t slot tree
  pub then : later (room - needs type t) slot tree

-- so many steps to parts lead from data of a slot to it
abbrev pub HasSite : List Row → ℕ → ℕ → Slot → Data → Site → Type 0
HasSite rows zero room s t z = IsSite rows room s t z
HasSite rows (suc steps) room s t z = StepsTo rows room s t (λ r u x. HasSite rows steps r u x z)

-- an entry in a bucket of a node on its tree, which is the block of this id
pub record HasEntry (told : Option (List (List ℕ))) (z : Site) (id : List ℕ) (key : List ℕ) (value : Data) : Type 0 where
  pub up : List ℕ
  pub on : IsOnTree z.shape told z.slots z.block up id
  pub slots : List TrieSlot
  pub node : HasNode z.shape told z.slots up id slots
  pub index : ℕ
  pub entries : List (List ℕ × Data)
  pub stands : slice_get slots index ≡ Some (bucket entries)
  pub place : ℕ
  pub is : slice_get entries place ≡ Some (key, value)
