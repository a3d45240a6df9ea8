-- The children of a block that stands at a place in a value, by the kind of the place: that of the root block, and for each type the
-- places of the nodes of its HAMTs. They are the blocks to which the nodes in the block link as their children (IPLD HashMap,
-- "Element"): a node's links in the order of its elements, and for an entry in a bucket what stands in its value.
use Rattle.std.specs.Prelude.{◌≡◌, ℕ, zero, suc, codes, cond, List, [], ◌∷◌, Option, Some, None, Result, Ok, Err}
use Rattle.std.specs.List.{flat_map}
use Rattle.std.specs.Option.{option_map_or}
use Rattle.ild_cbor.specs.Reading.{all_at, fault_of}
use Rattle.ild_data.specs.Data as T
use Rattle.ild_data.specs.Data.{Data}
use Rattle.ild_data.specs.Key.{value_at}
use Rattle.ild_data.specs.Limits.{deepest}
use Rattle.ild_data.specs.Spell.{spell, id_of}
use Rattle.ild_data.specs.Tree.{IsTree}
use Rattle.ild_schema.specs.Kinds.{meant}
use Rattle.ild_schema.specs.Slots.{form_of, plainly}
use Rattle.ild_schema.specs.declared.def.MapForm.TheVariants as MF
use Rattle.ild_schema.specs.declared.def.TypeDef.{TypeDef}
use Rattle.ild_schema.specs.declared.def.TypeDef.TheVariants as D
use Rattle.ild_schema.specs.declared.number.Slot.{Slot}
use Rattle.ild_schema.specs.declared.number.TypeNo.{TypeNo}
use Rattle.ild_schema.specs.declared.row.Row.{Row}
use Rattle.ild_typed.specs.NodeReading.{id_in}
use Rattle.ild_typed.specs.Slots.{element_of}
use Rattle.ild_typed_places.specs.Places.{Places, nowhere, place}
use Rattle.ild_beneath.specs.Parts.{is_flat, parts_of}

-- an id, and the kind of the place at which its block stands
abbrev pub Child : Type 0
Child = List ℕ × ℕ

-- ---- of a node

-- inner gives those in the value of an entry
abbrev pub entry_children : (Data → List Child) → Data → List Child
entry_children inner (T.list (T.item k (T.item d T.no_items))) = inner d
entry_children inner e = []

-- a link to what is no block of DAG-CBOR under a sha2-256 leads to no child
abbrev pub element_children : (Data → List Child) → ℕ → Data → List Child
element_children inner kind (T.link cid) = option_map_or (λ id. (id, kind) ∷ []) (id_in cid) []
element_children inner kind (T.list es) = flat_map (entry_children inner) (T.items_list es)
element_children inner kind d = []

abbrev pub node_children : (Data → List Child) → ℕ → Data → List Child
node_children inner kind (T.list (T.item used (T.item (T.list es) T.no_items))) = flat_map (element_children inner kind) (T.items_list es)
node_children inner kind d = []

abbrev pub root_children : (Data → List Child) → ℕ → Data → List Child
root_children inner kind (T.map ms) = option_map_or (node_children inner kind) (value_at (codes "hamt") (T.members_list ms)) []
root_children inner kind d = []

-- ---- of data in a slot

-- the kind of the places of nodes of a slot's type
abbrev pub kind_in : Slot → ℕ
kind_in s = suc s.ty.0

abbrev pub by_form : (Slot → Data → List Child) → Slot → Option TypeDef → Data → List Child
by_form below s None t = []
by_form below s (Some (D.Map key key_at value at (MF.Hamt p))) t = root_children (below value) (kind_in s) t
by_form below s (Some d) t = flat_map (λ p. below p.0 p.1) (parts_of d t)

-- where so many steps to parts are left
unfoldable pub found : List Row → ℕ → Slot → Data → List Child
found rows zero s t = []
found rows (suc steps) s t = cond (is_flat t) [] (by_form (found rows steps) s (form_of rows s) t)

-- ---- of blocks

abbrev pub nodes_found : List Row → ℕ → Option Slot → Data → List Child
nodes_found rows kind None t = []
nodes_found rows kind (Some u) t = node_children (found rows deepest u) kind t

-- of the data of a block: at the place of a root of a type, or of a node of a type with a number
abbrev pub children_in : List Row → TypeNo → ℕ → Data → List Child
children_in rows ty zero t = found rows deepest (plainly ty) t
children_in rows ty (suc k) t = nodes_found rows (suc k) (element_of (meant rows k)) t

abbrev pub data_read : {S : Type 0} → Result Data S → Option Data
data_read (Ok d) = Some d
data_read (Err s) = None

abbrev pub unless : {F : Type 0} → Option F → Option Data → Option Data
unless None o = o
unless (Some fault) o = None

-- the data that a block spells
abbrev pub data_in : List ℕ → Option Data
data_in b = unless (fault_of b) (data_read (all_at b))

abbrev pub children_of : List Row → TypeNo → ℕ → List ℕ → List Child
children_of rows ty kind b = option_map_or (children_in rows ty kind) (data_in b) []

-- ---- of places

-- these are the children at places beside one another, and so on down
abbrev pub AreOf : List Row → TypeNo → List Child → Places → Type 0
AreOf rows ty [] nowhere = Unit {0}
AreOf rows ty [] (place b beneath ps) = ⊥
AreOf rows ty (c ∷ cs) nowhere = ⊥
AreOf rows ty (c ∷ cs) (place b beneath ps) =
    (id_of b ≡ c.0) × ((d : Data) × IsTree d × (b ≡ spell d) × AreOf rows ty (children_in rows ty c.1 d) beneath) × AreOf rows ty cs ps
