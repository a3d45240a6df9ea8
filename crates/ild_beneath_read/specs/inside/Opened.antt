-- What a piece in a slot is opened as, and what it tells.
use Rattle.std.specs.Prelude.{◌≡◌, ℕ, suc, Bool, true, false, cond, List, [], ◌∷◌, Option, Some, None}
use Rattle.std.specs.List.{AllByRecursion, flat_map}
use Rattle.ild_beneath.specs.Children.{Child, element_children, found, kind_in, node_children, root_children}
use Rattle.ild_beneath.specs.Parts.{named_parts}
use Rattle.ild_cbor.specs.Nodes.{HasData}
use Rattle.ild_cbor.specs.Steps.{HasItems}
use Rattle.ild_cbor.specs.declared.items.Items.{Items}
use Rattle.ild_cbor.specs.declared.kind.Kind.{Kind}
use Rattle.ild_cbor.specs.declared.kind.Kind.TheVariants as K
use Rattle.ild_cbor.specs.declared.piece.Piece.{Piece}
use Rattle.ild_cbor.specs.declared.piece.Piece.TheVariants as Q
use Rattle.ild_data.specs.Data as T
use Rattle.ild_data.specs.Data.{Data}
use Rattle.ild_layer_piece.specs.Entries.{HasLeft}
use Rattle.ild_layer_piece.specs.Pieces.{IsNumbered, StandsFor}
use Rattle.ild_open_held.specs.Splits.{Part}
use Rattle.ild_schema.specs.Clear.{AreNamesApart}
use Rattle.ild_schema.specs.Rules.{is_map_struct}
use Rattle.ild_schema.specs.Slots.{form_of}
use Rattle.ild_schema.specs.declared.def.Member.{Member}
use Rattle.ild_schema.specs.declared.number.Slot.{Slot}
use Rattle.ild_schema.specs.declared.row.Row.{Row}
use Rattle.ild_typed.specs.Named.{pair_entries}
use Rattle.ild_typed.specs.Slots.{slot_of}
use Rattle.ild_beneath_read.specs.inside.Left.{FieldsIn, AreWithin, IsIn, IsLeft}
use Rattle.ild_beneath_read.specs.inside.Pushes.{told}
use Rattle.ild_beneath_read.specs.declared.opened.Opened.{Opened}
use Rattle.ild_beneath_read.specs.declared.opened.Opened.TheVariants as O

-- of such a kind are no lists and maps
abbrev pub is_leaf : Kind → Bool
is_leaf K.List = false
is_leaf K.Map = false
is_leaf k = true

-- an entry is passed over in a struct alone that stands as a map
abbrev pub PassesInStruct : List Row → Slot → Piece → Type 0
PassesInStruct rows s (Q.Node n) = Unit {0}
PassesInStruct rows s (Q.Text x) = Unit {0}
PassesInStruct rows s (Q.Bytes x) = Unit {0}
PassesInStruct rows s (Q.Inline n u) = is_map_struct (form_of rows s) ≡ true

abbrev pub IsWhole : Piece → Type 0
IsWhole (Q.Node n) = Unit {0}
IsWhole (Q.Text x) = Unit {0}
IsWhole (Q.Bytes x) = Unit {0}
IsWhole (Q.Inline n u) = ⊥

-- ---- the parts

abbrev pub Parted : List Row → List Part → Opened → Type 0
Parted rows ps O.Nothing = ps ≡ []
Parted rows ps (O.Parts x) = IsLeft x ps
Parted rows ps (O.Named fs s) = (es : List (List ℕ × Data)) × HasLeft s es × (ps ≡ named_parts fs.def.now.fields es)
Parted rows ps (O.Listed fs s) = (ds : T.Items) × HasItems s ds × (ps ≡ named_parts fs.def.now.fields (pair_entries (T.items_list ds)))
Parted rows ps (O.Member u p) = (d : Data) × StandsFor rows p d × (ps ≡ (u, d) ∷ [])
Parted rows ps (O.Root u n) = ⊥

-- what data in a slot tell, by the parts or by the root node
abbrev pub TellsParts : List Row → Slot → Data → Opened → Type 0
TellsParts rows s t (O.Root u n) = (d : Data) × HasData n d × ((k : ℕ) → found rows (suc k) s t ≡ node_children (found rows k u) (kind_in s) d)
TellsParts rows s t o = (ps : List Part) × Parted rows ps o × ((k : ℕ) → found rows (suc k) s t ≡ flat_map (told rows k) ps)

-- the root node of a HAMT with values in a slot, where the data have one
abbrev pub OpensRoot : Slot → Data → Opened → Type 0
OpensRoot u t O.Nothing = (f : Data → List Child) (kind : ℕ) → root_children f kind t ≡ []
OpensRoot u t (O.Root v n) = (v ≡ u) × (d : Data) × HasData n d × ((f : Data → List Child) (kind : ℕ) → root_children f kind t ≡ node_children f kind d)
OpensRoot u t o = ⊥

-- the types of all parts are in the table, and names are apart
abbrev pub IsReady : List Row → Opened → Type 0
IsReady rows O.Nothing = Unit {0}
IsReady rows (O.Parts x) = AreWithin rows x
IsReady rows (O.Named fs s) = AreNamesApart fs.def.now.fields × FieldsIn rows fs.def.now.fields
IsReady rows (O.Listed fs s) = AreNamesApart fs.def.now.fields × FieldsIn rows fs.def.now.fields
IsReady rows (O.Member u p) = IsIn rows u × IsNumbered rows p × PassesInStruct rows u p
IsReady rows (O.Root u n) = IsIn rows u

-- ---- the members of a union

-- the slot of the first member that passes
abbrev pub slot_found : (Member → Bool) → List Member → Option Slot
slot_found passes [] = None
slot_found passes (m ∷ ms) = cond (passes m) (Some (slot_of m)) (slot_found passes ms)

abbrev pub opened_member : Option Slot → Piece → Opened
opened_member None p = O.Nothing
opened_member (Some u) p = O.Member u p

-- their types are in the table
abbrev pub MembersIn : List Row → List Member → Type 0
MembersIn rows ms = AllByRecursion (λ m. IsIn rows (slot_of m)) ms

-- and are structs that stand as maps
abbrev pub AreMapStructs : List Row → List Member → Type 0
AreMapStructs rows ms = AllByRecursion (λ m. is_map_struct (form_of rows (slot_of m)) ≡ true) ms

-- ---- nodes

-- an iterator over the elements of a node, where there is a node
abbrev pub IsElements : Data → Option Items → Type 0
IsElements d None = (f : Data → List Child) (kind : ℕ) → node_children f kind d ≡ []
IsElements d (Some s) = (ds : T.Items) × HasItems s ds × ((f : Data → List Child) (kind : ℕ) → node_children f kind d ≡ flat_map (element_children f kind) (T.items_list ds))
