-- The parts of a piece that are left: data in slots, in the order of the type's parts, and the first of them.
use Rattle.std.specs.Prelude.{◌≡◌, ◌<◌, ℕ, List, [], ◌∷◌, ◌++◌, length, option_map, Option, Some, None}
use Rattle.std.specs.List.{AllByRecursion}
use Rattle.ild_cbor.specs.Nodes.{HasData}
use Rattle.ild_cbor.specs.Steps.{HasItems}
use Rattle.ild_cbor.specs.declared.items.Items.{Items}
use Rattle.ild_cbor.specs.declared.node.Node.{Node}
use Rattle.ild_data.specs.Data as T
use Rattle.ild_data.specs.Data.{Data}
use Rattle.ild_layer_piece.specs.Entries.{HasLeft}
use Rattle.ild_layer_piece.specs.declared.walk.MapEntries.{MapEntries}
use Rattle.ild_open_held.specs.Splits.{Part, element_parts, entry_parts, field_parts}
use Rattle.ild_schema.specs.declared.def.Field.{Field}
use Rattle.ild_schema.specs.declared.number.Slot.{Slot}
use Rattle.ild_schema.specs.declared.row.Row.{Row}
use Rattle.ild_typed.specs.Named.{pair_entries}
use Rattle.ild_typed.specs.NodeReading.{pair_in}
use Rattle.ild_beneath.specs.Parts.{ordered_parts}
use Rattle.ild_beneath_read.specs.inside.Fields.{AllFound}
use Rattle.ild_beneath_read.specs.declared.parts.Parts.{Parts}
use Rattle.ild_beneath_read.specs.declared.parts.Parts.TheVariants as P

-- ---- the values of a bucket's entries

abbrev pub in_slot : Slot → Option Data → List Part
in_slot u None = []
in_slot u (Some d) = (u, d) ∷ []

abbrev pub value_parts : Slot → List Data → List Part
value_parts u [] = []
value_parts u (d ∷ ds) = in_slot u (option_map (λ p. p.1) (pair_in d)) ++ value_parts u ds

-- ---- what is left

-- these are the parts of the items that an iterator has left
pub record OfItems (parts : List Data → List Part) (s : Items) (ps : List Part) : Type 0 where
  pub items : T.Items
  pub left : HasItems s items
  pub is : ps ≡ parts (T.items_list items)

pub record OfEntries (u : Slot) (s : MapEntries) (ps : List Part) : Type 0 where
  pub entries : List (List ℕ × Data)
  pub left : HasLeft s entries
  pub is : ps ≡ entry_parts u entries

pub record OfFields (fs : List Field) (ns : List (Option Node)) (ps : List Part) : Type 0 where
  pub sought : List (Option Data)
  pub found : AllFound sought ns
  pub is : ps ≡ field_parts fs sought

abbrev pub IsLeft : Parts → List Part → Type 0
IsLeft (P.Items u s) ps = OfItems (element_parts u) s ps
IsLeft (P.Entries u s) ps = OfEntries u s ps
IsLeft (P.Pairs u s) ps = OfItems (λ ds. entry_parts u (pair_entries ds)) s ps
IsLeft (P.Bucket u s) ps = OfItems (value_parts u) s ps
IsLeft (P.Ordered fs s) ps = OfItems (ordered_parts fs.now) s ps
IsLeft (P.Found fs ns) ps = OfFields fs.now ns.now ps

-- how many are left at most
abbrev pub parts_left : Parts → ℕ
parts_left (P.Items u s) = s.left
parts_left (P.Entries u s) = s.pairs.left
parts_left (P.Pairs u s) = s.left
parts_left (P.Bucket u s) = s.left
parts_left (P.Ordered fs s) = s.left
parts_left (P.Found fs ns) = length fs.now

-- ---- the first of them

-- a part in its slot stands in front of the others, or nothing does
abbrev pub IsFirst : List Part → Option (Slot × Node) → List Part → Type 0
IsFirst ps None others = ps ≡ others
IsFirst ps (Some x) others = (d : Data) × HasData x.1 d × (ps ≡ (x.0, d) ∷ others)

pub record SplitsOff (ps : List Part) (o : Option (Slot × Node)) (rest : Parts) : Type 0 where
  pub others : List Part
  pub first : IsFirst ps o others
  pub left : IsLeft rest others

abbrev pub Splits : List Part → Option (Option (Slot × Node) × Parts) → Type 0
Splits ps None = ps ≡ []
Splits ps (Some r) = SplitsOff ps r.0 r.1

-- ---- their types

abbrev pub IsIn : List Row → Slot → Type 0
IsIn rows u = u.ty.0 < length rows

abbrev pub FieldsIn : List Row → List Field → Type 0
FieldsIn rows fs = AllByRecursion (λ f. IsIn rows f.slot) fs

-- the types of all parts are in the table
abbrev pub AreWithin : List Row → Parts → Type 0
AreWithin rows (P.Items u s) = IsIn rows u
AreWithin rows (P.Entries u s) = IsIn rows u
AreWithin rows (P.Pairs u s) = IsIn rows u
AreWithin rows (P.Bucket u s) = IsIn rows u
AreWithin rows (P.Ordered fs s) = FieldsIn rows fs.now
AreWithin rows (P.Found fs ns) = FieldsIn rows fs.now

abbrev pub IsWithinFirst : List Row → Option (Slot × Node) → Type 0
IsWithinFirst rows None = Unit {0}
IsWithinFirst rows (Some x) = IsIn rows x.0

abbrev pub AreWithinBoth : List Row → Option (Slot × Node) × Parts → Type 0
AreWithinBoth rows r = IsWithinFirst rows r.0 × AreWithin rows r.1
