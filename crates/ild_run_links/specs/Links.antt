-- Typed links to blocks (IPLD Schemas, "Links"): where a path in a value leads to one, and the value with another block's id in it.
use Rattle.std.specs.Prelude.{ℕ, List, Option, Some, None, option_map, option_and_then}
use Rattle.ild_data.specs.Spell.{cid_of}
use Rattle.ild_path_within.specs.Within.{with_part}
use Rattle.ild_schema.specs.Slots.{form_of}
use Rattle.ild_schema.specs.Value as V
use Rattle.ild_schema.specs.Value.{Value}
use Rattle.ild_schema.specs.declared.def.TypeDef.{TypeDef}
use Rattle.ild_schema.specs.declared.def.TypeDef.TheVariants as D
use Rattle.ild_schema.specs.declared.number.Slot.{Slot}
use Rattle.ild_schema.specs.declared.number.TypeNo.{TypeNo}
use Rattle.ild_schema.specs.declared.row.Row.{Row}
use Rattle.ild_typed.specs.At.{InSlot}
use Rattle.ild_typed.specs.NodeReading.{id_in}

-- the type of the trees to which links of a type lead
abbrev pub target_of : Option TypeDef → Option TypeNo
target_of (Some (D.Link target)) = Some target
target_of d = None

-- the type and the id of the tree to which a link with this CID leads, where the CID is that of a block
abbrev pub leads_to : List ℕ → TypeNo → Option (TypeNo × List ℕ)
leads_to cid target = option_map {U = TypeNo × List ℕ} (λ id. (target, id)) (id_in cid)

-- those of a value of a slot. A link inside an Any is no value of a type of links.
abbrev pub link_in : List Row → Slot → Value → Option (TypeNo × List ℕ)
link_in rows s (V.link cid) = option_and_then (leads_to cid) (target_of (form_of rows s))
link_in rows s v = None

-- those of a part
abbrev pub link_to : List Row → InSlot → Option (TypeNo × List ℕ)
link_to rows q = link_in rows q.0 q.1

-- the link to a block
abbrev pub link_of : List ℕ → Value
link_of id = V.link (cid_of id)

-- a value with the link to another block at a path
abbrev pub relinked : List Row → InSlot → List (List ℕ) → List ℕ → Value
relinked rows p path id = with_part rows p path (link_of id)
