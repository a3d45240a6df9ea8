-- The front of a value: what its block shows by itself, where the root map of each HAMT stands for its entries (IPLD HashMap, "HashMapRoot").
use Rattle.std.specs.Prelude.{ℕ, Bool, true, false, not, ◌&&◌, List, [], ◌∷◌, Option, Some, None}
use Rattle.std.specs.Option.{option_map_or}
use Rattle.ild_data.specs.Data as T
use Rattle.ild_data.specs.Data.{Data}
use Rattle.ild_schema.specs.declared.def.Field.{Field}
use Rattle.ild_schema.specs.declared.def.MapForm.{MapForm}
use Rattle.ild_schema.specs.declared.def.MapForm.TheVariants as MF
use Rattle.ild_schema.specs.declared.def.TypeDef.{TypeDef}
use Rattle.ild_schema.specs.declared.def.TypeDef.TheVariants as D
use Rattle.ild_schema.specs.declared.number.Slot.{Slot}
use Rattle.ild_schema.specs.declared.row.Row.{Row}
use Rattle.ild_schema.specs.Slots.{form_of}
use Rattle.ild_schema.specs.Value as V
use Rattle.ild_schema.specs.Value.{Value, Values, Pairs, Optionals}
use Rattle.ild_typed.specs.At.{InSlot, seen}
use Rattle.ild_typed.specs.Hamt.{whole}
use Rattle.ild_typed.specs.Represented.{represented}
use Rattle.ild_typed.specs.Segment.{part}
use Rattle.ild_typed.specs.Slots.{element_of, fields_of, member_of}
use Rattle.ild_path_edits.specs.Edit.{Edit, set_at, ins_at, del_at}

-- ---- maps that are HAMTs

abbrev pub is_hamt_form : MapForm → Bool
is_hamt_form (MF.Hamt p) = true
is_hamt_form form = false

abbrev pub is_hamt : Option TypeDef → Bool
is_hamt (Some (D.Map key key_at value at form)) = is_hamt_form form
is_hamt d = false

-- the value is one, or the root of one
abbrev pub stands_as_root : Option TypeDef → Value → Bool
stands_as_root d (V.map ps) = is_hamt d
stands_as_root d (V.hamt t) = true
stands_as_root d v = false

abbrev pub is_root : List Row → InSlot → Bool
is_root rows p = stands_as_root (form_of rows p.0) p.1

-- no segment of a path is sought in a HAMT
abbrev pub in_one_block : List Row → InSlot → List (List ℕ) → Bool
in_one_block rows p [] = true
in_one_block rows p (s ∷ ss) = not (is_root rows p) && option_map_or (λ q. in_one_block rows q ss) (part (seen rows p) s) true

-- ---- fronts

-- the root of a HAMT by its data; of a value without any, which stands in no block, there is none
abbrev pub root_of : Option Data → Value
root_of None = V.hamt T.null
root_of (Some t) = V.hamt t

abbrev pub root_or_map : Bool → Option Data → Pairs → Value
root_or_map true o ps = root_of o
root_or_map false o ps = V.map ps

abbrev mutual
  pub front : (List ℕ → List ℕ) → List Row → Slot → Value → Value
  front h rows s (V.list vs) = V.list (option_map_or (λ u. fronts_of_values h rows u vs) (element_of (form_of rows s)) vs)
  front h rows s (V.map ps) = root_or_map (is_hamt (form_of rows s)) (represented (whole h) rows s (V.map ps)) (option_map_or (λ u. fronts_of_pairs h rows u ps) (element_of (form_of rows s)) ps)
  front h rows s (V.struct os) = V.struct (fronts_of_fields h rows (fields_of (form_of rows s)) os)
  front h rows s (V.union n v) = V.union n (option_map_or (λ u. front h rows u v) (member_of (form_of rows s) n) v)
  front h rows s (V.hamt t) = root_of None
  front h rows s v = v

  pub fronts_of_values : (List ℕ → List ℕ) → List Row → Slot → Values → Values
  fronts_of_values h rows s V.no_values = V.no_values
  fronts_of_values h rows s (V.value v vs) = V.value (front h rows s v) (fronts_of_values h rows s vs)

  pub fronts_of_pairs : (List ℕ → List ℕ) → List Row → Slot → Pairs → Pairs
  fronts_of_pairs h rows s V.no_pairs = V.no_pairs
  fronts_of_pairs h rows s (V.pair k v ps) = V.pair k (front h rows s v) (fronts_of_pairs h rows s ps)

  pub fronts_of_fields : (List ℕ → List ℕ) → List Row → List Field → Optionals → Optionals
  fronts_of_fields h rows fs V.no_optionals = V.no_optionals
  fronts_of_fields h rows [] (V.absent os) = V.absent os
  fronts_of_fields h rows [] (V.present v os) = V.present v os
  fronts_of_fields h rows (f ∷ fs) (V.absent os) = V.absent (fronts_of_fields h rows fs os)
  fronts_of_fields h rows (f ∷ fs) (V.present v os) = V.present (front h rows f.slot v) (fronts_of_fields h rows fs os)

-- in its slot
abbrev pub front_in : (List ℕ → List ℕ) → List Row → InSlot → InSlot
front_in h rows p = (p.0, front h rows p.0 p.1)

-- an edit that brings the front of the part, where the part goes to a slot
abbrev pub part_front : (List ℕ → List ℕ) → List Row → Option Slot → Value → Value
part_front h rows None w = w
part_front h rows (Some slot) w = front h rows slot w

abbrev pub edit_front : (List ℕ → List ℕ) → List Row → Option Slot → Edit Value → Edit Value
edit_front h rows o (set_at path w) = set_at path (part_front h rows o w)
edit_front h rows o (ins_at path w) = ins_at path (part_front h rows o w)
edit_front h rows o (del_at path) = del_at path
