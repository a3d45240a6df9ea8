-- What writing the parts of a value leaves, form by form (IPLD Schemas, "Representation Strategies"): their spelling in the order in which
-- they are written, and the blocks of the HAMTs in them.
use Rattle.std.specs.Prelude.{ℕ, ◌+◌, Bool, true, List, length, Option, option_and_then, option_map}
use Rattle.ild_data.specs.Spell.{spell}
use Rattle.ild_data.specs.declared.hamt_shape.HamtShape.{HamtShape}
use Rattle.ild_schema.specs.Slots.{plainly}
use Rattle.ild_schema.specs.Value.{Value, Pairs, pairs_list}
use Rattle.ild_schema.specs.declared.def.Field.{Field}
use Rattle.ild_schema.specs.declared.def.Member.{Member}
use Rattle.ild_schema.specs.declared.def.UnionForm.{UnionForm}
use Rattle.ild_schema.specs.declared.number.Slot.{Slot}
use Rattle.ild_schema.specs.declared.row.Row.{Row}
use Rattle.ild_typed.specs.Composed.{member_form}
use Rattle.ild_typed.specs.Hamt.{whole}
use Rattle.ild_typed.specs.Represented.{represented}
use Rattle.ild_build_entries.specs.declared.nodes.Nodes.{Nodes}
use Rattle.ild_build_leaf.specs.Kept.{count_present, count_written}
use Rattle.ild_build_leaf.specs.Made.{entries_major}
use Rattle.ild_build_pass.specs.inside.Made.{counted, entries_made, fields_made, items_made, marked_made, tuple_made}
use Rattle.ild_build_pass.specs.inside.Places.{map_made, written_made, written_of}
use Rattle.ild_build_pass.specs.Weights.{entries_weight, fields_weight, hamt_made, items_weight, places_weight, weigh}
use Rattle.ild_build_pass.specs.Writes.{Writes}

-- ---- lists and maps

-- the elements, behind their count
abbrev pub WritesItems : (List ℕ → List ℕ) → List Row → Slot → List Value → List ℕ → List ℕ → Nodes → Nodes → Type 0
WritesItems h rows elem vs old new was now = Writes h rows (counted 4 (length vs) (items_made (whole h) rows elem vs)) (λ μ. items_weight μ rows elem vs) old new was now

-- the entries, behind their count, as those of a map or as pairs
abbrev pub WritesEntries : (List ℕ → List ℕ) → List Row → Slot → List (List ℕ × Value) → Bool → List ℕ → List ℕ → Nodes → Nodes → Type 0
WritesEntries h rows value ps paired old new was now =
    Writes h rows (counted (entries_major paired) (length ps) (entries_made (whole h) rows paired value ps)) (λ μ. entries_weight μ rows value ps) old new was now

-- the root map of a HAMT, and the blocks beneath it
abbrev pub WritesHamt : (List ℕ → List ℕ) → List Row → Slot → HamtShape → Pairs → List ℕ → List ℕ → Nodes → Nodes → Type 0
WritesHamt h rows value shape ps old new was now =
    Writes h rows (hamt_made h shape rows value ps) (λ μ. μ shape value ps + entries_weight μ rows value (pairs_list ps)) old new was now

-- ---- structs: the fields that are there

-- in the order of declaration, behind their count, without their names
abbrev pub WritesTuple : (List ℕ → List ℕ) → List Row → List Field → List (Option Value) → List ℕ → List ℕ → Nodes → Nodes → Type 0
WritesTuple h rows fs os old new was now =
    Writes h rows (counted 4 (count_present os) (tuple_made (whole h) rows fs os)) (λ μ. fields_weight μ rows fs os) old new was now

-- each with its name as a pair, but those that are left out
abbrev pub WritesPairs : (List ℕ → List ℕ) → List Row → List Field → List (Option Value) → List ℕ → List ℕ → Nodes → Nodes → Type 0
WritesPairs h rows fs os old new was now =
    Writes h rows (counted 4 (count_written fs os) (fields_made (whole h) rows true fs os)) (λ μ. fields_weight μ rows fs os) old new was now

-- as a map in the key order, but those that are left out
abbrev pub WritesFields : (List ℕ → List ℕ) → List Row → List Field → List (Option Value) → List ℕ → List ℕ → Nodes → Nodes → Type 0
WritesFields h rows fs os old new was now = Writes h rows (map_made (whole h) rows fs os) (λ μ. fields_weight μ rows fs os) old new was now

-- of those at these places each under its name, but those that are left out
abbrev pub WritesPlaces : (List ℕ → List ℕ) → List Row → List Field → List (Option Value) → List ℕ → List ℕ → List ℕ → Nodes → Nodes → Type 0
WritesPlaces h rows fs os places old new was now =
    Writes h rows (written_made (whole h) rows fs os places) (λ μ. places_weight μ rows fs os (written_of fs os places)) old new was now

-- ---- unions

-- a member by the form of its union
abbrev pub WritesMember : (List ℕ → List ℕ) → List Row → UnionForm → Member → Value → List ℕ → List ℕ → Nodes → Nodes → Type 0
WritesMember h rows form m v old new was now =
    Writes h rows (option_map spell (option_and_then (λ d. member_form form d m) (represented (whole h) rows (plainly m.ty) v))) (λ μ. weigh μ rows (plainly m.ty) v) old new was now

-- the value of a member whose mark has this text
abbrev pub WritesMarked : (List ℕ → List ℕ) → List Row → Slot → UnionForm → List ℕ → Value → List ℕ → List ℕ → Nodes → Nodes → Type 0
WritesMarked h rows slot form name v old new was now = Writes h rows (marked_made (whole h) rows form slot v name) (λ μ. weigh μ rows slot v) old new was now
