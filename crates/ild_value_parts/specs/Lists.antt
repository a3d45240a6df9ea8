-- The pairs of names and shown parts, by what holds the parts.
use Rattle.std.specs.Prelude.{◌≡◌, ℕ, pos, List, [], ◌∷◌, ◌+◌, map, Option, option_map}
use Rattle.ild_data.specs.Data as D
use Rattle.ild_data.specs.Data.{Data, Items, items_list, items_of}
use Rattle.ild_script_meaning.specs.Reads.{numbered, pair_of, parts, present_fields}
use Rattle.ild_schema.specs.Value.{Value}
use Rattle.ild_schema.specs.ValueSeen.{value_of}
use Rattle.ild_schema.specs.declared.def.Field.{Field}
use Rattle.ild_schema.specs.declared.number.Slot.{Slot}
use Rattle.ild_schema.specs.declared.row.Row.{Row}
use Rattle.ild_schema.specs.declared.val.Val.{Val}
use Rattle.ild_typed.specs.At.{InSlot, seen}
use Rattle.ild_typed.specs.Holder.{Holder, any_holder}
use Rattle.ild_typed.specs.Shown.{shown}

abbrev pub show : List Row → InSlot → Data
show rows p = shown rows p.0 p.1

-- a name and what is shown under it
abbrev pub named : Data → Data → Data
named name part = D.list (items_of (name ∷ part ∷ []))

abbrev pub elements : List Row → Slot → List Value → List Data
elements rows elem vs = map (pair_of (show rows)) (numbered (λ v. (elem, v)) 0 vs)

abbrev pub entries : List Row → Slot → List (List ℕ × Value) → List Data
entries rows elem ps = map (λ p. named (D.text p.0) (shown rows elem p.1)) ps

abbrev pub fields : List Row → List Field → List (Option Value) → List Data
fields rows fs os = map (pair_of (show rows)) (present_fields fs os)

-- from an index on
abbrev pub items_from : ℕ → List Data → List Data
items_from i [] = []
items_from i (d ∷ ds) = named (D.integer (pos i)) d ∷ items_from (i + 1) ds

abbrev pub any_elements : List Data → List Data
any_elements ds = items_from 0 ds

abbrev pub any_entries : List (List ℕ × Data) → List Data
any_entries ms = map (λ m. named (D.text m.0) m.1) ms

-- the pairs of the parts of a holder, where it has some
abbrev pub IsListedIn : List Row → Holder → Option Items → Type 0
IsListedIn rows h o = option_map items_list o ≡ option_map (λ ps. map (pair_of (show rows)) ps) (parts h)

abbrev pub IsListed : List Row → Slot → Val → Option Items → Type 0
IsListed rows slot val o = IsListedIn rows (seen rows (slot, value_of val)) o

-- of data inside an Any, whichever the table
abbrev pub IsAnyListed : Data → Option Items → Type 0
IsAnyListed d o = (rows : List Row) → IsListedIn rows (any_holder d) o
