-- The spelling of a value's representation, and what the pieces are of which it is made.
use Rattle.std.specs.Prelude.{ℕ, Bool, true, false, List, [], Option, option_map}
use Rattle.ild_data.specs.Spell.{head, spell}
use Rattle.ild_schema.specs.declared.number.Slot.{Slot}
use Rattle.ild_schema.specs.declared.row.Row.{Row}
use Rattle.ild_schema.specs.Value as V
use Rattle.ild_schema.specs.Value.{Value}
use Rattle.ild_typed.specs.Composed.{Hamts}
use Rattle.ild_typed.specs.Represented.{represented}

-- of a value
abbrev pub made : Hamts → List Row → Slot → Value → Option (List ℕ)
made at rows s v = option_map spell (represented at rows s v)

-- a value that has no parts, and is no root of a HAMT
abbrev pub IsLeaf : Value → Type 0
IsLeaf (V.list vs) = ⊥
IsLeaf (V.map ps) = ⊥
IsLeaf (V.struct os) = ⊥
IsLeaf (V.union n v) = ⊥
IsLeaf (V.hamt d) = ⊥
IsLeaf v = Unit {0}

-- what stands before a key: the head of a pair, or nothing in a map
abbrev pub before_key : Bool → List ℕ
before_key true = head 4 2
before_key false = []

-- what counts entries: the head of a list of pairs, or that of a map
abbrev pub entries_major : Bool → ℕ
entries_major true = 4
entries_major false = 5
