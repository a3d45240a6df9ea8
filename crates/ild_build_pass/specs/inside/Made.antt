-- The spelling of a value's representation, made of those of its parts in the order in which they are written.
use Rattle.std.specs.Prelude.{ℕ, Bool, cond, List, [], ◌∷◌, ◌++◌, Option, Some, None, option_map, option_and_then}
use Rattle.ild_data.specs.Spell.{head, spell, spell_text}
use Rattle.ild_schema.specs.declared.number.Slot.{Slot}
use Rattle.ild_schema.specs.declared.def.Field.{Field}
use Rattle.ild_schema.specs.declared.def.UnionForm.{UnionForm}
use Rattle.ild_schema.specs.declared.row.Row.{Row}
use Rattle.ild_schema.specs.Marks.{field_text}
use Rattle.ild_schema.specs.Value.{Value}
use Rattle.ild_typed.specs.Composed.{Hamts, marked_form}
use Rattle.ild_typed.specs.Represented.{represented}
use Rattle.ild_build.specs.LeftOut.{is_left_out}
use Rattle.ild_build_leaf.specs.Made.{before_key, made}

-- bytes, and others behind them
abbrev pub both : Option (List ℕ) → Option (List ℕ) → Option (List ℕ)
both None more = None
both (Some s) more = option_map (λ t. s ++ t) more

-- behind a head that counts them
abbrev pub counted : ℕ → ℕ → Option (List ℕ) → Option (List ℕ)
counted major n more = option_map (λ t. head major n ++ t) more

abbrev pub items_made : Hamts → List Row → Slot → List Value → Option (List ℕ)
items_made at rows s [] = Some []
items_made at rows s (v ∷ vs) = both (made at rows s v) (items_made at rows s vs)

-- a key and a value
abbrev pub entry_made : Hamts → List Row → Bool → List ℕ → Slot → Value → Option (List ℕ)
entry_made at rows paired k s v = option_map (λ t. (before_key paired ++ spell_text k) ++ t) (made at rows s v)

abbrev pub entries_made : Hamts → List Row → Bool → Slot → List (List ℕ × Value) → Option (List ℕ)
entries_made at rows paired s [] = Some []
entries_made at rows paired s (p ∷ ps) = both (entry_made at rows paired p.0 s p.1) (entries_made at rows paired s ps)

-- the values that are there, without their names
abbrev pub tuple_made : Hamts → List Row → List Field → List (Option Value) → Option (List ℕ)
tuple_made at rows [] os = Some []
tuple_made at rows (f ∷ fs) [] = Some []
tuple_made at rows (f ∷ fs) (Some v ∷ os) = both (made at rows f.slot v) (tuple_made at rows fs os)
tuple_made at rows (f ∷ fs) (None ∷ os) = tuple_made at rows fs os

-- the fields that are there and not left out, in the order of declaration
abbrev pub fields_made : Hamts → List Row → Bool → List Field → List (Option Value) → Option (List ℕ)
fields_made at rows paired [] os = Some []
fields_made at rows paired (f ∷ fs) [] = Some []
fields_made at rows paired (f ∷ fs) (Some v ∷ os) =
    cond (is_left_out f.implicit v) (fields_made at rows paired fs os) (both (entry_made at rows paired (field_text f) f.slot v) (fields_made at rows paired fs os))
fields_made at rows paired (f ∷ fs) (None ∷ os) = fields_made at rows paired fs os

-- of a member of a union, where its mark has this text
abbrev pub marked_made : Hamts → List Row → UnionForm → Slot → Value → List ℕ → Option (List ℕ)
marked_made at rows form s v name = option_map spell (option_and_then (λ d. marked_form form d name) (represented at rows s v))
