-- The data of the parts of a holder, and of the holder.
use Rattle.ild_data.specs.Data as D
use Rattle.ild_typed.specs.Layer as L
use Rattle.std.specs.Prelude.{◌≡◌, ℕ, Bool, true, false, cond, List, [], ◌∷◌, ◌++◌, Option, Some, None, option_map, option_and_then, slice_get}
use Rattle.std.specs.List.{AllByRecursion}
use Rattle.ild_data.specs.Data.{Data, items_of, members_of}
use Rattle.ild_schema.specs.declared.def.TypeDef.{TypeDef}
use Rattle.ild_schema.specs.declared.def.Field.{Field}
use Rattle.ild_schema.specs.declared.def.Member.{Member}
use Rattle.ild_schema.specs.declared.number.Slot.{Slot}
use Rattle.ild_schema.specs.Marks.{field_text as represented_name}
use Rattle.ild_schema.specs.Slots.{plainly}
use Rattle.ild_schema.specs.Value.{Value}
use Rattle.ild_typed.specs.Composed.{Hamts}
use Rattle.ild_typed.specs.Holder.{Holder, fields, member, entries, elements, any_entries, any_elements, nothing}
use Rattle.ild_typed.specs.Represented.{layered}
use Rattle.ild_typed.specs.Strings.{cons_both}
use Rattle.ild_path_changes.specs.Pairs.{pair_if}
use Rattle.ild_path_changes.specs.Places.{each_field, written}

-- the data of each part, where each has some
abbrev pub each : {X Y : Type 0} → (X → Option Y) → List X → Option (List Y)
each f [] = Some []
each f (x ∷ xs) = cons_both (f x) (each f xs)

abbrev pub each_pair : {X Y : Type 0} → (X → Option Y) → List (List ℕ × X) → Option (List (List ℕ × Y))
each_pair f [] = Some []
each_pair f (p ∷ ps) = cons_both (option_map (λ y. (p.0, y)) (f p.1)) (each_pair f ps)

abbrev pub written_entries : (Field → Data → Bool) → List Field → List (Option Data) → List (List ℕ × Data)
written_entries implicit [] os = []
written_entries implicit (g ∷ fs) [] = []
written_entries implicit (g ∷ fs) (o ∷ os) = pair_if (represented_name g) (written implicit g o) ++ written_entries implicit fs os

-- the name of no field in a block
abbrev pub IsNotAmong : List ℕ → List Field → Type 0
IsNotAmong k fs = AllByRecursion (λ g. k ≡ represented_name g → ⊥) fs

-- the items of a tuple: those of the fields that are there, of which only last ones may be absent
abbrev pub all_absent : List (Option Data) → Bool
all_absent [] = true
all_absent (None ∷ os) = all_absent os
all_absent (Some d ∷ os) = false

abbrev pub tuple_items : List (Option Data) → Option (List Data)
tuple_items [] = Some []
tuple_items (Some d ∷ os) = cons_both (Some d) (tuple_items os)
tuple_items (None ∷ os) = cond (all_absent os) (Some []) None

-- the data of a holder of a slot, from those of its parts
abbrev pub data_of : Hamts → Option TypeDef → (Slot → Value → Option Data) → Slot → Holder → Option Data
data_of at d f slot (fields fs os) = option_and_then (λ ds. layered at d (Some (L.struct ds))) (each_field f fs os)
data_of at d f slot (member ms n v) = option_and_then (λ (m : Member). option_and_then (λ e. layered at d (Some (L.union n e))) (f (plainly m.ty) v)) (slice_get ms n)
data_of at d f slot (entries k elem paired ps) = option_and_then (λ es. layered at d (Some (L.map es))) (each_pair (f elem) ps)
data_of at d f slot (elements elem vs) = option_and_then (λ ds. layered at d (Some (L.list ds))) (each (f elem) vs)
data_of at d f slot (any_entries ms) = layered at d (Some (L.any (D.map (members_of ms))))
data_of at d f slot (any_elements ds) = layered at d (Some (L.any (D.list (items_of ds))))
data_of at d f slot (nothing v) = f slot v
