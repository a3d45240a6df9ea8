-- What the commands that read tell of a part: how many parts it has, and the list of them.
use Rattle.std.specs.Prelude.{ℕ, ◌+◌, pos, List, [], ◌∷◌, length, map, Option, Some, None, option_map}
use Rattle.ild_data.specs.Data as D
use Rattle.ild_data.specs.Data.{Data, items_of}
use Rattle.ild_schema.specs.declared.def.Field.{Field}
use Rattle.ild_schema.specs.Prelude.{anything}
use Rattle.ild_schema.specs.Value.{Value}
use Rattle.ild_typed.specs.Holder.{Holder, fields, member, entries, elements, any_entries, any_elements, nothing, of_any}
use Rattle.ild_typed.specs.At.{InSlot}

-- a part under its name, key or index
abbrev pub Named : Type 0
Named = Data × InSlot

-- the present fields, in the order of declaration
abbrev pub present_fields : List Field → List (Option Value) → List Named
present_fields [] os = []
present_fields (f ∷ fs) [] = []
present_fields (f ∷ fs) (None ∷ os) = present_fields fs os
present_fields (f ∷ fs) (Some v ∷ os) = (D.text f.name, (f.slot, v)) ∷ present_fields fs os

-- elements under their indices, from a number on
abbrev pub numbered : {X : Type 0} → (X → InSlot) → ℕ → List X → List Named
numbered place i [] = []
numbered place i (x ∷ xs) = (D.integer (pos i), place x) ∷ numbered place (i + 1) xs

-- the parts of what has fields, entries or elements; nothing else has a list of parts
abbrev pub parts : Holder → Option (List Named)
parts (fields fs os) = Some (present_fields fs os)
parts (member ms n v) = None
parts (entries key slot paired ps) = Some (map (λ p. (D.text p.0, (slot, p.1))) ps)
parts (elements slot vs) = Some (numbered (λ v. (slot, v)) 0 vs)
parts (any_entries ms) = Some (map (λ m. (D.text m.0, (anything, of_any m.1))) ms)
parts (any_elements ds) = Some (numbered (λ d. (anything, of_any d)) 0 ds)
parts (nothing v) = None

-- how many there are
abbrev pub counted : Holder → Option Data
counted h = option_map (λ ps. D.integer (pos (length ps))) (parts h)

-- a name and what stands under it
abbrev pub pair_of : (InSlot → Data) → Named → Data
pair_of show p = D.list (items_of (p.0 ∷ show p.1 ∷ []))

-- the list of the parts, each with its name
abbrev pub walked : (InSlot → Data) → Holder → Option Data
walked show h = option_map (λ ps. D.list (items_of (map (pair_of show) ps))) (parts h)
