-- The parts of a layer in their order, each with the slot that its type gives it and the way to the item in which it stands.
-- A key is a part too, before its value. A part inside a text, or one that is left out, stands in the item of the whole.
use Rattle.std.specs.Prelude.{ℕ, ◌+◌, Bool, true, false, cond, List, [], ◌∷◌, Option, Some, None, slice_get}
use Rattle.std.specs.Option.{option_map_or}
use Rattle.ild_data.specs.Data as T
use Rattle.ild_data.specs.Data.{Data}
use Rattle.ild_schema.specs.declared.number.Slot.{Slot}
use Rattle.ild_schema.specs.declared.number.TypeNo.{TypeNo}
use Rattle.ild_schema.specs.declared.def.TypeDef.{TypeDef}
use Rattle.ild_schema.specs.declared.def.TypeDef.TheVariants as D
use Rattle.ild_schema.specs.declared.def.MapForm.{MapForm}
use Rattle.ild_schema.specs.declared.def.MapForm.TheVariants as MF
use Rattle.ild_schema.specs.declared.def.StructForm.{StructForm}
use Rattle.ild_schema.specs.declared.def.StructForm.TheVariants as S
use Rattle.ild_schema.specs.declared.def.UnionForm.{UnionForm}
use Rattle.ild_schema.specs.declared.def.UnionForm.TheVariants as UF
use Rattle.ild_schema.specs.declared.def.Field.{Field}
use Rattle.ild_schema.specs.declared.def.Member.{Member}
use Rattle.ild_typed.specs.Layer.{Layer, list, map, struct, union}
use Rattle.ild_schema.specs.Slots.{plainly}
use Rattle.ild_typed.specs.Slots.{slot_of}
use Rattle.ild_typed.specs.Fields.{is_implicit}
use Rattle.ild_schema.specs.Marks.{field_text, mark_text}

-- from an item to one in it
pub data Step : Type 0 where
  item : ℕ → Step
  key : List ℕ → Step
  under : List ℕ → Step

pub record Spot : Type 0 where
  pub slot : Slot
  pub tree : Data
  pub at : List Step
  pub is_key : Bool

abbrev pub value_spot : Slot → Data → List Step → Spot
value_spot s d steps = record { slot = s; tree = d; at = steps; is_key = false }

abbrev pub key_spot : TypeNo → List ℕ → List Step → Spot
key_spot n k steps = record { slot = plainly n; tree = T.text k; at = steps; is_key = true }

-- the elements of a list, counted from a number on
abbrev pub element_spots : Slot → ℕ → List Data → List Spot
element_spots s n [] = []
element_spots s n (d ∷ ds) = value_spot s d (item n ∷ []) ∷ element_spots s (n + 1) ds

-- the entries of a map
abbrev pub key_steps : MapForm → ℕ → List ℕ → List Step
key_steps MF.Map n k = key k ∷ []
key_steps MF.ListPairs n k = item n ∷ item 0 ∷ []
key_steps form n k = []

abbrev pub entry_steps : MapForm → ℕ → List ℕ → List Step
entry_steps MF.Map n k = under k ∷ []
entry_steps MF.ListPairs n k = item n ∷ item 1 ∷ []
entry_steps form n k = []

abbrev pub entry_spots : MapForm → TypeNo → Slot → ℕ → List (List ℕ × Data) → List Spot
entry_spots form n s i [] = []
entry_spots form n s i (e ∷ es) =
    key_spot n e.0 (key_steps form i e.0) ∷ value_spot s e.1 (entry_steps form i e.0) ∷ entry_spots form n s (i + 1) es

-- the fields of a struct, of which so many are written before
abbrev pub field_steps : StructForm → Field → ℕ → List Step
field_steps S.Map f n = under (field_text f) ∷ []
field_steps S.Tuple f n = item n ∷ []
field_steps S.ListPairs f n = item n ∷ item 1 ∷ []
field_steps form f n = []

abbrev pub field_spots : StructForm → ℕ → List Field → List (Option Data) → List Spot
field_spots form n [] os = []
field_spots form n (f ∷ fs) [] = []
field_spots form n (f ∷ fs) (None ∷ os) = field_spots form n fs os
field_spots form n (f ∷ fs) (Some d ∷ os) =
    cond (is_implicit f.implicit d) (value_spot f.slot d [] ∷ field_spots form n fs os) (value_spot f.slot d (field_steps form f n) ∷ field_spots form (n + 1) fs os)

-- the member of a union
abbrev pub member_steps : UnionForm → Member → List Step
member_steps UF.Keyed m = option_map_or (λ name. under name ∷ []) (mark_text m.mark) []
member_steps (UF.Envelope k content) m = under content ∷ []
member_steps form m = []

abbrev pub member_spots : UnionForm → Data → Member → List Spot
member_spots form d m = value_spot (slot_of m) d (member_steps form m) ∷ []

abbrev pub spots_of : TypeDef → Layer Data → List Spot
spots_of (D.List elem at) (list ds) = element_spots elem 0 ds
spots_of (D.Map k key_at value at form) (map es) = entry_spots form k value 0 es
spots_of (D.Struct s) (struct os) = field_spots s.form 0 s.fields os
spots_of (D.Union u) (union n d) = option_map_or (member_spots u.form d) (slice_get u.members n) []
spots_of d l = []
