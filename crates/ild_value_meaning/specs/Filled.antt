-- Data with the fields put in that are left out since they have their implicit value (IPLD Schemas, "implicit"), at every level; maps are
-- in the key order. What has no slot is left out.
use Rattle.std.specs.Prelude.{List, [], ◌∷◌, ◌++◌, map, ℕ, Option, Some, None}
use Rattle.std.specs.Option.{option_map_or}
use Rattle.ild_data.specs.Data as D
use Rattle.ild_data.specs.Data.{Data, Items, no_items, item, Members, no_members, member}
use Rattle.ild_data.specs.Key.{value_at}
use Rattle.ild_schema.specs.declared.def.TypeDef.{TypeDef}
use Rattle.ild_schema.specs.declared.def.TypeDef.TheVariants as T
use Rattle.ild_schema.specs.declared.def.Scalar.{Scalar}
use Rattle.ild_schema.specs.declared.def.Scalar.TheVariants as S
use Rattle.ild_schema.specs.declared.def.Field.{Field}
use Rattle.ild_schema.specs.declared.def.Member.{Member}
use Rattle.ild_schema.specs.declared.number.Slot.{Slot}
use Rattle.ild_schema.specs.declared.row.Row.{Row}
use Rattle.ild_schema.specs.Slots.{form_of, plainly}
use Rattle.ild_typed.specs.Segment.{member_named}
use Rattle.ild_typed.specs.Strings.{in_key_order, map_data}

-- a part that can be filled by any slot
abbrev pub Filling : Type 0
Filling = Slot → Data

abbrev pub scalar_data : Scalar → Data
scalar_data (S.Bool b) = D.boolean b
scalar_data (S.Int n) = D.integer n
scalar_data (S.Text s) = D.text s

-- the implicit value under a name, where there is one
abbrev pub implicit_entry : List ℕ → Option Scalar → List (List ℕ × Data)
implicit_entry name None = []
implicit_entry name (Some s) = (name, scalar_data s) ∷ []

-- a field by its name, or its implicit value
abbrev pub filled_field : Field → Option Filling → List (List ℕ × Data)
filled_field f (Some r) = (f.name, r f.slot) ∷ []
filled_field f None = implicit_entry f.name f.implicit

abbrev pub filled_fields : List Field → List (List ℕ × Filling) → List (List ℕ × Data)
filled_fields [] rs = []
filled_fields (f ∷ fs) rs = filled_field f (value_at f.name rs) ++ filled_fields fs rs

abbrev pub filled_entries : Slot → List (List ℕ × Filling) → List (List ℕ × Data)
filled_entries s [] = []
filled_entries s (r ∷ rs) = (r.0, r.1 s) ∷ filled_entries s rs

abbrev pub filled_member : List ℕ × Filling → Option (ℕ × Member) → List (List ℕ × Data)
filled_member r None = []
filled_member r (Some m) = (r.0, r.1 (plainly (m.1).ty)) ∷ []

abbrev pub filled_members : List Member → List (List ℕ × Filling) → List (List ℕ × Data)
filled_members ms [] = []
filled_members ms (r ∷ rs) = filled_member r (member_named r.0 ms) ++ filled_members ms rs

abbrev pub filled_list : Data → (Slot → Items) → Option TypeDef → Data
filled_list d fill (Some (T.List elem place)) = D.list (fill elem)
filled_list d fill f = d

abbrev pub filled_map : Data → List (List ℕ × Filling) → Option TypeDef → Data
filled_map d rs (Some (T.Map key key_at elem place form)) = map_data (in_key_order (filled_entries elem rs))
filled_map d rs (Some (T.Struct s)) = map_data (in_key_order (filled_fields s.fields rs))
filled_map d rs (Some (T.Union u)) = map_data (in_key_order (filled_members u.members rs))
filled_map d rs f = d

abbrev mutual
  pub filled : List Row → Slot → Data → Data
  filled rows slot D.null = D.null
  filled rows slot (D.boolean b) = D.boolean b
  filled rows slot (D.integer n) = D.integer n
  filled rows slot (D.text s) = D.text s
  filled rows slot (D.bytes s) = D.bytes s
  filled rows slot (D.link s) = D.link s
  filled rows slot (D.list ds) = filled_list (D.list ds) (λ elem. filled_items rows elem ds) (form_of rows slot)
  filled rows slot (D.map ms) = filled_map (D.map ms) (fillings rows ms) (form_of rows slot)

  pub filled_items : List Row → Slot → Items → Items
  filled_items rows slot no_items = no_items
  filled_items rows slot (item d ds) = item (filled rows slot d) (filled_items rows slot ds)

  -- the entries of a map, each to be filled by the slot that its holder gives it
  pub fillings : List Row → Members → List (List ℕ × Filling)
  fillings rows no_members = []
  fillings rows (member k d ms) = (k, λ slot. filled rows slot d) ∷ fillings rows ms
