-- The reading of data by the types of a schema, which finds the value that they show: the parts of a map are read first, each by the slot that its holder gives it.
use Rattle.std.specs.Prelude.{ℕ, List, [], ◌∷◌, Bool, true, false, Option, Some, None, option_map, option_and_then, if◌then◌else◌}
use Rattle.ild_data.specs.Data as D
use Rattle.ild_data.specs.Data.{Data, Items, no_items, item, Members, no_members, member, members_list}
use Rattle.ild_data.specs.Key.{value_at}
use Rattle.ild_schema.specs.declared.def.TypeDef.{TypeDef}
use Rattle.ild_schema.specs.declared.def.TypeDef.TheVariants as T
use Rattle.ild_schema.specs.declared.def.Scalar.{Scalar}
use Rattle.ild_schema.specs.declared.def.Field.{Field}
use Rattle.ild_schema.specs.declared.def.Member.{Member}
use Rattle.ild_schema.specs.declared.number.Slot.{Slot}
use Rattle.ild_schema.specs.declared.row.Row.{Row}
use Rattle.ild_schema.specs.Value.{Value, null, boolean, integer, text, bytes, link, list, map, struct, union, enum, unit, any, Values, no_values, value, Pairs, no_pairs, pair, Optionals, no_optionals, optional}
use Rattle.ild_schema.specs.Slots.{form_of, plainly}
use Rattle.ild_typed.specs.Segment.{member_named}
use Rattle.ild_value_meaning.specs.Names.{are_named, enum_named}
use Rattle.ild_value_meaning.specs.Meant.{of_scalar}

-- one part and then the others
abbrev pub and_others : Option Value → Option Values → Option Values
and_others o p = option_and_then (λ v. option_map (λ vs. value v vs) p) o

-- A part that can be read by any slot.
abbrev pub Reading : Type 0
Reading = Slot → Option Value

abbrev pub and_pairs : Bool → List ℕ → Option Value → Option Pairs → Option Pairs
and_pairs true k o p = option_and_then (λ v. option_map (λ ps. pair k v ps) p) o
and_pairs false k o p = None

abbrev pub pairs_by : (List ℕ → Bool) → Slot → List (List ℕ × Reading) → Option Pairs
pairs_by is_key slot [] = Some no_pairs
pairs_by is_key slot (m ∷ ms) = and_pairs (is_key m.0) m.0 (m.1 slot) (pairs_by is_key slot ms)

-- a field by its name, or its implicit value, or absent
abbrev pub or_implicit : Option Scalar → Bool → Option (Option Value)
or_implicit (Some s) left = Some (Some (of_scalar s))
or_implicit None true = Some None
or_implicit None false = None

abbrev pub field_of : Field → Option Reading → Option (Option Value)
field_of f (Some r) = option_map (λ v. Some v) (r f.slot)
field_of f None = or_implicit f.implicit f.optional

abbrev pub and_fields : Option (Option Value) → Option Optionals → Option Optionals
and_fields o p = option_and_then (λ v. option_map (λ os. optional v os) p) o

abbrev pub fields_by : List Field → List (List ℕ × Reading) → Option Optionals
fields_by [] ps = Some no_optionals
fields_by (f ∷ fs) ps = and_fields (field_of f (value_at f.name ps)) (fields_by fs ps)

abbrev pub if_named : Bool → Option Optionals → Option Value
if_named true o = option_map (λ os. struct os) o
if_named false o = None

-- the member by its name, where it is the only entry
abbrev pub member_read : Reading → Option (ℕ × Member) → Option Value
member_read r None = None
member_read r (Some m) = option_map (λ v. union m.0 v) (r (plainly (m.1).ty))

abbrev pub member_by : List Member → List (List ℕ × Reading) → Option Value
member_by members [] = None
member_by members (p ∷ []) = member_read p.1 (member_named p.0 members)
member_by members (p ∷ q ∷ ps) = None

abbrev pub text_by : List ℕ → Option TypeDef → Option Value
text_by s (Some T.Text) = Some (text s)
text_by s (Some (T.Enum e)) = option_map (λ n. enum n) (enum_named s e.members)
text_by s (Some T.Any) = Some (any (D.text s))
text_by s d = None

abbrev pub scalar_by : TypeDef → Value → Data → Option TypeDef → Option Value
scalar_by T.Bool v d (Some T.Bool) = Some v
scalar_by T.Int v d (Some T.Int) = Some v
scalar_by T.Bytes v d (Some T.Bytes) = Some v
scalar_by e v d (Some T.Any) = Some (any d)
scalar_by e v d f = None

abbrev pub link_by : List ℕ → Option TypeDef → Option Value
link_by s (Some (T.Link target)) = Some (link s)
link_by s (Some T.Any) = Some (any (D.link s))
link_by s d = None

abbrev pub list_by : Data → (Slot → Option Values) → Option TypeDef → Option Value
list_by d read (Some (T.List elem place)) = option_map (λ vs. list vs) (read elem)
list_by d read (Some T.Any) = Some (any d)
list_by d read f = None

abbrev pub unit_by : Members → Option Value
unit_by no_members = Some unit
unit_by (member k d ms) = None

abbrev pub map_by : (ℕ → List ℕ → Bool) → Members → List (List ℕ × Reading) → Option TypeDef → Option Value
map_by is_key ms rs (Some (T.Map key key_at slot place f)) = option_map (λ ps. map ps) (pairs_by (is_key key.0) slot rs)
map_by is_key ms rs (Some (T.Struct s)) = if_named (are_named s.fields ms) (fields_by s.fields rs)
map_by is_key ms rs (Some (T.Union u)) = member_by u.members rs
map_by is_key ms rs (Some (T.Unit f)) = unit_by ms
map_by is_key ms rs (Some T.Any) = Some (any (D.map ms))
map_by is_key ms rs d = None

abbrev mutual
  pub meant : List Row → (ℕ → List ℕ → Bool) → Slot → Data → Option Value
  meant rows is_key slot D.null = if slot.nullable then Some null else None
  meant rows is_key slot (D.boolean b) = scalar_by T.Bool (boolean b) (D.boolean b) (form_of rows slot)
  meant rows is_key slot (D.integer n) = scalar_by T.Int (integer n) (D.integer n) (form_of rows slot)
  meant rows is_key slot (D.text s) = text_by s (form_of rows slot)
  meant rows is_key slot (D.bytes s) = scalar_by T.Bytes (bytes s) (D.bytes s) (form_of rows slot)
  meant rows is_key slot (D.link s) = link_by s (form_of rows slot)
  meant rows is_key slot (D.list ds) = list_by (D.list ds) (λ elem. meant_items rows is_key elem ds) (form_of rows slot)
  meant rows is_key slot (D.map ms) = map_by is_key ms (readings rows is_key ms) (form_of rows slot)

  pub meant_items : List Row → (ℕ → List ℕ → Bool) → Slot → Items → Option Values
  meant_items rows is_key slot no_items = Some no_values
  meant_items rows is_key slot (item d ds) = and_others (meant rows is_key slot d) (meant_items rows is_key slot ds)

  -- the entries of a map, each to be read by the slot that its holder gives it
  pub readings : List Row → (ℕ → List ℕ → Bool) → Members → List (List ℕ × Reading)
  readings rows is_key no_members = []
  readings rows is_key (member k d ms) = (k, λ slot. meant rows is_key slot d) ∷ readings rows is_key ms
