-- Why data mean no value of a slot: a part of them breaks one of five rules (IPLD Schemas, "type-level representation").
use Rattle.std.specs.Prelude.{◌≡◌, ℕ, Bool, true, false, not, ◌&&◌, is_none, map, List, [], ◌∷◌, Option, Some, None, slice_get, option_map, option_and_then}
use Rattle.std.specs.List.{list_any}
use Rattle.ild_data.specs.Data as D
use Rattle.ild_data.specs.Data.{Data, Items, items_list, Members, no_members, member, members_list}
use Rattle.ild_data.specs.Key.{value_at}
use Rattle.ild_schema.specs.declared.def.TypeDef.{TypeDef}
use Rattle.ild_schema.specs.declared.def.TypeDef.TheVariants as T
use Rattle.ild_schema.specs.declared.def.Field.{Field}
use Rattle.ild_schema.specs.declared.def.Member.{Member as MemberDef}
use Rattle.ild_schema.specs.declared.number.Slot.{Slot}
use Rattle.ild_schema.specs.declared.number.TypeNo.{TypeNo}
use Rattle.ild_schema.specs.declared.row.Row.{Row}
use Rattle.ild_schema.specs.Slots.{form_of, plainly}
use Rattle.ild_typed.specs.Segment.{member_named}
use Rattle.ild_typed.specs.StructWhy.{must_stand}
use Rattle.ild_value_meaning.specs.Names.{slot_named, are_named, enum_named}

pub data Rule : Type 0 where
  -- data of a kind that is never shown of the type, or null where the slot isn't nullable
  Kind : Rule
  -- a key that is the name of no field; of a unit, any key
  Name : Rule
  -- a field that is neither optional nor implicit isn't there
  Missing : Rule
  -- a text that names no member of an enum; not one entry under the name of a member of a union
  Member : Rule
  -- a key of a map that isn't a text of the key type
  Key : Rule

-- ---- the kinds of data that are shown of a type

abbrev pub shows_bool : Option TypeDef → Bool
shows_bool (Some T.Bool) = true
shows_bool (Some T.Any) = true
shows_bool f = false

abbrev pub shows_int : Option TypeDef → Bool
shows_int (Some T.Int) = true
shows_int (Some T.Any) = true
shows_int f = false

abbrev pub shows_text : Option TypeDef → Bool
shows_text (Some T.Text) = true
shows_text (Some (T.Enum e)) = true
shows_text (Some T.Any) = true
shows_text f = false

abbrev pub shows_bytes : Option TypeDef → Bool
shows_bytes (Some T.Bytes) = true
shows_bytes (Some T.Any) = true
shows_bytes f = false

abbrev pub shows_link : Option TypeDef → Bool
shows_link (Some (T.Link target)) = true
shows_link (Some T.Any) = true
shows_link f = false

abbrev pub shows_list : Option TypeDef → Bool
shows_list (Some (T.List elem place)) = true
shows_list (Some T.Any) = true
shows_list f = false

abbrev pub shows_map : Option TypeDef → Bool
shows_map (Some (T.Map key key_at elem place form)) = true
shows_map (Some (T.Struct s)) = true
shows_map (Some (T.Union u)) = true
shows_map (Some (T.Unit form)) = true
shows_map (Some T.Any) = true
shows_map f = false

abbrev pub is_kind : List Row → Slot → Data → Bool
is_kind rows slot D.null = slot.nullable
is_kind rows slot (D.boolean b) = shows_bool (form_of rows slot)
is_kind rows slot (D.integer n) = shows_int (form_of rows slot)
is_kind rows slot (D.text s) = shows_text (form_of rows slot)
is_kind rows slot (D.bytes s) = shows_bytes (form_of rows slot)
is_kind rows slot (D.list ds) = shows_list (form_of rows slot)
is_kind rows slot (D.map ms) = shows_map (form_of rows slot)
is_kind rows slot (D.link s) = shows_link (form_of rows slot)

-- ---- each rule by itself

abbrev pub is_empty : Members → Bool
is_empty no_members = true
is_empty (member k d ms) = false

abbrev pub breaks_name : Option TypeDef → Data → Bool
breaks_name (Some (T.Struct s)) (D.map ms) = not (are_named s.fields ms)
breaks_name (Some (T.Unit form)) (D.map ms) = not (is_empty ms)
breaks_name f t = false

abbrev pub lacks : Members → Field → Bool
lacks ms f = must_stand f && is_none (value_at f.name (members_list ms))

abbrev pub breaks_missing : Option TypeDef → Data → Bool
breaks_missing (Some (T.Struct s)) (D.map ms) = list_any (lacks ms) s.fields
breaks_missing f t = false

-- one entry, under the name of a member
abbrev pub is_member : List MemberDef → Members → Bool
is_member members no_members = false
is_member members (member k d no_members) = not (is_none (member_named k members))
is_member members (member k d (member l e ms)) = false

abbrev pub breaks_member : Option TypeDef → Data → Bool
breaks_member (Some (T.Enum e)) (D.text s) = is_none (enum_named s e.members)
breaks_member (Some (T.Union u)) (D.map ms) = not (is_member u.members ms)
breaks_member f t = false

abbrev pub breaks_key : (ℕ → List ℕ → Bool) → Option TypeDef → Data → Bool
breaks_key is_key (Some (T.Map key key_at elem place form)) (D.map ms) = list_any (λ (m : List ℕ × Data). not (is_key key.0 m.0)) (members_list ms)
breaks_key is_key f t = false

-- whether data break a rule in a slot, their parts apart
abbrev pub breaks : List Row → (ℕ → List ℕ → Bool) → Slot → Data → Rule → Bool
breaks rows is_key slot t Kind = not (is_kind rows slot t)
breaks rows is_key slot t Name = breaks_name (form_of rows slot) t
breaks rows is_key slot t Missing = breaks_missing (form_of rows slot) t
breaks rows is_key slot t Member = breaks_member (form_of rows slot) t
breaks rows is_key slot t Key = breaks_key is_key (form_of rows slot) t

-- ---- the parts of data, each in the slot that the type gives it

abbrev pub with_part : Option Slot → Data → List (Slot × Data) → List (Slot × Data)
with_part None d ps = ps
with_part (Some s) d ps = (s, d) ∷ ps

-- the entries under names that have a slot
abbrev pub parts_named : (List ℕ → Option Slot) → Members → List (Slot × Data)
parts_named slot no_members = []
parts_named slot (member k d ms) = with_part (slot k) d (parts_named slot ms)

abbrev pub member_slot : List MemberDef → List ℕ → Option Slot
member_slot members k = option_map (λ (p : ℕ × MemberDef). plainly (p.1).ty) (member_named k members)

abbrev pub list_parts : Option TypeDef → Items → List (Slot × Data)
list_parts (Some (T.List elem place)) ds = map (λ d. (elem, d)) (items_list ds)
list_parts f ds = []

abbrev pub map_parts : Option TypeDef → Members → List (Slot × Data)
map_parts (Some (T.Map key key_at elem place form)) ms = parts_named (λ k. Some elem) ms
map_parts (Some (T.Struct s)) ms = parts_named (λ k. slot_named k s.fields) ms
map_parts (Some (T.Union u)) ms = parts_named (member_slot u.members) ms
map_parts f ms = []

-- there are none inside an Any
abbrev pub parts_of : List Row → Slot → Data → List (Slot × Data)
parts_of rows slot D.null = []
parts_of rows slot (D.boolean b) = []
parts_of rows slot (D.integer n) = []
parts_of rows slot (D.text s) = []
parts_of rows slot (D.bytes s) = []
parts_of rows slot (D.list ds) = list_parts (form_of rows slot) ds
parts_of rows slot (D.map ms) = map_parts (form_of rows slot) ms
parts_of rows slot (D.link s) = []

-- the part to which numbers of parts lead, from the top down
abbrev pub part_by_numbers : List Row → Slot × Data → List ℕ → Option (Slot × Data)
part_by_numbers rows p [] = Some p
part_by_numbers rows p (i ∷ q) = option_and_then (λ r. part_by_numbers rows r q) (slice_get (parts_of rows p.0 p.1) i)

-- a part of the data breaks this rule at this type
pub record IsMismatch (rows : List Row) (is_key : ℕ → List ℕ → Bool) (slot : Slot) (t : Data) (ty : TypeNo) (rule : Rule) : Type 0 where
  pub at : List ℕ
  pub part : Slot × Data
  pub there : part_by_numbers rows (slot, t) at ≡ Some part
  pub type : (part.0).ty ≡ ty
  pub broken : breaks rows is_key part.0 part.1 rule ≡ true
