-- Where an edit is seen in the data of the last holder: a part comes, goes or becomes another. String forms, HAMTs and a union
-- whose member is set are replaced as a whole.
use Rattle.ild_schema.specs.declared.def.TypeDef.TheVariants as T
use Rattle.ild_schema.specs.declared.def.MapForm.TheVariants as M
use Rattle.ild_schema.specs.declared.def.StructForm.TheVariants as S
use Rattle.std.specs.Prelude.{ℕ, List, [], ◌∷◌, length, Option, Some, None, option_and_then}
use Rattle.std.specs.Option.{option_map_or}
use Rattle.ild_data.specs.Data.{Data}
use Rattle.ild_data.specs.Key.{value_at}
use Rattle.ild_schema.specs.declared.def.TypeDef.{TypeDef}
use Rattle.ild_schema.specs.declared.def.MapForm.{MapForm}
use Rattle.ild_schema.specs.declared.def.StructForm.{StructForm}
use Rattle.ild_schema.specs.declared.def.Field.{Field}
use Rattle.ild_schema.specs.declared.number.Slot.{Slot}
use Rattle.ild_schema.specs.declared.row.Row.{Row}
use Rattle.ild_schema.specs.Prelude.{anything}
use Rattle.ild_schema.specs.Value.{Value}
use Rattle.ild_splice_changes.specs.TreeChange.{nth, replace, insert_item, remove_item, Located, unchanged, one}
use Rattle.ild_splice_changes.specs.Differences.{at_key, at_item}
use Rattle.ild_path_changes.specs.Pairs.{at_pair}
use Rattle.ild_schema.specs.Slots.{form_of}
use Rattle.ild_schema.specs.Marks.{field_text as represented_name}
use Rattle.ild_typed.specs.Composed.{Hamts}
use Rattle.ild_typed.specs.Represented.{represented}
use Rattle.ild_typed.specs.Holder.{Holder, fields, member, entries, elements, any_entries, any_elements, nothing, value_of}
use Rattle.ild_typed.specs.Segment.{set_part, index_of}
use Rattle.ild_path_edits.specs.Table.{new_index, insert_part, delete_part}
use Rattle.ild_typed.specs.At.{InSlot, seen}
use Rattle.ild_path_changes.specs.Places.{each_field, written, field_named, field_data, place_of, left_out, written_before, field_place}
use Rattle.ild_path_changes.specs.Lift.{whole}

-- of the field g of the name s, whose data was c and becomes d; the fields' data were ds, and the whole becomes u
abbrev pub struct_last : StructForm → List ℕ → List Field → List (Option Data) → Field → Option Data → Option Data → Option Data → Located
struct_last S.Map s fs ds g c d u = at_key (represented_name g) (written left_out g c) (written left_out g d)
struct_last S.Tuple s fs ds g c d u = at_item (field_place s fs) c d
struct_last S.ListPairs s fs ds g c d u = at_pair (written_before left_out s fs ds) (represented_name g) (written left_out g c) (written left_out g d)
struct_last (S.StringPairs inner entry) s fs ds g c d u = whole u
struct_last (S.StringJoin delim) s fs ds g c d u = whole u

abbrev pub map_last : MapForm → List ℕ → ℕ → Option Data → Option Data → Option Data → Located
map_last M.Map s i c d u = at_key s c d
map_last M.ListPairs s i c d u = at_pair i s c d
map_last (M.StringPairs inner entry) s i c d u = whole u
map_last (M.Hamt shape) s i c d u = whole u

abbrev pub last_struct : Option TypeDef → (Slot → Value → Option Data) → List ℕ → List (Option Value) → (Slot → Option Data) → Option Data → Located
last_struct (Some (T.Struct r)) f s os new u =
    option_map_or (λ ds. option_map_or (λ g. struct_last r.form s r.fields ds g (field_data s r.fields ds) (new g.slot) u) (field_named s r.fields) unchanged) (each_field f r.fields os) unchanged
last_struct d f s os new u = unchanged

abbrev pub last_map : Option TypeDef → List ℕ → ℕ → Option Data → Option Data → Option Data → Located
last_map (Some (T.Map kt key_at slot place f)) s i c d u = map_last f s i c d u
last_map d s i c d' u = unchanged

-- what stands at a name or a key becomes w, or goes
abbrev pub named_last : Option TypeDef → (Slot → Value → Option Data) → Holder → List ℕ → (Slot → Option Data) → Option Data → Located
named_last d f (fields fs os) s new u = last_struct d f s os new u
named_last d f (member ms n v) s new u = whole u
named_last d f (entries k slot paired ps) s new u = last_map d s (place_of s ps) (option_and_then (f slot) (value_at s ps)) (new slot) u
named_last d f (any_entries ms) s new u = at_key s (value_at s ms) (new anything)
named_last d f (elements slot vs) s new u = unchanged
named_last d f (any_elements ds) s new u = unchanged
named_last d f (nothing v) s new u = unchanged

-- what an item of a list becomes, and one that comes or goes
abbrev pub at_place : (ℕ → Located) → Option ℕ → Located
at_place f None = unchanged
at_place f (Some i) = f i

abbrev pub with_data : (Data → Located) → Option Data → Located
with_data f None = unchanged
with_data f (Some d) = f d

abbrev pub set_seen : Option TypeDef → (Slot → Value → Option Data) → Holder → List ℕ → Value → Option Data → Located
set_seen d f (elements slot vs) s w u = at_place (λ i. with_data (λ x. one (nth i ∷ []) (replace x)) (f slot w)) (index_of s)
set_seen d f (any_elements ds) s w u = at_place (λ i. with_data (λ x. one (nth i ∷ []) (replace x)) (f anything w)) (index_of s)
set_seen d f h s w u = named_last d f h s (λ slot. f slot w) u

abbrev pub insert_seen : Option TypeDef → (Slot → Value → Option Data) → Holder → List ℕ → Value → Option Data → Located
insert_seen d f (elements slot vs) s w u = at_place (λ i. with_data (λ x. one [] (insert_item i x)) (f slot w)) (new_index (length vs) s)
insert_seen d f (any_elements ds) s w u = at_place (λ i. with_data (λ x. one [] (insert_item i x)) (f anything w)) (new_index (length ds) s)
insert_seen d f h s w u = named_last d f h s (λ slot. f slot w) u

abbrev pub delete_seen : Option TypeDef → (Slot → Value → Option Data) → Holder → List ℕ → Option Data → Located
delete_seen d f (elements slot vs) s u = at_place (λ i. one [] (remove_item i)) (index_of s)
delete_seen d f (any_elements ds) s u = at_place (λ i. one [] (remove_item i)) (index_of s)
delete_seen d f h s u = named_last d f h s (λ slot. None) u

-- the value in which the last holder is changed by f, and where that is seen: at the last holder by g, and lifted from there
pub record LastEdit : Type 0 where
  pub made : Holder → List ℕ → Holder
  pub seen_in : Option TypeDef → (Slot → Value → Option Data) → Holder → List ℕ → Option Data → Located

abbrev pub setting : Value → LastEdit
setting w = record { made = λ h s. set_part h s w; seen_in = λ d f h s u. set_seen d f h s w u }

abbrev pub inserting : Value → LastEdit
inserting w = record { made = λ h s. insert_part h s w; seen_in = λ d f h s u. insert_seen d f h s w u }

abbrev pub deleting : LastEdit
deleting = record { made = λ h s. delete_part h s; seen_in = λ d f h s u. delete_seen d f h s u }

abbrev pub last_seen : Hamts → List Row → LastEdit → List ℕ → InSlot → Located
last_seen hamts rows e s q = e.seen_in (form_of rows q.0) (represented hamts rows) (seen rows q) s (represented hamts rows q.0 (value_of (e.made (seen rows q) s)))
