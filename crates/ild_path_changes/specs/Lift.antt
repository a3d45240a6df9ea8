-- Where the change of a part is seen in the data of its holder: one rule a form. String forms and HAMTs are replaced as a whole.
use Rattle.ild_schema.specs.declared.def.TypeDef.TheVariants as T
use Rattle.ild_schema.specs.declared.def.MapForm.TheVariants as M
use Rattle.ild_schema.specs.declared.def.StructForm.TheVariants as S
use Rattle.ild_schema.specs.declared.def.UnionForm.TheVariants as U
use Rattle.std.specs.Prelude.{ℕ, Bool, true, false, not, List, [], ◌∷◌, Option, Some, None, slice_get, if◌then◌else◌, ◌++◌}
use Rattle.std.specs.Option.{option_map_or}
use Rattle.ild_data.specs.Data.{Data}
use Rattle.ild_data.specs.Key.{same_text}
use Rattle.ild_schema.specs.declared.def.TypeDef.{TypeDef}
use Rattle.ild_schema.specs.declared.def.MapForm.{MapForm}
use Rattle.ild_schema.specs.declared.def.StructForm.{StructForm}
use Rattle.ild_schema.specs.declared.def.UnionForm.{UnionForm}
use Rattle.ild_schema.specs.declared.def.Field.{Field}
use Rattle.ild_schema.specs.declared.def.Member.{Member}
use Rattle.ild_schema.specs.declared.number.Slot.{Slot}
use Rattle.ild_schema.specs.declared.row.Row.{Row}
use Rattle.ild_schema.specs.Value.{Value}
use Rattle.ild_splice_changes.specs.TreeChange.{TreeStep, nth, key, replace, insert_item, insert_entry, remove_item, remove_entry, Located, unchanged, one}
use Rattle.ild_typed.specs.Strings.{pair_data}
use Rattle.ild_schema.specs.Slots.{form_of}
use Rattle.ild_schema.specs.Marks.{field_text as represented_name, mark_text}
use Rattle.ild_typed.specs.Composed.{Hamts}
use Rattle.ild_typed.specs.Represented.{represented}
use Rattle.ild_typed.specs.Holder.{Holder, fields, member, entries, elements, any_entries, any_elements, nothing, value_of}
use Rattle.ild_typed.specs.Segment.{set_part, index_of, part}
use Rattle.ild_typed.specs.At.{InSlot, seen, changed_in}
use Rattle.ild_path_changes.specs.Places.{left_out, each_field, written, field_named, field_data, place_of, field_place, written_before}

-- ---- through the holders of a path

-- the one change of the whole, from that of the last holder
abbrev pub lifted : List Row → (InSlot → List ℕ → Value → Located → Located) → (Holder → List ℕ → Holder) → (InSlot → Located) → InSlot → List ℕ → List (List ℕ) → Located
lifted rows lift f last p s [] = last p
lifted rows lift f last p s (t ∷ ss) = option_map_or (λ q. lift p s (changed_in rows f q t ss) (lifted rows lift f last q t ss)) (part (seen rows p) s) unchanged

-- the change of a part that stands at these steps of the whole
abbrev pub lift_within : List TreeStep → Located → Located
lift_within q unchanged = unchanged
lift_within q (one p c) = one (q ++ p) c

-- ---- in the data of one holder

-- a holder's data, all replaced
abbrev pub whole : Option Data → Located
whole None = unchanged
whole (Some d) = one [] (replace d)

-- what is written of a field, before and after, under its name or as its pair
abbrev pub entry_lift : List ℕ → Option Data → Option Data → Located → Located
entry_lift k None None e = unchanged
entry_lift k None (Some d) e = one [] (insert_entry k d)
entry_lift k (Some c) None e = one [] (remove_entry k)
entry_lift k (Some c) (Some d) e = lift_within (key k ∷ []) e

abbrev pub pair_lift : ℕ → List ℕ → Option Data → Option Data → Located → Located
pair_lift i k None None e = unchanged
pair_lift i k None (Some d) e = one [] (insert_item i (pair_data (k, d)))
pair_lift i k (Some c) None e = one [] (remove_item i)
pair_lift i k (Some c) (Some d) e = lift_within (nth i ∷ nth 1 ∷ []) e

abbrev pub map_lift : MapForm → List ℕ → ℕ → Option Data → Located → Located
map_lift M.Map s i u e = lift_within (key s ∷ []) e
map_lift M.ListPairs s i u e = lift_within (nth i ∷ nth 1 ∷ []) e
map_lift (M.StringPairs inner entry) s i u e = whole u
map_lift (M.Hamt shape) s i u e = whole u

-- of the field g of the name s, whose data is c and then d; the fields' data were ds, and the whole becomes u
abbrev pub struct_lift : StructForm → List ℕ → List Field → List (Option Data) → Field → Option Data → Option Data → Option Data → Located → Located
struct_lift S.Map s fs ds g c d u e = entry_lift (represented_name g) (written left_out g c) (written left_out g d) e
struct_lift S.Tuple s fs ds g c d u e = lift_within (nth (field_place s fs) ∷ []) e
struct_lift S.ListPairs s fs ds g c d u e = pair_lift (written_before left_out s fs ds) (represented_name g) (written left_out g c) (written left_out g d) e
struct_lift (S.StringPairs inner entry) s fs ds g c d u e = whole u
struct_lift (S.StringJoin delim) s fs ds g c d u e = whole u

-- a change that leaves the entry at k, and the map as a whole, alone
abbrev pub is_beside : List ℕ → Located → Bool
is_beside k unchanged = true
is_beside k (one [] (replace d)) = false
is_beside k (one [] (insert_item i d)) = true
is_beside k (one [] (insert_entry j d)) = not (same_text j k)
is_beside k (one [] (remove_item i)) = true
is_beside k (one [] (remove_entry j)) = not (same_text j k)
is_beside k (one (nth i ∷ q) c) = true
is_beside k (one (key j ∷ q) c) = not (same_text j k)

abbrev pub under_mark : (List ℕ → Located) → Option (List ℕ) → Located
under_mark f None = unchanged
under_mark f (Some name) = f name

-- the member's data stand under its mark, as they are, under the content's key, or beside the discriminant
abbrev pub union_lift : UnionForm → Member → Option Data → Located → Located
union_lift U.Keyed m u e = under_mark (λ name. lift_within (key name ∷ []) e) (mark_text m.mark)
union_lift U.Kinded m u e = e
union_lift (U.Envelope k content) m u e = lift_within (key content ∷ []) e
union_lift U.StringPrefix m u e = whole u
union_lift U.BytesPrefix m u e = whole u
union_lift (U.Inline k) m u e = if is_beside k e then e else whole u

abbrev pub lift_map : Option TypeDef → List ℕ → ℕ → Option Data → Located → Located
lift_map (Some (T.Map kt key_at slot place f)) s i u e = map_lift f s i u e
lift_map d s i u e = unchanged

abbrev pub lift_struct : Option TypeDef → (Slot → Value → Option Data) → List ℕ → List (Option Value) → Value → Option Data → Located → Located
lift_struct (Some (T.Struct r)) f s os c u e =
    option_map_or (λ ds. option_map_or (λ g. struct_lift r.form s r.fields ds g (field_data s r.fields ds) (f g.slot c) u e) (field_named s r.fields) unchanged) (each_field f r.fields os) unchanged
lift_struct d f s os c u e = unchanged

abbrev pub lift_union : Option TypeDef → ℕ → Option Data → Located → Located
lift_union (Some (T.Union un)) n u e = option_map_or (λ m. union_lift un.form m u e) (slice_get un.members n) unchanged
lift_union d n u e = unchanged

-- how a change e of the part at s, which becomes c, is seen in the holder's data, which become u
abbrev pub lift_in : Option TypeDef → (Slot → Value → Option Data) → Holder → List ℕ → Value → Option Data → Located → Located
lift_in d f (fields fs os) s c u e = lift_struct d f s os c u e
lift_in d f (member ms n v) s c u e = lift_union d n u e
lift_in d f (entries k slot paired ps) s c u e = lift_map d s (place_of s ps) u e
lift_in d f (elements slot vs) s c u e = option_map_or (λ i. lift_within (nth i ∷ []) e) (index_of s) unchanged
lift_in d f (any_entries ms) s c u e = lift_within (key s ∷ []) e
lift_in d f (any_elements ds) s c u e = option_map_or (λ i. lift_within (nth i ∷ []) e) (index_of s) unchanged
lift_in d f (nothing v) s c u e = unchanged

abbrev pub lift : Hamts → List Row → InSlot → List ℕ → Value → Located → Located
lift at rows p s c e = lift_in (form_of rows p.0) (represented at rows) (seen rows p) s c (represented at rows p.0 (value_of (set_part (seen rows p) s c))) e
