-- Holders whose form has no rule that could refuse what they become: they are lists or maps, whose items are never replaced as a whole.
use Rattle.std.proofs.Common.{◌≡◌, ℕ, Bool, true, false, List, [], ◌∷◌, Option, Some, None, refl, sym, ◌∙◌, ap, subst}
use Rattle.std.specs.Option.{option_map_or}
use Rattle.std.specs.Prelude.{option_and_then}
use Rattle.std.proofs.lemmas.Option.{none-some, same_Some}
use Rattle.ild_data.proofs.Options.{map_some}
use Rattle.ild_data.specs.Data as T
use Rattle.ild_data.specs.Data.{Data}
use Rattle.ild_data.specs.Key.{value_at}
use Rattle.ild_path_apply.specs.Applies.{is_whole}
use Rattle.ild_path_block.specs.Items.{is_refusing, is_text_struct}
use Rattle.ild_path_changes.specs.LastLift.{at_place, delete_seen, insert_seen, last_map, last_struct, map_last, named_last, set_seen, struct_last, with_data}
use Rattle.ild_path_changes.specs.Pairs.{at_pair}
use Rattle.ild_path_changes.specs.Places.{each_field, field_data, field_named, field_place, left_out, place_of, written, written_before}
use Rattle.ild_path_edits.specs.Table.{new_index}
use Rattle.ild_path_holder.specs.Along.{is_holder}
use Rattle.ild_path_item.specs.inside.Rewrites.{has_parts}
use Rattle.ild_path_last.specs.Change.{located}
use Rattle.ild_path_last.specs.declared.change.LastChange.{LastChange}
use Rattle.ild_path_last.specs.declared.change.LastChange.TheVariants as C
use Rattle.ild_path_steps.proofs.Holding.{Held, of_any, of_elements, of_entries, of_fields, of_member, of_nothing}
use Rattle.ild_path_steps.specs.declared.steps.PartSteps.TheVariants as P
use Rattle.ild_schema.specs.Marks.{field_text}
use Rattle.ild_schema.specs.Prelude.{anything}
use Rattle.ild_schema.specs.Value.{Value}
use Rattle.ild_schema.specs.declared.def.Field.{Field}
use Rattle.ild_schema.specs.declared.def.MapForm.{MapForm}
use Rattle.ild_schema.specs.declared.def.MapForm.TheVariants as M
use Rattle.ild_schema.specs.declared.def.StructForm.{StructForm}
use Rattle.ild_schema.specs.declared.def.StructForm.TheVariants as S
use Rattle.ild_schema.specs.declared.def.TypeDef.{TypeDef}
use Rattle.ild_schema.specs.declared.def.TypeDef.TheVariants as D
use Rattle.ild_schema.specs.declared.number.Slot.{Slot}
use Rattle.ild_schema.specs.declared.number.TypeNo.{TypeNo}
use Rattle.ild_schema.specs.declared.row.Row.{Row}
use Rattle.ild_splice_changes.specs.Differences.{at_item, at_key}
use Rattle.ild_splice_changes.specs.TreeChange.{Located, insert_entry, insert_item, one, remove_entry, remove_item, replace, unchanged}
use Rattle.ild_typed.specs.Composed.{map_form, struct_form}
use Rattle.ild_typed.specs.Fields.{field_entries, tuple_items}
use Rattle.ild_typed.specs.Hamt.{alone}
use Rattle.ild_typed.specs.Holder.{Holder, any_elements, any_entries, any_holder, elements, entries, fields, member, nothing}
use Rattle.ild_typed.specs.Layer as L
use Rattle.ild_typed.specs.Represented.{represented}
use Rattle.ild_typed.specs.Segment.{index_of}
use Rattle.ild_typed.specs.Strings.{in_key_order, listpairs, map_data}

-- all is replaced
abbrev pub is_all : Located → Bool
is_all unchanged = false
is_all (one [] (replace d)) = true
is_all (one [] (insert_item i d)) = false
is_all (one [] (insert_entry k d)) = false
is_all (one [] (remove_item i)) = false
is_all (one [] (remove_entry k)) = false
is_all (one (x ∷ q) c) = false

never : {A : Type 0} → true ≡ false → A
never p = absurd cc

-- ---- each form

key_part : (k : List ℕ) (c d : Option Data) → is_all (at_key k c d) ≡ false
key_part k None None = refl
key_part k None (Some d) = refl
key_part k (Some c) None = refl
key_part k (Some c) (Some d) = refl

item_part : (i : ℕ) (c d : Option Data) → is_all (at_item i c d) ≡ false
item_part i None None = refl
item_part i None (Some d) = refl
item_part i (Some c) None = refl
item_part i (Some c) (Some d) = refl

pair_part : (i : ℕ) (k : List ℕ) (c d : Option Data) → is_all (at_pair i k c d) ≡ false
pair_part i k None None = refl
pair_part i k None (Some d) = refl
pair_part i k (Some c) None = refl
pair_part i k (Some c) (Some d) = refl

or_none : {X : Type 0} (f : X → Located) (o : Option X) → ((x : X) → is_all (f x) ≡ false) → is_all (option_map_or f o unchanged) ≡ false
or_none f None all = refl
or_none f (Some x) all = all x

at_part : (f : ℕ → Located) (o : Option ℕ) → ((i : ℕ) → is_all (f i) ≡ false) → is_all (at_place f o) ≡ false
at_part f None all = refl
at_part f (Some i) all = all i

with_part : (f : Data → Located) (o : Option Data) → ((d : Data) → is_all (f d) ≡ false) → is_all (with_data f o) ≡ false
with_part f None all = refl
with_part f (Some d) all = all d

struct_part : (form : StructForm) → is_text_struct form ≡ false → (s : List ℕ) (fs : List Field) (ds : List (Option Data)) (g : Field) (c d u : Option Data) → is_all (struct_last form s fs ds g c d u) ≡ false
struct_part S.Map plain s fs ds g c d u = key_part (field_text g) (written left_out g c) (written left_out g d)
struct_part S.Tuple plain s fs ds g c d u = item_part (field_place s fs) c d
struct_part S.ListPairs plain s fs ds g c d u = pair_part (written_before left_out s fs ds) (field_text g) (written left_out g c) (written left_out g d)
struct_part (S.StringPairs inner entry) plain s fs ds g c d u = never plain
struct_part (S.StringJoin delim) plain s fs ds g c d u = never plain

map_part : (k_at at : ℕ) (kt : TypeNo) (slot : Slot) (form : MapForm) → is_refusing (Some (D.Map kt k_at slot at form)) ≡ false → (es : List (List ℕ × Data)) (t : Data) → map_form alone form (L.map es) ≡ Some t → (s : List ℕ) (i : ℕ) (c d u : Option Data) → is_all (map_last form s i c d u) ≡ false
map_part k_at at kt slot M.Map plain es t made s i c d u = key_part s c d
map_part k_at at kt slot M.ListPairs plain es t made s i c d u = pair_part i s c d
map_part k_at at kt slot (M.StringPairs inner entry) plain es t made s i c d u = never plain
map_part k_at at kt slot (M.Hamt shape) plain es t made s i c d u = absurd (none-some t made)

module _ (rows : List Row) (def : TypeDef) (t : Data) (plain : is_refusing (Some def) ≡ false) where
  abbrev pub f : Slot → Value → Option Data
  f = represented alone rows

  -- of parts with names
  named_in_any : (y : Data) (s : List ℕ) (new : Slot → Option Data) (u : Option Data) → is_all (named_last (Some def) f (any_holder y) s new u) ≡ false
  named_in_any (T.map ms) s new u = key_part s (value_at s (T.members_list ms)) (new anything)
  named_in_any (T.list ds) s new u = refl
  named_in_any T.null s new u = refl
  named_in_any (T.boolean b) s new u = refl
  named_in_any (T.integer n) s new u = refl
  named_in_any (T.text b) s new u = refl
  named_in_any (T.bytes b) s new u = refl
  named_in_any (T.link b) s new u = refl

  pub named_part : (h : Holder) → Held rows def h t → (s : List ℕ) (new : Slot → Option Data) (u : Option Data) → is_all (named_last (Some def) f h s new u) ≡ false
  named_part h (of_fields r os ds e k a b) s new u =
      subst (λ h. is_all (named_last (Some def) f h s new u) ≡ false) (sym k)
      (subst (λ d. is_all (last_struct (Some d) f s os new u) ≡ false) (sym e)
      (or_none _ (each_field f r.fields os) (λ ds. or_none _ (field_named s r.fields) (λ g. struct_part r.form (ap (λ d. is_refusing (Some d)) (sym e) ∙ plain) s r.fields ds g (field_data s r.fields ds) (new g.slot) u))))
  named_part h (of_member j n v m y e k a b g) s new u = never (ap (λ d. is_refusing (Some d)) (sym e) ∙ plain)
  named_part h (of_entries kt k_at elem at form ps es e k a b) s new u =
      subst (λ h. is_all (named_last (Some def) f h s new u) ≡ false) (sym k)
      (subst (λ d. is_all (last_map (Some d) s (place_of s ps) (option_and_then (f elem) (value_at s ps)) (new elem) u) ≡ false) (sym e)
      (map_part k_at at kt elem form (ap (λ d. is_refusing (Some d)) (sym e) ∙ plain) es t b s (place_of s ps) (option_and_then (f elem) (value_at s ps)) (new elem) u))
  named_part h (of_elements elem at vs ds e k a b) s new u = subst (λ h. is_all (named_last (Some def) f h s new u) ≡ false) (sym k) refl
  named_part h (of_any e k) s new u = subst (λ h. is_all (named_last (Some def) f h s new u) ≡ false) (sym k) (named_in_any t s new u)
  named_part h (of_nothing v k) s new u = subst (λ h. is_all (named_last (Some def) f h s new u) ≡ false) (sym k) refl

  -- of each holder, by the verb
  module _ (s : List ℕ) (u : Option Data) where
    pub set_part : (w : Value) (h : Holder) → Held rows def h t → is_all (set_seen (Some def) f h s w u) ≡ false
    set_part w (elements slot vs) held = at_part _ (index_of s) (λ i. with_part _ (f slot w) (λ d. refl))
    set_part w (any_elements ds) held = at_part _ (index_of s) (λ i. with_part _ (f anything w) (λ d. refl))
    set_part w (fields fs os) held = named_part (fields fs os) held s (λ slot. f slot w) u
    set_part w (member ms n v) held = named_part (member ms n v) held s (λ slot. f slot w) u
    set_part w (entries k slot paired ps) held = named_part (entries k slot paired ps) held s (λ slot. f slot w) u
    set_part w (any_entries ms) held = named_part (any_entries ms) held s (λ slot. f slot w) u
    set_part w (nothing v) held = named_part (nothing v) held s (λ slot. f slot w) u

    pub insert_part : (w : Value) (h : Holder) → Held rows def h t → is_all (insert_seen (Some def) f h s w u) ≡ false
    insert_part w (elements slot vs) held = at_part _ (new_index _ s) (λ i. with_part _ (f slot w) (λ d. refl))
    insert_part w (any_elements ds) held = at_part _ (new_index _ s) (λ i. with_part _ (f anything w) (λ d. refl))
    insert_part w (fields fs os) held = named_part (fields fs os) held s (λ slot. f slot w) u
    insert_part w (member ms n v) held = named_part (member ms n v) held s (λ slot. f slot w) u
    insert_part w (entries k slot paired ps) held = named_part (entries k slot paired ps) held s (λ slot. f slot w) u
    insert_part w (any_entries ms) held = named_part (any_entries ms) held s (λ slot. f slot w) u
    insert_part w (nothing v) held = named_part (nothing v) held s (λ slot. f slot w) u

    pub delete_part : (h : Holder) → Held rows def h t → is_all (delete_seen (Some def) f h s u) ≡ false
    delete_part (elements slot vs) held = at_part _ (index_of s) (λ i. refl)
    delete_part (any_elements ds) held = at_part _ (index_of s) (λ i. refl)
    delete_part (fields fs os) held = named_part (fields fs os) held s (λ slot. None) u
    delete_part (member ms n v) held = named_part (member ms n v) held s (λ slot. None) u
    delete_part (entries k slot paired ps) held = named_part (entries k slot paired ps) held s (λ slot. None) u
    delete_part (any_entries ms) held = named_part (any_entries ms) held s (λ slot. None) u
    delete_part (nothing v) held = named_part (nothing v) held s (λ slot. None) u

  -- ---- what such a holder is

  struct_parts : (form : StructForm) (fs : List Field) (ds : List (Option Data)) → is_text_struct form ≡ false → struct_form form fs ds ≡ Some t → has_parts t ≡ true
  struct_parts S.Map fs ds bare made = let y = map_some (λ es. map_data (in_key_order es)) (field_entries fs ds) t made in ap has_parts (sym y.2)
  struct_parts S.Tuple fs ds bare made = let y = map_some (λ xs. T.list (T.items_of xs)) (tuple_items fs ds) t made in ap has_parts (sym y.2)
  struct_parts S.ListPairs fs ds bare made = let y = map_some listpairs (field_entries fs ds) t made in ap has_parts (sym y.2)
  struct_parts (S.StringPairs inner entry) fs ds bare made = never bare
  struct_parts (S.StringJoin delim) fs ds bare made = never bare

  map_parts : (k_at at : ℕ) (kt : TypeNo) (slot : Slot) (form : MapForm) (es : List (List ℕ × Data)) → is_refusing (Some (D.Map kt k_at slot at form)) ≡ false → map_form alone form (L.map es) ≡ Some t → has_parts t ≡ true
  map_parts k_at at kt slot M.Map es bare made = ap has_parts (sym (same_Some (map_data es) t made))
  map_parts k_at at kt slot M.ListPairs es bare made = ap has_parts (sym (same_Some (listpairs es) t made))
  map_parts k_at at kt slot (M.StringPairs inner entry) es bare made = never bare
  map_parts k_at at kt slot (M.Hamt shape) es bare made = absurd (none-some t made)

  any_parts : (y : Data) → is_holder (any_holder y) ≡ true → has_parts y ≡ true
  any_parts (T.map ms) holds = refl
  any_parts (T.list ds) holds = refl
  any_parts T.null holds = never (sym holds)
  any_parts (T.boolean b) holds = never (sym holds)
  any_parts (T.integer n) holds = never (sym holds)
  any_parts (T.text b) holds = never (sym holds)
  any_parts (T.bytes b) holds = never (sym holds)
  any_parts (T.link b) holds = never (sym holds)

  pub parts_there : (h : Holder) → Held rows def h t → is_holder h ≡ true → has_parts t ≡ true
  parts_there h (of_fields r os ds e k a b) holds = struct_parts r.form r.fields ds (ap (λ d. is_refusing (Some d)) (sym e) ∙ plain) b
  parts_there h (of_member j n v m y e k a b g) holds = never (ap (λ d. is_refusing (Some d)) (sym e) ∙ plain)
  parts_there h (of_entries kt k_at elem at form ps es e k a b) holds = map_parts k_at at kt elem form es (ap (λ d. is_refusing (Some d)) (sym e) ∙ plain) b
  parts_there h (of_elements elem at vs ds e k a b) holds = ap has_parts b
  parts_there h (of_any e k) holds = any_parts t (sym (ap is_holder k) ∙ holds)
  parts_there h (of_nothing v k) holds = never (sym (sym (ap is_holder k) ∙ holds))

-- a change that is not of all, whatever the whole becomes, replaces no whole item
pub not_whole_change : (c : LastChange) (x : Option Data) (u : Data) → (d : Data) → x ≡ Some d → is_all (located c x (Some u)) ≡ false → is_whole c ≡ false
not_whole_change C.Nothing x u d e h = refl
not_whole_change C.Whole x u d e h = never h
not_whole_change (C.Replace P.Whole) x u d e h = never h
not_whole_change (C.Replace P.Same) x u d e h = refl
not_whole_change (C.Replace (P.Item i)) x u d e h = refl
not_whole_change (C.Replace (P.Entry k)) x u d e h = refl
not_whole_change (C.Replace (P.Pair i)) x u d e h = refl
not_whole_change (C.Replace (P.Beside k)) x u d e h = never (sym (ap (λ x. is_all (located (C.Replace (P.Beside k)) x (Some u))) e) ∙ h)
not_whole_change (C.InsertItem i) x u d e h = refl
not_whole_change (C.InsertPair i k) x u d e h = refl
not_whole_change (C.InsertEntry k) x u d e h = refl
not_whole_change (C.RemoveItem i) x u d e h = refl
not_whole_change (C.RemoveEntry k) x u d e h = refl
