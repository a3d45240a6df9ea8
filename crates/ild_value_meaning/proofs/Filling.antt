-- What a tree means is shown by it where the fields that are left out are put in.
use Rattle.std.proofs.Common.{cond, ◌≡◌, inl, inr, ◌⊎◌, ℕ, List, [], ◌∷◌, ◌++◌, Bool, true, false, Option, Some, None, option_map, refl, ap, sym, ◌∙◌}
use Rattle.std.specs.Option.{option_map_or}
use Rattle.ild_data.specs.Data as D
use Rattle.ild_data.specs.Data.{Data, Items, no_items, item, Members, no_members, member, members_list}
use Rattle.ild_data.specs.Key.{same_text, value_at}
use Rattle.ild_schema.specs.declared.def.TypeDef.TheVariants as T
use Rattle.ild_schema.specs.declared.def.Scalar.{Scalar}
use Rattle.ild_schema.specs.declared.def.Scalar.TheVariants as S
use Rattle.ild_schema.specs.declared.def.Field.{Field}
use Rattle.ild_schema.specs.declared.def.Member.{Member}
use Rattle.ild_schema.specs.declared.def.EnumMember.{EnumMember}
use Rattle.ild_schema.specs.declared.number.Slot.{Slot}
use Rattle.ild_schema.specs.declared.row.Row.{Row}
use Rattle.ild_schema.specs.Value.{Value, null, boolean, integer, text, bytes, link, list, map, struct, union, enum, unit, any, hamt, Values, no_values, value, Pairs, no_pairs, pair, Optionals, no_optionals, absent, present}
use Rattle.ild_schema.specs.Slots.{form_of, plainly}
use Rattle.ild_typed.specs.Shown.{shown, shown_values, shown_pairs, shown_fields}
use Rattle.ild_typed.specs.Slots.{element_of, fields_of, member_at, enum_member_at, slot_of}
use Rattle.ild_typed.specs.Strings.{in_key_order, map_data}
use Rattle.ild_value_meaning.specs.Filled.{Filling, scalar_data, implicit_entry, filled_field, filled_fields, filled_entries, filled_member, filled_members, filled_list, filled_map, filled, filled_items, fillings}
use Rattle.ild_value_meaning.specs.Meant.{Meant, AreMeant, EntriesMeant, FieldsMeant, IsLeftOut, is_null, of_scalar}
use Rattle.ild_value_meaning.specs.MeantLaws.{FilledIsShown}
use Rattle.ild_value_meaning.proofs.Told.{AreToldApart, told}

module _ (rows : List Row) where
  filling_at : (ms : Members) (k : List ℕ) → value_at k (fillings rows ms) ≡ option_map (λ d slot. filled rows slot d) (value_at k (members_list ms))
  filling_at no_members k = refl
  filling_at (member j d ms) k = by (same_text k j) (filling_at ms k) where
    by : (b : Bool) → value_at k (fillings rows ms) ≡ option_map (λ d slot. filled rows slot d) (value_at k (members_list ms))
        → cond b (Some (λ slot. filled rows slot d)) (value_at k (fillings rows ms)) ≡ option_map (λ e slot. filled rows slot e) (cond b (Some d) (value_at k (members_list ms)))
    by true rest = refl
    by false rest = rest

  any_filled : (slot : Slot) (d : Data) → form_of rows slot ≡ Some T.Any → filled rows slot d ≡ d
  any_filled slot D.null f = refl
  any_filled slot (D.boolean b) f = refl
  any_filled slot (D.integer n) f = refl
  any_filled slot (D.text s) f = refl
  any_filled slot (D.bytes s) f = refl
  any_filled slot (D.link s) f = refl
  any_filled slot (D.list ds) f = ap (λ g. filled_list (D.list ds) (λ elem. filled_items rows elem ds) g) f
  any_filled slot (D.map ms) f = ap (λ g. filled_map (D.map ms) (fillings rows ms) g) f

  scalar_shown : (slot : Slot) (s : Scalar) → scalar_data s ≡ shown rows slot (of_scalar s)
  scalar_shown slot (S.Bool b) = refl
  scalar_shown slot (S.Int n) = refl
  scalar_shown slot (S.Text s) = refl

  module _ (is_key : ℕ → List ℕ → Bool) (apart : AreToldApart rows) where
    field_filled : (f : Field) (v : Value) (ms : Members) → ((e : Data) × (value_at f.name (members_list ms) ≡ Some e) × Meant rows is_key f.slot e v) ⊎ IsLeftOut f v ms
        → ((e : Data) → Meant rows is_key f.slot e v → filled rows f.slot e ≡ shown rows f.slot v) → filled_field f (value_at f.name (fillings rows ms)) ≡ (f.name, shown rows f.slot v) ∷ []
    field_filled f v ms (inl h) rest =
        ap (filled_field f) (filling_at ms f.name ∙ ap (λ o. option_map (λ d slot. filled rows slot d) o) h.1) ∙ ap (λ (d : Data). (f.name, d) ∷ []) (rest h.0 h.2)
    field_filled f v ms (inr l) rest =
        ap (filled_field f) (filling_at ms f.name ∙ ap (λ o. option_map (λ d slot. filled rows slot d) o) l.missing)
        ∙ ap (implicit_entry f.name) l.implicit ∙ ap (λ (d : Data). (f.name, d) ∷ []) (scalar_shown f.slot l.scalar ∙ ap (shown rows f.slot) (sym l.same))

    mutual
      shown_value : (v : Value) (slot : Slot) (t : Data) → Meant rows is_key slot t v → filled rows slot t ≡ shown rows slot v
      shown_value null slot t h = ap (λ d. filled rows slot d) h.1
      shown_value (boolean b) slot t h = ap (λ d. filled rows slot d) h.1
      shown_value (integer n) slot t h = ap (λ d. filled rows slot d) h.1
      shown_value (text s) slot t h = ap (λ d. filled rows slot d) h.1
      shown_value (bytes s) slot t h = ap (λ d. filled rows slot d) h.1
      shown_value (link s) slot t h = ap (λ d. filled rows slot d) h.2
      shown_value (list vs) slot t h =
          ap (λ d. filled rows slot d) h.4 ∙ ap (λ g. filled_list (D.list h.2) (λ elem. filled_items rows elem h.2) g) h.3
          ∙ ap (λ ds. D.list ds) (shown_items vs h.0 h.2 h.5)
          ∙ sym (ap (λ f. D.list (option_map_or (λ u. shown_values rows u vs) (element_of f) no_items)) h.3)
      shown_value (map ps) slot t h =
          ap (λ d. filled rows slot d) h.7 ∙ ap (λ g. filled_map (D.map h.5) (fillings rows h.5) g) h.6
          ∙ ap (λ es. map_data (in_key_order es)) (shown_entries ps (h.0).0 h.2 h.5 h.8)
          ∙ sym (ap (λ f. map_data (option_map_or (λ u. in_key_order (shown_pairs rows u ps)) (element_of f) [])) h.6)
      shown_value (struct os) slot t h =
          ap (λ d. filled rows slot d) h.3 ∙ ap (λ g. filled_map (D.map h.1) (fillings rows h.1) g) h.2
          ∙ ap (λ es. map_data (in_key_order es)) (shown_of_fields os (h.0).fields h.1 h.5)
          ∙ sym (ap (λ f. map_data (in_key_order (shown_fields rows (fields_of f) os))) h.2)
      shown_value (union n v) slot t h =
          ap (λ d. filled rows slot d) h.5 ∙ ap (λ g. filled_map (D.map (member (h.1).name h.2 no_members)) (fillings rows (member (h.1).name h.2 no_members)) g) h.3
          ∙ ap (λ o. map_data (in_key_order (filled_member ((h.1).name, λ s. filled rows s h.2) o ++ []))) (apart.unions slot h.0 n h.1 h.3 h.4)
          ∙ ap (λ (d : Data). map_data (((h.1).name, d) ∷ [])) (shown_value v (plainly (h.1).ty) h.2 h.6)
          ∙ sym (ap (λ f. map_data (option_map_or (λ (m : Member). (m.name, shown rows (slot_of m) v) ∷ []) (member_at f n) [])) h.3
          ∙ ap (λ o. map_data (option_map_or (λ (m : Member). (m.name, shown rows (slot_of m) v) ∷ []) o [])) h.4)
      shown_value (enum n) slot t h =
          ap (λ d. filled rows slot d) h.4
          ∙ sym (ap (λ f. D.text (option_map_or (λ (m : EnumMember). m.name) (enum_member_at f n) [])) h.2 ∙ ap (λ o. D.text (option_map_or (λ (m : EnumMember). m.name) o [])) h.3)
      shown_value unit slot t h = ap (λ d. filled rows slot d) h.2 ∙ ap (λ g. filled_map (D.map no_members) [] g) h.1
      shown_value (any d) slot t h = ap (λ e. filled rows slot e) h.1 ∙ any_filled slot d h.0
      shown_value (hamt d) slot t h = absurd h

      shown_items : (vs : Values) (slot : Slot) (ds : Items) → AreMeant rows is_key slot ds vs → filled_items rows slot ds ≡ shown_values rows slot vs
      shown_items no_values slot ds h = ap (λ es. filled_items rows slot es) h
      shown_items (value v vs) slot ds h =
          ap (λ es. filled_items rows slot es) h.2 ∙ ap (λ d. item d (filled_items rows slot h.1)) (shown_value v slot h.0 h.3) ∙ ap (λ es. item (shown rows slot v) es) (shown_items vs slot h.1 h.4)

      shown_entries : (ps : Pairs) (key : ℕ) (slot : Slot) (ms : Members) → EntriesMeant rows is_key key slot ms ps → filled_entries slot (fillings rows ms) ≡ shown_pairs rows slot ps
      shown_entries no_pairs key slot ms h = ap (λ ns. filled_entries slot (fillings rows ns)) h
      shown_entries (pair k v ps) key slot ms h =
          ap (λ ns. filled_entries slot (fillings rows ns)) h.2 ∙ ap (λ (d : Data). (k, d) ∷ filled_entries slot (fillings rows h.1)) (shown_value v slot h.0 h.4)
          ∙ ap (λ es. (k, shown rows slot v) ∷ es) (shown_entries ps key slot h.1 h.5)

      shown_of_fields : (os : Optionals) (fs : List Field) (ms : Members) → FieldsMeant rows is_key fs ms os → filled_fields fs (fillings rows ms) ≡ shown_fields rows fs os
      shown_of_fields no_optionals [] ms h = refl
      shown_of_fields no_optionals (f ∷ fs) ms h = absurd h
      shown_of_fields (absent os) [] ms h = absurd h
      shown_of_fields (absent os) (f ∷ fs) ms h =
          ap (λ o. filled_field f o ++ filled_fields fs (fillings rows ms)) (filling_at ms f.name ∙ ap (λ o. option_map (λ d slot. filled rows slot d) o) (h.0).missing)
          ∙ ap (λ o. implicit_entry f.name o ++ filled_fields fs (fillings rows ms)) (h.0).plain ∙ shown_of_fields os fs ms h.1
      shown_of_fields (present v os) [] ms h = absurd h
      shown_of_fields (present v os) (f ∷ fs) ms h =
          ap (λ es. es ++ filled_fields fs (fillings rows ms)) (field_filled f v ms h.0 (λ e g. shown_value v f.slot e g))
          ∙ ap (λ es. (f.name, shown rows f.slot v) ∷ es) (shown_of_fields os fs ms h.1)

pub filled_is_shown : FilledIsShown
filled_is_shown rows is_key schema slot t v h = shown_value rows is_key (told rows schema).apart v slot t h
