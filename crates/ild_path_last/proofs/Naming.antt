-- The change of a part with a name, by what holds it.
use Rattle.std.proofs.Common.{◌≡◌, ◌+◌, ℕ, List, [], ◌∷◌, Bool, true, false, cond, Option, Some, None, refl, sym, ◌∙◌, ap, subst, arith}
use Rattle.std.specs.Prelude.{bytes_eq, is_some, option_and_then}
use Rattle.std.specs.List.{position_from}
use Rattle.std.specs.Option.{option_map_or}
use Rattle.std.proofs.lemmas.Option.{none-some}
use Rattle.ild_splice_changes.specs.Differences.{at_key}
use Rattle.ild_splice_changes.specs.TreeChange.{unchanged}
use Rattle.ild_data.specs.Data as T
use Rattle.ild_data.specs.Data.{Data, members_list}
use Rattle.ild_data.specs.Key.{same_text, value_at}
use Rattle.ild_path_changes.proofs.Each.{each_pair-at}
use Rattle.ild_path_changes.proofs.Lifting.{place_same}
use Rattle.ild_path_changes.specs.LastLift.{last_map, last_struct, map_last, named_last, struct_last}
use Rattle.ild_path_changes.specs.Places.{field_data, field_named, field_place, place_of}
use Rattle.ild_schema.specs.Clear.{IsClear}
use Rattle.ild_schema.specs.Copies.{base}
use Rattle.ild_schema.specs.Parts.{part_named}
use Rattle.ild_schema.specs.Slots.{form_of}
use Rattle.ild_schema.specs.Value.{Value}
use Rattle.ild_schema.specs.declared.def.Field.{Field}
use Rattle.ild_schema.specs.declared.def.MapForm.{MapForm}
use Rattle.ild_schema.specs.declared.def.StructDef.{StructDef}
use Rattle.ild_schema.specs.declared.def.TypeDef.{TypeDef}
use Rattle.ild_schema.specs.declared.def.TypeDef.TheVariants as D
use Rattle.ild_schema.specs.declared.def.UnionDef.{UnionDef}
use Rattle.ild_schema.specs.declared.number.Slot.{Slot}
use Rattle.ild_schema.specs.declared.number.TypeNo.{TypeNo}
use Rattle.ild_schema.specs.declared.row.Row.{Row}
use Rattle.ild_typed.specs.At.{seen}
use Rattle.ild_typed.specs.Composed.{map_form}
use Rattle.ild_typed.specs.Hamt.{alone}
use Rattle.ild_typed.specs.Holder.{Holder, any_holder, entries, fields, is_paired, member, nothing}
use Rattle.ild_typed.specs.Layer as L
use Rattle.ild_typed.specs.Represented.{represented}
use Rattle.ild_typed.specs.Strings.{members_in}
use Rattle.ild_path_steps.proofs.Holding.{Held, held_by, of_any, of_elements, of_entries, of_fields, of_member, of_nothing}
use Rattle.ild_path_steps.proofs.Leading.{field_counted, field_number}
use Rattle.ild_path_last.specs.Change.{ChangesEntry, ChangesField, IsShown, PartBecomes, is_named, located}
use Rattle.ild_path_last.specs.declared.change.LastChange.{LastChange}
use Rattle.ild_path_last.specs.declared.change.LastChange.TheVariants as C

never_true : {A : Type 0} → false ≡ true → A
never_true p = absurd cc

-- a field with a number has a name
numbered_at : (s : List ℕ) (i n : ℕ) (f : Field) (fs : List Field) (b : Bool) → cond b (Some i) (position_from (λ g. bytes_eq s g.name) (i + 1) fs) ≡ Some n
    → (position_from (λ g. bytes_eq s g.name) (i + 1) fs ≡ Some n → (g : Field) × (field_named s fs ≡ Some g)) → (g : Field) × (cond b (Some f) (field_named s fs) ≡ Some g)
numbered_at s i n f fs true h rest = (f, refl)
numbered_at s i n f fs false h rest = rest h

numbered_named : (s : List ℕ) (i n : ℕ) (fs : List Field) → position_from (λ g. bytes_eq s g.name) i fs ≡ Some n → (g : Field) × (field_named s fs ≡ Some g)
numbered_named s i n [] h = absurd (none-some n h)
numbered_named s i n (f ∷ fs) h = numbered_at s i n f fs (same_text s f.name) h (numbered_named s (i + 1) n fs)

abbrev map_form_in : MapForm → TypeDef → MapForm
map_form_in z (D.Map k k_at elem at form) = form
map_form_in z d = z

abbrev struct_in : StructDef → TypeDef → StructDef
struct_in z (D.Struct r) = r
struct_in z d = z

module _ (rows : List Row) (slot : Slot) (f : Value) (t : Data) (s : List ℕ) (new : Slot → Option Data) (d x u : Option Data) (made : represented alone rows slot f ≡ Some t) (parts : is_named (seen rows (slot, f)) ≡ true)
    (makes : PartBecomes (seen rows (slot, f)) s new d) (def : TypeDef) (known : form_of rows slot ≡ Some def) (r : LastChange)
  where
    abbrev pub Is : Holder → Type 0
    Is h = named_last (form_of rows slot) (represented alone rows) h s new u ≡ located r x u

    at_holder : (h : Holder) → seen rows (slot, f) ≡ h → (is_named h ≡ true → PartBecomes h s new d → Is h) → Is (seen rows (slot, f))
    at_holder h is given = subst Is (sym is) (given (subst (λ k. is_named k ≡ true) is parts) (subst (λ k. PartBecomes k s new d) is makes))

    nothing_named : (v : Value) → seen rows (slot, f) ≡ nothing v → Is (seen rows (slot, f))
    nothing_named v is = at_holder (nothing v) is (λ n m. never_true n)

    inside : (y : Data) → at_key s (option_and_then (value_at s) (members_in y)) d ≡ located r x u → is_named (any_holder y) ≡ true → PartBecomes (any_holder y) s new d → Is (any_holder y)
    inside (T.map ms) given n m = ap (at_key s (value_at s (members_list ms))) m ∙ given
    inside T.null given n m = never_true n
    inside (T.boolean b) given n m = never_true n
    inside (T.integer i) given n m = never_true n
    inside (T.text b) given n m = never_true n
    inside (T.bytes b) given n m = never_true n
    inside (T.list ds) given n m = never_true n
    inside (T.link b) given n m = never_true n

    pub any_named : def ≡ D.Any → at_key s (option_and_then (value_at s) (members_in t)) d ≡ located r x u → Is (seen rows (slot, f))
    any_named is given = by (held_by rows slot t def known f made) where
      by : Held rows def (seen rows (slot, f)) t → Is (seen rows (slot, f))
      by (of_any e h) = at_holder (any_holder t) h (inside t given)
      by (of_fields k os ds e h a b) = let wrong : D.Struct k ≡ D.Any = sym e ∙ is in absurd cc
      by (of_member j n v m y e h a b g) = let wrong : D.Union j ≡ D.Any = sym e ∙ is in absurd cc
      by (of_entries k k_at elem at form ps es e h a b) = let wrong : D.Map k k_at elem at form ≡ D.Any = sym e ∙ is in absurd cc
      by (of_elements elem at vs ds e h a b) = let wrong : D.List elem at ≡ D.Any = sym e ∙ is in absurd cc
      by (of_nothing v h) = nothing_named v h

    pub map_named : (k : TypeNo) (k_at : ℕ) (elem : Slot) (at : ℕ) (form : MapForm) (Holds : Data → Type 0) (after : Bool) → def ≡ D.Map k k_at elem at form → Holds t → after ≡ is_some d → IsShown d x
        → ChangesEntry Holds form s after r → Is (seen rows (slot, f))
    map_named k k_at elem at form Holds after is holds there shown given = by (held_by rows slot t def known f made) where
      by : Held rows def (seen rows (slot, f)) t → Is (seen rows (slot, f))
      by (of_entries l l_at el pl g ps es e h a b) =
          let same : g ≡ form = ap (map_form_in form) (sym e ∙ is) in
          let value : option_and_then (represented alone rows el) (value_at s ps) ≡ value_at s es = sym (each_pair-at (represented alone rows el) ps es s a) in
          let place : place_of s ps ≡ place_of s es = sym (place_same (represented alone rows el) s ps es a) in
          at_holder (entries l.0 el (is_paired g) ps) h (λ n m.
          ap (λ F. last_map F s (place_of s ps) (option_and_then (represented alone rows el) (value_at s ps)) (new el) u) (known ∙ ap Some e) ∙ (λ i. map_last (same i) s (place i) (value i) (m i) u)
          ∙ given es t d x u holds (ap (λ z. map_form alone z (L.map es)) (sym same) ∙ b) there shown)
      by (of_fields j os ds e h a b) = let wrong : D.Struct j ≡ D.Map k k_at elem at form = sym e ∙ is in absurd cc
      by (of_member j n v m y e h a b g) = let wrong : D.Union j ≡ D.Map k k_at elem at form = sym e ∙ is in absurd cc
      by (of_elements el pl vs ds e h a b) = let wrong : D.List el pl ≡ D.Map k k_at elem at form = sym e ∙ is in absurd cc
      by (of_any e h) = let wrong : D.Any ≡ D.Map k k_at elem at form = sym e ∙ is in absurd cc
      by (of_nothing v h) = nothing_named v h

    module _ (z : StructDef) (is : def ≡ D.Struct z) where
      field_is : (k : StructDef) (os : List (Option Value)) (ds : List (Option Data)) (g : Field) → def ≡ D.Struct k → (o : Option (List (Option Data))) → o ≡ Some ds → (p : Option Field) → p ≡ Some g → new g.slot ≡ d
          → struct_last k.form s k.fields ds g (field_data s k.fields ds) d u ≡ located r x u
          → option_map_or (λ ds. option_map_or (λ g. struct_last k.form s k.fields ds g (field_data s k.fields ds) (new g.slot) u) p unchanged) o unchanged ≡ located r x u
      field_is k os ds g e o o_is p p_is m given =
          (λ i. option_map_or (λ ds. option_map_or (λ g. struct_last k.form s k.fields ds g (field_data s k.fields ds) (new g.slot) u) (p_is i) unchanged) (o_is i) unchanged)
          ∙ ap (λ y. struct_last k.form s k.fields ds g (field_data s k.fields ds) y u) m ∙ given

      pub field_named_so : (clear : IsClear rows) (Holds : Data → Type 0) (New : Option Data → Type 0) (number : ℕ) → Some number ≡ part_named s def → Holds t → New d → IsShown d x → ChangesField Holds New z number r → Is (seen rows (slot, f))
      field_named_so clear Holds New number numbered holds new_is shown given = by (held_by rows slot t def known f made) where
        by : Held rows def (seen rows (slot, f)) t → Is (seen rows (slot, f))
        by (of_fields k os ds e h a b) =
            let same : k ≡ z = ap (struct_in z) (sym e ∙ is) in
            let changes : ChangesField Holds New k number r = subst (λ z. ChangesField Holds New z number r) (sym same) given in
            let form : form_of rows slot ≡ Some (D.Struct k) = known ∙ ap Some e in
            let at = sym (numbered ∙ ap (part_named s) e) in
            let g = numbered_named s 0 number k.fields at in
            let place : number ≡ 0 + field_place s k.fields = field_number s 0 number k.fields at in
            at_holder (fields k.fields os) h (λ n m.
            ap (λ F. last_struct F (represented alone rows) s os new u) form
            ∙ field_is k os ds g.0 e _ a _ g.1 (m g.0 g.1) (changes ds t s g.0 d x u holds b (clear.types (base rows slot.ty.0) (D.Struct k) form) g.1 (omega (arith, place)) new_is shown))
        by (of_any e h) = let wrong : D.Any ≡ D.Struct z = sym e ∙ is in absurd cc
        by (of_member j n v m y e h a b g) = let wrong : D.Union j ≡ D.Struct z = sym e ∙ is in absurd cc
        by (of_entries k k_at elem at form ps es e h a b) = let wrong : D.Map k k_at elem at form ≡ D.Struct z = sym e ∙ is in absurd cc
        by (of_elements elem at vs ds e h a b) = let wrong : D.List elem at ≡ D.Struct z = sym e ∙ is in absurd cc
        by (of_nothing v h) = nothing_named v h

      -- a name of no field
      pub no_field : None ≡ part_named s def → r ≡ C.Nothing → Is (seen rows (slot, f))
      no_field numbered nothing_is = by (held_by rows slot t def known f made) where
        by : Held rows def (seen rows (slot, f)) t → Is (seen rows (slot, f))
        by (of_fields k os ds e h a b) = at_holder (fields k.fields os) h (λ n m. ap (λ F. last_struct F (represented alone rows) s os new u) (known ∙ ap Some e) ∙ none (field_named s k.fields) refl) where
          none : (p : Option Field) → field_named s k.fields ≡ p → last_struct (Some (D.Struct k)) (represented alone rows) s os new u ≡ located r x u
          none None p_is =
              (λ i. option_map_or (λ ds. option_map_or (λ g. struct_last k.form s k.fields ds g (field_data s k.fields ds) (new g.slot) u) (p_is i) unchanged) (a i) unchanged) ∙ ap (λ c. located c x u) (sym nothing_is)
          none (Some g) p_is = absurd (field_counted s 0 k.fields g (sym (numbered ∙ ap (part_named s) e)) p_is)
        by (of_any e h) = let wrong : D.Any ≡ D.Struct z = sym e ∙ is in absurd cc
        by (of_member j n v m y e h a b g) = let wrong : D.Union j ≡ D.Struct z = sym e ∙ is in absurd cc
        by (of_entries k k_at elem at form ps es e h a b) = let wrong : D.Map k k_at elem at form ≡ D.Struct z = sym e ∙ is in absurd cc
        by (of_elements elem at vs ds e h a b) = let wrong : D.List elem at ≡ D.Struct z = sym e ∙ is in absurd cc
        by (of_nothing v h) = nothing_named v h

    pub union_named : (z : UnionDef) → def ≡ D.Union z → r ≡ C.Whole → Is (seen rows (slot, f))
    union_named z is whole_is = by (held_by rows slot t def known f made) where
      by : Held rows def (seen rows (slot, f)) t → Is (seen rows (slot, f))
      by (of_member j n v m y e h a b g) = at_holder (member j.members n v) h (λ n m. ap (λ c. located c x u) (sym whole_is))
      by (of_any e h) = let wrong : D.Any ≡ D.Union z = sym e ∙ is in absurd cc
      by (of_fields k os ds e h a b) = let wrong : D.Struct k ≡ D.Union z = sym e ∙ is in absurd cc
      by (of_entries k k_at elem at form ps es e h a b) = let wrong : D.Map k k_at elem at form ≡ D.Union z = sym e ∙ is in absurd cc
      by (of_elements elem at vs ds e h a b) = let wrong : D.List elem at ≡ D.Union z = sym e ∙ is in absurd cc
      by (of_nothing v h) = nothing_named v h

    -- no other holds parts with names
    pub none_named : (def ≡ D.Any → ⊥) → ((k : TypeNo) (k_at : ℕ) (elem : Slot) (at : ℕ) (form : MapForm) → def ≡ D.Map k k_at elem at form → ⊥) → ((z : StructDef) → def ≡ D.Struct z → ⊥) → ((z : UnionDef) → def ≡ D.Union z → ⊥)
        → Is (seen rows (slot, f))
    none_named no_any no_map no_struct no_union = by (held_by rows slot t def known f made) where
      by : Held rows def (seen rows (slot, f)) t → Is (seen rows (slot, f))
      by (of_member j n v m y e h a b g) = absurd (no_union j e)
      by (of_any e h) = absurd (no_any e)
      by (of_fields k os ds e h a b) = absurd (no_struct k e)
      by (of_entries k k_at elem at form ps es e h a b) = absurd (no_map k k_at elem at form e)
      by (of_elements elem at vs ds e h a b) = at_holder _ h (λ n m. never_true n)
      by (of_nothing v h) = nothing_named v h
