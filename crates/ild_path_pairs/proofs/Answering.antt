-- What is answered of a view of a struct or a map that stands as the text of its pairs.
use Rattle.std.proofs.Common.{◌≡◌, ◌+◌, ℕ, List, true, false, Option, Some, None, refl, sym, ◌∙◌, ap, subst, arith}
use Rattle.std.specs.Prelude.{option_map, Result}
use Rattle.std.specs.declared.alloc.AllocError.{AllocError}
use Rattle.std.proofs.lemmas.Option.{same_Some, none-some}
use Rattle.ild_data.specs.Data as T
use Rattle.ild_data.specs.Data.{Data}
use Rattle.ild_path_block.specs.Items.{are_pairs, is_pairs_map, is_pairs_struct}
use Rattle.ild_path_changes.specs.Places.{field_place}
use Rattle.ild_path_holder.specs.Along.{is_holder}
use Rattle.ild_path_pairs.proofs.Becoming.{map_becomes, new_entry, new_field, struct_becomes}
use Rattle.ild_path_pairs.specs.Becomes.{LetsBe, becoming_with, with_part}
use Rattle.ild_path_pairs.specs.Pairs.{MapGiven, StructGiven, Tells, TellsMapForm, TellsStructForm, entries_with}
use Rattle.ild_path_steps.proofs.Holding.{Held, held_by, of_any, of_elements, of_entries, of_fields, of_member, of_nothing}
use Rattle.ild_path_steps.proofs.Leading.{field_counted, field_number}
use Rattle.ild_schema.specs.Clear.{ClearMap, ClearStruct}
use Rattle.ild_schema.specs.Copies.{base}
use Rattle.ild_schema.specs.Delims.{HasDelims, MapDelims}
use Rattle.ild_schema.specs.Legible.{IsLegible}
use Rattle.ild_schema.specs.Parts.{part_named}
use Rattle.ild_schema.specs.Rules.{is_of}
use Rattle.ild_schema.specs.Slots.{form_of}
use Rattle.ild_schema.specs.Value.{Value}
use Rattle.ild_schema.specs.declared.def.Field.{Field}
use Rattle.ild_schema.specs.declared.def.MapForm.{MapForm}
use Rattle.ild_schema.specs.declared.def.MapForm.TheVariants as M
use Rattle.ild_schema.specs.declared.def.Scalar.{Scalar}
use Rattle.ild_schema.specs.declared.def.Scalar.TheVariants as C
use Rattle.ild_schema.specs.declared.def.StructDef.{StructDef}
use Rattle.ild_schema.specs.declared.def.StructForm.{StructForm}
use Rattle.ild_schema.specs.declared.def.StructForm.TheVariants as S
use Rattle.ild_schema.specs.declared.def.TypeDef.{TypeDef}
use Rattle.ild_schema.specs.declared.def.TypeDef.TheVariants as D
use Rattle.ild_schema.specs.declared.number.Slot.{Slot}
use Rattle.ild_schema.specs.declared.number.TypeNo.{TypeNo}
use Rattle.ild_schema.specs.declared.row.Row.{Row}
use Rattle.ild_struct.proofs.Splitting.{given_some}
use Rattle.ild_typed.specs.At.{seen}
use Rattle.ild_typed.specs.Composed.{map_form, struct_form}
use Rattle.ild_typed.specs.Hamt.{alone}
use Rattle.ild_typed.specs.Holder.{entries, fields, is_paired, nothing, value_of}
use Rattle.ild_typed.specs.Layer as L
use Rattle.ild_typed.specs.Represented.{represented}
use Rattle.ild_typed.specs.Segment.{set_field}
use Rattle.ild_typed.specs.Strings.{text_in}
use Rattle.ild_view.specs.Body.{is_placed}
use Rattle.ild_view.specs.View.{piece_in, piece_of, slot_of, table_of}
use Rattle.ild_view.specs.declared.body.Body.{Body}
use Rattle.ild_view.specs.declared.body.Body.TheVariants as B
use Rattle.ild_view.specs.declared.view.View.{View}

not_true : {A : Type 0} → false ≡ true → A
not_true e = absurd cc

-- ---- the delimiters are given

map_given_by : (form : MapForm) → ClearMap form → MapDelims form → MapGiven form
map_given_by M.Map clear given = tt
map_given_by M.ListPairs clear given = tt
map_given_by (M.StringPairs inner entry) clear given = (given_some inner clear, given_some entry given)
map_given_by (M.Hamt shape) clear given = tt

pub map_given : (rows : List Row) → IsLegible rows → (slot : Slot) (k : TypeNo) (k_at : ℕ) (elem : Slot) (at : ℕ) (form : MapForm) (def : TypeDef) → form_of rows slot ≡ Some def → def ≡ D.Map k k_at elem at form → MapGiven form
map_given rows legible slot k k_at elem at form def known is =
    let d = D.Map k k_at elem at form in
    let there : form_of rows slot ≡ Some d = known ∙ ap Some is in
    map_given_by form (legible.clear.types (base rows slot.ty.0) d there) (legible.delims (base rows slot.ty.0) d there)

struct_given_by : (form : StructForm) (fs : List Field) → ClearStruct form fs → HasDelims form fs → StructGiven form
struct_given_by S.Map fs clear given = tt
struct_given_by S.Tuple fs clear given = tt
struct_given_by S.ListPairs fs clear given = tt
struct_given_by (S.StringPairs inner entry) fs clear given = (given_some inner clear.1, given_some entry given)
struct_given_by (S.StringJoin delim) fs clear given = tt

pub struct_given : (rows : List Row) → IsLegible rows → (slot : Slot) (z : StructDef) (def : TypeDef) → form_of rows slot ≡ Some def → def ≡ D.Struct z → StructGiven z.form
struct_given rows legible slot z def known is =
    let there : form_of rows slot ≡ Some (D.Struct z) = known ∙ ap Some is in
    struct_given_by z.form z.fields (legible.clear.types (base rows slot.ty.0) (D.Struct z) there) (legible.delims (base rows slot.ty.0) (D.Struct z) there)

-- ---- the data are a text

pub text_same : (t : Data) (j s : List ℕ) → t ≡ T.text j → Some s ≡ text_in t → t ≡ T.text s
text_same t j s is e = is ∙ ap T.text (sym (same_Some s j (e ∙ ap text_in is)))

pub no_text : {A : Type 0} (t : Data) (j : List ℕ) → t ≡ T.text j → None ≡ text_in t → A
no_text t j is e = absurd (none-some j (e ∙ ap text_in is))

-- a block does not leave out what is no scalar
no_pairs : (c : Scalar) (F : Option TypeDef) → is_of c F ≡ true → are_pairs F ≡ true → ⊥
no_pairs c None is pairs = not_true pairs
no_pairs c (Some (D.Map k k_at elem at form)) is pairs = by c is where
  by : (c : Scalar) → is_of c (Some (D.Map k k_at elem at form)) ≡ true → ⊥
  by (C.Bool b) e = not_true e
  by (C.Int n) e = not_true e
  by (C.Text x) e = not_true e
no_pairs c (Some (D.Struct z)) is pairs = by c is where
  by : (c : Scalar) → is_of c (Some (D.Struct z)) ≡ true → ⊥
  by (C.Bool b) e = not_true e
  by (C.Int n) e = not_true e
  by (C.Text x) e = not_true e
no_pairs c (Some d) is pairs = not_true pairs

pub has_piece : {A : Type 0} (v : View) → are_pairs (form_of (table_of v) (slot_of v)) ≡ true → None ≡ piece_of v → A
has_piece {A = A} v pairs e = by v.body v.placed e where
  by : (b : Body) → is_placed (table_of v) (slot_of v) b ≡ true → None ≡ piece_in b → A
  by (B.Held p) placed e = absurd (none-some p e)
  by (B.Implicit c) placed e = absurd (no_pairs c.now (form_of (table_of v) (slot_of v)) placed pairs)

-- ---- the answer

abbrev map_form_in : MapForm → TypeDef → MapForm
map_form_in z (D.Map k k_at elem at form) = form
map_form_in z d = z

abbrev struct_in : StructDef → TypeDef → StructDef
struct_in z (D.Struct r) = r
struct_in z d = z

module _ (rows : List Row) (slot : Slot) (f : Value) (o : Option Value) (new : Option (List ℕ)) (t : Data) (s : List ℕ) (r : Result (Option (List ℕ)) AllocError) (made : represented alone rows slot f ≡ Some t) (holder : is_holder (seen rows (slot, f)) ≡ true)
    (lets : LetsBe rows (seen rows (slot, f)) s o (option_map T.text new)) (def : TypeDef) (known : form_of rows slot ≡ Some def) (pairs : are_pairs (form_of rows slot) ≡ true)
  where
    abbrev pub Is : Type 0
    Is = Tells (becoming_with rows (slot, f) s o) r

    abbrev d : Option Data
    d = option_map T.text new

    told_so : (u : Option Data) → becoming_with rows (slot, f) s o ≡ u → Tells u r → Is
    told_so u is told = subst (λ x. Tells x r) (sym is) told

    of_none : (v : Value) → seen rows (slot, f) ≡ nothing v → Is
    of_none v h = not_true (sym (ap is_holder h) ∙ holder)

    paired_is : (form : MapForm) → is_pairs_map form ≡ true → is_paired form ≡ true
    paired_is M.Map p = not_true p
    paired_is M.ListPairs p = not_true p
    paired_is (M.StringPairs inner entry) p = refl
    paired_is (M.Hamt shape) p = not_true p

    pub map_answers : (k : TypeNo) (k_at : ℕ) (elem : Slot) (at : ℕ) (form : MapForm) (text : List ℕ) → def ≡ D.Map k k_at elem at form → t ≡ T.text text → TellsMapForm form text s new r → Is
    map_answers k k_at elem at form text is text_is all = by (held_by rows slot t def known f made) where
      by : Held rows def (seen rows (slot, f)) t → Is
      by (of_entries l l_at el pl g ps es e h a b) =
          let same : g ≡ form = ap (map_form_in form) (sym e ∙ is) in
          let form_is : form_of rows slot ≡ Some (D.Map l l_at el pl g) = known ∙ ap Some e in
          let paired : is_pairs_map g ≡ true = sym (ap are_pairs form_is) ∙ pairs in
          let held : seen rows (slot, f) ≡ entries l.0 el true ps = h ∙ ap (λ p. entries l.0 el p ps) (paired_is g paired) in
          let n = new_entry rows o d l.0 el ps s (subst (λ k. LetsBe rows k s o d) held lets) in
          let becomes : becoming_with rows (slot, f) s o ≡ map_form alone g (L.map (entries_with s d es)) =
          ap (λ k. represented alone rows slot (value_of (with_part k s o))) held ∙ ap (λ k. represented alone rows slot (value_of k)) n.made ∙ map_becomes rows slot l l_at el pl g ps es s o d form_is a n.part_is in
          let told : TellsMapForm g text s new r = subst (λ m. TellsMapForm m text s new r) (sym same) all in
          told_so (map_form alone g (L.map (entries_with s d es))) becomes (told es paired (b ∙ ap Some text_is))
      by (of_fields j os ds e h a b) = let wrong : D.Struct j ≡ D.Map k k_at elem at form = sym e ∙ is in absurd cc
      by (of_member j n v m y e h a b g) = let wrong : D.Union j ≡ D.Map k k_at elem at form = sym e ∙ is in absurd cc
      by (of_elements el pl vs ds e h a b) = let wrong : D.List el pl ≡ D.Map k k_at elem at form = sym e ∙ is in absurd cc
      by (of_any e h) = let wrong : D.Any ≡ D.Map k k_at elem at form = sym e ∙ is in absurd cc
      by (of_nothing v h) = of_none v h

    module _ (z : StructDef) (is : def ≡ D.Struct z) where
      of_struct : ((os : List (Option Value)) → seen rows (slot, f) ≡ fields z.fields os → Is) → Held rows def (seen rows (slot, f)) t → Is
      of_struct all (of_fields k os ds e h a b) = all os (h ∙ ap (λ j. fields j.fields os) (ap (struct_in z) (sym e ∙ is)))
      of_struct all (of_any e h) = let wrong : D.Any ≡ D.Struct z = sym e ∙ is in absurd cc
      of_struct all (of_member j n v m y e h a b g) = let wrong : D.Union j ≡ D.Struct z = sym e ∙ is in absurd cc
      of_struct all (of_entries k k_at elem at form ps es e h a b) = let wrong : D.Map k k_at elem at form ≡ D.Struct z = sym e ∙ is in absurd cc
      of_struct all (of_elements elem at vs ds e h a b) = let wrong : D.List elem at ≡ D.Struct z = sym e ∙ is in absurd cc
      of_struct all (of_nothing v h) = of_none v h

      pub struct_answers : IsLegible rows → (number : ℕ) (text : List ℕ) → Some number ≡ part_named s def → t ≡ T.text text → TellsStructForm z text number new r → Is
      struct_answers legible number text numbered text_is all = by (held_by rows slot t def known f made) where
        by : Held rows def (seen rows (slot, f)) t → Is
        by (of_fields k os ds e h a b) =
            let same : k ≡ z = ap (struct_in z) (sym e ∙ is) in
            let form : form_of rows slot ≡ Some (D.Struct k) = known ∙ ap Some e in
            let paired : is_pairs_struct k.form ≡ true = sym (ap are_pairs form) ∙ pairs in
            let n = new_field rows o d k.fields os s (subst (λ j. LetsBe rows j s o d) h lets) in
            let place : number ≡ 0 + field_place s k.fields = field_number s 0 number k.fields (sym (numbered ∙ ap (part_named s) e)) in
            let becomes : becoming_with rows (slot, f) s o ≡ struct_form k.form k.fields (set_field s d k.fields ds) =
            ap (λ j. represented alone rows slot (value_of (with_part j s o))) h ∙ ap (λ j. represented alone rows slot (value_of j)) n.made ∙ struct_becomes rows slot k os ds s n.field o d form a n.named n.part_is in
            let told : TellsStructForm k text number new r = subst (λ j. TellsStructForm j text number new r) (sym same) all in
            told_so (struct_form k.form k.fields (set_field s d k.fields ds)) becomes
            (told ds s n.field paired (b ∙ ap Some text_is) (legible.clear.types (base rows slot.ty.0) (D.Struct k) form) n.named (omega (arith, place)) (λ e. n.gone (ap (option_map T.text) e)))
        by (of_any e h) = let wrong : D.Any ≡ D.Struct z = sym e ∙ is in absurd cc
        by (of_member j n v m y e h a b g) = let wrong : D.Union j ≡ D.Struct z = sym e ∙ is in absurd cc
        by (of_entries k k_at elem at form ps es e h a b) = let wrong : D.Map k k_at elem at form ≡ D.Struct z = sym e ∙ is in absurd cc
        by (of_elements elem at vs ds e h a b) = let wrong : D.List elem at ≡ D.Struct z = sym e ∙ is in absurd cc
        by (of_nothing v h) = of_none v h

      pub no_field : None ≡ part_named s def → Is
      no_field numbered = of_struct by (held_by rows slot t def known f made) where
        by : (os : List (Option Value)) → seen rows (slot, f) ≡ fields z.fields os → Is
        by os h =
            let n = new_field rows o d z.fields os s (subst (λ j. LetsBe rows j s o d) h lets) in
            absurd (field_counted s 0 z.fields n.field (sym (numbered ∙ ap (part_named s) is)) n.named)
