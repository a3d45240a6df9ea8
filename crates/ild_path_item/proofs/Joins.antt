-- What a struct becomes that stands as the text of its fields, where one field is set or goes.
use Rattle.std.proofs.Common.{◌≡◌, ◌<◌, ℕ, zero, suc, Bool, true, false, List, [], ◌∷◌, length, cond, Option, Some, None, refl, sym, ◌∙◌, ap, subst, arith}
use Rattle.std.specs.Prelude.{Err, IfOk, Ok, Result, option_and_then, option_map, slice_set}
use Rattle.std.specs.declared.alloc.AllocError.{AllocError}
use Rattle.std.proofs.lemmas.Option.{none-some}
use Rattle.ild_typed.proofs.Structs.{all_count}
use Rattle.ild_typed.proofs.CleanStructs.{texts_count}
use Rattle.ild_data.proofs.Options.{chain_some, map_some}
use Rattle.ild_data.specs.Data as T
use Rattle.ild_data.specs.Data.{Data}
use Rattle.ild_data.specs.Key.{same_text}
use Rattle.ild_path_changes.proofs.Each.{joined}
use Rattle.ild_path_changes.proofs.Last.{each_field-gone}
use Rattle.ild_path_changes.proofs.LastLifting.{declared_field, named_to_go}
use Rattle.ild_path_changes.proofs.Lifting.{each_field-set}
use Rattle.ild_path_changes.specs.Places.{each_field, field_named, field_place}
use Rattle.ild_path_edits.specs.Table.{refusal_to_delete, slot_to_set}
use Rattle.ild_path_holder.specs.Along.{is_holder}
use Rattle.ild_path_item.proofs.Changing.{data_in, with_data}
use Rattle.ild_path_item.specs.inside.Rewrites.{TellsJoined, joined_with}
use Rattle.ild_path_item.specs.Texts.{LetsBe, Tells, becoming_with, with_part}
use Rattle.ild_path_steps.proofs.Holding.{Held, held_by, of_any, of_elements, of_entries, of_fields, of_member, of_nothing}
use Rattle.ild_path_steps.proofs.Leading.{field_counted, field_number}
use Rattle.ild_schema.specs.Delims.{HasDelims}
use Rattle.ild_schema.specs.Parts.{part_named}
use Rattle.ild_schema.specs.Slots.{form_of}
use Rattle.ild_schema.specs.Value.{Value}
use Rattle.ild_schema.specs.declared.def.Field.{Field}
use Rattle.ild_schema.specs.declared.def.StructDef.{StructDef}
use Rattle.ild_schema.specs.declared.def.StructForm.{StructForm}
use Rattle.ild_schema.specs.declared.def.StructForm.TheVariants as S
use Rattle.ild_schema.specs.declared.def.TypeDef.{TypeDef}
use Rattle.ild_schema.specs.declared.def.TypeDef.TheVariants as D
use Rattle.ild_schema.specs.declared.number.Slot.{Slot}
use Rattle.ild_schema.specs.declared.row.Row.{Row}
use Rattle.ild_typed.specs.At.{InSlot, seen}
use Rattle.ild_typed.specs.Composed.{struct_form}
use Rattle.ild_typed.specs.Fields.{all_items}
use Rattle.ild_typed.specs.Hamt.{alone}
use Rattle.ild_typed.specs.Holder.{fields}
use Rattle.ild_typed.specs.Layer as L
use Rattle.ild_typed.specs.Represented.{layered, represented}
use Rattle.ild_typed.specs.Segment.{set_field, set_part}
use Rattle.ild_typed.specs.Strings.{cons_both, stringjoin, text_in, texts_in}
use Rattle.ild_typed.specs.Texts.{join}

-- ---- the fields' data, where one is set

later : (ys : List Data) (d : Data) (n : ℕ) (x : Option Data) → option_map (λ zs. d ∷ zs) (option_map (λ e. slice_set ys n e) x) ≡ option_map (λ e. slice_set (d ∷ ys) (suc n) e) x
later ys d n None = refl
later ys d n (Some e) = refl

here : (f : Field) (fs : List Field) (os : List (Option Data)) (ys : List Data) (d : Data) (x : Option Data) → all_items fs os ≡ Some ys → all_items (f ∷ fs) (x ∷ os) ≡ option_map (λ e. slice_set (d ∷ ys) 0 e) x
here f fs os ys d None h = refl
here f fs os ys d (Some e) h = ap (option_map (λ zs. e ∷ zs)) h

set_at : (s : List ℕ) (f g : Field) (fs : List Field) (os : List (Option Data)) (ys : List Data) (d : Data) (x : Option Data) (b : Bool) → cond b (Some f) (field_named s fs) ≡ Some g → all_items fs os ≡ Some ys
    → (field_named s fs ≡ Some g → all_items fs (set_field s x fs os) ≡ option_map (λ e. slice_set ys (field_place s fs) e) x)
    → all_items (f ∷ fs) (cond b (x ∷ os) (Some d ∷ set_field s x fs os)) ≡ option_map (λ e. slice_set (d ∷ ys) (cond b 0 (suc (field_place s fs))) e) x
set_at s f g fs os ys d x true named h rest = here f fs os ys d x h
set_at s f g fs os ys d x false named h rest = ap (option_map (λ zs. d ∷ zs)) (rest named) ∙ later ys d (field_place s fs) x

items_set : (s : List ℕ) (g : Field) (x : Option Data) (fs : List Field) (ds : List (Option Data)) (xs : List Data) → field_named s fs ≡ Some g → all_items fs ds ≡ Some xs
    → all_items fs (set_field s x fs ds) ≡ option_map (λ e. slice_set xs (field_place s fs) e) x
items_set s g x [] ds xs named h = absurd (none-some g named)
items_set s g x (f ∷ fs) [] xs named h = absurd (none-some xs h)
items_set s g x (f ∷ fs) (None ∷ os) xs named h = absurd (none-some xs h)
items_set s g x (f ∷ fs) (Some d ∷ os) xs named h =
    let y = map_some (λ zs. d ∷ zs) (all_items fs os) xs h in
    subst (λ zs. all_items (f ∷ fs) (set_field s x (f ∷ fs) (Some d ∷ os)) ≡ option_map (λ e. slice_set zs (field_place s (f ∷ fs)) e) x) y.2
    (set_at s f g fs os y.0 d x (same_text s f.name) named y.1 (λ e. items_set s g x fs os y.0 e y.1))

-- ---- their texts

first_text : (p : List ℕ) (ps : List (List ℕ)) (o : Option (List ℕ)) → cons_both o (Some ps) ≡ option_map (λ t. slice_set (p ∷ ps) 0 t) o
first_text p ps None = refl
first_text p ps (Some t) = refl

later_text : (p : List ℕ) (ps : List (List ℕ)) (n : ℕ) (o : Option (List ℕ)) → cons_both (Some p) (option_map (λ t. slice_set ps n t) o) ≡ option_map (λ t. slice_set (p ∷ ps) (suc n) t) o
later_text p ps n None = refl
later_text p ps n (Some t) = refl

texts_set : (xs : List Data) (ps : List (List ℕ)) (n : ℕ) (d : Data) → texts_in xs ≡ Some ps → n < length xs → texts_in (slice_set xs n d) ≡ option_map (λ t. slice_set ps n t) (text_in d)
texts_set [] ps n d h less = absurd (omega (arith, less))
texts_set (x ∷ xs) ps zero d h less =
    let j = joined (text_in x) (texts_in xs) ps h in
    subst (λ zs. cons_both (text_in d) (texts_in xs) ≡ option_map (λ t. slice_set zs 0 t) (text_in d)) j.whole (ap (cons_both (text_in d)) j.is_rest ∙ first_text j.first j.rest (text_in d))
texts_set (x ∷ xs) ps (suc n) d h less =
    let j = joined (text_in x) (texts_in xs) ps h in
    subst (λ zs. cons_both (text_in x) (texts_in (slice_set xs n d)) ≡ option_map (λ t. slice_set zs (suc n) t) (text_in d)) j.whole
    ((λ i. cons_both (j.is_first i) (texts_set xs j.rest n d j.is_rest (omega (arith, less)) i)) ∙ later_text j.first j.rest n (text_in d))

-- ---- the text of them all

joined_by : (delim : List ℕ) (ps : List (List ℕ)) (n : ℕ) (o : Option (List ℕ)) → option_map T.text (option_and_then (join delim) (option_map (λ t. slice_set ps n t) o)) ≡ joined_with delim ps n o
joined_by delim ps n None = refl
joined_by delim ps n (Some t) = refl

join_set : (delim : List ℕ) (xs : List Data) (ps : List (List ℕ)) (n : ℕ) (x : Option Data) → texts_in xs ≡ Some ps → n < length xs → option_and_then (stringjoin delim) (option_map (λ e. slice_set xs n e) x) ≡ joined_with delim ps n (option_and_then text_in x)
join_set delim xs ps n None h less = refl
join_set delim xs ps n (Some d) h less = ap (λ o. option_map T.text (option_and_then (join delim) o)) (texts_set xs ps n d h less) ∙ joined_by delim ps n (text_in d)

-- its delimiter is given
pub given : (form : StructForm) (fs : List Field) (delim : List ℕ) → form ≡ S.StringJoin delim → HasDelims form fs → 0 < length delim
given form fs delim is h = by fs delim (subst (λ z. HasDelims z fs) is h) where
  by : (fs : List Field) (delim : List ℕ) → HasDelims (S.StringJoin delim) fs → 0 < length delim
  by [] delim h = absurd h
  by (f ∷ fs) [] h = absurd h
  by (f ∷ fs) (c ∷ cs) h = omega arith

-- a text that is told, as data
pub as_data : (o : Option (List ℕ)) (r : Result (Option (List ℕ)) AllocError) → IfOk r (λ t. t ≡ o) → Tells (option_map T.text o) r
as_data o (Ok t) h = ap (option_map T.text) h
as_data o (Err e) h = h

text_back : (o : Option (List ℕ)) → option_and_then text_in (option_map T.text o) ≡ o
text_back None = refl
text_back (Some t) = refl

-- the parts of the text, and that of the field
pub record Becomes (rows : List Row) (o : Option Value) (new : Option (List ℕ)) (q : InSlot) (s : List ℕ) (r : StructDef) (delim : List ℕ) (n : ℕ) (t : Data) : Type 0 where
  pub old : List ℕ
  pub parts : List (List ℕ)
  pub text : t ≡ T.text old
  pub whole : join delim parts ≡ Some old
  pub count : length parts ≡ length r.fields
  pub is : becoming_with rows q s o ≡ joined_with delim parts n new

module _ (rows : List Row) (q : InSlot) (s : List ℕ) (r : StructDef) (delim : List ℕ) (n : ℕ) (t : Data) (known : form_of rows q.0 ≡ Some (D.Struct r)) (form : r.form ≡ S.StringJoin delim) (numbered : Some n ≡ part_named s (D.Struct r)) (less : n < length r.fields) where
  abbrev rep : Slot → Value → Option Data
  rep = represented alone rows

  place : n ≡ field_place s r.fields
  place = let e = field_number s 0 n r.fields (sym numbered) in omega (arith, e)

  module _ (os : List (Option Value)) (ds : List (Option Data)) (is : seen rows q ≡ fields r.fields os) (each : each_field rep r.fields os ≡ Some ds) (made : struct_form r.form r.fields ds ≡ Some t) where
    -- with a text for the field, or without one
    with_field : (o : Option Value) (new : Option (List ℕ)) (g : Field) → with_part (seen rows q) s o ≡ fields r.fields (set_field s o r.fields os) → field_named s r.fields ≡ Some g
        → each_field rep r.fields (set_field s o r.fields os) ≡ Some (set_field s (option_map T.text new) r.fields ds) → Becomes rows o new q s r delim n t
    with_field o new g to named each_new =
        let x : Option Data = option_map T.text new in
        let a = chain_some (stringjoin delim) (all_items r.fields ds) t (ap (λ z. struct_form z r.fields ds) (sym form) ∙ made) in
        let b = map_some T.text (option_and_then (join delim) (texts_in a.0)) t a.2 in
        let c = chain_some (join delim) (texts_in a.0) b.0 b.1 in
        let long = all_count r.fields ds a.0 a.1 in
        record {
          old = b.0;
          parts = c.0;
          text = sym b.2;
          whole = c.2;
          count = texts_count a.0 c.0 c.1 ∙ long;
          is = with_data rows q s o ∙ ap (data_in rows q s) to
              ∙ (λ i. option_and_then (λ zs. layered alone (known i) (Some (L.struct zs))) (each_new i))
              ∙ ap (λ z. struct_form z r.fields (set_field s x r.fields ds)) form
              ∙ ap (option_and_then (stringjoin delim)) (items_set s g x r.fields ds a.0 named a.1 ∙ ap (λ m. option_map (λ e. slice_set a.0 m e) x) (sym place))
              ∙ join_set delim a.0 c.0 n x c.1 (omega (arith, less, long))
              ∙ ap (joined_with delim c.0 n) (text_back new);
        }

    by_part : (o : Option Value) (new : Option (List ℕ)) → LetsBe rows (seen rows q) s o (option_map T.text new) → Becomes rows o new q s r delim n t
    by_part None (Some x) h = absurd h
    by_part (Some w) None h = absurd h
    by_part None None h =
        let g = named_to_go s r.fields os (sym (ap (λ h. refusal_to_delete h s) is) ∙ h) in
        with_field None None g.0 (ap (λ h. with_part h s None) is) g.1 (each_field-gone rep s r.fields os ds each)
    by_part (Some w) (Some x) h =
        let y = declared_field s r.fields os h.0 (sym (ap (λ h. slot_to_set h s) is) ∙ h.1) in
        let g = y.declared in
        with_field (Some w) (Some x) g (ap (λ h. set_part h s w) is) y.named (each_field-set rep s w (T.text x) r.fields os ds g each y.named (ap (λ z. rep z w) y.in_slot ∙ h.2))

  abbrev struct_in : TypeDef → StructDef
  struct_in (D.Struct k) = k
  struct_in d = r

  pub field_becomes : (o : Option Value) (new : Option (List ℕ)) → represented alone rows q.0 q.1 ≡ Some t → is_holder (seen rows q) ≡ true → LetsBe rows (seen rows q) s o (option_map T.text new) → Becomes rows o new q s r delim n t
  field_becomes o new made holds h = by (held_by rows q.0 t (D.Struct r) known q.1 made) where
    by : Held rows (D.Struct r) (seen rows q) t → Becomes rows o new q s r delim n t
    by (of_fields k os ds e z a b) =
        let same : k ≡ r = sym (ap struct_in e) in
        by_part os ds (z ∙ ap (λ k. fields k.fields os) same) (subst (λ k. each_field rep k.fields os ≡ Some ds) same a) (subst (λ k. struct_form k.form k.fields ds ≡ Some t) same b) o new h
    by (of_member j m v k y e z a b g) = absurd cc
    by (of_any e k) = absurd cc
    by (of_entries l l_at el pl form ps es e k a b) = absurd cc
    by (of_elements el pl vs ds e k a b) = absurd cc
    by (of_nothing v k) = let wrong : false ≡ true = sym (ap is_holder k) ∙ holds in absurd cc

-- a field that becomes a text, or goes, has a name
pub field_there : (rows : List Row) (q : InSlot) (s : List ℕ) (r : StructDef) (t : Data) → form_of rows q.0 ≡ Some (D.Struct r) → (o : Option Value) (d : Option Data) → represented alone rows q.0 q.1 ≡ Some t → is_holder (seen rows q) ≡ true
    → LetsBe rows (seen rows q) s o d → None ≡ part_named s (D.Struct r) → ⊥
field_there rows q s r t known o d made holds h none = by (held_by rows q.0 t (D.Struct r) known q.1 made) where
  named : (o : Option Value) (d : Option Data) (os : List (Option Value)) → seen rows q ≡ fields r.fields os → LetsBe rows (seen rows q) s o d → (g : Field) × (field_named s r.fields ≡ Some g)
  named None None os is h = named_to_go s r.fields os (sym (ap (λ h. refusal_to_delete h s) is) ∙ h)
  named None (Some x) os is h = absurd h
  named (Some w) None os is h = absurd h
  named (Some w) (Some x) os is h = let y = declared_field s r.fields os h.0 (sym (ap (λ h. slot_to_set h s) is) ∙ h.1) in (y.declared, y.named)

  struct_at : TypeDef → StructDef
  struct_at (D.Struct k) = k
  struct_at d = r

  by : Held rows (D.Struct r) (seen rows q) t → ⊥
  by (of_fields k os ds e z a b) = let g = named o d os (z ∙ ap (λ d. fields (struct_at d).fields os) (sym e)) h in field_counted s 0 r.fields g.0 (sym none) g.1
  by (of_member j m v k y e z a b g) = absurd cc
  by (of_any e k) = absurd cc
  by (of_entries l l_at el pl form ps es e k a b) = absurd cc
  by (of_elements el pl vs ds e k a b) = absurd cc
  by (of_nothing v k) = let wrong : false ≡ true = sym (ap is_holder k) ∙ holds in absurd cc

-- from the parts to the answer
pub joined_told : (rows : List Row) (o : Option Value) (new : Option (List ℕ)) (q : InSlot) (s : List ℕ) (r : StructDef) (delim : List ℕ) (n count : ℕ) (t : Data) (a : Result (Option (List ℕ)) AllocError) (x : Becomes rows o new q s r delim n t) → count ≡ length r.fields → n < length r.fields
    → TellsJoined delim x.old count n new a → Tells (becoming_with rows q s o) a
joined_told rows o new q s r delim n count t a x counted less all = subst (λ u. Tells u a) (sym x.is) (all x.parts x.whole (x.count ∙ sym counted) (subst (λ m. n < m) (sym counted) less))
