-- The parts of a text are texts, so that an edit of one brings a text, or takes it away.
use Rattle.std.proofs.Common.{◌≡◌, ℕ, Bool, true, false, List, [], ◌∷◌, cond, Option, Some, None, refl, sym, ◌∙◌, ap, subst}
use Rattle.std.specs.List.{AllByRecursion}
use Rattle.std.specs.Prelude.{option_and_then, option_map}
use Rattle.std.proofs.lemmas.Option.{none-some, same_Some}
use Rattle.ild_cbor.specs.Nodes.{HasData}
use Rattle.ild_cbor.specs.Scalar.{text_of}
use Rattle.ild_cbor.specs.declared.node.Node.{Node}
use Rattle.ild_data.proofs.Options.{chain_some, map_some}
use Rattle.ild_data.specs.Data as T
use Rattle.ild_data.specs.Data.{Data}
use Rattle.ild_data.specs.Key.{same_text}
use Rattle.ild_path_block.specs.Changes.{Allows, in_last, node_of}
use Rattle.ild_path_block.specs.Items.{is_pairs_map, is_text_struct}
use Rattle.ild_path_block.specs.declared.edit.PartEdit.{PartEdit}
use Rattle.ild_path_block.specs.declared.edit.PartEdit.TheVariants as E
use Rattle.ild_path_changes.proofs.LastLifting.{declared_field}
use Rattle.ild_path_changes.specs.Places.{field_named}
use Rattle.ild_path_edits.specs.Table.{slot_to_set}
use Rattle.ild_path_holder.specs.Along.{is_holder}
use Rattle.ild_path_item.proofs.Verbs.{as_set, is_list}
use Rattle.ild_path_item.specs.Texts.{LetsBe, is_text_form, with_part}
use Rattle.ild_path_last.specs.Change.{NewIs}
use Rattle.ild_path_steps.proofs.Holding.{Held, of_any, of_elements, of_entries, of_fields, of_member, of_nothing}
use Rattle.ild_schema.specs.Copies.{base}
use Rattle.ild_schema.specs.DataKinds.{kind_in, slot_has}
use Rattle.ild_schema.specs.Legible.{IsLegible}
use Rattle.ild_schema.specs.Made.{IsTextSlot, MadeMap, MadeStruct}
use Rattle.ild_schema.specs.Slots.{form_of}
use Rattle.ild_schema.specs.Value.{Value}
use Rattle.ild_schema.specs.declared.def.Field.{Field}
use Rattle.ild_schema.specs.declared.def.KindWord.TheVariants as K
use Rattle.ild_schema.specs.declared.def.MapForm.{MapForm}
use Rattle.ild_schema.specs.declared.def.MapForm.TheVariants as M
use Rattle.ild_schema.specs.declared.def.StructForm.{StructForm}
use Rattle.ild_schema.specs.declared.def.StructForm.TheVariants as S
use Rattle.ild_schema.specs.declared.def.TypeDef.{TypeDef}
use Rattle.ild_schema.specs.declared.def.TypeDef.TheVariants as D
use Rattle.ild_schema.specs.declared.number.Slot.{Slot}
use Rattle.ild_schema.specs.declared.row.Row.{Row}
use Rattle.ild_typed.proofs.OfKinds.{alone_kind, composed_kind}
use Rattle.ild_typed.proofs.OneValue.{Way, as_layer, as_null, way_of}
use Rattle.ild_typed.specs.At.{InSlot, seen}
use Rattle.ild_typed.specs.Composed.{map_form, struct_form}
use Rattle.ild_typed.specs.Fields.{all_items, field_entries}
use Rattle.ild_typed.specs.Hamt.{alone}
use Rattle.ild_typed.specs.Kinds.{kind_word_of}
use Rattle.ild_typed.specs.Layer as L
use Rattle.ild_typed.specs.Represented.{represented}
use Rattle.ild_typed.specs.Strings.{stringjoin, stringpairs, text_pairs, texts_in}
use Rattle.ild_typed.specs.Texts.{join, join_pairs}

never : {A : Type 0} → false ≡ true → A
never e = absurd cc

-- ---- data of text form

text_of_kind : (d : Data) → kind_word_of d ≡ K.Text → (j : List ℕ) × (d ≡ T.text j)
text_of_kind (T.text s) e = (s, refl)
text_of_kind T.null e = absurd cc
text_of_kind (T.boolean b) e = absurd cc
text_of_kind (T.integer n) e = absurd cc
text_of_kind (T.bytes s) e = absurd cc
text_of_kind (T.list ds) e = absurd cc
text_of_kind (T.map ms) e = absurd cc
text_of_kind (T.link s) e = absurd cc

pub text_slot : (rows : List Row) (slot : Slot) (v : Value) (t : Data) → IsTextSlot rows slot → represented alone rows slot v ≡ Some t → (j : List ℕ) × (t ≡ T.text j)
text_slot rows slot v t text made = text_of_kind t (text.only (kind_word_of t) (by (way_of alone rows slot v t made))) where
  by : Way alone rows slot v t → slot_has rows slot (kind_word_of t) ≡ true
  by (as_null v_null nullable is_null) = never (sym text.plain ∙ nullable)
  by (as_layer d l is there done) = ap (λ o. kind_in o (kind_word_of t)) is ∙ composed_kind alone alone_kind d l t done

-- ---- the slots of a text's parts

named_all : (P : Field → Type 0) (s : List ℕ) (fs : List Field) (g : Field) → AllByRecursion P fs → field_named s fs ≡ Some g → P g
named_all P s [] g all e = absurd (none-some g e)
named_all P s (f ∷ fs) g all e = by (same_text s f.name) e (λ k. named_all P s fs g all.1 k) where
  by : (b : Bool) → cond b (Some f) (field_named s fs) ≡ Some g → (field_named s fs ≡ Some g → P g) → P g
  by true k rest = subst P (same_Some f g k) all.0
  by false k rest = rest k

struct_slot : (rows : List Row) (form : StructForm) (fs : List Field) (s : List ℕ) (g : Field) → is_text_struct form ≡ true → MadeStruct rows form fs → field_named s fs ≡ Some g → IsTextSlot rows g.slot
struct_slot rows S.Map fs s g text made named = never text
struct_slot rows S.Tuple fs s g text made named = never text
struct_slot rows S.ListPairs fs s g text made named = never text
struct_slot rows (S.StringPairs inner entry) fs s g text made named = named_all (λ f. IsTextSlot rows f.slot) s fs g made named
struct_slot rows (S.StringJoin delim) fs s g text made named = (named_all (λ f. IsTextSlot rows f.slot × (f.optional ≡ false)) s fs g made named).0

map_slot : (rows : List Row) (form : MapForm) (elem : Slot) → is_pairs_map form ≡ true → MadeMap rows form elem → IsTextSlot rows elem
map_slot rows M.Map elem text made = never text
map_slot rows M.ListPairs elem text made = never text
map_slot rows (M.StringPairs inner entry) elem text made = made
map_slot rows (M.Hamt shape) elem text made = never text

-- ---- the node of a part, which is a text

pub no_part : (n : Node) (o : Option Node) (t : Option (List ℕ)) → o ≡ Some n → NewIs o (option_map T.text t) → ((x : Data) → HasData n x → None ≡ text_of x) → ⊥
no_part n None t e new is = none-some n e
no_part n (Some m) None e new is = absurd new
no_part n (Some m) (Some s) e new is = none-some s (is (T.text s) (subst (λ k. HasData k (T.text s)) (same_Some m n e) new))

pub part_is : (n : Node) (o : Option Node) (t : Option (List ℕ)) (j : List ℕ) → o ≡ Some n → NewIs o (option_map T.text t) → ((x : Data) → HasData n x → Some j ≡ text_of x) → Some j ≡ t
part_is n None t j e new is = absurd (none-some n e)
part_is n (Some m) None j e new is = absurd new
part_is n (Some m) (Some s) j e new is = is (T.text s) (subst (λ k. HasData k (T.text s)) (same_Some m n e) new)

module _ (rows : List Row) (legible : IsLegible rows) (q : InSlot) (t : Data) (d : TypeDef) (known : form_of rows q.0 ≡ Some d) (text : is_text_form d ≡ true) (held : Held rows d (seen rows q) t) (holds : is_holder (seen rows q) ≡ true) where
  part_slot : (s : List ℕ) (slot : Slot) → slot_to_set (seen rows q) s ≡ Some slot → IsTextSlot rows slot
  part_slot s slot at = by held where
    by : Held rows d (seen rows q) t → IsTextSlot rows slot
    by (of_fields r os ds e z a b) =
        let y = declared_field s r.fields os slot (sym (ap (λ h. slot_to_set h s) z) ∙ at) in
        subst (IsTextSlot rows) y.in_slot (struct_slot rows r.form r.fields s y.declared (sym (ap is_text_form e) ∙ text) (legible.made (base rows (q.0).ty.0) (D.Struct r) (known ∙ ap Some e)) y.named)
    by (of_entries k k_at elem place form ps es e z a b) =
        let same = same_Some elem slot (sym (ap (λ h. slot_to_set h s) z) ∙ at) in
        subst (IsTextSlot rows) same (map_slot rows form elem (sym (ap is_text_form e) ∙ text) (legible.made (base rows (q.0).ty.0) (D.Map k k_at elem place form) (known ∙ ap Some e)))
    by (of_member u n v m y e z a b g) = never (sym (ap is_text_form e) ∙ text)
    by (of_elements elem place vs ds e z a b) = never (sym (ap is_text_form e) ∙ text)
    by (of_any e z) = never (sym (ap is_text_form e) ∙ text)
    by (of_nothing v z) = never (sym (ap is_holder z) ∙ holds)

  no_list : is_list (seen rows q) ≡ false
  no_list = by held where
    by : Held rows d (seen rows q) t → is_list (seen rows q) ≡ false
    by (of_fields r os ds e z a b) = ap is_list z
    by (of_entries k k_at elem place form ps es e z a b) = ap is_list z
    by (of_member u n v m y e z a b g) = ap is_list z
    by (of_elements elem place vs ds e z a b) = never (sym (ap is_text_form e) ∙ text)
    by (of_any e z) = never (sym (ap is_text_form e) ∙ text)
    by (of_nothing v z) = ap is_list z

  -- they are a text, where they are told
  struct_text : (form : StructForm) (fs : List Field) (ds : List (Option Data)) → is_text_struct form ≡ true → struct_form form fs ds ≡ Some t → (j : List ℕ) × (t ≡ T.text j)
  struct_text S.Map fs ds is made = never is
  struct_text S.Tuple fs ds is made = never is
  struct_text S.ListPairs fs ds is made = never is
  struct_text (S.StringPairs inner entry) fs ds is made =
      let x = chain_some (stringpairs inner entry) (field_entries fs ds) t made in
      let y = map_some T.text (option_and_then (join_pairs inner entry) (text_pairs x.0)) t x.2 in
      (y.0, sym y.2)
  struct_text (S.StringJoin delim) fs ds is made =
      let x = chain_some (stringjoin delim) (all_items fs ds) t made in
      let y = map_some T.text (option_and_then (join delim) (texts_in x.0)) t x.2 in
      (y.0, sym y.2)

  map_text : (form : MapForm) (es : List (List ℕ × Data)) → is_pairs_map form ≡ true → map_form alone form (L.map es) ≡ Some t → (j : List ℕ) × (t ≡ T.text j)
  map_text M.Map es is made = never is
  map_text M.ListPairs es is made = never is
  map_text (M.StringPairs inner entry) es is made = let y = map_some T.text (option_and_then (join_pairs inner entry) (text_pairs es)) t made in (y.0, sym y.2)
  map_text (M.Hamt shape) es is made = never is

  pub stands_text : (j : List ℕ) × (t ≡ T.text j)
  stands_text = by held where
    by : Held rows d (seen rows q) t → (j : List ℕ) × (t ≡ T.text j)
    by (of_fields r os ds e z a b) = struct_text r.form r.fields ds (sym (ap is_text_form e) ∙ text) b
    by (of_entries k k_at elem place form ps es e z a b) = map_text form es (sym (ap is_text_form e) ∙ text) b
    by (of_member u n v m y e z a b g) = never (sym (ap is_text_form e) ∙ text)
    by (of_elements elem place vs ds e z a b) = never (sym (ap is_text_form e) ∙ text)
    by (of_any e z) = never (sym (ap is_text_form e) ∙ text)
    by (of_nothing v z) = never (sym (ap is_holder z) ∙ holds)

  -- ---- what an edit does to a part

  pub record Comes (edit : PartEdit) (w : Value) (s : List ℕ) : Type 0 where
    pub value : Option Value
    pub new : Option (List ℕ)
    pub lets : LetsBe rows (seen rows q) s value (option_map T.text new)
    pub node : NewIs (node_of edit) (option_map T.text new)
    pub made : (in_last edit w).made (seen rows q) s ≡ with_part (seen rows q) s value

  pub comes : (edit : PartEdit) (w : Value) (s : List ℕ) → Allows rows edit (seen rows q) s w → Comes edit w s
  comes (E.Set n) w s h =
      let x = text_slot rows h.0 w h.2.tree (part_slot s h.0 h.1) h.2.tree_is in
      record { value = Some w; new = Some x.0; lets = (h.0, h.1, h.2.tree_is ∙ ap Some x.1); node = subst (HasData n) x.1 h.2.stands; made = refl }
  comes (E.Insert n) w s h =
      let at = as_set (seen rows q) s h.0 w no_list h.1 in
      let x = text_slot rows h.0 w h.2.tree (part_slot s h.0 at.1) h.2.tree_is in
      record { value = Some w; new = Some x.0; lets = (h.0, at.1, h.2.tree_is ∙ ap Some x.1); node = subst (HasData n) x.1 h.2.stands; made = at.0 }
  comes E.Delete w s h = record { value = None; new = None; lets = h; node = tt; made = refl }
