-- What stands as no text has no delimiter rule; what stands as a text breaks none.
use Rattle.std.proofs.Common.{◌≡◌, ℕ, List, true, false, Option, Some, None, refl, sym, ◌∙◌, ap, subst}
use Rattle.std.specs.Prelude.{option_map}
use Rattle.std.proofs.lemmas.Option.{none-some}
use Rattle.ild_data.proofs.Options.{chain_some, map_some}
use Rattle.ild_data.specs.Data as T
use Rattle.ild_data.specs.Data.{Data}
use Rattle.ild_path_delimiter.proofs.Held.{is_held}
use Rattle.ild_path_delimiter.specs.Laws.{OnlyTextsBreak, TextsBreakNothing}
use Rattle.ild_path_edits.specs.Along.{LayerPasses}
use Rattle.ild_path_holder.specs.Along.{is_holder}
use Rattle.ild_path_steps.proofs.Holding.{Held, of_any, of_elements, of_entries, of_fields, of_member, of_nothing}
use Rattle.ild_schema.specs.Slots.{form_of}
use Rattle.ild_schema.specs.Value as V
use Rattle.ild_schema.specs.Value.{Value}
use Rattle.ild_schema.specs.declared.def.MapForm.{MapForm}
use Rattle.ild_schema.specs.declared.def.MapForm.TheVariants as MF
use Rattle.ild_schema.specs.declared.def.StructDef.{StructDef}
use Rattle.ild_schema.specs.declared.def.StructForm.{StructForm}
use Rattle.ild_schema.specs.declared.def.StructForm.TheVariants as S
use Rattle.ild_schema.specs.declared.def.TypeDef.{TypeDef}
use Rattle.ild_schema.specs.declared.def.TypeDef.TheVariants as D
use Rattle.ild_schema.specs.declared.number.Slot.{Slot}
use Rattle.ild_schema.specs.declared.number.TypeNo.{TypeNo}
use Rattle.ild_schema.specs.declared.row.Row.{Row}
use Rattle.ild_typed.proofs.Flat.{flat_whole}
use Rattle.ild_typed.proofs.Judging.{tree_sound}
use Rattle.ild_typed.specs.At.{InSlot, seen}
use Rattle.ild_typed.specs.Composed.{map_form, struct_form}
use Rattle.ild_typed.specs.Fields.{all_items, field_entries}
use Rattle.ild_typed.specs.Hamt.{alone}
use Rattle.ild_typed.specs.Holder.{Holder, any_elements, any_entries, elements, entries, fields, member, nothing, value_of}
use Rattle.ild_typed.specs.Judged.{breaks, struct_breaks}
use Rattle.ild_typed.specs.Layer as L
use Rattle.ild_typed.specs.Represented.{represented, represented_fields}
use Rattle.ild_typed.specs.Strings.{stringjoin, stringpairs, text_in}

pub texts_break_nothing : TextsBreakNothing
texts_break_nothing rows slot v s e = (tree_sound (λ x. x) rows slot v (T.text s) (flat_whole (λ x. x) rows slot v (T.text s) e tt)).2

-- what is made as a text is one
no_text : {A : Type 0} (o : Option (List ℕ)) (t : Data) → option_map T.text o ≡ Some t → text_in t ≡ None → A
no_text o t e none = let x = map_some T.text o t e in absurd (none-some x.0 (sym none ∙ ap text_in (sym x.2)))

module _ (rows : List Row) where
  passes_by : (slot : Slot) (F : Option TypeDef) → form_of rows slot ≡ F → ((v : Value) → breaks rows F v ≡ false) → (k : Holder) → LayerPasses (breaks rows) rows slot k
  passes_by slot F e all (fields fs os) = ap (λ F. breaks rows F (value_of (fields fs os))) e ∙ all (value_of (fields fs os))
  passes_by slot F e all (member ms n v) = ap (λ F. breaks rows F (value_of (member ms n v))) e ∙ all (value_of (member ms n v))
  passes_by slot F e all (entries key elem paired ps) = ap (λ F. breaks rows F (value_of (entries key elem paired ps))) e ∙ all (value_of (entries key elem paired ps))
  passes_by slot F e all (elements elem vs) = ap (λ F. breaks rows F (value_of (elements elem vs))) e ∙ all (value_of (elements elem vs))
  passes_by slot F e all (any_entries ms) = tt
  passes_by slot F e all (any_elements ds) = tt
  passes_by slot F e all (nothing v) = tt

  struct_quiet : (r : StructDef) (form : StructForm) (ds : List (Option Data)) (t : Data) → r.form ≡ form → struct_form form r.fields ds ≡ Some t → text_in t ≡ None → (v : Value) → breaks rows (Some (D.Struct r)) v ≡ false
  struct_quiet r S.Map ds t is made none (V.struct os) = ap (λ f. struct_breaks f r.fields (represented_fields alone rows r.fields os)) is
  struct_quiet r S.Tuple ds t is made none (V.struct os) = ap (λ f. struct_breaks f r.fields (represented_fields alone rows r.fields os)) is
  struct_quiet r S.ListPairs ds t is made none (V.struct os) = ap (λ f. struct_breaks f r.fields (represented_fields alone rows r.fields os)) is
  struct_quiet r (S.StringPairs inner entry) ds t is made none (V.struct os) = let x = chain_some (stringpairs inner entry) (field_entries r.fields ds) t made in no_text _ t x.2 none
  struct_quiet r (S.StringJoin delim) ds t is made none (V.struct os) = let x = chain_some (stringjoin delim) (all_items r.fields ds) t made in no_text _ t x.2 none
  struct_quiet r form ds t is made none v = refl

  map_quiet : (k : TypeNo) (k_at : ℕ) (elem : Slot) (at : ℕ) (form : MapForm) (es : List (List ℕ × Data)) (t : Data) → map_form alone form (L.map es) ≡ Some t → text_in t ≡ None → (v : Value) → breaks rows (Some (D.Map k k_at elem at form)) v ≡ false
  map_quiet k k_at elem at MF.Map es t made none (V.map ps) = refl
  map_quiet k k_at elem at MF.ListPairs es t made none (V.map ps) = refl
  map_quiet k k_at elem at (MF.StringPairs inner entry) es t made none (V.map ps) = no_text _ t made none
  map_quiet k k_at elem at (MF.Hamt shape) es t made none (V.map ps) = refl
  map_quiet k k_at elem at form es t made none v = refl

  pub quiet : (p : InSlot) (t : Data) (k : Holder) → represented alone rows p.0 p.1 ≡ Some t → is_holder (seen rows p) ≡ true → text_in t ≡ None → LayerPasses (breaks rows) rows p.0 k
  quiet p t k made holds none = let h = is_held rows p t made holds in passes_by p.0 (Some h.type) h.known (by h.type h.held) k where
    by : (d : TypeDef) → Held rows d (seen rows p) t → (v : Value) → breaks rows (Some d) v ≡ false
    by d (of_fields r os ds e z a b) = subst (λ d. (v : Value) → breaks rows (Some d) v ≡ false) (sym e) (struct_quiet r r.form ds t refl b none)
    by d (of_member u n v m x e z a b g) = subst (λ d. (v : Value) → breaks rows (Some d) v ≡ false) (sym e) (λ v. refl)
    by d (of_entries k k_at elem at form ps es e z a b) = subst (λ d. (v : Value) → breaks rows (Some d) v ≡ false) (sym e) (map_quiet k k_at elem at form es t b none)
    by d (of_elements elem at vs ds e z a b) = subst (λ d. (v : Value) → breaks rows (Some d) v ≡ false) (sym e) (λ v. refl)
    by d (of_any e z) = subst (λ d. (v : Value) → breaks rows (Some d) v ≡ false) (sym e) (λ v. refl)
    by d (of_nothing v z) = let wrong : false ≡ true = sym (ap is_holder z) ∙ holds in absurd cc

pub only_texts_break : OnlyTextsBreak
only_texts_break rows p t k made holds none = quiet rows p t k made holds none
