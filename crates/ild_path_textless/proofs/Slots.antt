-- The parts of a type in text form have types in text form.
use Rattle.std.proofs.Common.{◌≡◌, ℕ, List, [], ◌∷◌, Bool, true, false, cond, Option, Some, None, option_map, refl, sym, ◌∙◌, ap, subst}
use Rattle.std.specs.List.{AllByRecursion, list_any}
use Rattle.std.proofs.lemmas.Option.{same_Some, none-some}
use Rattle.std.proofs.lemmas.Bool.{or_left, or_right}
use Rattle.ild_typed.proofs.Making.{itself}
use Rattle.ild_data.proofs.AllOf.{all_at}
use Rattle.ild_data.specs.Key.{same_text}
use Rattle.ild_path_edits.specs.Table.{declared_slot, slot_to_insert, slot_to_set}
use Rattle.ild_path_judged.proofs.Last.{HeldBy}
use Rattle.ild_path_room.specs.Room.{Coming, by_insert, by_set, slot_for}
use Rattle.ild_schema.proofs.Legibly.{legible}
use Rattle.ild_schema.specs.Copies.{base}
use Rattle.ild_schema.specs.DataKinds.{is_marked, kind_in, map_kind, struct_kind, union_has}
use Rattle.ild_schema.specs.Made.{IsTextSlot, MadeMap, MadeMember, MadeStruct, MadeType, HasOnly}
use Rattle.ild_schema.specs.Marks.{mark_kind}
use Rattle.ild_schema.specs.Slots.{form_of, plainly}
use Rattle.ild_schema.specs.Value as V
use Rattle.ild_schema.specs.Value.{Value}
use Rattle.ild_schema.specs.declared.def.Field.{Field}
use Rattle.ild_schema.specs.declared.def.KindWord.{KindWord}
use Rattle.ild_schema.specs.declared.def.KindWord.TheVariants as K
use Rattle.ild_schema.specs.declared.def.MapForm.{MapForm}
use Rattle.ild_schema.specs.declared.def.MapForm.TheVariants as MF
use Rattle.ild_schema.specs.declared.def.Member.{Member}
use Rattle.ild_schema.specs.declared.def.StructForm.{StructForm}
use Rattle.ild_schema.specs.declared.def.StructForm.TheVariants as S
use Rattle.ild_schema.specs.declared.def.TypeDef.{TypeDef}
use Rattle.ild_schema.specs.declared.def.TypeDef.TheVariants as D
use Rattle.ild_schema.specs.declared.def.UnionForm.{UnionForm}
use Rattle.ild_schema.specs.declared.def.UnionForm.TheVariants as U
use Rattle.ild_schema.specs.declared.number.Slot.{Slot}
use Rattle.ild_schema.specs.declared.row.Row.{Row}
use Rattle.ild_typed.specs.Hamt.{alone}
use Rattle.ild_typed.specs.Holder.{Holder, any_elements, any_entries, elements, entries, fields, member, nothing}
use Rattle.ild_typed.specs.Judged.{breaks, map_breaks, struct_breaks}
use Rattle.ild_typed.specs.OfType.{TestsKeys}
use Rattle.ild_typed.specs.Represented.{represented_fields, represented_pairs}
use Rattle.ild_typed.specs.Schema.{IsSchema}
use Rattle.ild_typed.specs.Segment.{member_named}
use Rattle.ild_typed_fronts.proofs.Holding.{to_declared, unless_some}
use Rattle.ild_value_meaning.proofs.Members.{member-named}

-- each part of a type is of text form and never null
abbrev pub HasTexts : List Row → Option TypeDef → Type 0
HasTexts rows (Some (D.Struct s)) = AllByRecursion (λ f. IsTextSlot rows f.slot) s.fields
HasTexts rows (Some (D.Map key key_at value at form)) = IsTextSlot rows value
HasTexts rows (Some (D.Union u)) = AllByRecursion (λ m. IsTextSlot rows (plainly m.ty)) u.members
HasTexts rows (Some (D.List elem at)) = ⊥
HasTexts rows (Some D.Any) = ⊥
HasTexts rows d = Unit {0}

-- of kind text alone
abbrev pub IsText : Option TypeDef → Type 0
IsText F = (k : KindWord) → kind_in F k ≡ true → k ≡ K.Text

module _ (rows : List Row) where
  -- ---- the types of parts

  join_slots : (fs : List Field) → AllByRecursion (λ f. IsTextSlot rows f.slot × (f.optional ≡ false)) fs → AllByRecursion (λ f. IsTextSlot rows f.slot) fs
  join_slots [] all = tt
  join_slots (f ∷ fs) all = (all.0.0, join_slots fs all.1)

  struct_texts : (form : StructForm) (fs : List Field) → MadeStruct rows form fs → struct_kind form ≡ K.Text → AllByRecursion (λ f. IsTextSlot rows f.slot) fs
  struct_texts S.Map fs made e = absurd cc
  struct_texts S.Tuple fs made e = absurd cc
  struct_texts S.ListPairs fs made e = absurd cc
  struct_texts (S.StringPairs inner entry) fs made e = made
  struct_texts (S.StringJoin delim) fs made e = join_slots fs made

  map_texts : (form : MapForm) (value : Slot) → MadeMap rows form value → map_kind form ≡ K.Text → IsTextSlot rows value
  map_texts MF.Map value made e = absurd cc
  map_texts MF.ListPairs value made e = absurd cc
  map_texts (MF.StringPairs inner entry) value made e = made
  map_texts (MF.Hamt shape) value made e = absurd cc

  text_member : (m : Member) → HasOnly rows (plainly m.ty) K.Text → IsTextSlot rows (plainly m.ty)
  text_member m only = record { plain = refl; only = only }

  prefixed : (ms : List Member) → AllByRecursion (MadeMember rows U.StringPrefix) ms → AllByRecursion (λ m. IsTextSlot rows (plainly m.ty)) ms
  prefixed [] made = tt
  prefixed (m ∷ ms) made = (text_member m made.0.1, prefixed ms made.1)

  kinded : (ms : List Member) → AllByRecursion (MadeMember rows U.Kinded) ms → ((k : KindWord) → list_any (λ m. is_marked k (mark_kind m.mark)) ms ≡ true → k ≡ K.Text) → AllByRecursion (λ m. IsTextSlot rows (plainly m.ty)) ms
  kinded [] made only = tt
  kinded (m ∷ ms) made only =
      let x = made.0 in
      let rest : KindWord → Bool = λ k. list_any (λ m. is_marked k (mark_kind m.mark)) ms in
      let same : x.0 ≡ K.Text = only x.0 (or_left (is_marked x.0 (mark_kind m.mark)) (rest x.0) (ap (is_marked x.0) x.1 ∙ itself x.0)) in (
        text_member m (subst (λ k. HasOnly rows (plainly m.ty) k) same x.2),
        kinded ms made.1 (λ k e. only k (or_right (is_marked k (mark_kind m.mark)) (rest k) e)),
      )

  union_texts : (form : UnionForm) (ms : List Member) → AllByRecursion (MadeMember rows form) ms → ((k : KindWord) → union_has form ms k ≡ true → k ≡ K.Text) → AllByRecursion (λ m. IsTextSlot rows (plainly m.ty)) ms
  union_texts U.Keyed ms made only = let e : K.Map ≡ K.Text = only K.Map refl in absurd cc
  union_texts U.Kinded ms made only = kinded ms made only
  union_texts U.StringPrefix ms made only = prefixed ms made
  union_texts U.BytesPrefix ms made only = let e : K.Bytes ≡ K.Text = only K.Bytes refl in absurd cc
  union_texts (U.Envelope key content) ms made only = let e : K.Map ≡ K.Text = only K.Map refl in absurd cc
  union_texts (U.Inline key) ms made only = let e : K.Map ≡ K.Text = only K.Map refl in absurd cc

  type_texts : (d : TypeDef) → MadeType rows d → IsText (Some d) → HasTexts rows (Some d)
  type_texts (D.Struct s) made only = struct_texts s.form s.fields made (only (struct_kind s.form) (itself (struct_kind s.form)))
  type_texts (D.Map key key_at value at form) made only = map_texts form value made (only (map_kind form) (itself (map_kind form)))
  type_texts (D.Union u) made only = union_texts u.form u.members made only
  type_texts (D.List elem at) made only = let e : K.List ≡ K.Text = only K.List refl in absurd cc
  type_texts D.Any made only = let e : K.Bool ≡ K.Text = only K.Bool refl in absurd cc
  type_texts d made only = tt

  -- ---- a type whose parts aren't all texts has no delimiter rule

  struct_silent : (form : StructForm) (fs : List Field) → MadeStruct rows form fs → (AllByRecursion (λ f. IsTextSlot rows f.slot) fs → ⊥) → (gs : List Field) (o : _) → struct_breaks form gs o ≡ false
  struct_silent S.Map fs made none gs o = refl
  struct_silent S.Tuple fs made none gs o = refl
  struct_silent S.ListPairs fs made none gs o = refl
  struct_silent (S.StringPairs inner entry) fs made none gs o = absurd (none made)
  struct_silent (S.StringJoin delim) fs made none gs o = absurd (none (join_slots fs made))

  map_silent : (form : MapForm) (value : Slot) → MadeMap rows form value → (IsTextSlot rows value → ⊥) → (o : _) → map_breaks form o ≡ false
  map_silent MF.Map value made none o = refl
  map_silent MF.ListPairs value made none o = refl
  map_silent (MF.StringPairs inner entry) value made none o = absurd (none made)
  map_silent (MF.Hamt shape) value made none o = refl

  silent_type : (F : Option TypeDef) → ((d : TypeDef) → F ≡ Some d → MadeType rows d) → (HasTexts rows F → ⊥) → (v : Value) → breaks rows F v ≡ false
  silent_type (Some (D.Struct s)) made none (V.struct os) = struct_silent s.form s.fields (made (D.Struct s) refl) none s.fields (represented_fields alone rows s.fields os)
  silent_type (Some (D.Map key key_at value at form)) made none (V.map ps) = map_silent form value (made (D.Map key key_at value at form) refl) none (represented_pairs alone rows value ps)
  silent_type F made none v = refl

  module _ (schema : IsSchema rows) where
    made_of : (s : Slot) (d : TypeDef) → form_of rows s ≡ Some d → MadeType rows d
    made_of s d e = (legible rows schema.accepted).made (base rows s.ty.0) d e

    pub text_slots : (s : Slot) → IsTextSlot rows s → HasTexts rows (form_of rows s)
    text_slots s text = by (form_of rows s) (made_of s) text.only where
      by : (F : Option TypeDef) → ((d : TypeDef) → F ≡ Some d → MadeType rows d) → IsText F → HasTexts rows F
      by None made only = tt
      by (Some d) made only = type_texts d (made d refl) only

    pub silent : (s : Slot) → (HasTexts rows (form_of rows s) → ⊥) → (v : Value) → breaks rows (form_of rows s) v ≡ false
    silent s none v = silent_type (form_of rows s) (made_of s) none v

    -- ---- the slots of a holder

    declared : (s : List ℕ) (fs : List Field) (os : List (Option Value)) (r : Slot) → AllByRecursion (λ f. IsTextSlot rows f.slot) fs → declared_slot s fs os ≡ Some r → IsTextSlot rows r
    declared s [] os r all e = absurd (none-some r e)
    declared s (f ∷ fs) [] r all e = absurd (none-some r e)
    declared s (f ∷ fs) (o ∷ os) r all e = by (same_text s f.name) e (λ g. declared s fs os r all.1 g) where
      by : (b : Bool) → cond b (Some f.slot) (declared_slot s fs os) ≡ Some r → (declared_slot s fs os ≡ Some r → IsTextSlot rows r) → IsTextSlot rows r
      by true g rest = subst (IsTextSlot rows) (same_Some f.slot r g) all.0
      by false g rest = rest g

    named : (ms : List Member) (s : List ℕ) (r : Slot) (o : Option (ℕ × Member)) → AllByRecursion (λ m. IsTextSlot rows (plainly m.ty)) ms → member_named s ms ≡ o → option_map (λ (p : ℕ × Member). plainly (p.1).ty) o ≡ Some r → IsTextSlot rows r
    named ms s r None all e g = absurd (none-some r g)
    named ms s r (Some p) all e g =
        subst (IsTextSlot rows) (same_Some (plainly (p.1).ty) r g) (all_at (λ m. IsTextSlot rows (plainly m.ty)) ms p.0 p.1 all (member-named s ms p e).placed)

    module _ (is_key : ℕ → List ℕ → Bool) (keys : TestsKeys rows is_key) where
      pub set_text : (slot : Slot) (k : Holder) (s : List ℕ) (r : Slot) → HeldBy rows is_key schema keys slot k → HasTexts rows (form_of rows slot) → slot_to_set k s ≡ Some r → IsTextSlot rows r
      set_text slot (fields fs os) s r h t e =
          declared s fs os r (subst (λ gs. AllByRecursion (λ f. IsTextSlot rows f.slot) gs) (sym h.2) (subst (HasTexts rows) h.1 t)) e
      set_text slot (member ms n v) s r h t e =
          named ms s r (member_named s ms) (subst (λ ns. AllByRecursion (λ m. IsTextSlot rows (plainly m.ty)) ns) (sym h.3) (subst (HasTexts rows) h.2 t)) refl e
      set_text slot (entries key elem paired ps) s r h t e = subst (IsTextSlot rows) (same_Some elem r e) (subst (HasTexts rows) h.4 t)
      set_text slot (elements elem vs) s r h t e = absurd (subst (HasTexts rows) h.1 t)
      set_text slot (any_entries ms) s r h t e = absurd (subst (HasTexts rows) h.0 t)
      set_text slot (any_elements ds) s r h t e = absurd (subst (HasTexts rows) h.0 t)
      set_text slot (nothing v) s r h t e = absurd (none-some r e)

      insert_text : (slot : Slot) (k : Holder) (s : List ℕ) (r : Slot) → HeldBy rows is_key schema keys slot k → HasTexts rows (form_of rows slot) → slot_to_insert k s ≡ Some r → IsTextSlot rows r
      insert_text slot (fields fs os) s r h t e = set_text slot (fields fs os) s r h t (to_declared (λ x. x) rows s fs os r e)
      insert_text slot (member ms n v) s r h t e = absurd (none-some r e)
      insert_text slot (entries key elem paired ps) s r h t e = set_text slot (entries key elem paired ps) s r h t (ap Some (unless_some (λ x. x) rows _ elem r e))
      insert_text slot (elements elem vs) s r h t e = absurd (subst (HasTexts rows) h.1 t)
      insert_text slot (any_entries ms) s r h t e = absurd (subst (HasTexts rows) h.0 t)
      insert_text slot (any_elements ds) s r h t e = absurd (subst (HasTexts rows) h.0 t)
      insert_text slot (nothing v) s r h t e = absurd (none-some r e)

      pub coming_text : (how : Coming) (slot : Slot) (k : Holder) (s : List ℕ) (r : Slot) → HeldBy rows is_key schema keys slot k → HasTexts rows (form_of rows slot) → slot_for how k s ≡ Some r → IsTextSlot rows r
      coming_text by_set slot k s r h t e = set_text slot k s r h t e
      coming_text by_insert slot k s r h t e = insert_text slot k s r h t e
