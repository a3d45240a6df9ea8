-- In a text, what has no data breaks a delimiter rule.
use Rattle.std.proofs.Common.{◌≡◌, ℕ, List, Bool, true, false, Option, Some, None, refl, sym, ◌∙◌, ap, subst}
use Rattle.std.specs.Prelude.{option_map, slice_get}
use Rattle.std.proofs.lemmas.Option.{none-some, same_Some}
use Rattle.ild_path_item.proofs.Viewing.{other}
use Rattle.ild_data.proofs.Options.{chain_some, map_some}
use Rattle.ild_data.specs.Data as T
use Rattle.ild_data.specs.Data.{Data, items_of}
use Rattle.ild_path_delimiter.proofs.Freeing.{edit_free, set_free}
use Rattle.ild_path_delimiter.proofs.Held.{IsHeld, is_held}
use Rattle.ild_path_delimiter.specs.TextEdits.{CanEdit, brought, in_last}
use Rattle.ild_path_delimiter.specs.declared.delimiter.TextEdit.{TextEdit}
use Rattle.ild_path_delimiter.specs.declared.delimiter.TextEdit.TheVariants as E
use Rattle.ild_path_item.proofs.Members.{union_becomes}
use Rattle.ild_path_item.proofs.Verbs.{as_set, is_list}
use Rattle.ild_path_item.specs.Texts.{LetsBe, with_part}
use Rattle.ild_path_edits.proofs.KeepTyped.{IsWholeOfType, whole_is_kept}
use Rattle.ild_path_edits.specs.Along.{IsFree, LayerPasses}
use Rattle.ild_path_edits.specs.Table.{MayStand, never, refusal_to_delete, slot_to_set}
use Rattle.ild_path_holder.specs.Along.{is_holder}
use Rattle.ild_path_steps.proofs.Holding.{Held, of_any, of_elements, of_entries, of_fields, of_member, of_nothing}
use Rattle.ild_schema.proofs.Legibly.{legible}
use Rattle.ild_schema.specs.Slots.{form_of, plainly}
use Rattle.ild_schema.specs.Value as V
use Rattle.ild_schema.specs.Value.{Value}
use Rattle.ild_schema.specs.Whole.{is_whole}
use Rattle.ild_schema.specs.declared.def.Field.{Field}
use Rattle.ild_schema.specs.declared.def.MapForm.{MapForm}
use Rattle.ild_schema.specs.declared.def.Member.{Member}
use Rattle.ild_schema.specs.declared.def.UnionDef.{UnionDef}
use Rattle.ild_schema.specs.declared.def.MapForm.TheVariants as MF
use Rattle.ild_schema.specs.declared.def.StructDef.{StructDef}
use Rattle.ild_schema.specs.declared.def.StructForm.{StructForm}
use Rattle.ild_schema.specs.declared.def.StructForm.TheVariants as S
use Rattle.ild_schema.specs.declared.def.TypeDef.{TypeDef}
use Rattle.ild_schema.specs.declared.def.TypeDef.TheVariants as D
use Rattle.ild_schema.specs.declared.number.Slot.{Slot}
use Rattle.ild_schema.specs.declared.number.TypeNo.{TypeNo}
use Rattle.ild_schema.specs.declared.row.Row.{Row}
use Rattle.ild_typed.proofs.Flat.{IsFlat, flat_alone, flat_whole}
use Rattle.ild_typed.proofs.Judging.{tree_sound}
use Rattle.ild_typed.proofs.MakingValues.{typed_tree}
use Rattle.ild_typed.proofs.OneValue.{Way, as_layer, as_null, way_of}
use Rattle.ild_typed.specs.At.{InSlot, seen}
use Rattle.ild_typed.specs.Composed.{composed, map_form, struct_form}
use Rattle.ild_typed.specs.Fields.{all_items, field_entries, tuple_items}
use Rattle.ild_typed.specs.Hamt.{alone, whole}
use Rattle.ild_typed.specs.Holder.{Holder, any_elements, any_entries, elements, entries, fields, member, nothing, value_of}
use Rattle.ild_typed.specs.Judged.{breaks, is_exhausted, is_hole, tuple_hole}
use Rattle.ild_typed.specs.Layer as L
use Rattle.ild_typed.specs.Layer.{Layer, as_map, as_struct}
use Rattle.ild_typed.specs.OfType.{OfType, TestsKeys}
use Rattle.ild_typed.specs.Represented.{represented}
use Rattle.ild_typed.specs.Schema.{IsSchema}
use Rattle.ild_typed.specs.Segment.{held_as, member_named, set_part}
use Rattle.ild_typed.specs.Strings.{in_key_order, listpairs, map_data, stringjoin, stringpairs}
use Rattle.ild_view.specs.Parts.{member_held}

-- any hash, since a text has no nodes
abbrev H : List ℕ → List ℕ
H x = x

text_flat : (o : Option (List ℕ)) (d : Data) → option_map T.text o ≡ Some d → IsFlat d
text_flat o d e = let x = map_some T.text o d e in subst IsFlat x.2 tt

-- ---- forms that stand as texts

struct_whole : (r : StructDef) (form : StructForm) (ds : List (Option Data)) (j : List ℕ) → r.form ≡ form → struct_form form r.fields ds ≡ Some (T.text j) → (v : Value) → is_hole (Some (D.Struct r)) v ≡ false
struct_whole r S.Map ds j is made v = let x = map_some (λ es. map_data (in_key_order es)) (field_entries r.fields ds) (T.text j) made in other (map_data (in_key_order x.0)) j x.2 refl
struct_whole r S.Tuple ds j is made v = let x = map_some (λ xs. T.list (items_of xs)) (tuple_items r.fields ds) (T.text j) made in other (T.list (items_of x.0)) j x.2 refl
struct_whole r S.ListPairs ds j is made v = let x = map_some listpairs (field_entries r.fields ds) (T.text j) made in other (listpairs x.0) j x.2 refl
struct_whole r (S.StringPairs inner entry) ds j is made (V.struct os) = ap (λ f. tuple_hole f os) is
struct_whole r (S.StringJoin delim) ds j is made (V.struct os) = ap (λ f. tuple_hole f os) is
struct_whole r form ds j is made v = refl

struct_flat : (form : StructForm) (fs : List Field) (ds es : List (Option Data)) (j : List ℕ) (d : Data) → struct_form form fs ds ≡ Some (T.text j) → struct_form form fs es ≡ Some d → IsFlat d
struct_flat S.Map fs ds es j d made new = let x = map_some (λ es. map_data (in_key_order es)) (field_entries fs ds) (T.text j) made in other (map_data (in_key_order x.0)) j x.2 refl
struct_flat S.Tuple fs ds es j d made new = let x = map_some (λ xs. T.list (items_of xs)) (tuple_items fs ds) (T.text j) made in other (T.list (items_of x.0)) j x.2 refl
struct_flat S.ListPairs fs ds es j d made new = let x = map_some listpairs (field_entries fs ds) (T.text j) made in other (listpairs x.0) j x.2 refl
struct_flat (S.StringPairs inner entry) fs ds es j d made new = let x = chain_some (stringpairs inner entry) (field_entries fs es) d new in text_flat _ d x.2
struct_flat (S.StringJoin delim) fs ds es j d made new = let x = chain_some (stringjoin delim) (all_items fs es) d new in text_flat _ d x.2

map_whole : (rows : List Row) (k : TypeNo) (k_at : ℕ) (elem : Slot) (at : ℕ) (form : MapForm) (es : List (List ℕ × Data)) (j : List ℕ) → map_form alone form (L.map es) ≡ Some (T.text j) → (v : Value) → is_exhausted H rows (Some (D.Map k k_at elem at form)) v ≡ false
map_whole rows k k_at elem at MF.Map es j made v = other (map_data es) j (same_Some (map_data es) (T.text j) made) refl
map_whole rows k k_at elem at MF.ListPairs es j made v = other (listpairs es) j (same_Some (listpairs es) (T.text j) made) refl
map_whole rows k k_at elem at (MF.StringPairs inner entry) es j made (V.map ps) = refl
map_whole rows k k_at elem at (MF.Hamt shape) es j made v = absurd (none-some (T.text j) made)
map_whole rows k k_at elem at form es j made v = refl

map_flat : (form : MapForm) (es : List (List ℕ × Data)) (l : Layer Data) (j : List ℕ) (d : Data) → map_form alone form (L.map es) ≡ Some (T.text j) → map_form (whole H) form l ≡ Some d → IsFlat d
map_flat MF.Map es l j d made new = other (map_data es) j (same_Some (map_data es) (T.text j) made) refl
map_flat MF.ListPairs es l j d made new = other (listpairs es) j (same_Some (listpairs es) (T.text j) made) refl
map_flat (MF.StringPairs inner entry) es l j d made new = let x = chain_some (stringpairs inner entry) (as_map l) d new in text_flat _ d x.2
map_flat (MF.Hamt shape) es l j d made new = absurd (none-some (T.text j) made)

passes_by : (test : Option TypeDef → Value → Bool) (rows : List Row) (slot : Slot) (F : Option TypeDef) → form_of rows slot ≡ F → ((v : Value) → test F v ≡ false) → (k : Holder) → LayerPasses test rows slot k
passes_by test rows slot F e all (fields fs os) = ap (λ F. test F (value_of (fields fs os))) e ∙ all (value_of (fields fs os))
passes_by test rows slot F e all (member ms n v) = ap (λ F. test F (value_of (member ms n v))) e ∙ all (value_of (member ms n v))
passes_by test rows slot F e all (entries key elem paired ps) = ap (λ F. test F (value_of (entries key elem paired ps))) e ∙ all (value_of (entries key elem paired ps))
passes_by test rows slot F e all (elements elem vs) = ap (λ F. test F (value_of (elements elem vs))) e ∙ all (value_of (elements elem vs))
passes_by test rows slot F e all (any_entries ms) = tt
passes_by test rows slot F e all (any_elements ds) = tt
passes_by test rows slot F e all (nothing v) = tt

module _ (rows : List Row) (p : InSlot) (j : List ℕ) (made : represented alone rows p.0 p.1 ≡ Some (T.text j)) (holds : is_holder (seen rows p) ≡ true) where
  held : IsHeld rows p (T.text j)
  held = is_held rows p (T.text j) made holds

  no_any : {A : Type 0} (v : Value) → seen rows p ≡ nothing v → A
  no_any v z = let wrong : false ≡ true = sym (ap is_holder z) ∙ holds in absurd cc

  no_holes : (k : Holder) → LayerPasses is_hole rows p.0 k
  no_holes k = passes_by is_hole rows p.0 (Some (held).type) (held).known (by (held).type (held).held) k where
    by : (d : TypeDef) → Held rows d (seen rows p) (T.text j) → (v : Value) → is_hole (Some d) v ≡ false
    by d (of_fields r os ds e z a b) = subst (λ d. (v : Value) → is_hole (Some d) v ≡ false) (sym e) (struct_whole r r.form ds j refl b)
    by d (of_member u n v m x e z a b g) = subst (λ d. (v : Value) → is_hole (Some d) v ≡ false) (sym e) (λ v. refl)
    by d (of_entries k k_at elem at form ps es e z a b) = subst (λ d. (v : Value) → is_hole (Some d) v ≡ false) (sym e) (λ v. refl)
    by d (of_elements elem at vs ds e z a b) = subst (λ d. (v : Value) → is_hole (Some d) v ≡ false) (sym e) (λ v. refl)
    by d (of_any e z) = no_any _ z
    by d (of_nothing v z) = no_any v z

  has_tries : (k : Holder) → LayerPasses (is_exhausted H rows) rows p.0 k
  has_tries k = passes_by (is_exhausted H rows) rows p.0 (Some (held).type) (held).known (by (held).type (held).held) k where
    by : (d : TypeDef) → Held rows d (seen rows p) (T.text j) → (v : Value) → is_exhausted H rows (Some d) v ≡ false
    by d (of_fields r os ds e z a b) = subst (λ d. (v : Value) → is_exhausted H rows (Some d) v ≡ false) (sym e) (λ v. refl)
    by d (of_member u n v m x e z a b g) = subst (λ d. (v : Value) → is_exhausted H rows (Some d) v ≡ false) (sym e) (λ v. refl)
    by d (of_entries k k_at elem at form ps es e z a b) = subst (λ d. (v : Value) → is_exhausted H rows (Some d) v ≡ false) (sym e) (map_whole rows k k_at elem at form es j b)
    by d (of_elements elem at vs ds e z a b) = subst (λ d. (v : Value) → is_exhausted H rows (Some d) v ≡ false) (sym e) (λ v. refl)
    by d (of_any e z) = no_any _ z
    by d (of_nothing v z) = no_any v z

  -- whatever becomes of it stands as no list and no map, but for a union
  stays_flat : member_held (seen rows p) ≡ None → (v : Value) (d : Data) → represented (whole H) rows p.0 v ≡ Some d → IsFlat d
  stays_flat single v d new = by (way_of (whole H) rows p.0 v d new) where
    by_form : (c : TypeDef) (l : Layer Data) → Held rows c (seen rows p) (T.text j) → composed (whole H) c l ≡ Some d → IsFlat d
    by_form c l (of_fields r os ds e z a b) done =
        let x = chain_some (struct_form r.form r.fields) (as_struct l) d (subst (λ c. composed (whole H) c l ≡ Some d) e done) in
        struct_flat r.form r.fields ds x.0 j d b x.2
    by_form c l (of_member u n v m x e z a b g) done = absurd (none-some _ (sym single ∙ ap member_held z ∙ ap (option_map _) a))
    by_form c l (of_entries k k_at elem at form ps es e z a b) done = map_flat form es l j d b (subst (λ c. composed (whole H) c l ≡ Some d) e done)
    by_form c l (of_elements elem at vs ds e z a b) done = other (T.list (items_of ds)) j (sym b) refl
    by_form c l (of_any e z) done = no_any _ z
    by_form c l (of_nothing v z) done = no_any v z

    by : Way (whole H) rows p.0 v d → IsFlat d
    by (as_null a n z) = subst IsFlat (sym z) tt
    by (as_layer c l is has done) =
        let same : (held).type ≡ c = same_Some (held).type c (sym (held).known ∙ is) in
        by_form (held).type l (held).held (subst (λ c. composed (whole H) c l ≡ Some d) (sym same) done)

  -- so it has the same data in a block and as a whole, where a part becomes a text, or goes
  pub alike_with : (s : List ℕ) (o : Option Value) (new : Option (List ℕ)) → LetsBe rows (seen rows p) s o (option_map T.text new) → (d : Data) → represented (whole H) rows p.0 (value_of (with_part (seen rows p) s o)) ≡ Some d
      → represented alone rows p.0 (value_of (with_part (seen rows p) s o)) ≡ Some d
  alike_with s o new lets d e = by (held).type (held).known (held).held where
    flat : member_held (seen rows p) ≡ None → represented alone rows p.0 (value_of (with_part (seen rows p) s o)) ≡ Some d
    flat single = let v = value_of (with_part (seen rows p) s o) in flat_alone H rows p.0 v d e (stays_flat single v d e)

    never_deleted : {X A : Type 0} (o : Option X) → never o ≡ None → A
    never_deleted None h = absurd (none-some _ (sym h))
    never_deleted (Some x) h = absurd (none-some _ (sym h))

    of_union : (u : UnionDef) (n : ℕ) (v : Value) → form_of rows p.0 ≡ Some (D.Union u) → seen rows p ≡ member u.members n v → (o : Option Value) (new : Option (List ℕ)) → LetsBe rows (seen rows p) s o (option_map T.text new)
        → represented (whole H) rows p.0 (value_of (with_part (seen rows p) s o)) ≡ Some d → represented alone rows p.0 (value_of (with_part (seen rows p) s o)) ≡ Some d
    of_union u n v known is None (Some t) lets e = absurd lets
    of_union u n v known is (Some w) None lets e = absurd lets
    of_union u n v known is None None lets e = never_deleted (held_as s v (slice_get u.members n)) (sym (ap (λ h. refusal_to_delete h s) is) ∙ lets)
    of_union u n v known is (Some w) (Some t) lets e =
        let y = map_some (λ (p : ℕ × Member). plainly (p.1).ty) (member_named s u.members) lets.0 (sym (ap (λ h. slot_to_set h s) is) ∙ lets.1) in
        let m = (y.0).1 in
        let held : represented alone rows (plainly m.ty) w ≡ Some (T.text t) = ap (λ r. represented alone rows r w) y.2 ∙ lets.2 in
        let over = flat_whole H rows (plainly m.ty) w (T.text t) held tt in
        union_becomes alone rows p s w u v n (y.0).0 m (T.text t) known is y.1 held ∙ sym (union_becomes (whole H) rows p s w u v n (y.0).0 m (T.text t) known is y.1 over) ∙ e

    by : (c : TypeDef) → form_of rows p.0 ≡ Some c → Held rows c (seen rows p) (T.text j) → represented alone rows p.0 (value_of (with_part (seen rows p) s o)) ≡ Some d
    by c known (of_fields r os ds k z a b) = flat (ap member_held z)
    by c known (of_member u n v m x k z a b g) = of_union u n v (known ∙ ap Some k) z o new lets e
    by c known (of_entries l l_at elem at form ps es k z a b) = flat (ap member_held z)
    by c known (of_elements elem at vs ds k z a b) = other (T.list (items_of ds)) j (sym b) refl
    by c known (of_any k z) = no_any _ z
    by c known (of_nothing v z) = no_any v z

  no_list : is_list (seen rows p) ≡ false
  no_list = by (held).held where
    by : Held rows (held).type (seen rows p) (T.text j) → is_list (seen rows p) ≡ false
    by (of_fields r os ds k z a b) = ap is_list z
    by (of_member u n v m x k z a b g) = ap is_list z
    by (of_entries l l_at elem at form ps es k z a b) = ap is_list z
    by (of_elements elem at vs ds k z a b) = other (T.list (items_of ds)) j (sym b) refl
    by (of_any k z) = ap is_list z
    by (of_nothing v z) = ap is_list z

  -- what an edit does to a part of it
  pub record Lets (edit : TextEdit) (s : List ℕ) (w : Value) : Type 0 where
    pub value : Option Value
    pub allowed : LetsBe rows (seen rows p) s value (option_map T.text (brought edit))
    pub same : in_last edit w (seen rows p) s ≡ with_part (seen rows p) s value

  pub lets : (is_key : ℕ → List ℕ → Bool) (edit : TextEdit) (s : List ℕ) (w : Value) → CanEdit rows is_key edit (seen rows p) s w → Lets edit s w
  lets is_key (E.Set t) s w can = record { value = Some w; allowed = (can.0, can.1, can.4); same = refl }
  lets is_key (E.Insert t) s w can = let x = as_set (seen rows p) s can.0 w no_list can.1 in record { value = Some w; allowed = (can.0, x.1, can.4); same = x.0 }
  lets is_key E.Delete s w can = record { value = None; allowed = can; same = refl }

  pub alike : (edit : TextEdit) (s : List ℕ) (w : Value) → Lets edit s w → (d : Data) → represented (whole H) rows p.0 (value_of (in_last edit w (seen rows p) s)) ≡ Some d → represented alone rows p.0 (value_of (in_last edit w (seen rows p) s)) ≡ Some d
  alike edit s w x =
      subst (λ k. (d : Data) → represented (whole H) rows p.0 (value_of k) ≡ Some d → represented alone rows p.0 (value_of k) ≡ Some d) (sym x.same) (alike_with s x.value (brought edit) x.allowed)

module _ (rows : List Row) (is_key : ℕ → List ℕ → Bool) (schema : IsSchema rows) (keys : TestsKeys rows is_key) (w : Value) where
  new_sound : (slot : Slot) (x : List ℕ) → represented alone rows slot w ≡ Some (T.text x) → (is_whole w ≡ true) × IsFree is_hole rows slot w × IsFree (breaks rows) rows slot w × IsFree (is_exhausted H rows) rows slot w
  new_sound slot x e = tree_sound H rows slot w (T.text x) (flat_whole H rows slot w (T.text x) e tt)

  keeps : (edit : TextEdit) (p : InSlot) (s : List ℕ) → IsWholeOfType rows p.0 p.1 → CanEdit rows is_key edit (seen rows p) s w → IsWholeOfType rows p.0 (value_of (in_last edit w (seen rows p) s))
  keeps (E.Set t) p s is can = (whole_is_kept rows is_key schema keys).set p s can.0 w is can.1 can.2 (can.3, (new_sound can.0 t.now can.4).0)
  keeps (E.Insert t) p s is can = (whole_is_kept rows is_key schema keys).inserted p s can.0 w is can.1 can.2 (can.3, (new_sound can.0 t.now can.4).0)
  keeps E.Delete p s is can = (whole_is_kept rows is_key schema keys).deleted p s is can

  -- so a text without data has a broken delimiter
  no_data_breaks : (p : InSlot) (v : Value) → ((d : Data) → represented (whole H) rows p.0 v ≡ Some d → represented alone rows p.0 v ≡ Some d) → IsWholeOfType rows p.0 v → IsFree is_hole rows p.0 v
      → IsFree (is_exhausted H rows) rows p.0 v → represented alone rows p.0 v ≡ None → IsFree (breaks rows) rows p.0 v → ⊥
  no_data_breaks p v alike k hole full none free =
      let d = typed_tree H rows (legible rows schema.accepted).made p.0 v (k.0.0, k.0.1, k.1) hole free full in
      none-some d.0 (sym none ∙ alike d.0 d.1)

  -- by an edit
  pub text_breaks : (edit : TextEdit) (p : InSlot) (s j : List ℕ) → OfType rows p.0 p.1 → represented alone rows p.0 p.1 ≡ Some (T.text j) → is_holder (seen rows p) ≡ true → CanEdit rows is_key edit (seen rows p) s w
      → represented alone rows p.0 (value_of (in_last edit w (seen rows p) s)) ≡ None → IsFree (breaks rows) rows p.0 (value_of (in_last edit w (seen rows p) s)) → ⊥
  text_breaks edit p s j is made holds can none free =
      let k = in_last edit w (seen rows p) s in
      let old = tree_sound H rows p.0 p.1 (T.text j) (flat_whole H rows p.0 p.1 (T.text j) made tt) in
      let hole = edit_free is_hole rows is_key schema keys edit p s w is old.1 can (λ slot x e. (new_sound slot x e).1) (no_holes rows p j made holds k) in
      let full = edit_free (is_exhausted H rows) rows is_key schema keys edit p s w is old.3 can (λ slot x e. (new_sound slot x e).3) (has_tries rows p j made holds k) in
      no_data_breaks p (value_of k) (alike rows p j made holds edit s w (lets rows p j made holds is_key edit s w can)) (keeps edit p s (is, old.0) can) hole full none free

  -- by a part that becomes a text
  pub set_breaks : (p : InSlot) (s j : List ℕ) (slot : Slot) (x : List ℕ) → OfType rows p.0 p.1 → represented alone rows p.0 p.1 ≡ Some (T.text j) → is_holder (seen rows p) ≡ true
      → slot_to_set (seen rows p) s ≡ Some slot → MayStand is_key (seen rows p) s → OfType rows slot w → represented alone rows slot w ≡ Some (T.text x) → represented alone rows p.0 (value_of (set_part (seen rows p) s w)) ≡ None
      → IsFree (breaks rows) rows p.0 (value_of (set_part (seen rows p) s w)) → ⊥
  set_breaks p s j slot x is made holds at stands fits shown none free =
      let k = set_part (seen rows p) s w in
      let old = tree_sound H rows p.0 p.1 (T.text j) (flat_whole H rows p.0 p.1 (T.text j) made tt) in
      let new = new_sound slot x shown in
      let hole = set_free is_hole rows is_key schema keys p s slot w is old.1 at stands fits new.1 (no_holes rows p j made holds k) in
      let full = set_free (is_exhausted H rows) rows is_key schema keys p s slot w is old.3 at stands fits new.3 (has_tries rows p j made holds k) in
      no_data_breaks p (value_of k) (alike_with rows p j made holds s (Some w) (Some x) (slot, at, shown)) ((whole_is_kept rows is_key schema keys).set p s slot w (is, old.0) at stands (fits, new.0)) hole full none free
