-- The representation of values is one whose changes are lifted, holder by holder.
use Rattle.ild_data.proofs.Options.{chain_some, map_some}
use Rattle.ild_data.specs.Data as D
use Rattle.ild_schema.specs.declared.def.TypeDef.TheVariants as T
use Rattle.ild_typed.specs.Layer as L
use Rattle.std.proofs.Common.{cond, ◌≡◌, ℕ, zero, suc, List, [], ◌∷◌, slice_get, Bool, true, false, Option, Some, None, refl, ap, sym, subst, ◌∙◌}
use Rattle.std.specs.Prelude.{slice_set, option_map, option_and_then}
use Rattle.std.specs.Option.{option_map_or}
use Rattle.std.proofs.lemmas.Option.{same_Some, none-some}
use Rattle.ild_data.specs.Data.{Data, items_list, members_list, members_of}
use Rattle.ild_data.specs.Tree.{IsTree}
use Rattle.ild_data.proofs.Lists.{members_of-members_list, items_of-items_list}
use Rattle.ild_data.specs.Key.{same_text, value_at, put, Rises}
use Rattle.ild_schema.specs.declared.def.TypeDef.{TypeDef}
use Rattle.ild_schema.specs.declared.def.MapForm.{MapForm}
use Rattle.ild_schema.specs.declared.def.StructDef.{StructDef}
use Rattle.ild_schema.specs.declared.def.UnionDef.{UnionDef}
use Rattle.ild_schema.specs.declared.def.Field.{Field}
use Rattle.ild_schema.specs.declared.def.Member.{Member}
use Rattle.ild_schema.specs.declared.number.Slot.{Slot}
use Rattle.ild_schema.specs.declared.number.TypeNo.{TypeNo}
use Rattle.ild_schema.specs.declared.row.Row.{Row}
use Rattle.ild_schema.specs.Prelude.{anything}
use Rattle.ild_schema.specs.Value.{Value, Values, no_values, value, Pairs, no_pairs, pair, Optionals, no_optionals, absent, present, null, boolean, integer, text, bytes, link, list, map, struct, union, enum, unit, any, hamt, values_list, pairs_list, optionals_list}
use Rattle.ild_splice_changes.specs.TreeChange.{key, replace, changed, part_at, Located, unchanged, applied}
use Rattle.ild_splice_changes.proofs.Shapes.{list_data}
use Rattle.ild_typed.specs.Strings.{map_data, cons_both}
use Rattle.ild_splice_changes.specs.Differences.{at_key}
use Rattle.ild_schema.specs.Slots.{form_of, plainly}
use Rattle.ild_typed.specs.Slots.{fields_of, element_of, member_of, slot_of}
use Rattle.ild_typed.specs.Holder.{Holder, fields, member, entries, elements, any_entries, any_elements, holder_of, value_of, is_paired, of_any, data_in, list_holder, map_holder, struct_holder, union_holder}
use Rattle.ild_typed.specs.Segment.{part, set_part, set_field, member_named, at_index, index_of}
use Rattle.ild_typed.specs.At.{InSlot, seen}
use Rattle.ild_schema.specs.Copies.{base}
use Rattle.ild_path_edits.proofs.Kept.{IsKept}
use Rattle.ild_path_changes.proofs.Represents.{Represents}
use Rattle.ild_path_changes.specs.Lift.{lift_within, struct_lift, union_lift, lift_in, lift}
use Rattle.ild_path_changes.proofs.Datas.{each, each_pair, data_of}
use Rattle.ild_path_changes.specs.Places.{field_each, each_field, field_named, field_data}
use Rattle.ild_typed.specs.Composed.{Hamts, map_form, struct_form, member_form}
use Rattle.ild_typed.specs.Represented.{layered, represented, represented_values, represented_pairs, represented_fields}
use Rattle.ild_schema.specs.Clear.{IsClear, ClearStruct, ClearUnion}
use Rattle.ild_typed.specs.OfType.{OfType, TestsKeys}
use Rattle.ild_path_changes.proofs.HaveTrees.{HasTrees}
use Rattle.ild_value_meaning.proofs.Told.{AreToldApart}
use Rattle.ild_value_meaning.proofs.ByParts.{ByParts, AreInOrder}
use Rattle.ild_path_changes.proofs.Each.{joined}
use Rattle.ild_path_edits.proofs.Holders.{set_part-seen}
use Rattle.ild_value_meaning.proofs.TypedByParts.{to_parts, from_parts}
use Rattle.ild_path_changes.proofs.Others.{map_set}
use Rattle.ild_path_edits.proofs.Typing.{entries_rise}
use Rattle.ild_path_changes.proofs.Lifting.{placed, key_there, elements_lift, map_form_lift, union_form_lift, struct_form_lift, each_field-set, field_data-each, present_field}
use Rattle.ild_path_edits.proofs.HeldTyped.{with_slot, inside_any, indexed, held_is, inside_of_type}

-- each part of what has data has data
pub each-some : {X Y : Type 0} (f : X → Option Y) (xs : List X) (ds : List Y) (i : ℕ) (x : X) → each f xs ≡ Some ds → slice_get xs i ≡ Some x → (d : Y) × (f x ≡ Some d)
each-some f [] ds i x h g = absurd (none-some x g)
each-some f (y ∷ ys) ds zero x h g = let j = joined (f y) (each f ys) ds h in (j.first, ap f (sym (same_Some y x g)) ∙ j.is_first)
each-some f (y ∷ ys) ds (suc i) x h g = let j = joined (f y) (each f ys) ds h in each-some f ys j.rest i x j.is_rest g

pair_some_at : {X Y : Type 0} (f : X → Option Y) (k : List ℕ) (p : List ℕ × X) (ps : List (List ℕ × X)) (x : X) (y : List ℕ × Y) (b : Bool) → option_map (λ y. (p.0, y)) (f p.1) ≡ Some y
    → cond b (Some p.1) (value_at k ps) ≡ Some x → (value_at k ps ≡ Some x → (d : Y) × (f x ≡ Some d)) → (d : Y) × (f x ≡ Some d)
pair_some_at f k p ps x y true a h rest = let z = map_some (λ y. (p.0, y)) (f p.1) y a in (z.0, ap f (sym (same_Some p.1 x h)) ∙ z.1)
pair_some_at f k p ps x y false a h rest = rest h

pub each_pair-some : {X Y : Type 0} (f : X → Option Y) (k : List ℕ) (ps : List (List ℕ × X)) (es : List (List ℕ × Y)) (x : X) → each_pair f ps ≡ Some es → value_at k ps ≡ Some x → (d : Y) × (f x ≡ Some d)
each_pair-some f k [] es x h g = absurd (none-some x g)
each_pair-some f k (p ∷ ps) es x h g =
    let j = joined (option_map (λ y. (p.0, y)) (f p.1)) (each_pair f ps) es h in
    pair_some_at f k p ps x j.first (same_text k p.0) j.is_first g (λ q. each_pair-some f k ps j.rest x j.is_rest q)

field_some_at : (f : Slot → Value → Option Data) (s : List ℕ) (h : Field) (fs : List Field) (o : Option Value) (os : List (Option Value)) (y : Option Data) (g : Field) (u : Value) (b : Bool) → field_each f h o ≡ Some y
    → cond b (Some h) (field_named s fs) ≡ Some g → cond b o (field_data s fs os) ≡ Some u → (field_named s fs ≡ Some g → field_data s fs os ≡ Some u → (d : Data) × (f g.slot u ≡ Some d)) → (d : Data) × (f g.slot u ≡ Some d)
field_some_at f s h fs None os y g u true a e p rest = absurd (none-some u p)
field_some_at f s h fs (Some v) os y g u true a e p rest =
    let z = map_some (λ d. Some d) (f h.slot v) y a in (z.0, (λ i. f ((sym (same_Some h g e) i).slot) (sym (same_Some v u p) i)) ∙ z.1)
field_some_at f s h fs o os y g u false a e p rest = rest e p

pub each_field-some : (f : Slot → Value → Option Data) (s : List ℕ) (fs : List Field) (os : List (Option Value)) (ds : List (Option Data)) (g : Field) (u : Value) → each_field f fs os ≡ Some ds → field_named s fs ≡ Some g
    → field_data s fs os ≡ Some u → (d : Data) × (f g.slot u ≡ Some d)
each_field-some f s [] os ds g u h e p = absurd (none-some g e)
each_field-some f s (k ∷ fs) [] ds g u h e p = absurd (none-some u p)
each_field-some f s (k ∷ fs) (o ∷ os) ds g u h e p =
    let j = joined (field_each f k o) (each_field f fs os) ds h in
    field_some_at f s k fs o os j.first g u (same_text s k.name) j.is_first e p (λ a b. each_field-some f s fs os j.rest g u j.is_rest a b)

pub each_itself : (ds : List Data) → each (λ d. Some d) ds ≡ Some ds
each_itself [] = refl
each_itself (d ∷ ds) = ap (λ o. cons_both (Some d) o) (each_itself ds)

-- pairs that stand for themselves
pub pairs_themselves : (ms : List (List ℕ × Data)) → each_pair (λ d. Some d) ms ≡ Some ms
pairs_themselves [] = refl
pairs_themselves (m ∷ ms) = ap (λ o. cons_both (Some (m.0, m.1)) o) (pairs_themselves ms)

-- the representation, holder by holder
through : {X Y Z : Type 0} (f : Y → Option Z) (g : X → Y) (o : Option X) → option_and_then f (option_map g o) ≡ option_and_then (λ x. f (g x)) o
through f g None = refl
through f g (Some x) = refl

layered_through : {X : Type 0} (at : Hamts) (F : Option TypeDef) (g : X → L.Layer Data) (o : Option X) → layered at F (option_map g o) ≡ option_and_then (λ x. layered at F (Some (g x))) o
layered_through at None g None = refl
layered_through at None g (Some x) = refl
layered_through at (Some d) g None = refl
layered_through at (Some d) g (Some x) = refl

module _ (at : Hamts) (rows : List Row) where
  values_data : (s : Slot) (vs : Values) → represented_values at rows s vs ≡ each (represented at rows s) (values_list vs)
  values_data s no_values = refl
  values_data s (value v vs) = ap (λ o. cons_both (represented at rows s v) o) (values_data s vs)

  pairs_data_of : (s : Slot) (ps : Pairs) → represented_pairs at rows s ps ≡ each_pair (represented at rows s) (pairs_list ps)
  pairs_data_of s no_pairs = refl
  pairs_data_of s (pair k v ps) = ap (λ o. cons_both (option_map (λ d. (k, d)) (represented at rows s v)) o) (pairs_data_of s ps)

  fields_data : (fs : List Field) (os : Optionals) → represented_fields at rows fs os ≡ each_field (represented at rows) fs (optionals_list os)
  fields_data fs no_optionals = refl
  fields_data [] (absent os) = refl
  fields_data [] (present v os) = refl
  fields_data (f ∷ fs) (absent os) = ap (λ o. cons_both (Some None) o) (fields_data fs os)
  fields_data (f ∷ fs) (present v os) = ap (λ o. cons_both (option_map Some (represented at rows f.slot v)) o) (fields_data fs os)

  list_data_in : (slot : Slot) (vs : Values) (f : Option TypeDef) → form_of rows slot ≡ f → represented at rows slot (list vs) ≡ data_of at f (represented at rows) slot (list_holder f vs)
  list_data_in slot vs (Some (T.List elem place)) e =
      ap (λ g. layered at g (option_map L.list (option_and_then (λ u. represented_values at rows u vs) (element_of g)))) e
      ∙ ap (λ o. layered at (Some (T.List elem place)) (option_map L.list o)) (values_data elem vs) ∙ layered_through at (Some (T.List elem place)) L.list (each (represented at rows elem) (values_list vs))
  list_data_in slot vs f e = refl

  map_data_in : (slot : Slot) (ps : Pairs) (f : Option TypeDef) → form_of rows slot ≡ f → represented at rows slot (map ps) ≡ data_of at f (represented at rows) slot (map_holder f ps)
  map_data_in slot ps (Some (T.Map kt key_at elem place m)) e =
      ap (λ g. layered at g (option_map L.map (option_and_then (λ u. represented_pairs at rows u ps) (element_of g)))) e
      ∙ ap (λ o. layered at (Some (T.Map kt key_at elem place m)) (option_map L.map o)) (pairs_data_of elem ps)
      ∙ layered_through at (Some (T.Map kt key_at elem place m)) L.map (each_pair (represented at rows elem) (pairs_list ps))
  map_data_in slot ps f e = refl

  struct_data_in : (slot : Slot) (os : Optionals) (f : Option TypeDef) → form_of rows slot ≡ f → represented at rows slot (struct os) ≡ data_of at f (represented at rows) slot (struct_holder f os)
  struct_data_in slot os (Some (T.Struct r)) e =
      ap (λ g. layered at g (option_map L.struct (represented_fields at rows (fields_of g) os))) e
      ∙ ap (λ o. layered at (Some (T.Struct r)) (option_map L.struct o)) (fields_data r.fields os) ∙ layered_through at (Some (T.Struct r)) L.struct (each_field (represented at rows) r.fields (optionals_list os))
  struct_data_in slot os f e = refl

  member_through : (u : UnionDef) (n : ℕ) (v : Value) (o : Option Member) → layered at (Some (T.Union u)) (option_map (L.union n) (option_and_then (λ s. represented at rows s v) (option_map slot_of o)))
      ≡ option_and_then (λ (m : Member). option_and_then (λ e. layered at (Some (T.Union u)) (Some (L.union n e))) (represented at rows (plainly m.ty) v)) o
  member_through u n v None = refl
  member_through u n v (Some m) = layered_through at (Some (T.Union u)) (L.union n) (represented at rows (plainly m.ty) v)

  union_data_in : (slot : Slot) (n : ℕ) (v : Value) (f : Option TypeDef) → form_of rows slot ≡ f → represented at rows slot (union n v) ≡ data_of at f (represented at rows) slot (union_holder f n v)
  union_data_in slot n v (Some (T.Union u)) e =
      ap (λ g. layered at g (option_map (L.union n) (option_and_then (λ s. represented at rows s v) (member_of g n)))) e ∙ member_through u n v (slice_get u.members n)
  union_data_in slot n v f e = refl

  pub in_holders : (slot : Slot) (v : Value) → represented at rows slot v ≡ data_of at (form_of rows slot) (represented at rows) slot (holder_of rows slot v)
  in_holders slot null = refl
  in_holders slot (boolean b) = refl
  in_holders slot (integer n) = refl
  in_holders slot (text s) = refl
  in_holders slot (bytes s) = refl
  in_holders slot (link s) = refl
  in_holders slot (list vs) = list_data_in slot vs (form_of rows slot) refl
  in_holders slot (map ps) = map_data_in slot ps (form_of rows slot) refl
  in_holders slot (struct os) = struct_data_in slot os (form_of rows slot) refl
  in_holders slot (union n v) = union_data_in slot n v (form_of rows slot) refl
  in_holders slot (enum n) = refl
  in_holders slot unit = refl
  in_holders slot (any D.null) = refl
  in_holders slot (any (D.boolean b)) = refl
  in_holders slot (any (D.integer n)) = refl
  in_holders slot (any (D.text s)) = refl
  in_holders slot (any (D.bytes s)) = refl
  in_holders slot (any (D.list ds)) = ap (λ x. layered at (form_of rows slot) (Some (L.any (D.list x)))) (sym (items_of-items_list ds))
  in_holders slot (any (D.map ms)) = ap (λ x. layered at (form_of rows slot) (Some (L.any (D.map x)))) (sym (members_of-members_list ms))
  in_holders slot (any (D.link s)) = refl
  in_holders slot (hamt d) = refl

  -- what is inside an Any stands for itself
  pub inside_data : form_of rows anything ≡ Some T.Any → (d : Data) → represented at rows anything (of_any d) ≡ Some d
  inside_data there D.null = refl
  inside_data there (D.boolean b) = ap (λ F. layered at F (Some (L.any (D.boolean b)))) there
  inside_data there (D.integer n) = ap (λ F. layered at F (Some (L.any (D.integer n)))) there
  inside_data there (D.text s) = ap (λ F. layered at F (Some (L.any (D.text s)))) there
  inside_data there (D.bytes s) = ap (λ F. layered at F (Some (L.any (D.bytes s)))) there
  inside_data there (D.list ds) = ap (λ F. layered at F (Some (L.any (D.list ds)))) there
  inside_data there (D.map ms) = ap (λ F. layered at F (Some (L.any (D.map ms)))) there
  inside_data there (D.link s) = ap (λ F. layered at F (Some (L.any (D.link s)))) there

module _ (rows : List Row) (is_key : ℕ → List ℕ → Bool) (apart : AreToldApart rows) (any_there : form_of rows anything ≡ Some T.Any) (clear : IsClear rows)
    (at : Hamts) (trees : (slot : Slot) (v : Value) (t : Data) → ByParts rows is_key slot v → represented at rows slot v ≡ Some t → IsTree t) where
  abbrev rep : Slot → Value → Option Data
  rep slot v = represented at rows slot v

  abbrev pub Of : Slot → Value → Type 0
  Of slot v = ByParts rows is_key slot v

  clear_struct : (slot : Slot) (r : StructDef) → form_of rows slot ≡ Some (T.Struct r) → ClearStruct r.form r.fields
  clear_struct slot r f = clear.types (base rows slot.ty.0) (T.Struct r) f

  clear_union : (slot : Slot) (u : UnionDef) → form_of rows slot ≡ Some (T.Union u) → ClearUnion u.form u.members
  clear_union slot u f = clear.types (base rows slot.ty.0) (T.Union u) f

  -- what a holder's law says under the form F; w is what the data become
  abbrev pub Lifts : Slot → Option TypeDef → Holder → List ℕ → InSlot → Value → Data → Located → Option Data → Type 0
  Lifts slot F h s q c d e w = (t n : Data) → part h s ≡ Some q → data_of at F (represented at rows) slot h ≡ Some t → data_of at F (represented at rows) slot (set_part h s c) ≡ Some n → w ≡ Some n → n ≡ applied (lift_in F (represented at rows) h s c w e) t

  map_lifts : (slot : Slot) (kt : TypeNo) (ka : ℕ) (val : Slot) (pl : ℕ) (g : MapForm) (ps : List (List ℕ × Value)) (s : List ℕ) (q : InSlot) (c : Value) (d : Data) (e : Located) (w : Option Data) → AreInOrder (is_paired g) ps
      → rep q.0 q.1 ≡ Some d → rep q.0 c ≡ Some (applied e d) → Lifts slot (Some (T.Map kt ka val pl g)) (entries kt.0 val (is_paired g) ps) s q c d e w
  map_lifts slot kt ka val pl g ps s q c d e w order p r t n h was now after =
      let y = with_slot val (value_at s ps) q h in
      let a = chain_some (λ es. map_form at g (L.map es)) (each_pair (rep val) ps) t was in
      map_form_lift at g (rep val) ps s y.0 c d t n e a.0 w a.1 order y.1 a.2 ((λ i. rep ((y.2 i).0) ((y.2 i).1)) ∙ p) ((λ i. rep ((y.2 i).0) c) ∙ r) now after

  list_lifts : (slot elem : Slot) (pl : ℕ) (vs : List Value) (s : List ℕ) (q : InSlot) (c : Value) (d : Data) (e : Located) (w : Option Data)
      → rep q.0 q.1 ≡ Some d → rep q.0 c ≡ Some (applied e d) → Lifts slot (Some (T.List elem pl)) (elements elem vs) s q c d e w
  list_lifts slot elem pl vs s q c d e w p r t n h was now after =
      let y = with_slot elem (option_and_then (λ i. slice_get vs i) (index_of s)) q h in
      elements_lift (rep elem) vs (index_of s) y.0 c d t n e y.1 was ((λ i. rep ((y.2 i).0) ((y.2 i).1)) ∙ p) ((λ i. rep ((y.2 i).0) c) ∙ r) now

  struct_lifts : (r : StructDef) (os : List (Option Value)) (s : List ℕ) (q : InSlot) (c : Value) (d : Data) (e : Located) (w : Option Data) (slot : Slot) → form_of rows slot ≡ Some (T.Struct r)
      → rep q.0 q.1 ≡ Some d → rep q.0 c ≡ Some (applied e d) → Lifts slot (Some (T.Struct r)) (fields r.fields os) s q c d e w
  struct_lifts r os s q c d e w slot f p v t n h was now after =
      let fs = r.fields in
      let y = present_field s fs os q h in
      let g = y.declared in
      let a = chain_some (λ ds. struct_form r.form fs ds) (each_field (represented at rows) fs os) t was in
      let old : rep g.slot q.1 ≡ Some d = ap (λ z. rep z q.1) y.slot ∙ p in
      let new : rep g.slot c ≡ Some (applied e d) = ap (λ z. rep z c) y.slot ∙ v in
      let here : field_data s fs a.0 ≡ Some d = field_data-each (represented at rows) s fs os a.0 g q.1 a.1 y.named y.held ∙ old in
      let set = each_field-set (represented at rows) s c (applied e d) fs os a.0 g a.1 y.named new in
      let made : struct_form r.form fs (set_field s (Some (applied e d)) fs a.0) ≡ Some n = sym (ap (option_and_then (λ ds. struct_form r.form fs ds)) set) ∙ now in
      struct_form_lift r.form fs a.0 s g d t n e w (clear_struct slot r f) y.named here a.2 made after
      ∙ (λ i. applied (struct_lift r.form s fs a.0 g (field_data s fs a.0) (sym new i) w e) t)
      ∙ ap (λ o. applied (option_map_or (λ g. struct_lift r.form s fs a.0 g (field_data s fs a.0) (rep g.slot c) w e) o unchanged) t) (sym y.named)
      ∙ ap (λ o. applied (option_map_or (λ ds. option_map_or (λ g. struct_lift r.form s fs ds g (field_data s fs ds) (rep g.slot c) w e) (field_named s fs) unchanged) o unchanged) t) (sym a.1)

  -- the data of a union, from those of its member
  member_data : (slot : Slot) (u : UnionDef) (m : Member) (n : ℕ) (v : Value) (d t : Data) → slice_get u.members n ≡ Some m → rep (plainly m.ty) v ≡ Some d
      → data_of at (Some (T.Union u)) (represented at rows) slot (member u.members n v) ≡ Some t → member_form u.form d m ≡ Some t
  member_data slot u m n v d t e p h =
      sym (ap (option_and_then (member_form u.form d)) e) ∙ sym (ap (option_and_then (λ x. layered at (Some (T.Union u)) (Some (L.union n x)))) p)
      ∙ sym (ap (option_and_then (λ (m : Member). option_and_then (λ x. layered at (Some (T.Union u)) (Some (L.union n x))) (rep (plainly m.ty) v))) e) ∙ h

  union_lifts : (u : UnionDef) (m : Member) (n : ℕ) (v : Value) (s : List ℕ) (q : InSlot) (c : Value) (d : Data) (e : Located) (x : Option Data) (slot : Slot) → form_of rows slot ≡ Some (T.Union u) → slice_get u.members n ≡ Some m
      → Of q.0 q.1 → rep q.0 q.1 ≡ Some d → rep q.0 c ≡ Some (applied e d) → Lifts slot (Some (T.Union u)) (member u.members n v) s q c d e x
  union_lifts u m n v s q c d e x slot f got typed p w t k h was now after =
      let y = held_is s v (slice_get u.members n) m q got h in
      let named : member_named s u.members ≡ Some (n, m) = ap (λ j. member_named j u.members) y.0 ∙ apart.unions slot u n m f got in
      let old : rep (plainly m.ty) v ≡ Some d = (λ i. rep ((y.1 i).0) ((y.1 i).1)) ∙ p in
      let new : rep (plainly m.ty) c ≡ Some (applied e d) = (λ i. rep ((y.1 i).0) c) ∙ w in
      let set : set_part (member u.members n v) s c ≡ member u.members n c = ap (λ o. option_map_or (λ (p : ℕ × Member). member u.members p.0 c) o (member u.members n v)) named in
      let made : data_of at (Some (T.Union u)) (represented at rows) slot (member u.members n c) ≡ Some k = sym (ap (data_of at (Some (T.Union u)) (represented at rows) slot) set) ∙ now in
      union_form_lift u.form m d t k e x (clear_union slot u f).keys (trees q.0 q.1 d typed p) (member_data slot u m n v d t got old was) (member_data slot u m n c (applied e d) k got new made) after
      ∙ ap (λ o. applied (option_map_or (λ m. union_lift u.form m x e) o unchanged) t) (sym got)

  -- inside an Any
  inside_old : (q : InSlot) (y d : Data) → (anything, of_any y) ≡ q → rep q.0 q.1 ≡ Some d → y ≡ d
  inside_old q y d is p = same_Some y d (sym (inside_data at rows any_there y) ∙ (λ i. rep ((is i).0) ((is i).1)) ∙ p)

  inside_new : (q : InSlot) (y d : Data) (c : Value) → (anything, of_any y) ≡ q → Of q.0 c → rep q.0 c ≡ Some d → data_in c ≡ d
  inside_new q y d c is new w =
      let slot : anything ≡ q.0 = λ i. (is i).0 in
      let c_any : of_any (data_in c) ≡ c = inside_of_type rows is_key apart any_there c (subst (λ r. Of r c) (sym slot) new) in
      same_Some (data_in c) d (sym (inside_data at rows any_there (data_in c)) ∙ (λ i. rep (slot i) (c_any i)) ∙ w)

  items_lifts : (slot : Slot) (ds : List Data) (s : List ℕ) (q : InSlot) (c : Value) (d : Data) (e : Located) (w : Option Data) → Of q.0 c → rep q.0 q.1 ≡ Some d → rep q.0 c ≡ Some (applied e d)
      → Lifts slot (Some T.Any) (any_elements ds) s q c d e w
  items_lifts slot ds s q c d e w new p r t n h was now after =
      let z = inside_any (option_and_then (λ i. slice_get ds i) (index_of s)) q h in
      elements_lift (λ d. Some d) ds (index_of s) z.0 (data_in c) d t n e z.1 (ap (option_and_then (λ ds. Some (list_data ds))) (each_itself ds) ∙ was)
      (ap Some (inside_old q z.0 d z.2 p)) (ap Some (inside_new q z.0 (applied e d) c z.2 new r))
      (ap (option_and_then (λ ds. Some (list_data ds))) (each_itself (at_index (λ i xs. slice_set xs i (data_in c)) (index_of s) ds)) ∙ now)

  members_lifts : (slot : Slot) (ms : List (List ℕ × Data)) (s : List ℕ) (q : InSlot) (c : Value) (d : Data) (e : Located) (w : Option Data) → Rises ms → Of q.0 c → rep q.0 q.1 ≡ Some d → rep q.0 c ≡ Some (applied e d)
      → Lifts slot (Some T.Any) (any_entries ms) s q c d e w
  members_lifts slot ms s q c d e w up new p r t n h was now after =
      let z = inside_any (value_at s ms) q h in
      map_form_lift_any z.0 z.1 (inside_old q z.0 d z.2 p) (inside_new q z.0 (applied e d) c z.2 new r)
    where
      map_form_lift_any : (y : Data) → value_at s ms ≡ Some y → y ≡ d → data_in c ≡ applied e d → n ≡ applied (lift_within (key s ∷ []) e) t
      map_form_lift_any y there old put_is =
          let is : map_data ms ≡ t = same_Some _ t was in
          let here : value_at s ms ≡ Some d = there ∙ ap Some old in
          let m = map_set (λ d. Some d) ms ms s (data_in c) (applied e d) (pairs_themselves ms) up (ap Some put_is) in
          let same : option_and_then (λ d. Some d) (value_at s ms) ≡ Some d = ap (option_and_then (λ d. Some d)) here in
          placed (key s ∷ []) t n d e (ap (part_at (key s ∷ [])) (sym is) ∙ key_there s ms d here)
          (sym (same_Some _ n now) ∙ ap (λ x. map_data (put s x ms)) put_is ∙ m.1 ∙ ap (λ o. applied (at_key s o (Some (applied e d))) (map_data ms)) same ∙ ap (changed (key s ∷ []) (replace (applied e d))) is)

  pub lifts_of : (slot : Slot) (v : Value) (s : List ℕ) (q : InSlot) (c : Value) (d : Data) (e : Located) (w : Option Data) → Of slot v → Of q.0 q.1 → Of q.0 c → rep q.0 q.1 ≡ Some d → rep q.0 c ≡ Some (applied e d)
      → Lifts slot (form_of rows slot) (holder_of rows slot v) s q c d e w
  lifts_of slot null s q c d e w h it new p r t n a was now after = absurd (none-some q a)
  lifts_of slot (boolean b) s q c d e w h it new p r t n a was now after = absurd (none-some q a)
  lifts_of slot (integer k) s q c d e w h it new p r t n a was now after = absurd (none-some q a)
  lifts_of slot (text y) s q c d e w h it new p r t n a was now after = absurd (none-some q a)
  lifts_of slot (bytes y) s q c d e w h it new p r t n a was now after = absurd (none-some q a)
  lifts_of slot (link y) s q c d e w h it new p r t n a was now after = absurd (none-some q a)
  lifts_of slot (list vs) s q c d e w h it new p r t n a was now after =
      (subst (λ F. Lifts slot F (list_holder F vs) s q c d e w) (sym h.2) (list_lifts slot h.0 h.1 (values_list vs) s q c d e w p r)) t n a was now after
  lifts_of slot (map ps) s q c d e w h it new p r t n a was now after =
      (subst (λ F. Lifts slot F (map_holder F ps) s q c d e w) (sym h.5) (map_lifts slot h.0 h.1 h.2 h.3 h.4 (pairs_list ps) s q c d e w h.7 p r)) t n a was now after
  lifts_of slot (struct os) s q c d e w h it new p r t n a was now after =
      (subst (λ F. Lifts slot F (struct_holder F os) s q c d e w) (sym h.1) (struct_lifts h.0 (optionals_list os) s q c d e w slot h.1 p r)) t n a was now after
  lifts_of slot (union k v) s q c d e w h it new p r t n a was now after =
      (subst (λ F. Lifts slot F (union_holder F k v) s q c d e w) (sym h.2) (union_lifts h.0 h.1 k v s q c d e w slot h.2 h.3 it p r)) t n a was now after
  lifts_of slot (any (D.list ds)) s q c d e w h it new p r t n a was now after =
      (subst (λ F. Lifts slot F (any_elements (items_list ds)) s q c d e w) (sym h.0) (items_lifts slot (items_list ds) s q c d e w new p r)) t n a was now after
  lifts_of slot (any (D.map ms)) s q c d e w h it new p r t n a was now after =
      (subst (λ F. Lifts slot F (any_entries (members_list ms)) s q c d e w) (sym h.0) (members_lifts slot (members_list ms) s q c d e w (entries_rise ms h.2) new p r)) t n a was now after
  lifts_of slot (enum k) s q c d e w h it new p r t n a was now after = absurd (none-some q a)
  lifts_of slot unit s q c d e w h it new p r t n a was now after = absurd (none-some q a)
  lifts_of slot (hamt x) s q c d e w h it new p r t n a was now after = absurd (none-some q a)
  lifts_of slot (any D.null) s q c d e w h it new p r t n a was now after = absurd (none-some q a)
  lifts_of slot (any (D.boolean b)) s q c d e w h it new p r t n a was now after = absurd (none-some q a)
  lifts_of slot (any (D.integer k)) s q c d e w h it new p r t n a was now after = absurd (none-some q a)
  lifts_of slot (any (D.text y)) s q c d e w h it new p r t n a was now after = absurd (none-some q a)
  lifts_of slot (any (D.bytes y)) s q c d e w h it new p r t n a was now after = absurd (none-some q a)
  lifts_of slot (any (D.link y)) s q c d e w h it new p r t n a was now after = absurd (none-some q a)

  -- a part of what is represented is represented
  abbrev pub HasParts : Slot → Option TypeDef → Holder → List ℕ → InSlot → Type 0
  HasParts slot F h s q = (t : Data) → part h s ≡ Some q → data_of at F (represented at rows) slot h ≡ Some t → (d : Data) × (rep q.0 q.1 ≡ Some d)

  list_parts : (slot : Slot) (F : Option TypeDef) (elem : Slot) (vs : List Value) (s : List ℕ) (q : InSlot) → HasParts slot F (elements elem vs) s q
  list_parts slot F elem vs s q t a was =
      let y = with_slot elem (option_and_then (λ i. slice_get vs i) (index_of s)) q a in
      let i = indexed vs (index_of s) y.0 y.1 in
      let b = chain_some (λ ds. layered at F (Some (L.list ds))) (each (rep elem) vs) t was in
      let z = each-some (rep elem) vs b.0 i.0 y.0 b.1 i.1 in
      (z.0, (λ i. rep ((sym y.2 i).0) ((sym y.2 i).1)) ∙ z.1)

  map_parts : (slot : Slot) (F : Option TypeDef) (k : ℕ) (val : Slot) (b : Bool) (ps : List (List ℕ × Value)) (s : List ℕ) (q : InSlot) → HasParts slot F (entries k val b ps) s q
  map_parts slot F k val b ps s q t h was =
      let y = with_slot val (value_at s ps) q h in
      let a = chain_some (λ es. layered at F (Some (L.map es))) (each_pair (rep val) ps) t was in
      let z = each_pair-some (rep val) s ps a.0 y.0 a.1 y.1 in
      (z.0, (λ i. rep ((sym y.2 i).0) ((sym y.2 i).1)) ∙ z.1)

  struct_parts : (slot : Slot) (F : Option TypeDef) (fs : List Field) (os : List (Option Value)) (s : List ℕ) (q : InSlot) → HasParts slot F (fields fs os) s q
  struct_parts slot F fs os s q t h was =
      let y = present_field s fs os q h in
      let a = chain_some (λ ds. layered at F (Some (L.struct ds))) (each_field (represented at rows) fs os) t was in
      let z = each_field-some (represented at rows) s fs os a.0 y.declared q.1 a.1 y.named y.held in
      (z.0, ap (λ r. rep r q.1) (sym y.slot) ∙ z.1)

  union_parts : (slot : Slot) (u : UnionDef) (m : Member) (n : ℕ) (v : Value) (s : List ℕ) (q : InSlot) → slice_get u.members n ≡ Some m → HasParts slot (Some (T.Union u)) (member u.members n v) s q
  union_parts slot u m n v s q got t h was =
      let y = held_is s v (slice_get u.members n) m q got h in
      let had = sym (ap (option_and_then (λ (m : Member). option_and_then (λ x. layered at (Some (T.Union u)) (Some (L.union n x))) (rep (plainly m.ty) v))) got) ∙ was in
      let a = chain_some (λ x. layered at (Some (T.Union u)) (Some (L.union n x))) (rep (plainly m.ty) v) t had in
      (a.0, (λ i. rep ((sym y.1 i).0) ((sym y.1 i).1)) ∙ a.1)

  inside_parts : (o : Option Data) (q : InSlot) → option_map (λ d. (anything, of_any d)) o ≡ Some q → (d : Data) × (rep q.0 q.1 ≡ Some d)
  inside_parts o q h = let y = inside_any o q h in (y.0, (λ i. rep ((sym y.2 i).0) ((sym y.2 i).1)) ∙ inside_data at rows any_there y.0)

  pub parts_of : (slot : Slot) (v : Value) (s : List ℕ) (q : InSlot) → Of slot v → HasParts slot (form_of rows slot) (holder_of rows slot v) s q
  parts_of slot null s q h t a was = absurd (none-some q a)
  parts_of slot (boolean b) s q h t a was = absurd (none-some q a)
  parts_of slot (integer k) s q h t a was = absurd (none-some q a)
  parts_of slot (text y) s q h t a was = absurd (none-some q a)
  parts_of slot (bytes y) s q h t a was = absurd (none-some q a)
  parts_of slot (link y) s q h t a was = absurd (none-some q a)
  parts_of slot (list vs) s q h t a was = (subst (λ F. HasParts slot F (list_holder F vs) s q) (sym h.2) (list_parts slot (Some (T.List h.0 h.1)) h.0 (values_list vs) s q)) t a was
  parts_of slot (map ps) s q h t a was =
      (subst (λ F. HasParts slot F (map_holder F ps) s q) (sym h.5) (map_parts slot (Some (T.Map h.0 h.1 h.2 h.3 h.4)) (h.0).0 h.2 (is_paired h.4) (pairs_list ps) s q)) t a was
  parts_of slot (struct os) s q h t a was = (subst (λ F. HasParts slot F (struct_holder F os) s q) (sym h.1) (struct_parts slot (Some (T.Struct h.0)) (h.0).fields (optionals_list os) s q)) t a was
  parts_of slot (union k v) s q h t a was =
      (subst (λ F. HasParts slot F (union_holder F k v) s q) (sym h.2) (union_parts slot h.0 h.1 k v s q h.3)) t a was
  parts_of slot (any (D.list ds)) s q h t a was = inside_parts (option_and_then (λ i. slice_get (items_list ds) i) (index_of s)) q a
  parts_of slot (any (D.map ms)) s q h t a was = inside_parts (value_at s (members_list ms)) q a
  parts_of slot (enum k) s q h t a was = absurd (none-some q a)
  parts_of slot unit s q h t a was = absurd (none-some q a)
  parts_of slot (hamt x) s q h t a was = absurd (none-some q a)
  parts_of slot (any D.null) s q h t a was = absurd (none-some q a)
  parts_of slot (any (D.boolean b)) s q h t a was = absurd (none-some q a)
  parts_of slot (any (D.integer k)) s q h t a was = absurd (none-some q a)
  parts_of slot (any (D.text y)) s q h t a was = absurd (none-some q a)
  parts_of slot (any (D.bytes y)) s q h t a was = absurd (none-some q a)
  parts_of slot (any (D.link y)) s q h t a was = absurd (none-some q a)

-- the representation is one whose changes are lifted, holder by holder
module _ (rows : List Row) (is_key : ℕ → List ℕ → Bool) (apart : AreToldApart rows) (any_there : form_of rows anything ≡ Some T.Any) (keys : TestsKeys rows is_key) (clear : IsClear rows)
    (at : Hamts) (has_trees : HasTrees at rows) (kept : IsKept rows is_key (λ slot v. OfType rows slot v)) where
  pub trees : (slot : Slot) (v : Value) (t : Data) → ByParts rows is_key slot v → represented at rows slot v ≡ Some t → IsTree t
  trees slot v t h e = has_trees slot v t (from_parts rows is_key keys v slot h) e

  abbrev pub to : (slot : Slot) (v : Value) → OfType rows slot v → ByParts rows is_key slot v
  to slot v h = to_parts rows is_key keys v slot h

  abbrev pub represents : Represents rows (λ slot v. OfType rows slot v) (λ slot v t. represented at rows slot v ≡ Some t)
  represents = record {
    lift = lift at rows;
    parts = λ p q s t is there was. parts_of rows is_key apart any_there clear at trees p.0 p.1 s q (to p.0 p.1 is) t there (sym (in_holders at rows p.0 p.1) ∙ was);
    lifts = λ p q s c t u d e is there new was old change now.
        lifts_of rows is_key apart any_there clear at trees p.0 p.1 s q c d e (represented at rows p.0 (value_of (set_part (seen rows p) s c))) (to p.0 p.1 is) (to q.0 q.1 (kept.parts p q s is there)) (to q.0 c new) old change t u there
        (sym (in_holders at rows p.0 p.1) ∙ was)
        (ap (data_of at (form_of rows p.0) (represented at rows) p.0) (sym (set_part-seen rows p.0 p.1 s c)) ∙ sym (in_holders at rows p.0 (value_of (set_part (seen rows p) s c))) ∙ now) now;
  }
