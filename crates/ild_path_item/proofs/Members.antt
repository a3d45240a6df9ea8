-- What a union becomes where its member is set.
use Rattle.std.proofs.Common.{◌≡◌, ℕ, suc, Bool, true, false, List, [], ◌∷◌, ◌++◌, slice_get, cond, Option, Some, None, refl, sym, ◌∙◌, ap, arith, subst}
use Rattle.std.specs.Option.{option_map_or}
use Rattle.std.specs.Prelude.{Err, IfOk, Ok, Result, option_and_then, option_map}
use Rattle.std.specs.declared.alloc.AllocError.{AllocError}
use Rattle.std.proofs.lemmas.Option.{none-some, same_Some}
use Rattle.ild_data.proofs.Options.{chain_some, map_some}
use Rattle.ild_data.specs.Data as T
use Rattle.ild_data.specs.Data.{Data}
use Rattle.ild_data.specs.Key.{put, same_text}
use Rattle.ild_path_block.specs.Changes.{Allows, node_of}
use Rattle.ild_path_block.specs.Items.{becoming}
use Rattle.ild_path_block.specs.declared.edit.PartEdit.{PartEdit}
use Rattle.ild_path_block.specs.declared.edit.PartEdit.TheVariants as E
use Rattle.ild_path_changes.proofs.Datas.{data_of}
use Rattle.ild_path_changes.proofs.Represented.{in_holders}
use Rattle.ild_path_edits.specs.Table.{never, refusal_to_delete, slot_to_insert, slot_to_set}
use Rattle.ild_path_holder.specs.Along.{is_holder}
use Rattle.ild_path_edits.proofs.Holders.{set_part-seen}
use Rattle.ild_path_item.specs.Texts.{LetsBe, Tells, becoming_with}
use Rattle.ild_path_last.specs.Change.{NewIs}
use Rattle.ild_path_steps.proofs.Holding.{Held, held_by, of_any, of_elements, of_entries, of_fields, of_member, of_nothing}
use Rattle.ild_path_steps.proofs.Leading.{member_number}
use Rattle.ild_schema.specs.DataKinds.{same_kind}
use Rattle.ild_data.specs.Hex.{bytes_of_hex}
use Rattle.ild_schema.specs.Marks.{mark_kind, mark_text}
use Rattle.ild_schema.specs.Parts.{part_named}
use Rattle.ild_schema.specs.Slots.{form_of, plainly}
use Rattle.ild_schema.specs.Value as V
use Rattle.ild_schema.specs.Value.{Value}
use Rattle.ild_schema.specs.declared.def.Member.{Member}
use Rattle.ild_schema.specs.declared.def.TypeDef.{TypeDef}
use Rattle.ild_schema.specs.declared.def.TypeDef.TheVariants as D
use Rattle.ild_schema.specs.declared.def.UnionDef.{UnionDef}
use Rattle.ild_schema.specs.declared.def.UnionForm.{UnionForm}
use Rattle.ild_schema.specs.declared.def.UnionForm.TheVariants as U
use Rattle.ild_schema.specs.declared.number.Slot.{Slot}
use Rattle.ild_schema.specs.declared.row.Row.{Row}
use Rattle.ild_typed.specs.At.{InSlot, seen}
use Rattle.ild_typed.specs.Composed.{Hamts, inlined, marked_form, member_form, union_form}
use Rattle.ild_typed.specs.Hamt.{alone}
use Rattle.ild_typed.specs.Holder.{member, value_of}
use Rattle.ild_typed.specs.Kinds.{kind_word_of}
use Rattle.ild_typed.specs.Layer as L
use Rattle.ild_typed.specs.Represented.{layered, represented}
use Rattle.ild_typed.specs.Strings.{bytes_in, map_data, members_in, text_in}
use Rattle.ild_typed.specs.Segment.{held_as, member_named, next_member, set_part}

-- the member of a name is the one with its number
named_further : (s : List ℕ) (m k : Member) (ms : List Member) (n : ℕ) (o : Option (ℕ × Member)) → option_map next_member o ≡ Some (n, m) → ((i : ℕ) → o ≡ Some (i, m) → slice_get ms i ≡ Some m) → slice_get (k ∷ ms) n ≡ Some m
named_further s m k ms n None h rest = absurd (none-some (n, m) h)
named_further s m k ms n (Some p) h rest =
    let same = same_Some (suc p.0, p.1) (n, m) h in
    ap (slice_get (k ∷ ms)) (sym (ap (λ z. z.0) same)) ∙ rest p.0 (ap (λ y. Some (p.0, y)) (ap (λ z. z.1) same))

named_from : (s : List ℕ) (m k : Member) (ms : List Member) (n : ℕ) (b : Bool) → cond b (Some (0, k)) (option_map next_member (member_named s ms)) ≡ Some (n, m) → ((i : ℕ) → member_named s ms ≡ Some (i, m) → slice_get ms i ≡ Some m) → slice_get (k ∷ ms) n ≡ Some m
named_from s m k ms n true h rest =
    let same = same_Some (0, k) (n, m) h in
    ap (slice_get (k ∷ ms)) (sym (ap (λ z. z.0) same)) ∙ ap Some (ap (λ z. z.1) same)
named_from s m k ms n false h rest = named_further s m k ms n (member_named s ms) h rest

named_there : (s : List ℕ) (m : Member) (ms : List Member) (n : ℕ) → member_named s ms ≡ Some (n, m) → slice_get ms n ≡ Some m
named_there s m [] n h = absurd (none-some (n, m) h)
named_there s m (k ∷ ms) n h = named_from s m k ms n (same_text s k.name) h (λ i e. named_there s m ms i e)

-- the member of the name, with the new part's data
pub record IsSet (rows : List Row) (w : Value) (q : InSlot) (s : List ℕ) (u : UnionDef) (x : Data) : Type 0 where
  pub number : ℕ
  pub numbered : part_named s (D.Union u) ≡ Some number
  pub is : becoming_with rows q s (Some w) ≡ union_form u.form u.members (number, x)

-- by an edit
pub record Becomes (rows : List Row) (edit : PartEdit) (w : Value) (q : InSlot) (s : List ℕ) (u : UnionDef) : Type 0 where
  pub number : ℕ
  pub part : Data
  pub numbered : part_named s (D.Union u) ≡ Some number
  pub new : NewIs (node_of edit) (Some part)
  pub is : becoming rows edit w q s ≡ union_form u.form u.members (number, part)

never_deleted : {X A : Type 0} (o : Option X) → never o ≡ None → A
never_deleted None h = absurd (none-some _ (sym h))
never_deleted (Some x) h = absurd (none-some _ (sym h))

-- a union stands as what its member is, if that is a text
textual_then : {A : Type 0} (f : A → Option Data) (o : Option A) → ((a : A) → option_map T.text (option_and_then text_in (f a)) ≡ f a) → option_map T.text (option_and_then text_in (option_and_then f o)) ≡ option_and_then f o
textual_then f None all = refl
textual_then f (Some a) all = all a

textual_if : (b : Bool) (t : List ℕ) → option_map T.text (option_and_then text_in (cond b (Some (T.text t)) None)) ≡ cond b (Some (T.text t)) None
textual_if true t = refl
textual_if false t = refl

text_made : {A : Type 0} (u : Data) (j : List ℕ) → Some u ≡ Some (T.text j) → text_in u ≡ None → A
text_made u j e none = absurd (none-some j (sym none ∙ ap text_in (same_Some u (T.text j) e)))

map_if : {A : Type 0} (b : Bool) (u : Data) (j : List ℕ) → cond b (Some u) None ≡ Some (T.text j) → text_in u ≡ None → A
map_if true u j e none = text_made u j e none
map_if false u j e none = absurd (none-some (T.text j) e)

textual : (form : UnionForm) (ms : List Member) (n k : ℕ) (y : Data) (j t : List ℕ) → union_form form ms (n, y) ≡ Some (T.text j) → option_map T.text (option_and_then text_in (union_form form ms (k, T.text t))) ≡ union_form form ms (k, T.text t)
textual U.Kinded ms n k y j t e = textual_then (member_form U.Kinded (T.text t)) (slice_get ms k) (λ m. textual_then _ (mark_kind m.mark) (λ w. textual_if (same_kind w (kind_word_of (T.text t))) t))
textual U.StringPrefix ms n k y j t e = textual_then (member_form U.StringPrefix (T.text t)) (slice_get ms k) (λ m. textual_then (marked_form U.StringPrefix (T.text t)) (mark_text m.mark) (λ name. refl))
textual U.Keyed ms n k y j t e =
    let m = chain_some (member_form U.Keyed y) (slice_get ms n) (T.text j) e in
    let x = chain_some (marked_form U.Keyed y) (mark_text (m.0).mark) (T.text j) m.2 in
    text_made (map_data ((x.0, y) ∷ [])) j x.2 refl
textual U.BytesPrefix ms n k y j t e =
    let m = chain_some (member_form U.BytesPrefix y) (slice_get ms n) (T.text j) e in
    let x = chain_some (marked_form U.BytesPrefix y) (mark_text (m.0).mark) (T.text j) m.2 in
    let f = chain_some (λ front. option_map (λ s. T.bytes (front ++ s)) (bytes_in y)) (bytes_of_hex x.0) (T.text j) x.2 in
    let z = map_some (λ s. T.bytes (f.0 ++ s)) (bytes_in y) (T.text j) f.2 in
    text_made (T.bytes (f.0 ++ z.0)) j (ap Some z.2) refl
textual (U.Envelope key content) ms n k y j t e =
    let m = chain_some (member_form (U.Envelope key content) y) (slice_get ms n) (T.text j) e in
    let x = chain_some (marked_form (U.Envelope key content) y) (mark_text (m.0).mark) (T.text j) m.2 in
    text_made (map_data (put key (T.text x.0) ((content, y) ∷ []))) j x.2 refl
textual (U.Inline key) ms n k y j t e =
    let m = chain_some (member_form (U.Inline key) y) (slice_get ms n) (T.text j) e in
    let x = chain_some (marked_form (U.Inline key) y) (mark_text (m.0).mark) (T.text j) m.2 in
    let z = chain_some (inlined key x.0) (members_in y) (T.text j) x.2 in
    map_if _ (map_data (put key (T.text x.0) z.0)) j z.2 refl

-- what it becomes, in a block or as a whole
pub union_becomes : (at : Hamts) (rows : List Row) (q : InSlot) (s : List ℕ) (w : Value) (u : UnionDef) (v : Value) (n k : ℕ) (m : Member) (x : Data) → form_of rows q.0 ≡ Some (D.Union u) → seen rows q ≡ member u.members n v → member_named s u.members ≡ Some (k, m)
    → represented at rows (plainly m.ty) w ≡ Some x → represented at rows q.0 (value_of (set_part (seen rows q) s w)) ≡ union_form u.form u.members (k, x)
union_becomes at rows q s w u v n k m x known is named held =
    let got = named_there s m u.members k named in
    let to : set_part (seen rows q) s w ≡ member u.members k w = ap (λ h. set_part h s w) is ∙ ap (λ o. option_map_or (λ (p : ℕ × Member). member u.members p.0 w) o (member u.members n v)) named in
    in_holders at rows q.0 (value_of (set_part (seen rows q) s w)) ∙ ap (data_of at (form_of rows q.0) (represented at rows) q.0) (set_part-seen rows q.0 q.1 s w ∙ to)
    ∙ (λ i. option_and_then (λ (m : Member). option_and_then (λ e. layered at (known i) (Some (L.union k e))) (represented at rows (plainly m.ty) w)) (got i))
    ∙ ap (option_and_then (λ e. layered at (Some (D.Union u)) (Some (L.union k e)))) held

module _ (rows : List Row) (q : InSlot) (s : List ℕ) (w : Value) (u : UnionDef) (known : form_of rows q.0 ≡ Some (D.Union u)) where
  module _ (v : Value) (n : ℕ) (is : seen rows q ≡ member u.members n v) where
    set_member : (slot : Slot) (x : Data) → slot_to_set (seen rows q) s ≡ Some slot → represented alone rows slot w ≡ Some x → IsSet rows w q s u x
    set_member slot x there part_is =
        let y = map_some (λ (p : ℕ × Member). plainly (p.1).ty) (member_named s u.members) slot (sym (ap (λ h. slot_to_set h s) is) ∙ there) in
        let k = (y.0).0 in
        let m = (y.0).1 in
        let held : represented alone rows (plainly m.ty) w ≡ Some x = ap (λ r. represented alone rows r w) y.2 ∙ part_is in
        record { number = k; numbered = member_number s 0 k m u.members y.1 ∙ ap Some (omega arith); is = union_becomes alone rows q s w u v n k m x known is y.1 held }

    by_edit : (edit : PartEdit) → Allows rows edit (seen rows q) s w → Becomes rows edit w q s u
    by_edit (E.Set node) h = let x = set_member h.0 h.2.tree h.1 h.2.tree_is in record { number = x.number; part = h.2.tree; numbered = x.numbered; new = h.2.stands; is = x.is }
    by_edit (E.Insert node) h = absurd (none-some h.0 (sym (ap (λ h. slot_to_insert h s) is) ∙ h.1))
    by_edit E.Delete h = never_deleted (held_as s v (slice_get u.members n)) (sym (ap (λ h. refusal_to_delete h s) is) ∙ h)

  abbrev members_in_type : TypeDef → UnionDef
  members_in_type (D.Union j) = j
  members_in_type d = u

  -- its member
  record IsMember (t : Data) : Type 0 where
    value : Value
    number : ℕ
    held : Data
    is : seen rows q ≡ member u.members number value
    made : union_form u.form u.members (number, held) ≡ Some t

  is_member : (t : Data) → represented alone rows q.0 q.1 ≡ Some t → is_holder (seen rows q) ≡ true → IsMember t
  is_member t made holds = by (held_by rows q.0 t (D.Union u) known q.1 made) where
    by : Held rows (D.Union u) (seen rows q) t → IsMember t
    by (of_member j n v m y e k a b g) =
        let same : j ≡ u = ap members_in_type (sym e) in
        record {
          value = v;
          number = n;
          held = y;
          is = k ∙ ap (λ z. member z.members n v) same;
          made = subst (λ z. union_form z.form z.members (n, y) ≡ Some t) same (ap (option_and_then (member_form j.form y)) a ∙ g);
        }
    by (of_any e k) = absurd cc
    by (of_fields r os ds e k a b) = absurd cc
    by (of_entries l l_at el pl form ps es e k a b) = absurd cc
    by (of_elements el pl vs ds e k a b) = absurd cc
    by (of_nothing v k) = let wrong : false ≡ true = sym (ap is_holder k) ∙ holds in absurd cc

  pub member_becomes : (edit : PartEdit) (t : Data) → represented alone rows q.0 q.1 ≡ Some t → is_holder (seen rows q) ≡ true → Allows rows edit (seen rows q) s w → Becomes rows edit w q s u
  member_becomes edit t made holds h = let m = is_member t made holds in by_edit m.value m.number m.is edit h

-- as a text
pub member_told : (rows : List Row) (q : InSlot) (s : List ℕ) (u : UnionDef) → form_of rows q.0 ≡ Some (D.Union u) → (o : Option Value) (new : Option (List ℕ)) (j : List ℕ) (r : Result (Option (List ℕ)) AllocError) → represented alone rows q.0 q.1 ≡ Some (T.text j)
    → is_holder (seen rows q) ≡ true → LetsBe rows (seen rows q) s o (option_map T.text new)
    → ((k : ℕ) (t : List ℕ) → part_named s (D.Union u) ≡ Some k → new ≡ Some t → IfOk r (λ x. x ≡ option_and_then text_in (union_form u.form u.members (k, T.text t)))) → Tells (becoming_with rows q s o) r
member_told rows q s u known None (Some t) j r made holds lets all = absurd lets
member_told rows q s u known (Some w) None j r made holds lets all = absurd lets
member_told rows q s u known None None j r made holds lets all =
    let m = is_member rows q s V.null u known (T.text j) made holds in
    never_deleted (held_as s m.value (slice_get u.members m.number)) (sym (ap (λ h. refusal_to_delete h s) m.is) ∙ lets)
member_told rows q s u known (Some w) (Some t) j r made holds lets all =
    let m = is_member rows q s w u known (T.text j) made holds in
    let x = set_member rows q s w u known m.value m.number m.is lets.0 (T.text t) lets.1 lets.2 in
    to (union_form u.form u.members (x.number, T.text t)) r (textual u.form u.members m.number x.number m.held j t m.made) x.is (all x.number t x.numbered refl)
  where
    to : (y : Option Data) (r : Result (Option (List ℕ)) AllocError) → option_map T.text (option_and_then text_in y) ≡ y → becoming_with rows q s (Some w) ≡ y → IfOk r (λ x. x ≡ option_and_then text_in y) → Tells (becoming_with rows q s (Some w)) r
    to y (Ok x) same is h = ap (option_map T.text) h ∙ same ∙ sym is
    to y (Err e) same is h = h
