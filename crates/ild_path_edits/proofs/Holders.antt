-- A holder in which a part is set: the part is there, the others stay, and the changed value is seen as the changed holder.
use Rattle.std.proofs.Common.{◌≡◌, ◌≢◌, ℕ, List, slice_get, Option, Some, None, refl, ap, sym, ◌∙◌}
use Rattle.std.specs.Prelude.{slice_set, option_map, option_and_then, decimal}
use Rattle.std.specs.Option.{option_map_or}
use Rattle.std.proofs.lemmas.Option.{same_Some, none-some}
use Rattle.ild_schema.proofs.Parts.{values_list-values_of, pairs_list-pairs_of, optionals_list-optionals_of}
use Rattle.ild_data.specs.Data as D
use Rattle.ild_data.specs.Data.{Data, items_of, items_list, members_of, members_list}
use Rattle.ild_data.proofs.Lists.{items_list-items_of, members_list-members_of}
use Rattle.ild_schema.specs.declared.def.Member.{Member}
use Rattle.ild_schema.specs.declared.number.Slot.{Slot}
use Rattle.ild_schema.specs.declared.row.Row.{Row}
use Rattle.ild_schema.specs.Prelude.{anything}
use Rattle.ild_schema.specs.declared.def.TypeDef.{TypeDef}
use Rattle.ild_schema.specs.declared.def.TypeDef.TheVariants as T
use Rattle.ild_schema.specs.declared.def.UnionDef.{UnionDef}
use Rattle.ild_schema.specs.Value.{Value, Values, Pairs, Optionals, values_of, values_list, pairs_of, pairs_list, optionals_of, optionals_list, null, boolean, integer, text, bytes, link, list, map, struct, union, enum, unit, any, hamt}
use Rattle.ild_schema.specs.Slots.{form_of, plainly}
use Rattle.ild_typed.proofs.Index.{index-is}
use Rattle.ild_splice_changes.proofs.Maps.{put-there, put-other}
use Rattle.ild_value_meaning.proofs.Members.{member-named}
use Rattle.ild_typed.specs.Holder.{Holder, fields, member, entries, elements, any_entries, any_elements, nothing, list_holder, map_holder, struct_holder, union_holder, is_paired, holder_of, value_of, of_any, data_in}
use Rattle.ild_typed.specs.Segment.{part, set_part, set_field, put_by, index_of, at_index, member_named, held_as}
use Rattle.ild_path_edits.specs.Table.{slot_to_set}
use Rattle.ild_path_edits.proofs.Entries.{put_by-there, put_by-other, field-there, field-other, held-named, held-other, set-there, set-elsewhere}

indices_apart : (s t : List ℕ) (i j : ℕ) → index_of s ≡ Some i → index_of t ≡ Some j → s ≢ t → i ≢ j
indices_apart s t i j a b apart same = apart (index-is s i a ∙ ap decimal same ∙ sym (index-is t j b))

-- what is set is there
mapped : {X Y : Type 0} (f : X → Y) (o : Option X) (y : Y) → option_map f o ≡ Some y → (x : X) × (o ≡ Some x)
mapped f None y h = absurd (none-some y h)
mapped f (Some x) y h = (x, refl)

element_there : {X : Type 0} (o : Option ℕ) (xs : List X) (x w : X) → option_and_then (λ i. slice_get xs i) o ≡ Some x
    → option_and_then (λ i. slice_get (at_index (λ i ys. slice_set ys i w) o xs) i) o ≡ Some w
element_there None xs x w h = absurd (none-some x h)
element_there (Some i) xs x w h = set-there xs i x w h

member_there : (ms : List Member) (n : ℕ) (v : Value) (s : List ℕ) (slot : Slot) (w : Value) (o : Option (ℕ × Member)) → member_named s ms ≡ o
    → option_map (λ (p : ℕ × Member). plainly (p.1).ty) o ≡ Some slot
    → part (option_map_or (λ (p : ℕ × Member). member ms p.0 w) o (member ms n v)) s ≡ Some (slot, w)
member_there ms n v s slot w None e h = absurd (none-some slot h)
member_there ms n v s slot w (Some p) e h = held-named s ms p w (member-named s ms p e) ∙ ap (λ r. Some (r, w)) (same_Some (plainly (p.1).ty) slot h)

pub set_part-there : (h : Holder) (s : List ℕ) (slot : Slot) (w : Value) → slot_to_set h s ≡ Some slot → (slot ≡ anything → of_any (data_in w) ≡ w)
    → part (set_part h s w) s ≡ Some (slot, w)
set_part-there (fields fs os) s slot w h inside = field-there s w fs os slot h
set_part-there (member ms n v) s slot w h inside = member_there ms n v s slot w (member_named s ms) refl h
set_part-there (entries key r paired ps) s slot w h inside = rw (put_by-there paired s w ps) (ap (λ r. Some (r, w)) (same_Some r slot h))
set_part-there (elements r vs) s slot w h inside =
    let x = mapped (λ v. r) (option_and_then (λ i. slice_get vs i) (index_of s)) slot h in
    let e = element_there (index_of s) vs x.0 w x.1 in
    ap (λ o. option_map (λ v. (r, v)) o) e ∙ ap (λ r. Some (r, w)) (same_Some r slot (sym (ap (λ o. option_map (λ v. r) o) x.1) ∙ h))
set_part-there (any_entries ms) s slot w h inside =
    let e : anything ≡ slot = same_Some anything slot h in
    rw (put-there s (data_in w) ms) (λ i. Some (e i, inside (sym e) i))
set_part-there (any_elements ds) s slot w h inside =
    let x = mapped (λ d. anything) (option_and_then (λ i. slice_get ds i) (index_of s)) slot h in
    let e : anything ≡ slot = same_Some anything slot (sym (ap (λ o. option_map (λ d. anything) o) x.1) ∙ h) in
    ap (λ o. option_map (λ d. (anything, of_any d)) o) (element_there (index_of s) ds x.0 (data_in w) x.1) ∙ (λ i. Some (e i, inside (sym e) i))
set_part-there (nothing v) s slot w h inside = absurd (none-some slot h)

-- and the others stay
element_other : {X : Type 0} (s t : List ℕ) (o p : Option ℕ) (xs : List X) (w : X) → index_of s ≡ o → index_of t ≡ p → s ≢ t
    → option_and_then (λ i. slice_get (at_index (λ i ys. slice_set ys i w) o xs) i) p ≡ option_and_then (λ i. slice_get xs i) p
element_other s t None p xs w a b apart = refl
element_other s t (Some i) None xs w a b apart = refl
element_other s t (Some i) (Some j) xs w a b apart = set-elsewhere xs i j w (indices_apart s t i j a b apart)

member_other : (ms : List Member) (n : ℕ) (v : Value) (s t : List ℕ) (q : Slot × Value) (w : Value) (o : Option (ℕ × Member)) → member_named s ms ≡ o
    → held_as s v (slice_get ms n) ≡ Some q → s ≢ t
    → part (option_map_or (λ (p : ℕ × Member). member ms p.0 w) o (member ms n v)) t ≡ held_as t v (slice_get ms n)
member_other ms n v s t q w None e h apart = refl
member_other ms n v s t q w (Some p) e h apart =
    held-other s t w (slice_get ms p.0) _ (held-named s ms p w (member-named s ms p e)) apart ∙ sym (held-other s t v (slice_get ms n) q h apart)

pub set_part-other : (h : Holder) (s t : List ℕ) (q : Slot × Value) (w : Value) → part h s ≡ Some q → s ≢ t → part (set_part h s w) t ≡ part h t
set_part-other (fields fs os) s t q w h apart = field-other s t (Some w) fs os apart
set_part-other (member ms n v) s t q w h apart = member_other ms n v s t q w (member_named s ms) refl h apart
set_part-other (entries key r paired ps) s t q w h apart = ap (λ o. option_map (λ v. (r, v)) o) (put_by-other paired s t w ps apart)
set_part-other (elements r vs) s t q w h apart = ap (λ o. option_map (λ v. (r, v)) o) (element_other s t (index_of s) (index_of t) vs w refl refl apart)
set_part-other (any_entries ms) s t q w h apart = ap (λ o. option_map (λ d. (anything, of_any d)) o) (put-other s t (data_in w) ms apart)
set_part-other (any_elements ds) s t q w h apart = ap (λ o. option_map (λ d. (anything, of_any d)) o) (element_other s t (index_of s) (index_of t) ds (data_in w) refl refl apart)
set_part-other (nothing v) s t q w h apart = refl

-- the changed value is seen as the changed holder
list_seen : (rows : List Row) (slot : Slot) (vs : Values) (s : List ℕ) (w : Value) (f : Option TypeDef) → form_of rows slot ≡ f
    → holder_of rows slot (value_of (set_part (list_holder f vs) s w)) ≡ set_part (list_holder f vs) s w
list_seen rows slot vs s w (Some (T.List elem place)) e =
    let xs = at_index (λ i ys. slice_set ys i w) (index_of s) (values_list vs) in
    ap (λ g. list_holder g (values_of xs)) e ∙ ap (λ ys. elements elem ys) (values_list-values_of xs)
list_seen rows slot vs s w f e = ap (λ g. list_holder g vs) e

pub map_seen : (rows : List Row) (slot : Slot) (ps : Pairs) (s : List ℕ) (w : Value) (f : Option TypeDef) → form_of rows slot ≡ f
    → holder_of rows slot (value_of (set_part (map_holder f ps) s w)) ≡ set_part (map_holder f ps) s w
map_seen rows slot ps s w (Some (T.Map key key_at elem place m)) e =
    let xs = put_by (is_paired m) s w (pairs_list ps) in
    ap (λ g. map_holder g (pairs_of xs)) e ∙ ap (λ ys. entries key.0 elem (is_paired m) ys) (pairs_list-pairs_of xs)
map_seen rows slot ps s w f e = ap (λ g. map_holder g ps) e

pub struct_seen : (rows : List Row) (slot : Slot) (os : Optionals) (s : List ℕ) (w : Value) (f : Option TypeDef) → form_of rows slot ≡ f
    → holder_of rows slot (value_of (set_part (struct_holder f os) s w)) ≡ set_part (struct_holder f os) s w
struct_seen rows slot os s w (Some (T.Struct r)) e =
    let xs = set_field s (Some w) r.fields (optionals_list os) in
    ap (λ g. struct_holder g (optionals_of xs)) e ∙ ap (λ ys. fields r.fields ys) (optionals_list-optionals_of xs)
struct_seen rows slot os s w f e = ap (λ g. struct_holder g os) e

member_seen : (rows : List Row) (slot : Slot) (u : UnionDef) (n : ℕ) (v w : Value) (o : Option (ℕ × Member)) → form_of rows slot ≡ Some (T.Union u)
    → holder_of rows slot (value_of (option_map_or (λ (p : ℕ × Member). member u.members p.0 w) o (member u.members n v))) ≡ option_map_or (λ (p : ℕ × Member). member u.members p.0 w) o (member u.members n v)
member_seen rows slot u n v w None e = ap (λ g. union_holder g n v) e
member_seen rows slot u n v w (Some p) e = ap (λ g. union_holder g p.0 w) e

pub union_seen : (rows : List Row) (slot : Slot) (n : ℕ) (v : Value) (s : List ℕ) (w : Value) (f : Option TypeDef) → form_of rows slot ≡ f
    → holder_of rows slot (value_of (set_part (union_holder f n v) s w)) ≡ set_part (union_holder f n v) s w
union_seen rows slot n v s w (Some (T.Union u)) e = member_seen rows slot u n v w (member_named s u.members) e
union_seen rows slot n v s w f e = ap (λ g. union_holder g n v) e

any_seen : (rows : List Row) (slot : Slot) (d : Data) (s : List ℕ) (w : Value)
    → holder_of rows slot (value_of (set_part (holder_of rows slot (any d)) s w)) ≡ set_part (holder_of rows slot (any d)) s w
any_seen rows slot D.null s w = refl
any_seen rows slot (D.boolean b) s w = refl
any_seen rows slot (D.integer n) s w = refl
any_seen rows slot (D.text x) s w = refl
any_seen rows slot (D.bytes x) s w = refl
any_seen rows slot (D.list ds) s w = ap (λ xs. any_elements xs) (items_list-items_of _)
any_seen rows slot (D.map ms) s w = ap (λ xs. any_entries xs) (members_list-members_of _)
any_seen rows slot (D.link x) s w = refl

pub set_part-seen : (rows : List Row) (slot : Slot) (v : Value) (s : List ℕ) (w : Value)
    → holder_of rows slot (value_of (set_part (holder_of rows slot v) s w)) ≡ set_part (holder_of rows slot v) s w
set_part-seen rows slot null s w = refl
set_part-seen rows slot (boolean b) s w = refl
set_part-seen rows slot (integer n) s w = refl
set_part-seen rows slot (text x) s w = refl
set_part-seen rows slot (bytes x) s w = refl
set_part-seen rows slot (link x) s w = refl
set_part-seen rows slot (list vs) s w = list_seen rows slot vs s w (form_of rows slot) refl
set_part-seen rows slot (map ps) s w = map_seen rows slot ps s w (form_of rows slot) refl
set_part-seen rows slot (struct os) s w = struct_seen rows slot os s w (form_of rows slot) refl
set_part-seen rows slot (union n v) s w = union_seen rows slot n v s w (form_of rows slot) refl
set_part-seen rows slot (enum n) s w = refl
set_part-seen rows slot unit s w = refl
set_part-seen rows slot (any d) s w = any_seen rows slot d s w
set_part-seen rows slot (hamt d) s w = refl
