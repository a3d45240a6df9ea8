-- A value in which a part is inserted or deleted is seen as the changed holder.
use Rattle.std.proofs.Common.{◌≡◌, ℕ, List, length, insert, Option, Some, None, refl, ap, ◌∙◌}
use Rattle.std.specs.Prelude.{remove}
use Rattle.ild_schema.proofs.Parts.{values_list-values_of, pairs_list-pairs_of, optionals_list-optionals_of}
use Rattle.ild_data.specs.Data as D
use Rattle.ild_data.specs.Key.{without}
use Rattle.ild_data.proofs.Lists.{items_list-items_of, members_list-members_of}
use Rattle.ild_schema.specs.declared.def.TypeDef.{TypeDef}
use Rattle.ild_schema.specs.declared.def.TypeDef.TheVariants as T
use Rattle.ild_schema.specs.declared.number.Slot.{Slot}
use Rattle.ild_schema.specs.declared.row.Row.{Row}
use Rattle.ild_schema.specs.Slots.{form_of}
use Rattle.ild_schema.specs.Value.{Value, Values, Pairs, Optionals, null, boolean, integer, text, bytes, link, list, map, struct, union, enum, unit, any, hamt, values_of, values_list, pairs_of, pairs_list, optionals_of, optionals_list}
use Rattle.ild_typed.specs.Holder.{fields, entries, elements, any_entries, any_elements, is_paired, list_holder, map_holder, struct_holder, union_holder, holder_of, value_of}
use Rattle.ild_typed.specs.Segment.{at_index, index_of, set_field}
use Rattle.ild_path_edits.specs.Table.{new_index, insert_part, delete_part}
use Rattle.ild_path_edits.proofs.Holders.{set_part-seen, map_seen, struct_seen, union_seen}

-- the changed value is seen as the changed holder
list_inserted : (rows : List Row) (slot : Slot) (vs : Values) (s : List ℕ) (w : Value) (f : Option TypeDef) → form_of rows slot ≡ f
    → holder_of rows slot (value_of (insert_part (list_holder f vs) s w)) ≡ insert_part (list_holder f vs) s w
list_inserted rows slot vs s w (Some (T.List elem place)) e =
    let xs = at_index (λ i ys. insert ys i w) (new_index (length (values_list vs)) s) (values_list vs) in
    ap (λ g. list_holder g (values_of xs)) e ∙ ap (λ ys. elements elem ys) (values_list-values_of xs)
list_inserted rows slot vs s w f e = ap (λ g. list_holder g vs) e

map_inserted : (rows : List Row) (slot : Slot) (ps : Pairs) (s : List ℕ) (w : Value) (f : Option TypeDef) → form_of rows slot ≡ f
    → holder_of rows slot (value_of (insert_part (map_holder f ps) s w)) ≡ insert_part (map_holder f ps) s w
map_inserted rows slot ps s w (Some (T.Map key key_at elem place m)) e = map_seen rows slot ps s w (Some (T.Map key key_at elem place m)) e
map_inserted rows slot ps s w f e = ap (λ g. map_holder g ps) e

struct_inserted : (rows : List Row) (slot : Slot) (os : Optionals) (s : List ℕ) (w : Value) (f : Option TypeDef) → form_of rows slot ≡ f
    → holder_of rows slot (value_of (insert_part (struct_holder f os) s w)) ≡ insert_part (struct_holder f os) s w
struct_inserted rows slot os s w (Some (T.Struct r)) e = struct_seen rows slot os s w (Some (T.Struct r)) e
struct_inserted rows slot os s w f e = ap (λ g. struct_holder g os) e

union_inserted : (rows : List Row) (slot : Slot) (n : ℕ) (v : Value) (s : List ℕ) (w : Value) (f : Option TypeDef) → form_of rows slot ≡ f
    → holder_of rows slot (value_of (insert_part (union_holder f n v) s w)) ≡ insert_part (union_holder f n v) s w
union_inserted rows slot n v s w (Some (T.Union u)) e = union_seen rows slot n v s w (Some (T.Union u)) e
union_inserted rows slot n v s w f e = ap (λ g. union_holder g n v) e

list_deleted : (rows : List Row) (slot : Slot) (vs : Values) (s : List ℕ) (f : Option TypeDef) → form_of rows slot ≡ f
    → holder_of rows slot (value_of (delete_part (list_holder f vs) s)) ≡ delete_part (list_holder f vs) s
list_deleted rows slot vs s (Some (T.List elem place)) e =
    let xs = at_index (λ i ys. remove ys i) (index_of s) (values_list vs) in
    ap (λ g. list_holder g (values_of xs)) e ∙ ap (λ ys. elements elem ys) (values_list-values_of xs)
list_deleted rows slot vs s f e = ap (λ g. list_holder g vs) e

map_deleted : (rows : List Row) (slot : Slot) (ps : Pairs) (s : List ℕ) (f : Option TypeDef) → form_of rows slot ≡ f
    → holder_of rows slot (value_of (delete_part (map_holder f ps) s)) ≡ delete_part (map_holder f ps) s
map_deleted rows slot ps s (Some (T.Map key key_at elem place m)) e =
    let xs = without s (pairs_list ps) in
    ap (λ g. map_holder g (pairs_of xs)) e ∙ ap (λ ys. entries key.0 elem (is_paired m) ys) (pairs_list-pairs_of xs)
map_deleted rows slot ps s f e = ap (λ g. map_holder g ps) e

struct_deleted : (rows : List Row) (slot : Slot) (os : Optionals) (s : List ℕ) (f : Option TypeDef) → form_of rows slot ≡ f
    → holder_of rows slot (value_of (delete_part (struct_holder f os) s)) ≡ delete_part (struct_holder f os) s
struct_deleted rows slot os s (Some (T.Struct r)) e =
    let xs = set_field s None r.fields (optionals_list os) in
    ap (λ g. struct_holder g (optionals_of xs)) e ∙ ap (λ ys. fields r.fields ys) (optionals_list-optionals_of xs)
struct_deleted rows slot os s f e = ap (λ g. struct_holder g os) e

union_deleted : (rows : List Row) (slot : Slot) (n : ℕ) (v : Value) (s : List ℕ) (f : Option TypeDef) → form_of rows slot ≡ f
    → holder_of rows slot (value_of (delete_part (union_holder f n v) s)) ≡ delete_part (union_holder f n v) s
union_deleted rows slot n v s (Some (T.Union u)) e = ap (λ g. union_holder g n v) e
union_deleted rows slot n v s f e = ap (λ g. union_holder g n v) e

pub insert_part-seen : (rows : List Row) (slot : Slot) (v : Value) (s : List ℕ) (w : Value) → holder_of rows slot (value_of (insert_part (holder_of rows slot v) s w)) ≡ insert_part (holder_of rows slot v) s w
insert_part-seen rows slot null s w = refl
insert_part-seen rows slot (boolean b) s w = refl
insert_part-seen rows slot (integer n) s w = refl
insert_part-seen rows slot (text x) s w = refl
insert_part-seen rows slot (bytes x) s w = refl
insert_part-seen rows slot (link x) s w = refl
insert_part-seen rows slot (enum n) s w = refl
insert_part-seen rows slot unit s w = refl
insert_part-seen rows slot (hamt d) s w = refl
insert_part-seen rows slot (any D.null) s w = refl
insert_part-seen rows slot (any (D.boolean b)) s w = refl
insert_part-seen rows slot (any (D.integer n)) s w = refl
insert_part-seen rows slot (any (D.text x)) s w = refl
insert_part-seen rows slot (any (D.bytes x)) s w = refl
insert_part-seen rows slot (any (D.link x)) s w = refl
insert_part-seen rows slot (list vs) s w = list_inserted rows slot vs s w (form_of rows slot) refl
insert_part-seen rows slot (map ps) s w = map_inserted rows slot ps s w (form_of rows slot) refl
insert_part-seen rows slot (struct os) s w = struct_inserted rows slot os s w (form_of rows slot) refl
insert_part-seen rows slot (union n v) s w = union_inserted rows slot n v s w (form_of rows slot) refl
insert_part-seen rows slot (any (D.list ds)) s w = ap (λ xs. any_elements xs) (items_list-items_of _)
insert_part-seen rows slot (any (D.map ms)) s w = set_part-seen rows slot (any (D.map ms)) s w

pub delete_part-seen : (rows : List Row) (slot : Slot) (v : Value) (s : List ℕ) → holder_of rows slot (value_of (delete_part (holder_of rows slot v) s)) ≡ delete_part (holder_of rows slot v) s
delete_part-seen rows slot null s = refl
delete_part-seen rows slot (boolean b) s = refl
delete_part-seen rows slot (integer n) s = refl
delete_part-seen rows slot (text x) s = refl
delete_part-seen rows slot (bytes x) s = refl
delete_part-seen rows slot (link x) s = refl
delete_part-seen rows slot (enum n) s = refl
delete_part-seen rows slot unit s = refl
delete_part-seen rows slot (hamt d) s = refl
delete_part-seen rows slot (any D.null) s = refl
delete_part-seen rows slot (any (D.boolean b)) s = refl
delete_part-seen rows slot (any (D.integer n)) s = refl
delete_part-seen rows slot (any (D.text x)) s = refl
delete_part-seen rows slot (any (D.bytes x)) s = refl
delete_part-seen rows slot (any (D.link x)) s = refl
delete_part-seen rows slot (list vs) s = list_deleted rows slot vs s (form_of rows slot) refl
delete_part-seen rows slot (map ps) s = map_deleted rows slot ps s (form_of rows slot) refl
delete_part-seen rows slot (struct os) s = struct_deleted rows slot os s (form_of rows slot) refl
delete_part-seen rows slot (union n v) s = union_deleted rows slot n v s (form_of rows slot) refl
delete_part-seen rows slot (any (D.list ds)) s = ap (λ xs. any_elements xs) (items_list-items_of _)
delete_part-seen rows slot (any (D.map ms)) s = ap (λ xs. any_entries xs) (members_list-members_of _)
