-- Whole values stay whole: no edit brings the root of a HAMT alone into a value.
use Rattle.std.proofs.Common.{cond, ◌≡◌, ℕ, List, [], ◌∷◌, length, slice_get, Bool, true, false, Option, Some, None, refl, subst}
use Rattle.std.specs.Prelude.{slice_set, insert, remove, option_map, option_and_then}
use Rattle.std.specs.Option.{option_map_or}
use Rattle.std.proofs.lemmas.Option.{same_Some, none-some}
use Rattle.std.proofs.lemmas.Bool.{and_parts, and_from}
use Rattle.ild_data.specs.Data as D
use Rattle.ild_data.specs.Data.{Data}
use Rattle.ild_data.specs.Key.{same_text, value_at}
use Rattle.ild_schema.specs.declared.def.TypeDef.{TypeDef}
use Rattle.ild_schema.specs.declared.def.TypeDef.TheVariants as T
use Rattle.ild_schema.specs.declared.def.Field.{Field}
use Rattle.ild_schema.specs.declared.def.Member.{Member}
use Rattle.ild_schema.specs.declared.number.Slot.{Slot}
use Rattle.ild_schema.specs.declared.row.Row.{Row}
use Rattle.ild_schema.specs.Prelude.{anything}
use Rattle.ild_schema.specs.Slots.{form_of, plainly}
use Rattle.ild_schema.specs.Value.{Value, null, boolean, integer, text, bytes, link, list, map, struct, union, enum, unit, any, hamt, Values, no_values, value, values_of, values_list, Pairs, no_pairs, pair, pairs_of, pairs_list, Optionals, no_optionals, absent, present, optionals_of, optionals_list}
use Rattle.ild_schema.specs.Whole.{is_whole, are_whole, pairs_whole, fields_whole}
use Rattle.ild_typed.specs.Holder.{Holder, fields, member, entries, elements, any_entries, any_elements, nothing, list_holder, map_holder, struct_holder, union_holder, holder_of, value_of, of_any}
use Rattle.ild_typed.specs.Segment.{part, set_part, set_field, field_at, index_of, member_named, held_as}
use Rattle.ild_typed.specs.At.{InSlot}
use Rattle.ild_path_edits.specs.Table.{new_index, insert_part, delete_part}
use Rattle.ild_path_edits.proofs.HeldTyped.{with_slot, inside_any, indexed}
use Rattle.ild_path_edits.proofs.Typing.{Each, each_got, each_with, each_inserted, each_removed, each_at, each_by, each_without, each_found}

abbrev pub W : Value → Type 0
W v = is_whole v ≡ true

abbrev EntryW : List ℕ × Value → Type 0
EntryW p = W p.1

abbrev MayW : Option Value → Type 0
MayW None = Unit {0}
MayW (Some v) = W v

values_each : (vs : Values) → are_whole vs ≡ true → Each W (values_list vs)
values_each no_values h = tt
values_each (value v vs) h = let x = and_parts (is_whole v) (are_whole vs) h in (x.0, values_each vs x.1)

each_values : (xs : List Value) → Each W xs → are_whole (values_of xs) ≡ true
each_values [] h = refl
each_values (x ∷ xs) h = and_from (is_whole x) (are_whole (values_of xs)) h.0 (each_values xs h.1)

pairs_each : (ps : Pairs) → pairs_whole ps ≡ true → Each EntryW (pairs_list ps)
pairs_each no_pairs h = tt
pairs_each (pair k v ps) h = let x = and_parts (is_whole v) (pairs_whole ps) h in (x.0, pairs_each ps x.1)

each_pairs : (xs : List (List ℕ × Value)) → Each EntryW xs → pairs_whole (pairs_of xs) ≡ true
each_pairs [] h = refl
each_pairs (x ∷ xs) h = and_from (is_whole x.1) (pairs_whole (pairs_of xs)) h.0 (each_pairs xs h.1)

fields_each : (os : Optionals) → fields_whole os ≡ true → Each MayW (optionals_list os)
fields_each no_optionals h = tt
fields_each (absent os) h = (tt, fields_each os h)
fields_each (present v os) h = let x = and_parts (is_whole v) (fields_whole os) h in (x.0, fields_each os x.1)

each_fields : (xs : List (Option Value)) → Each MayW xs → fields_whole (optionals_of xs) ≡ true
each_fields [] h = refl
each_fields (None ∷ xs) h = each_fields xs h.1
each_fields (Some v ∷ xs) h = and_from (is_whole v) (fields_whole (optionals_of xs)) h.0 (each_fields xs h.1)

-- ---- holders of whole parts

abbrev HoldsWhole : Holder → Type 0
HoldsWhole (fields fs os) = Each MayW os
HoldsWhole (member ms n v) = W v
HoldsWhole (entries key slot paired ps) = Each EntryW ps
HoldsWhole (elements slot vs) = Each W vs
HoldsWhole (any_entries ms) = Unit {0}
HoldsWhole (any_elements ds) = Unit {0}
HoldsWhole (nothing v) = W v

list_held : (f : Option TypeDef) (vs : Values) → are_whole vs ≡ true → HoldsWhole (list_holder f vs)
list_held (Some (T.List elem place)) vs h = values_each vs h
list_held f vs h = h

map_held : (f : Option TypeDef) (ps : Pairs) → pairs_whole ps ≡ true → HoldsWhole (map_holder f ps)
map_held (Some (T.Map key key_at elem place m)) ps h = pairs_each ps h
map_held f ps h = h

struct_held : (f : Option TypeDef) (os : Optionals) → fields_whole os ≡ true → HoldsWhole (struct_holder f os)
struct_held (Some (T.Struct s)) os h = fields_each os h
struct_held f os h = h

union_held : (f : Option TypeDef) (n : ℕ) (v : Value) → W v → HoldsWhole (union_holder f n v)
union_held (Some (T.Union u)) n v h = h
union_held f n v h = h

held : (rows : List Row) (slot : Slot) (v : Value) → W v → HoldsWhole (holder_of rows slot v)
held rows slot null h = h
held rows slot (boolean b) h = h
held rows slot (integer n) h = h
held rows slot (text s) h = h
held rows slot (bytes s) h = h
held rows slot (link s) h = h
held rows slot (list vs) h = list_held (form_of rows slot) vs h
held rows slot (map ps) h = map_held (form_of rows slot) ps h
held rows slot (struct os) h = struct_held (form_of rows slot) os h
held rows slot (union n v) h = union_held (form_of rows slot) n v h
held rows slot (enum n) h = h
held rows slot unit h = h
held rows slot (any D.null) h = h
held rows slot (any (D.boolean b)) h = h
held rows slot (any (D.integer n)) h = h
held rows slot (any (D.text s)) h = h
held rows slot (any (D.bytes s)) h = h
held rows slot (any (D.list ds)) h = tt
held rows slot (any (D.map ms)) h = tt
held rows slot (any (D.link s)) h = h
held rows slot (hamt d) h = h

unheld : (k : Holder) → HoldsWhole k → W (value_of k)
unheld (fields fs os) h = each_fields os h
unheld (member ms n v) h = h
unheld (entries key slot paired ps) h = each_pairs ps h
unheld (elements slot vs) h = each_values vs h
unheld (any_entries ms) h = refl
unheld (any_elements ds) h = refl
unheld (nothing v) h = h

-- ---- parts, and edits

data_whole : (d : Data) → W (of_any d)
data_whole D.null = refl
data_whole (D.boolean b) = refl
data_whole (D.integer n) = refl
data_whole (D.text s) = refl
data_whole (D.bytes s) = refl
data_whole (D.list ds) = refl
data_whole (D.map ms) = refl
data_whole (D.link s) = refl

inside_whole : (o : Option Data) (q : InSlot) → option_map (λ d. (anything, of_any d)) o ≡ Some q → W q.1
inside_whole o q h = let x = inside_any o q h in subst W (λ i. (x.2 i).1) (data_whole x.0)

field_first : (s : List ℕ) (f : Field) (fs : List Field) (o : Option Value) (os : List (Option Value)) (q : InSlot) (b : Bool) → Each MayW (o ∷ os) → cond b (option_map (λ v. (f.slot, v)) o) (field_at s fs os) ≡ Some q
    → (field_at s fs os ≡ Some q → W q.1) → W q.1
field_first s f fs None os q true h e rest = absurd (none-some q e)
field_first s f fs (Some v) os q true h e rest = subst W (λ i. (same_Some (f.slot, v) q e i).1) h.0
field_first s f fs o os q false h e rest = rest e

field_part : (s : List ℕ) (fs : List Field) (os : List (Option Value)) (q : InSlot) → Each MayW os → field_at s fs os ≡ Some q → W q.1
field_part s [] os q h e = absurd (none-some q e)
field_part s (f ∷ fs) [] q h e = absurd (none-some q e)
field_part s (f ∷ fs) (o ∷ os) q h e = field_first s f fs o os q (same_text s f.name) h e (λ g. field_part s fs os q h.1 g)

held_by : (v : Value) (m : Member) (q : InSlot) (b : Bool) → W v → cond b (Some (plainly m.ty, v)) None ≡ Some q → W q.1
held_by v m q true h e = subst W (λ i. (same_Some (plainly m.ty, v) q e i).1) h
held_by v m q false h e = absurd (none-some q e)

held_whole : (s : List ℕ) (v : Value) (o : Option Member) (q : InSlot) → W v → held_as s v o ≡ Some q → W q.1
held_whole s v None q h e = absurd (none-some q e)
held_whole s v (Some m) q h e = held_by v m q (same_text s m.name) h e

part_of : (k : Holder) (s : List ℕ) (q : InSlot) → HoldsWhole k → part k s ≡ Some q → W q.1
part_of (fields fs os) s q h e = field_part s fs os q h e
part_of (member ms n v) s q h e = held_whole s v (slice_get ms n) q h e
part_of (entries key slot paired ps) s q h e =
    let x = with_slot slot (value_at s ps) q e in
    subst W (λ j. (x.2 j).1) (each_found EntryW s x.0 ps h x.1)
part_of (elements slot vs) s q h e =
    let x = with_slot slot (option_and_then (λ i. slice_get vs i) (index_of s)) q e in
    let i = indexed vs (index_of s) x.0 x.1 in
    subst W (λ j. (x.2 j).1) (each_got W vs i.0 x.0 h i.1)
part_of (any_entries ms) s q h e = inside_whole (value_at s ms) q e
part_of (any_elements ds) s q h e = inside_whole (option_and_then (λ i. slice_get ds i) (index_of s)) q e
part_of (nothing v) s q h e = absurd (none-some q e)

set_first : (o p : Option Value) (os ns : List (Option Value)) (b : Bool) → Each MayW (p ∷ os) → MayW o → Each MayW ns → Each MayW (cond b (o ∷ os) (p ∷ ns))
set_first o p os ns true h w rest = (w, h.1)
set_first o p os ns false h w rest = (h.0, rest)

field_set : (s : List ℕ) (o : Option Value) (fs : List Field) (os : List (Option Value)) → Each MayW os → MayW o → Each MayW (set_field s o fs os)
field_set s o [] os h w = h
field_set s o (f ∷ fs) [] h w = tt
field_set s o (f ∷ fs) (p ∷ os) h w = set_first o p os (set_field s o fs os) (same_text s f.name) h w (field_set s o fs os h.1 w)

member_set : (ms : List Member) (n : ℕ) (v w : Value) (o : Option (ℕ × Member)) → W v → W w → HoldsWhole (option_map_or (λ (p : ℕ × Member). member ms p.0 w) o (member ms n v))
member_set ms n v w None h new = h
member_set ms n v w (Some p) h new = new

set_of : (k : Holder) (s : List ℕ) (w : Value) → HoldsWhole k → W w → HoldsWhole (set_part k s w)
set_of (fields fs os) s w h new = field_set s (Some w) fs os h new
set_of (member ms n v) s w h new = member_set ms n v w (member_named s ms) h new
set_of (entries key slot paired ps) s w h new = each_by EntryW paired s w ps h new
set_of (elements slot vs) s w h new = each_at W (λ i xs. slice_set xs i w) (index_of s) vs h (λ i. each_with W vs i w h new)
set_of (any_entries ms) s w h new = tt
set_of (any_elements ds) s w h new = tt
set_of (nothing v) s w h new = h

inserted_of : (k : Holder) (s : List ℕ) (w : Value) → HoldsWhole k → W w → HoldsWhole (insert_part k s w)
inserted_of (fields fs os) s w h new = set_of (fields fs os) s w h new
inserted_of (member ms n v) s w h new = set_of (member ms n v) s w h new
inserted_of (entries key slot paired ps) s w h new = set_of (entries key slot paired ps) s w h new
inserted_of (elements slot vs) s w h new = each_at W (λ i xs. insert xs i w) (new_index (length vs) s) vs h (λ i. each_inserted W vs i w h new)
inserted_of (any_entries ms) s w h new = tt
inserted_of (any_elements ds) s w h new = tt
inserted_of (nothing v) s w h new = h

deleted_of : (k : Holder) (s : List ℕ) → HoldsWhole k → HoldsWhole (delete_part k s)
deleted_of (fields fs os) s h = field_set s None fs os h tt
deleted_of (member ms n v) s h = h
deleted_of (entries key slot paired ps) s h = each_without EntryW s ps h
deleted_of (elements slot vs) s h = each_at W (λ i xs. remove xs i) (index_of s) vs h (λ i. each_removed W vs i h)
deleted_of (any_entries ms) s h = tt
deleted_of (any_elements ds) s h = tt
deleted_of (nothing v) s h = h

module _ (rows : List Row) where
  pub part_whole : (slot : Slot) (v : Value) (s : List ℕ) (q : InSlot) → W v → part (holder_of rows slot v) s ≡ Some q → W q.1
  part_whole slot v s q h e = part_of (holder_of rows slot v) s q (held rows slot v h) e

  pub set_whole : (slot : Slot) (v : Value) (s : List ℕ) (w : Value) → W v → W w → W (value_of (set_part (holder_of rows slot v) s w))
  set_whole slot v s w h new = unheld (set_part (holder_of rows slot v) s w) (set_of (holder_of rows slot v) s w (held rows slot v h) new)

  pub insert_whole : (slot : Slot) (v : Value) (s : List ℕ) (w : Value) → W v → W w → W (value_of (insert_part (holder_of rows slot v) s w))
  insert_whole slot v s w h new = unheld (insert_part (holder_of rows slot v) s w) (inserted_of (holder_of rows slot v) s w (held rows slot v h) new)

  pub delete_whole : (slot : Slot) (v : Value) (s : List ℕ) → W v → W (value_of (delete_part (holder_of rows slot v) s))
  delete_whole slot v s h = unheld (delete_part (holder_of rows slot v) s) (deleted_of (holder_of rows slot v) s (held rows slot v h))
