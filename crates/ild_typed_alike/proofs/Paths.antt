-- The parts of alike values are alike.
use Rattle.std.proofs.Common.{◌≡◌, ℕ, ◌+◌, Bool, true, false, cond, List, [], ◌∷◌, map, Option, Some, None, option_map, slice_get, refl, sym, ap, ◌∙◌}
use Rattle.std.specs.Option.{option_map_or}
use Rattle.std.specs.Prelude.{option_and_then}
use Rattle.std.proofs.lemmas.Option.{slice_get-map}
use Rattle.ild_data.specs.Data as T
use Rattle.ild_data.specs.Data.{Data}
use Rattle.ild_data.specs.Key.{same_text, value_at}
use Rattle.ild_data_alike.specs.Blank.{blank, blank_entries}
use Rattle.ild_schema.specs.Slots.{form_of, plainly}
use Rattle.ild_schema.specs.Prelude.{anything}
use Rattle.ild_schema.specs.Value as V
use Rattle.ild_schema.specs.Value.{Value, Values, Pairs, Optionals, values_list, pairs_list, optionals_list}
use Rattle.ild_schema.specs.declared.def.Field.{Field}
use Rattle.ild_schema.specs.declared.def.Member.{Member}
use Rattle.ild_schema.specs.declared.def.TypeDef.{TypeDef}
use Rattle.ild_schema.specs.declared.def.TypeDef.TheVariants as D
use Rattle.ild_schema.specs.declared.number.Slot.{Slot}
use Rattle.ild_schema.specs.declared.row.Row.{Row}
use Rattle.ild_typed.specs.At.{InSlot, met, seen}
use Rattle.ild_typed.specs.Holder.{Holder, fields, member, entries, elements, any_entries, any_elements, nothing, of_any, any_holder, is_paired, list_holder, map_holder, struct_holder, union_holder, holder_of}
use Rattle.ild_typed.specs.Segment.{field_at, held_as, index_of, part}
use Rattle.ild_typed_alike.proofs.Texts.{items_listed, members_listed}
use Rattle.ild_typed_alike.specs.Blank.{blank_value, blank_values, blank_pairs, blank_optionals, blank_in}

-- ---- holders

abbrev blank_pair : List ℕ × Value → List ℕ × Value
blank_pair e = (e.0, blank_value e.1)

abbrev pub blank_holder : Holder → Holder
blank_holder (fields fs os) = fields fs (map (option_map blank_value) os)
blank_holder (member ms n v) = member ms n (blank_value v)
blank_holder (entries key slot paired ps) = entries key slot paired (map blank_pair ps)
blank_holder (elements slot vs) = elements slot (map blank_value vs)
blank_holder (any_entries ms) = any_entries (blank_entries ms)
blank_holder (any_elements ds) = any_elements (map blank ds)
blank_holder (nothing v) = nothing (blank_value v)

pub values_listed : (vs : Values) → values_list (blank_values vs) ≡ map blank_value (values_list vs)
values_listed V.no_values = refl
values_listed (V.value v vs) = ap (λ xs. blank_value v ∷ xs) (values_listed vs)

pub pairs_listed : (ps : Pairs) → pairs_list (blank_pairs ps) ≡ map blank_pair (pairs_list ps)
pairs_listed V.no_pairs = refl
pairs_listed (V.pair k v ps) = ap (λ xs. (k, blank_value v) ∷ xs) (pairs_listed ps)

pub optionals_listed : (os : Optionals) → optionals_list (blank_optionals os) ≡ map (option_map blank_value) (optionals_list os)
optionals_listed V.no_optionals = refl
optionals_listed (V.absent os) = ap (λ xs. None ∷ xs) (optionals_listed os)
optionals_listed (V.present v os) = ap (λ xs. Some (blank_value v) ∷ xs) (optionals_listed os)

list_held : (d : Option TypeDef) (vs : Values) → list_holder d (blank_values vs) ≡ blank_holder (list_holder d vs)
list_held None vs = refl
list_held (Some D.Bool) vs = refl
list_held (Some D.Text) vs = refl
list_held (Some D.Bytes) vs = refl
list_held (Some D.Int) vs = refl
list_held (Some D.Any) vs = refl
list_held (Some (D.Link target)) vs = refl
list_held (Some (D.Unit form)) vs = refl
list_held (Some (D.List elem at)) vs = ap (elements elem) (values_listed vs)
list_held (Some (D.Map key key_at value at form)) vs = refl
list_held (Some (D.Struct s)) vs = refl
list_held (Some (D.Union u)) vs = refl
list_held (Some (D.Enum e)) vs = refl
list_held (Some (D.Copy target)) vs = refl

map_held : (d : Option TypeDef) (ps : Pairs) → map_holder d (blank_pairs ps) ≡ blank_holder (map_holder d ps)
map_held None ps = refl
map_held (Some D.Bool) ps = refl
map_held (Some D.Text) ps = refl
map_held (Some D.Bytes) ps = refl
map_held (Some D.Int) ps = refl
map_held (Some D.Any) ps = refl
map_held (Some (D.Link target)) ps = refl
map_held (Some (D.Unit form)) ps = refl
map_held (Some (D.List elem at)) ps = refl
map_held (Some (D.Map key key_at value at form)) ps = ap (entries key.0 value (is_paired form)) (pairs_listed ps)
map_held (Some (D.Struct s)) ps = refl
map_held (Some (D.Union u)) ps = refl
map_held (Some (D.Enum e)) ps = refl
map_held (Some (D.Copy target)) ps = refl

struct_held : (d : Option TypeDef) (os : Optionals) → struct_holder d (blank_optionals os) ≡ blank_holder (struct_holder d os)
struct_held None os = refl
struct_held (Some D.Bool) os = refl
struct_held (Some D.Text) os = refl
struct_held (Some D.Bytes) os = refl
struct_held (Some D.Int) os = refl
struct_held (Some D.Any) os = refl
struct_held (Some (D.Link target)) os = refl
struct_held (Some (D.Unit form)) os = refl
struct_held (Some (D.List elem at)) os = refl
struct_held (Some (D.Map key key_at value at form)) os = refl
struct_held (Some (D.Struct s)) os = ap (fields s.fields) (optionals_listed os)
struct_held (Some (D.Union u)) os = refl
struct_held (Some (D.Enum e)) os = refl
struct_held (Some (D.Copy target)) os = refl

union_held : (d : Option TypeDef) (n : ℕ) (v : Value) → union_holder d n (blank_value v) ≡ blank_holder (union_holder d n v)
union_held None n v = refl
union_held (Some D.Bool) n v = refl
union_held (Some D.Text) n v = refl
union_held (Some D.Bytes) n v = refl
union_held (Some D.Int) n v = refl
union_held (Some D.Any) n v = refl
union_held (Some (D.Link target)) n v = refl
union_held (Some (D.Unit form)) n v = refl
union_held (Some (D.List elem at)) n v = refl
union_held (Some (D.Map key key_at value at form)) n v = refl
union_held (Some (D.Struct s)) n v = refl
union_held (Some (D.Union u)) n v = refl
union_held (Some (D.Enum e)) n v = refl
union_held (Some (D.Copy target)) n v = refl

any_held : (d : Data) → any_holder (blank d) ≡ blank_holder (any_holder d)
any_held T.null = refl
any_held (T.boolean b) = refl
any_held (T.integer n) = refl
any_held (T.text s) = refl
any_held (T.bytes s) = refl
any_held (T.list ds) = ap any_elements (items_listed ds)
any_held (T.map ms) = ap any_entries (members_listed ms)
any_held (T.link s) = refl

pub holder_held : (rows : List Row) (p : InSlot) → seen rows (blank_in p) ≡ blank_holder (seen rows p)
holder_held rows p = by p.1 where
  by : (v : Value) → holder_of rows p.0 (blank_value v) ≡ blank_holder (holder_of rows p.0 v)
  by V.null = refl
  by (V.boolean b) = refl
  by (V.integer n) = refl
  by (V.text t) = refl
  by (V.bytes t) = refl
  by (V.link t) = refl
  by (V.any d) = any_held d
  by V.unit = refl
  by (V.enum n) = refl
  by (V.hamt d) = refl
  by (V.list vs) = list_held (form_of rows p.0) vs
  by (V.map ps) = map_held (form_of rows p.0) ps
  by (V.struct os) = struct_held (form_of rows p.0) os
  by (V.union n v) = union_held (form_of rows p.0) n v

-- ---- parts

blank_of_any : (d : Data) → of_any (blank d) ≡ blank_value (of_any d)
blank_of_any T.null = refl
blank_of_any (T.boolean b) = refl
blank_of_any (T.integer n) = refl
blank_of_any (T.text s) = refl
blank_of_any (T.bytes s) = refl
blank_of_any (T.list ds) = refl
blank_of_any (T.map ms) = refl
blank_of_any (T.link s) = refl

field_part : (s : List ℕ) (fs : List Field) (os : List (Option Value)) → field_at s fs (map (option_map blank_value) os) ≡ option_map blank_in (field_at s fs os)
field_part s [] os = refl
field_part s (f ∷ fs) [] = refl
field_part s (f ∷ fs) (o ∷ os) = by (same_text s f.name) o (field_part s fs os) where
  by : (b : Bool) (o : Option Value) → field_at s fs (map (option_map blank_value) os) ≡ option_map blank_in (field_at s fs os)
      → cond b (option_map {U = InSlot} (λ v. (f.slot, v)) (option_map blank_value o)) (field_at s fs (map (option_map blank_value) os)) ≡ option_map blank_in (cond b (option_map {U = InSlot} (λ v. (f.slot, v)) o) (field_at s fs os))
  by true None rest = refl
  by true (Some v) rest = refl
  by false o rest = rest

member_part : (s : List ℕ) (v : Value) (o : Option Member) → held_as s (blank_value v) o ≡ option_map blank_in (held_as s v o)
member_part s v None = refl
member_part s v (Some m) = by (same_text s m.name) where
  by : (b : Bool) → cond b (Some (plainly m.ty, blank_value v)) None ≡ option_map blank_in (cond b (Some (plainly m.ty, v)) None)
  by true = refl
  by false = refl

value_part : {X : Type 0} (f : X → X) (s : List ℕ) (es : List (List ℕ × X)) → value_at s (map (λ (e : List ℕ × X). (e.0, f e.1)) es) ≡ option_map f (value_at s es)
value_part {X = X} f s [] = refl
value_part {X = X} f s (e ∷ es) = by (same_text s e.0) (value_part f s es) where
  by : (b : Bool) → value_at s (map (λ (e : List ℕ × X). (e.0, f e.1)) es) ≡ option_map f (value_at s es)
      → cond b (Some (f e.1)) (value_at s (map (λ (e : List ℕ × X). (e.0, f e.1)) es)) ≡ option_map f (cond b (Some e.1) (value_at s es))
  by true rest = refl
  by false rest = rest

index_part : {X : Type 0} (f : X → X) (xs : List X) (o : Option ℕ) → option_and_then (λ i. slice_get (map f xs) i) o ≡ option_map f (option_and_then (λ i. slice_get xs i) o)
index_part f xs None = refl
index_part f xs (Some i) = slice_get-map f xs i

-- in a slot, by whichever way it is made blank there
in_slot : {X : Type 0} (slot : Slot) (f : X → X) (g : X → Value) (o : Option X) → ((x : X) → g (f x) ≡ blank_value (g x)) → option_map {U = InSlot} (λ x. (slot, g x)) (option_map f o) ≡ option_map blank_in (option_map {U = InSlot} (λ x. (slot, g x)) o)
in_slot slot f g None each = refl
in_slot slot f g (Some x) each = ap (λ v. Some (slot, v)) (each x)

pub part_held : (h : Holder) (s : List ℕ) → part (blank_holder h) s ≡ option_map blank_in (part h s)
part_held (fields fs os) s = field_part s fs os
part_held (member ms n v) s = member_part s v (slice_get ms n)
part_held (entries key slot paired ps) s = ap (option_map {U = InSlot} (λ v. (slot, v))) (value_part blank_value s ps) ∙ in_slot slot blank_value (λ v. v) (value_at s ps) (λ v. refl)
part_held (elements slot vs) s =
    ap (option_map {U = InSlot} (λ v. (slot, v))) (index_part blank_value vs (index_of s)) ∙ in_slot slot blank_value (λ v. v) (option_and_then (λ i. slice_get vs i) (index_of s)) (λ v. refl)
part_held (any_entries ms) s = ap (option_map {U = InSlot} (λ d. (anything, of_any d))) (value_part blank s ms) ∙ in_slot anything blank of_any (value_at s ms) blank_of_any
part_held (any_elements ds) s =
    ap (option_map {U = InSlot} (λ d. (anything, of_any d))) (index_part blank ds (index_of s)) ∙ in_slot anything blank of_any (option_and_then (λ i. slice_get ds i) (index_of s)) blank_of_any
part_held (nothing v) s = refl

pub blank_part : (rows : List Row) (p : InSlot) (s : List ℕ) → part (seen rows (blank_in p)) s ≡ option_map blank_in (part (seen rows p) s)
blank_part rows p s = ap (λ h. part h s) (holder_held rows p) ∙ part_held (seen rows p) s

-- ---- ways

blank_met : (rows : List Row) (count : InSlot → List ℕ → ℕ) → ((p : InSlot) (k : List ℕ) → count (blank_in p) k ≡ count p k) → (path : List (List ℕ)) (p : InSlot) → met rows count (blank_in p) path ≡ met rows count p path
blank_met rows count same [] p = refl
blank_met rows count same (s ∷ ss) p =
    ap (λ n. n + option_map_or (λ q. met rows count q ss) (part (seen rows (blank_in p)) s) 0) (same p s)
    ∙ ap (λ o. count p s + option_map_or (λ q. met rows count q ss) o 0) (blank_part rows p s)
    ∙ ap (λ n. count p s + n) (by (part (seen rows p) s) (λ q. blank_met rows count same ss q))
  where
    by : (o : Option InSlot) → ((q : InSlot) → met rows count (blank_in q) ss ≡ met rows count q ss) → option_map_or (λ q. met rows count q ss) (option_map blank_in o) 0 ≡ option_map_or (λ q. met rows count q ss) o 0
    by None rest = refl
    by (Some q) rest = rest q

pub as_many : (rows : List Row) (count : InSlot → List ℕ → ℕ) → ((p : InSlot) (k : List ℕ) → count (blank_in p) k ≡ count p k)
    → (s : Slot) (v w : Value) (path : List (List ℕ)) → blank_value v ≡ blank_value w → met rows count (s, v) path ≡ met rows count (s, w) path
as_many rows count same s v w path is = sym (blank_met rows count same path (s, v)) ∙ ap (λ x. met rows count (s, x) path) is ∙ blank_met rows count same path (s, w)
