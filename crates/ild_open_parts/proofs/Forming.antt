-- The layer that data with a front are, by the form of their type.
use Rattle.std.proofs.Common.{◌≡◌, ℕ, List, [], ◌∷◌, ◌++◌, length, true, false, Option, Some, None, refl, sym, ◌∙◌, ap, arith}
use Rattle.std.specs.Prelude.{slice_get}
use Rattle.std.proofs.lemmas.Option.{none-some, same_Some}
use Rattle.std.proofs.lemmas.Bool.{and_parts}
use Rattle.ild_data.specs.Data as T
use Rattle.ild_data.specs.Data.{Data}
use Rattle.ild_schema.proofs.Legibly.{legible}
use Rattle.ild_schema.specs.Copies.{base}
use Rattle.ild_schema.specs.Slots.{form_of}
use Rattle.ild_schema.specs.declared.def.Field.{Field}
use Rattle.ild_schema.specs.declared.def.MapForm.{MapForm}
use Rattle.ild_schema.specs.declared.def.MapForm.TheVariants as MF
use Rattle.ild_schema.specs.declared.def.Member.{Member}
use Rattle.ild_schema.specs.declared.def.StructDef.{StructDef}
use Rattle.ild_schema.specs.declared.def.StructForm.{StructForm}
use Rattle.ild_schema.specs.declared.def.StructForm.TheVariants as S
use Rattle.ild_schema.specs.declared.def.TypeDef.{TypeDef}
use Rattle.ild_schema.specs.declared.def.TypeDef.TheVariants as D
use Rattle.ild_schema.specs.declared.def.UnionDef.{UnionDef}
use Rattle.ild_schema.specs.declared.number.Slot.{Slot}
use Rattle.ild_schema.specs.declared.number.TypeNo.{TypeNo}
use Rattle.ild_schema.specs.declared.row.Row.{Row}
use Rattle.ild_typed.specs.Composed.{composed, map_form, member_form, struct_form, union_form}
use Rattle.ild_typed.specs.Fields.{all_items, are_absent, entries_of, field_entries, tuple_items}
use Rattle.ild_typed.specs.Hamt.{alone}
use Rattle.ild_typed.specs.Layer as L
use Rattle.ild_typed.specs.Layer.{Layer, as_list, as_map, as_struct, as_union}
use Rattle.ild_typed.specs.Pieces.{is_null_there}
use Rattle.ild_typed.specs.Schema.{IsSchema}
use Rattle.ild_typed.specs.Strings.{in_key_order, listpairs, map_data, stringjoin, stringpairs}
use Rattle.ild_typed.proofs.Basics.{map_from, then_from, true_from, if_from}
use Rattle.ild_typed.proofs.Composing.{alone_tells, composed_tells}
use Rattle.ild_typed.proofs.OneValue.{Way, as_null, as_layer, way_of}
use Rattle.ild_open_held.specs.Laws.{IsFronted, is_hamt}

pub front_layer : (rows : List Row) (room : ℕ) (s : Slot) (t : Data) (d : TypeDef) → form_of rows s ≡ Some d → IsFronted rows room s t → (l : Layer Data) × (composed alone d l ≡ Some t)
front_layer rows room s t d is front = by (way_of alone rows s front.shows.0 t front.shows.2) where
  by : Way alone rows s front.shows.0 t → (l : Layer Data) × (composed alone d l ≡ Some t)
  by (as_null a n z) = let x : false ≡ true = sym front.some ∙ ap (is_null_there s) z ∙ n in absurd cc
  by (as_layer c m known there composes) = let same : c ≡ d = same_Some c d (sym known ∙ is) in (m, ap (λ k. composed alone k m) (sym same) ∙ composes)

-- data are one layer of a type
pub one_layer : (rows : List Row) → IsSchema rows → (s : Slot) (d : TypeDef) → form_of rows s ≡ Some d → (l m : Layer Data) (t : Data) → composed alone d l ≡ Some t → composed alone d m ≡ Some t → l ≡ m
one_layer rows schema s d is l m t = composed_tells alone alone_tells d ((legible rows schema.accepted).clear.types (base rows s.ty.0) d is) l m t

-- ---- lists and maps

pub record ListThere (elem : Slot) (at : ℕ) (t : Data) : Type 0 where
  pub items : List Data
  pub made : composed alone (D.List elem at) (L.list items) ≡ Some t
  pub is : t ≡ T.list (T.items_of items)

pub list_there : (rows : List Row) (room : ℕ) (s : Slot) (t : Data) (elem : Slot) (at : ℕ) → form_of rows s ≡ Some (D.List elem at) → IsFronted rows room s t → ListThere elem at t
list_there rows room s t elem at is front =
    let x = front_layer rows room s t (D.List elem at) is front in
    let y = map_from (λ ds. T.list (T.items_of ds)) (as_list x.0) t x.1 in
    record { items = y.item; made = y.made; is = sym (same_Some (T.list (T.items_of y.item)) t y.made) }

pub record MapThere (form : MapForm) (t : Data) : Type 0 where
  pub entries : List (List ℕ × Data)
  pub made : map_form alone form (L.map entries) ≡ Some t

map_made : (form : MapForm) → is_hamt form ≡ false → (l : Layer Data) (t : Data) → map_form alone form l ≡ Some t → MapThere form t
map_made MF.Map plain l t e = let x = map_from map_data (as_map l) t e in record { entries = x.item; made = x.made }
map_made MF.ListPairs plain l t e = let x = map_from listpairs (as_map l) t e in record { entries = x.item; made = x.made }
map_made (MF.StringPairs i n) plain l t e = let x = then_from (stringpairs i n) (as_map l) t e in record { entries = x.item; made = x.made }
map_made (MF.Hamt p) plain l t e = absurd cc

pub map_there : (rows : List Row) (room : ℕ) (s : Slot) (t : Data) (key : TypeNo) (key_at : ℕ) (value : Slot) (at : ℕ) (form : MapForm) → is_hamt form ≡ false
    → form_of rows s ≡ Some (D.Map key key_at value at form) → IsFronted rows room s t → MapThere form t
map_there rows room s t key key_at value at form plain is front = let x = front_layer rows room s t (D.Map key key_at value at form) is front in map_made form plain x.0 t x.1

pub map_is : (es : List (List ℕ × Data)) (t : Data) → map_form alone MF.Map (L.map es) ≡ Some t → t ≡ map_data es
map_is es t e = sym (same_Some (map_data es) t e)

pub listpairs_is : (es : List (List ℕ × Data)) (t : Data) → map_form alone MF.ListPairs (L.map es) ≡ Some t → t ≡ listpairs es
listpairs_is es t e = sym (same_Some (listpairs es) t e)

-- ---- structs

pub record StructThere (def : StructDef) (t : Data) : Type 0 where
  pub parts : List (Option Data)
  pub made : composed alone (D.Struct def) (L.struct parts) ≡ Some t

pub struct_there : (rows : List Row) (room : ℕ) (s : Slot) (t : Data) (def : StructDef) → form_of rows s ≡ Some (D.Struct def) → IsFronted rows room s t → StructThere def t
struct_there rows room s t def is front =
    let x = front_layer rows room s t (D.Struct def) is front in
    let y = then_from (struct_form def.form def.fields) (as_struct x.0) t x.1 in
    record { parts = y.item; made = y.made }

struct_in : (os ps : List (Option Data)) → L.struct os ≡ L.struct ps → os ≡ ps
struct_in os ps e = same_Some os ps (ap as_struct e)

pub one_struct : (rows : List Row) → IsSchema rows → (s : Slot) (def : StructDef) → form_of rows s ≡ Some (D.Struct def) → (os ps : List (Option Data)) (t : Data)
    → composed alone (D.Struct def) (L.struct os) ≡ Some t → composed alone (D.Struct def) (L.struct ps) ≡ Some t → os ≡ ps
one_struct rows schema s def is os ps t a b = struct_in os ps (one_layer rows schema s (D.Struct def) is (L.struct os) (L.struct ps) t a b)

entries_many : (fs : List Field) (os : List (Option Data)) (es : List (List ℕ × Data)) → field_entries fs os ≡ Some es → length fs ≡ length os
entries_many [] [] es e = refl
entries_many [] (o ∷ os) es e = absurd (none-some es e)
entries_many (f ∷ fs) [] es e = absurd (none-some es e)
entries_many (f ∷ fs) (Some d ∷ os) es e =
    let x = map_from (λ ds. entries_of f d ++ ds) (field_entries fs os) es e in
    let r = entries_many fs os x.item x.there in omega (arith, r)
entries_many (f ∷ fs) (None ∷ os) es e = let x = if_from f.optional (field_entries fs os) es e in let r = entries_many fs os es x.1 in omega (arith, r)

absent_many : (fs : List Field) (os : List (Option Data)) → are_absent fs os ≡ true → length fs ≡ length os
absent_many [] [] e = refl
absent_many [] (o ∷ os) e = absurd cc
absent_many (f ∷ fs) [] e = absurd cc
absent_many (f ∷ fs) (Some d ∷ os) e = absurd cc
absent_many (f ∷ fs) (None ∷ os) e = let x = and_parts f.optional (are_absent fs os) e in let r = absent_many fs os x.1 in omega (arith, r)

tuple_many : (fs : List Field) (os : List (Option Data)) (ds : List Data) → tuple_items fs os ≡ Some ds → length fs ≡ length os
tuple_many [] [] ds e = refl
tuple_many [] (o ∷ os) ds e = absurd (none-some ds e)
tuple_many (f ∷ fs) [] ds e = absurd (none-some ds e)
tuple_many (f ∷ fs) (Some d ∷ os) ds e = let x = map_from (λ es. d ∷ es) (tuple_items fs os) ds e in let r = tuple_many fs os x.item x.there in omega (arith, r)
tuple_many (f ∷ fs) (None ∷ os) ds e = absent_many (f ∷ fs) (None ∷ os) (true_from (are_absent (f ∷ fs) (None ∷ os)) [] ds e).0

all_many : (fs : List Field) (os : List (Option Data)) (ds : List Data) → all_items fs os ≡ Some ds → length fs ≡ length os
all_many [] [] ds e = refl
all_many [] (o ∷ os) ds e = absurd (none-some ds e)
all_many (f ∷ fs) [] ds e = absurd (none-some ds e)
all_many (f ∷ fs) (Some d ∷ os) ds e = let x = map_from (λ es. d ∷ es) (all_items fs os) ds e in let r = all_many fs os x.item x.there in omega (arith, r)
all_many (f ∷ fs) (None ∷ os) ds e = absurd (none-some ds e)

form_many : (form : StructForm) (fs : List Field) (os : List (Option Data)) (t : Data) → struct_form form fs os ≡ Some t → length fs ≡ length os
form_many S.Map fs os t e = let x = map_from (λ es. map_data (in_key_order es)) (field_entries fs os) t e in entries_many fs os x.item x.there
form_many S.Tuple fs os t e = let x = map_from (λ ds. T.list (T.items_of ds)) (tuple_items fs os) t e in tuple_many fs os x.item x.there
form_many S.ListPairs fs os t e = let x = map_from listpairs (field_entries fs os) t e in entries_many fs os x.item x.there
form_many (S.StringPairs i n) fs os t e = let x = then_from (stringpairs i n) (field_entries fs os) t e in entries_many fs os x.item x.there
form_many (S.StringJoin d) fs os t e = let x = then_from (stringjoin d) (all_items fs os) t e in all_many fs os x.item x.there

-- a struct has a part, or none, for each field
pub struct_many : (def : StructDef) (os : List (Option Data)) (t : Data) → composed alone (D.Struct def) (L.struct os) ≡ Some t → length def.fields ≡ length os
struct_many def os t e = form_many def.form def.fields os t e

-- ---- unions

pub record UnionThere (def : UnionDef) (t : Data) : Type 0 where
  pub number : ℕ
  pub member : Member
  pub there : slice_get def.members number ≡ Some member
  pub tree : Data
  pub made : composed alone (D.Union def) (L.union number tree) ≡ Some t

pub union_there : (rows : List Row) (room : ℕ) (s : Slot) (t : Data) (def : UnionDef) → form_of rows s ≡ Some (D.Union def) → IsFronted rows room s t → UnionThere def t
union_there rows room s t def is front =
    let x = front_layer rows room s t (D.Union def) is front in
    let y = then_from (union_form def.form def.members) (as_union x.0) t x.1 in
    let z = then_from (member_form def.form y.item.1) (slice_get def.members y.item.0) t y.made in
    record { number = y.item.0; member = z.item; there = z.there; tree = y.item.1; made = y.made }

pub record IsSameMember (n k : ℕ) (c d : Data) : Type 0 where
  pub number : n ≡ k
  pub tree : c ≡ d

union_in : (n k : ℕ) (c d : Data) → L.union n c ≡ L.union k d → IsSameMember n k c d
union_in n k c d e = let p : (n, c) ≡ (k, d) = same_Some (n, c) (k, d) (ap as_union e) in record { number = ap (λ q. q.0) p; tree = ap (λ q. q.1) p }

pub one_member : (rows : List Row) → IsSchema rows → (s : Slot) (def : UnionDef) → form_of rows s ≡ Some (D.Union def) → (n k : ℕ) (c d t : Data)
    → composed alone (D.Union def) (L.union n c) ≡ Some t → composed alone (D.Union def) (L.union k d) ≡ Some t → IsSameMember n k c d
one_member rows schema s def is n k c d t a b = union_in n k c d (one_layer rows schema s (D.Union def) is (L.union n c) (L.union k d) t a b)
