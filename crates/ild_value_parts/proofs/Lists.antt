-- Lists of names and shown parts, made part by part.
use Rattle.std.proofs.Common.{◌≡◌, ℕ, suc, ◌+◌, ◌<◌, ◌≤◌, List, [], ◌∷◌, ◌++◌, length, map, take, Option, Some, None, option_map, refl, sym, ap, ◌∙◌, arith, add-one, length-append}
use Rattle.std.specs.Prelude.{pos, slice_get}
use Prim.Native.Nat.{min}
use Rattle.std.proofs.lemmas.List.{map-append}
use Rattle.ild_data.specs.Data as D
use Rattle.ild_data.specs.Data.{Data, Items, items_list, items_of, members_list}
use Rattle.ild_data.proofs.Lists.{items_of-items_list}
use Rattle.std.proofs.lemmas.Option.{none-some, same_Some}
use Rattle.ild_schema.specs.declared.def.MapForm.{MapForm}
use Rattle.ild_schema.specs.declared.number.TypeNo.{TypeNo}
use Rattle.ild_script_meaning.specs.Reads.{counted, numbered, pair_of, parts, present_fields, walked}
use Rattle.ild_schema.specs.Prelude.{anything}
use Rattle.ild_schema.specs.Slots.{form_of}
use Rattle.ild_schema.specs.Value.{Value}
use Rattle.ild_schema.specs.Value as V
use Rattle.ild_schema.specs.declared.def.Field.{Field}
use Rattle.ild_schema.specs.declared.def.TypeDef.{TypeDef}
use Rattle.ild_schema.specs.declared.def.TypeDef.TheVariants as T
use Rattle.ild_schema.specs.declared.number.Slot.{Slot}
use Rattle.ild_schema.specs.declared.row.Row.{Row}
use Rattle.ild_value_shown.proofs.Forms.{present_shown}
use Rattle.ild_value_shown.proofs.Fronts.{take_next, take_past}
use Rattle.ild_typed.specs.At.{InSlot, seen}
use Rattle.ild_typed.specs.Holder.{Holder, list_holder, map_holder, of_any}
use Rattle.ild_typed.specs.Shown.{shown}
use Rattle.ild_value_parts.specs.Lists.{IsListedIn, any_elements, any_entries, elements, entries, fields, items_from, named, show}

-- ---- under indices

pub length-items_from : (i : ℕ) (ds : List Data) → length (items_from i ds) ≡ length ds
length-items_from i [] = refl
length-items_from i (d ∷ ds) = ap suc (length-items_from (i + 1) ds)

pub plus_none : (i : ℕ) → i ≡ i + 0
plus_none i = omega arith

pub zero_plus : (n : ℕ) → n ≡ 0 + n
zero_plus n = omega arith

plus_one : (i n : ℕ) → i + 1 + n ≡ i + suc n
plus_one i n = omega arith

items_from-more : (i : ℕ) (ds : List Data) (d : Data) → items_from i (ds ++ d ∷ []) ≡ items_from i ds ++ named (D.integer (pos (i + length ds))) d ∷ []
items_from-more i [] d = ap (λ n. named (D.integer (pos n)) d ∷ []) (plus_none i)
items_from-more i (e ∷ ds) d = ap (λ xs. named (D.integer (pos i)) e ∷ xs) (items_from-more (i + 1) ds d ∙ ap (λ n. items_from (i + 1) ds ++ named (D.integer (pos n)) d ∷ []) (plus_one i (length ds)))

pub num_none : {A : Type 0} (f : A → Data) (xs : List A) (ys : List Data) → ys ≡ [] → ys ≡ items_from 0 (map f (take (length ys) xs))
num_none f xs [] e = refl
num_none f xs (y ∷ ys) e = absurd cc

pub num_more : {A : Type 0} (f : A → Data) (xs : List A) (ys zs : List Data) (n : ℕ) (x : A) (y : Data) → ys ≡ items_from 0 (map f (take (length ys) xs)) → n ≡ length ys → Some x ≡ slice_get xs n
    → y ≡ named (D.integer (pos n)) (f x) → zs ≡ ys ++ y ∷ [] → zs ≡ items_from 0 (map f (take (length zs) xs))
num_more {A} f xs ys zs n x y made at there is more =
    let front = map f (take (length ys) xs) in
    let long : length front ≡ n = sym (length-items_from 0 front) ∙ ap length (sym made) ∙ sym at in
    let count : length zs ≡ suc (length ys) = ap length more ∙ length-append ys (y ∷ []) ∙ add-one (length ys) in
    let next = take_next xs (length ys) x (ap (slice_get xs) (sym at) ∙ sym there) in
    more ∙ ap (λ ws. ws ++ y ∷ []) made ∙ ap (λ w. items_from 0 front ++ w ∷ []) (is ∙ ap (λ m. named (D.integer (pos m)) (f x)) (sym long ∙ zero_plus (length front)))
    ∙ sym (items_from-more 0 front (f x)) ∙ ap (items_from 0) (sym (map-append f (take (length ys) xs) (x ∷ []))) ∙ ap (λ ws. items_from 0 (map f ws)) (sym next) ∙ ap (λ m. items_from 0 (map f (take m xs))) (sym count)

pub num_all : {A : Type 0} (f : A → Data) (xs : List A) (ys : List Data) (n : ℕ) → ys ≡ items_from 0 (map f (take (length ys) xs)) → n ≡ length ys → None ≡ slice_get xs n → ys ≡ items_from 0 (map f xs)
num_all f xs ys n made at past = made ∙ ap (λ zs. items_from 0 (map f zs)) (take_past xs (length ys) (ap (slice_get xs) (sym at) ∙ sym past))

numbered_items : {X : Type 0} (rows : List Row) (place : X → InSlot) (i : ℕ) (xs : List X) → map (pair_of (show rows)) (numbered place i xs) ≡ items_from i (map (λ x. show rows (place x)) xs)
numbered_items rows place i [] = refl
numbered_items rows place i (x ∷ xs) = ap (λ ds. named (D.integer (pos i)) (show rows (place x)) ∷ ds) (numbered_items rows place (i + 1) xs)

pub elements_items : (rows : List Row) (elem : Slot) (vs : List Value) → elements rows elem vs ≡ items_from 0 (map (λ v. shown rows elem v) vs)
elements_items rows elem vs = numbered_items rows (λ v. (elem, v)) 0 vs

abbrev pub itself : Data → Data
itself d = d

pub map_itself : (ds : List Data) → map itself ds ≡ ds
map_itself [] = refl
map_itself (d ∷ ds) = ap (λ es. d ∷ es) (map_itself ds)

-- ---- fields

abbrev pub named_entry : List ℕ × Data → Data
named_entry e = named (D.text e.0) e.1

pub fields_named : (rows : List Row) (fs : List Field) (os : List (Option Value)) → fields rows fs os ≡ map named_entry (present_shown rows fs os)
fields_named rows [] [] = refl
fields_named rows [] (o ∷ os) = refl
fields_named rows (f ∷ fs) [] = refl
fields_named rows (f ∷ fs) (None ∷ os) = fields_named rows fs os
fields_named rows (f ∷ fs) (Some v ∷ os) = ap (λ ds. named (D.text f.name) (shown rows f.slot v) ∷ ds) (fields_named rows fs os)

pub fields_count : (rows : List Row) (fs : List Field) (os : List (Option Value)) → length (present_fields fs os) ≡ length (present_shown rows fs os)
fields_count rows [] [] = refl
fields_count rows [] (o ∷ os) = refl
fields_count rows (f ∷ fs) [] = refl
fields_count rows (f ∷ fs) (None ∷ os) = fields_count rows fs os
fields_count rows (f ∷ fs) (Some v ∷ os) = ap suc (fields_count rows fs os)

none_most : (n : ℕ) → 0 ≤ n
none_most n = omega arith

fewer_most : (n m : ℕ) → n ≤ m → n ≤ suc m
fewer_most n m h = omega (arith, h)

one_most : (n m : ℕ) → n ≤ m → suc n ≤ suc m
one_most n m h = omega (arith, h)

-- no more fields are present than there are values
pub present_most : (fs : List Field) (os : List (Option Value)) → length (present_fields fs os) ≤ length os
present_most [] [] = none_most 0
present_most [] (o ∷ os) = none_most (suc (length os))
present_most (f ∷ fs) [] = none_most 0
present_most (f ∷ fs) (None ∷ os) = fewer_most (length (present_fields fs os)) (length os) (present_most fs os)
present_most (f ∷ fs) (Some v ∷ os) = one_most (length (present_fields fs os)) (length os) (present_most fs os)

-- a count that does not reach the end of its type
pub stays_exact : (a r l n m : ℕ) → m ≡ min (a + 1) 18446744073709551615 → a + suc r ≡ l → l ≤ n → n < 18446744073709551616 → m ≡ a + 1
stays_exact a r l n m is adds most fits = omega (arith, is, adds, most, fits)

pub next_count : (a r m : ℕ) → m ≡ a + 1 → m + r ≡ a + suc r
next_count a r m is = omega (arith, is)

-- ---- holders

length-numbered : {X : Type 0} (place : X → InSlot) (i : ℕ) (xs : List X) → length (numbered place i xs) ≡ length xs
length-numbered place i [] = refl
length-numbered place i (x ∷ xs) = ap suc (length-numbered place (i + 1) xs)

pub counts_elements : (elem : Slot) (vs : List Value) → length (numbered (λ v. (elem, v)) 0 vs) ≡ length vs
counts_elements elem vs = length-numbered (λ v. (elem, v)) 0 vs

pub counts_any : (ds : List Data) → length (numbered (λ d. (anything, of_any d)) 0 ds) ≡ length ds
counts_any ds = length-numbered (λ d. (anything, of_any d)) 0 ds

-- data inside an Any are shown as they are
any_shown : (rows : List Row) (d : Data) → shown rows anything (of_any d) ≡ d
any_shown rows D.null = refl
any_shown rows (D.boolean b) = refl
any_shown rows (D.integer n) = refl
any_shown rows (D.text s) = refl
any_shown rows (D.bytes s) = refl
any_shown rows (D.list ds) = refl
any_shown rows (D.map ms) = refl
any_shown rows (D.link s) = refl

each_shown : (rows : List Row) (i : ℕ) (ds : List Data) → items_from i (map (λ d. shown rows anything (of_any d)) ds) ≡ items_from i ds
each_shown rows i [] = refl
each_shown rows i (d ∷ ds) = λ j. named (D.integer (pos i)) (any_shown rows d j) ∷ each_shown rows (i + 1) ds j

pub any_elements_are : (rows : List Row) (ds : List Data) → map (pair_of (show rows)) (numbered (λ d. (anything, of_any d)) 0 ds) ≡ any_elements ds
any_elements_are rows ds = numbered_items rows (λ d. (anything, of_any d)) 0 ds ∙ each_shown rows 0 ds

pub any_entries_are : (rows : List Row) (ms : List (List ℕ × Data)) → map (pair_of (show rows)) (map {B = Data × InSlot} (λ m. (D.text m.0, (anything, of_any m.1))) ms) ≡ any_entries ms
any_entries_are rows [] = refl
any_entries_are rows (m ∷ ms) = λ j. named (D.text m.0) (any_shown rows m.1 j) ∷ any_entries_are rows ms j

abbrev pub entry_shown : List Row → Slot → List ℕ × Value → Data
entry_shown rows elem p = named (D.text p.0) (shown rows elem p.1)

pub entries_are : (rows : List Row) (elem : Slot) (ps : List (List ℕ × Value)) → map (pair_of (show rows)) (map {B = Data × InSlot} (λ p. (D.text p.0, (elem, p.1))) ps) ≡ entries rows elem ps
entries_are rows elem [] = refl
entries_are rows elem (p ∷ ps) = ap (λ ds. named (D.text p.0) (shown rows elem p.1) ∷ ds) (entries_are rows elem ps)

-- ---- what a value has

pub list_counted : (rows : List Row) (slot elem : Slot) (place : ℕ) (v : Value) (vs : V.Values) (d : Data) → form_of rows slot ≡ Some (T.List elem place) → v ≡ V.list vs → d ≡ D.integer (pos (length (V.values_list vs)))
    → Some d ≡ counted (seen rows (slot, v))
list_counted rows slot elem place v vs d form is count =
    ap Some (count ∙ ap (λ n. D.integer (pos n)) (sym (counts_elements elem (V.values_list vs))))
    ∙ sym (ap (λ (w : Value). counted (seen rows (slot, w))) is ∙ ap (λ (o : Option TypeDef). counted (list_holder o vs)) form)

abbrev Pairs_of : List Row → Holder → Option (List Data)
Pairs_of rows h = option_map (λ ps. map (pair_of (show rows)) ps) (parts h)

pub map_listed : (rows : List Row) (slot : Slot) (key : TypeNo) (key_at : ℕ) (value : Slot) (place : ℕ) (form : MapForm) (v : Value) (ps : V.Pairs) (items : Items) → form_of rows slot ≡ Some (T.Map key key_at value place form)
    → v ≡ V.map ps → items_list items ≡ entries rows value (V.pairs_list ps) → Some (items_list items) ≡ option_map (λ ns. map (pair_of (show rows)) ns) (parts (seen rows (slot, v)))
map_listed rows slot key key_at value place form v ps items known is made =
    ap Some (made ∙ sym (entries_are rows value (V.pairs_list ps)))
    ∙ sym (ap (λ (w : Value). Pairs_of rows (seen rows (slot, w))) is ∙ ap (λ (o : Option TypeDef). Pairs_of rows (map_holder o ps)) known)

pub walked_by : (rows : List Row) (h : Holder) (o : Option Items) (items : Items) → IsListedIn rows h o → o ≡ Some items → Some (D.list items) ≡ walked (show rows) h
walked_by rows h o items listed is = by (parts h) (ap (option_map items_list) (sym is) ∙ listed) where
  by : (ns : Option (List (Data × InSlot))) → Some (items_list items) ≡ option_map (λ xs. map (pair_of (show rows)) xs) ns → Some (D.list items) ≡ option_map (λ xs. D.list (items_of (map (pair_of (show rows)) xs))) ns
  by None e = absurd (none-some (items_list items) (sym e))
  by (Some xs) e = ap (λ ds. Some (D.list ds)) (sym (items_of-items_list items) ∙ ap items_of (same_Some (items_list items) (map (pair_of (show rows)) xs) e))

pub not_walked : (rows : List Row) (h : Holder) (o : Option Items) → IsListedIn rows h o → o ≡ None → None ≡ walked (show rows) h
not_walked rows h o listed is = by (parts h) (ap (option_map items_list) (sym is) ∙ listed) where
  by : (ns : Option (List (Data × InSlot))) → None ≡ option_map (λ xs. map (pair_of (show rows)) xs) ns → None ≡ option_map (λ xs. D.list (items_of (map (pair_of (show rows)) xs))) ns
  by None e = refl
  by (Some xs) e = absurd (none-some (map (pair_of (show rows)) xs) e)
