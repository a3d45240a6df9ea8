-- A tuple whose present fields stand in front: their count tells whether a field that comes or goes leaves a hole.
use Rattle.std.proofs.Common.{cond, ◌≡◌, ℕ, zero, suc, ◌+◌, ◌-◌, ◌≤◌, List, [], ◌∷◌, length, nat_lt, Bool, true, false, Option, Some, None, refl, sym, ◌∙◌, ap, subst, arith}
use Rattle.std.specs.Prelude.{option_and_then, bytes_eq}
use Rattle.std.specs.List.{position_from}
use Rattle.std.proofs.lemmas.Bool.Decides.{nat_tests}
use Rattle.std.proofs.lemmas.Option.{same_Some, none-some}
use Rattle.ild_data.specs.Data as T
use Rattle.ild_data.specs.Data.{Data}
use Rattle.ild_data.specs.Key.{same_text}
use Rattle.ild_path_edits.specs.Table.{delete_part}
use Rattle.ild_path_room.specs.Hole.{TellsHole, is_tuple, stands_as_tuple, told_at}
use Rattle.ild_path_room.specs.Room.{Coming, by_set, by_insert, brought}
use Rattle.ild_path_room.specs.declared.hole.PartMotion.{PartMotion}
use Rattle.ild_path_room.specs.declared.hole.PartMotion.TheVariants as E
use Rattle.ild_schema.specs.Parts.{part_named}
use Rattle.ild_schema.specs.Slots.{form_of}
use Rattle.ild_schema.specs.Value as V
use Rattle.ild_schema.specs.Value.{Value, Optionals, null, boolean, integer, text, bytes, link, list, map, struct, union, enum, unit, any, hamt, optionals_of, optionals_list}
use Rattle.ild_schema.specs.declared.def.Field.{Field}
use Rattle.ild_schema.specs.declared.def.StructDef.{StructDef}
use Rattle.ild_schema.specs.declared.def.StructForm.{StructForm}
use Rattle.ild_schema.specs.declared.def.StructForm.TheVariants as S
use Rattle.ild_schema.specs.declared.def.TypeDef.{TypeDef}
use Rattle.ild_schema.specs.declared.def.TypeDef.TheVariants as D
use Rattle.ild_schema.specs.declared.number.Slot.{Slot}
use Rattle.ild_schema.specs.declared.row.Row.{Row}
use Rattle.ild_typed.specs.At.{InSlot, seen}
use Rattle.ild_typed.specs.Holder.{Holder, nothing, list_holder, map_holder, struct_holder, union_holder, holder_of, value_of}
use Rattle.ild_typed.specs.Judged.{is_hole, tuple_hole, hole_in, some_present}
use Rattle.ild_typed.specs.Layer as L
use Rattle.ild_typed.specs.Layers.{FieldsFit}
use Rattle.ild_typed.specs.OfType.{OfType}
use Rattle.ild_typed.specs.Segment.{set_field}
use Rattle.ild_typed.proofs.FormOf.{struct_form, any_form}
use Rattle.ild_typed.proofs.OneLayer.{in_layer}
use Rattle.ild_view.specs.Counted.{count_in, present_of}

-- ---- lists of fields

abbrev Holed : List (Option Value) → Bool
Holed os = hole_in (optionals_of os)

abbrev Some_there : List (Option Value) → Bool
Some_there os = some_present (optionals_of os)

none_there : (os : List (Option Value)) → Some_there os ≡ false → (present_of os ≡ 0) × (Holed os ≡ false)
none_there [] h = (refl, refl)
none_there (None ∷ os) h = ((none_there os h).0, h)
none_there (Some v ∷ os) h = absurd cc

abbrev Named : List ℕ → Field → Bool
Named s f = bytes_eq s f.name

place_first : (i n : ℕ) (b : Bool) (rest : Option ℕ) → cond b (Some i) rest ≡ Some n → (rest ≡ Some n → i + 1 ≤ n) → i ≤ n
place_first i n true rest e more = let same = same_Some i n e in omega (arith, same)
place_first i n false rest e more = let le = more e in omega (arith, le)

place_least : (s : List ℕ) (i n : ℕ) (fs : List Field) → position_from (Named s) i fs ≡ Some n → i ≤ n
place_least s i n [] e = absurd (none-some n e)
place_least s i n (f ∷ fs) e = place_first i n (same_text s f.name) (position_from (Named s) (i + 1) fs) e (λ h. place_least s (i + 1) n fs h)

not_below : (a b : ℕ) → b ≤ a → nat_lt a b ≡ false
not_below a b h = grind (arith, nat_tests, h)

below : (a b : ℕ) → a + 1 ≤ b → nat_lt a b ≡ true
below a b h = grind (arith, nat_tests, h)

there_count : (os : List (Option Value)) → Some_there os ≡ nat_lt 0 (present_of os)
there_count [] = refl
there_count (None ∷ os) = there_count os
there_count (Some v ∷ os) = sym (below 0 (suc (present_of os)) (omega (arith)))

-- a field that is set is there
set_first : (w : Value) (b : Bool) (n i : ℕ) (o : Option Value) (os ps : List (Option Value)) (rest : Option ℕ) → cond b (Some i) rest ≡ Some n → (rest ≡ Some n → Some_there ps ≡ true) → Some_there (cond b (Some w ∷ os) (o ∷ ps)) ≡ true
set_first w true n i o os ps rest e more = refl
set_first w false n i None os ps rest e more = more e
set_first w false n i (Some v) os ps rest e more = refl

set_there : (s : List ℕ) (w : Value) (i n : ℕ) (fs : List Field) (os : List (Option Value)) → length os ≡ length fs → position_from (Named s) i fs ≡ Some n → Some_there (set_field s (Some w) fs os) ≡ true
set_there s w i n [] os long e = absurd (none-some n e)
set_there s w i n (f ∷ fs) [] long e = absurd (omega (arith, long))
set_there s w i n (f ∷ fs) (o ∷ os) long e =
    set_first w (same_text s f.name) n i o os (set_field s (Some w) fs os) (position_from (Named s) (i + 1) fs) e (λ h. set_there s w (i + 1) n fs os (omega (arith, long)) h)

comes_first : (w : Value) (b : Bool) (n i : ℕ) (o : Option Value) (os ps : List (Option Value)) (rest : Option ℕ) → cond b (Some i) rest ≡ Some n → Holed (o ∷ os) ≡ false
    → (rest ≡ Some n → Some_there ps ≡ true) → (rest ≡ Some n → i + 1 ≤ n) → (rest ≡ Some n → Holed os ≡ false → Holed ps ≡ nat_lt (i + 1 + present_of os) n)
    → Holed (cond b (Some w ∷ os) (o ∷ ps)) ≡ nat_lt (i + present_of (o ∷ os)) n
comes_first w true n i None os ps rest e none there least more = let same = same_Some i n e in (none_there os none).1 ∙ sym (not_below (i + present_of os) n (omega (arith, same)))
comes_first w true n i (Some v) os ps rest e none there least more = let same = same_Some i n e in none ∙ sym (not_below (i + suc (present_of os)) n (omega (arith, same)))
comes_first w false n i None os ps rest e none there least more =
    let zero_there = (none_there os none).0 in
    let le = least e in
    there e ∙ sym (below (i + present_of os) n (omega (arith, zero_there, le)))
comes_first w false n i (Some v) os ps rest e none there least more =
    more e none ∙ ap (λ m. nat_lt m n) (moved i (present_of os))
  where
    moved : (i c : ℕ) → i + 1 + c ≡ i + suc c
    moved i c = omega (arith)

comes : (s : List ℕ) (w : Value) (i n : ℕ) (fs : List Field) (os : List (Option Value)) → length os ≡ length fs → position_from (Named s) i fs ≡ Some n → Holed os ≡ false
    → Holed (set_field s (Some w) fs os) ≡ nat_lt (i + present_of os) n
comes s w i n [] os long e none = absurd (none-some n e)
comes s w i n (f ∷ fs) [] long e none = absurd (omega (arith, long))
comes s w i n (f ∷ fs) (o ∷ os) long e none =
    let less : length os ≡ length fs = omega (arith, long) in
    comes_first w (same_text s f.name) n i o os (set_field s (Some w) fs os) (position_from (Named s) (i + 1) fs) e none
    (λ h. set_there s w (i + 1) n fs os less h) (λ h. place_least s (i + 1) n fs h) (λ h k. comes s w (i + 1) n fs os less h k)

-- a field that goes
gone_first : (b : Bool) (o : Option Value) (os ps : List (Option Value)) → Some_there (o ∷ os) ≡ false → (Some_there os ≡ false → Some_there ps ≡ false) → Some_there (cond b (None ∷ os) (o ∷ ps)) ≡ false
gone_first true None os ps h more = h
gone_first true (Some v) os ps h more = absurd cc
gone_first false None os ps h more = more h
gone_first false (Some v) os ps h more = absurd cc

none_gone : (s : List ℕ) (fs : List Field) (os : List (Option Value)) → Some_there os ≡ false → Some_there (set_field s None fs os) ≡ false
none_gone s [] os h = h
none_gone s (f ∷ fs) [] h = refl
none_gone s (f ∷ fs) (o ∷ os) h = gone_first (same_text s f.name) o os (set_field s None fs os) h (λ k. none_gone s fs os k)

goes_first : (b : Bool) (n i : ℕ) (o : Option Value) (os ps : List (Option Value)) (rest : Option ℕ) → cond b (Some i) rest ≡ Some n → Holed (o ∷ os) ≡ false → (Some_there os ≡ false → Some_there ps ≡ false) → (rest ≡ Some n → i + 1 ≤ n)
    → (rest ≡ Some n → Holed os ≡ false → Holed ps ≡ nat_lt (n + 1) (i + 1 + present_of os)) → Holed (cond b (None ∷ os) (o ∷ ps)) ≡ nat_lt (n + 1) (i + present_of (o ∷ os))
goes_first true n i None os ps rest e none gone least more =
    let same = same_Some i n e in
    let zero_there = (none_there os none).0 in
    none ∙ sym (not_below (n + 1) (i + present_of os) (omega (arith, same, zero_there)))
goes_first true n i (Some v) os ps rest e none gone least more = there_count os ∙ same_test (present_of os) i n (same_Some i n e)
  where
    same_test : (c i n : ℕ) → i ≡ n → nat_lt 0 c ≡ nat_lt (n + 1) (i + suc c)
    same_test zero i n e = sym (not_below (n + 1) (i + 1) (omega (arith, e)))
    same_test (suc c) i n e = below 0 (suc c) (omega (arith)) ∙ sym (below (n + 1) (i + suc (suc c)) (omega (arith, e)))
goes_first false n i None os ps rest e none gone least more =
    let zero_there = (none_there os none).0 in
    let le = least e in
    gone none ∙ sym (not_below (n + 1) (i + present_of os) (omega (arith, zero_there, le)))
goes_first false n i (Some v) os ps rest e none gone least more =
    more e none ∙ ap (λ m. nat_lt (n + 1) m) (moved i (present_of os))
  where
    moved : (i c : ℕ) → i + 1 + c ≡ i + suc c
    moved i c = omega (arith)

goes : (s : List ℕ) (i n : ℕ) (fs : List Field) (os : List (Option Value)) → length os ≡ length fs → position_from (Named s) i fs ≡ Some n → Holed os ≡ false
    → Holed (set_field s None fs os) ≡ nat_lt (n + 1) (i + present_of os)
goes s i n [] os long e none = absurd (none-some n e)
goes s i n (f ∷ fs) [] long e none = absurd (omega (arith, long))
goes s i n (f ∷ fs) (o ∷ os) long e none =
    goes_first (same_text s f.name) n i o os (set_field s None fs os) (position_from (Named s) (i + 1) fs) e none
    (λ h. none_gone s fs os h) (λ h. place_least s (i + 1) n fs h) (λ h k. goes s (i + 1) n fs os (omega (arith, long)) h k)

-- no field of the name
other_first : (b : Bool) (i : ℕ) (x o : Option Value) (os ps : List (Option Value)) (rest : Option ℕ) → cond b (Some i) rest ≡ None → (rest ≡ None → ps ≡ os) → cond b (x ∷ os) (o ∷ ps) ≡ o ∷ os
other_first true i x o os ps rest e more = absurd (none-some i (sym e))
other_first false i x o os ps rest e more = ap (λ ys. o ∷ ys) (more e)

no_field : (s : List ℕ) (x : Option Value) (i : ℕ) (fs : List Field) (os : List (Option Value)) → position_from (Named s) i fs ≡ None → set_field s x fs os ≡ os
no_field s x i [] os e = refl
no_field s x i (f ∷ fs) [] e = refl
no_field s x i (f ∷ fs) (o ∷ os) e =
    other_first (same_text s f.name) i x o os (set_field s x fs os) (position_from (Named s) (i + 1) fs) e (λ h. no_field s x (i + 1) fs os h)

-- ---- what the number of a field and the count of those present tell

-- what the fields become
abbrev edited : PartMotion → Value → List ℕ → List Field → List (Option Value) → List (Option Value)
edited E.Comes w s fs os = set_field s (Some w) fs os
edited E.Goes w s fs os = set_field s None fs os

less_one : (n c : ℕ) → nat_lt (n + 1) c ≡ nat_lt n (c - 1)
less_one n zero = not_below (n + 1) 0 (omega (arith)) ∙ sym (not_below n 0 (omega (arith)))
less_one n (suc c) = by (nat_lt n c) refl ∙ ap (λ m. nat_lt n m) (one_back c)
  where
    by : (b : Bool) → nat_lt n c ≡ b → nat_lt (n + 1) (suc c) ≡ nat_lt n c
    by true e = grind (arith, nat_tests, e)
    by false e = grind (arith, nat_tests, e)

    one_back : (c : ℕ) → c ≡ suc c - 1
    one_back c = omega (arith)

from_none : (c : ℕ) → c ≡ 0 + c
from_none c = omega (arith)

fields_told : (e : PartMotion) (w : Value) (s : List ℕ) (fs : List Field) (os : List (Option Value)) (o : Option ℕ) → position_from (Named s) 0 fs ≡ o → length os ≡ length fs → Holed os ≡ false
    → told_at e o (Some (present_of os)) ≡ Holed (edited e w s fs os)
fields_told E.Comes w s fs os None is long none = sym (ap (λ ys. Holed ys) (no_field s (Some w) 0 fs os is) ∙ none)
fields_told E.Comes w s fs os (Some n) is long none = ap (λ m. nat_lt m n) (from_none (present_of os)) ∙ sym (comes s w 0 n fs os long is none)
fields_told E.Goes w s fs os None is long none = sym (ap (λ ys. Holed ys) (no_field s None 0 fs os is) ∙ none)
fields_told E.Goes w s fs os (Some n) is long none = sym (less_one n (present_of os)) ∙ ap (λ m. nat_lt (n + 1) m) (from_none (present_of os)) ∙ sym (goes s 0 n fs os long is none)

-- ---- values

fields_long : (P : Slot → Value → Type 0) (fs : List Field) (os : List (Option Value)) → FieldsFit P fs os → length os ≡ length fs
fields_long P [] [] h = refl
fields_long P [] (o ∷ os) h = absurd h
fields_long P (f ∷ fs) [] h = absurd h
fields_long P (f ∷ fs) (Some v ∷ os) h = ap (λ n. suc n) (fields_long P fs os h.1)
fields_long P (f ∷ fs) (None ∷ os) h = ap (λ n. suc n) (fields_long P fs os h.1)

abbrev made : PartMotion → Coming → Value → Holder → List ℕ → Value
made E.Comes how w h s = value_of (brought how w h s)
made E.Goes how w h s = value_of (delete_part h s)

tuple_holed : (form : StructForm) (os : Optionals) → stands_as_tuple form ≡ true → tuple_hole form os ≡ hole_in os
tuple_holed S.Tuple os h = refl
tuple_holed S.Map os h = absurd cc
tuple_holed S.ListPairs os h = absurd cc
tuple_holed (S.StringPairs inner entry) os h = absurd cc
tuple_holed (S.StringJoin delim) os h = absurd cc

plain_struct : (form : StructForm) (os : Optionals) → stands_as_tuple form ≡ false → tuple_hole form os ≡ false
plain_struct S.Tuple os h = absurd cc
plain_struct S.Map os h = refl
plain_struct S.ListPairs os h = refl
plain_struct (S.StringPairs inner entry) os h = refl
plain_struct (S.StringJoin delim) os h = refl

plain_hole : (d : TypeDef) (v : Value) → is_tuple d ≡ false → is_hole (Some d) v ≡ false
plain_hole (D.Struct s) (struct os) h = plain_struct s.form os h
plain_hole d v h = refl

-- what has no parts stays
nothing_made : (e : PartMotion) (how : Coming) (w v : Value) (s : List ℕ) → made e how w (nothing v) s ≡ v
nothing_made E.Comes by_set w v s = refl
nothing_made E.Comes by_insert w v s = refl
nothing_made E.Goes how w v s = refl

struct_made : (e : PartMotion) (how : Coming) (w : Value) (st : StructDef) (os : Optionals) (s : List ℕ) → made e how w (struct_holder (Some (D.Struct st)) os) s ≡ struct (optionals_of (edited e w s st.fields (optionals_list os)))
struct_made E.Comes by_set w st os s = refl
struct_made E.Comes by_insert w st os s = refl
struct_made E.Goes how w st os s = refl

none_told : (e : PartMotion) (o : Option ℕ) → told_at e o None ≡ false
none_told E.Comes None = refl
none_told E.Comes (Some n) = refl
none_told E.Goes None = refl
none_told E.Goes (Some n) = refl

optionals_back : (os : Optionals) → optionals_of (optionals_list os) ≡ os
optionals_back V.no_optionals = refl
optionals_back (V.absent os) = ap (λ x. V.absent x) (optionals_back os)
optionals_back (V.present v os) = ap (λ x. V.present v x) (optionals_back os)

abbrev fields_in : TypeDef → List Field
fields_in (D.Struct r) = r.fields
fields_in d = []

module _ (rows : List Row) (slot : Slot) (st : StructDef) (form : form_of rows slot ≡ Some (D.Struct st)) (tuple : stands_as_tuple st.form ≡ true) (e : PartMotion) (how : Coming) (w : Value) (s : List ℕ) where
  abbrev Told : Holder → Type 0
  Told h = told_at e (part_named s (D.Struct st)) (count_in h) ≡ is_hole (form_of rows slot) (made e how w h s)

  bare_told : (v : Value) → is_hole (Some (D.Struct st)) v ≡ false → Told (nothing v)
  bare_told v h = none_told e (part_named s (D.Struct st)) ∙ sym (ap (is_hole (form_of rows slot)) (nothing_made e how w v s) ∙ ap (λ d. is_hole d v) form ∙ h)

  other_form : (d : Data) → OfType rows slot (any d) → ⊥
  other_form d h =
      let x = in_layer rows slot (any d) (L.any d) refl h in
      differ (sym form ∙ x.form ∙ ap Some (any_form rows (OfType rows) x.ty d x.holds).0)
    where
      differ : ◌≡◌ {A = Option TypeDef} (Some (D.Struct st)) (Some D.Any) → ⊥
      differ h = let k = same_Some (D.Struct st) D.Any h in absurd cc

  struct_told : (os : Optionals) → OfType rows slot (struct os) → is_hole (form_of rows slot) (struct os) ≡ false → Told (struct_holder (Some (D.Struct st)) os)
  struct_told os typed none =
      let x = in_layer rows slot (struct os) (L.struct (optionals_list os)) refl typed in
      let k = struct_form rows (OfType rows) x.ty (optionals_list os) x.holds in
      let same : D.Struct st ≡ D.Struct k.0 = same_Some (D.Struct st) (D.Struct k.0) (sym form ∙ x.form ∙ ap Some k.1) in
      let fit : FieldsFit (OfType rows) st.fields (optionals_list os) = subst (λ d. FieldsFit (OfType rows) (fields_in d) (optionals_list os)) (sym same) k.2 in
      let no : Holed (optionals_list os) ≡ false = ap hole_in (optionals_back os) ∙ sym (tuple_holed st.form os tuple) ∙ sym (ap (λ d. is_hole d (struct os)) form) ∙ none in
      fields_told e w s st.fields (optionals_list os) (part_named s (D.Struct st)) refl (fields_long (OfType rows) st.fields (optionals_list os) fit) no
      ∙ sym (tuple_holed st.form (optionals_of (edited e w s st.fields (optionals_list os))) tuple) ∙ sym (ap (λ d. is_hole d (struct (optionals_of (edited e w s st.fields (optionals_list os))))) form)
      ∙ ap (is_hole (form_of rows slot)) (sym (struct_made e how w st os s))

  tuple_told : (v : Value) → OfType rows slot v → is_hole (form_of rows slot) v ≡ false → Told (holder_of rows slot v)
  tuple_told null t none = bare_told null refl
  tuple_told (boolean b) t none = bare_told (boolean b) refl
  tuple_told (integer n) t none = bare_told (integer n) refl
  tuple_told (text x) t none = bare_told (text x) refl
  tuple_told (bytes x) t none = bare_told (bytes x) refl
  tuple_told (link x) t none = bare_told (link x) refl
  tuple_told (enum n) t none = bare_told (enum n) refl
  tuple_told unit t none = bare_told unit refl
  tuple_told (hamt d) t none = bare_told (hamt d) refl
  tuple_told (list vs) t none = subst (λ d. Told (list_holder d vs)) (sym form) (bare_told (list vs) refl)
  tuple_told (map ps) t none = subst (λ d. Told (map_holder d ps)) (sym form) (bare_told (map ps) refl)
  tuple_told (union n v) t none = subst (λ d. Told (union_holder d n v)) (sym form) (bare_told (union n v) refl)
  tuple_told (struct os) t none = subst (λ d. Told (struct_holder d os)) (sym form) (struct_told os t none)
  tuple_told (any d) t none = absurd (other_form d t)

-- ---- the answer

tells : (rows : List Row) (p : InSlot) (s : List ℕ) (e : PartMotion) (b : Bool) → ((how : Coming) (w : Value) → b ≡ is_hole (form_of rows p.0) (made e how w (seen rows p) s)) → TellsHole rows p s e b
tells rows p s E.Comes b h = λ how w. h how w
tells rows p s E.Goes b h = h by_set null

pub tells_plain : (rows : List Row) (p : InSlot) (s : List ℕ) (e : PartMotion) (d : TypeDef) → form_of rows p.0 ≡ Some d → is_tuple d ≡ false → TellsHole rows p s e false
tells_plain rows p s e d form plain = tells rows p s e false (λ how w. sym (ap (λ o. is_hole o (made e how w (seen rows p) s)) form ∙ plain_hole d (made e how w (seen rows p) s) plain))

pub tells_tuple : (rows : List Row) (p : InSlot) (s : List ℕ) (e : PartMotion) (d : TypeDef) (o c : Option ℕ) → form_of rows p.0 ≡ Some d → is_tuple d ≡ true → OfType rows p.0 p.1 → is_hole (form_of rows p.0) p.1 ≡ false
    → o ≡ option_and_then (part_named s) (form_of rows p.0) → c ≡ count_in (seen rows p) → TellsHole rows p s e (told_at e o c)
tells_tuple rows p s e (D.Struct st) o c form tuple typed none number count =
    tells rows p s e (told_at e o c)
    (λ how w. ap (λ m. told_at e m c) (number ∙ ap (option_and_then (part_named s)) form) ∙ ap (told_at e (part_named s (D.Struct st))) count ∙ tuple_told rows p.0 st form tuple e how w s p.1 typed none)
tells_tuple rows p s e d o c form tuple typed none number count = absurd cc
