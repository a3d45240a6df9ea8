-- A view of what holds parts is that of a piece: implicit values are scalars.
use Rattle.std.proofs.Common.{◌≡◌, ℕ, Bool, true, false, List, Option, Some, None, refl, sym, ◌∙◌, ap}
use Rattle.std.proofs.lemmas.Option.{none-some, same_Some}
use Rattle.ild_data.proofs.Options.{map_some}
use Rattle.ild_data.specs.Data as T
use Rattle.ild_data.specs.Data.{Data, items_of}
use Rattle.ild_path_holder.specs.Along.{is_holder}
use Rattle.ild_path_steps.proofs.Holding.{Held, held_by, of_any, of_elements, of_entries, of_fields, of_member, of_nothing}
use Rattle.ild_path_block.specs.Items.{is_pairs_map, is_refusing, is_text_struct}
use Rattle.ild_path_item.specs.Texts.{is_text_form}
use Rattle.ild_schema.specs.Copies.{base}
use Rattle.ild_schema.specs.Rules.{is_of}
use Rattle.ild_schema.specs.Slots.{form_of}
use Rattle.ild_schema.specs.Value.{Value}
use Rattle.ild_schema.specs.declared.def.Scalar.{Scalar}
use Rattle.ild_schema.specs.declared.def.Scalar.TheVariants as C
use Rattle.ild_schema.specs.Table.{def_at}
use Rattle.ild_schema.specs.declared.def.MapForm.{MapForm}
use Rattle.ild_schema.specs.declared.def.MapForm.TheVariants as M
use Rattle.ild_schema.specs.declared.def.StructDef.{StructDef}
use Rattle.ild_schema.specs.declared.def.StructForm.{StructForm}
use Rattle.ild_schema.specs.declared.def.StructForm.TheVariants as S
use Rattle.ild_schema.specs.declared.def.UnionDef.{UnionDef}
use Rattle.ild_schema.specs.declared.number.Slot.{Slot}
use Rattle.ild_schema.specs.declared.number.TypeNo.{TypeNo}
use Rattle.ild_schema.specs.declared.def.TypeDef.{TypeDef}
use Rattle.ild_schema.specs.declared.def.TypeDef.TheVariants as D
use Rattle.ild_schema.specs.declared.row.Row.{Row}
use Rattle.ild_typed.specs.At.{InSlot, seen}
use Rattle.ild_typed.specs.Composed.{map_form, struct_form}
use Rattle.ild_typed.specs.Fields.{field_entries, tuple_items}
use Rattle.ild_typed.specs.Hamt.{alone}
use Rattle.ild_typed.specs.Holder.{Holder, nothing}
use Rattle.ild_typed.specs.Layer as L
use Rattle.ild_typed.specs.Represented.{represented}
use Rattle.ild_typed.specs.Strings.{in_key_order, listpairs, map_data, text_in}
use Rattle.ild_view.specs.Body.{is_placed}
use Rattle.ild_view.specs.View.{IsView, piece_in, piece_of, slot_of, table_of}
use Rattle.ild_view.specs.declared.body.Body.{Body}
use Rattle.ild_view.specs.declared.body.Body.TheVariants as B
use Rattle.ild_view.specs.declared.view.View.{View}

-- the types that implicit values have
abbrev is_plain : TypeDef → Bool
is_plain D.Bool = true
is_plain D.Int = true
is_plain D.Text = true
is_plain d = false

plain_by : (c : Scalar) (d : TypeDef) → is_of c (Some d) ≡ true → is_plain d ≡ true
plain_by (C.Bool b) D.Bool e = refl
plain_by (C.Int n) D.Int e = refl
plain_by (C.Text s) D.Text e = refl
plain_by (C.Bool b) d e = absurd cc
plain_by (C.Int n) d e = absurd cc
plain_by (C.Text s) d e = absurd cc

-- nothing of such a type holds parts
no_holder : (rows : List Row) (d : TypeDef) (h : Holder) (t : Data) → is_plain d ≡ true → Held rows d h t → is_holder h ≡ true → ⊥
no_holder rows d h t plain (of_fields k os ds e z a b) holds = let wrong : false ≡ true = sym (ap is_plain e) ∙ plain in absurd cc
no_holder rows d h t plain (of_member u n v m y e z a b g) holds = let wrong : false ≡ true = sym (ap is_plain e) ∙ plain in absurd cc
no_holder rows d h t plain (of_entries k k_at elem at form ps es e z a b) holds = let wrong : false ≡ true = sym (ap is_plain e) ∙ plain in absurd cc
no_holder rows d h t plain (of_elements elem at vs ds e z a b) holds = let wrong : false ≡ true = sym (ap is_plain e) ∙ plain in absurd cc
no_holder rows d h t plain (of_any e z) holds = let wrong : false ≡ true = sym (ap is_plain e) ∙ plain in absurd cc
no_holder rows d h t plain (of_nothing v z) holds = let wrong : false ≡ true = sym (ap is_holder z) ∙ holds in absurd cc

pub has_piece : (v : View) (f : Value) (d : TypeDef) → form_of (table_of v) (slot_of v) ≡ Some d → IsView v f → is_holder (seen (table_of v) (slot_of v, f)) ≡ true → None ≡ piece_of v → ⊥
has_piece v f d known view holds none = by v.body v.placed none where
  by : (b : Body) → is_placed (table_of v) (slot_of v) b ≡ true → None ≡ piece_in b → ⊥
  by (B.Held p) placed e = none-some p e
  by (B.Implicit c) placed e =
      no_holder (table_of v) d (seen (table_of v) (slot_of v, f)) view.tree (plain_by c.now d (sym (ap (is_of c.now) known) ∙ placed)) (held_by (table_of v) (slot_of v) view.tree d known f view.front.tree) holds

-- the form of its type
pub known_form : (v : View) (acc : List Row) (slot : Slot) (n : ℕ) (d : TypeDef) → acc ≡ table_of v → slot ≡ slot_of v → n ≡ base acc slot.ty.0 → def_at acc n ≡ Some d → form_of (table_of v) (slot_of v) ≡ Some d
known_form v acc slot n d table_is slot_is base_is def_is = (λ i. form_of (sym table_is i) (sym slot_is i)) ∙ ap (def_at acc) (sym base_is) ∙ def_is

-- ---- forms

pub plain_struct : (r : StructDef) → ((inner entry : List ℕ) → r.form ≡ S.StringPairs inner entry → ⊥) → ((delim : List ℕ) → r.form ≡ S.StringJoin delim → ⊥) → is_refusing (Some (D.Struct r)) ≡ false
plain_struct r no_pairs no_join = by r.form refl where
  by : (form : StructForm) → r.form ≡ form → is_text_struct r.form ≡ false
  by S.Map e = ap is_text_struct e
  by S.Tuple e = ap is_text_struct e
  by S.ListPairs e = ap is_text_struct e
  by (S.StringPairs inner entry) e = absurd (no_pairs inner entry e)
  by (S.StringJoin delim) e = absurd (no_join delim e)

-- without a rule that could refuse
pub plain_type : (d : TypeDef) → is_text_form d ≡ false → ((u : UnionDef) → d ≡ D.Union u → ⊥) → is_refusing (Some d) ≡ false
plain_type D.Bool text a = refl
plain_type D.Text text a = refl
plain_type D.Bytes text a = refl
plain_type D.Int text a = refl
plain_type D.Any text a = refl
plain_type (D.Link target) text a = refl
plain_type (D.Unit form) text a = refl
plain_type (D.List elem at) text a = refl
plain_type (D.Map k k_at slot at form) text a = text
plain_type (D.Struct r) text a = text
plain_type (D.Union u) text a = absurd (a u refl)
plain_type (D.Enum e) text a = refl
plain_type (D.Copy target) text a = refl

pub bare_type : (d : TypeDef) → ((u : UnionDef) → d ≡ D.Union u → ⊥) → ((r : StructDef) → d ≡ D.Struct r → ⊥) → ((k : TypeNo) (k_at : ℕ) (slot : Slot) (at : ℕ) (form : MapForm) → d ≡ D.Map k k_at slot at form → ⊥) → is_refusing (Some d) ≡ false
bare_type (D.Map k k_at slot at form) a b c = absurd (c k k_at slot at form refl)
bare_type (D.Struct r) a b c = absurd (b r refl)
bare_type (D.Union u) a b c = absurd (a u refl)
bare_type D.Bool a b c = refl
bare_type D.Text a b c = refl
bare_type D.Bytes a b c = refl
bare_type D.Int a b c = refl
bare_type D.Any a b c = refl
bare_type (D.Link target) a b c = refl
bare_type (D.Unit form) a b c = refl
bare_type (D.List elem at) a b c = refl
bare_type (D.Enum e) a b c = refl
bare_type (D.Copy target) a b c = refl

-- ---- what stands as a text has one that could refuse

pub other : {A : Type 0} (u : Data) (j : List ℕ) → u ≡ T.text j → text_in u ≡ None → A
other u j e none = absurd (none-some j (sym none ∙ ap text_in e))

struct_refusing : (r : StructDef) (form : StructForm) (ds : List (Option Data)) (j : List ℕ) → r.form ≡ form → struct_form form r.fields ds ≡ Some (T.text j) → is_refusing (Some (D.Struct r)) ≡ true
struct_refusing r S.Map ds j is made = let x = map_some (λ es. map_data (in_key_order es)) (field_entries r.fields ds) (T.text j) made in other (map_data (in_key_order x.0)) j x.2 refl
struct_refusing r S.Tuple ds j is made = let x = map_some (λ xs. T.list (items_of xs)) (tuple_items r.fields ds) (T.text j) made in other (T.list (items_of x.0)) j x.2 refl
struct_refusing r S.ListPairs ds j is made = let x = map_some listpairs (field_entries r.fields ds) (T.text j) made in other (listpairs x.0) j x.2 refl
struct_refusing r (S.StringPairs inner entry) ds j is made = ap is_text_struct is
struct_refusing r (S.StringJoin delim) ds j is made = ap is_text_struct is

map_refusing : (form : MapForm) (es : List (List ℕ × Data)) (j : List ℕ) → map_form alone form (L.map es) ≡ Some (T.text j) → is_pairs_map form ≡ true
map_refusing M.Map es j made = other (map_data es) j (same_Some (map_data es) (T.text j) made) refl
map_refusing M.ListPairs es j made = other (listpairs es) j (same_Some (listpairs es) (T.text j) made) refl
map_refusing (M.StringPairs inner entry) es j made = refl
map_refusing (M.Hamt shape) es j made = absurd (none-some (T.text j) made)

pub refusing : (rows : List Row) (p : InSlot) (d : TypeDef) (j : List ℕ) → form_of rows p.0 ≡ Some d → represented alone rows p.0 p.1 ≡ Some (T.text j) → is_holder (seen rows p) ≡ true → is_refusing (Some d) ≡ true
refusing rows p d j known made holds = by (held_by rows p.0 (T.text j) d known p.1 made) where
  no_any : {A : Type 0} (v : Value) → seen rows p ≡ nothing v → A
  no_any v z = let wrong : false ≡ true = sym (ap is_holder z) ∙ holds in absurd cc

  by : Held rows d (seen rows p) (T.text j) → is_refusing (Some d) ≡ true
  by (of_fields r os ds e z a b) = ap (λ d. is_refusing (Some d)) e ∙ struct_refusing r r.form ds j refl b
  by (of_member u n v m x e z a b g) = ap (λ d. is_refusing (Some d)) e
  by (of_entries k k_at elem at form ps es e z a b) = ap (λ d. is_refusing (Some d)) e ∙ map_refusing form es j b
  by (of_elements elem at vs ds e z a b) = other (T.list (items_of ds)) j (sym b) refl
  by (of_any e z) = no_any _ z
  by (of_nothing v z) = no_any v z

-- so nothing else does
pub no_text : {A : Type 0} (rows : List Row) (p : InSlot) (d : TypeDef) (j : List ℕ) → form_of rows p.0 ≡ Some d → represented alone rows p.0 p.1 ≡ Some (T.text j) → is_holder (seen rows p) ≡ true → is_refusing (Some d) ≡ false → A
no_text rows p d j known made holds plain = let wrong : false ≡ true = sym plain ∙ refusing rows p d j known made holds in absurd cc
