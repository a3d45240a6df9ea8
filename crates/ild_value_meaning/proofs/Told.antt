-- What acceptance says of a table, as far as the names and the implicit values of shown forms go.
use Rattle.std.proofs.Common.{cond, ◌≡◌, ℕ, zero, suc, List, [], ◌∷◌, slice_get, Bool, true, false, Option, Some, None, refl, ap, sym, subst, ◌∙◌}
use Rattle.std.specs.Prelude.{ℤ, IfSome, option_map, take, ◌||◌, not, find, length}
use Rattle.std.specs.List.{AllByRecursion}
use Rattle.std.specs.Option.{option_map_or}
use Rattle.std.proofs.lemmas.Option.{same_Some, none-some}
use Rattle.ild_schema.proofs.Passing.{first_none, next_none}
use Rattle.ild_data.proofs.Options.{map_none}
use Rattle.ild_schema.specs.declared.def.TypeDef.{TypeDef}
use Rattle.ild_schema.specs.declared.def.TypeDef.TheVariants as T
use Rattle.ild_schema.specs.declared.def.StructDef.{StructDef}
use Rattle.ild_schema.specs.declared.def.UnionDef.{UnionDef}
use Rattle.ild_schema.specs.declared.def.EnumDef.{EnumDef}
use Rattle.ild_schema.specs.declared.def.EnumMember.{EnumMember}
use Rattle.ild_schema.specs.declared.def.Scalar.{Scalar}
use Rattle.ild_schema.specs.declared.def.Scalar.TheVariants as C
use Rattle.ild_schema.specs.declared.def.Field.{Field}
use Rattle.ild_schema.specs.declared.def.Member.{Member}
use Rattle.ild_schema.specs.declared.number.Slot.{Slot}
use Rattle.ild_schema.specs.declared.row.Row.{Row}
use Rattle.ild_schema.specs.declared.rule.Rule.TheVariants as R
use Rattle.ild_schema.specs.Accept.{fails_at, type_fault, first_failing}
use Rattle.ild_schema.specs.Apart.{AreApart}
use Rattle.ild_schema.specs.Copies.{base, followed}
use Rattle.ild_schema.specs.Fitting.{ImplicitFits}
use Rattle.ild_schema.specs.Prelude.{anything, prelude}
use Rattle.ild_schema.specs.Rules.{is_of, is_implicit_wrong, implicit_fault, null_fault, kind_fault, text_fault, optional_fault}
use Rattle.ild_schema.specs.Delimiters.{delim_fault}
use Rattle.ild_schema.specs.Prefixes.{prefix_fault}
use Rattle.ild_schema.specs.Rows.{def_at}
use Rattle.ild_schema.specs.Slots.{form_of}
use Rattle.ild_schema.specs.Spelled.{SpelledScalar}
use Rattle.ild_schema.specs.Value as V
use Rattle.ild_schema.proofs.Legibly.{legible}
use Rattle.ild_splice_changes.proofs.Maps.{own_text, other_is}
use Rattle.ild_typed.specs.Layer as L
use Rattle.ild_typed.specs.OfType.{OfType}
use Rattle.ild_typed.specs.Schema.{IsSchema}
use Rattle.ild_typed.specs.Segment.{member_named, next_member}
use Rattle.ild_typed.proofs.OneLayer.{of_layer}
use Rattle.ild_value_meaning.specs.Meant.{of_scalar}
use Rattle.ild_value_meaning.specs.Names.{slot_named, enum_named}

-- names of members and of enum members are told apart: each is the first of its name
pub record AreToldApart (rows : List Row) : Type 0 where
  pub unions : (slot : Slot) (u : UnionDef) (n : ℕ) (m : Member) → form_of rows slot ≡ Some (T.Union u) → slice_get u.members n ≡ Some m → member_named m.name u.members ≡ Some (n, m)
  pub enums : (slot : Slot) (e : EnumDef) (n : ℕ) (m : EnumMember) → form_of rows slot ≡ Some (T.Enum e) → slice_get e.members n ≡ Some m → enum_named m.name e.members ≡ Some n

-- each implicit value is of its field's type
abbrev pub ImplicitsFit : List Row → List Field → Type 0
ImplicitsFit rows [] = Unit {0}
ImplicitsFit rows (f ∷ fs) = ((s : Scalar) → f.implicit ≡ Some s → OfType rows f.slot (of_scalar s)) × ImplicitsFit rows fs

-- fields have names of their own, and an optional one has no implicit value
abbrev pub AreProper : List Field → Type 0
AreProper [] = Unit {0}
AreProper (f ∷ fs) = (slot_named f.name fs ≡ None) × (f.optional ≡ true → f.implicit ≡ None) × AreProper fs

abbrev pub HasProperFields : List Row → Type 0
HasProperFields rows = (slot : Slot) (s : StructDef) → form_of rows slot ≡ Some (T.Struct s) → AreProper s.fields

pub record IsTold (rows : List Row) : Type 0 where
  pub apart : AreToldApart rows
  pub any_there : form_of rows anything ≡ Some T.Any
  pub implicits : (slot : Slot) (s : StructDef) → form_of rows slot ≡ Some (T.Struct s) → ImplicitsFit rows s.fields
  pub proper : HasProperFields rows

-- ---- names

tail_apart : {A : Type 0} (name : A → List ℕ) (x : A) (xs : List A) → AreApart name (x ∷ xs) → AreApart name xs
tail_apart name x xs h i j a b e f same = less (h (suc i) (suc j) a b e f same)
  where
    less : suc i ≡ suc j → i ≡ j
    less p = cc p

first_apart : {A : Type 0} (name : A → List ℕ) (x a : A) (xs : List A) (n : ℕ) → AreApart name (x ∷ xs) → slice_get xs n ≡ Some a → name a ≡ name x → ⊥
first_apart name x a xs n h e same = wrong (h 0 (suc n) x a refl e (sym same))
  where
    wrong : 0 ≡ suc n → ⊥
    wrong p = absurd cc

member_first : (ms : List Member) (n : ℕ) (m : Member) → AreApart (λ m. m.name) ms → slice_get ms n ≡ Some m → member_named m.name ms ≡ Some (n, m)
member_first [] n m h e = absurd (none-some m e)
member_first (x ∷ ms) zero m h e =
    subst (λ k. member_named k.name (x ∷ ms) ≡ Some (0, k)) (same_Some x m e) (ap (λ b. cond b (Some (0, x)) (option_map next_member (member_named x.name ms))) (own_text x.name))
member_first (x ∷ ms) (suc n) m h e =
    ap (λ b. cond b (Some (0, x)) (option_map next_member (member_named m.name ms))) (other_is m.name x.name (λ p. first_apart (λ m. m.name) x m ms n h e p))
    ∙ ap (option_map next_member) (member_first ms n m (tail_apart (λ m. m.name) x ms h) e)

enum_first : (ms : List EnumMember) (n : ℕ) (m : EnumMember) → AreApart (λ m. m.name) ms → slice_get ms n ≡ Some m → enum_named m.name ms ≡ Some n
enum_first [] n m h e = absurd (none-some m e)
enum_first (x ∷ ms) zero m h e =
    subst (λ k. enum_named k.name (x ∷ ms) ≡ Some 0) (same_Some x m e) (ap (λ b. cond b (Some 0) (option_map (λ k. suc k) (enum_named x.name ms))) (own_text x.name))
enum_first (x ∷ ms) (suc n) m h e =
    ap (λ b. cond b (Some 0) (option_map (λ k. suc k) (enum_named m.name ms))) (other_is m.name x.name (λ p. first_apart (λ m. m.name) x m ms n h e p))
    ∙ ap (option_map (λ k. suc k)) (enum_first ms n m (tail_apart (λ m. m.name) x ms h) e)

no_slot : (k : List ℕ) (fs : List Field) → ((n : ℕ) (g : Field) → slice_get fs n ≡ Some g → k ≡ g.name → ⊥) → slot_named k fs ≡ None
no_slot k [] h = refl
no_slot k (f ∷ fs) h = ap (λ b. cond b (Some f.slot) (slot_named k fs)) (other_is k f.name (h 0 f refl)) ∙ no_slot k fs (λ n g e. h (suc n) g e)

-- ---- implicit values

bool_form : (b : Bool) (o : Option TypeDef) → is_of (C.Bool b) o ≡ true → o ≡ Some T.Bool
bool_form b (Some T.Bool) h = refl
bool_form b o h = absurd cc

int_form : (n : ℤ) (o : Option TypeDef) → is_of (C.Int n) o ≡ true → o ≡ Some T.Int
int_form n (Some T.Int) h = refl
int_form n o h = absurd cc

text_form : (t : List ℕ) (o : Option TypeDef) → is_of (C.Text t) o ≡ true → o ≡ Some T.Text
text_form t (Some T.Text) h = refl
text_form t o h = absurd cc

scalar_fits : (rows : List Row) (slot : Slot) (s : Scalar) → is_of s (form_of rows slot) ≡ true → SpelledScalar s → OfType rows slot (of_scalar s)
scalar_fits rows slot (C.Bool b) h t = of_layer rows slot (V.boolean b) T.Bool (L.boolean b) (bool_form b (form_of rows slot) h) refl tt
scalar_fits rows slot (C.Int n) h t = of_layer rows slot (V.integer n) T.Int (L.integer n) (int_form n (form_of rows slot) h) refl t
scalar_fits rows slot (C.Text x) h t = of_layer rows slot (V.text x) T.Text (L.text x) (text_form x (form_of rows slot) h) refl t

spelled_scalar : (o : Option Scalar) (s : Scalar) → IfSome o SpelledScalar → o ≡ Some s → SpelledScalar s
spelled_scalar None s h e = absurd (none-some s e)
spelled_scalar (Some r) s h e = subst SpelledScalar (same_Some r s e) h

implicits_fit : (rows : List Row) (fs : List Field) → AllByRecursion (ImplicitFits rows) fs → AllByRecursion (λ f. IfSome f.implicit SpelledScalar) fs → ImplicitsFit rows fs
implicits_fit rows [] h t = tt
implicits_fit rows (f ∷ fs) h t = (λ s e. scalar_fits rows f.slot s (h.0 s e) (spelled_scalar f.implicit s t.0 e), implicits_fit rows fs h.1 t.1)

-- ---- optional fields have none

implicit_passes : (rows : List Row) (at : ℕ) (d : TypeDef) → type_fault rows at d ≡ None → implicit_fault rows d ≡ None
implicit_passes rows at d h =
    let h1 = next_none (fails_at R.NullClash (null_fault rows d)) _ h in
    let h2 = next_none (fails_at R.KindClash (kind_fault rows d)) _ h1 in
    let h3 = next_none (fails_at R.PrefixClash (prefix_fault d)) _ h2 in
    let h4 = next_none (fails_at R.Delim (delim_fault at d)) _ h3 in
    let h5 = next_none (fails_at R.NotText (text_fault rows d)) _ h4 in
    let h6 = next_none (fails_at R.OptionalPlace (optional_fault d)) _ h5 in
    map_none (λ at. (R.Implicit, at)) (implicit_fault rows d) (first_none (fails_at R.Implicit (implicit_fault rows d)) _ h6)

row_passes : (rows : List Row) (n : ℕ) (rs : List Row) (i : ℕ) (d : TypeDef) → first_failing rows n rs ≡ None → def_at rs i ≡ Some d → implicit_fault rows d ≡ None
row_passes rows n [] i d h e = absurd (none-some d e)
row_passes rows n (r ∷ rs) zero d h e = subst (λ d. implicit_fault rows d ≡ None) (same_Some r.def d e) (implicit_passes rows r.at r.def (map_none _ (type_fault rows r.at r.def) (first_none _ (first_failing rows (suc n) rs) h)))
row_passes rows n (r ∷ rs) (suc i) d h e = row_passes rows (suc n) rs i d (next_none _ (first_failing rows (suc n) rs) h) e

not_wrong : (rows : List Row) (f : Field) (o : Option Scalar) → option_map_or (λ value. f.optional || not (is_of value (form_of rows f.slot))) o false ≡ false → f.optional ≡ true → o ≡ None
not_wrong rows f None h e = refl
not_wrong rows f (Some s) h e = absurd (wrong (sym (ap (λ b. b || not (is_of s (form_of rows f.slot))) e) ∙ h))
  where
    wrong : true ≡ false → ⊥
    wrong p = absurd cc

first_fine : (f : Field) (o : Option Field) (b : Bool) → cond b (Some f) o ≡ None → (b ≡ false) × (o ≡ None)
first_fine f o true h = absurd (none-some f (sym h))
first_fine f o false h = (refl, h)

proper_fields : (rows : List Row) (fs : List Field) → AreApart (λ f. f.name) fs → find (is_implicit_wrong rows) fs ≡ None → AreProper fs
proper_fields rows [] h p = tt
proper_fields rows (f ∷ fs) h p =
    let x = first_fine f (find (is_implicit_wrong rows) fs) (is_implicit_wrong rows f) p in
    (no_slot f.name fs (λ n g e same. first_apart (λ f. f.name) f g fs n h e (sym same)), not_wrong rows f f.implicit x.0, proper_fields rows fs (tail_apart (λ f. f.name) f fs h) x.1)

-- ---- the type Any

any_first : (rows : List Row) → take 8 rows ≡ prelude → def_at rows 0 ≡ Some T.Any
any_first [] h = absurd cc
any_first (r ∷ rows) h = ap (λ xs. def_at xs 0) h

stays : (rows : List Row) (k : ℕ) → def_at rows 0 ≡ Some T.Any → followed rows k 0 ≡ 0
stays rows zero h = refl
stays rows (suc k) h = rw h refl

pub told : (rows : List Row) → IsSchema rows → IsTold rows
told rows s =
    let l = legible rows s.accepted in
    let any = any_first rows s.table.prelude_first in
    record {
      apart = record {
        unions = λ slot u n m f e. member_first u.members n m (l.named (base rows slot.ty.0) (T.Union u) f) e;
        enums = λ slot u n m f e. enum_first u.members n m (l.named (base rows slot.ty.0) (T.Enum u) f) e;
      };
      any_there = ap (def_at rows) (stays rows (length rows) any) ∙ any;
      implicits = λ slot u f. implicits_fit rows u.fields (l.fitting (base rows slot.ty.0) (T.Struct u) f) (s.table.texts.implicits (base rows slot.ty.0) (T.Struct u) f);
      proper = λ slot u f. proper_fields rows u.fields (l.named (base rows slot.ty.0) (T.Struct u) f) (map_none (λ f. f.at) (find (is_implicit_wrong rows) u.fields) (row_passes rows 0 rows (base rows slot.ty.0) (T.Struct u) s.accepted.none_fails f));
    }
