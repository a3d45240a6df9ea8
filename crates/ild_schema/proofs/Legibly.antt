-- Accepted tables are legible: each rule that doesn't fail gives its plain facts.
use Rattle.std.proofs.Common.{◌≡◌, ℕ, suc, ◌<◌, Bool, true, false, ◌&&◌, ◌||◌, not, List, [], ◌∷◌, Option, Some, None, refl, sym, ◌∙◌, arith}
use Rattle.std.specs.Prelude.{bytes_eq, option_and_then}
use Rattle.std.specs.List.{slice_get, AllByRecursion}
use Rattle.std.specs.Option.{option_map_or}
use Rattle.ild_data.proofs.AllOf.{all_indexed}
use Rattle.ild_schema.specs.declared.number.Slot.{Slot}
use Rattle.ild_schema.specs.declared.def.TypeDef.{TypeDef}
use Rattle.ild_schema.specs.declared.def.TypeDef.TheVariants as D
use Rattle.ild_schema.specs.declared.def.MapForm.{MapForm}
use Rattle.ild_schema.specs.declared.def.MapForm.TheVariants as M
use Rattle.ild_schema.specs.declared.def.StructForm.{StructForm}
use Rattle.ild_schema.specs.declared.def.StructForm.TheVariants as S
use Rattle.ild_schema.specs.declared.def.UnionForm.{UnionForm}
use Rattle.ild_schema.specs.declared.def.UnionForm.TheVariants as U
use Rattle.ild_schema.specs.declared.def.EnumForm.{EnumForm}
use Rattle.ild_schema.specs.declared.def.EnumForm.TheVariants as E
use Rattle.ild_schema.specs.declared.def.EnumMember.{EnumMember}
use Rattle.ild_schema.specs.declared.def.Field.{Field}
use Rattle.ild_schema.specs.declared.def.KindWord.{KindWord}
use Rattle.ild_schema.specs.declared.def.KindWord.TheVariants as W
use Rattle.ild_schema.specs.declared.def.Member.{Member}
use Rattle.ild_schema.specs.declared.def.Scalar.{Scalar}
use Rattle.ild_schema.specs.declared.row.Row.{Row}
use Rattle.ild_schema.specs.Apart.{ApartType}
use Rattle.ild_schema.specs.Clashes.{are_same, discriminant_of, has_field, has_one_key, is_field_again, is_member_again, is_same_value, is_value_again}
use Rattle.ild_schema.specs.Clear.{IsGiven, AreNamesApart, IsRequired, AreClearFields, ClearStruct, ClearMap, SameText, Clash, KeysApart, ClearEnum, ClearType, IsSafe, AreSafe}
use Rattle.ild_schema.specs.DataKinds.{same_kind}
use Rattle.ild_schema.specs.Delimiters.{is_empty, occurs, are_poor, is_poor_struct, is_poor_map}
use Rattle.ild_schema.specs.Delims.{HasDelims, MapDelims, Delims}
use Rattle.ild_schema.specs.Fitting.{ImplicitFits, FittingType}
use Rattle.ild_data.specs.Hex.{bytes_of_hex}
use Rattle.ild_schema.specs.Kinds.{has_only, has_text_form, kinds_of, meant}
use Rattle.ild_schema.specs.Legible.{AcceptedAreLegible}
use Rattle.ild_schema.specs.Made.{HasOnly, IsTextSlot, MadeStruct, MadeMap, IsInlined, MadeMember, MadeEnum, MadeType}
use Rattle.ild_schema.specs.Marks.{mark_text, mark_kind, field_text, member_text, member_integer}
use Rattle.ild_schema.specs.Places.{first_place, first_beside, place_if}
use Rattle.ild_schema.specs.Prefixes.{begins, prefix_fails}
use Rattle.ild_schema.specs.Rules.{is_null_twice, is_kind_wrong, is_not_bytes, union_kind_fault, is_no_text, is_text_struct, is_text_map, is_text_union, is_optional_wrong, is_of, is_implicit_wrong, is_map_struct, is_map_form, is_inline, is_field_wrong, is_bare_join, is_member_wrong, is_value_wrong}
use Rattle.ild_schema.specs.Slots.{plainly}
use Rattle.ild_schema.proofs.Kinding.{kinds_told, only_one}
use Rattle.ild_schema.proofs.Passing.{left, right, past, unless, never, not_placed, not_first, not_next, all_pass, each_passes, none_any, one_place}
use Rattle.ild_schema.proofs.Ruling.{Passes, def_passes}
use Rattle.ild_schema.proofs.Telling.{equal_texts, same_told, same_integers, some_of, some_behind, at_some, fields_beside, values_beside, members_beside, key_free, same_swap, member_kind, kinds_beside, prefixes_beside}

given : (s : List ℕ) → is_empty s ≡ false → IsGiven s
given [] h = absurd cc
given (b ∷ bs) h = tt

inner_given : (inner entry : List ℕ) → are_poor inner entry ≡ false → IsGiven inner
inner_given inner entry h = given inner (left (is_empty inner) (is_empty entry) (left (is_empty inner || is_empty entry) (occurs entry inner) h))

entry_given : (inner entry : List ℕ) → are_poor inner entry ≡ false → IsGiven entry
entry_given inner entry h = given entry (right (is_empty inner) (is_empty entry) (left (is_empty inner || is_empty entry) (occurs entry inner) h))

-- ---- fields

names_apart : (fs : List Field) → ((i j : ℕ) (f g : Field) → i < j → slice_get fs i ≡ Some f → slice_get fs j ≡ Some g → field_text f ≡ field_text g → ⊥) → AreNamesApart fs
names_apart [] h = tt
names_apart (f ∷ fs) h = (all_indexed (λ g. field_text f ≡ field_text g → ⊥) fs (λ j g e. h 0 (suc j) f g (omega arith) refl e), names_apart fs (λ i j a b lt. h (suc i) (suc j) a b (omega arith)))

implicit_fine : (optional : Bool) (test : Scalar → Bool) (o : Option Scalar) → option_map_or (λ v. optional || not (test v)) o false ≡ false → optional ≡ true → o ≡ None
implicit_fine optional test None h e = refl
implicit_fine optional test (Some x) h e = never optional e (left optional (not (test x)) h)

implicit_fits : (optional : Bool) (test : Scalar → Bool) (o : Option Scalar) (v : Scalar) → option_map_or (λ v. optional || not (test v)) o false ≡ false → o ≡ Some v → test v ≡ true
implicit_fits optional test o v h e = unless (test v) (right optional (not (test v)) (at_some (λ v. optional || not (test v)) o v e h))

clear_fields : (rows : List Row) (fs : List Field) → first_beside is_field_again (λ f. f.at) [] fs ≡ None → first_place (is_implicit_wrong rows) (λ f. f.at) fs ≡ None → AreClearFields fs
clear_fields rows fs h k = record {
  apart = names_apart fs (λ i j f g lt e u same. never (bytes_eq (field_text g) (field_text f)) (equal_texts (field_text g) (field_text f) (sym same)) (right (bytes_eq g.name f.name) (bytes_eq (field_text g) (field_text f)) (fields_beside fs h i j f g lt e u)));
  required = all_indexed IsRequired fs (λ i f e. implicit_fine f.optional (λ v. is_of v (meant rows f.slot.ty.0)) f.implicit (all_pass (is_implicit_wrong rows) (λ f. f.at) fs k i f e));
}

clear_struct : (rows : List Row) (at : ℕ) (form : StructForm) (fs : List Field) → first_beside is_field_again (λ f. f.at) [] fs ≡ None → first_place (is_implicit_wrong rows) (λ f. f.at) fs ≡ None
    → place_if (is_poor_struct form) at ≡ None → ClearStruct form fs
clear_struct rows at S.Map fs h k p = clear_fields rows fs h k
clear_struct rows at S.Tuple fs h k p = tt
clear_struct rows at S.ListPairs fs h k p = clear_fields rows fs h k
clear_struct rows at (S.StringPairs inner entry) fs h k p = (clear_fields rows fs h k, inner_given inner entry (not_placed (are_poor inner entry) at p))
clear_struct rows at (S.StringJoin delim) fs h k p = tt

clear_map : (at : ℕ) (form : MapForm) → place_if (is_poor_map form) at ≡ None → ClearMap form
clear_map at M.Map p = tt
clear_map at M.ListPairs p = tt
clear_map at (M.StringPairs inner entry) p = inner_given inner entry (not_placed (are_poor inner entry) at p)
clear_map at (M.Hamt shape) p = tt

struct_delims : (at : ℕ) (form : StructForm) (fs : List Field) → place_if (is_poor_struct form) at ≡ None → is_bare_join form fs ≡ false → HasDelims form fs
struct_delims at S.Map fs p b = tt
struct_delims at S.Tuple fs p b = tt
struct_delims at S.ListPairs fs p b = tt
struct_delims at (S.StringPairs inner entry) fs p b = entry_given inner entry (not_placed (are_poor inner entry) at p)
struct_delims at (S.StringJoin delim) [] p b = absurd cc
struct_delims at (S.StringJoin delim) (f ∷ fs) p b = given delim (not_placed (is_empty delim) at p)

map_delims : (at : ℕ) (form : MapForm) → place_if (is_poor_map form) at ≡ None → MapDelims form
map_delims at M.Map p = tt
map_delims at M.ListPairs p = tt
map_delims at (M.StringPairs inner entry) p = entry_given inner entry (not_placed (are_poor inner entry) at p)
map_delims at (M.Hamt shape) p = tt

-- ---- unions

module _ (rows : List Row) (form : UnionForm) (ms : List Member) (h : first_beside (is_member_again rows form) (λ m. m.at) [] ms ≡ None) (s : first_place (is_member_wrong form) (λ m. m.at) ms ≡ None)
    (told : (m : Member) → discriminant_of form m ≡ mark_text m.mark) where
  texts_apart : (i j : ℕ) (m n : Member) (t : List ℕ) → i < j → slice_get ms i ≡ Some m → slice_get ms j ≡ Some n → mark_text m.mark ≡ Some t → mark_text n.mark ≡ Some t → ⊥
  texts_apart i j m n t lt e f one other =
      never (are_same (discriminant_of form n) (discriminant_of form m)) (same_told (discriminant_of form n) (discriminant_of form m) t (told n ∙ other) (told m ∙ one))
      (right (bytes_eq n.name m.name) (are_same (discriminant_of form n) (discriminant_of form m)) (members_beside rows form ms h s i j m n lt e f))

  texts_once : (i j : ℕ) (m n : Member) → slice_get ms i ≡ Some m → slice_get ms j ≡ Some n → SameText m n → i ≡ j
  texts_once = one_place SameText ms (λ i j m n lt e f c. texts_apart i j m n c.0 lt e f c.1 c.2) (λ i j m n lt e f c. texts_apart i j m n c.0 lt e f c.2 c.1)

kinds_once : (rows : List Row) (ms : List Member) → first_beside (is_kind_wrong rows) (λ m. m.at) [] ms ≡ None → (i j : ℕ) (m n : Member) → slice_get ms i ≡ Some m → slice_get ms j ≡ Some n → Clash U.Kinded m n → i ≡ j
kinds_once rows ms h = one_place (Clash U.Kinded) ms
    (λ i j m n lt e f c. never (same_kind c.0 c.1) c.4 (kinds_beside rows ms h i j m n c.0 c.1 lt e f c.2 c.3))
    (λ i j m n lt e f c. never (same_kind c.0 c.1) c.4 (same_swap c.0 c.1 ∙ kinds_beside rows ms h i j m n c.1 c.0 lt e f c.3 c.2))

texts_begin_once : (ms : List Member) → first_beside (prefix_fails U.StringPrefix) (λ m. m.at) [] ms ≡ None → (i j : ℕ) (m n : Member) → slice_get ms i ≡ Some m → slice_get ms j ≡ Some n → Clash U.StringPrefix m n → i ≡ j
texts_begin_once ms h = one_place (Clash U.StringPrefix) ms
    (λ i j m n lt e f c. never (begins c.0 c.1) c.4 (left (begins c.0 c.1) (begins c.1 c.0) (prefixes_beside U.StringPrefix ms h i j m n c.0 c.1 lt e f c.2 c.3)))
    (λ i j m n lt e f c. never (begins c.0 c.1) c.4 (right (begins c.1 c.0) (begins c.0 c.1) (prefixes_beside U.StringPrefix ms h i j m n c.1 c.0 lt e f c.3 c.2)))

bytes_begin_once : (ms : List Member) → first_beside (prefix_fails U.BytesPrefix) (λ m. m.at) [] ms ≡ None → (i j : ℕ) (m n : Member) → slice_get ms i ≡ Some m → slice_get ms j ≡ Some n → Clash U.BytesPrefix m n → i ≡ j
bytes_begin_once ms h = one_place (Clash U.BytesPrefix) ms
    (λ i j m n lt e f c. never (begins c.0 c.1) c.4 (left (begins c.0 c.1) (begins c.1 c.0) (prefixes_beside U.BytesPrefix ms h i j m n c.0 c.1 lt e f c.2 c.3)))
    (λ i j m n lt e f c. never (begins c.0 c.1) c.4 (right (begins c.1 c.0) (begins c.0 c.1) (prefixes_beside U.BytesPrefix ms h i j m n c.1 c.0 lt e f c.3 c.2)))

marks_once : (rows : List Row) (form : UnionForm) (ms : List Member) → first_beside (is_member_again rows form) (λ m. m.at) [] ms ≡ None → first_place (is_member_wrong form) (λ m. m.at) ms ≡ None
    → union_kind_fault rows form ms ≡ None → first_beside (prefix_fails form) (λ m. m.at) [] ms ≡ None
    → (i j : ℕ) (m n : Member) → slice_get ms i ≡ Some m → slice_get ms j ≡ Some n → Clash form m n → i ≡ j
marks_once rows U.Keyed ms h s k p = texts_once rows U.Keyed ms h s (λ m. refl)
marks_once rows U.Kinded ms h s k p = kinds_once rows ms k
marks_once rows U.StringPrefix ms h s k p = texts_begin_once ms p
marks_once rows U.BytesPrefix ms h s k p = bytes_begin_once ms p
marks_once rows (U.Envelope key content) ms h s k p = texts_once rows (U.Envelope key content) ms h s (λ m. refl)
marks_once rows (U.Inline key) ms h s k p = texts_once rows (U.Inline key) ms h s (λ m. refl)

keys_apart : (form : UnionForm) → has_one_key form ≡ false → KeysApart form
keys_apart U.Keyed h = tt
keys_apart U.Kinded h = tt
keys_apart U.StringPrefix h = tt
keys_apart U.BytesPrefix h = tt
keys_apart (U.Envelope key content) h = λ e. never (bytes_eq key content) (equal_texts key content e) h
keys_apart (U.Inline key) h = tt

-- ---- enums

clear_enum : (form : EnumForm) (ms : List EnumMember) → first_beside (is_value_again form) (λ m. m.at) [] ms ≡ None → first_place (is_value_wrong form) (λ m. m.at) ms ≡ None → ClearEnum form ms
clear_enum E.Text ms h s = one_place (λ m n. member_text m ≡ member_text n) ms
    (λ i j m n lt e f c. apart i j m n lt e f (sym c))
    (λ i j m n lt e f c. apart i j m n lt e f c)
  where
    apart : (i j : ℕ) (m n : EnumMember) → i < j → slice_get ms i ≡ Some m → slice_get ms j ≡ Some n → member_text n ≡ member_text m → ⊥
    apart i j m n lt e f c = never (bytes_eq (member_text n) (member_text m)) (equal_texts (member_text n) (member_text m) c) (right (bytes_eq n.name m.name) (bytes_eq (member_text n) (member_text m)) (values_beside E.Text ms h s i j m n lt e f))
clear_enum E.Int ms h s = one_place (λ m n. member_integer m ≡ member_integer n) ms
    (λ i j m n lt e f c. apart i j m n lt e f (sym c))
    (λ i j m n lt e f c. apart i j m n lt e f c)
  where
    apart : (i j : ℕ) (m n : EnumMember) → i < j → slice_get ms i ≡ Some m → slice_get ms j ≡ Some n → member_integer n ≡ member_integer m → ⊥
    apart i j m n lt e f c =
        let z = some_of (member_integer m) (all_pass (is_value_wrong E.Int) (λ m. m.at) ms s i m e) in
        never (is_same_value E.Int n m) (same_integers (member_integer n) (member_integer m) z.0 (c ∙ z.1) z.1) (right (bytes_eq n.name m.name) (is_same_value E.Int n m) (values_beside E.Int ms h s i j m n lt e f))

clear_type : (rows : List Row) (at : ℕ) (d : TypeDef) → Passes rows at d → ClearType d
clear_type rows at (D.Map key key_at value value_at form) p = clear_map at form p.delim
clear_type rows at (D.Struct s) p = clear_struct rows at s.form s.fields p.name p.implicit p.delim
clear_type rows at (D.Union u) p =
    let names : first_beside (is_member_again rows u.form) (λ m. m.at) [] u.members ≡ None = not_next (has_one_key u.form) at (first_beside (is_member_again rows u.form) (λ m. m.at) [] u.members) p.name in
    record {
      apart = marks_once rows u.form u.members names p.strategy p.kind p.prefix;
      keys = keys_apart u.form (not_first (has_one_key u.form) at (first_beside (is_member_again rows u.form) (λ m. m.at) [] u.members) p.name);
    }
clear_type rows at (D.Enum e) p = clear_enum e.form e.members p.name p.strategy
clear_type rows at d p = tt

-- ---- what may be null

safe : (rows : List Row) (s : Slot) → is_null_twice rows s ≡ false → IsSafe rows s
safe rows s h e = sym (kinds_told rows s W.Null) ∙ past s.nullable (kinds_of rows s.ty.0).null h e

parts_safe : (rows : List Row) (at : ℕ) (d : TypeDef) → Passes rows at d → AreSafe rows d
parts_safe rows at (D.List elem place) p = safe rows elem (not_placed (is_null_twice rows elem) place p.null)
parts_safe rows at (D.Map key key_at value place form) p = safe rows value (not_placed (is_null_twice rows value) place p.null)
parts_safe rows at (D.Struct s) p = all_indexed (λ f. IsSafe rows f.slot) s.fields (λ i f e. safe rows f.slot (all_pass (λ f. is_null_twice rows f.slot) (λ f. f.at) s.fields p.null i f e))
parts_safe rows at d p = tt

-- ---- what values are made of

only_kind : (rows : List Row) (s : Slot) (k : KindWord) → has_only k (kinds_of rows s.ty.0) ≡ true → HasOnly rows s k
only_kind rows s k h l e = only_one k l (kinds_of rows s.ty.0) h (kinds_told rows s l ∙ e)

text_slot : (rows : List Row) (s : Slot) → is_no_text rows s ≡ false → IsTextSlot rows s
text_slot rows s h = record {
  plain = left s.nullable (not (has_text_form rows s.ty.0)) h;
  only = only_kind rows s W.Text (unless (has_text_form rows s.ty.0) (right s.nullable (not (has_text_form rows s.ty.0)) h));
}

made_struct : (rows : List Row) (form : StructForm) (fs : List Field) → first_place (λ f. is_text_struct form && is_no_text rows f.slot) (λ f. f.at) fs ≡ None
    → first_beside (is_optional_wrong form) (λ f. f.at) [] fs ≡ None → MadeStruct rows form fs
made_struct rows S.Map fs h o = tt
made_struct rows S.Tuple fs h o = tt
made_struct rows S.ListPairs fs h o = tt
made_struct rows (S.StringPairs inner entry) fs h o = all_indexed (λ f. IsTextSlot rows f.slot) fs (λ i f e. text_slot rows f.slot (all_pass (λ f. is_no_text rows f.slot) (λ f. f.at) fs h i f e))
made_struct rows (S.StringJoin delim) fs h o = all_indexed (λ f. IsTextSlot rows f.slot × (f.optional ≡ false)) fs
    (λ i f e. (text_slot rows f.slot (all_pass (λ f. is_no_text rows f.slot) (λ f. f.at) fs h i f e), each_passes (is_optional_wrong (S.StringJoin delim)) (λ f. f.at) [] fs o i f e))

made_map : (rows : List Row) (at : ℕ) (form : MapForm) (value : Slot) → place_if (is_text_map form && is_no_text rows value) at ≡ None → MadeMap rows form value
made_map rows at M.Map value h = tt
made_map rows at M.ListPairs value h = tt
made_map rows at (M.StringPairs inner entry) value h = text_slot rows value (not_placed (is_no_text rows value) at h)
made_map rows at (M.Hamt shape) value h = tt

pub map_form : (form : StructForm) → is_map_form form ≡ true → form ≡ S.Map
map_form S.Map h = refl
map_form form h = absurd cc

inlined : (rows : List Row) (key : List ℕ) (m : Member) (o : Option TypeDef) → meant rows m.ty.0 ≡ o → is_map_struct o ≡ true → has_field key o ≡ false → IsInlined rows key m
inlined rows key m (Some (D.Struct s)) e h k = record {
  struct = s;
  known = e;
  form = map_form s.form h;
  apart = all_indexed (λ f. key ≡ field_text f → ⊥) s.fields (λ i f u same. never (bytes_eq key (field_text f)) (equal_texts key (field_text f) same) (none_any (λ f. bytes_eq key (field_text f)) s.fields k i f u));
}
inlined rows key m o e h k = absurd cc

module _ (rows : List Row) (ms : List Member) where
  made_member : (form : UnionForm) → first_beside (is_member_again rows form) (λ m. m.at) [] ms ≡ None → first_place (is_member_wrong form) (λ m. m.at) ms ≡ None → union_kind_fault rows form ms ≡ None
      → first_place (λ m. is_text_union form && not (has_text_form rows m.ty.0)) (λ m. m.at) ms ≡ None → first_place (λ m. is_inline form && not (is_map_struct (meant rows m.ty.0))) (λ m. m.at) ms ≡ None
      → (i : ℕ) (m : Member) → slice_get ms i ≡ Some m → MadeMember rows form m
  made_member U.Keyed h s k t n i m e = some_of (mark_text m.mark) (all_pass (is_member_wrong U.Keyed) (λ m. m.at) ms s i m e)
  made_member U.Kinded h s k t n i m e =
      let kind = some_of (mark_kind m.mark) (all_pass (is_member_wrong U.Kinded) (λ m. m.at) ms s i m e) in
      (kind.0, kind.1, only_kind rows (plainly m.ty) kind.0 (unless (has_only kind.0 (kinds_of rows m.ty.0)) (left (not (has_only kind.0 (kinds_of rows m.ty.0))) _ (member_kind rows ms k i m kind.0 e kind.1))))
  made_member U.StringPrefix h s k t n i m e = (
    some_of (mark_text m.mark) (all_pass (is_member_wrong U.StringPrefix) (λ m. m.at) ms s i m e),
    only_kind rows (plainly m.ty) W.Text (unless (has_text_form rows m.ty.0) (all_pass (λ m. not (has_text_form rows m.ty.0)) (λ m. m.at) ms t i m e)),
  )
  made_member U.BytesPrefix h s k t n i m e =
      let bytes = some_of (option_and_then bytes_of_hex (mark_text m.mark)) (all_pass (is_member_wrong U.BytesPrefix) (λ m. m.at) ms s i m e) in
      let there = some_behind bytes_of_hex (mark_text m.mark) (all_pass (is_member_wrong U.BytesPrefix) (λ m. m.at) ms s i m e) in
      (bytes.0, bytes.1, only_kind rows (plainly m.ty) W.Bytes (unless (has_only W.Bytes (kinds_of rows m.ty.0)) (past _ (not (has_only W.Bytes (kinds_of rows m.ty.0))) (all_pass (is_not_bytes rows) (λ m. m.at) ms k i m e) there)))
  made_member (U.Envelope key content) h s k t n i m e = some_of (mark_text m.mark) (all_pass (is_member_wrong (U.Envelope key content)) (λ m. m.at) ms s i m e)
  made_member (U.Inline key) h s k t n i m e = (
    some_of (mark_text m.mark) (all_pass (is_member_wrong (U.Inline key)) (λ m. m.at) ms s i m e),
    inlined rows key m (meant rows m.ty.0) refl (unless (is_map_struct (meant rows m.ty.0)) (all_pass (λ m. not (is_map_struct (meant rows m.ty.0))) (λ m. m.at) ms n i m e)) (key_free rows (U.Inline key) ms h s i m e),
  )

made_enum : (form : EnumForm) (ms : List EnumMember) → first_place (is_value_wrong form) (λ m. m.at) ms ≡ None → AllByRecursion (MadeEnum form) ms
made_enum E.Text ms s = all_indexed (MadeEnum E.Text) ms (λ i m e. tt)
made_enum E.Int ms s = all_indexed (MadeEnum E.Int) ms (λ i m e. some_of (member_integer m) (all_pass (is_value_wrong E.Int) (λ m. m.at) ms s i m e))

made_type : (rows : List Row) (at : ℕ) (d : TypeDef) → Passes rows at d → MadeType rows d
made_type rows at (D.Map key key_at value place form) p = made_map rows place form value p.text
made_type rows at (D.Struct s) p = made_struct rows s.form s.fields p.text p.optional
made_type rows at (D.Union u) p =
    let names : first_beside (is_member_again rows u.form) (λ m. m.at) [] u.members ≡ None = not_next (has_one_key u.form) at (first_beside (is_member_again rows u.form) (λ m. m.at) [] u.members) p.name in
    all_indexed (MadeMember rows u.form) u.members (made_member rows u.members u.form names p.strategy p.kind p.text p.inline)
made_type rows at (D.Enum e) p = made_enum e.form e.members p.strategy
made_type rows at d p = tt

delims_type : (rows : List Row) (at : ℕ) (d : TypeDef) → Passes rows at d → Delims d
delims_type rows at (D.Map key key_at value place form) p = map_delims at form p.delim
delims_type rows at (D.Struct s) p = struct_delims at s.form s.fields p.delim (not_first (is_bare_join s.form s.fields) at (first_place (is_field_wrong s.form) (λ f. f.at) s.fields) p.strategy)
delims_type rows at d p = tt

-- ---- names

apart_type : (rows : List Row) (at : ℕ) (d : TypeDef) → Passes rows at d → ApartType d
apart_type rows at (D.Struct s) p = one_place (λ f g. f.name ≡ g.name) s.fields (λ i j f g lt e k c. apart i j f g lt e k (sym c)) apart
  where
    apart : (i j : ℕ) (f g : Field) → i < j → slice_get s.fields i ≡ Some f → slice_get s.fields j ≡ Some g → g.name ≡ f.name → ⊥
    apart i j f g lt e k c = never (bytes_eq g.name f.name) (equal_texts g.name f.name c) (left (bytes_eq g.name f.name) (bytes_eq (field_text g) (field_text f)) (fields_beside s.fields p.name i j f g lt e k))
apart_type rows at (D.Union u) p = one_place (λ m n. m.name ≡ n.name) u.members (λ i j m n lt e k c. apart i j m n lt e k (sym c)) apart
  where
    apart : (i j : ℕ) (m n : Member) → i < j → slice_get u.members i ≡ Some m → slice_get u.members j ≡ Some n → n.name ≡ m.name → ⊥
    apart i j m n lt e k c =
        let names : first_beside (is_member_again rows u.form) (λ m. m.at) [] u.members ≡ None = not_next (has_one_key u.form) at (first_beside (is_member_again rows u.form) (λ m. m.at) [] u.members) p.name in
        never (bytes_eq n.name m.name) (equal_texts n.name m.name c) (left (bytes_eq n.name m.name) _ (members_beside rows u.form u.members names p.strategy i j m n lt e k))
apart_type rows at (D.Enum e) p = one_place (λ m n. m.name ≡ n.name) e.members (λ i j m n lt u k c. apart i j m n lt u k (sym c)) apart
  where
    apart : (i j : ℕ) (m n : EnumMember) → i < j → slice_get e.members i ≡ Some m → slice_get e.members j ≡ Some n → n.name ≡ m.name → ⊥
    apart i j m n lt u k c = never (bytes_eq n.name m.name) (equal_texts n.name m.name c) (left (bytes_eq n.name m.name) _ (values_beside e.form e.members p.name p.strategy i j m n lt u k))
apart_type rows at d p = tt

-- ---- parts by their types

fitting_type : (rows : List Row) (at : ℕ) (d : TypeDef) → Passes rows at d → FittingType rows d
fitting_type rows at (D.Map key key_at value place form) p = only_kind rows (plainly key) W.Text (unless (has_text_form rows key.0) (not_placed (not (has_text_form rows key.0)) key_at p.key))
fitting_type rows at (D.Struct s) p = all_indexed (ImplicitFits rows) s.fields
    (λ i f e v u. implicit_fits f.optional (λ v. is_of v (meant rows f.slot.ty.0)) f.implicit v (all_pass (is_implicit_wrong rows) (λ f. f.at) s.fields p.implicit i f e) u)
fitting_type rows at d p = tt

pub legible : AcceptedAreLegible
legible rows a = record {
  clear = record {
    types = λ n d e. let p = def_passes rows a.none_fails n d e in clear_type rows p.0 d p.1;
    parts = λ n d e. let p = def_passes rows a.none_fails n d e in parts_safe rows p.0 d p.1;
  };
  made = λ n d e. let p = def_passes rows a.none_fails n d e in made_type rows p.0 d p.1;
  delims = λ n d e. let p = def_passes rows a.none_fails n d e in delims_type rows p.0 d p.1;
  named = λ n d e. let p = def_passes rows a.none_fails n d e in apart_type rows p.0 d p.1;
  fitting = λ n d e. let p = def_passes rows a.none_fails n d e in fitting_type rows p.0 d p.1;
}
