-- The texts of the parts of a type, and of all of them.
use Rattle.std.proofs.Common.{◌≡◌, ℕ, ◌<◌, ◌≤◌, ◌+◌, List, Option, Some, None, IsUtf8, length, take, get_or, refl, sym, subst}
use Rattle.std.specs.List.{All, AllByRecursion, slice_get}
use Rattle.std.specs.Option.{IfSome, option_map}
use Rattle.std.proofs.lemmas.List.{take_all}
use Rattle.std.proofs.lemmas.List.Elements.{All-more, All-weaker, recursion_from_All, at_read}
use Rattle.std.proofs.lemmas.Option.{slice_get_within, get_or_from_slice_get}
use Rattle.ild_schema.specs.declared.def.TypeDef.{TypeDef}
use Rattle.ild_schema.specs.declared.def.TypeDef.TheVariants as D
use Rattle.ild_schema.specs.declared.def.StructDef.{StructDef}
use Rattle.ild_schema.specs.declared.def.UnionDef.{UnionDef}
use Rattle.ild_schema.specs.declared.def.EnumDef.{EnumDef}
use Rattle.ild_schema.specs.declared.def.StructForm.{StructForm}
use Rattle.ild_schema.specs.declared.def.UnionForm.{UnionForm}
use Rattle.ild_schema.specs.declared.def.Field.{Field}
use Rattle.ild_schema.specs.declared.def.Member.{Member}
use Rattle.ild_schema.specs.declared.def.EnumMember.{EnumMember}
use Rattle.ild_schema.specs.declared.row.Row.{Row}
use Rattle.ild_schema.specs.Marks.{mark_text, field_text, member_text}
use Rattle.ild_schema.specs.Rows.{def_at}
use Rattle.ild_schema.specs.Spelled.{SpelledDelims, SpelledStruct, SpelledKeys, SpelledUnion, SpelledEnum, SpelledScalar, HasTexts}
use Rattle.ild_schema.specs.inside.Written.{FieldTexts, MemberTexts, EnumMemberTexts, TypeTexts, RowTexts}

-- ---- a loop over parts

pub one_more : {X : Type 0} (P : X → Type 0) (xs : List X) (i : ℕ) (x : X) → i < length xs → x ≡ get_or xs i x → P x → All P (take i xs) → All P (take (i + 1) xs)
one_more P xs i x within is h so_far = All-more P xs i x within so_far (at_read xs P i x within is h x)

pub all_of : {X : Type 0} (P : X → Type 0) (xs : List X) (i : ℕ) → length xs ≤ i → All P (take i xs) → All P xs
all_of P xs i past h = subst (λ ys. All P ys) (take_all i xs past) h

-- ---- what the parts say together

pub fields_spelled : (form : StructForm) (fs : List Field) → SpelledDelims form → All FieldTexts fs → SpelledStruct form fs
fields_spelled form fs delims all = record {
  delims = delims;
  texts = recursion_from_All (λ f. IsUtf8 (field_text f)) fs (All-weaker FieldTexts (λ f. IsUtf8 (field_text f)) (λ f h. h.text) fs all);
}

pub fields_named : (fs : List Field) → All FieldTexts fs → AllByRecursion (λ f. IsUtf8 f.name) fs
fields_named fs all = recursion_from_All (λ f. IsUtf8 f.name) fs (All-weaker FieldTexts (λ f. IsUtf8 f.name) (λ f h. h.name) fs all)

pub fields_implicit : (fs : List Field) → All FieldTexts fs → AllByRecursion (λ f. IfSome f.implicit SpelledScalar) fs
fields_implicit fs all = recursion_from_All (λ f. IfSome f.implicit SpelledScalar) fs (All-weaker FieldTexts (λ f. IfSome f.implicit SpelledScalar) (λ f h. h.implicit) fs all)

pub members_spelled : (form : UnionForm) (ms : List Member) → SpelledKeys form → All MemberTexts ms → SpelledUnion form ms
members_spelled form ms keys all = record {
  marks = recursion_from_All (λ m. IfSome (mark_text m.mark) IsUtf8) ms (All-weaker MemberTexts (λ m. IfSome (mark_text m.mark) IsUtf8) (λ m h. h.mark) ms all);
  keys = keys;
}

pub members_named : (ms : List Member) → All MemberTexts ms → AllByRecursion (λ m. IsUtf8 m.name) ms
members_named ms all = recursion_from_All (λ m. IsUtf8 m.name) ms (All-weaker MemberTexts (λ m. IsUtf8 m.name) (λ m h. h.name) ms all)

pub values_spelled : (ms : List EnumMember) → All EnumMemberTexts ms → SpelledEnum ms
values_spelled ms all = recursion_from_All (λ m. IsUtf8 (member_text m)) ms (All-weaker EnumMemberTexts (λ m. IsUtf8 (member_text m)) (λ m h. h.text) ms all)

pub values_named : (ms : List EnumMember) → All EnumMemberTexts ms → AllByRecursion (λ m. IsUtf8 m.name) ms
values_named ms all = recursion_from_All (λ m. IsUtf8 m.name) ms (All-weaker EnumMemberTexts (λ m. IsUtf8 m.name) (λ m h. h.name) ms all)

-- ---- the types of a table

def_texts : (rows : List Row) → All RowTexts rows → (n : ℕ) (d : TypeDef) → def_at rows n ≡ Some d → TypeTexts d
def_texts rows all n d h = by (slice_get rows n) refl h
  where
    by : (o : Option Row) → slice_get rows n ≡ o → option_map (λ r. r.def) o ≡ Some d → TypeTexts d
    by None e h = absurd cc
    by (Some r) e h =
        let same : r.def ≡ d = cc in
        let here : RowTexts (get_or rows n r) = all n r (slice_get_within rows n r e) in
        subst TypeTexts same (subst (λ (r : Row). TypeTexts r.def) (get_or_from_slice_get rows n r r e) here.def)

pub texts_of_rows : (rows : List Row) → All RowTexts rows → HasTexts rows
texts_of_rows rows all = record {
  names = All-weaker RowTexts (λ r. IsUtf8 r.name) (λ r h. h.name) rows all;
  spelled = λ n d h. (def_texts rows all n d h).spelled;
  named = λ n d h. (def_texts rows all n d h).named;
  implicits = λ n d h. (def_texts rows all n d h).implicits;
}

-- ---- a type, by its form

pub struct_texts : (d : TypeDef) (s : StructDef) (fs : List Field) → d ≡ D.Struct s → fs ≡ s.fields → SpelledDelims s.form → All FieldTexts fs → TypeTexts d
struct_texts d s fs is same delims all =
    let all_of_s : All FieldTexts s.fields = subst (λ xs. All FieldTexts xs) same all in
    subst TypeTexts (sym is) (record {
      spelled = fields_spelled s.form s.fields delims all_of_s;
      named = fields_named s.fields all_of_s;
      implicits = fields_implicit s.fields all_of_s;
    })

pub union_texts : (d : TypeDef) (u : UnionDef) (ms : List Member) → d ≡ D.Union u → ms ≡ u.members → SpelledKeys u.form → All MemberTexts ms → TypeTexts d
union_texts d u ms is same keys all =
    let all_of_u : All MemberTexts u.members = subst (λ xs. All MemberTexts xs) same all in
    subst TypeTexts (sym is) (record {
      spelled = members_spelled u.form u.members keys all_of_u;
      named = members_named u.members all_of_u;
      implicits = tt;
    })

pub enum_texts : (d : TypeDef) (e : EnumDef) (ms : List EnumMember) → d ≡ D.Enum e → ms ≡ e.members → All EnumMemberTexts ms → TypeTexts d
enum_texts d e ms is same all =
    let all_of_e : All EnumMemberTexts e.members = subst (λ xs. All EnumMemberTexts xs) same all in
    subst TypeTexts (sym is) (record {
      spelled = values_spelled e.members all_of_e;
      named = values_named e.members all_of_e;
      implicits = tt;
    })
