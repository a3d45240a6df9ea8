-- Members of unions and enums that are told alike in a block.
use Rattle.std.proofs.Common.{◌≡◌, ℕ, ℤ, true, List, Option, Some, None, ◌++◌, refl, sym, ap, ◌∙◌}
use Rattle.std.specs.Prelude.{option_map, option_and_then}
use Rattle.std.proofs.lemmas.Bool.{false≢true}
use Rattle.std.proofs.lemmas.Bool.Decides.{Decides-int_eq}
use Rattle.ild_data.specs.Data as T
use Rattle.ild_data.specs.Data.{Data}
use Rattle.ild_schema.specs.declared.def.UnionForm.{UnionForm}
use Rattle.ild_schema.specs.declared.def.UnionForm.TheVariants as UF
use Rattle.ild_schema.specs.declared.def.EnumForm.{EnumForm}
use Rattle.ild_schema.specs.declared.def.EnumForm.TheVariants as E
use Rattle.ild_schema.specs.declared.def.KindWord.{KindWord}
use Rattle.ild_schema.specs.declared.def.KindWord.TheVariants as K
use Rattle.ild_schema.specs.declared.def.Member.{Member}
use Rattle.ild_schema.specs.declared.def.EnumMember.{EnumMember}
use Rattle.ild_schema.specs.DataKinds.{same_kind}
use Rattle.ild_data.specs.Hex.{bytes_of_hex}
use Rattle.ild_schema.specs.Marks.{mark_text, mark_kind, member_text, member_integer}
use Rattle.ild_typed.specs.Composed.{member_form, marked_form, enum_form}
use Rattle.ild_typed.specs.Strings.{bytes_in}
use Rattle.ild_compat.specs.Fields.{is_same_text, is_same_kind, is_same_int, has_same_mark, has_same_value}
use Rattle.ild_compat_laws.proofs.Agreeing.{texts_same}

pub same_text : (a b : Option (List ℕ)) → is_same_text a b ≡ true → a ≡ b
same_text None None h = refl
same_text None (Some t) h = absurd (false≢true h)
same_text (Some s) None h = absurd (false≢true h)
same_text (Some s) (Some t) h = ap Some (texts_same s t h)

kinds_same : (k l : KindWord) → same_kind k l ≡ true → k ≡ l
kinds_same K.Null K.Null h = refl
kinds_same K.Bool K.Bool h = refl
kinds_same K.Int K.Int h = refl
kinds_same K.Text K.Text h = refl
kinds_same K.Bytes K.Bytes h = refl
kinds_same K.List K.List h = refl
kinds_same K.Map K.Map h = refl
kinds_same K.Link K.Link h = refl
kinds_same k l h = absurd (false≢true h)

pub same_kinds : (a b : Option KindWord) → is_same_kind a b ≡ true → a ≡ b
same_kinds None None h = refl
same_kinds None (Some l) h = absurd (false≢true h)
same_kinds (Some k) None h = absurd (false≢true h)
same_kinds (Some k) (Some l) h = ap Some (kinds_same k l h)

pub same_int : (a b : Option ℤ) → is_same_int a b ≡ true → a ≡ b
same_int None None h = refl
same_int None (Some n) h = absurd (false≢true h)
same_int (Some m) None h = absurd (false≢true h)
same_int (Some m) (Some n) h = ap Some ((Decides-int_eq m n).0 h)

-- the bytes in front are all that a block shows of a text in hexadecimal
by_bytes : (d : Data) (o : Option (List ℕ)) → option_and_then (marked_form UF.BytesPrefix d) o
    ≡ option_and_then (λ front. option_map (λ s. T.bytes (front ++ s)) (bytes_in d)) (option_and_then bytes_of_hex o)
by_bytes d None = refl
by_bytes d (Some s) = refl

pub same_member : (form : UnionForm) (m n : Member) (d : Data) → has_same_mark form m n ≡ true → member_form form d m ≡ member_form form d n
same_member UF.Keyed m n d h = ap (option_and_then (marked_form UF.Keyed d)) (same_text (mark_text m.mark) (mark_text n.mark) h)
same_member UF.Kinded m n d h = ap (option_and_then _) (same_kinds (mark_kind m.mark) (mark_kind n.mark) h)
same_member UF.StringPrefix m n d h = ap (option_and_then (marked_form UF.StringPrefix d)) (same_text (mark_text m.mark) (mark_text n.mark) h)
same_member UF.BytesPrefix m n d h =
    by_bytes d (mark_text m.mark)
    ∙ ap (option_and_then (λ front. option_map (λ s. T.bytes (front ++ s)) (bytes_in d))) (same_text (option_and_then bytes_of_hex (mark_text m.mark)) (option_and_then bytes_of_hex (mark_text n.mark)) h)
    ∙ sym (by_bytes d (mark_text n.mark))
same_member (UF.Envelope key content) m n d h = ap (option_and_then (marked_form (UF.Envelope key content) d)) (same_text (mark_text m.mark) (mark_text n.mark) h)
same_member (UF.Inline key) m n d h = ap (option_and_then (marked_form (UF.Inline key) d)) (same_text (mark_text m.mark) (mark_text n.mark) h)

pub same_value : (form : EnumForm) (m n : EnumMember) → has_same_value form m n ≡ true → enum_form form m ≡ enum_form form n
same_value E.Text m n h = ap (λ s. Some (T.text s)) (texts_same (member_text m) (member_text n) h)
same_value E.Int m n h = ap (option_map T.integer) (same_int (member_integer m) (member_integer n) h)
