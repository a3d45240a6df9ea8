-- The member of an enum by its text or its integer.
use Rattle.std.proofs.Common.{◌≡◌, ℕ, Bool, true, false, cond, List, Some, None, refl, sym, ◌∙◌, ap, subst}
use Rattle.std.specs.Prelude.{ℤ, ◌||◌, not, option_map, option_and_then, slice_get, bytes_eq}
use Rattle.std.specs.Fmt.{signed_decimal}
use Rattle.std.specs.List.{AllByRecursion, position_from}
use Rattle.std.specs.Option.{unwrap_or}
use Rattle.std.specs.Cmp.Lexicographic.{same_text as text_same}
use Rattle.std.proofs.lemmas.Option.{same_Some, none-some}
use Rattle.ild_typed.proofs.CleanTypes.{value_is}
use Rattle.ild_data.specs.Data as T
use Rattle.ild_data.specs.Data.{Data}
use Rattle.ild_data.specs.Integer.{IsInt}
use Rattle.ild_data.specs.Key.{same_text}
use Rattle.ild_cbor.specs.Scalar.{int_of}
use Rattle.ild_data.specs.Decimal.{decimal_of}
use Rattle.ild_schema.specs.declared.def.EnumDef.{EnumDef}
use Rattle.ild_schema.specs.declared.def.EnumForm.{EnumForm}
use Rattle.ild_schema.specs.declared.def.EnumForm.TheVariants as F
use Rattle.ild_schema.specs.declared.def.EnumMember.{EnumMember}
use Rattle.ild_schema.specs.declared.def.KindWord.TheVariants as K
use Rattle.ild_schema.specs.declared.def.TypeDef.TheVariants as D
use Rattle.ild_schema.specs.DataKinds.{enum_kind, same_kind}
use Rattle.ild_schema.specs.Made.{MadeEnum}
use Rattle.ild_schema.specs.Marks.{member_text}
use Rattle.ild_typed.specs.Causes.{why_of}
use Rattle.ild_typed.specs.Composed.{enum_form}
use Rattle.ild_typed.specs.Fields.{same_int}
use Rattle.ild_typed.specs.Kinds.{kind_word_of}
use Rattle.ild_typed.specs.PlainWhy.{is_value, enum_member}
use Rattle.ild_typed.specs.Strings.{text_in}
use Rattle.ild_typed.specs.Why as W
use Rattle.ild_typed.proofs.Basics.{From, then_from}
use Rattle.ild_typed.proofs.CleanFields.{int_self}
use Rattle.ild_typed.proofs.Entries.{same_text_self, only_text_data}
use Rattle.ild_typed.proofs.Structs.{int_same}
use Rattle.ild_typed.proofs.Utf8Texts.{decimal_is_int}
use Rattle.ild_enum.proofs.Decimals.{decimal_is, decimals_apart}
use Rattle.ild_layer_piece.proofs.Searching.{text_agrees, all_of, all_then, same_bool, ended, first_at, none_ended}

-- a search by texts finds the members with a value
abbrev pub Agrees : EnumForm → List EnumMember → List ℕ → Data → Type 0
Agrees form ms text t = AllByRecursion (λ m. bytes_eq text (member_text m) ≡ is_value (enum_form form m) t) ms

pub agreed : (form : EnumForm) (ms : List EnumMember) (text : List ℕ) (t : Data) (n : ℕ) → Agrees form ms text t
    → position_from (λ m. bytes_eq text (member_text m)) 0 ms ≡ Some n → option_and_then (enum_form form) (slice_get ms n) ≡ Some t
agreed form ms text t n all e =
    let x = first_at (λ m. is_value (enum_form form m) t) n ms (ended (λ m. bytes_eq text (member_text m)) (λ m. is_value (enum_form form m) t) 0 n ms all e) in
    ap (option_and_then (enum_form form)) x.1 ∙ value_is (enum_form form x.0) t x.2

kind_first : (h k : Bool) → h ≡ true → k ≡ true → cond (not h || false) (Some W.Kind) (cond k (Some W.Member) None) ≡ Some W.Member
kind_first true true a b = refl
kind_first true false a b = absurd (cc)
kind_first false k a b = absurd (cc)

pub unagreed : (e : EnumDef) (text : List ℕ) (t : Data) → same_kind (enum_kind e.form) (kind_word_of t) ≡ true → Agrees e.form e.members text t
    → position_from (λ m. bytes_eq text (member_text m)) 0 e.members ≡ None → why_of (D.Enum e) t ≡ Some W.Member
unagreed e text t kind all none =
    kind_first (same_kind (enum_kind e.form) (kind_word_of t)) (enum_member e.form e.members t) kind
    (ap not (none_ended (λ m. bytes_eq text (member_text m)) (λ m. is_value (enum_form e.form m) t) 0 e.members all none))

-- ---- texts

pub texts_agree : (form : EnumForm) (ms : List EnumMember) (s : List ℕ) → form ≡ F.Text → Agrees form ms s (T.text s)
texts_agree form ms s is =
    subst (λ (f : EnumForm). Agrees f ms s (T.text s)) (sym is) (all_of (λ m. bytes_eq s (member_text m) ≡ same_text (member_text m) s) ms (λ m. text_agrees s (member_text m)))

-- ---- integers

pub integer_is : (t : Data) (z : ℤ) → int_of t ≡ Some z → t ≡ T.integer z
integer_is (T.integer a) z e = ap T.integer (same_Some a z e)
integer_is t z e = absurd (none-some z e)

integer_agrees : (z : ℤ) → IsInt z → (m : EnumMember) → MadeEnum F.Int m → bytes_eq (signed_decimal z) (member_text m) ≡ is_value (enum_form F.Int m) (T.integer z)
integer_agrees z int m made =
    let x : From decimal_of m.text made.0 = then_from decimal_of m.text made.0 made.1 in
    let text : member_text m ≡ x.item = ap (λ o. unwrap_or o m.name) x.there in
    let whole : x.item ≡ signed_decimal made.0 = decimal_is x.item made.0 x.made in
    let value : is_value (enum_form F.Int m) (T.integer z) ≡ same_int made.0 z = ap (λ o. is_value (option_map T.integer o) (T.integer z)) made.1 in
    same_bool (bytes_eq (signed_decimal z) (member_text m)) (is_value (enum_form F.Int m) (T.integer z))
    (λ h.
    let same : z ≡ made.0 = decimals_apart z made.0 int (decimal_is_int x.item made.0 x.made) (text_same (signed_decimal z) (member_text m) (sym h) ∙ text ∙ whole) in
    value ∙ subst (λ y. same_int y z ≡ true) same (int_self z))
    (λ h.
    let same : made.0 ≡ z = int_same made.0 z (sym value ∙ h) in
    let own : member_text m ≡ signed_decimal z = text ∙ whole ∙ ap signed_decimal same in
    subst (λ k. bytes_eq (signed_decimal z) k ≡ true) (sym own) (same_text_self (signed_decimal z)))

pub integers_agree : (form : EnumForm) (ms : List EnumMember) (z : ℤ) → form ≡ F.Int → IsInt z → AllByRecursion (MadeEnum form) ms → Agrees form ms (signed_decimal z) (T.integer z)
integers_agree form ms z is int =
    subst (λ (f : EnumForm). AllByRecursion (MadeEnum f) ms → Agrees f ms (signed_decimal z) (T.integer z)) (sym is)
    (all_then (MadeEnum F.Int) (λ m. bytes_eq (signed_decimal z) (member_text m) ≡ is_value (enum_form F.Int m) (T.integer z)) ms (integer_agrees z int))

-- ---- as a search by the text of the data ends

kind_is : (form : EnumForm) (t d : Data) → t ≡ d → same_kind (enum_kind form) (kind_word_of d) ≡ true → same_kind (enum_kind form) (kind_word_of t) ≡ true
kind_is form t d is same = ap (λ x. same_kind (enum_kind form) (kind_word_of x)) is ∙ same

pub text_found : (e : EnumDef) (t : Data) (s : List ℕ) (n : ℕ) → e.form ≡ F.Text → Some s ≡ text_in t
    → position_from (λ m. bytes_eq s (member_text m)) 0 e.members ≡ Some n → option_and_then (enum_form e.form) (slice_get e.members n) ≡ Some t
text_found e t s n form is place =
    agreed e.form e.members s t n (subst (Agrees e.form e.members s) (sym (only_text_data t s (sym is))) (texts_agree e.form e.members s form)) place

pub text_missed : (e : EnumDef) (t : Data) (s : List ℕ) → e.form ≡ F.Text → Some s ≡ text_in t
    → position_from (λ m. bytes_eq s (member_text m)) 0 e.members ≡ None → why_of (D.Enum e) t ≡ Some W.Member
text_missed e t s form is none =
    let own : t ≡ T.text s = only_text_data t s (sym is) in
    unagreed e s t (kind_is e.form t (T.text s) own (ap (λ f. same_kind (enum_kind f) K.Text) form))
    (subst (Agrees e.form e.members s) (sym own) (texts_agree e.form e.members s form)) none

pub integer_found : (e : EnumDef) (t : Data) (z : ℤ) (n : ℕ) → e.form ≡ F.Int → Some z ≡ int_of t → IsInt z → AllByRecursion (MadeEnum e.form) e.members
    → position_from (λ m. bytes_eq (signed_decimal z) (member_text m)) 0 e.members ≡ Some n → option_and_then (enum_form e.form) (slice_get e.members n) ≡ Some t
integer_found e t z n form is int made place =
    agreed e.form e.members (signed_decimal z) t n
    (subst (Agrees e.form e.members (signed_decimal z)) (sym (integer_is t z (sym is))) (integers_agree e.form e.members z form int made)) place

pub integer_missed : (e : EnumDef) (t : Data) (z : ℤ) → e.form ≡ F.Int → Some z ≡ int_of t → IsInt z → AllByRecursion (MadeEnum e.form) e.members
    → position_from (λ m. bytes_eq (signed_decimal z) (member_text m)) 0 e.members ≡ None → why_of (D.Enum e) t ≡ Some W.Member
integer_missed e t z form is int made none =
    let own : t ≡ T.integer z = integer_is t z (sym is) in
    unagreed e (signed_decimal z) t (kind_is e.form t (T.integer z) own (ap (λ f. same_kind (enum_kind f) K.Int) form))
    (subst (Agrees e.form e.members (signed_decimal z)) (sym own) (integers_agree e.form e.members z form int made)) none
