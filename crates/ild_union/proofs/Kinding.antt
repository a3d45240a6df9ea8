-- Unions whose members are told by their kinds.
use Rattle.std.proofs.Common.{◌≡◌, ℕ, Bool, true, cond, List, Option, Some, None, refl, sym, ◌∙◌, ap}
use Rattle.std.specs.Prelude.{option_and_then}
use Rattle.std.specs.List.{position_from}
use Rattle.ild_data.specs.Data as T
use Rattle.ild_data.specs.Data.{Data}
use Rattle.ild_cbor.specs.Scalar.{kind_of as node_kind}
use Rattle.ild_schema.specs.declared.def.KindWord.{KindWord}
use Rattle.ild_schema.specs.declared.def.Member.{Member}
use Rattle.ild_schema.specs.declared.def.TypeDef.TheVariants as D
use Rattle.ild_schema.specs.declared.def.UnionDef.{UnionDef}
use Rattle.ild_schema.specs.declared.def.UnionForm.{UnionForm}
use Rattle.ild_schema.specs.declared.def.UnionForm.TheVariants as UF
use Rattle.ild_schema.specs.DataKinds.{is_marked, same_kind, union_has}
use Rattle.ild_schema.specs.Marks.{mark_kind}
use Rattle.ild_typed.specs.Causes.{why_of}
use Rattle.ild_typed.specs.Composed.{member_form, union_form}
use Rattle.ild_typed.specs.Kinds.{kind_word_of}
use Rattle.ild_typed.specs.Why as W
use Rattle.ild_layer_piece.proofs.Searching.{all_of, ended, first_at, none_ended}
use Rattle.ild_union.specs.inside.Answers.{word_of}
use Rattle.ild_union.proofs.Order.{kind_why}

pub word_is : (t : Data) → word_of (node_kind t) ≡ kind_word_of t
word_is T.null = refl
word_is (T.boolean b) = refl
word_is (T.integer n) = refl
word_is (T.text s) = refl
word_is (T.bytes s) = refl
word_is (T.list ds) = refl
word_is (T.map ms) = refl
word_is (T.link s) = refl

is_of : (t : Data) (o : Option KindWord) → is_marked (kind_word_of t) o ≡ true → option_and_then (λ (k : KindWord). cond (same_kind k (kind_word_of t)) (Some t) None) o ≡ Some t
is_of t None e = absurd (cc)
is_of t (Some k) e = ap (λ b. cond b (Some t) None) e

pub of_kind : (u : UnionDef) (t : Data) (word : KindWord) (n : ℕ) → u.form ≡ UF.Kinded → word ≡ kind_word_of t
    → position_from (λ m. is_marked word (mark_kind m.mark)) 0 u.members ≡ Some n → union_form u.form u.members (n, t) ≡ Some t
of_kind u t word n form is place =
    let p : Member → Bool = λ m. is_marked word (mark_kind m.mark) in
    let q : Member → Bool = λ m. is_marked (kind_word_of t) (mark_kind m.mark) in
    let x = first_at q n u.members (ended p q 0 n u.members (all_of (λ m. p m ≡ q m) u.members (λ m. ap (λ w. is_marked w (mark_kind m.mark)) is)) place) in
    ap (λ (f : UnionForm). union_form f u.members (n, t)) form ∙ ap (option_and_then (member_form UF.Kinded t)) x.1 ∙ is_of t (mark_kind x.0.mark) x.2

pub of_no_kind : (u : UnionDef) (t : Data) (word : KindWord) → u.form ≡ UF.Kinded → word ≡ kind_word_of t
    → position_from (λ m. is_marked word (mark_kind m.mark)) 0 u.members ≡ None → why_of (D.Union u) t ≡ Some W.Kind
of_no_kind u t word form is none =
    let p : Member → Bool = λ m. is_marked word (mark_kind m.mark) in
    let q : Member → Bool = λ m. is_marked (kind_word_of t) (mark_kind m.mark) in
    kind_why u t (ap (λ (f : UnionForm). union_has f u.members (kind_word_of t)) form
    ∙ none_ended p q 0 u.members (all_of (λ m. p m ≡ q m) u.members (λ m. ap (λ w. is_marked w (mark_kind m.mark)) is)) none)

-- a search among a slice of the members is one among them
pub placed : (xs ms : List Member) (word : KindWord) (o : Option ℕ) → xs ≡ ms → o ≡ position_from (λ m. is_marked word (mark_kind m.mark)) 0 xs → position_from (λ m. is_marked word (mark_kind m.mark)) 0 ms ≡ o
placed xs ms word o same first = ap (position_from (λ m. is_marked word (mark_kind m.mark)) 0) (sym same) ∙ sym first
