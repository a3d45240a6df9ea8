-- Unions whose data tell the text of a member: the member with it, or none.
use Rattle.std.proofs.Common.{◌≡◌, ℕ, Bool, true, false, List, Option, Some, None, refl, sym, ◌∙◌, ap, subst}
use Rattle.std.specs.Prelude.{Result, option_and_then}
use Rattle.std.specs.List.{position_from}
use Rattle.std.specs.Cmp.Lexicographic.{same_text as text_same}
use Rattle.ild_data.specs.Data.{Data}
use Rattle.ild_data.specs.Key.{same_text}
use Rattle.ild_schema.specs.declared.def.Member.{Member}
use Rattle.ild_cbor.specs.declared.piece.Piece.{Piece}
use Rattle.ild_cbor.specs.declared.why.Why.{Why}
use Rattle.ild_schema.specs.declared.def.TypeDef.{TypeDef}
use Rattle.ild_schema.specs.declared.def.TypeDef.TheVariants as D
use Rattle.ild_schema.specs.declared.row.Row.{Row}
use Rattle.ild_schema.specs.declared.def.UnionDef.{UnionDef}
use Rattle.ild_schema.specs.declared.def.UnionForm.{UnionForm}
use Rattle.ild_schema.specs.DataKinds.{union_has}
use Rattle.ild_schema.specs.Marks.{mark_text}
use Rattle.ild_schema.specs.Parts.{is_text, part_spelled}
use Rattle.ild_typed.specs.Causes.{why_of}
use Rattle.ild_typed.specs.Composed.{marked_form, member_form, union_form}
use Rattle.ild_typed.specs.Kinds.{kind_word_of}
use Rattle.ild_typed.specs.Named.{where_some}
use Rattle.ild_typed.specs.UnionWhy.{is_discriminant, union_name, union_missing, union_count, union_prefix, union_member}
use Rattle.ild_typed.specs.Why as W
use Rattle.ild_layer_piece.proofs.Searching.{all_of, ended, first_at, none_ended, text_agrees}
use Rattle.ild_layer_piece.specs.Pieces.{StandsFor}
use Rattle.ild_union.specs.inside.Answers.{UnionAnswer, member_of}
use Rattle.ild_union.proofs.Order.{member_why}

-- the data are told by a text and a member's data, and have no cause before that on members
pub record IsTold (form : UnionForm) (t : Data) (text : List ℕ) (d : Data) : Type 0 where
  pub made : marked_form form d text ≡ Some t
  pub marked : (m : Member) → member_form form d m ≡ option_and_then (marked_form form d) (mark_text m.mark)
  pub kind : (ms : List Member) → union_has form ms (kind_word_of t) ≡ true
  pub name : union_name form t ≡ false
  pub missing : union_missing form t ≡ false
  pub count : union_count form t ≡ false
  pub prefix : (ms : List Member) → union_prefix form ms t ≡ false
  pub member : (ms : List Member) → is_discriminant ms text ≡ false → union_member form ms t ≡ true

agrees : (text : List ℕ) (o : Option (List ℕ)) → is_text text o ≡ where_some (λ s. same_text s text) o
agrees text None = refl
agrees text (Some s) = text_agrees text s

is_his : (text : List ℕ) (o : Option (List ℕ)) → where_some (λ s. same_text s text) o ≡ true → o ≡ Some text
is_his text None e = absurd (cc)
is_his text (Some s) e = ap Some (text_same s text (sym e))

told_found : (form : UnionForm) (ms : List Member) (t : Data) (text : List ℕ) (d : Data) (n : ℕ) → IsTold form t text d
    → position_from (λ m. is_text text (mark_text m.mark)) 0 ms ≡ Some n → union_form form ms (n, d) ≡ Some t
told_found form ms t text d n told place =
    let q : Member → Bool = λ m. where_some (λ s. same_text s text) (mark_text m.mark) in
    let p : Member → Bool = λ m. is_text text (mark_text m.mark) in
    let x = first_at q n ms (ended p q 0 n ms (all_of (λ m. p m ≡ q m) ms (λ m. agrees text (mark_text m.mark))) place) in
    ap (option_and_then (member_form form d)) x.1 ∙ told.marked x.0 ∙ ap (option_and_then (marked_form form d)) (is_his text (mark_text x.0.mark) x.2) ∙ told.made

told_none : (ms : List Member) (text : List ℕ) → position_from (λ m. is_text text (mark_text m.mark)) 0 ms ≡ None → is_discriminant ms text ≡ false
told_none ms text none =
    let q : Member → Bool = λ m. where_some (λ s. same_text s text) (mark_text m.mark) in
    let p : Member → Bool = λ m. is_text text (mark_text m.mark) in
    none_ended p q 0 ms (all_of (λ m. p m ≡ q m) ms (λ m. agrees text (mark_text m.mark))) none

module _ (u : UnionDef) (form : UnionForm) (t : Data) (text : List ℕ) (d : Data) (is : u.form ≡ form) (told : IsTold form t text d) where
  own : IsTold u.form t text d
  own = subst (λ (f : UnionForm). IsTold f t text d) (sym is) told

  member_found : (n : ℕ) → position_from (λ m. is_text text (mark_text m.mark)) 0 u.members ≡ Some n → union_form u.form u.members (n, d) ≡ Some t
  member_found n place = told_found u.form u.members t text d n own place

  member_missed : position_from (λ m. is_text text (mark_text m.mark)) 0 u.members ≡ None → why_of (D.Union u) t ≡ Some W.Member
  member_missed none =
      let h = own in
      member_why u t (h.kind u.members) h.name h.missing h.count (h.prefix u.members) (h.member u.members (told_none u.members text none))

by_place : (rows : List Row) (u : UnionDef) (form : UnionForm) (t : Data) (text : List ℕ) (d : Data) → u.form ≡ form → IsTold form t text d
    → (part : Piece) → StandsFor rows part d → (o : Option ℕ) → position_from (λ m. is_text text (mark_text m.mark)) 0 u.members ≡ o → UnionAnswer rows u t (member_of part o)
by_place rows u form t text d is told part stands None place = member_missed u form t text d is told place
by_place rows u form t text d is told part stands (Some n) place = (d, stands, member_found u form t text d is told n place)

-- what the look-up of the text answers
pub answered : (rows : List Row) (u : UnionDef) (form : UnionForm) (t : Data) (text : List ℕ) (d : Data) → u.form ≡ form → IsTold form t text d
    → (part : Piece) → StandsFor rows part d → (o : Option TypeDef) → o ≡ Some (D.Union u) → (r : Result (ℕ × Piece) Why) → r ≡ member_of part (option_and_then (part_spelled text) o)
    → UnionAnswer rows u t r
answered rows u form t text d is told part stands o known r same =
    let whole : r ≡ member_of part (option_and_then (part_spelled text) (Some (D.Union u))) = same ∙ ap (λ x. member_of part (option_and_then (part_spelled text) x)) known in
    subst (UnionAnswer rows u t) (sym whole) (by_place rows u form t text d is told part stands (position_from (λ m. is_text text (mark_text m.mark)) 0 u.members) refl)
