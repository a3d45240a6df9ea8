-- Parts that are told apart, where the rules on them don't fail.
use Rattle.std.proofs.Common.{◌≡◌, ℕ, ℤ, ◌<◌, Bool, true, false, ◌&&◌, ◌||◌, not, List, [], Option, Some, None, take, refl, sym, ap, ◌∙◌}
use Rattle.std.specs.Prelude.{bytes_eq, is_some, is_none, option_and_then}
use Rattle.std.specs.List.{list_any, slice_get}
use Rattle.std.specs.Option.{option_map_or}
use Rattle.std.proofs.lemmas.Bool.Decides.{Decides-int_eq}
use Rattle.std.proofs.lemmas.Slice.Eq.{bytes_eq-Decides}
use Rattle.ild_schema.specs.declared.def.EnumForm.{EnumForm}
use Rattle.ild_schema.specs.declared.def.EnumForm.TheVariants as E
use Rattle.ild_schema.specs.declared.def.EnumMember.{EnumMember}
use Rattle.ild_schema.specs.declared.def.Field.{Field}
use Rattle.ild_schema.specs.declared.def.KindWord.{KindWord}
use Rattle.ild_schema.specs.declared.def.KindWord.TheVariants as W
use Rattle.ild_schema.specs.declared.def.Member.{Member}
use Rattle.ild_schema.specs.declared.def.UnionForm.{UnionForm}
use Rattle.ild_schema.specs.declared.def.UnionForm.TheVariants as U
use Rattle.ild_schema.specs.declared.row.Row.{Row}
use Rattle.ild_schema.specs.Clashes.{are_same, are_equal, discriminant_of, is_field_again, is_key_taken, is_member_again, is_same_value, is_value_again}
use Rattle.ild_schema.specs.DataKinds as asked
use Rattle.ild_schema.specs.DataKinds.{same_kind}
use Rattle.ild_data.specs.Hex.{bytes_of_hex}
use Rattle.ild_schema.specs.Kinds.{has_kind, has_only, declared_kinds, kinds_of}
use Rattle.ild_schema.specs.Marks.{mark_text, mark_kind, is_marked, is_valued, field_text}
use Rattle.ild_schema.specs.Places.{first_place, first_beside}
use Rattle.ild_schema.specs.Prefixes.{begins, touch, prefix_of, is_unclear, prefix_fails}
use Rattle.ild_schema.specs.Delimiters.{is_empty}
use Rattle.ild_schema.specs.Rules.{is_kind_wrong, is_member_wrong, is_value_wrong}
use Rattle.ild_schema.proofs.Kinding.{members_have}
use Rattle.ild_schema.proofs.Passing.{left, right, past, all_pass, each_passes, none_before}

pub equal_texts : (a b : List ℕ) → a ≡ b → bytes_eq a b ≡ true
equal_texts a b e = (bytes_eq-Decides a b).1 e

pub same_told : (a b : Option (List ℕ)) (s : List ℕ) → a ≡ Some s → b ≡ Some s → are_same a b ≡ true
same_told None b s e f = absurd cc
same_told (Some x) None s e f = absurd cc
same_told (Some x) (Some y) s e f = let same : x ≡ y = cc in equal_texts x y same

pub same_integers : (a b : Option ℤ) (z : ℤ) → a ≡ Some z → b ≡ Some z → are_equal a b ≡ true
same_integers None b z e f = absurd cc
same_integers (Some x) None z e f = absurd cc
same_integers (Some x) (Some y) z e f = let same : x ≡ y = cc in (Decides-int_eq x y).1 same

pub some_of : {A : Type 0} (o : Option A) → is_none o ≡ false → (a : A) × (o ≡ Some a)
some_of None h = absurd cc
some_of (Some a) h = (a, refl)

pub some_there : {A : Type 0} (o : Option A) → is_none o ≡ false → is_some o ≡ true
some_there None h = absurd cc
some_there (Some a) h = refl

pub some_behind : {A B : Type 0} (f : A → Option B) (o : Option A) → is_none (option_and_then f o) ≡ false → is_some o ≡ true
some_behind f None h = absurd cc
some_behind f (Some a) h = refl

pub at_some : {A : Type 0} (test : A → Bool) (o : Option A) (a : A) → o ≡ Some a → option_map_or test o false ≡ false → test a ≡ false
at_some test None a e h = absurd cc
at_some test (Some x) a e h = let same : x ≡ a = cc in ap test (sym same) ∙ h

-- ---- fields

pub fields_beside : (fs : List Field) → first_beside is_field_again (λ f. f.at) [] fs ≡ None → (i j : ℕ) (f g : Field) → i < j → slice_get fs i ≡ Some f → slice_get fs j ≡ Some g
    → bytes_eq g.name f.name || bytes_eq (field_text g) (field_text f) ≡ false
fields_beside fs h i j f g lt e k = none_before (λ o. bytes_eq g.name o.name || bytes_eq (field_text g) (field_text o)) fs i j f lt e (each_passes is_field_again (λ f. f.at) [] fs h j g k)

-- ---- members of enums

pub valued : (form : EnumForm) (m : EnumMember) → is_value_wrong form m ≡ false → is_valued form m ≡ true
valued E.Text m h = refl
valued E.Int m h = some_behind _ m.text h

pub values_beside : (form : EnumForm) (ms : List EnumMember) → first_beside (is_value_again form) (λ m. m.at) [] ms ≡ None → first_place (is_value_wrong form) (λ m. m.at) ms ≡ None
    → (i j : ℕ) (m n : EnumMember) → i < j → slice_get ms i ≡ Some m → slice_get ms j ≡ Some n → bytes_eq n.name m.name || is_same_value form n m ≡ false
values_beside form ms h s i j m n lt e k =
    let fine : (l : ℕ) (o : EnumMember) → slice_get ms l ≡ Some o → is_valued form o ≡ true = λ l o u. valued form o (all_pass (is_value_wrong form) (λ m. m.at) ms s l o u) in
    past (is_valued form m) (bytes_eq n.name m.name || is_same_value form n m)
    (none_before (λ o. is_valued form o && (bytes_eq n.name o.name || is_same_value form n o)) ms i j m lt e
    (past (is_valued form n) (list_any (λ o. is_valued form o && (bytes_eq n.name o.name || is_same_value form n o)) (take j ms)) (each_passes (is_value_again form) (λ m. m.at) [] ms h j n k) (fine j n k)))
    (fine i m e)

-- ---- members of unions

pub marked : (form : UnionForm) (m : Member) → is_member_wrong form m ≡ false → is_marked form m ≡ true
marked U.Keyed m h = some_there (mark_text m.mark) h
marked U.Kinded m h = some_there (mark_kind m.mark) h
marked U.StringPrefix m h = some_there (mark_text m.mark) h
marked U.BytesPrefix m h = some_behind bytes_of_hex (mark_text m.mark) h
marked (U.Envelope key content) m h = some_there (mark_text m.mark) h
marked (U.Inline key) m h = some_there (mark_text m.mark) h

module _ (rows : List Row) (form : UnionForm) (ms : List Member) (h : first_beside (is_member_again rows form) (λ m. m.at) [] ms ≡ None) (s : first_place (is_member_wrong form) (λ m. m.at) ms ≡ None) where
  is_fine : (l : ℕ) (o : Member) → slice_get ms l ≡ Some o → is_marked form o ≡ true
  is_fine l o u = marked form o (all_pass (is_member_wrong form) (λ m. m.at) ms s l o u)

  member_beside : (j : ℕ) (n : Member) → slice_get ms j ≡ Some n
      → list_any (λ o. is_marked form o && (bytes_eq n.name o.name || are_same (discriminant_of form n) (discriminant_of form o))) (take j ms) || is_key_taken rows form n ≡ false
  member_beside j n k = past (is_marked form n) (list_any (λ o. is_marked form o && (bytes_eq n.name o.name || are_same (discriminant_of form n) (discriminant_of form o))) (take j ms) || is_key_taken rows form n)
      (each_passes (is_member_again rows form) (λ m. m.at) [] ms h j n k) (is_fine j n k)

  pub key_free : (j : ℕ) (n : Member) → slice_get ms j ≡ Some n → is_key_taken rows form n ≡ false
  key_free j n k = right (list_any (λ o. is_marked form o && (bytes_eq n.name o.name || are_same (discriminant_of form n) (discriminant_of form o))) (take j ms)) (is_key_taken rows form n) (member_beside j n k)

  pub members_beside : (i j : ℕ) (m n : Member) → i < j → slice_get ms i ≡ Some m → slice_get ms j ≡ Some n
      → bytes_eq n.name m.name || are_same (discriminant_of form n) (discriminant_of form m) ≡ false
  members_beside i j m n lt e k =
      past (is_marked form m) (bytes_eq n.name m.name || are_same (discriminant_of form n) (discriminant_of form m))
      (none_before (λ o. is_marked form o && (bytes_eq n.name o.name || are_same (discriminant_of form n) (discriminant_of form o))) ms i j m lt e
      (left (list_any (λ o. is_marked form o && (bytes_eq n.name o.name || are_same (discriminant_of form n) (discriminant_of form o))) (take j ms)) (is_key_taken rows form n) (member_beside j n k)))
      (is_fine i m e)

-- ---- kinds

pub same_swap : (k l : KindWord) → same_kind k l ≡ same_kind l k
same_swap W.Null W.Null = refl
same_swap W.Bool W.Null = refl
same_swap W.Int W.Null = refl
same_swap W.Text W.Null = refl
same_swap W.Bytes W.Null = refl
same_swap W.List W.Null = refl
same_swap W.Map W.Null = refl
same_swap W.Link W.Null = refl
same_swap k l = refl

marked_at : (o : Option KindWord) (k l : KindWord) → o ≡ Some k → asked.is_marked l o ≡ false → same_kind k l ≡ false
marked_at o k l e h = ap (asked.is_marked l) (sym e) ∙ h

pub member_kind : (rows : List Row) (ms : List Member) → first_beside (is_kind_wrong rows) (λ m. m.at) [] ms ≡ None → (j : ℕ) (n : Member) (l : KindWord) → slice_get ms j ≡ Some n → mark_kind n.mark ≡ Some l
    → not (has_only l (kinds_of rows n.ty.0)) || has_kind l (declared_kinds (take j ms)) ≡ false
member_kind rows ms h j n l k e = at_some (λ kind. not (has_only kind (kinds_of rows n.ty.0)) || has_kind kind (declared_kinds (take j ms))) (mark_kind n.mark) l e (each_passes (is_kind_wrong rows) (λ m. m.at) [] ms h j n k)

pub kinds_beside : (rows : List Row) (ms : List Member) → first_beside (is_kind_wrong rows) (λ m. m.at) [] ms ≡ None → (i j : ℕ) (m n : Member) (k l : KindWord) → i < j → slice_get ms i ≡ Some m → slice_get ms j ≡ Some n
    → mark_kind m.mark ≡ Some k → mark_kind n.mark ≡ Some l → same_kind k l ≡ false
kinds_beside rows ms h i j m n k l lt e f one other =
    marked_at (mark_kind m.mark) k l one
    (none_before (λ o. asked.is_marked l (mark_kind o.mark)) ms i j m lt e
    (sym (members_have l (take j ms)) ∙ right (not (has_only l (kinds_of rows n.ty.0))) (has_kind l (declared_kinds (take j ms))) (member_kind rows ms h j n l f other)))

-- ---- prefixes

pub prefixes_beside : (form : UnionForm) (ms : List Member) → first_beside (prefix_fails form) (λ m. m.at) [] ms ≡ None → (i j : ℕ) (m n : Member) (p q : List ℕ) → i < j → slice_get ms i ≡ Some m → slice_get ms j ≡ Some n
    → prefix_of form m ≡ Some p → prefix_of form n ≡ Some q → begins p q || begins q p ≡ false
prefixes_beside form ms h i j m n p q lt e f one other =
    at_some (touch q) (prefix_of form m) p one
    (none_before (λ o. option_map_or (touch q) (prefix_of form o) false) ms i j m lt e
    (right (is_empty q) (list_any (λ o. option_map_or (touch q) (prefix_of form o) false) (take j ms))
    (at_some (λ prefix. is_unclear form (take j ms) prefix) (prefix_of form n) q other (each_passes (prefix_fails form) (λ m. m.at) [] ms h j n f))))
