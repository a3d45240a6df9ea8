-- Unions whose discriminant and member stand under two keys.
use Rattle.std.proofs.Common.{◌≡◌, ℕ, Bool, true, false, cond, not, ◌||◌, List, [], ◌∷◌, Some, None, refl, sym, ◌∙◌, ap, subst, inl, inr}
use Rattle.std.specs.Prelude.{is_none}
use Rattle.std.specs.Ordering.{match_ordering, ordering_reverse}
use Rattle.std.specs.Cmp.Lexicographic.{same_text as text_same}
use Rattle.std.proofs.lemmas.Option.{none-some, same_Some}
use Rattle.std.specs.declared.cmp.Ordering.TheVariants.{Less}
use Rattle.ild_data.specs.Data as T
use Rattle.ild_data.specs.Data.{Data}
use Rattle.ild_data.specs.Key.{key_cmp, same_text, value_at, put, Rises}
use Rattle.ild_data.proofs.Rising.{key_cmp_total}
use Rattle.ild_cbor.specs.declared.why.Why.{Why}
use Rattle.ild_cbor.specs.declared.why.Why.TheVariants as Y
use Rattle.ild_cbor.specs.Scalar.{text_of}
use Rattle.ild_schema.specs.declared.def.TypeDef.TheVariants as D
use Rattle.ild_schema.specs.declared.def.UnionDef.{UnionDef}
use Rattle.ild_schema.specs.declared.def.UnionForm.{UnionForm}
use Rattle.ild_schema.specs.declared.def.UnionForm.TheVariants as UF
use Rattle.ild_schema.specs.Clear.{ClearUnion, KeysApart}
use Rattle.ild_schema.specs.DataKinds.{union_has}
use Rattle.ild_typed.specs.Causes.{why_of}
use Rattle.ild_typed.specs.Kinds.{kind_word_of}
use Rattle.ild_typed.specs.Named.{where_some}
use Rattle.ild_typed.specs.Strings.{map_data, members_in, text_in}
use Rattle.ild_typed.specs.UnionWhy.{is_discriminant, is_no_member, union_name, union_missing, union_count, union_prefix, union_member}
use Rattle.ild_typed.specs.Why as W
use Rattle.ild_typed.proofs.Entries.{same_text_self}
use Rattle.ild_typed.proofs.Unions.{only_map_data}
use Rattle.ild_layer_piece.specs.Answers.{told}
use Rattle.ild_layer_piece.proofs.Walking.{map_kind}
use Rattle.ild_union.specs.inside.Envelope.{AreBoth, IsOff, has_stranger, lacks_one}
use Rattle.ild_union.proofs.Marking.{IsTold}
use Rattle.ild_union.proofs.Order.{name_why, missing_why, member_why}

-- the two keys of an accepted envelope differ
pub keys_apart : (u : UnionDef) (key content : List ℕ) → u.form ≡ UF.Envelope key content → ClearUnion u.form u.members → key ≡ content → ⊥
keys_apart u key content form clear = subst KeysApart form clear.keys

unlike : (a b : List ℕ) → (a ≡ b → ⊥) → same_text a b ≡ false
unlike a b apart = by (same_text a b) refl where
  by : (x : Bool) → x ≡ same_text a b → same_text a b ≡ false
  by true is = absurd (apart (text_same a b is))
  by false is = sym is

or_same : (a b c d : Bool) → a ≡ true → d ≡ true → (not (a || b) || (not (c || d) || false)) ≡ false
or_same true b true d p q = refl
or_same true b false true p q = refl
or_same true b false false p q = absurd cc
or_same false b c d p q = absurd cc

-- an entry beside another, in the order of their keys
put_before : (key content : List ℕ) (d e : Data) → key_cmp key content ≡ Less → put key d ((content, e) ∷ []) ≡ (key, d) ∷ (content, e) ∷ []
put_before key content d e less = ap (λ o. match_ordering o ((key, d) ∷ (content, e) ∷ []) ((key, d) ∷ []) ((content, e) ∷ (key, d) ∷ [])) less

put_behind : (key content : List ℕ) (d e : Data) → key_cmp content key ≡ Less → put key d ((content, e) ∷ []) ≡ (content, e) ∷ (key, d) ∷ []
put_behind key content d e less =
    ap (λ o. match_ordering o ((key, d) ∷ (content, e) ∷ []) ((key, d) ∷ []) ((content, e) ∷ (key, d) ∷ [])) (key_cmp_total.antisymm key content ∙ ap ordering_reverse less)

-- what is seen of two entries in the order of their keys
record IsPair (key content : List ℕ) (d e : Data) (es : List (List ℕ × Data)) : Type 0 where
  whole : put key d ((content, e) ∷ []) ≡ es
  stranger : has_stranger key content es ≡ false
  lacks : lacks_one key content es ≡ false
  under : value_at key es ≡ Some d

module _ (key content : List ℕ) (d e : Data) (es : List (List ℕ × Data)) (apart : key ≡ content → ⊥) (up : Rises es) where
  pair_of : AreBoth key content d e es → IsPair key content d e es
  pair_of (inl is) =
      let h : Rises ((key, d) ∷ (content, e) ∷ []) = subst Rises is up in
      let under : value_at key es ≡ Some d = ap (value_at key) is ∙ ap (λ b. cond b (Some d) (value_at key ((content, e) ∷ []))) (same_text_self key) in
      let beside : value_at content es ≡ Some e =
      ap (value_at content) is ∙ ap (λ b. cond b (Some d) (cond (same_text content content) (Some e) None)) (unlike content key (λ s. apart (sym s)))
      ∙ ap (λ b. cond b (Some e) None) (same_text_self content) in
      record {
        whole = put_before key content d e h.0 ∙ sym is;
        stranger = ap (has_stranger key content) is ∙ or_same (same_text key key) (same_text content key) (same_text key content) (same_text content content) (same_text_self key) (same_text_self content);
        lacks = λ i. is_none (under i) || is_none (beside i);
        under = under;
      }
  pair_of (inr is) =
      let h : Rises ((content, e) ∷ (key, d) ∷ []) = subst Rises is up in
      let under : value_at key es ≡ Some d =
      ap (value_at key) is ∙ ap (λ b. cond b (Some e) (cond (same_text key key) (Some d) None)) (unlike key content apart)
      ∙ ap (λ b. cond b (Some d) None) (same_text_self key) in
      let beside : value_at content es ≡ Some e = ap (value_at content) is ∙ ap (λ b. cond b (Some e) (value_at content ((key, d) ∷ []))) (same_text_self content) in
      record {
        whole = put_behind key content d e h.0 ∙ sym is;
        stranger = ap (has_stranger key content) is ∙ other_same (same_text key content) (same_text content content) (same_text key key) (same_text content key) (same_text_self content) (same_text_self key);
        lacks = λ i. is_none (under i) || is_none (beside i);
        under = under;
      }
    where
      other_same : (a b c d : Bool) → b ≡ true → c ≡ true → (not (a || b) || (not (c || d) || false)) ≡ false
      other_same true b true d p q = refl
      other_same false true true d p q = refl
      other_same false false c d p q = absurd cc
      other_same a b false d p q = absurd cc

  -- the data are told by the text of the discriminant
  pub envelope_told : (t : Data) (text : List ℕ) → members_in t ≡ Some es → AreBoth key content d e es → d ≡ T.text text → IsTold (UF.Envelope key content) t text e
  envelope_told t text is both disc =
      let p = pair_of both in
      let under : value_at key es ≡ Some (T.text text) = p.under ∙ ap Some disc in
      record {
        made = ap (λ v. Some (map_data (put key v ((content, e) ∷ [])))) (sym disc) ∙ ap (λ xs. Some (map_data xs)) p.whole ∙ ap Some (sym (only_map_data t es is));
        marked = λ m. refl;
        kind = λ ms. map_kind t es is;
        name = ap (where_some (has_stranger key content)) is ∙ p.stranger;
        missing = ap (where_some (lacks_one key content)) is ∙ p.lacks;
        count = refl;
        prefix = λ ms. refl;
        member = λ ms none. ap (where_some (λ xs. where_some (is_no_member ms) (value_at key xs))) is ∙ ap (where_some (is_no_member ms)) under ∙ ap not none;
      }

  -- a discriminant that is no text
  pub no_text_there : (u : UnionDef) (t : Data) → u.form ≡ UF.Envelope key content → members_in t ≡ Some es → AreBoth key content d e es → text_in d ≡ None → why_of (D.Union u) t ≡ Some W.Member
  no_text_there u t form is both none =
      let p = pair_of both in
      member_why u t (ap (λ (f : UnionForm). union_has f u.members (kind_word_of t)) form ∙ map_kind t es is)
      (ap (λ (f : UnionForm). union_name f t) form ∙ ap (where_some (has_stranger key content)) is ∙ p.stranger)
      (ap (λ (f : UnionForm). union_missing f t) form ∙ ap (where_some (lacks_one key content)) is ∙ p.lacks)
      (ap (λ (f : UnionForm). union_count f t) form) (ap (λ (f : UnionForm). union_prefix f u.members t) form)
      (ap (λ (f : UnionForm). union_member f u.members t) form ∙ ap (where_some (λ xs. where_some (is_no_member u.members) (value_at key xs))) is
      ∙ ap (where_some (is_no_member u.members)) p.under ∙ ap (λ o. not (where_some (is_discriminant u.members) o)) none)

-- other entries
pub entries_off : (key content : List ℕ) (es : List (List ℕ × Data)) (w : Why) (u : UnionDef) (t : Data) → u.form ≡ UF.Envelope key content → members_in t ≡ Some es → IsOff key content es w
    → why_of (D.Union u) t ≡ Some (told w)
entries_off key content es Y.Name u t form is off =
    name_why u t (ap (λ (f : UnionForm). union_has f u.members (kind_word_of t)) form ∙ map_kind t es is) (ap (λ (f : UnionForm). union_name f t) form ∙ ap (where_some (has_stranger key content)) is ∙ off)
entries_off key content es Y.Missing u t form is off =
    missing_why u t (ap (λ (f : UnionForm). union_has f u.members (kind_word_of t)) form ∙ map_kind t es is)
    (ap (λ (f : UnionForm). union_name f t) form ∙ ap (where_some (has_stranger key content)) is ∙ off.0)
    (ap (λ (f : UnionForm). union_missing f t) form ∙ ap (where_some (lacks_one key content)) is ∙ off.1)
entries_off key content es w u t form is off = absurd off

-- ---- the text of a discriminant

pub text_seen : (d : Data) (s : List ℕ) → Some s ≡ text_of d → d ≡ T.text s
text_seen (T.text a) s e = ap T.text (sym (same_Some s a e))
text_seen T.null s e = absurd cc
text_seen (T.boolean b) s e = absurd cc
text_seen (T.integer n) s e = absurd cc
text_seen (T.bytes a) s e = absurd cc
text_seen (T.list ds) s e = absurd cc
text_seen (T.map ms) s e = absurd cc
text_seen (T.link a) s e = absurd cc

pub no_text_seen : (d : Data) → None ≡ text_of d → text_in d ≡ None
no_text_seen (T.text a) e = absurd (none-some a e)
no_text_seen d e = refl
