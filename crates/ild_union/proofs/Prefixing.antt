-- Unions whose member stands behind a prefix.
use Rattle.std.proofs.Common.{◌≡◌, ℕ, Bool, true, false, not, List, [], ◌∷◌, ◌++◌, Option, Some, None, refl, sym, ◌∙◌, ap}
use Rattle.std.specs.Prelude.{nat_eq}
use Rattle.std.specs.List.{list_any}
use Rattle.std.proofs.lemmas.Bool.{eqb-true, and_parts}
use Rattle.ild_data.specs.Data as T
use Rattle.ild_data.specs.Data.{Data}
use Rattle.ild_schema.specs.declared.def.Mark.{Mark}
use Rattle.ild_schema.specs.declared.def.Member.{Member}
use Rattle.ild_schema.specs.declared.def.KindWord.TheVariants as K
use Rattle.ild_schema.specs.declared.def.TypeDef.TheVariants as D
use Rattle.ild_schema.specs.declared.def.UnionDef.{UnionDef}
use Rattle.ild_schema.specs.declared.def.UnionForm.{UnionForm}
use Rattle.ild_schema.specs.declared.def.UnionForm.TheVariants as UF
use Rattle.ild_schema.specs.DataKinds.{same_kind, union_has}
use Rattle.ild_schema.specs.Marks.{mark_text}
use Rattle.ild_schema.specs.Prefixes.{begins}
use Rattle.ild_text.specs.Prefix.{IsBehind, IsPrefixed, bytes_mark}
use Rattle.ild_typed.specs.Causes.{why_of}
use Rattle.ild_typed.specs.Kinds.{kind_word_of}
use Rattle.ild_typed.specs.Named.{where_some}
use Rattle.ild_typed.specs.Strings.{text_in, bytes_in}
use Rattle.ild_typed.specs.UnionWhy.{union_name, union_missing, union_count, union_prefix}
use Rattle.ild_typed.specs.Why as W
use Rattle.ild_typed.proofs.Cleans.{found}
use Rattle.ild_typed.proofs.Entries.{only_text_data, only_bytes_data}
use Rattle.ild_union.proofs.Order.{prefix_why}

-- a list that begins with another has a rest
record Begun (p s : List ℕ) : Type 0 where
  rest : List ℕ
  is : s ≡ p ++ rest

begun : (p s : List ℕ) → begins p s ≡ true → Begun p s
begun [] s e = record { rest = s; is = refl }
begun (c ∷ p) [] e = absurd cc
begun (c ∷ p) (d ∷ s) e =
    let x = and_parts (nat_eq c d) (begins p s) e in
    let rest = begun p s x.1 in
    let first : c ≡ d = eqb-true c d x.0 in
    record { rest = rest.rest; is = λ i. sym first i ∷ rest.is i }

is_behind : (o : Option (List ℕ)) (s : List ℕ) → where_some (λ p. begins p s) o ≡ true → (rest : List ℕ) × IsBehind o s rest
is_behind None s e = absurd (cc)
is_behind (Some p) s e = let x = begun p s e in (x.rest, record { front = p; known = refl; whole = x.is })

-- no member's prefix begins the text where none stands behind one
none_begins : (prefix_of : Mark → Option (List ℕ)) (ms : List Member) (s : List ℕ) → ((n : ℕ) (rest : List ℕ) → IsPrefixed prefix_of ms s n rest → ⊥)
    → list_any (λ (m : Member). where_some (λ p. begins p s) (prefix_of m.mark)) ms ≡ false
none_begins prefix_of ms s none = by (list_any (λ (m : Member). where_some (λ p. begins p s) (prefix_of m.mark)) ms) refl where
  by : (b : Bool) → list_any (λ (m : Member). where_some (λ p. begins p s) (prefix_of m.mark)) ms ≡ b → list_any (λ (m : Member). where_some (λ p. begins p s) (prefix_of m.mark)) ms ≡ false
  by false is = is
  by true is =
      let x = found (λ (m : Member). where_some (λ p. begins p s) (prefix_of m.mark)) ms is in
      let y = is_behind (prefix_of x.one.mark) s x.passes in
      absurd (none x.place y.0 (record { member = x.one; there = x.there; behind = y.1 }))

-- ---- texts

pub no_text_prefix : (u : UnionDef) (t : Data) (s : List ℕ) → u.form ≡ UF.StringPrefix → Some s ≡ text_in t
    → ((n : ℕ) (rest : List ℕ) → IsPrefixed mark_text u.members s n rest → ⊥) → why_of (D.Union u) t ≡ Some W.Prefix
no_text_prefix u t s form is none =
    let own : t ≡ T.text s = only_text_data t s (sym is) in
    prefix_why u t (ap (λ (f : UnionForm). union_has f u.members (kind_word_of t)) form ∙ ap (λ d. same_kind K.Text (kind_word_of d)) own)
    (ap (λ (f : UnionForm). union_name f t) form) (ap (λ (f : UnionForm). union_missing f t) form) (ap (λ (f : UnionForm). union_count f t) form)
    (ap (λ (f : UnionForm). union_prefix f u.members t) form ∙ ap (union_prefix UF.StringPrefix u.members) own ∙ ap not (none_begins mark_text u.members s none))

-- ---- bytes

pub no_bytes_prefix : (u : UnionDef) (t : Data) (s : List ℕ) → u.form ≡ UF.BytesPrefix → Some s ≡ bytes_in t
    → ((n : ℕ) (rest : List ℕ) → IsPrefixed bytes_mark u.members s n rest → ⊥) → why_of (D.Union u) t ≡ Some W.Prefix
no_bytes_prefix u t s form is none =
    let own : t ≡ T.bytes s = only_bytes_data t s (sym is) in
    prefix_why u t (ap (λ (f : UnionForm). union_has f u.members (kind_word_of t)) form ∙ ap (λ d. same_kind K.Bytes (kind_word_of d)) own)
    (ap (λ (f : UnionForm). union_name f t) form) (ap (λ (f : UnionForm). union_missing f t) form) (ap (λ (f : UnionForm). union_count f t) form)
    (ap (λ (f : UnionForm). union_prefix f u.members t) form ∙ ap (union_prefix UF.BytesPrefix u.members) own ∙ ap not (none_begins bytes_mark u.members s none))
