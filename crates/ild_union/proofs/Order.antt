-- The first cause of a union, by the causes in their order.
use Rattle.std.proofs.Common.{◌≡◌, Bool, true, false, cond, Some, None, Option, not, ◌||◌, refl}
use Rattle.ild_data.specs.Data.{Data}
use Rattle.ild_schema.specs.declared.def.TypeDef.TheVariants as D
use Rattle.ild_schema.specs.declared.def.UnionDef.{UnionDef}
use Rattle.ild_schema.specs.DataKinds.{union_has}
use Rattle.ild_typed.specs.Causes.{why_of}
use Rattle.ild_typed.specs.Kinds.{kind_word_of}
use Rattle.ild_typed.specs.UnionWhy.{union_name, union_missing, union_count, union_prefix, union_member}
use Rattle.ild_typed.specs.Why as W

abbrev chain : Bool → Bool → Bool → Bool → Bool → Bool → Option W.Why
chain k n m c p e =
    cond (not k || false) (Some W.Kind) (cond n (Some W.Name) (cond m (Some W.Missing) (cond c (Some W.Count) (cond p (Some W.Prefix) (cond e (Some W.Member) None)))))

module _ (u : UnionDef) (t : Data) where
  whole : why_of (D.Union u) t ≡ chain (union_has u.form u.members (kind_word_of t)) (union_name u.form t) (union_missing u.form t) (union_count u.form t) (union_prefix u.form u.members t) (union_member u.form u.members t)
  whole = refl

  pub kind_why : union_has u.form u.members (kind_word_of t) ≡ false → why_of (D.Union u) t ≡ Some W.Kind
  kind_why k = λ i. chain (k i) (union_name u.form t) (union_missing u.form t) (union_count u.form t) (union_prefix u.form u.members t) (union_member u.form u.members t)

  pub name_why : union_has u.form u.members (kind_word_of t) ≡ true → union_name u.form t ≡ true → why_of (D.Union u) t ≡ Some W.Name
  name_why k n = λ i. chain (k i) (n i) (union_missing u.form t) (union_count u.form t) (union_prefix u.form u.members t) (union_member u.form u.members t)

  pub missing_why : union_has u.form u.members (kind_word_of t) ≡ true → union_name u.form t ≡ false → union_missing u.form t ≡ true → why_of (D.Union u) t ≡ Some W.Missing
  missing_why k n m = λ i. chain (k i) (n i) (m i) (union_count u.form t) (union_prefix u.form u.members t) (union_member u.form u.members t)

  pub count_why : union_has u.form u.members (kind_word_of t) ≡ true → union_name u.form t ≡ false → union_missing u.form t ≡ false → union_count u.form t ≡ true → why_of (D.Union u) t ≡ Some W.Count
  count_why k n m c = λ i. chain (k i) (n i) (m i) (c i) (union_prefix u.form u.members t) (union_member u.form u.members t)

  pub prefix_why : union_has u.form u.members (kind_word_of t) ≡ true → union_name u.form t ≡ false → union_missing u.form t ≡ false → union_count u.form t ≡ false → union_prefix u.form u.members t ≡ true → why_of (D.Union u) t ≡ Some W.Prefix
  prefix_why k n m c p = λ i. chain (k i) (n i) (m i) (c i) (p i) (union_member u.form u.members t)

  pub member_why : union_has u.form u.members (kind_word_of t) ≡ true → union_name u.form t ≡ false → union_missing u.form t ≡ false → union_count u.form t ≡ false → union_prefix u.form u.members t ≡ false → union_member u.form u.members t ≡ true
      → why_of (D.Union u) t ≡ Some W.Member
  member_why k n m c p e = λ i. chain (k i) (n i) (m i) (c i) (p i) (e i)
