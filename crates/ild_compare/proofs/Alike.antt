-- Two values with one root block whose trees lead to blocks that two stores hold alike are one.
use Rattle.std.proofs.Common.{◌≡◌, ℕ, List, [], ◌∷◌, Some, refl, sym, ap, ◌∙◌, subst}
use Rattle.std.specs.Prelude.{Contains}
use Rattle.std.specs.List.{AllByRecursion}
use Rattle.std.proofs.lemmas.Option.{same_Some}
use Rattle.ild_beneath.specs.Children.{AreOf, Child, children_in, children_of}
use Rattle.ild_data.proofs.AllOf.{all_split, all_contained}
use Rattle.ild_data.specs.Spell.{id_of}
use Rattle.ild_edges.specs.Store.{block_at}
use Rattle.ild_schema.specs.declared.number.TypeNo.{TypeNo}
use Rattle.ild_schema.specs.declared.row.Row.{Row}
use Rattle.ild_typed.specs.Nested.{IsBlock}
use Rattle.ild_typed_places.proofs.Joining.{All}
use Rattle.ild_typed_places.specs.Places.{Places, nowhere, place, blocks_in}
use Rattle.ild_compare.specs.Reached.{AreAlike, IsAlike}
use Rattle.ild_compare.proofs.Placing.{told}

module _ (rows : List Row) (ty : TypeNo) (root : List ℕ) (left right : List (List ℕ)) (alike : AreAlike rows ty root (Some left) (Some right)) where
  -- a block that is held
  abbrev pub Held : List (List ℕ) → List ℕ → Type 0
  Held held b = IsBlock b × (block_at held (id_of b) ≡ Some b)

  abbrev Among : List Child → Type 0
  Among cs = AllByRecursion (Contains alike.spots) cs

  -- what is held under a child's id is the block that both hold
  at_left : (c : Child) (x : IsAlike rows ty root (Some left) (Some right) alike.spots c) (b : List ℕ) → id_of b ≡ c.0 → block_at left (id_of b) ≡ Some b → b ≡ x.block
  at_left c x b named under = same_Some b x.block (sym under ∙ ap (block_at left) (named ∙ sym x.named) ∙ x.left_under)

  at_right : (c : Child) (x : IsAlike rows ty root (Some left) (Some right) alike.spots c) (b : List ℕ) → id_of b ≡ c.0 → block_at right (id_of b) ≡ Some b → b ≡ x.block
  at_right c x b named under = same_Some b x.block (sym under ∙ ap (block_at right) (named ∙ sym x.named) ∙ x.right_under)

  same_places : (cs : List Child) (ps qs : Places) → Among cs → AreOf rows ty cs ps → AreOf rows ty cs qs → All (Held left) ps → All (Held right) qs → ps ≡ qs
  same_places [] nowhere nowhere among of ou a b = refl
  same_places [] (place e bp ps) qs among of ou a b = absurd of
  same_places [] nowhere (place e bq qs) among of ou a b = absurd ou
  same_places (c ∷ cs) nowhere qs among of ou a b = absurd of
  same_places (c ∷ cs) (place d bp ps) nowhere among of ou a b = absurd ou
  same_places (c ∷ cs) (place d bp ps) (place e bq qs) among of ou a b =
      let x = all_contained (IsAlike rows ty root (Some left) (Some right) alike.spots) alike.spots c alike.each among.0 in
      let one : d ≡ x.block = at_left c x d of.0 a.0.1 in
      let two : e ≡ x.block = at_right c x e ou.0 b.0.1 in
      let below = all_split (Held left) (blocks_in bp) (blocks_in ps) a.1 in
      let beneath = all_split (Held right) (blocks_in bq) (blocks_in qs) b.1 in
      let tells : children_of rows ty c.1 x.block ≡ children_in rows ty c.1 of.1.0 = ap (children_of rows ty c.1) (sym one) ∙ told rows ty d c.1 of.1.0 a.0.0 of.1.1 of.1.2 in
      let says : children_of rows ty c.1 x.block ≡ children_in rows ty c.1 ou.1.0 = ap (children_of rows ty c.1) (sym two) ∙ told rows ty e c.1 ou.1.0 b.0.0 ou.1.1 ou.1.2 in
      let down = same_places (children_of rows ty c.1 x.block) bp bq x.on (subst (λ (ds : List Child). AreOf rows ty ds bp) (sym tells) of.1.3) (subst (λ (ds : List Child). AreOf rows ty ds bq) (sym says) ou.1.3) below.0 beneath.0 in
      let rest = same_places cs ps qs among.1 of.2 ou.2 below.1 beneath.1 in
      λ i. place ((one ∙ sym two) i) (down i) (rest i)

  pub one_home : (ps qs : Places) → AreOf rows ty (children_of rows ty 0 root) ps → AreOf rows ty (children_of rows ty 0 root) qs → All (Held left) ps → All (Held right) qs → ps ≡ qs
  one_home ps qs of ou a b = same_places (children_of rows ty 0 root) ps qs alike.first of ou a b
