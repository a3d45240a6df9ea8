-- The nodes on the way of a path in pieces, and in one block.
use Rattle.std.proofs.Common.{◌≡◌, ℕ, List, [], ◌∷◌, ◌++◌, true, false, Option, Some, None, refl, ap, sym, ◌∙◌, append_assoc}
use Rattle.std.specs.Prelude.{not}
use Rattle.std.specs.Option.{option_map_or}
use Rattle.std.proofs.lemmas.Option.{same_Some}
use Rattle.std.proofs.lemmas.Bool.{and_parts}
use Rattle.ild_schema.specs.declared.def.MapForm.TheVariants as MF
use Rattle.ild_schema.specs.declared.def.TypeDef.{TypeDef}
use Rattle.ild_schema.specs.declared.def.TypeDef.TheVariants as D
use Rattle.ild_schema.specs.declared.row.Row.{Row}
use Rattle.ild_schema.specs.Slots.{form_of}
use Rattle.ild_schema.specs.Value as V
use Rattle.ild_schema.specs.Value.{Value, Pairs}
use Rattle.ild_typed.specs.At.{InSlot, at, seen}
use Rattle.ild_typed.specs.Segment.{part}
use Rattle.ild_path_within.proofs.Splitting.{first_of_path}
use Rattle.ild_typed_fronts.specs.Front.{in_one_block, is_root, stands_as_root}
use Rattle.ild_typed_fronts.proofs.Pathing.{not_true}
use Rattle.ild_path_way.specs.Way.{nodes_for, nodes_in_map, nodes_met}
use Rattle.ild_path_way.specs.WayLaws.{NodesSplit, NoneInOneBlock}

module _ (h : List ℕ → List ℕ) (rows : List Row) where
  -- what a path meets behind its first segment
  abbrev pub behind_first : Option InSlot → List (List ℕ) → List (List ℕ)
  behind_first o ss = option_map_or (λ q. nodes_met h rows q ss) o []

  pub split : (front behind : List (List ℕ)) (p q : InSlot) → at rows p front ≡ Some q → nodes_met h rows p (front ++ behind) ≡ nodes_met h rows p front ++ nodes_met h rows q behind
  split [] behind p q e = ap (λ r. nodes_met h rows r behind) (same_Some p q e)
  split (s ∷ ss) behind p q e =
      let x = first_of_path rows p q s ss e in
      let own = nodes_for h rows (form_of rows p.0) p.1 s in
      ap (λ o. own ++ behind_first o (ss ++ behind)) x.there
      ∙ ap (λ ns. own ++ ns) (split ss behind x.item q x.made)
      ∙ sym (append_assoc own (nodes_met h rows x.item ss) (nodes_met h rows q behind))
      ∙ sym (ap (λ o. (own ++ behind_first o ss) ++ nodes_met h rows q behind) x.there)

  none_in_map : (d : Option TypeDef) (ps : Pairs) (k : List ℕ) → stands_as_root d (V.map ps) ≡ false → nodes_in_map h rows d ps k ≡ []
  none_in_map (Some (D.Map key key_at value place (MF.Hamt shape))) ps k e = absurd cc
  none_in_map d ps k e = refl

  none_for : (d : Option TypeDef) (v : Value) (k : List ℕ) → stands_as_root d v ≡ false → nodes_for h rows d v k ≡ []
  none_for d (V.map ps) k e = none_in_map d ps k e
  none_for d v k e = refl

  none_behind : (ss : List (List ℕ)) (o : Option InSlot) → ((q : InSlot) → in_one_block rows q ss ≡ true → nodes_met h rows q ss ≡ []) → option_map_or (λ q. in_one_block rows q ss) o true ≡ true → behind_first o ss ≡ []
  none_behind ss None rest e = refl
  none_behind ss (Some q) rest e = rest q e

  pub none_met : (path : List (List ℕ)) (p : InSlot) → in_one_block rows p path ≡ true → nodes_met h rows p path ≡ []
  none_met [] p e = refl
  none_met (s ∷ ss) p e =
      let x = and_parts (not (is_root rows p)) (option_map_or (λ q. in_one_block rows q ss) (part (seen rows p) s) true) e in
      let own = none_for (form_of rows p.0) p.1 s (not_true (is_root rows p) x.0) in
      ap (λ ns. ns ++ behind_first (part (seen rows p) s) ss) own ∙ none_behind ss (part (seen rows p) s) (λ q one. none_met ss q one) x.1

pub nodes_split : NodesSplit
nodes_split = λ h rows p q front behind e. split h rows front behind p q e

pub none_in_one_block : NoneInOneBlock
none_in_one_block = λ h rows p path e. none_met h rows path p e
