-- Layers that stand as a text: what they write, and that no HAMT is in them.
use Rattle.std.proofs.Common.{◌≡◌, ℕ, List, true, Some, option_map, refl, sym, ap, ◌∙◌}
use Rattle.std.specs.Prelude.{option_and_then}
use Rattle.ild_data.specs.Spell.{spell, spell_text}
use Rattle.ild_schema.specs.declared.number.Slot.{Slot}
use Rattle.ild_schema.specs.declared.def.TypeDef.{TypeDef}
use Rattle.ild_schema.specs.declared.def.TypeDef.TheVariants as D
use Rattle.ild_schema.specs.declared.def.UnionDef.{UnionDef}
use Rattle.ild_schema.specs.declared.def.UnionForm.TheVariants as UF
use Rattle.ild_schema.specs.declared.def.KindWord.TheVariants as K
use Rattle.ild_schema.specs.declared.row.Row.{Row}
use Rattle.ild_schema.specs.DataKinds.{kind_in, union_has}
use Rattle.ild_schema.specs.Made.{HasOnly, IsMade}
use Rattle.ild_schema.specs.Slots.{form_of, plainly}
use Rattle.ild_schema.specs.Value as V
use Rattle.ild_schema.specs.Value.{Value}
use Rattle.ild_typed.specs.Hamt.{whole}
use Rattle.ild_typed.specs.Layer as L
use Rattle.ild_typed.specs.Layer.{Layer}
use Rattle.ild_typed.specs.Layers.{layer_of}
use Rattle.ild_typed.specs.Represented.{represented}
use Rattle.ild_typed.specs.Strings.{text_in}
use Rattle.ild_typed.proofs.Basics.{map_from}
use Rattle.ild_typed.proofs.Entries.{only_text_data}
use Rattle.ild_typed.proofs.Flat.{flat_alone, flat_text}
use Rattle.ild_typed.proofs.Making.{text_slot}
use Rattle.ild_typed.proofs.OneLayer.{in_layer, of_layer}
use Rattle.ild_build.specs.TextRep.{is_text_layer, text_rep}
use Rattle.ild_build.proofs.PartFits.{text_layer, kind_text}
use Rattle.ild_build_pass.specs.Fitting.{FitsIn}
use Rattle.ild_build_leaf.specs.Made.{made}
use Rattle.ild_build_pass.specs.Weights.{Weight, weigh}
use Rattle.ild_build_pass.specs.Writes.{Writes}
use Rattle.ild_build_leaf.specs.Wrote.{Wrote}
use Rattle.ild_build_entries.specs.declared.nodes.Nodes.{Nodes}
use Rattle.ild_build_pass.proofs.Bare.{text_weight}
use Rattle.ild_build_pass.proofs.Flow.{leaf}
use Rattle.ild_build_pass.proofs.Writing.{wrote_from}

-- a layer of a type whose every form is a text
pub record IsText (rows : List Row) (s : Slot) (v : Value) : Type 0 where
  pub only : HasOnly rows (plainly s.ty) K.Text
  pub layer : Layer Value
  pub is : layer_of v ≡ Some layer

pub layer_text : (rows : List Row) (s : Slot) (v : Value) (d : TypeDef) → form_of rows s ≡ Some d → is_text_layer d v ≡ true → IsText rows s v
layer_text rows s v d is e =
    let x = text_layer rows s v d is e in
    record { only = x.only; layer = x.layer; is = x.is }

pub union_text : (rows : List Row) (s : Slot) (n : ℕ) (v : Value) (u : UnionDef) → form_of rows s ≡ Some (D.Union u) → u.form ≡ UF.StringPrefix → IsText rows s (V.union n v)
union_text rows s n v u is form = record {
  only = λ k e. kind_text k (sym (ap (λ f. union_has f u.members k) form) ∙ sym (ap (λ o. kind_in o k) is) ∙ e);
  layer = L.union n v;
  is = refl;
}

module _ (h : List ℕ → List ℕ) (rows : List Row) (made_is : IsMade rows) (s : Slot) (v : Value) (text : IsText rows s v) where
  text_made : (t : List ℕ) → made (whole h) rows (plainly s.ty) v ≡ Some t → option_map spell_text (text_rep rows (plainly s.ty) v) ≡ Some t
  text_made t e =
      let u = plainly s.ty in
      let x = map_from spell (represented (whole h) rows u v) t e in
      let y = text_slot h rows u v x.item (record { plain = refl; only = text.only }) x.there in
      let z = flat_alone h rows u v x.item x.there (flat_text x.item y.text y.is) in
      ap (λ o. option_map spell_text (option_and_then text_in o)) z ∙ ap (option_map spell_text) y.is ∙ ap (λ d. Some (spell d)) (sym (only_text_data x.item y.text y.is)) ∙ x.made

  bare : FitsIn rows s v → (μ : Weight) → weigh μ rows (plainly s.ty) v ≡ 0
  bare fits μ =
      let y = in_layer rows s v text.layer text.is (fits.room, fits.fits) in
      let plain = of_layer rows (plainly s.ty) v y.ty text.layer y.form text.is y.holds in
      text_weight rows made_is μ (plainly s.ty) v (plain.0, plain.1) text.only

  -- in a slot of its own
  pub texts : FitsIn rows s v → (old new : List ℕ) (was : Nodes) → Wrote (option_map spell_text (text_rep rows (plainly s.ty) v)) old new
      → Writes h rows (made (whole h) rows (plainly s.ty) v) (λ μ. weigh μ rows (plainly s.ty) v) old new was was
  texts fits old new was w = leaf h rows (made (whole h) rows (plainly s.ty) v) (λ μ. weigh μ rows (plainly s.ty) v) old new was (bare fits) (wrote_from _ _ old new text_made w)
