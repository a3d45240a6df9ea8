-- Fields of which kinds told in the pass of the layer that they are values: all are passed over.
use Rattle.std.proofs.Common.{◌≡◌, ℕ, List, [], ◌∷◌, true, refl, sym, ◌∙◌, ap, subst}
use Rattle.std.specs.List.{AllByRecursion}
use Rattle.ild_data.proofs.AllOf.{all_at}
use Rattle.ild_data.specs.Data.{Data}
use Rattle.ild_cbor.specs.Scalar.{kind_of}
use Rattle.ild_schema.specs.Legible.{IsLegible}
use Rattle.ild_schema.specs.declared.def.Field.{Field}
use Rattle.ild_schema.specs.declared.def.StructDef.{StructDef}
use Rattle.ild_schema.specs.declared.row.Row.{Row}
use Rattle.ild_struct.specs.Parts.{fields_of, is_told}
use Rattle.ild_layer_fields.specs.Told.{IsToldAt, scalar_kind}
use Rattle.ild_struct.specs.Told.{AreTold}
use Rattle.ild_struct.specs.declared.parts.StructParts.{StructParts}
use Rattle.ild_typed.specs.Schema.{IsSchema}
use Rattle.ild_typed.specs.Spots.{Spot}
use Rattle.std.proofs.lemmas.Option.{same_Some}
use Rattle.ild_layer_parts.specs.Fields.{FieldsLeft}
use Rattle.ild_layer_parts.specs.inside.Leaf.{PassesOver}
use Rattle.ild_layer_parts.specs.Ready.{AreIn, IsIn}
use Rattle.ild_layer_parts.proofs.Passing.{kind_fits}
use Rattle.ild_layer_parts.proofs.Sweeping.{FitBefore, fields_pass}

module _ (rows : List Row) (schema : IsSchema rows) (legible : IsLegible rows) (fs : List Field) (low : AreIn rows fs) (first : ℕ) where
  told_fits : (x : ℕ × Data) → IsToldAt rows fs x → FitBefore rows fs first x
  told_fits x told = λ less f known tree room.
      let t = told f known in
      kind_fits rows schema legible f.slot (all_at (λ g. IsIn rows g.slot) fs x.0 f low known) (kind_of x.1)
      (λ d is. ap scalar_kind (same_Some d t.type (sym is ∙ t.is)) ∙ t.kind) x.1 refl tree room

  told_all : (xs : List (ℕ × Data)) → AllByRecursion (IsToldAt rows fs) xs → AllByRecursion (FitBefore rows fs first) xs
  told_all [] all = tt
  told_all (x ∷ xs) all = ((λ less f known tree room. told_fits x all.0 less f known tree room), told_all xs all.1)

pub told_pass : (rows : List Row) → IsSchema rows → IsLegible rows → (def : StructDef) → AreIn rows def.fields → (parts : StructParts) → is_told parts ≡ true → (next : ℕ) → next ≡ 0 → (first : ℕ) (ps : List Spot)
    → FieldsLeft rows def parts next ps → PassesOver rows ps (FieldsLeft rows def parts first)
told_pass rows schema legible def low parts e next begun first ps h =
    let t : AreTold rows (fields_of parts) h.held = h.are.told e in
    fields_pass rows def parts next begun first ps h t.parts t.present
    (told_all rows schema legible def.fields low first t.parts (subst (λ fs. AllByRecursion (IsToldAt rows fs) t.parts) h.same t.told))
