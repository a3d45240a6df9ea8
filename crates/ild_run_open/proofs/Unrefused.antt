-- What is built of a value that a store can hold is a root block of its type: no check of it is refused.
use Rattle.std.proofs.Common.{◌≡◌, ℕ, List, Some, sym, ◌∙◌, subst}
use Rattle.std.proofs.lemmas.Bool.{false≢true}
use Rattle.std.proofs.lemmas.Option.{none-some}
use Rattle.ild_cbor.proofs.Blocks.{block_again}
use Rattle.ild_cbor.specs.Block.{IsBlockOf}
use Rattle.ild_cbor.specs.Reading.{fault_of}
use Rattle.ild_cbor.specs.declared.fault.CborFault.{CborFault}
use Rattle.ild_cbor.specs.declared.why.Why.{Why}
use Rattle.ild_data.specs.Data.{Data}
use Rattle.ild_data.specs.Limits.{deepest}
use Rattle.ild_data.specs.Spell.{spell}
use Rattle.ild_schema.specs.Clear.{IsSafe}
use Rattle.ild_schema.specs.Legible.{IsLegible}
use Rattle.ild_schema.specs.Slots.{plainly}
use Rattle.ild_schema.specs.Value.{Value}
use Rattle.ild_schema.specs.declared.number.TypeNo.{TypeNo}
use Rattle.ild_schema.specs.declared.row.Row.{Row}
use Rattle.ild_typed.proofs.Fronting.{values_fronts}
use Rattle.ild_typed.proofs.TreeValues.{whole_tree}
use Rattle.ild_typed.proofs.WalkSound.{refused_sound}
use Rattle.ild_typed.proofs.Wholes.{one_within}
use Rattle.ild_typed.specs.Hamt.{whole}
use Rattle.ild_typed.specs.Represented.{represented}
use Rattle.ild_typed.specs.Schema.{IsSchema}
use Rattle.ild_typed.specs.Stands.{bare, Storable}
use Rattle.ild_view_doc.specs.Docs.{IsShape}

module _ (rows : List Row) (schema : IsSchema rows) (legible : IsLegible rows) (h : List ℕ → List ℕ) (ty : TypeNo) (v : Value) (d : Data) (has : Storable bare h rows ty v d) (b : List ℕ) (is : b ≡ spell d) where
  built_block : IsBlockOf b d
  built_block =
      let x = whole_tree h rows schema.table.texts.spelled deepest (plainly ty) v d has.fits has.tree in
      record { within = record { tree = x.tree; nested = x.nested; sized = has.sized.0 }; spelled = is }

  pub no_fault : (fault : CborFault) → fault_of b ≡ Some fault → ⊥
  no_fault fault e = none-some fault (sym (block_again b d built_block) ∙ e)

  safe : IsSafe rows (plainly ty)
  safe = λ e. absurd (false≢true e)

  pub no_shape : (why : Why) → IsShape rows ty b why → ⊥
  no_shape why x =
      let same : d ≡ x.tree = one_within d x.tree built_block.within x.block.within.tree (sym is ∙ x.block.spelled) in
      let y = values_fronts h rows schema deepest (plainly ty) v x.tree has.fits (subst (λ u. represented (whole h) rows (plainly ty) v ≡ Some u) same has.tree) in
      refused_sound rows legible.clear legible.delims deepest 0 (plainly ty) safe x.tree x.refusal.refusal x.refusal.refused (y.0, y.1.fits, y.1.tree)
