use Rattle.std.proofs.Common.{List, subst, sym}
use Rattle.std.proofs.Math.Logic.{∥∥₁_map}
use Rattle.ild_cbor.specs.declared.piece.Piece.TheVariants as P
use Rattle.ild_open_parts.specs.Checked.{IsChecked}
use Rattle.ild_schema.specs.Slots.{plainly}
use Rattle.ild_schema.specs.declared.number.TypeNo.{TypeNo}
use Rattle.ild_schema.specs.declared.row.Row.{Row}
use Rattle.ild_view_named.specs.NamedDocs.{table_in}
use Rattle.ild_open_named.proofs.opening.read_value.Goals as goal

pub read-requires-clause-checked : goal.read-requires-clause-checked
read-requires-clause-checked g c = ∥∥₁_map c.args.doc.now.stands (λ x.
    subst (λ (rows : List Row). IsChecked rows 95 (plainly c.ty.result) (P.Node c.parts.result.value)) (sym c.schema.ensures)
    (subst (λ (ty : TypeNo). IsChecked (table_in c.args.doc.now) 95 (plainly ty) (P.Node c.parts.result.value)) (sym c.ty.ensures)
    (record { tree = x.tree; stands = (c.parts.ensures x.name x.schema x.tree x.root).stands; front = (x.value, x.front.fits, x.front.tree) })))
