-- A root block that is known to be one has no fault.
use Rattle.std.proofs.Common.{◌≡◌, ◌∙◌, ap, ℕ, List, true, None}
use Rattle.std.proofs.Math.Bool.{Bool-set}
use Rattle.std.proofs.Math.Logic.{∥∥₁_elim}
use Rattle.std.specs.Prelude.{is_none}
use Rattle.ild_data.proofs.Options.{none_is}
use Rattle.ild_cbor.proofs.Blocks.{block_again}
use Rattle.ild_cbor.specs.Reading.{fault_of}
use Rattle.ild_view_doc.specs.Block.{HasRoot}
use Rattle.ild_schema.specs.declared.number.TypeNo.{TypeNo}
use Rattle.ild_schema.specs.declared.row.Row.{Row}

pub rooted_faultless : (rows : List Row) (ty : TypeNo) (b seen : List ℕ) → seen ≡ b → ∥ HasRoot rows ty b ∥₁ → fault_of seen ≡ None
rooted_faultless rows ty b seen same h =
    ap fault_of same ∙ none_is (fault_of b) (∥∥₁_elim h (Bool-set (is_none (fault_of b)) true) (λ x. ap is_none (block_again b x.root.tree x.root.block)))
