-- A root block that is known to name its schema has no fault, and its parts.
use Rattle.std.proofs.Common.{◌≡◌, ◌∙◌, sym, ap, subst, ℕ, List, true, None}
use Rattle.std.proofs.Math.Bool.{Bool-set}
use Rattle.std.proofs.Math.Logic.{∥∥₁_elim}
use Rattle.std.specs.Prelude.{is_none}
use Rattle.ild_data.proofs.Options.{none_is}
use Rattle.ild_data.specs.Data.{Data}
use Rattle.ild_cbor.proofs.Blocks.{block_again}
use Rattle.ild_cbor.specs.Nodes.{HasData}
use Rattle.ild_cbor.specs.Reading.{fault_of}
use Rattle.ild_cbor.specs.declared.node.Node.{Node}
use Rattle.ild_named.specs.Named.{named_data}
use Rattle.ild_named.specs.Parts.{HasParts}
use Rattle.ild_named.specs.declared.parts.NamedParts.{NamedParts}
use Rattle.ild_named.proofs.Framing.{name_of_named, schema_of_named, value_of_named}
use Rattle.ild_schema.specs.declared.number.TypeNo.{TypeNo}
use Rattle.ild_schema.specs.declared.row.Row.{Row}
use Rattle.ild_view_named.specs.NamedBlock.{ArePartsIn, HasNamed}

pub named_faultless : (rows : List Row) (ty : TypeNo) (b seen : List ℕ) → seen ≡ b → ∥ HasNamed rows ty b ∥₁ → fault_of seen ≡ None
named_faultless rows ty b seen same h =
    ap fault_of same ∙ none_is (fault_of b) (∥∥₁_elim h (Bool-set (is_none (fault_of b)) true) (λ x. ap is_none (block_again b (named_data x.name x.schema x.tree) x.root.block)))

-- the parts that were read are those
pub known_parts : (node : Node) (name id : List ℕ) (t : Data) (p : NamedParts) → HasParts node (named_data name id t) p → ArePartsIn name id t p
known_parts node name id t p x = record {
  name_is = sym (name_of_named name id p.name.now p.schema.0 t x.value x.is);
  schema_is = sym (schema_of_named name id p.name.now p.schema.0 t x.value x.is);
  stands = subst (λ (d : Data). HasData p.value d) (sym (value_of_named name id p.name.now p.schema.0 t x.value x.is)) x.part.stands;
}
