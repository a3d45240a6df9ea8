-- What a block tells.
use Rattle.std.proofs.Common.{◌≡◌, ℕ, suc, List, [], Some, None, sym, ap, ◌∙◌}
use Rattle.ild_beneath.specs.Children.{children_in, found, node_children, nodes_found}
use Rattle.ild_data.specs.Data.{Data}
use Rattle.ild_data.specs.Limits.{deepest}
use Rattle.ild_schema.specs.Kinds.{meant}
use Rattle.ild_schema.specs.declared.number.Slot.{Slot}
use Rattle.ild_schema.specs.declared.number.TypeNo.{TypeNo}
use Rattle.ild_schema.specs.declared.row.Row.{Row}
use Rattle.ild_typed.specs.Slots.{element_of}

-- ---- at the place of a node

module _ (rows : List Row) (ty : TypeNo) (kind k : ℕ) (one : kind ≡ suc k) (d : Data) where
  pub node_tells : (u : Slot) → Some u ≡ element_of (meant rows k) → children_in rows ty kind d ≡ node_children (found rows deepest u) kind d
  node_tells u is = ap (λ j. children_in rows ty j d) one ∙ ap (λ o. nodes_found rows (suc k) o d) (sym is) ∙ ap (λ j. node_children (found rows deepest u) j d) (sym one)

  pub nothing_tells : None ≡ element_of (meant rows k) → children_in rows ty kind d ≡ []
  nothing_tells is = ap (λ j. children_in rows ty j d) one ∙ ap (λ o. nodes_found rows (suc k) o d) (sym is)

pub root_tells : (rows : List Row) (ty : TypeNo) (kind : ℕ) (d : Data) → kind ≡ 0 → children_in rows ty kind d ≡ children_in rows ty 0 d
root_tells rows ty kind d is = ap (λ j. children_in rows ty j d) is
