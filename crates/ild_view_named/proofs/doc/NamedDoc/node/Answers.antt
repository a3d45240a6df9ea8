use Rattle.std.proofs.Common.{ℕ, List, sym, subst}
use Rattle.ild_cbor.specs.Block.{IsBlockOf}
use Rattle.ild_cbor.specs.Nodes.{IsRoot}
use Rattle.ild_named.specs.Named.{named_data}
use Rattle.ild_view_named.proofs.Known.{named_faultless}
use Rattle.ild_view_named.proofs.doc.NamedDoc.node.Goals as goal

pub known_root-requires : goal.known_root-requires
known_root-requires c = named_faultless _ _ _ _ c.block.ensures c.args.self.now.stands

pub returns : goal.returns
returns c = λ name id t root.
    subst (λ (b : List ℕ). IsRoot c.known_root.result b (named_data name id t)) c.block.ensures
    (c.known_root.ensures (named_data name id t) (subst (λ (b : List ℕ). IsBlockOf b (named_data name id t)) (sym c.block.ensures) root.block))
