use Rattle.std.proofs.Common.{◌≡◌, List, ℕ, subst}
use Rattle.std.proofs.Math.Logic.{∥∥₁_elim}
use Rattle.std.proofs.Props.{props}
use Rattle.std.proofs.lemmas.Option.{same_Some, none-some}
use Rattle.std.specs.Prelude.{IfOk}
use Rattle.ild_data.specs.Data.{text}
use Rattle.ild_open_named.proofs.Finding.{text_faultless}
use Rattle.ild_open_named.proofs.getting.text_in.Goals as goal

pub known_root-requires : goal.known_root-requires
known_root-requires c = text_faultless c.args.block.now c.requires

pub unreachable-requires : goal.unreachable-requires
unreachable-requires c = ∥∥₁_elim c.requires (hlevel props) (λ x. none-some x.source (c.in-None.ensures (text x.source) (c.known_root.ensures (text x.source) x.block).stands))

pub returns : goal.returns
returns c = λ s block.
    subst (λ (k : List ℕ). IfOk c.of.result (λ t. t ≡ k)) (same_Some c.in-Some.text.now s (c.in-Some.ensures (text s) (c.known_root.ensures (text s) block).stands)) c.of.ensures
