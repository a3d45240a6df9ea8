use Rattle.std.proofs.Common.{◌≡◌, ℕ, List, sym, ap, subst, ◌∙◌}
use Rattle.ild_data.specs.Spell.{spell}
use Rattle.ild_node_slots.specs.Spelled.{tree_in, IsFaultless}
use Rattle.ild_node_slots.proofs.Trees.{spelling-of}
use Rattle.ild_bulk_walker.specs.Pieces.{piece}
use Rattle.ild_bulk_walker.proofs.step.Entry.spelling.Goals as goal

pub returns : goal.returns
returns c =
    let e = c.args.self.now in
    let same : c.as_slice.result.now ≡ e.held.value = c.as_slice.ensures.same ∙ c.deref.ensures in
    (spelling-of (piece c.as_slice.result.now e.middle e.to) c.are_bytes.ensures (subst (λ (b : List ℕ). IsFaultless (piece b e.middle e.to)) (sym same) e.tree)).spelled
    ∙ ap (λ (b : List ℕ). spell (tree_in (piece b e.middle e.to))) same
