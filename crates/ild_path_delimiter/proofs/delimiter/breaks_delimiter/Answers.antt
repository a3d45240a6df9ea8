use Rattle.std.proofs.Common.{subst, sym}
use Rattle.ild_path_edit.specs.Holders.{AreHolders}
use Rattle.ild_view.specs.View.{slot_of, table_of}
use Rattle.ild_path_delimiter.proofs.delimiter.breaks_delimiter.Goals as goal

pub returns : goal.returns
returns c =
    let rows = table_of c.args.root.now in
    let path = c.args.path.now in
    c.breaks.ensures (λ f view. subst (λ vs. AreHolders rows (slot_of c.args.root.now, f) path vs) (sym c.deref.ensures.value) (c.in_ok-views.ensures f view))
