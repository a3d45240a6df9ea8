use Rattle.std.proofs.Common.{◌∙◌}
use Rattle.ild_path_edit.proofs.Making.{item_stands}
use Rattle.ild_path_edit.proofs.item.above.Goals as goal

pub returns-in-Ok : goal.returns-in-Ok
returns-in-Ok c = λ rows q slot s v x d view there holds is e.
    let found = c.in-Ok.ensures.found in
    c.changed.ensures rows q s v d view there holds (slot, is.place, record { fits = is.fits; tree = x; tree_is = is.shown; stands = item_stands c.as_slice.result.now c.in-Ok.node found.0 x found.1 found.2 (c.as_slice.ensures.same ∙ e) is.tree }) is.made
