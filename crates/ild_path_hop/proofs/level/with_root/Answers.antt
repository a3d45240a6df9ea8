use Rattle.std.proofs.Common.{◌∙◌}
use Rattle.ild_path_edit.proofs.Making.{item_stands}
use Rattle.ild_path_hop.proofs.level.with_root.Goals as goal

pub returns-in-Ok-block_of_edit-clause-made : goal.returns-in-Ok-block_of_edit-clause-made
returns-in-Ok-block_of_edit-clause-made c = λ is_key f w y t x u e tree edits.
    let found = c.in-Ok.ensures.found in
    c.in-Ok-block_of_edit.ensures is_key f w y t u (edits c.in-Ok.item (item_stands c.as_slice.result.now c.in-Ok.item found.0 x found.1 found.2 (c.as_slice.ensures.same ∙ e) tree))

pub returns-in-Err-Size-clause-made : goal.returns-in-Err-Size-clause-made
returns-in-Err-Size-clause-made c = λ is_key f w y t x u e tree edits.
    let found = c.in-Ok.ensures.found in
    rw c.in-Err-Size.field-0-is at (c.in-Err-Size.ensures is_key f w y t u (edits c.in-Ok.item (item_stands c.as_slice.result.now c.in-Ok.item found.0 x found.1 found.2 (c.as_slice.ensures.same ∙ e) tree)))
