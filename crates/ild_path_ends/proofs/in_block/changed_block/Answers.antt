use Rattle.ild_path_ends.proofs.Ending.{edits, held_q, inner_made}
use Rattle.ild_path_ends.proofs.Inner.{inner_view}
use Rattle.ild_path_ends.proofs.in_block.changed_block.Goals as goal

pub returns-in-Ok-clause-made : goal.returns-in-Ok-clause-made
returns-in-Ok-clause-made c = λ h is_key was v w x t u q less level leads inside ended change.
    let root = c.args.root.now in
    let hops = c.args.hops.now in
    let d = held_q h is_key was v t root hops q less level leads in
    let view = inner_view h is_key was v t root hops q less level leads d.0 d.1.tree c.innermost-view.result c.innermost-view.ensures.root c.innermost-view.ensures.entry in
    inner_made h is_key was v t root hops q less level leads c.args.path.now c.args.edit.now w x u ended change inside c.are_texts.ensures _
    (c.in-Ok.ensures is_key _ _ _ _ _ (edits h is_key was v t root hops q less level leads c.args.path.now c.args.edit.now w x u ended change inside c.are_texts.ensures c.innermost-view.result view))

pub returns-in-Err-Size-clause-made : goal.returns-in-Err-Size-clause-made
returns-in-Err-Size-clause-made c = λ h is_key was v w x t u q less level leads inside ended change.
    let root = c.args.root.now in
    let hops = c.args.hops.now in
    let d = held_q h is_key was v t root hops q less level leads in
    let view = inner_view h is_key was v t root hops q less level leads d.0 d.1.tree c.innermost-view.result c.innermost-view.ensures.root c.innermost-view.ensures.entry in
    inner_made h is_key was v t root hops q less level leads c.args.path.now c.args.edit.now w x u ended change inside c.are_texts.ensures _
    (rw c.in-Err-Size.field-0-is at (c.in-Err-Size.ensures is_key _ _ _ _ _ (edits h is_key was v t root hops q less level leads c.args.path.now c.args.edit.now w x u ended change inside c.are_texts.ensures c.innermost-view.result view)))

pub returns-in-Err-Memory-clause-made : goal.returns-in-Err-Memory-clause-made
returns-in-Err-Memory-clause-made c = λ h is_key was v w x t u q less level leads inside ended change.
    inner_made h is_key was v t c.args.root.now c.args.hops.now q less level leads c.args.path.now c.args.edit.now w x u ended change inside c.are_texts.ensures _ tt
