use Rattle.std.proofs.Common.{subst}
use Rattle.std.proofs.lemmas.Result.{err_from_is_err_and}
use Rattle.ild_path_item.proofs.Parts.{Comes, comes}
use Rattle.ild_path_item.proofs.Rewriting.{memory_told, of_text_told}
use Rattle.ild_path_item.proofs.item.of_texts.Goals as goal
use Rattle.ild_path_item.specs.Texts.{borrowed_text}
use Rattle.ild_path_steps.proofs.Holding.{held_by}
use Rattle.ild_schema.specs.Legible.{IsLegible}
use Rattle.ild_typed.specs.At.{InSlot}
use Rattle.ild_view.specs.View.{slot_of, table_of}

pub returns-in_default : goal.returns-in_default
returns-in_default c = λ d known text f w view holds allows.
    let v = c.args.view.now in
    let rows = table_of v in
    let q : InSlot = (slot_of v, f) in
    let legible = subst IsLegible c.schema.ensures c.recall.ensures.legible in
    let x : Comes rows legible q view.tree d known text (held_by rows (slot_of v) view.tree d known f view.front.tree) holds c.args.edit.now w c.args.segment.now =
    comes rows legible q view.tree d known text (held_by rows (slot_of v) view.tree d known f view.front.tree) holds c.args.edit.now w c.args.segment.now allows in
    absurd (rw c.in_default.is at (c.new_part.ensures x.new x.node))

pub returns : goal.returns
returns c = λ d known text f w view holds allows.
    let v = c.args.view.now in
    let rows = table_of v in
    let q : InSlot = (slot_of v, f) in
    let s = c.args.segment.now in
    let legible = subst IsLegible c.schema.ensures c.recall.ensures.legible in
    let held = held_by rows (slot_of v) view.tree d known f view.front.tree in
    let x : Comes rows legible q view.tree d known text held holds c.args.edit.now w s = comes rows legible q view.tree d known text held holds c.args.edit.now w s allows in
    of_text_told rows legible q view.tree d known text held holds c.args.edit.now w s x (borrowed_text c.in-Some.new) c.in_ok-text.text c.item_of.result (rw c.in-Some.is at (c.new_part.ensures x.new x.node)) view.front.tree c.item_of.ensures
    (λ o j made lets. c.in_ok-text.ensures f o j view holds made lets)

pub returns-in_err-text : goal.returns-in_err-text
returns-in_err-text c = λ d known text f w view holds allows.
    let v = c.args.view.now in
    let p = err_from_is_err_and c.from_residual.result c.from_residual.ensures.1 in
    rw (p.1, p.2) (memory_told (table_of v) c.args.edit.now w (slot_of v, f) c.args.segment.now)
