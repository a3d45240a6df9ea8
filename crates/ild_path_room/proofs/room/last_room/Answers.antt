use Rattle.std.proofs.Common.{◌-◌, List, length, true≢false, sym, ◌∙◌, ap, subst}
use Rattle.ild_schema.specs.Table.{IsWithin}
use Rattle.ild_schema.specs.declared.row.Row.{Row}
use Rattle.ild_path_room.specs.Room.{FormKeyFits}
use Rattle.ild_path_room.proofs.Telling.{no_room, room_there}
use Rattle.ild_path_room.proofs.room.last_room.Goals as goal

pub key_fits-requires : goal.key_fits-requires
key_fits-requires c = subst (λ t. IsWithin (length t) c.form_of.result.now) (sym c.schema.ensures) c.form_of.ensures.within

pub returns-then-branch : goal.returns-then-branch
returns-then-branch c = λ f is free.
    let same = c.saturating_sub-left.ensures ∙ ap (λ n. c.args.room - n) c.levels.ensures in
    room_there c.args.view.now f c.form_of.result.now c.args.segment.now c.saturating_sub-left.result c.args.room is c.form_of.ensures.same free same
    (subst (λ (rows : List Row). FormKeyFits rows c.saturating_sub-left.result c.form_of.result.now c.args.segment.now) c.schema.ensures (c.in_ok-key_fits.ensures.0 c.if-branch.true))

pub returns-else-branch : goal.returns-else-branch
returns-else-branch c = λ f is free.
    let same = c.saturating_sub-left.ensures ∙ ap (λ n. c.args.room - n) c.levels.ensures in
    no_room c.args.view.now f c.form_of.result.now c.args.segment.now c.saturating_sub-left.result c.args.room is c.form_of.ensures.same free same
    (λ k. true≢false
    (sym (c.in_ok-key_fits.ensures.1 (subst (λ (rows : List Row). FormKeyFits rows c.saturating_sub-left.result c.form_of.result.now c.args.segment.now) (sym c.schema.ensures) k)) ∙ c.if-branch.false))
