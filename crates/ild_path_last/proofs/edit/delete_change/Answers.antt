use Rattle.std.proofs.Common.{None, ◌∙◌, subst}
use Rattle.ild_schema.specs.Slots.{form_of}
use Rattle.ild_typed.specs.At.{seen}
use Rattle.ild_typed.specs.Hamt.{alone}
use Rattle.ild_typed.specs.Represented.{represented}
use Rattle.ild_path_steps.proofs.Holding.{held_by}
use Rattle.ild_path_edits.specs.Table.{delete_part}
use Rattle.ild_path_last.proofs.Verbs.{delete_listed, delete_named, known_form}
use Rattle.ild_path_last.proofs.edit.delete_change.Goals as goal
use Rattle.ild_path_last.specs.Change.{Tells, becomes}

pub returns-then-is_listed : goal.returns-then-is_listed
returns-then-is_listed c = λ f t x made stands there.
    let form = known_form (form_of c.args.acc.now c.args.slot) c.is_listed.ensures.known in
    let told = subst (λ b. Tells b (seen c.args.acc.now (c.args.slot, f))) c.if-is_listed.true (c.is_listed.ensures.told f t made stands) in
    delete_listed c.args.acc.now c.args.piece.now t c.args.segment.now stands form.0 (form_of c.args.acc.now c.args.slot) (becomes c.args.acc.now c.args.slot (delete_part (seen c.args.acc.now (c.args.slot, f)) c.args.segment.now)) c.item_gone.result x (seen c.args.acc.now (c.args.slot, f))
    (held_by c.args.acc.now c.args.slot t form.0 form.1 f made) told c.item_gone.ensures there

pub returns-else-is_listed : goal.returns-else-is_listed
returns-else-is_listed c = λ f t x made stands there.
    let told = subst (λ b. Tells b (seen c.args.acc.now (c.args.slot, f))) c.if-is_listed.false (c.is_listed.ensures.told f t made stands) in
    let named = delete_named (form_of c.args.acc.now c.args.slot) (represented alone c.args.acc.now) c.args.segment.now (becomes c.args.acc.now c.args.slot (delete_part (seen c.args.acc.now (c.args.slot, f)) c.args.segment.now)) (seen c.args.acc.now (c.args.slot, f)) told there in
    named.same ∙ c.named_change.ensures f t (λ slot. None) None x (becomes c.args.acc.now c.args.slot (delete_part (seen c.args.acc.now (c.args.slot, f)) c.args.segment.now)) made stands named.parts named.makes tt tt
