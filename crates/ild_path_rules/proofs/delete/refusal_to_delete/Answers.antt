use Rattle.std.proofs.Common.{sym, ◌∙◌}
use Rattle.ild_path_rules.proofs.Allowing.{refused}
use Rattle.ild_path_rules.specs.Refusal.{refusal}
use Rattle.ild_typed.specs.At.{seen}
use Rattle.ild_view.specs.View.{slot_of, table_of}
use Rattle.ild_path_rules.proofs.delete.refusal_to_delete.Goals as goal

pub returns : goal.returns
returns c = λ f x.
    let v = c.args.view.now in
    let s = c.args.segment.now in
    let h = seen (table_of v) (slot_of v, f) in
    c.fault.ensures ∙ (λ i. refusal (c.is_there.ensures f x i) (c.may_go.ensures f x i)) ∙ sym (refused s h)
