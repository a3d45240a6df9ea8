use Rattle.std.proofs.Common.{sym, ◌∙◌, ap}
use Rattle.ild_path_rules.proofs.Allowing.{element_may_go, entry_may_go}
use Rattle.ild_path_rules.specs.Form.{may_go}
use Rattle.ild_typed.specs.At.{seen}
use Rattle.ild_view.specs.View.{slot_of, table_of}
use Rattle.ild_path_rules.proofs.delete.may_go.Goals as goal

pub returns-in-Fields : goal.returns-in-Fields
returns-in-Fields c = λ f x.
    let y = c.in-Fields.ensures.is f x in
    c.is_optional.ensures y.known ∙ ap (λ h. may_go h c.args.segment.now) (sym y.is)

pub returns-in-Member : goal.returns-in-Member
returns-in-Member c = λ f x. ap (λ h. may_go h c.args.segment.now) (sym (c.in-Member.ensures.is f x).is)

pub returns-in-Entries : goal.returns-in-Entries
returns-in-Entries c = λ f x.
    let v = c.args.view.now in
    let s = c.args.segment.now in
    let h = seen (table_of v) (slot_of v, f) in
    entry_may_go s _ _ h (c.in-Entries.ensures.is f x)

pub returns-in-Elements : goal.returns-in-Elements
returns-in-Elements c = λ f x.
    let v = c.args.view.now in
    let s = c.args.segment.now in
    let h = seen (table_of v) (slot_of v, f) in
    element_may_go s _ h (c.in-Elements.ensures.is f x)

pub returns-in-Nothing : goal.returns-in-Nothing
returns-in-Nothing c = λ f x. ap (λ h. may_go h c.args.segment.now) (sym (c.in-Nothing.ensures.is f x).1)
