use Rattle.std.proofs.Common.{sym, ap}
use Rattle.ild_path_rules.proofs.Allowing.{set_element_slot, set_entry_slot, set_field_slot, set_member_slot}
use Rattle.ild_path_edits.specs.Table.{slot_to_set}
use Rattle.ild_typed.specs.At.{seen}
use Rattle.ild_view.specs.View.{slot_of, table_of}
use Rattle.ild_path_rules.proofs.set.slot_to_set.Goals as goal

pub returns-in-Fields : goal.returns-in-Fields
returns-in-Fields c = λ f x.
    let v = c.args.view.now in
    let s = c.args.segment.now in
    let h = seen (table_of v) (slot_of v, f) in
    let y = c.in-Fields.ensures.is f x in
    set_field_slot s (table_of v) (slot_of v) c.in-Fields.def.now h c.field_slot.result y (c.field_slot.ensures y.known)

pub returns-in-Member : goal.returns-in-Member
returns-in-Member c = λ f x.
    let v = c.args.view.now in
    let s = c.args.segment.now in
    let h = seen (table_of v) (slot_of v, f) in
    let y = c.in-Member.ensures.is f x in
    set_member_slot s (table_of v) (slot_of v) c.in-Member.def.now h c.member_slot.result y (c.member_slot.ensures y.known)

pub returns-in-Entries : goal.returns-in-Entries
returns-in-Entries c = λ f x.
    let v = c.args.view.now in
    let s = c.args.segment.now in
    let h = seen (table_of v) (slot_of v, f) in
    set_entry_slot s _ _ h (c.in-Entries.ensures.is f x)

pub returns-in-Elements : goal.returns-in-Elements
returns-in-Elements c = λ f x.
    let v = c.args.view.now in
    let s = c.args.segment.now in
    let h = seen (table_of v) (slot_of v, f) in
    set_element_slot s _ h c.slot_there.result (c.in-Elements.ensures.is f x) (c.slot_there.ensures f x)

pub returns-in-Nothing : goal.returns-in-Nothing
returns-in-Nothing c = λ f x. ap (λ h. slot_to_set h c.args.segment.now) (sym (c.in-Nothing.ensures.is f x).1)
