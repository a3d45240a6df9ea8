use Rattle.std.proofs.Common.{sym, ap}
use Rattle.ild_path_rules.proofs.Allowing.{insert_element_slot, insert_entry_slot, insert_field_slot}
use Rattle.ild_path_edits.specs.Table.{slot_to_insert}
use Rattle.ild_typed.specs.At.{seen}
use Rattle.ild_view.specs.View.{slot_of, table_of}
use Rattle.ild_path_rules.proofs.insert.slot_to_insert.Goals as goal

pub returns-in-Fields : goal.returns-in-Fields
returns-in-Fields c = λ f x.
    let v = c.args.view.now in
    let s = c.args.segment.now in
    let h = seen (table_of v) (slot_of v, f) in
    let y = c.in-Fields.ensures.is f x in
    insert_field_slot s (table_of v) (slot_of v) c.in-Fields.def.now h c.is_there.result c.field_left_out.result y (c.is_there.ensures f x) (c.field_left_out.ensures y.known)

pub returns-in-Entries : goal.returns-in-Entries
returns-in-Entries c = λ f x.
    let v = c.args.view.now in
    let s = c.args.segment.now in
    let h = seen (table_of v) (slot_of v, f) in
    insert_entry_slot s _ _ h c.is_there-in-Entries.result c.slot_if.result (c.in-Entries.ensures.is f x) (c.is_there-in-Entries.ensures f x) c.slot_if.ensures

pub returns-in-Elements : goal.returns-in-Elements
returns-in-Elements c = λ f x.
    let v = c.args.view.now in
    let s = c.args.segment.now in
    let h = seen (table_of v) (slot_of v, f) in
    insert_element_slot s _ h c.is_place.result c.slot_if-in-Elements.result (c.in-Elements.ensures.is f x) (λ n is. c.is_place.ensures f n x is) c.slot_if-in-Elements.ensures

pub returns-in-Member : goal.returns-in-Member
returns-in-Member c = λ f x. ap (λ h. slot_to_insert h c.args.segment.now) (sym (c.in-Member.ensures.is f x).is)

pub returns-in-Nothing : goal.returns-in-Nothing
returns-in-Nothing c = λ f x. ap (λ h. slot_to_insert h c.args.segment.now) (sym (c.in-Nothing.ensures.is f x).1)
