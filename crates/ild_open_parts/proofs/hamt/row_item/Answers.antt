use Rattle.std.proofs.Common.{[], subst}
use Rattle.ild_node_slots.specs.Spelled.{tree_in}
use Rattle.ild_typed.specs.Spots.{key_spot}
use Rattle.ild_view_walk.specs.Checks.{PartFaults}
use Rattle.ild_open_parts.proofs.Refusing.{key_refused, value_refused}
use Rattle.ild_open_parts.proofs.Spelling.{row_block, row_faultless, row_is, row_stands}
use Rattle.ild_open_parts.proofs.hamt.row_item.Goals as goal

pub known_root-item-requires : goal.known_root-item-requires
known_root-item-requires c = row_faultless c.args.row.now c.requires.spelled c.as_slice.result.now c.as_slice.ensures.same

pub returns-in-Err : goal.returns-in-Err
returns-in-Err c =
    rw c.part_fault.ensures (key_refused c.args.acc.now c.args.room c.args.key c.args.value c.args.row.now (tree_in c.args.row.now.value) (row_block c.args.row.now c.requires.spelled c.as_slice.ensures.bytes) c.in-Err.fault
    (subst (λ k. PartFaults c.args.acc.now c.args.room (key_spot c.args.key k []) c.in-Err.fault) c.as_str.ensures.same c.in-Err.ensures))

pub returns-in-Ok : goal.returns-in-Ok
returns-in-Ok c =
    let stands = row_stands c.args.row.now c.requires.spelled c.as_slice.result.now c.known_root-item.result c.as_slice.ensures.same c.as_slice.ensures.bytes c.known_root-item.ensures in
    row_is c.args.row.now c.requires.spelled c.args.acc.now c.args.room c.args.key c.args.value c.known_root-item.result c.as_str.result.now c.as_slice.ensures.bytes stands c.as_str.ensures.same c.as_str.ensures.utf8 c.in_default.ensures
    (c.in-Ok.ensures.checks (tree_in c.args.row.now.value) stands)

pub returns-in-Err-check_item : goal.returns-in-Err-check_item
returns-in-Err-check_item c =
    let stands = row_stands c.args.row.now c.requires.spelled c.as_slice.result.now c.known_root-item.result c.as_slice.ensures.same c.as_slice.ensures.bytes c.known_root-item.ensures in
    rw c.part_fault-in-Err-check_item.ensures (value_refused c.args.acc.now c.args.room c.args.key c.args.value c.args.row.now (tree_in c.args.row.now.value) (row_block c.args.row.now c.requires.spelled c.as_slice.ensures.bytes) c.in-Err-check_item.fault
    (c.in-Err-check_item.ensures.checks (tree_in c.args.row.now.value) stands))
