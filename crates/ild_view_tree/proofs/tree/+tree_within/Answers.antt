use Rattle.std.proofs.Common.{◌-◌, sym, subst}
use Rattle.ild_data.specs.Data.{Members}
use Rattle.ild_data.specs.Seen.{data_of}
use Rattle.ild_view_tree.proofs.Treeing.{MembersRead, items_end, items_on, members_begin, members_end, members_on}
use Rattle.ild_view_tree.proofs.tree.+tree_within.Goals as goal

pub loop-item-preserved : goal.loop-item-preserved
loop-item-preserved m c = λ t stands deep.
    items_on t (c.args.room - 1) c.loop-item.trees c.loop-item.left c.next.new.self (c.loop-item.invariant t stands deep) c.in-Some-next.item c.push.new.self (data_of c.in_ok-tree.tree) c.in-Some-next.ensures.steps c.in_ok-tree.ensures c.in_ok-push.ensures.ok

pub loop-key-preserved : goal.loop-key-preserved
loop-key-preserved m c = λ t stands deep.
    members_on t (c.args.room - 1) c.loop-key.members c.loop-key.rest c.next-in-loop-key.new.self (c.loop-key.invariant t stands deep) (c.in-Some-next-2.key, c.in-Some-next-2.value) c.put.new.self c.in_ok-name.name (data_of c.in_ok-part.part)
    c.in-Some-next-2.ensures.steps c.in_ok-name.ensures c.in_ok-part.ensures c.in_ok-put.ensures.ok

pub returns-in-Some : goal.returns-in-Some
returns-in-Some m c = λ t stands deep. items_end t (c.args.room - 1) c.loop-item.trees c.loop-item.left c.next.new.self (c.loop-item.invariant t stands deep) c.in_default-next.ensures.steps

pub returns-in-Some-entries : goal.returns-in-Some-entries
returns-in-Some-entries m c = λ t stands deep.
    members_end t (c.args.room - 1) c.loop-key.members c.loop-key.rest c.next-in-loop-key.new.self (c.loop-key.invariant t stands deep) c.in_default-next-2.ensures.steps

pub loop-key-init : goal.loop-key-init
loop-key-init m c = λ t stands deep.
    subst (λ (ms : Members). MembersRead t (c.args.room - 1) ms c.in-Some-entries.entries) (sym c.new-members.ensures) (members_begin c.args.node.now t c.args.room c.in-Some-entries.entries (c.in-Some-entries.ensures t stands) deep)
