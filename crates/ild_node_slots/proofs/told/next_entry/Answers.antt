use Rattle.std.proofs.Common.{None, Some}
use Rattle.ild_node_slots.proofs.Telling.{entry-no_pair, entry-no_bytes, entry-told}
use Rattle.ild_node_slots.proofs.told.next_entry.Goals as goal

pub returns-in_err-key : goal.returns-in_err-key
returns-in_err-key c = λ d ds h. rw c.from_residual.ensures (entry-no_pair c.args.items.now c.next_pair.new.items c.next_pair.new.items d ds (c.in_err-key.ensures d ds h))

pub returns-in_err-bytes : goal.returns-in_err-bytes
returns-in_err-bytes c = λ d ds h.
    rw c.from_residual-in_err-bytes.ensures (entry-no_bytes c.args.items.now c.next_pair.new.items c.next_pair.new.items d ds (c.in_ok-key.key, c.in_ok-key.value) (c.in_ok-key.ensures d ds h) c.in_err-bytes.ensures)

pub returns-in-None : goal.returns-in-None
returns-in-None c = λ d ds h. entry-told c.args.items.now c.next_pair.new.items d ds (c.in_ok-key.key, c.in_ok-key.value) _ None (c.in_ok-key.ensures d ds h) c.in_ok-bytes.ensures c.in-None.ensures

pub returns-in-Some : goal.returns-in-Some
returns-in-Some c = λ d ds h. entry-told c.args.items.now c.next_pair.new.items d ds (c.in_ok-key.key, c.in_ok-key.value) _ (Some c.in-Some.key) (c.in_ok-key.ensures d ds h) c.in_ok-bytes.ensures c.in-Some.ensures
