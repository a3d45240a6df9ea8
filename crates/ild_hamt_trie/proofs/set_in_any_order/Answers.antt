use Rattle.ild_hamt_trie.proofs.Orders.{sorted-put}
use Rattle.ild_hamt_trie.proofs.set_in_any_order.Goals as goal

pub returns : goal.returns
returns c = sorted-put
