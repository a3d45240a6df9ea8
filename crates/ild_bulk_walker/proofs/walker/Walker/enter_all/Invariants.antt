use Rattle.std.proofs.Common.{◌≡◌, ◌-◌, length}
use Rattle.std.specs.Prelude.{Ok}
use Rattle.ild_data.specs.TrieShape.{trie_levels}
use Rattle.ild_bulk_walker.specs.Ahead.{walker_path}
use Rattle.ild_bulk_walker.specs.inside.Stepping.{Enters}
use Rattle.ild_bulk_walker.proofs.walker.Walker.enter_all.Given as goal

abbrev pub decreases-loop-child : goal.decreases-loop-child
decreases-loop-child g l = trie_levels l.initial.self.shape - length (walker_path l.self)

abbrev pub invariant-loop-child : goal.invariant-loop-child
invariant-loop-child g l =
    Enters l.initial.self.shape (length (walker_path l.self)) (g.K.Store.moment l.initial.store) l.initial.self (Ok tt) l.self (g.K.Store.moment l.store) × (l.self.shape ≡ l.initial.self.shape)
