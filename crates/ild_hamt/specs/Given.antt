-- The ids of nodes that a store was given.
use Rattle.std.specs.Prelude.{ℕ, IfOk, List, Result}
use Rattle.ild_edges.specs.Gained.{AreIdsGiven}
use Rattle.ild_data.specs.declared.hamt_shape.HamtShape.{HamtShape}
use Rattle.ild_data.specs.Data.{Data}
use Rattle.ild_data.specs.TrieShape.{trie_levels}
use Rattle.ild_edges.specs.Store.{Moment}
use Rattle.ild_edges.specs.Told.{IfTold}
use Rattle.ild_hamt_trie.specs.Way.{way}
use Rattle.ild_node_slots.specs.declared.fault.HamtFault.{HamtFault}

-- where the store tells its given ids, those of all nodes beneath the root on a key's way in the trie of these entries are among them
abbrev pub GivesWay : (List ℕ → List ℕ) → HamtShape → List ℕ → List (List ℕ × Data) → Result (List ℕ) HamtFault → Moment → Type 0
GivesWay h p k es result n = IfOk result (λ root. IfTold n.given (AreIdsGiven (way h p k (trie_levels p) 0 es)))
