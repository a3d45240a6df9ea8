-- Any number of calls of a walker's next, one after another.
use Rattle.std.specs.Prelude.{◌≡◌, ℕ, ◌+◌, ◌≤◌, List, [], ◌∷◌, Option, Some, Result}
use Rattle.ild_data.specs.declared.hamt_shape.HamtShape.{HamtShape}
use Rattle.ild_data.specs.Trie.{TrieSlot}
use Rattle.ild_edges.specs.Store.{Moment}
use Rattle.ild_node_slots.specs.declared.fault.HamtFault.{HamtFault}
use Rattle.ild_bulk_walker.specs.Ahead.{IsNewLeft, Nexts}
use Rattle.ild_bulk_walker.specs.Reads.{NodesBeneath, HasRead, fails_of}
use Rattle.ild_bulk_walker.specs.declared.row.Row.{Row}
use Rattle.ild_bulk_walker.specs.declared.walker.Walker.{Walker}

-- calls with these answers lead from one walker to another
abbrev pub Calls : (List ℕ → List ℕ) → HamtShape → List (Result (Option Row) HamtFault) → Moment → Walker → Walker → Moment → Type 0
Calls h p [] m v w n = (w ≡ v) × (n ≡ m)
Calls h p (r ∷ rs) m v w n = (u : Walker) × (k : Moment) × Nexts h p m v r u k × Calls h p rs k u w n

-- so many of them failed
abbrev pub fails_in : List (Result (Option Row) HamtFault) → ℕ
fails_in [] = 0
fails_in (r ∷ rs) = fails_of r + fails_in rs

-- over every store a walk gets as many blocks as it enters nodes, and at most one more for each call that fails
abbrev pub GetsWhatItEnters : Type 0
GetsWhatItEnters = (h : List ℕ → List ℕ) (p : HamtShape) (rs : List (Result (Option Row) HamtFault)) (m n : Moment) (v w : Walker)
    → Calls h p rs m v w n → HasRead p (λ blocks. Unit {0}) (fails_in rs) m v w n

-- where a store tells what it holds, these are no more than the nodes beneath the root
abbrev pub GetsInAll : Type 0
GetsInAll = (h : List ℕ → List ℕ) (p : HamtShape) (rs : List (Result (Option Row) HamtFault)) (m n : Moment) (v w : Walker) (slots : List TrieSlot) (held : List (List ℕ)) (many : ℕ)
    → IsNewLeft p slots v → Calls h p rs m v w n → m.blocks ≡ Some held → NodesBeneath p held slots many → n.gets ≤ m.gets + (many + fails_in rs)
