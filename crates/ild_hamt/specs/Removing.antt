-- What removing a key gives and leaves.
use Rattle.std.specs.Prelude.{◌≡◌, ℕ, List, IsSome, Option, Some, None, Result, Ok, Err}
use Rattle.std.specs.declared.alloc.AllocError.{AllocError}
use Rattle.std.specs.FinMap.{find}
use Rattle.ild_data.specs.Data.{Data}
use Rattle.ild_data.specs.declared.hamt_shape.HamtShape.{HamtShape}
use Rattle.ild_data.specs.ByteOrder.{bytewise, without}
use Rattle.ild_edges.specs.Store.{Moment}
use Rattle.ild_node_slots.specs.declared.fault.HamtFault.{HamtFault}
use Rattle.ild_node_slots.specs.declared.fault.HamtFault.TheVariants.{NoKey}
use Rattle.ild_hamt_climb.specs.Rewriting.{Rewrites}

-- the key isn't there, and nothing is done; or the root of the trie without it, and the nodes on its way put, or why not
abbrev pub Removes : (List ℕ → List ℕ) → HamtShape → List ℕ → List (List ℕ × Data) → Moment → Result (List ℕ) HamtFault → Moment → Type 0
Removes h p k es m (Err NoKey) n = (find bytewise k es ≡ None) × (n ≡ m)
Removes h p k es m result n = IsSome (find bytewise k es) × Rewrites h p k (without k es) m result n

-- the entries without the key's, or that it isn't there, or want of memory where it is
abbrev pub RestIs : List ℕ → List (List ℕ × Data) → Result (Option (List (List ℕ × Data))) AllocError → Type 0
RestIs k es (Ok None) = find bytewise k es ≡ None
RestIs k es (Ok (Some rows)) = IsSome (find bytewise k es) × (rows ≡ without k es)
RestIs k es (Err e) = IsSome (find bytewise k es)
