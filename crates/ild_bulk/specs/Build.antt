-- What building a HAMT from its entries gives and leaves.
use Rattle.std.specs.Prelude.{◌≡◌, ◌⊎◌, ℕ, nat_lt, Bool, true, false, ◌||◌, List, [], ◌∷◌, length, Some, None, Result, Ok, Err}
use Rattle.ild_data.specs.Data.{Data}
use Rattle.ild_data.specs.Limits.{longest_block}
use Rattle.ild_data.specs.Spell.{spell}
use Rattle.ild_edges.specs.Store.{Moment}
use Rattle.ild_data.specs.declared.hamt_shape.HamtShape.{HamtShape}
use Rattle.ild_data.specs.TrieShape.{trie_levels}
use Rattle.ild_data.specs.Trie.{trie}
use Rattle.ild_bulk.specs.Planned.{planned}
use Rattle.ild_bulk.specs.Putting.{PutsAll}
use Rattle.ild_node_slots.specs.declared.fault.HamtFault.{HamtFault}
use Rattle.ild_node_slots.specs.declared.fault.HamtFault.TheVariants.{Exhausted, Size, Memory}

abbrev pub is_long : List ℕ → Bool
is_long b = nat_lt longest_block (length b)

abbrev pub any_long : List (List ℕ) → Bool
any_long [] = false
any_long (b ∷ bs) = is_long b || any_long bs

-- the blocks beneath the root of the trie of entries, each behind those beneath it
abbrev pub plan_of : (List ℕ → List ℕ) → HamtShape → List (List ℕ × Data) → List (List ℕ)
plan_of h p es = planned h p (trie_levels p) 0 es

-- these entries have a trie, of this root node
pub record HasTrie (h : List ℕ → List ℕ) (p : HamtShape) (es : List (List ℕ × Data)) (root : List ℕ) : Type 0 where
  pub node : Data
  pub is : trie h p es 0 ≡ Some node
  pub spelled : root ≡ spell node

-- they have one whose blocks are short enough
pub record HasShortTrie (h : List ℕ → List ℕ) (p : HamtShape) (es : List (List ℕ × Data)) (root : List ℕ) : Type 0 where
  pub trie : HasTrie h p es root
  pub short : any_long (root ∷ plan_of h p es) ≡ false

-- the trie is there, and a put of its blocks ended so
pub record Stops (h : List ℕ → List ℕ) (p : HamtShape) (es : List (List ℕ × Data)) (m : Moment) (e : HamtFault) (n : Moment) : Type 0 where
  pub root : List ℕ
  pub has : HasShortTrie h p es root
  pub puts : PutsAll m (plan_of h p es) (Err e) n

-- a block of the trie is too long
pub record HasLongTrie (h : List ℕ → List ℕ) (p : HamtShape) (es : List (List ℕ × Data)) : Type 0 where
  pub root : List ℕ
  pub trie : HasTrie h p es root
  pub long : any_long (root ∷ plan_of h p es) ≡ true

-- the root of the trie, and its other blocks put; or why not
abbrev pub Builds : (List ℕ → List ℕ) → HamtShape → List (List ℕ × Data) → Moment → Result (List ℕ) HamtFault → Moment → Type 0
Builds h p es m (Ok root) n = HasShortTrie h p es root × PutsAll m (plan_of h p es) (Ok tt) n
Builds h p es m (Err Exhausted) n = (trie h p es 0 ≡ None) × (n ≡ m)
Builds h p es m (Err Size) n = HasLongTrie h p es × (n ≡ m)
Builds h p es m (Err Memory) n = (n ≡ m) ⊎ Stops h p es m Memory n
Builds h p es m (Err e) n = Stops h p es m e n
