-- Where a walk stands on the tree beneath a root, and what its calls say of the tree.
use Rattle.std.specs.Prelude.{◌≡◌, ℕ, suc, ◌+◌, ◌-◌, ◌<◌, List, [], ◌∷◌, ◌++◌, length, map, reverse, slice_get, Option, Some, None, Result, Ok, Err, IfErr}
use Rattle.ild_data.specs.declared.hamt_shape.HamtShape.{HamtShape}
use Rattle.ild_data.specs.Data.{Data}
use Rattle.ild_data.specs.Spell.{spell}
use Rattle.ild_data.specs.Trie.{TrieSlot, bucket}
use Rattle.ild_data.specs.TrieShape.{trie_levels}
use Rattle.ild_cbor.specs.declared.why.BlockWhy.{BlockWhy}
use Rattle.ild_node_slots.specs.declared.fault.HamtFault.{HamtFault}
use Rattle.ild_node_slots.specs.declared.fault.HamtFault.TheVariants.{Block}
use Rattle.ild_bulk_walker.specs.OnTree.{IsNodeAt, HasNode, IsOnTree, TreeMany, IsWrong}
use Rattle.ild_bulk_walker.specs.Steps.{steps_todo}
use Rattle.ild_bulk_walker.specs.Todo.{Todo, give, enter, leave, node_todo}
use Rattle.ild_bulk_walker.specs.declared.row.Row.{Row}
use Rattle.ild_bulk_walker.specs.declared.step.Child.{Child}
use Rattle.ild_bulk_walker.specs.declared.walker.Walker.{Walker}

-- the ids and the indices of the nodes on the way, the last one first
abbrev pub way_of : List Child → List (List ℕ × ℕ)
way_of path = reverse (map (λ c. (c.id.0, c.index)) path)

abbrev pub indices_of : List (List ℕ × ℕ) → List ℕ
indices_of way = map (λ c. c.1) way

-- the id of the node in which the walk is
abbrev pub last_of : List ℕ → List (List ℕ × ℕ) → List ℕ
last_of at [] = at
last_of at (c ∷ way) = c.0

-- so many entries stand in what was done of a node
abbrev pub DoneMany : HamtShape → Option (List (List ℕ)) → ℕ → List Todo → ℕ → Type 0
DoneMany p told left [] n = n ≡ 0
DoneMany p told left (give k v i ∷ done) n = (more : ℕ) × (n ≡ 1 + more) × DoneMany p told left done more
DoneMany p told left (enter id i ∷ done) n = (here : ℕ) × (more : ℕ) × (n ≡ here + more) × TreeMany p told left id here × DoneMany p told left done more
DoneMany p told left (leave before ∷ done) n = ⊥

-- of the root's steps those are left that are still to be done
pub record StandsAtRoot (p : HamtShape) (told : Option (List (List ℕ))) (root : List TrieSlot) (todo : List Todo) (given : ℕ) : Type 0 where
  pub done : List Todo
  pub steps : node_todo 0 root ≡ done ++ todo
  pub gave : DoneMany p told (trie_levels p - 1) done given

-- the walk is in a child, and beneath it stands before entering it
pub record StandsIn (p : HamtShape) (told : Option (List (List ℕ))) (left : ℕ) (id : List ℕ) (index : ℕ) (beneath : List Todo → ℕ → Type 0) (todo : List Todo) (given : ℕ) : Type 0 where
  pub slots : List TrieSlot
  pub node : IsNodeAt p told id slots
  pub done : List Todo
  pub rest : List Todo
  pub above : List Todo
  pub before : ℕ
  pub many : ℕ
  pub is : todo ≡ rest ++ leave before ∷ above
  pub steps : node_todo 0 slots ≡ done ++ rest
  pub gave : DoneMany p told left done many
  pub count : given ≡ before + many
  pub still : beneath (enter id index ∷ above) before

abbrev pub WalkStands : HamtShape → Option (List (List ℕ)) → List TrieSlot → List (List ℕ × ℕ) → List Todo → ℕ → Type 0
WalkStands p told root [] todo given = StandsAtRoot p told root todo given
WalkStands p told root (c ∷ way) todo given = StandsIn p told (trie_levels p - suc (length (c ∷ way))) c.0 c.1 (WalkStands p told root way) todo given

-- the walker stands on the tree beneath a root of these slots, which is in the block `at`
pub record IsOn (p : HamtShape) (told : Option (List (List ℕ))) (root : List TrieSlot) (at : List ℕ) (w : Walker) : Type 0 where
  pub here : w.at.0 ≡ at
  pub short : length w.path.items < trie_levels p
  pub stands : WalkStands p told root (way_of w.path.items) (steps_todo w.steps.items) w.given

-- ---- what is said of a refused block

pub record IsWrongOnTree (h : List ℕ → List ℕ) (p : HamtShape) (told : Option (List (List ℕ))) (root : List TrieSlot) (at : List ℕ) (before now : ℕ) (id : List ℕ) (why : BlockWhy) : Type 0 where
  pub up : List ℕ
  pub on : IsOnTree p told root at up id
  pub wrong : IsWrong h p told root before now up id why

-- the block is on the tree, and its cause holds; `before` and `now` count how often a block lacked
abbrev pub IsBroken : (List ℕ → List ℕ) → HamtShape → Option (List (List ℕ)) → List TrieSlot → List ℕ → ℕ → ℕ → HamtFault → Type 0
IsBroken h p told root at before now (Block id why) = IsWrongOnTree h p told root at before now id.0 why
IsBroken h p told root at before now e = Unit {0}

-- the walker stays on its tree, and a refused block is one of it
abbrev pub KeepsOn : {A : Type 0} → (p : HamtShape) → (List ℕ → List ℕ) → Option (List (List ℕ)) → ℕ → ℕ → Walker → Result A HamtFault → Walker → Type 0
KeepsOn p h told before now v result w =
    (root : List TrieSlot) (at : List ℕ) → IsOn p told root at v → IsOn p told root at w × IfErr result (IsBroken h p told root at before now)

-- ---- where a row stands

-- its entry is in a bucket of the node in its block, which is on the tree
pub record StandsThere (p : HamtShape) (told : Option (List (List ℕ))) (root : List TrieSlot) (at : List ℕ) (row : Row) : Type 0 where
  pub up : List ℕ
  pub on : IsOnTree p told root at up row.block.0
  pub slots : List TrieSlot
  pub node : HasNode p told root up row.block.0 slots
  pub index : ℕ
  pub entries : List (List ℕ × Data)
  pub stands : slice_get slots index ≡ Some (bucket entries)
  pub place : ℕ
  pub value : Data
  pub is : slice_get entries place ≡ Some (row.key, value)
  pub spelled : row.value ≡ spell value

abbrev pub RowStands : HamtShape → Option (List (List ℕ)) → Walker → Result (Option Row) HamtFault → Type 0
RowStands p told v (Ok (Some row)) = (root : List TrieSlot) (at : List ℕ) → IsOn p told root at v → StandsThere p told root at row
RowStands p told v (Ok None) = Unit {0}
RowStands p told v (Err e) = Unit {0}
