-- What a walker has still to give (IPLD HashMap), and what a call of `next` gives.
use Rattle.std.specs.Prelude.{◌≡◌, ◌↔◌, ◌⊎◌, ℕ, ◌+◌, ◌-◌, ◌^◌, ◌<◌, List, [], ◌∷◌, length, Option, Some, None, Result, Ok, Err, IfErr}
use Rattle.ild_data.specs.Data.{Data}
use Rattle.ild_data.specs.Spell.{spell}
use Rattle.ild_data.specs.Trie.{TrieSlot}
use Rattle.ild_data.specs.declared.hamt_shape.HamtShape.{HamtShape}
use Rattle.ild_data.specs.TrieShape.{trie_levels}
use Rattle.ild_cbor.specs.declared.why.BlockWhy.TheVariants.{Shape as NoNode}
use Rattle.ild_cbor.specs.declared.why.Why.TheVariants.{Trie}
use Rattle.ild_edges.specs.Count.{Rose}
use Rattle.ild_edges.specs.Gained.{AreHeld, FromBlocks}
use Rattle.ild_edges.specs.Store.{Moment}
use Rattle.ild_node_slots.specs.declared.fault.HamtFault.{HamtFault}
use Rattle.ild_node_slots.specs.declared.fault.HamtFault.TheVariants.{Block, Store, Memory}
use Rattle.ild_bulk_walker.specs.Fetching.{IsRefused, OnlyGets}
use Rattle.ild_bulk_walker.specs.Gives.{RootGives}
use Rattle.ild_bulk_walker.specs.Standing.{IsOn, KeepsOn, RowStands}
use Rattle.ild_bulk_walker.specs.Steps.{steps_todo, path_of}
use Rattle.ild_bulk_walker.specs.Reads.{NodesBeneath, LeftNodes, Spends, HasRead, fails_of}
use Rattle.ild_bulk_walker.specs.Todo.{Todo, StillGives}
use Rattle.ild_bulk_walker.specs.declared.row.Row.{Row}
use Rattle.ild_bulk_walker.specs.declared.walker.Walker.{Walker}

abbrev pub walker_todo : Walker → List Todo
walker_todo w = steps_todo w.steps.items

abbrev pub walker_path : Walker → List ℕ
walker_path w = path_of w.path.items

abbrev pub walker_shape : Walker → HamtShape
walker_shape w = w.shape

-- these entries are what the walker has still to give, where the store holds these blocks
pub record StillAhead (h : List ℕ → List ℕ) (p : HamtShape) (held : List (List ℕ)) (w : Walker) (es : List (List ℕ × Data)) : Type 0 where
  pub gives : StillGives h p held (walker_todo w) (walker_path w) w.given es

-- the same, of a walker whose path is one of a trie's levels
pub record Ahead (h : List ℕ → List ℕ) (p : HamtShape) (held : List (List ℕ)) (w : Walker) (es : List (List ℕ × Data)) : Type 0 where
  pub short : length (walker_path w) < trie_levels p
  pub still : StillAhead h p held w es

-- exactly what the tree beneath a root of these slots gives is ahead
abbrev pub IsNew : HamtShape → List TrieSlot → Walker → Type 0
IsNew p slots w = (h : List ℕ → List ℕ) (held : List (List ℕ)) (es : List (List ℕ × Data)) → Ahead h p held w es ↔ RootGives h p held (trie_levels p - 1) slots es

-- the walker stands before all steps of the root, which is in the block `at`
abbrev pub IsNewOn : HamtShape → List TrieSlot → List ℕ → Walker → Type 0
IsNewOn p slots at w = (told : Option (List (List ℕ))) → IsOn p told slots at w

-- of a told store, all blocks beneath the root are to be read
abbrev pub IsNewLeft : HamtShape → List TrieSlot → Walker → Type 0
IsNewLeft p slots w = (held : List (List ℕ)) (n : ℕ) → NodesBeneath p held slots n → LeftNodes p held w n

-- ---- one call of next

-- why a block is refused: it isn't there, it isn't a node, or the nodes aren't a trie
abbrev pub IsCause : HamtShape → Moment → HamtFault → Moment → Type 0
IsCause p m (Block id why) n = IsRefused p m id.0 why n ⊎ (why ≡ NoNode Trie)
IsCause p m e n = ⊥

-- one more is given, and the count doesn't wrap; or no more
abbrev pub Counts : Walker → Result (Option Row) HamtFault → Walker → Type 0
Counts v (Ok (Some row)) w = (w.given ≡ v.given + 1) × (w.given < 2 ^ 64)
Counts v (Ok None) w = w.given ≡ v.given
Counts v (Err e) w = w.given ≡ v.given

-- the same entries are ahead, where the store tells what it holds
abbrev pub KeepsAhead : (List ℕ → List ℕ) → HamtShape → Moment → Walker → Walker → Type 0
KeepsAhead h p m v w = (held : List (List ℕ)) (es : List (List ℕ × Data)) → m.blocks ≡ Some held → Ahead h p held v es ↔ Ahead h p held w es

-- the same, wherever these blocks are held
abbrev pub KeepsWhere : (List ℕ → List ℕ) → HamtShape → List (List ℕ) → Walker → Walker → Type 0
KeepsWhere h p blocks v w = (held : List (List ℕ)) (es : List (List ℕ × Data)) → AreHeld blocks held → Ahead h p held v es ↔ Ahead h p held w es

-- the entries begin with this pair, and the others are ahead
pub record BeginsWith (h : List ℕ → List ℕ) (p : HamtShape) (held : List (List ℕ)) (key : List ℕ) (value : Data) (w : Walker) (es : List (List ℕ × Data)) : Type 0 where
  pub rest : List (List ℕ × Data)
  pub is : es ≡ (key, value) ∷ rest
  pub ahead : Ahead h p held w rest

-- what was ahead were exactly the entries that begin with the row's pair and of whose rest it is ahead now, as follows from blocks that
-- gets gave
pub record GivesRow (h : List ℕ → List ℕ) (p : HamtShape) (v : Walker) (row : Row) (w : Walker) (n : Moment) : Type 0 where
  pub value : Data
  pub spelled : row.value ≡ spell value
  pub ahead : FromBlocks n (λ held. (es : List (List ℕ × Data)) → Ahead h p held v es ↔ BeginsWith h p held row.key value w es)

-- a row is given where what was ahead begins with it, and nothing where nothing was ahead; a block is refused only where no entries were
abbrev pub NextAnswer : (List ℕ → List ℕ) → HamtShape → Moment → Walker → Result (Option Row) HamtFault → Walker → Moment → Type 0
NextAnswer h p m v (Ok (Some row)) w n = GivesRow h p v row w n
NextAnswer h p m v (Ok None) w n = FromBlocks n (λ held. (es : List (List ℕ × Data)) → Ahead h p held v es ↔ (es ≡ []))
NextAnswer h p m v (Err Store) w n = Rose m.faults n.faults × KeepsAhead h p m v w
NextAnswer h p m v (Err Memory) w n = KeepsAhead h p m v w
NextAnswer h p m v (Err e) w n = IsCause p m e n × ((held : List (List ℕ)) (es : List (List ℕ × Data)) → m.blocks ≡ Some held → Ahead h p held v es → ⊥) × KeepsAhead h p m v w

pub record Nexts (h : List ℕ → List ℕ) (p : HamtShape) (m : Moment) (v : Walker) (result : Result (Option Row) HamtFault) (w : Walker) (n : Moment) : Type 0 where
  pub answer : NextAnswer h p m v result w n
  pub counts : Counts v result w
  pub only : OnlyGets (trie_levels p) m n
  pub on : KeepsOn p h m.blocks m.lacks n.lacks v result w
  pub row : RowStands p m.blocks v result
  pub reads : (held : List (List ℕ)) → m.blocks ≡ Some held → Spends p held m.gets n.gets v result w
  pub read : HasRead p (λ blocks. IfErr result (λ e. KeepsWhere h p blocks v w)) (fails_of result) m v w n
