-- What a walk over a whole HAMT answers: its entries, how many they are, or why its blocks give none.
use Rattle.std.specs.Prelude.{◌≡◌, ◌↔◌, ℕ, ◌+◌, ◌-◌, ◌≤◌, List, ◌++◌, length, map, Some, Result, Ok, Err, IfOk, IfErr}
use Rattle.std.specs.Global.{Vec}
use Rattle.std.specs.List.{All}
use Rattle.std.specs.List.Sorted.{IsPermutation, IsSortedBy}
use Rattle.ild_data.specs.declared.hamt_shape.HamtShape.{HamtShape}
use Rattle.ild_data.specs.Data.{Data}
use Rattle.ild_data.specs.Key.{key_less, Rises}
use Rattle.ild_data.specs.Spell.{spell}
use Rattle.ild_data.specs.Trie.{TrieSlot}
use Rattle.ild_data.specs.TrieShape.{trie_levels}
use Rattle.ild_edges.specs.Gained.{FromBlocks}
use Rattle.ild_edges.specs.Count.{Rose}
use Rattle.ild_edges.specs.Store.{Moment, Later}
use Rattle.ild_node_slots.specs.declared.fault.HamtFault.{HamtFault}
use Rattle.ild_node_slots.specs.declared.fault.HamtFault.TheVariants.{Store, Memory}
use Rattle.ild_bulk_walker.specs.Ahead.{Ahead, IsCause}
use Rattle.ild_bulk_walker.specs.Gives.{RootGives}
use Rattle.ild_bulk_walker.specs.Reads.{NodesBeneath, Spent}
use Rattle.ild_bulk_walker.specs.Standing.{IsOn, IsBroken, StandsThere}
use Rattle.ild_bulk_walker.specs.declared.row.Row.{Row}
use Rattle.ild_bulk_walker.specs.declared.walker.Walker.{Walker}

-- a store is left as it was, but for gets: where it tells what it holds, at most one for each block of a node beneath the root
pub record ReadsTree (p : HamtShape) (slots : List TrieSlot) (m n : Moment) : Type 0 where
  pub later : Later m n
  pub blocks : n.blocks ≡ m.blocks
  pub given : n.given ≡ m.given
  pub puts : n.puts ≡ m.puts
  pub gets : (held : List (List ℕ)) (many : ℕ) → m.blocks ≡ Some held → NodesBeneath p held slots many → n.gets ≤ m.gets + many

-- the blocks give no entries
abbrev pub GivesNone : (List ℕ → List ℕ) → HamtShape → List TrieSlot → Moment → Type 0
GivesNone h p slots m = (held : List (List ℕ)) (es : List (List ℕ × Data)) → m.blocks ≡ Some held → RootGives h p held (trie_levels p - 1) slots es → ⊥

-- why a walk doesn't come to its end
abbrev pub StopsWith : (List ℕ → List ℕ) → HamtShape → List TrieSlot → Moment → HamtFault → Moment → Type 0
StopsWith h p slots m Store n = Rose m.faults n.faults
StopsWith h p slots m Memory n = Unit {0}
StopsWith h p slots m e n = IsCause p m e n × GivesNone h p slots m

-- ---- counting

-- the tree gives so many entries
pub record GivesMany (h : List ℕ → List ℕ) (p : HamtShape) (held : List (List ℕ)) (slots : List TrieSlot) (count : ℕ) : Type 0 where
  pub entries : List (List ℕ × Data)
  pub many : length entries ≡ count
  pub gives : RootGives h p held (trie_levels p - 1) slots entries

abbrev pub CheckAnswer : (List ℕ → List ℕ) → HamtShape → List TrieSlot → Moment → Result ℕ HamtFault → Moment → Type 0
CheckAnswer h p slots m (Ok count) n = FromBlocks n (λ held. GivesMany h p held slots count)
CheckAnswer h p slots m (Err e) n = StopsWith h p slots m e n

-- a HAMT beneath a root of these slots, which stands in the block `at`, was checked
pub record Checks (h : List ℕ → List ℕ) (p : HamtShape) (slots : List TrieSlot) (at : List ℕ) (m : Moment) (result : Result ℕ HamtFault) (n : Moment) : Type 0 where
  pub answer : CheckAnswer h p slots m result n
  pub broken : IfErr result (IsBroken h p m.blocks slots at m.lacks n.lacks)
  pub reads : ReadsTree p slots m n

-- ---- listing

abbrev pub row_pair : Row → List ℕ × List ℕ
row_pair row = (row.key, row.value)

abbrev pub spelled_pair : List ℕ × Data → List ℕ × List ℕ
spelled_pair e = (e.0, spell e.1)

-- the rows are the entries that the tree gives, with their values spelled, in another order: their keys rise, so that none stands twice
pub record GivesRows (h : List ℕ → List ℕ) (p : HamtShape) (held : List (List ℕ)) (slots : List TrieSlot) (rows : List Row) : Type 0 where
  pub entries : List (List ℕ × Data)
  pub gives : RootGives h p held (trie_levels p - 1) slots entries
  pub same : IsPermutation (map spelled_pair entries) (map row_pair rows)
  pub rise : Rises (map row_pair rows)

-- no row stands before one with a lesser key
abbrev pub InKeyOrder : List Row → Type 0
InKeyOrder rows = IsSortedBy (λ a b. key_less a.key b.key) rows

abbrev pub WalkAnswer : (List ℕ → List ℕ) → HamtShape → List TrieSlot → Moment → Result (Vec Row) HamtFault → Moment → Type 0
WalkAnswer h p slots m (Ok rows) n = FromBlocks n (λ held. GivesRows h p held slots rows.items)
WalkAnswer h p slots m (Err e) n = StopsWith h p slots m e n

-- the rows of a HAMT beneath a root of these slots, which stands in the block `at`, were listed
pub record Walks (h : List ℕ → List ℕ) (p : HamtShape) (slots : List TrieSlot) (at : List ℕ) (m : Moment) (result : Result (Vec Row) HamtFault) (n : Moment) : Type 0 where
  pub answer : WalkAnswer h p slots m result n
  pub order : IfOk result (λ rows. InKeyOrder rows.items)
  pub stand : IfOk result (λ rows. All (StandsThere p m.blocks slots at) rows.items)
  pub broken : IfErr result (IsBroken h p m.blocks slots at m.lacks n.lacks)
  pub reads : ReadsTree p slots m n

-- ---- halfway

-- the entries are these, and behind them what is ahead
pub record Behind (h : List ℕ → List ℕ) (p : HamtShape) (held : List (List ℕ)) (done : List (List ℕ × Data)) (w : Walker) (es : List (List ℕ × Data)) : Type 0 where
  pub rest : List (List ℕ × Data)
  pub is : es ≡ done ++ rest
  pub ahead : Ahead h p held w rest

-- so far these entries were given, and with what is ahead they are what the tree gives
pub record Walked (h : List ℕ → List ℕ) (p : HamtShape) (held : List (List ℕ)) (slots : List TrieSlot) (AreDone : List (List ℕ × Data) → Type 0) (w : Walker) : Type 0 where
  pub done : List (List ℕ × Data)
  pub are : AreDone done
  pub many : length done ≡ w.given
  pub ahead : (es : List (List ℕ × Data)) → RootGives h p held (trie_levels p - 1) slots es ↔ Behind h p held done w es

pub record HasWalked (h : List ℕ → List ℕ) (p : HamtShape) (slots : List TrieSlot) (at : List ℕ) (AreDone : List (List ℕ × Data) → Type 0) (m : Moment) (w : Walker) (n : Moment) : Type 0 where
  pub walked : FromBlocks n (λ held. Walked h p held slots AreDone w)
  pub on : IsOn p m.blocks slots at w
  pub spent : (held : List (List ℕ)) (many : ℕ) → m.blocks ≡ Some held → NodesBeneath p held slots many → Spent p held m.gets n.gets many w
  pub later : Later m n
  pub blocks : n.blocks ≡ m.blocks
  pub given : n.given ≡ m.given
  pub puts : n.puts ≡ m.puts

-- the rows so far are the entries that were given, and each stands in its block
pub record HasListed (h : List ℕ → List ℕ) (p : HamtShape) (slots : List TrieSlot) (at : List ℕ) (rows : List Row) (m : Moment) (w : Walker) (n : Moment) : Type 0 where
  pub walk : HasWalked h p slots at (λ done. map spelled_pair done ≡ map row_pair rows) m w n
  pub stand : All (StandsThere p m.blocks slots at) rows
