-- The two new blocks, as they are written and put.
use Rattle.std.specs.Prelude.{◌≡◌, ◌⊎◌, ℕ, ◌+◌, ◌<◌, ◌≤◌, List, [], ◌∷◌, length, Some, Result, Ok, Err}
use Rattle.ild_data.specs.Data.{Data}
use Rattle.ild_data.specs.Limits.{longest_block}
use Rattle.ild_data.specs.Spell.{id_of}
use Rattle.ild_edges.specs.Among.{IsIn}
use Rattle.ild_edges.specs.Count.{Rose}
use Rattle.ild_edges.specs.Gained.{AddsOnly, Clashes, Holds}
use Rattle.ild_edges.specs.Store.{Moment, Later, block_at}
use Rattle.ild_edges.specs.Told.{BothTold}
use Rattle.ild_named.specs.Named.{schema_block}
use Rattle.ild_node_slots.specs.declared.fault.HamtFault.{HamtFault}
use Rattle.ild_node_slots.specs.declared.fault.HamtFault.TheVariants as H
use Rattle.ild_named_root.specs.Names.{root_block}
use Rattle.ild_named_root.specs.declared.fault.NameFault.{NameFault}
use Rattle.ild_named_root.specs.declared.fault.NameFault.TheVariants as F

-- ---- written

-- the schema's block and the root, both short enough
pub record AreMade (name source : List ℕ) (t : Data) (text root : List ℕ) : Type 0 where
  pub text_is : text ≡ schema_block source
  pub root_is : root ≡ root_block name source t
  pub text_short : length (schema_block source) ≤ longest_block
  pub root_short : length (root_block name source t) ≤ longest_block

abbrev pub MakesBlocks : List ℕ → List ℕ → Data → Result (List ℕ × List ℕ) NameFault → Type 0
MakesBlocks name source t (Ok x) = AreMade name source t x.0 x.1
MakesBlocks name source t (Err F.Size) = (longest_block < length (schema_block source)) ⊎ (longest_block < length (root_block name source t))
MakesBlocks name source t (Err F.Memory) = Unit {0}
MakesBlocks name source t (Err e) = ⊥

-- the causes for which they aren't made
abbrev pub IsMakingFault : NameFault → Type 0
IsMakingFault F.Size = Unit {0}
IsMakingFault F.Memory = Unit {0}
IsMakingFault e = ⊥

-- ---- put

abbrev pub IsPutFault : HamtFault → Type 0
IsPutFault H.Store = Unit {0}
IsPutFault (H.Clash id kept new) = Unit {0}
IsPutFault H.Memory = Unit {0}
IsPutFault e = ⊥

abbrev pub put_fault : HamtFault → NameFault
put_fault H.Store = F.Store
put_fault (H.Clash id kept new) = F.Clash id kept new
put_fault e = F.Memory

abbrev pub PutAnswer : Moment → List (List ℕ) → Result (Unit {0}) NameFault → Moment → Type 0
PutAnswer m bs (Ok u) n = Holds n bs
PutAnswer m bs (Err F.Store) n = Rose m.faults n.faults
PutAnswer m bs (Err (F.Clash id kept new)) n = IsIn new bs × Clashes n id.0 kept new
PutAnswer m bs (Err F.Memory) n = Unit {0}
PutAnswer m bs (Err e) n = ⊥

pub record PutsOne (m : Moment) (b : List ℕ) (result : Result (Unit {0}) NameFault) (n : Moment) : Type 0 where
  pub answer : PutAnswer m (b ∷ []) result n
  pub later : Later m n
  pub gets : n.gets ≡ m.gets
  pub puts : n.puts ≤ m.puts + 1
  pub adds : AddsOnly m n (b ∷ [])

-- the second came only behind the first
abbrev pub InTurn : List ℕ → List ℕ → List (List ℕ) → List (List ℕ) → Type 0
InTurn text root was now = block_at now (id_of root) ≡ Some root → (block_at was (id_of root) ≡ Some root) ⊎ (block_at now (id_of text) ≡ Some text)

pub record PutsBoth (m : Moment) (text root : List ℕ) (result : Result (Unit {0}) NameFault) (n : Moment) : Type 0 where
  pub answer : PutAnswer m (text ∷ root ∷ []) result n
  pub later : Later m n
  pub gets : n.gets ≡ m.gets
  pub puts : n.puts ≤ m.puts + 2
  pub adds : AddsOnly m n (text ∷ root ∷ [])
  pub order : BothTold m.blocks n.blocks (InTurn text root)
