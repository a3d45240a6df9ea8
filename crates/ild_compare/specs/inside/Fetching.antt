-- A block that is got under its id.
use Rattle.std.specs.Prelude.{◌≡◌, ◌⊎◌, ℕ, List, Some, None, Result, Ok, Err}
use Rattle.ild_cbor.specs.declared.why.BlockWhy.TheVariants.{Missing}
use Rattle.ild_data.specs.Spell.{id_of}
use Rattle.ild_edges.specs.Count.{Rose}
use Rattle.ild_edges.specs.Store.{Moment, block_at}
use Rattle.ild_edges.specs.Told.{IfTold}
use Rattle.ild_open_parts.specs.Reads.{OnlyReads}
use Rattle.ild_open_parts.specs.declared.fault.OpenFault.{OpenFault}
use Rattle.ild_open_parts.specs.declared.fault.OpenFault.TheVariants as F

abbrev pub FetchAnswer : List ℕ → Moment → Result (List ℕ) OpenFault → Moment → Type 0
FetchAnswer id m (Ok b) n = (id_of b ≡ id) × IfTold m.blocks (λ held. block_at held id ≡ Some b)
FetchAnswer id m (Err (F.Block at why)) n = (at.0 ≡ id) × (why ≡ Missing) × IfTold m.blocks (λ held. block_at held id ≡ None) × Rose m.lacks n.lacks
FetchAnswer id m (Err F.Store) n = Rose m.faults n.faults
FetchAnswer id m (Err F.Memory) n = Unit {0}

pub record Fetches (id : List ℕ) (m : Moment) (result : Result (List ℕ) OpenFault) (n : Moment) : Type 0 where
  pub answer : FetchAnswer id m result n
  pub only : OnlyReads m n

-- ---- in two stores

-- the block of an id lacks, and was counted
abbrev pub Lacks : Moment → Moment → List ℕ → Type 0
Lacks m n id = IfTold m.blocks (λ held. block_at held id ≡ None) × Rose m.lacks n.lacks

abbrev pub BothAnswer : List ℕ → Moment → Moment → Result (List ℕ × List ℕ) OpenFault → Moment → Moment → Type 0
BothAnswer id m n (Ok p) l r =
    (id_of p.0 ≡ id) × IfTold m.blocks (λ held. block_at held id ≡ Some p.0) × (id_of p.1 ≡ id) × IfTold n.blocks (λ held. block_at held id ≡ Some p.1)
BothAnswer id m n (Err (F.Block at why)) l r = (at.0 ≡ id) × (why ≡ Missing) × (Lacks m l id ⊎ Lacks n r id)
BothAnswer id m n (Err F.Store) l r = Rose m.faults l.faults ⊎ Rose n.faults r.faults
BothAnswer id m n (Err F.Memory) l r = Unit {0}

pub record FetchesBoth (id : List ℕ) (m n : Moment) (result : Result (List ℕ × List ℕ) OpenFault) (l r : Moment) : Type 0 where
  pub answer : BothAnswer id m n result l r
  pub left_only : OnlyReads m l
  pub right_only : OnlyReads n r
