-- One step of a walk of two trees: the blocks of a child in both stores.
use Rattle.std.specs.Prelude.{◌≡◌, ◌⊎◌, ℕ, List, Option, Some, None, Result, Ok, Err}
use Rattle.ild_beneath.specs.Children.{Child, children_of}
use Rattle.ild_cbor.specs.declared.why.BlockWhy.TheVariants.{Missing}
use Rattle.ild_data.specs.Spell.{id_of}
use Rattle.ild_edges.specs.Collide.{Collide}
use Rattle.ild_edges.specs.Count.{Rose}
use Rattle.ild_edges.specs.Store.{Moment}
use Rattle.ild_open_parts.specs.Reads.{OnlyReads}
use Rattle.ild_open_parts.specs.declared.fault.OpenFault.{OpenFault}
use Rattle.ild_open_parts.specs.declared.fault.OpenFault.TheVariants as F
use Rattle.ild_schema.specs.declared.number.TypeNo.{TypeNo}
use Rattle.ild_schema.specs.declared.row.Row.{Row}
use Rattle.ild_compare.specs.inside.Fetching.{Lacks}
use Rattle.ild_compare.specs.Reached.{IsUnder}
use Rattle.ild_compare.specs.inside.Spots.{Grows}

module _ (rows : List Row) (ty : TypeNo) (m n : Moment) (c : Child) (old : List Child) where
  -- both hold one block, whose children came to the places
  pub record HasOne (new : List Child) : Type 0 where
    pub block : List ℕ
    pub named : id_of block ≡ c.0
    pub left_under : IsUnder m.blocks block
    pub right_under : IsUnder n.blocks block
    pub grows : Grows (children_of rows ty c.1 block) old new

  -- they hold two that differ
  pub record HasTwo (a b : List ℕ) : Type 0 where
    pub collide : Collide a b
    pub named : id_of a ≡ c.0
    pub left_under : IsUnder m.blocks a
    pub right_under : IsUnder n.blocks b

  abbrev pub StepAnswer : Result (Option (List ℕ × List ℕ)) OpenFault → List Child → Moment → Moment → Type 0
  StepAnswer (Ok None) new l r = HasOne new
  StepAnswer (Ok (Some p)) new l r = HasTwo p.0 p.1
  StepAnswer (Err (F.Block id why)) new l r = (id.0 ≡ c.0) × (why ≡ Missing) × (Lacks m l c.0 ⊎ Lacks n r c.0)
  StepAnswer (Err F.Store) new l r = Rose m.faults l.faults ⊎ Rose n.faults r.faults
  StepAnswer (Err F.Memory) new l r = Unit {0}

  pub record Steps (result : Result (Option (List ℕ × List ℕ)) OpenFault) (new : List Child) (l r : Moment) : Type 0 where
    pub answer : StepAnswer result new l r
    pub left_only : OnlyReads m l
    pub right_only : OnlyReads n r
