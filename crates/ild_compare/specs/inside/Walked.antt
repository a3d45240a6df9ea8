-- What a walk of two trees in step tells.
use Rattle.std.specs.Prelude.{◌≡◌, ◌⊎◌, ℕ, List, Option, Some, None, Result, Ok, Err}
use Rattle.ild_cbor.specs.declared.why.BlockWhy.TheVariants.{Missing}
use Rattle.ild_data.specs.Spell.{id_of}
use Rattle.ild_edges.specs.Collide.{Collide}
use Rattle.ild_edges.specs.Count.{Rose}
use Rattle.ild_edges.specs.Store.{Moment}
use Rattle.ild_open_parts.specs.Reads.{OnlyReads}
use Rattle.ild_open_parts.specs.declared.fault.OpenFault.{OpenFault}
use Rattle.ild_open_parts.specs.declared.fault.OpenFault.TheVariants as F
use Rattle.ild_schema.specs.declared.number.TypeNo.{TypeNo}
use Rattle.ild_schema.specs.declared.row.Row.{Row}
use Rattle.ild_compare.specs.Reached.{AreAlike, IsBeneath, IsLacking, IsUnder}

module _ (rows : List Row) (ty : TypeNo) (root : List ℕ) (left right : Moment) where
  -- the stores part at an id: each holds other bytes under it
  pub record Parts (a b : List ℕ) : Type 0 where
    pub collide : Collide a b
    pub left_under : IsUnder left.blocks a
    pub right_under : IsUnder right.blocks b
    pub left_beneath : IsBeneath rows ty root left.blocks (id_of a)
    pub right_beneath : IsBeneath rows ty root right.blocks (id_of b)

  abbrev pub WalkAnswer : Result (Option (List ℕ × List ℕ)) OpenFault → Moment → Moment → Type 0
  WalkAnswer (Ok None) l r = AreAlike rows ty root left.blocks right.blocks
  WalkAnswer (Ok (Some p)) l r = Parts p.0 p.1
  WalkAnswer (Err (F.Block id why)) l r = (why ≡ Missing) × (IsLacking rows ty root left l id.0 ⊎ IsLacking rows ty root right r id.0)
  WalkAnswer (Err F.Store) l r = Rose left.faults l.faults ⊎ Rose right.faults r.faults
  WalkAnswer (Err F.Memory) l r = Unit {0}

  pub record Walks (result : Result (Option (List ℕ × List ℕ)) OpenFault) (l r : Moment) : Type 0 where
    pub answer : WalkAnswer result l r
    pub left_only : OnlyReads left l
    pub right_only : OnlyReads right r
