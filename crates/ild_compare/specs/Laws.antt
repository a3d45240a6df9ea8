-- The law of two values with one root.
use Rattle.std.specs.Prelude.{◌≡◌, ◌≢◌, ℕ, List, Option, Some, Contains}
use Rattle.ild_data.specs.Bytes.{AreBytes}
use Rattle.ild_edges.specs.Collide.{Collide}
use Rattle.ild_schema.specs.declared.number.TypeNo.{TypeNo}
use Rattle.ild_schema.specs.declared.row.Row.{Row}
use Rattle.ild_schema.specs.Value.{Value}
use Rattle.ild_typed.specs.Schema.{IsSchema}
use Rattle.ild_typed.specs.Stands.{Stands, bare, blocks_of}

-- a block of the one and a block of the other collide
pub record HaveCollision (left right : List (List ℕ)) : Type 0 where
  pub first : List ℕ
  pub second : List ℕ
  pub of_left : Contains left first
  pub of_right : Contains right second
  pub collide : Collide first second

-- what a store answers for ids are bytes
abbrev pub AnswersBytes : (List ℕ → Option (List ℕ)) → Type 0
AnswersBytes block = (id b : List ℕ) → block id ≡ Some b → AreBytes b

-- so it is of the blocks of two values that stand under one id, each in its store
abbrev pub PartedValuesCollide : Type 0
PartedValuesCollide =
    (h : List ℕ → List ℕ) (rows : List Row) → IsSchema rows → (ty : TypeNo) (id : List ℕ) (left right : List ℕ → Option (List ℕ)) → AnswersBytes left → AnswersBytes right
    → (v w : Value) (x : Stands bare left h rows ty id v) (y : Stands bare right h rows ty id w) → v ≢ w
    → HaveCollision (blocks_of bare h rows ty v x.tree) (blocks_of bare h rows ty w y.tree)
