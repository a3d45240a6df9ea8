-- The laws of what proofs say.
use Rattle.std.specs.Prelude.{◌≡◌, ◌⊎◌, ℕ, List, Some, Contains}
use Rattle.ild_data.specs.Data.{Data}
use Rattle.ild_edges.specs.Collide.{Collide}
use Rattle.ild_edges.specs.Store.{block_at}
use Rattle.ild_schema.specs.declared.number.TypeNo.{TypeNo}
use Rattle.ild_schema.specs.declared.row.Row.{Row}
use Rattle.ild_schema.specs.Slots.{plainly}
use Rattle.ild_schema.specs.Value.{Value}
use Rattle.ild_typed.specs.Hamt.{whole}
use Rattle.ild_typed.specs.Represented.{represented}
use Rattle.ild_typed.specs.Schema.{IsSchema}
use Rattle.ild_typed.specs.Stands.{Stands, bare, blocks_of, root_id}
use Rattle.ild_typed.specs.Typed.{Typed}
use Rattle.ild_inclusion.specs.Says.{BlocksSay}
use Rattle.ild_inclusion.specs.declared.answer.Answer.{Answer}
use Rattle.ild_inclusion_held.specs.Answered.{answered}

-- one of the first and one of the second are two byte strings with one id
pub record TwoCollide (firsts seconds : List (List ℕ)) : Type 0 where
  pub one : List ℕ
  pub two : List ℕ
  pub first : Contains firsts one
  pub second : Contains seconds two
  pub collide : Collide one two

-- what blocks say of a path, each value of the type answers whose root block has the id, wherever its blocks are, or nowhere; or one of the
-- blocks and one of the value's own collide
abbrev pub ValuesAnswer : Type 0
ValuesAnswer =
    (h : List ℕ → List ℕ) (rows : List Row) → IsSchema rows → (n : TypeNo) (path blocks : List (List ℕ)) (a : Answer) (v : Value) (d : Data) → Typed rows (plainly n) v
    → represented (whole h) rows (plainly n) v ≡ Some d → BlocksSay h rows n (root_id bare d) path blocks a
    → (answered h rows 0 (plainly n, v) path ≡ Some a) ⊎ TwoCollide blocks (blocks_of bare h rows n v d)

-- what blocks say of a path, each value that stands under the root answers, whatever store holds it, or two blocks collide
abbrev pub ProofsHold : Type 0
ProofsHold =
    (h : List ℕ → List ℕ) (rows : List Row) → IsSchema rows → (n : TypeNo) (id : List ℕ) (path blocks : List (List ℕ)) (a : Answer) → BlocksSay h rows n id path blocks a
    → (held : List (List ℕ)) (v : Value) → Stands bare (block_at held) h rows n id v → (answered h rows 0 (plainly n, v) path ≡ Some a) ⊎ TwoCollide blocks held
