-- A value that fits has a representation where none of its HAMTs is without a trie.
use Rattle.std.proofs.Common.{◌≡◌, ℕ, ◌≤◌, Bool, true, false, List, Some, refl, arith}
use Rattle.ild_data.specs.Data.{Data}
use Rattle.ild_schema.specs.declared.number.Slot.{Slot}
use Rattle.ild_schema.specs.declared.row.Row.{Row}
use Rattle.ild_schema.specs.Made.{IsMade}
use Rattle.ild_schema.specs.Value.{Value}
use Rattle.ild_typed.specs.Hamt.{whole}
use Rattle.ild_typed.specs.Judged.{exhausts}
use Rattle.ild_typed.specs.Represented.{represented}
use Rattle.ild_typed.proofs.MakingValues.{typed_tree}
use Rattle.ild_build_pass.specs.Fitting.{FitsIn}
use Rattle.ild_build_pass.specs.Weights.{crowded, weigh}
use Rattle.ild_build_pass.proofs.Judges.{full, uncrowded}

module _ (h : List ℕ → List ℕ) (rows : List Row) (made_is : IsMade rows) (s : Slot) (v : Value) (fit : FitsIn rows s v) where
  pub record HasTree : Type 0 where
    pub tree : Data
    pub is : represented (whole h) rows s v ≡ Some tree

  tree_of : exhausts h rows s v ≡ false → HasTree
  tree_of e = let x = typed_tree h rows made_is s v (fit.room, fit.fits, fit.whole) fit.hole fit.joined e in record { tree = x.0; is = x.1 }

  pub exhausted_is : 1 ≤ weigh (crowded h) rows s v → exhausts h rows s v ≡ true
  exhausted_is k = by (exhausts h rows s v) refl
    where
      by : (b : Bool) → exhausts h rows s v ≡ b → exhausts h rows s v ≡ true
      by true e = e
      by false e = let t = tree_of e in let none = uncrowded h rows s v t.tree t.is in absurd (omega (arith, k, none))

  pub tree_there : weigh (crowded h) rows s v ≡ 0 → HasTree
  tree_there e = tree_of (full h rows s v e)
