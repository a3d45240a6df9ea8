-- What the longer table says of its last type, the struct.
use Rattle.std.proofs.Common.{◌≡◌, ℕ, zero, suc, List, [], ◌∷◌, ◌++◌, Option, Some, None, length, refl, ap, ◌∙◌}
use Rattle.std.specs.Prelude.{option_map, slice_get}
use Rattle.ild_schema.specs.declared.number.TypeNo.{TypeNo}
use Rattle.ild_schema.specs.declared.row.Row.{Row}
use Rattle.ild_schema.specs.Copies.{base, target_in}
use Rattle.ild_schema.specs.Kinds.{meant}
use Rattle.ild_schema.specs.Table.{def_at}
use Rattle.ild_named_type.specs.Root.{named_rows, root_def, root_row}
use Rattle.ild_named_type.proofs.Looking.{stays_there}

got_last : {X : Type 0} (xs : List X) (x : X) → slice_get (xs ++ x ∷ []) (length xs) ≡ Some x
got_last [] x = refl
got_last (y ∷ xs) x = got_last xs x

module _ (rows : List Row) (n : TypeNo) where
  pub def_last : def_at (named_rows rows n) (length rows) ≡ Some (root_def n)
  def_last = ap (λ o. option_map (λ r. r.def) o) (got_last rows (root_row n))

  -- it is no copy
  pub base_last : base (named_rows rows n) (length rows) ≡ length rows
  base_last = stays_there (named_rows rows n) (length (named_rows rows n)) (length rows) (ap target_in def_last)

  pub meant_last : meant (named_rows rows n) (length rows) ≡ Some (root_def n)
  meant_last = ap (λ k. def_at (named_rows rows n) k) base_last ∙ def_last
