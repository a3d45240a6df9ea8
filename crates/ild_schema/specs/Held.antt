-- What a schema holds beside its table: the declared names, the types by their names, where copies end,
-- and the parts of its types by their texts.
use Rattle.std.specs.Prelude.{◌≡◌, ℕ, List, Option}
use Rattle.ild_schema.specs.declared.number.TypeNo.{TypeNo}
use Rattle.ild_schema.specs.declared.by_text.PartIndex.{PartIndex}
use Rattle.ild_schema.specs.declared.row.Row.{Row}
use Rattle.ild_schema.specs.Ends.{HasEnds}
use Rattle.ild_schema.specs.Indexed.{HasParts, InKeyOrder}
use Rattle.ild_schema.specs.Names.{declared_names, open_names}
use Rattle.ild_schema.specs.Table.{IsTable}

pub record TableIsKept (rows : List Row) (names : List (List ℕ)) (numbers : List ℕ) (ends : List (Option TypeNo)) (parts : List PartIndex) : Type 0 where
  pub table : IsTable rows
  pub listed : names ≡ declared_names rows
  pub named : InKeyOrder (open_names rows) numbers
  pub ended : HasEnds rows ends
  pub indexed : HasParts rows parts
