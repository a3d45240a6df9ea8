-- The start of a spelling: its head, and what stands behind the head.
use Rattle.std.specs.Prelude.{ℕ, ◌≡◌, List, ◌++◌}
use Rattle.ild_data.specs.Data.{Data}
use Rattle.ild_data.specs.Spell.{spell_items}
use Rattle.ild_data.specs.Shape.{major_of, argument_of, string_of, parts_of}
use Rattle.ild_cbor.specs.declared.start.Start.{Start}

-- the start of a spelling: a head, and what stands behind it
pub record IsStart (s : Start) (major n : ℕ) (rest : List ℕ) : Type 0 where
  pub major_is : s.major ≡ major
  pub argument_is : s.argument ≡ n
  pub rest_is : s.rest.now ≡ rest

-- the start of the spelling of a tree, and of nothing more
abbrev pub StartsAs : Start → Data → Type 0
StartsAs s t = IsStart s (major_of t) (argument_of t) (string_of t ++ spell_items (parts_of t))
