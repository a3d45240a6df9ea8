-- What is wrong with the block of a root: with its form, or in its data (IPLD Schemas; IPLD HashMap).
use Rattle.std.specs.Prelude.{◌≡◌, ◌⊎◌, ℕ, List, Option, None, Some}
use Rattle.ild_data.specs.Data.{Data}
use Rattle.ild_cbor.specs.Block.{IsBlockOf}
use Rattle.ild_cbor.specs.Reading.{fault_of}
use Rattle.ild_cbor.specs.declared.why.BlockWhy.{BlockWhy}
use Rattle.ild_cbor.specs.declared.why.BlockWhy.TheVariants as B
use Rattle.ild_view_doc.specs.Docs.{IsShape}
use Rattle.ild_edges.specs.Count.{Rose}
use Rattle.ild_edges.specs.Gained.{IsUnder}
use Rattle.ild_edges.specs.Store.{block_at}
use Rattle.ild_edges.specs.Told.{IfTold}
use Rattle.ild_schema.specs.Slots.{plainly}
use Rattle.ild_schema.specs.declared.number.TypeNo.{TypeNo}
use Rattle.ild_schema.specs.declared.row.Row.{Row}
use Rattle.ild_open_parts.specs.Broken.{HasBrokenBlock}

-- it isn't held; it is no block; or its tree has no front of the type
abbrev pub IsWrongRoot : List Row → Option (List (List ℕ)) → ℕ → ℕ → TypeNo → List ℕ → BlockWhy → Type 0
IsWrongRoot rows told before now ty id B.Missing = IfTold told (λ blocks. block_at blocks id ≡ None) × Rose before now
IsWrongRoot rows told before now ty id (B.Cbor fault) = (block : List ℕ) × IsUnder told id block × (fault_of block ≡ Some fault)
IsWrongRoot rows told before now ty id (B.Shape why) = (block : List ℕ) × IsUnder told id block × IsShape rows ty block why

-- it is one, with something wrong in its data
pub record IsWrongInRoot (h : List ℕ → List ℕ) (rows : List Row) (told : Option (List (List ℕ))) (before now : ℕ) (ty : TypeNo) (root : List ℕ) (id : List ℕ) (why : BlockWhy) : Type 0 where
  pub block : List ℕ
  pub at : IsUnder told root block
  pub tree : Data
  pub is : IsBlockOf block tree
  pub wrong : HasBrokenBlock h rows told before now root 96 (plainly ty) tree id why

-- a block of the tree of blocks of a value of a type, from the root block's id on, is refused for a cause that holds
abbrev pub IsRefused : (List ℕ → List ℕ) → List Row → Option (List (List ℕ)) → ℕ → ℕ → TypeNo → List ℕ → List ℕ → BlockWhy → Type 0
IsRefused h rows told before now ty root id why =
    ((id ≡ root) × IsWrongRoot rows told before now ty root why) ⊎ IsWrongInRoot h rows told before now ty root id why
