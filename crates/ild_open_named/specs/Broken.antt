-- What is wrong with the blocks of a root that names its schema: with its own form, with the block of the schema's text, or in the
-- data of its value (IPLD Schemas; IPLD HashMap).
use Rattle.std.specs.Prelude.{◌≡◌, ◌⊎◌, ℕ, List, Option, None, Some}
use Rattle.ild_cbor.specs.Block.{IsBlockOf}
use Rattle.ild_cbor.specs.Reading.{fault_of}
use Rattle.ild_cbor.specs.declared.why.BlockWhy.{BlockWhy}
use Rattle.ild_cbor.specs.declared.why.BlockWhy.TheVariants as B
use Rattle.ild_cbor.specs.declared.why.Why.{Why}
use Rattle.ild_cbor.specs.declared.why.Why.TheVariants as Y
use Rattle.ild_data.specs.Data.{Data, text}
use Rattle.ild_edges.specs.Count.{Rose}
use Rattle.ild_edges.specs.Gained.{IsUnder}
use Rattle.ild_edges.specs.Store.{block_at}
use Rattle.ild_edges.specs.Told.{IfTold}
use Rattle.ild_open_parts.specs.Broken.{HasBrokenBlock}
use Rattle.ild_schema.specs.Slots.{plainly}
use Rattle.ild_schema.specs.declared.number.TypeNo.{TypeNo}
use Rattle.ild_schema.specs.declared.row.Row.{Row}
use Rattle.ild_view_named.specs.NamedBlock.{IsNamedBlock}
use Rattle.ild_view_named.specs.NamedDocs.{IsMisnamedBlock, IsNamedShape}

-- ---- one block

-- it isn't held; it is no block; or it isn't of the form that is asked for
abbrev pub IsWrongUnder : (List ℕ → Why → Type 0) → Option (List (List ℕ)) → ℕ → ℕ → List ℕ → BlockWhy → Type 0
IsWrongUnder Wrong told before now id B.Missing = IfTold told (λ blocks. block_at blocks id ≡ None) × Rose before now
IsWrongUnder Wrong told before now id (B.Cbor fault) = (block : List ℕ) × IsUnder told id block × (fault_of block ≡ Some fault)
IsWrongUnder Wrong told before now id (B.Shape why) = (block : List ℕ) × IsUnder told id block × Wrong block why

-- a block that is no text
pub record IsNoText (b : List ℕ) (why : Why) : Type 0 where
  pub tree : Data
  pub block : IsBlockOf b tree
  pub other : (s : List ℕ) → tree ≡ text s → ⊥
  pub told : why ≡ Y.Kind

-- ---- the root and the schema's block

-- the block under the root's id names the schema's block so
pub record LinksSchema (told : Option (List (List ℕ))) (root id : List ℕ) : Type 0 where
  pub block : List ℕ
  pub at : IsUnder told root block
  pub name : List ℕ
  pub tree : Data
  pub names : IsNamedBlock block name id tree

-- the schema's block is refused for a cause that holds
pub record IsWrongSchema (told : Option (List (List ℕ))) (before now : ℕ) (root id : List ℕ) (why : BlockWhy) : Type 0 where
  pub linked : LinksSchema told root id
  pub wrong : IsWrongUnder IsNoText told before now id why

-- either is, whatever the value
abbrev pub IsUndescribed : Option (List (List ℕ)) → ℕ → ℕ → List ℕ → List ℕ → BlockWhy → Type 0
IsUndescribed told before now root id why = ((id ≡ root) × IsWrongUnder IsMisnamedBlock told before now root why) ⊎ IsWrongSchema told before now root id why

-- ---- the value

-- the root is one, with something wrong in the data of its value
pub record IsWrongInNamed (h : List ℕ → List ℕ) (rows : List Row) (told : Option (List (List ℕ))) (before now : ℕ) (ty : TypeNo) (root : List ℕ) (id : List ℕ) (why : BlockWhy) : Type 0 where
  pub block : List ℕ
  pub at : IsUnder told root block
  pub name : List ℕ
  pub schema : List ℕ
  pub tree : Data
  pub names : IsNamedBlock block name schema tree
  pub wrong : HasBrokenBlock h rows told before now root 95 (plainly ty) tree id why

-- a block of a root that names its schema, over a value of a type, is refused for a cause that holds
abbrev pub IsRefused : (List ℕ → List ℕ) → List Row → Option (List (List ℕ)) → ℕ → ℕ → TypeNo → List ℕ → List ℕ → BlockWhy → Type 0
IsRefused h rows told before now ty root id why =
    ((id ≡ root) × IsWrongUnder (IsNamedShape rows ty) told before now root why) ⊎ IsWrongSchema told before now root id why ⊎ IsWrongInNamed h rows told before now ty root id why
