-- What is wrong in data of a typed value that stand in a block: with a node of one of its HAMTs, or with an entry in such a node.
use Rattle.std.specs.Prelude.{◌≡◌, ◌⊎◌, ℕ, zero, suc, List, [], Option}
use Rattle.ild_cbor.specs.declared.why.BlockWhy.{BlockWhy}
use Rattle.ild_cbor.specs.declared.why.BlockWhy.TheVariants as B
use Rattle.ild_cbor.specs.declared.why.Why.{Why}
use Rattle.ild_data.specs.Data.{Data}
use Rattle.ild_schema.specs.declared.number.Slot.{Slot}
use Rattle.ild_schema.specs.declared.number.TypeNo.{TypeNo}
use Rattle.ild_schema.specs.declared.row.Row.{Row}
use Rattle.ild_typed.specs.Spots.{key_spot}
use Rattle.ild_view_walk.specs.Checks.{IsPartRefusal, IsRefusal}
use Rattle.ild_bulk_walker.specs.Standing.{IsWrongOnTree}
use Rattle.ild_open_parts.specs.Sites.{Site, HasSite, HasEntry}

-- ---- entries of a HAMT

-- the walk of the key refuses it, as a key, or that of the value does
abbrev pub IsWrongPart : List Row → ℕ → TypeNo → Slot → List ℕ → Data → Why → Type 0
IsWrongPart rows room key slot k value why =
    ((ty : TypeNo) × IsPartRefusal rows room (key_spot key k []) ty why)
    ⊎ ((ty : TypeNo) × IsRefusal rows room slot value ty why)

pub record IsWrongEntry (rows : List Row) (told : Option (List (List ℕ))) (z : Site) (id : List ℕ) (why : BlockWhy) : Type 0 where
  pub key : List ℕ
  pub value : Data
  pub entry : HasEntry told z id key value
  pub cause : Why
  pub told_is : why ≡ B.Shape cause
  pub wrong : IsWrongPart rows z.room z.key z.value key value cause

-- ---- HAMTs in data

-- something is wrong in the value of an entry, where its data stand in the block of an id
pub record IsWrongBelow (told : Option (List (List ℕ))) (z : Site) (below : List ℕ → Data → Type 0) : Type 0 where
  pub block : List ℕ
  pub key : List ℕ
  pub value : Data
  pub entry : HasEntry told z block key value
  pub wrong : below block value

-- with a block of the tree of a HAMT, with an entry of it, or in the value of one
pub record IsWrongAt (h : List ℕ → List ℕ) (rows : List Row) (told : Option (List (List ℕ))) (before now : ℕ) (below : Site → List ℕ → Data → Type 0) (at : List ℕ) (room : ℕ) (s : Slot) (t : Data)
    (id : List ℕ) (why : BlockWhy) : Type 0 where
  pub steps : ℕ
  pub site : Site
  pub has : HasSite rows steps room s t site
  pub here : site.block ≡ at
  pub wrong : IsWrongOnTree h site.shape told site.slots at before now id why ⊎ IsWrongEntry rows told site id why ⊎ IsWrongBelow told site (below site)

-- in data of a slot, which stand in the block `at`: the block of this id is refused for this cause, so many HAMTs deep at most
abbrev pub IsWrongIn : ℕ → (List ℕ → List ℕ) → List Row → Option (List (List ℕ)) → ℕ → ℕ → List ℕ → ℕ → Slot → Data → List ℕ → BlockWhy → Type 0
IsWrongIn zero h rows told before now at room s t id why = ⊥
IsWrongIn (suc deep) h rows told before now at room s t id why =
    IsWrongAt h rows told before now (λ z block value. IsWrongIn deep h rows told before now block z.room z.value value id why) at room s t id why

pub record HasBrokenBlock (h : List ℕ → List ℕ) (rows : List Row) (told : Option (List (List ℕ)))
    (before now : ℕ) (at : List ℕ) (room : ℕ) (s : Slot) (t : Data) (id : List ℕ) (why : BlockWhy) : Type 0 where
  pub deep : ℕ
  pub wrong : IsWrongIn deep h rows told before now at room s t id why
