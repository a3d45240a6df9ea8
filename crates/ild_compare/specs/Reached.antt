-- The blocks to which a root block leads, by what blocks tell of their children, where a store holds the blocks on the way.
use Rattle.std.specs.Prelude.{◌≡◌, ℕ, zero, suc, List, Option, Some, None, Contains}
use Rattle.std.specs.List.{AllByRecursion}
use Rattle.ild_beneath.specs.Children.{Child, children_of}
use Rattle.ild_data.specs.Spell.{id_of}
use Rattle.ild_edges.specs.Count.{Rose}
use Rattle.ild_edges.specs.Store.{Moment, block_at}
use Rattle.ild_edges.specs.Told.{IfTold}
use Rattle.ild_schema.specs.declared.number.TypeNo.{TypeNo}
use Rattle.ild_schema.specs.declared.row.Row.{Row}

-- the block is the one under its id, where the store tells what it holds
abbrev pub IsUnder : Option (List (List ℕ)) → List ℕ → Type 0
IsUnder told b = IfTold told (λ held. block_at held (id_of b) ≡ Some b)

module _ (rows : List Row) (ty : TypeNo) (root : List ℕ) where
  module _ (told : Option (List (List ℕ))) where
    -- so many blocks lie on the way from the root block to a child
    abbrev pub LeadsTo : ℕ → Child → Type 0
    LeadsTo zero c = Contains (children_of rows ty 0 root) c
    LeadsTo (suc n) c = (b : List ℕ) × (kind : ℕ) × LeadsTo n (id_of b, kind) × IsUnder told b × Contains (children_of rows ty kind b) c

    pub record IsBeneath (id : List ℕ) : Type 0 where
      pub many : ℕ
      pub kind : ℕ
      pub leads : LeadsTo many (id, kind)

  -- the block of an id that is beneath the root block lacks in a store
  pub record IsLacking (m n : Moment) (id : List ℕ) : Type 0 where
    pub beneath : IsBeneath m.blocks id
    pub lacks : IfTold m.blocks (λ held. block_at held id ≡ None)
    pub rose : Rose m.lacks n.lacks

  -- ---- in two stores

  module _ (left right : Option (List (List ℕ))) where
    -- both lead to a child, over the same blocks
    pub record IsMet (c : Child) : Type 0 where
      pub many : ℕ
      pub left_leads : LeadsTo left many c
      pub right_leads : LeadsTo right many c

    -- both hold one block under the id of a child, and what the block tells is among these places
    pub record IsAlike (spots : List Child) (c : Child) : Type 0 where
      pub block : List ℕ
      pub named : id_of block ≡ c.0
      pub left_under : IsUnder left block
      pub right_under : IsUnder right block
      pub on : AllByRecursion (Contains spots) (children_of rows ty c.1 block)

    -- so of all these places, to which the root block leads on
    pub record AreAlike : Type 0 where
      pub spots : List Child
      pub first : AllByRecursion (Contains spots) (children_of rows ty 0 root)
      pub each : AllByRecursion (IsAlike spots) spots
