-- What comparing the trees of two documents tells, of the values that stand at them.
use Rattle.std.specs.Prelude.{◌≡◌, ◌≢◌, ◌⊎◌, ℕ, List, Some, Result, Ok, Err, Contains}
use Rattle.ild_cbor.specs.declared.why.BlockWhy.TheVariants.{Missing}
use Rattle.ild_data.specs.Spell.{id_of}
use Rattle.ild_edges.specs.Collide.{Collide}
use Rattle.ild_edges.specs.Count.{Rose}
use Rattle.ild_edges.specs.Store.{Moment}
use Rattle.ild_open.specs.Opened.{StandsInBlock}
use Rattle.ild_open_parts.specs.Reads.{OnlyReads}
use Rattle.ild_open_parts.specs.declared.fault.OpenFault.{OpenFault}
use Rattle.ild_open_parts.specs.declared.fault.OpenFault.TheVariants as F
use Rattle.ild_schema.specs.Value.{Value}
use Rattle.ild_typed.specs.Stands.{bare, blocks_of}
use Rattle.ild_view_doc.specs.Docs.{block_in, table_in, type_in}
use Rattle.ild_view_doc.specs.declared.doc.Doc.{Doc}
use Rattle.ild_compare.specs.Reached.{IsLacking}
use Rattle.ild_compare.specs.declared.compared.Compared.{Compared}
use Rattle.ild_compare.specs.declared.compared.Compared.TheVariants as C

-- the id of a document's root block
abbrev pub root_in : Doc → List ℕ
root_in d = id_of (block_in d)

module _ (h : List ℕ → List ℕ) where
  -- a document stands for a value in a store, which tells what it holds
  pub record StandsFor (d : Doc) (m : Moment) (v : Value) : Type 0 where
    pub held : List (List ℕ)
    pub told : m.blocks ≡ Some held
    pub stands : StandsInBlock h (table_in d) (type_in d) (root_in d) held (block_in d) v

  -- a block of each value for which it does
  abbrev pub IsBlockOf : Doc → Moment → List ℕ → Type 0
  IsBlockOf d m b = (v : Value) (x : StandsFor d m v) → Contains (blocks_of bare h (table_in d) (type_in d) v x.stands.stands.tree) b

  module _ (left right : Doc) (m n : Moment) where
    -- not both stand for a value
    abbrev pub NotBoth : Type 0
    NotBoth = (v w : Value) → StandsFor left m v → StandsFor right n w → ⊥

    abbrev pub CompareAnswer : Result Compared OpenFault → Moment → Moment → Type 0
    CompareAnswer (Ok C.Same) l r = (v w : Value) → StandsFor left m v → StandsFor right n w → v ≡ w
    CompareAnswer (Ok C.Other) l r = root_in left ≢ root_in right
    CompareAnswer (Ok (C.Collide a b)) l r = Collide a b × IsBlockOf left m a × IsBlockOf right n b
    CompareAnswer (Err (F.Block id why)) l r =
        NotBoth × (why ≡ Missing)
        × (IsLacking (table_in left) (type_in left) (block_in left) m l id.0 ⊎ IsLacking (table_in right) (type_in right) (block_in right) n r id.0)
    CompareAnswer (Err F.Store) l r = Rose m.faults l.faults ⊎ Rose n.faults r.faults
    CompareAnswer (Err F.Memory) l r = Unit {0}

    -- the trees of two documents over two stores were compared, by gets alone
    pub record Compares (result : Result Compared OpenFault) (l r : Moment) : Type 0 where
      pub answer : CompareAnswer result l r
      pub other : root_in left ≢ root_in right → result ≡ Ok C.Other
      pub left_only : OnlyReads m l
      pub right_only : OnlyReads n r
