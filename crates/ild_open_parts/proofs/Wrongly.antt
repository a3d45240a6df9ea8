-- What is wrong with the tree of a HAMT, or with what a row of it spells, is wrong in the data whose root they are.
use Rattle.std.proofs.Common.{◌≡◌, ◌⊎◌, inl, inr, ℕ, zero, suc, ◌+◌, Bool, List, [], ◌∷◌, Option, Some, refl, sym, ◌∙◌, subst}
use Rattle.std.specs.List.{AllByRecursion}
use Rattle.std.proofs.lemmas.List.Elements.{All-contains}
use Rattle.ild_cbor.specs.Block.{IsBlockOf}
use Rattle.ild_cbor.specs.declared.why.BlockWhy.{BlockWhy}
use Rattle.ild_data.proofs.AllOf.{all_at}
use Rattle.ild_data.specs.Data.{Data}
use Rattle.ild_data.specs.Spell.{spell}
use Rattle.ild_data.specs.Tree.{IsTree}
use Rattle.ild_data.specs.Trie.{TrieSlot, bucket}
use Rattle.ild_data.specs.declared.hamt_shape.HamtShape.{HamtShape}
use Rattle.ild_edges.specs.Store.{Moment}
use Rattle.ild_schema.specs.Slots.{form_of}
use Rattle.ild_schema.specs.declared.def.MapForm.TheVariants as MF
use Rattle.ild_schema.specs.declared.def.TypeDef.TheVariants as D
use Rattle.ild_schema.specs.declared.number.Slot.{Slot}
use Rattle.ild_schema.specs.declared.number.TypeNo.{TypeNo}
use Rattle.ild_schema.specs.declared.row.Row.{Row}
use Rattle.ild_typed.specs.Node.{IsRoot}
use Rattle.ild_typed.proofs.Wholes.{one_within}
use Rattle.ild_bulk_walker.specs.OnTree.{HasNode}
use Rattle.ild_bulk_walker.specs.Standing.{IsWrongOnTree, StandsThere}
use Rattle.ild_bulk_walker.specs.declared.row.Row.{Row as Listed}
use Rattle.ild_open_rows.proofs.Trees.{IsTreed, IsTreedSlot, node_trees}
use Rattle.ild_open_parts.specs.Broken.{HasBrokenBlock, IsWrongBelow, IsWrongEntry, IsWrongIn, IsWrongPart}
use Rattle.ild_open_parts.specs.Hamts.{BrokenRows, BrokenTree, HasBroken, IsWrongRow, RowsStand}
use Rattle.ild_open_parts.specs.Reads.{BrokenPart, OnlyReads}
use Rattle.ild_open_parts.specs.Sites.{HasEntry, Site}
use Rattle.ild_open_parts.proofs.Breaking.{broken_earlier}

-- ---- what stands in a bucket is a tree

pub same_tree : (tree d : Data) (b : List ℕ) → IsBlockOf b tree → b ≡ spell d → IsTree d → tree ≡ d
same_tree tree d b x is t = one_within tree d x.within t (sym x.spelled ∙ is)

module _ (p : HamtShape) (told : Option (List (List ℕ))) (root : List TrieSlot) (t : Data) (is : IsRoot p root t) (tree : IsTree t) where
  slots_treed : (up id : List ℕ) (slots : List TrieSlot) → HasNode p told root up id slots → AllByRecursion IsTreedSlot slots
  slots_treed [] id slots node = let own = subst IsTree is.tree tree in subst (λ zs. AllByRecursion IsTreedSlot zs) (sym node) (node_trees root own.1)
  slots_treed (i ∷ up) id slots node = node_trees slots node.node.is.within.tree

  row_treed : (at : List ℕ) (row : Listed) (x : StandsThere p told root at row) → IsTree x.value
  row_treed at row x =
      let own = all_at IsTreedSlot x.slots x.index (bucket x.entries) (slots_treed x.up row.block.0 x.slots x.node) x.stands in
      all_at IsTreed x.entries x.place (row.key, x.value) own x.is

-- ---- a HAMT in the data of a slot

module _ (h : List ℕ → List ℕ) (p : HamtShape) (at : List ℕ) (rows : List Row) (room less : ℕ) (s : Slot) (t : Data) (key : TypeNo) (key_at : ℕ) (u : Slot) (place : ℕ) (form : form_of rows s ≡ Some (D.Map key key_at u place (MF.Hamt p)))
    (left : room ≡ less + 5) where
  abbrev site : List TrieSlot → Site
  site slots = record { block = at; shape = p; slots = slots; key = key; value = u; room = less }

  module _ (told : Option (List (List ℕ))) (slots : List TrieSlot) (root : IsRoot p slots t) (before now : ℕ) (id : List ℕ) (why : BlockWhy) where
    hamt_wrong : (deep : ℕ) → IsWrongOnTree h p told slots at before now id why ⊎ IsWrongEntry rows told (site slots) id why ⊎ IsWrongBelow told (site slots) (λ b d. IsWrongIn deep h rows told before now b less u d id why)
        → HasBrokenBlock h rows told before now at room s t id why
    hamt_wrong deep w = record {
      deep = suc deep;
      wrong = record { steps = zero; site = site slots; has = record { key_at = key_at; at = place; form = form; root = root; left = left }; here = refl; wrong = w };
    }

    row_entry : (row : Listed) (x : StandsThere p told slots at row) → HasEntry told (site slots) row.block.0 row.key x.value
    row_entry row x = record { up = x.up; on = x.on; slots = x.slots; node = x.node; index = x.index; entries = x.entries; stands = x.stands; place = x.place; is = x.is }

    module _ (tree : IsTree t) (row : Listed) (x : StandsThere p told slots at row) where
      own_tree : (d : Data) → IsBlockOf row.value d → d ≡ x.value
      own_tree d spelled = same_tree d x.value row.value spelled x.spelled (row_treed p told slots t root tree at row x)

      row_wrong : id ≡ row.block.0 → IsWrongRow rows less key u row why → HasBrokenBlock h rows told before now at room s t id why
      row_wrong same w = hamt_wrong zero (inr (inl (record {
        key = row.key;
        value = x.value;
        entry = subst (λ i. HasEntry told (site slots) i row.key x.value) (sym same) (row_entry row x);
        cause = w.cause;
        told_is = w.told_is;
        wrong = subst (λ d. IsWrongPart rows less key u row.key d w.cause) (own_tree w.tree w.spelled) w.wrong;
      })))

      row_broken : (d : Data) → IsBlockOf row.value d → HasBrokenBlock h rows told before now row.block.0 less u d id why → HasBrokenBlock h rows told before now at room s t id why
      row_broken d spelled w = hamt_wrong w.deep (inr (inr (record {
        block = row.block.0;
        key = row.key;
        value = x.value;
        entry = row_entry row x;
        wrong = subst (λ e. IsWrongIn w.deep h rows told before now row.block.0 less u e id why) (own_tree d spelled) w.wrong;
      })))

  pub tree_broken : (m n : Moment) (id : List ℕ) (why : BlockWhy) → BrokenTree h p at t m n id why → BrokenPart h at rows room (s, t) m n id why
  tree_broken m n id why x = hamt_wrong m.blocks x.0 x.1 m.lacks n.lacks id why zero (inl x.2)

  pub rows_broken : (keep : Bool) (listed : List Listed) (m k n : Moment) (id : List ℕ) (why : BlockWhy) → OnlyReads m k → RowsStand p at t m listed → BrokenRows h rows less keep key u listed k n id why
      → BrokenPart h at rows room (s, t) m n id why
  rows_broken keep listed m k n id why only x w = by w.2 where
    there : StandsThere p m.blocks x.0 at w.0
    there = All-contains (StandsThere p m.blocks x.0 at) listed w.0 x.3 w.1

    by : ((id ≡ w.0.block.0) × IsWrongRow rows less key u w.0 why) ⊎ HasBroken h rows less u w.0 k n id why → BrokenPart h at rows room (s, t) m n id why
    by (inl y) = row_wrong m.blocks x.0 x.2 m.lacks n.lacks id why x.1 w.0 there y.0 y.1
    by (inr y) = row_broken m.blocks x.0 x.2 m.lacks n.lacks id why x.1 w.0 there y.tree y.spelled (broken_earlier h w.0.block.0 rows less (u, y.tree) m k n id why only y.wrong)
