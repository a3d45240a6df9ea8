-- What is answered of a slot of a node: it is empty, a bucket, or a child.
use Rattle.std.proofs.Common.{◌≡◌, inl, inr, ℕ, suc, ◌-◌, ◌≤◌, List, [], length, Option, Some, refl, sym, ◌∙◌, ap, subst, arith}
use Rattle.std.specs.Prelude.{Result, Ok, Err, reverse, slice_get}
use Rattle.std.proofs.lemmas.List.{length-reverse}
use Rattle.ild_cbor.specs.declared.why.BlockWhy.{BlockWhy}
use Rattle.ild_cbor.specs.declared.why.BlockWhy.TheVariants as B
use Rattle.ild_cbor.specs.declared.why.Why.TheVariants as W
use Rattle.ild_data.proofs.AllOf.{all_indexed}
use Rattle.ild_data.specs.Data.{Data}
use Rattle.ild_data.specs.Trie.{TrieSlot, empty, bucket, child}
use Rattle.ild_data.specs.TrieShape.{trie_levels}
use Rattle.ild_data.specs.declared.hamt_shape.HamtShape.{HamtShape}
use Rattle.ild_data.specs.declared.id.BlockId.{BlockId}
use Rattle.ild_edges.specs.Gained.{OnlyReads}
use Rattle.ild_edges.specs.Store.{Moment}
use Rattle.ild_edges.proofs.Reading.{from_nothing, reads_none}
use Rattle.ild_schema.specs.declared.number.Slot.{Slot}
use Rattle.ild_schema.specs.declared.number.TypeNo.{TypeNo}
use Rattle.ild_schema.specs.declared.row.Row.{Row}
use Rattle.ild_bulk_walker.specs.Gives.{TreeGives}
use Rattle.ild_bulk_walker.specs.OnTree.{HasNode, IsOnTree, IsWrong}
use Rattle.ild_bulk_walker.specs.Standing.{IsWrongOnTree}
use Rattle.ild_open_parts.specs.Broken.{HasBrokenBlock, IsWrongBelow, IsWrongEntry}
use Rattle.ild_open_parts.specs.Sites.{Site}
use Rattle.ild_open_parts.specs.declared.fault.OpenFault.{OpenFault}
use Rattle.ild_open_parts.specs.declared.fault.OpenFault.TheVariants as F
use Rattle.ild_open_parts.proofs.Breaking.{broken_earlier, rose_later}
use Rattle.ild_open_nodes.specs.inside.Beneath.{BrokenAt, BrokenIn, BrokenOn, HangsOn, PassesChild, PassesSlot, StandsOn, site}
use Rattle.ild_open_nodes.specs.Nodes.{EntryGiven, EntryOwned, SlotGiven, SlotOwned}
use Rattle.ild_open_nodes.specs.inside.Passes.{Passes}
use Rattle.ild_open_nodes.specs.Sums.{EachOwned, SumsTo}
use Rattle.ild_open_nodes.proofs.Passing.{passes_as}
use Rattle.ild_open_nodes.proofs.Splitting.{sums_more}

-- ---- from an earlier moment on

wrong_earlier : (h : List ℕ → List ℕ) (p : HamtShape) (told : Option (List (List ℕ))) (root : List TrieSlot) (a b c : ℕ) (up id : List ℕ) (why : BlockWhy) → a ≤ b → IsWrong h p told root b c up id why → IsWrong h p told root a c up id why
wrong_earlier h p told root a b c up id B.Missing le w = (w.0, rose_later a b c le w.1)
wrong_earlier h p told root a b c up id (B.Cbor fault) le w = w
wrong_earlier h p told root a b c up id (B.Shape why) le w = w

module _ (h : List ℕ → List ℕ) (rows : List Row) (z : Site) (m n o : Moment) (id : List ℕ) (why : BlockWhy) (only : OnlyReads m n) where
  tree_earlier : IsWrongOnTree h z.shape n.blocks z.slots z.block n.lacks o.lacks id why → IsWrongOnTree h z.shape m.blocks z.slots z.block m.lacks o.lacks id why
  tree_earlier w =
      subst (λ told. IsWrongOnTree h z.shape told z.slots z.block m.lacks o.lacks id why) only.blocks
      (record { up = w.up; on = w.on; wrong = wrong_earlier h z.shape n.blocks z.slots m.lacks n.lacks o.lacks w.up id why only.later.lacks w.wrong })

  below_earlier : IsWrongBelow n.blocks z (λ b d. HasBrokenBlock h rows n.blocks n.lacks o.lacks b z.room z.value d id why) → IsWrongBelow m.blocks z (λ b d. HasBrokenBlock h rows m.blocks m.lacks o.lacks b z.room z.value d id why)
  below_earlier w =
      subst (λ told. IsWrongBelow told z (λ b d. HasBrokenBlock h rows m.blocks m.lacks o.lacks b z.room z.value d id why)) only.blocks
      (record { block = w.block; key = w.key; value = w.value; entry = w.entry; wrong = broken_earlier h w.block rows z.room (z.value, w.value) m n o id why only w.wrong })

  pub on_earlier : BrokenOn h rows z n o id why → BrokenOn h rows z m o id why
  on_earlier (inl w) = inl (tree_earlier w)
  on_earlier (inr (inl w)) = inr (inl (subst (λ told. IsWrongEntry rows told z id why) only.blocks w))
  on_earlier (inr (inr w)) = inr (inr (below_earlier w))

module _ (h : List ℕ → List ℕ) (p : HamtShape) (rows : List Row) (room : ℕ) (key : TypeNo) (u : Slot) (way at : List ℕ) (slots : List TrieSlot) where
  pub in_earlier : (m n o : Moment) → OnlyReads m n → (id : List ℕ) (why : BlockWhy) → BrokenIn h p rows room key u way at slots n o id why → BrokenIn h p rows room key u way at slots m o id why
  in_earlier m n o only id why w = record {
    each = λ top head x.
        on_earlier h rows (site h p rows room key u head top) m n o id why only (w.each top head (subst (λ told. StandsOn p told top head way at slots) (sym only.blocks) x));
  }

  abbrev Goes : ℕ → TrieSlot → Moment → Result (Unit {0}) OpenFault → Moment → Type 0
  Goes i s m r n = PassesSlot h p rows room key u way at slots i s m r n

  -- ---- nothing stands there

  pub slot_empty : (i : ℕ) (m : Moment) → Goes i empty m (Ok tt) m
  slot_empty i m = record {
    answer = from_nothing m (λ held. SlotOwned h p rows room key u held way i empty) (λ held. record { entries = []; gives = refl; each = tt });
    only = reads_none m;
    gets = λ held cost told g. omega arith;
  }

  -- ---- a bucket

  module _ (i : ℕ) (es : List (List ℕ × Data)) where
    abbrev pub Owned : List (List ℕ) → ℕ → List ℕ × Data → Type 0
    Owned held j e = EntryOwned h p rows room key u held way i e

    abbrev pub Given : List (List ℕ) → ℕ → List ℕ × Data → ℕ → Type 0
    Given held j e cost = EntryGiven h p rows room key u held way i e cost

    -- what is answered of all its entries is answered of the slot
    pub bucket_passes : (m n : Moment) (r : Result (Unit {0}) OpenFault) → Passes (λ held. EachOwned (Owned held) es) (λ held cost. SumsTo (Given held) 0 es cost) (BrokenIn h p rows room key u way at slots) m r n → Goes i (bucket es) m r n
    bucket_passes m n r x =
        passes_as (λ held. EachOwned (Owned held) es) (λ held. SlotOwned h p rows room key u held way i (bucket es)) (λ held cost. SumsTo (Given held) 0 es cost) (λ held cost. SlotGiven h p rows room key u held way i (bucket es) cost)
        (BrokenIn h p rows room key u way at slots) (BrokenIn h p rows room key u way at slots) m n r
        (λ held o. record { entries = es; gives = refl; each = all_indexed (EntryOwned h p rows room key u held way i) es o.at })
        (λ held cost g. let sum = g.sum in sums_more (Given held) 0 es g.spent cost (omega (arith, sum)) (subst (λ xs. SumsTo (Given held) 0 xs g.spent) g.gives g.each)) (λ id why w. w) x

  -- ---- a child

  module _ (i : ℕ) (id : List ℕ) (there : slice_get slots i ≡ Some (child id)) where
    -- at the last level none may stand
    none_below : (held : List (List ℕ)) (left : ℕ) (es : List (List ℕ × Data)) → left ≡ 0 → TreeGives h p held left (suc (length way)) id es → ⊥
    none_below held left es none gives = subst (λ l. TreeGives h p held l (suc (length way)) id es) none gives

    pub child_deep : (m : Moment) (b : BlockId) → b.0 ≡ at → trie_levels p ≤ suc (length way) → Goes i (child id) m (Err (F.Block b (B.Shape W.Trie))) m
    child_deep m b same last = record {
      answer = (
        λ held cost told g. none_below held (trie_levels p - suc (length way)) g.entries (omega (arith, last)) g.gives,
        record {
          each = λ top head x.
              inl (record {
                up = x.up;
                on = subst (IsOnTree p m.blocks top head x.up) (sym same) x.on;
                wrong = (
                  refl,
                  inr (record {
                    slots = slots;
                    node = subst (λ a. HasNode p m.blocks top x.up a slots) (sym same) x.node;
                    wrong = inr (inl (record { index = i; id = id; stands = there; last = let long = ap (λ (w : List ℕ). length w) x.way_is ∙ length-reverse x.up in omega (arith, last, long) }));
                  }),
                );
              });
        },
      );
      only = reads_none m;
      gets = λ held cost told g. omega arith;
    }

    hangs : (told : Option (List (List ℕ))) (top : List TrieSlot) (head : List ℕ) → StandsOn p told top head way at slots → HangsOn p told top head way i id
    hangs told top head x = record { up = x.up; way_is = x.way_is; on = (at, slots, x.on, x.node, there) }

    pub child_passes : (m n : Moment) (r : Result (Unit {0}) OpenFault) → PassesChild h p rows room key u way i id m r n → Goes i (child id) m r n
    child_passes m n r x =
        passes_as (λ held. SlotOwned h p rows room key u held way i (child id)) (λ held. SlotOwned h p rows room key u held way i (child id)) (λ held cost. SlotGiven h p rows room key u held way i (child id) cost)
        (λ held cost. SlotGiven h p rows room key u held way i (child id) cost) (BrokenAt h p rows room key u way i id) (BrokenIn h p rows room key u way at slots) m n r (λ held o. o) (λ held cost g. g)
        (λ b why w. record { each = λ top head s. w.each top head (hangs m.blocks top head s) }) x
