-- What is answered of a child: its block isn't to be had, or isn't the node that a HAMT has there; or it is as what stands in its slots.
use Rattle.std.proofs.Common.{◌≡◌, ◌⊎◌, inl, inr, ⊎_elim, ℕ, zero, suc, ◌+◌, ◌-◌, ◌<◌, ◌≤◌, ◌==◌, ◌&&◌, Bool, true, false, List, [], ◌∷◌, ◌++◌, length, length-append, Option, Some, None, refl, sym, ◌∙◌, ap, subst, arith}
use Rattle.std.specs.Prelude.{Result, Ok, Err, reverse, slice_get}
use Rattle.std.specs.List.{AllByRecursion}
use Rattle.std.proofs.lemmas.List.{reverse-append}
use Rattle.std.proofs.lemmas.Option.{none-some, same_Some}
use Rattle.ild_cbor.specs.Reading.{fault_of}
use Rattle.ild_cbor.specs.declared.fault.CborFault.{CborFault}
use Rattle.ild_cbor.specs.declared.why.BlockWhy.{BlockWhy}
use Rattle.ild_cbor.specs.declared.why.BlockWhy.TheVariants as B
use Rattle.ild_cbor.specs.declared.why.Why.TheVariants as W
use Rattle.ild_cbor.proofs.Blocks.{block_again}
use Rattle.ild_data.specs.Bytes.{AreBytes}
use Rattle.ild_data.specs.Data.{Data}
use Rattle.ild_data.specs.Trie.{TrieSlot, child, node_data}
use Rattle.ild_data.specs.TrieShape.{index, trie_levels}
use Rattle.ild_data.specs.declared.hamt_shape.HamtShape.{HamtShape}
use Rattle.ild_data.specs.declared.id.BlockId.{BlockId}
use Rattle.ild_edges.specs.Gained.{FromBlocks, IsUnder, OnlyReads}
use Rattle.ild_edges.specs.Store.{Gets, Moment, block_at}
use Rattle.ild_edges.specs.Told.{IfTold}
use Rattle.ild_edges.specs.declared.error.EdgeErr.{EdgeErr}
use Rattle.ild_edges.specs.declared.error.EdgeErr.TheVariants as E
use Rattle.ild_edges.proofs.Reading.{from_both, from_later, from_one, get_reads, reads_none, reads_then}
use Rattle.ild_node_slots.specs.declared.view.NodeView.{NodeView}
use Rattle.ild_schema.specs.declared.number.Slot.{Slot}
use Rattle.ild_schema.specs.declared.number.TypeNo.{TypeNo}
use Rattle.ild_schema.specs.declared.row.Row.{Row}
use Rattle.ild_bulk_walker.specs.Gives.{IsNodeOf, NodeGives, SlotsGive, TreeGives}
use Rattle.ild_bulk_walker.specs.OnTree.{IsNodeAt, IsWrong, IsOnTree, TreeMany}
use Rattle.ild_bulk_walker.specs.Reads.{NoNodes, NodesIn, SlotsNodes, TreeNodes}
use Rattle.ild_bulk_walker.specs.Todo.{agrees, fits}
use Rattle.ild_bulk_walker.proofs.OneNode.{same-slots}
use Rattle.ild_open_parts.specs.Reads.{Stops}
use Rattle.ild_open_parts.specs.declared.fault.OpenFault.{OpenFault}
use Rattle.ild_open_parts.specs.declared.fault.OpenFault.TheVariants as F
use Rattle.ild_open_parts.proofs.Turning.{stops_later}
use Rattle.ild_open_nodes.specs.inside.Beneath.{BrokenAt, BrokenIn, BrokenOn, HangsOn, PassesChild, PassesSlots, StandsOn}
use Rattle.ild_open_nodes.specs.Nodes.{EntryGiven, EntryOwned, SlotGiven, SlotOwned}
use Rattle.ild_open_nodes.specs.inside.Passes.{NoneGiven, Passes}
use Rattle.ild_open_nodes.specs.Sums.{EachOwned, SumsTo}
use Rattle.ild_open_nodes.specs.Reading.{GetsBlock, IsFewNode, IsNodeView, ReadsNode}
use Rattle.ild_open_nodes.specs.Weights.{weights}
use Rattle.ild_open_nodes.proofs.Counted.{counts, light, weighs}
use Rattle.ild_open_nodes.proofs.Slotting.{in_earlier}
use Rattle.ild_open_nodes.proofs.Splitting.{EntryAlong, EntryAsks, Joined, all_each, joined, splits, sums_each}

-- ---- ways

and_assoc : (a b c : Bool) → ((a && b) && c) ≡ (a && (b && c))
and_assoc true b c = refl
and_assoc false b c = refl

and_true : (b : Bool) → (b && true) ≡ b
and_true true = refl
and_true false = refl

agrees_snoc : (p : HamtShape) (hash : List ℕ) (d n : ℕ) (way : List ℕ) (i : ℕ) → n ≡ d + length way → agrees p hash d (way ++ i ∷ []) ≡ (agrees p hash d way && (index p hash n == i))
agrees_snoc p hash d n [] i is = let same : n ≡ d = omega (arith, is) in and_true (index p hash d == i) ∙ ap (λ k. index p hash k == i) (sym same)
agrees_snoc p hash d n (j ∷ way) i is =
    ap (λ b. (index p hash d == j) && b) (agrees_snoc p hash (d + 1) n way i (omega (arith, is))) ∙ sym (and_assoc (index p hash d == j) (agrees p hash (d + 1) way) (index p hash n == i))

-- a key has the indices of the way to a child where it belongs to its slot
pub agrees_fits : (h : List ℕ → List ℕ) (p : HamtShape) (way : List ℕ) (i : ℕ) (k : List ℕ) → agrees p (h k) 0 (way ++ i ∷ []) ≡ fits h p way i k
agrees_fits h p way i k = agrees_snoc p (h k) 0 (length way) way i (omega arith)

-- a get is a get alone
pub gets_only : (m n : Moment) (id : List ℕ) (r : Result (List ℕ) OpenFault) → GetsBlock m id r n → OnlyReads m n
gets_only m n id (Ok b) x = get_reads m n id (Ok (Some b)) x
gets_only m n id (Err (F.Block i why)) x = get_reads m n id (Ok None) x.2
gets_only m n id (Err F.Store) x = get_reads m n id (Err E.Failed) x
gets_only m n id (Err F.Memory) x = get_reads m n id (Err E.Memory) x

told_at : (o : Option (List (List ℕ))) (held : List (List ℕ)) (P : List (List ℕ) → Type 0) → IfTold o P → o ≡ Some held → P held
told_at o held P told is = subst (λ t. IfTold t P) is told

module _ (h : List ℕ → List ℕ) (p : HamtShape) (rows : List Row) (room : ℕ) (key : TypeNo) (u : Slot) (way : List ℕ) (i : ℕ) (id : List ℕ) (short : suc (length way) < trie_levels p) where
  abbrev Goes : Moment → Result (Unit {0}) OpenFault → Moment → Type 0
  Goes m r n = PassesChild h p rows room key u way i id m r n

  abbrev Own : List (List ℕ) → Type 0
  Own held = SlotOwned h p rows room key u held way i (child id)

  abbrev Given : List (List ℕ) → ℕ → Type 0
  Given held cost = SlotGiven h p rows room key u held way i (child id) cost

  abbrev Broken : Moment → Moment → List ℕ → BlockWhy → Type 0
  Broken m n b why = BrokenAt h p rows room key u way i id m n b why

  -- the way to the child, and the levels beneath it
  abbrev down : List ℕ
  down = way ++ i ∷ []

  abbrev left : ℕ
  left = trie_levels p - suc (suc (length way))

  levels : trie_levels p - suc (length way) ≡ suc left
  levels = omega (arith, short)

  long : length (way ++ i ∷ []) ≡ suc (length way)
  long = let sum = length-append way (i ∷ []) in omega (arith, sum)

  less : trie_levels p - suc (length (way ++ i ∷ [])) ≡ left
  less = omega (arith, long)

  deeper : suc (length (way ++ i ∷ [])) ≡ suc (length way) + 1
  deeper = omega (arith, long)

  -- ---- the node of which something is given

  node_of : (held : List (List ℕ)) (es : List (List ℕ × Data)) → TreeGives h p held (trie_levels p - suc (length way)) (suc (length way)) id es → NodeGives h p held (suc (length way)) (TreeGives h p held left (suc (length way) + 1)) id es
  node_of held es gives = subst (λ n. TreeGives h p held n (suc (length way)) id es) levels gives

  tree_of : (held : List (List ℕ)) (es : List (List ℕ × Data)) → NodeGives h p held (suc (length way)) (TreeGives h p held left (suc (length way) + 1)) id es → TreeGives h p held (trie_levels p - suc (length way)) (suc (length way)) id es
  tree_of held es node = subst (λ n. TreeGives h p held n (suc (length way)) id es) (sym levels) node

  slots_down : (held : List (List ℕ)) (slots : List TrieSlot) (es : List (List ℕ × Data)) → SlotsGive h p (suc (length way)) 0 (TreeGives h p held left (suc (length way) + 1)) slots es
      → SlotsGive h p (length (way ++ i ∷ [])) 0 (TreeGives h p held (trie_levels p - suc (length (way ++ i ∷ []))) (suc (length (way ++ i ∷ [])))) slots es
  slots_down held slots es gives =
      subst (λ d. SlotsGive h p d 0 (TreeGives h p held (trie_levels p - suc (length (way ++ i ∷ []))) (suc (length (way ++ i ∷ [])))) slots es) (sym long)
      (subst (λ l. SlotsGive h p (suc (length way)) 0 (TreeGives h p held l (suc (length (way ++ i ∷ [])))) slots es) (sym less)
      (subst (λ e. SlotsGive h p (suc (length way)) 0 (TreeGives h p held left e) slots es) (sym deeper) gives))

  slots_up : (held : List (List ℕ)) (slots : List TrieSlot) (es : List (List ℕ × Data))
      → SlotsGive h p (length (way ++ i ∷ [])) 0 (TreeGives h p held (trie_levels p - suc (length (way ++ i ∷ []))) (suc (length (way ++ i ∷ [])))) slots es
      → SlotsGive h p (suc (length way)) 0 (TreeGives h p held left (suc (length way) + 1)) slots es
  slots_up held slots es gives =
      subst (λ e. SlotsGive h p (suc (length way)) 0 (TreeGives h p held left e) slots es) deeper
      (subst (λ l. SlotsGive h p (suc (length way)) 0 (TreeGives h p held l (suc (length (way ++ i ∷ [])))) slots es) less
      (subst (λ d. SlotsGive h p d 0 (TreeGives h p held (trie_levels p - suc (length (way ++ i ∷ []))) (suc (length (way ++ i ∷ [])))) slots es) long gives))

  -- it asks for a get at least
  one_get : (held : List (List ℕ)) (cost : ℕ) → Given held cost → 1 ≤ cost
  one_get held cost g =
      let nodes = subst (λ n. TreeNodes p held n id g.beneath) levels g.nodes in
      let one = nodes.1 in
      let sum = g.sum in
      omega (arith, one, sum)

  -- ---- its block

  module _ (m n : Moment) (b : List ℕ) (gets : Gets m id (Ok (Some b)) n) where
    here : (held : List (List ℕ)) → m.blocks ≡ Some held → block_at held id ≡ Some b
    here held told = told_at m.blocks held (λ bs. block_at bs id ≡ Some b) gets.answer.1 told

    under : IsUnder m.blocks id b
    under = record { named = gets.answer.0; held = gets.answer.1 }

    -- of whose node something is given
    node_in : (held : List (List ℕ)) (cost : ℕ) → block_at held id ≡ Some b → (g : Given held cost) → IsNodeOf p b (node_of held g.entries g.gives).slots
    node_in held cost there g =
        let node = node_of held g.entries g.gives in
        subst (λ c. IsNodeOf p c node.slots) (same_Some node.block b (sym node.here ∙ there)) node.node

    few_gets : (held : List (List ℕ)) (cost : ℕ) → Given held cost → n.gets ≤ m.gets + cost
    few_gets held cost g = let one = one_get held cost g in let more = gets.gets in omega (arith, one, more)

    -- ---- it isn't the node that a HAMT has there

    fewer : (held : List (List ℕ)) (cost : ℕ) → block_at held id ≡ Some b → Given held cost → IsFewNode p b → ⊥
    fewer held cost there g x =
        let node = node_of held g.entries g.gives in
        let same = same-slots p node.slots x.slots b (node_in held cost there g) x.node in
        let few = subst (λ ss. weights p ss ≤ p.bucket) (sym same) x.few in
        let many = light h p held left (suc (length way) + 1) (suc (length way)) 0 node.slots g.entries few node.gives in
        let more = node.many in
        omega (arith, few, many, more)

    none_given : (why : BlockWhy) → ReadsNode p b (Err why) → (held : List (List ℕ)) (cost : ℕ) → m.blocks ≡ Some held → Given held cost → ⊥
    none_given B.Missing reads held cost told g = absurd reads
    none_given (B.Cbor fault) reads held cost told g =
        let node = node_of held g.entries g.gives in
        none-some fault (sym (block_again b (node_data node.slots) (node_in held cost (here held told) g).is) ∙ reads)
    none_given (B.Shape why) reads held cost told g =
        ⊎_elim (λ (none : (slots : List TrieSlot) → IsNodeOf p b slots → ⊥). none (node_of held g.entries g.gives).slots (node_in held cost (here held told) g)) (λ (few : IsFewNode p b). fewer held cost (here held told) g few) reads.1

    wrong_at : (why : BlockWhy) → ReadsNode p b (Err why) → (top : List TrieSlot) (head : List ℕ) (x : HangsOn p m.blocks top head way i id) → IsWrong h p m.blocks top m.lacks n.lacks (i ∷ x.up) id why
    wrong_at B.Missing reads top head x = absurd reads
    wrong_at (B.Cbor fault) reads top head x = (b, under, reads)
    wrong_at (B.Shape why) reads top head x = (
      reads.0,
      ⊎_elim (λ (none : (slots : List TrieSlot) → IsNodeOf p b slots → ⊥). inl (record { block = b; at = under; none = none }))
          (λ (few : IsFewNode p b).
          inr (record {
            slots = few.slots;
            node = record { block = b; at = under; node = few.node };
            wrong = inr (inr (record { many = weights p few.slots; stands = counts p (TreeMany p m.blocks (trie_levels p - suc (length (i ∷ x.up)))) few.slots few.few; few = few.few }));
          })) reads.1,
    )

    pub child_faulty : (why : BlockWhy) (e : BlockId) → e.0 ≡ id → ReadsNode p b (Err why) → Goes m (Err (F.Block e why)) n
    child_faulty why e same reads = record {
      answer = (
        λ held cost told g. none_given why reads held cost told g,
        subst (λ a. Broken m n a why) (sym same) (record { each = λ top head x. inl (record { up = i ∷ x.up; on = x.on; wrong = wrong_at why reads top head x }) }),
      );
      only = get_reads m n id (Ok (Some b)) gets;
      gets = λ held cost told g. few_gets held cost g;
    }

  -- ---- it isn't to be had

  module _ (m n : Moment) where
    none_there : Gets m id (Ok None) n → (held : List (List ℕ)) (cost : ℕ) → m.blocks ≡ Some held → Given held cost → ⊥
    none_there gets held cost told g =
        let node = node_of held g.entries g.gives in
        none-some node.block (sym (told_at m.blocks held (λ bs. block_at bs id ≡ None) gets.answer.0 told) ∙ node.here)

    gets_one : (r : Result (Option (List ℕ)) EdgeErr) → Gets m id r n → (held : List (List ℕ)) (cost : ℕ) → Given held cost → n.gets ≤ m.gets + cost
    gets_one r gets held cost g = let one = one_get held cost g in let more = gets.gets in omega (arith, one, more)

    pub child_missing : (f : OpenFault) → GetsBlock m id (Err f) n → Goes m (Err f) n
    child_missing (F.Block e why) x = record {
      answer = (
        λ held cost told g. none_there x.2 held cost told g,
        subst (λ w. Broken m n e.0 w) (sym x.1)
            (subst (λ a. Broken m n a B.Missing) (sym x.0) (record { each = λ top head y. inl (record { up = i ∷ y.up; on = y.on; wrong = (x.2.answer.0, x.2.answer.1) }) })),
      );
      only = get_reads m n id (Ok None) x.2;
      gets = λ held cost told g. gets_one (Ok None) x.2 held cost g;
    }
    child_missing F.Store x = record { answer = x.answer; only = get_reads m n id (Err E.Failed) x; gets = λ held cost told g. gets_one (Err E.Failed) x held cost g }
    child_missing F.Memory x = record { answer = tt; only = get_reads m n id (Err E.Memory) x; gets = λ held cost told g. gets_one (Err E.Memory) x held cost g }

  -- ---- it is as what stands in its slots

  module _ (m k : Moment) (b : List ℕ) (gets : Gets m id (Ok (Some b)) k) (v : NodeView) (x : IsNodeView p b v) where
    abbrev Slots : Moment → Result (Unit {0}) OpenFault → Moment → Type 0
    Slots o r n = PassesSlots h p rows room key u (way ++ i ∷ []) id x.slots o r n

    -- what is given of it, as what its slots ask for
    record Asked (held : List (List ℕ)) (cost : ℕ) : Type 0 where
      more : ℕ
      sum : 1 + more ≤ cost
      given : SumsTo (SlotGiven h p rows room key u held (way ++ i ∷ [])) 0 x.slots more

    same_nodes : (held : List (List ℕ)) (many : ℕ) → block_at held id ≡ Some b → NodesIn p held (TreeNodes p held left) id many ⊎ NoNodes p held id many → SlotsNodes (TreeNodes p held (trie_levels p - suc (length (way ++ i ∷ [])))) x.slots many
    same_nodes held many there nodes =
        subst (λ l. SlotsNodes (TreeNodes p held l) x.slots many) (sym less)
        (⊎_elim
        (λ (d : NodesIn p held (TreeNodes p held left) id many).
        let same : d.node.block ≡ b = same_Some d.node.block b (sym d.node.at.held ∙ there) in
        subst (λ ss. SlotsNodes (TreeNodes p held left) ss many) (same-slots p d.slots x.slots b (subst (λ c. IsNodeOf p c d.slots) same d.node.node) x.node) d.many)
        (λ (none : NoNodes p held id many). absurd (none.none x.slots (record { block = b; at = record { named = gets.answer.0; held = there }; node = x.node }))) nodes)

    asked : (held : List (List ℕ)) (cost : ℕ) → block_at held id ≡ Some b → Given held cost → Asked held cost
    asked held cost there g =
        let node = node_of held g.entries g.gives in
        let same = same-slots p node.slots x.slots b (node_in m k b gets held cost there g) x.node in
        let nodes = subst (λ n. TreeNodes p held n id g.beneath) levels g.nodes in
        let gives = slots_down held x.slots g.entries (subst (λ ss. SlotsGive h p (suc (length way)) 0 (TreeGives h p held left (suc (length way) + 1)) ss g.entries) same node.gives) in
        let sums : SumsTo (λ j. EntryAsks h p rows room key u held (way ++ i ∷ [])) 0 g.entries g.spent =
        sums_each (EntryGiven h p rows room key u held way i) (EntryAsks h p rows room key u held (way ++ i ∷ [])) g.entries 0 g.spent
        (λ e a y. record { safe = y.safe; along = agrees_fits h p way i e.0 ∙ y.place; keyed = y.keyed; value = y.value; is = y.is; sum = y.sum }) g.each in
        let one = nodes.1 in
        let sum = g.sum in
        record {
          more = nodes.0 + g.spent;
          sum = omega (arith, one, sum);
          given = splits h p rows room key u held (way ++ i ∷ []) 0 x.slots g.entries g.spent nodes.0 gives sums (same_nodes held nodes.0 there nodes.2);
        }

    own : (held : List (List ℕ)) → block_at held id ≡ Some b → EachOwned (SlotOwned h p rows room key u held (way ++ i ∷ [])) x.slots → Own held
    own held there all =
        let j = joined h p rows room key u held (way ++ i ∷ []) 0 x.slots (λ q s is. subst (λ r. SlotOwned h p rows room key u held (way ++ i ∷ []) r s) (omega arith) (all.at q s is)) in
        let gives = slots_up held x.slots j.entries j.gives in
        let heavy = weighs h p held left (suc (length way) + 1) (suc (length way)) 0 x.slots j.entries gives in
        let many = x.many in
        record {
          entries = j.entries;
          gives = tree_of held j.entries (record { block = b; slots = x.slots; here = there; node = x.node; many = omega (arith, heavy, many); gives = gives });
          each = all_each (EntryAlong h p rows room key u held (way ++ i ∷ [])) (EntryOwned h p rows room key u held way i) j.entries
              (λ e y. record { place = sym (agrees_fits h p way i e.0) ∙ y.along; keyed = y.keyed; value = y.value; is = y.is }) j.each;
        }

    gone : OnlyReads m k
    gone = get_reads m k id (Ok (Some b)) gets

    slots_gets : (n : Moment) (r : Result (Unit {0}) OpenFault) → Slots k r n → (held : List (List ℕ)) (cost : ℕ) → m.blocks ≡ Some held → Given held cost → n.gets ≤ m.gets + cost
    slots_gets n r read held cost told g =
        let q = asked held cost (here m k b gets held told) g in
        let one = gets.gets in
        let two = read.gets held q.more (gets.blocks ∙ told) q.given in
        let sum = q.sum in
        omega (arith, one, two, sum)

    pub child_done : AreBytes b → (n : Moment) → Slots k (Ok tt) n → Goes m (Ok tt) n
    child_done bytes n read = record {
      answer = from_both n (λ held. block_at held id ≡ Some b) (λ held. EachOwned (SlotOwned h p rows room key u held (way ++ i ∷ [])) x.slots) Own own
          (from_later k n (λ held. block_at held id ≡ Some b) read.only (from_one m k id b bytes gets)) read.answer;
      only = reads_then m k n gone read.only;
      gets = slots_gets n (Ok tt) read;
    }

    stands : (top : List TrieSlot) (head : List ℕ) → HangsOn p m.blocks top head way i id → StandsOn p m.blocks top head (way ++ i ∷ []) id x.slots
    stands top head y = record {
      up = i ∷ y.up;
      way_is = ap (λ w. w ++ i ∷ []) y.way_is ∙ sym (reverse-append (i ∷ []) y.up);
      on = y.on;
      node = record { block = b; at = under m k b gets; node = x.node };
    }

    pub child_stops : (n : Moment) (e : OpenFault) → Slots k (Err e) n → Goes m (Err e) n
    child_stops n e read = record {
      answer = stops_later
          (NoneGiven (λ held. EachOwned (SlotOwned h p rows room key u held (way ++ i ∷ [])) x.slots) (λ held cost. SumsTo (SlotGiven h p rows room key u held (way ++ i ∷ [])) 0 x.slots cost) (BrokenIn h p rows room key u (way ++ i ∷ []) id x.slots) k)
          (NoneGiven Own Given Broken m) (BrokenIn h p rows room key u (way ++ i ∷ []) id x.slots k n) (Broken m n) m k n e gone
          (λ none held cost told g. let q = asked held cost (here m k b gets held told) g in none held q.more (gets.blocks ∙ told) q.given)
          (λ a why w. record { each = λ top head y. (in_earlier h p rows room key u (way ++ i ∷ []) id x.slots m k n gone a why w).each top head (stands top head y) }) read.answer;
      only = reads_then m k n gone read.only;
      gets = slots_gets n (Err e) read;
    }

  -- ---- it was found sound before

  pub child_known : (m : Moment) → FromBlocks m Own → Goes m (Ok tt) m
  child_known m own = record { answer = own; only = reads_none m; gets = λ held cost told g. omega arith }
