-- A HAMT over whose nodes a reader went: what is read of it, as the value of a slot.
use Rattle.std.proofs.Common.{◌≡◌, ℕ, ◌+◌, ◌-◌, ◌≤◌, List, [], ◌∷◌, length, Bool, true, false, Some, sym, subst, arith}
use Rattle.std.specs.Prelude.{Result, Ok, Err}
use Rattle.std.specs.List.{AllByRecursion}
use Rattle.std.proofs.lemmas.List.Sorted.{IsPermutation-sym}
use Rattle.ild_cbor.specs.Nodes.{HasData}
use Rattle.ild_cbor.specs.declared.node.Node.{Node}
use Rattle.ild_cbor.specs.declared.piece.Piece.{Piece}
use Rattle.ild_cbor.specs.declared.piece.Piece.TheVariants as P
use Rattle.ild_open_parts.proofs.Hamting.{key_texts}
use Rattle.ild_data.specs.Data.{Data}
use Rattle.ild_data.specs.Limits.{deepest}
use Rattle.ild_data.specs.Trie.{TrieSlot}
use Rattle.ild_data.specs.TrieShape.{trie_levels}
use Rattle.ild_data.specs.declared.hamt_shape.HamtShape.{HamtShape}
use Rattle.ild_edges.specs.Store.{Moment, block_at}
use Rattle.ild_edges.proofs.Reading.{from_more}
use Rattle.ild_node_slots.specs.Views.{HasSlots}
use Rattle.ild_node_slots.specs.declared.view.NodeView.{NodeView}
use Rattle.ild_schema.specs.Clear.{IsSafe}
use Rattle.ild_schema.specs.Copies.{base}
use Rattle.ild_schema.specs.Legible.{IsLegible}
use Rattle.ild_schema.specs.Slots.{form_of}
use Rattle.ild_schema.specs.Value as V
use Rattle.ild_schema.specs.Value.{Value, pairs_of}
use Rattle.ild_schema.specs.declared.def.MapForm.TheVariants as MF
use Rattle.ild_schema.specs.declared.def.TypeDef.TheVariants as D
use Rattle.ild_schema.specs.declared.number.Slot.{Slot}
use Rattle.ild_schema.specs.declared.number.TypeNo.{TypeNo}
use Rattle.ild_schema.specs.declared.row.Row.{Row}
use Rattle.ild_schema.specs.declared.val.Val.{Val}
use Rattle.ild_typed.specs.Blocks.{nodes}
use Rattle.ild_typed.specs.Node.{IsRoot}
use Rattle.ild_typed.specs.Pieces.{is_null_there}
use Rattle.ild_typed.specs.Schema.{IsSchema}
use Rattle.ild_bulk_walker.specs.Gives.{RootGives}
use Rattle.ild_bulk_walker.specs.Reads.{NodesBeneath}
use Rattle.ild_open_held.specs.Entries.{HamtSplits, KeyFits, beneath}
use Rattle.ild_open_held.specs.Held.{IsHeld}
use Rattle.ild_open_held.specs.Splits.{PartsHaveValues, entry_parts, entry_values, nodes_in}
use Rattle.ild_open_held.proofs.Hamts.{hamts_split}
use Rattle.ild_open_rows.proofs.Given.{entries_are_given}
use Rattle.ild_open_rows.proofs.Trees.{all_moved}
use Rattle.ild_open_nodes.specs.inside.Beneath.{BrokenIn, PassesSlots}
use Rattle.ild_open_nodes.specs.Nodes.{SlotGiven, SlotOwned}
use Rattle.ild_open_nodes.specs.inside.Passes.{NoneGiven}
use Rattle.ild_open_nodes.specs.Sums.{EachOwned, SumsTo}
use Rattle.ild_open_nodes.proofs.Rooting.{root_broken, root_joined, root_splits}
use Rattle.ild_open_nodes.proofs.Splitting.{EntryAlong, sums_more}
use Rattle.ild_open_parts.specs.Hamts.{ReadsHamt}
use Rattle.ild_open_parts.specs.Reads.{BrokenPart, HasValue, NoValue, Reads}
use Rattle.ild_open_parts.specs.declared.fault.OpenFault.{OpenFault}
use Rattle.ild_open_parts.specs.declared.fault.OpenFault.TheVariants as F
use Rattle.ild_open_parts.proofs.Turning.{only_refl, stops_later}
use Rattle.ild_open_read.proofs.Ordered.{ordered, values_moved}
use Rattle.ild_open_read.specs.inside.Passing.{IsRootView, ReadsRoot}

not_kept : {A : Type 0} → false ≡ true → A
not_kept e = absurd cc

module _ (h : List ℕ → List ℕ) (p : HamtShape) (at : List ℕ) (rows : List Row) (schema : IsSchema rows) (room less : ℕ) (s : Slot) (t : Data) (key : TypeNo) (key_at : ℕ) (u : Slot) (place : ℕ)
    (some : is_null_there s t ≡ false) (is : form_of rows s ≡ Some (D.Map key key_at u place (MF.Hamt p))) (left : room ≡ less + 5) (le : room ≤ deepest) (slots : List TrieSlot) (root : IsRoot p slots t) (safe : IsSafe rows u) where
  abbrev Split : List (List ℕ) → Type 0
  Split held = HamtSplits (block_at held) h p rows room less s t key u

  split : (held : List (List ℕ)) → Split held
  split held = hamts_split (block_at held) h rows schema room less le s t some p key key_at u place is left

  -- the tree beneath the root gives entries whose keys fit and whose values are held; so many nodes at most have the tree and the values
  record IsGiven (held : List (List ℕ)) (many : ℕ) : Type 0 where
    entries : List (List ℕ × Data)
    gives : RootGives h p held (trie_levels p - 1) slots entries
    keys : AllByRecursion (KeyFits rows less key) entries
    values : List Value
    are : PartsHaveValues (block_at held) h rows less (entry_parts u entries) values
    below : ℕ
    nodes : NodesBeneath p held slots below
    sum : below + nodes_in h rows (entry_parts u entries) values ≤ many

  -- of a value that is held the tree gives the entries, in its own order
  given : (held : List (List ℕ)) (v : Value) → IsHeld (block_at held) h rows room s t v → IsGiven held (length (nodes h rows s v))
  given held v has =
      let y = (split held).entries v has in
      let b = (split held).back y.0 v y.1 has in
      let g = entries_are_given h p held t slots y.0 root (key_texts rows less key y.0 b.keys) y.1 in
      let o = ordered h p held t slots g.entries root g.gives in
      let c = (split held).back o.entries v o.root has in
      let e = entries_are_given h p held t slots o.entries root (key_texts rows less key o.entries c.keys) o.root in
      let moved = IsPermutation-sym g.entries o.entries o.moved in
      let w = values_moved (block_at held) h rows less u o.entries g.entries c.values moved c.held in
      record {
        entries = g.entries;
        gives = g.gives;
        keys = all_moved (KeyFits rows less key) o.entries g.entries moved c.keys;
        values = w.values;
        are = w.are;
        below = length (beneath h p o.entries);
        nodes = e.nodes;
        sum = let many = c.many in let same = w.many in omega (arith, many, same);
      }

  -- so many gets its slots ask for
  asked : (held : List (List ℕ)) (v : Value) → IsHeld (block_at held) h rows room s t v → SumsTo (SlotGiven h p rows less key u held []) 0 slots (length (nodes h rows s v))
  asked held v has =
      let g = given held v has in
      sums_more (SlotGiven h p rows less key u held []) 0 slots (g.below + nodes_in h rows (entry_parts u g.entries) g.values) (length (nodes h rows s v)) g.sum
      (root_splits h p rows less key u slots held safe g.entries g.values g.below g.gives g.keys g.are g.nodes)

  -- ---- it isn't read

  pub passed_stops : (m n : Moment) (e : OpenFault) → PassesSlots h p rows less key u [] at slots m (Err e) n → Reads h at rows room (s, t) false m (Err e) n
  passed_stops m n e x = record {
    answer = stops_later (NoneGiven (λ held. EachOwned (SlotOwned h p rows less key u held []) slots) (λ held cost. SumsTo (SlotGiven h p rows less key u held []) 0 slots cost) (BrokenIn h p rows less key u [] at slots) m) (NoValue h rows room (s, t) m)
        (BrokenIn h p rows less key u [] at slots m n) (BrokenPart h at rows room (s, t) m n) m m n e (only_refl m) (λ none held v told has. none held (length (nodes h rows s v)) told (asked held v has))
        (root_broken h p rows less key u slots at room s t key_at place is left root m n) x.answer;
    only = x.only;
    gets = λ held v told has. x.gets held (length (nodes h rows s v)) told (asked held v has);
  }

  -- ---- it is read

  record HasOwned (held : List (List ℕ)) (es : List (List ℕ × Data)) : Type 0 where
    keys : AllByRecursion (KeyFits rows less key) es
    values : List Value
    are : PartsHaveValues (block_at held) h rows less (entry_parts u es) values

  has_owned : (held : List (List ℕ)) (es : List (List ℕ × Data)) → AllByRecursion (EntryAlong h p rows less key u held []) es → HasOwned held es
  has_owned held [] all = record { keys = tt; values = []; are = tt }
  has_owned held (e ∷ es) all = let r = has_owned held es all.1 in record { keys = (all.0.keyed, r.keys); values = all.0.value ∷ r.values; are = (all.0.is, r.are) }

  whole : (val : Val) (held : List (List ℕ)) → EachOwned (SlotOwned h p rows less key u held []) slots → HasValue h rows room (s, t) false held val
  whole val held all =
      let j = root_joined h p rows less key u slots held all in
      let gives : RootGives h p held (trie_levels p - 1) slots j.entries = j.gives in
      let o = ordered h p held t slots j.entries root gives in
      let own = has_owned held o.entries (all_moved (EntryAlong h p rows less key u held []) j.entries o.entries o.moved j.each) in
      record { value = V.map (pairs_of (entry_values o.entries own.values)); is = (split held).up o.entries own.values o.root own.keys own.are; kept = λ k. not_kept k }

  pub passed_all : (m n : Moment) (val : Val) → PassesSlots h p rows less key u [] at slots m (Ok tt) n → Reads h at rows room (s, t) false m (Ok val) n
  passed_all m n val x = record {
    answer = from_more n (λ held. EachOwned (SlotOwned h p rows less key u held []) slots) (λ held. HasValue h rows room (s, t) false held val) (whole val) x.answer;
    only = x.only;
    gets = λ held v told has. x.gets held (length (nodes h rows s v)) told (asked held v has);
  }

-- ---- whatever data stand at the root

module _ (h : List ℕ → List ℕ) (p : HamtShape) (at : List ℕ) (rows : List Row) (less : ℕ) (key : TypeNo) (u : Slot) (root : Node) where
  abbrev Whole : Moment → Result Val OpenFault → Moment → Type 0
  Whole m r n = ReadsRoot h p at rows less false key u (P.Node root) m r n

  -- the same of a piece that is the root, where nothing is kept
  pub root_whole : (keep : Bool) (piece : Piece) (m n : Moment) (r : Result Val OpenFault) → keep ≡ false → piece ≡ P.Node root → Whole m r n → ReadsHamt h p at rows less keep key u piece m r n
  root_whole keep piece m n r off is read =
      subst (λ b. ReadsHamt h p at rows less b key u piece m r n) (sym off) (subst (λ q. ReadsHamt h p at rows less false key u q m r n) (sym is) (λ s t key_at place whole stands form sum le front. read s t key_at place whole stands form sum le front.some))

  -- its node isn't read
  module _ (schema : IsSchema rows) (legible : IsLegible rows) (v : NodeView) (view : (t : Data) → HasData root t → IsRootView p t v) (m n : Moment) where
    safe_at : (s : Slot) (key_at place : ℕ) → form_of rows s ≡ Some (D.Map key key_at u place (MF.Hamt p)) → IsSafe rows u
    safe_at s key_at place form = legible.clear.parts (base rows s.ty.0) (D.Map key key_at u place (MF.Hamt p)) form

    -- something in it isn't read
    pub root_stops : (e : OpenFault) → ((slots : List TrieSlot) → HasSlots p v slots → PassesSlots h p rows less key u [] at slots m (Err e) n) → Whole m (Err e) n
    root_stops e read = λ s t key_at place whole stands form sum le some.
        let x = view t stands in
        passed_stops h p at rows schema whole less s t key key_at u place some form sum le x.slots x.root (safe_at s key_at place form) m n e (read x.slots x.has)

    pub root_ends : (val : Val) → ((slots : List TrieSlot) → HasSlots p v slots → PassesSlots h p rows less key u [] at slots m (Ok tt) n) → Whole m (Ok val) n
    root_ends val read = λ s t key_at place whole stands form sum le some.
        let x = view t stands in
        passed_all h p at rows schema whole less s t key key_at u place some form sum le x.slots x.root (safe_at s key_at place form) m n val (read x.slots x.has)
