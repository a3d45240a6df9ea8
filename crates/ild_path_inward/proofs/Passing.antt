-- A HAMT on the way of a path, whose key was looked up.
use Rattle.std.proofs.Common.{◌≡◌, ℕ, zero, suc, ◌+◌, ◌-◌, ◌≤◌, cond, List, ◌∷◌, ◌++◌, length, Bool, Option, Some, None, is_some, refl, ap, sym, ◌∙◌, subst, arith}
use Rattle.std.specs.Prelude.{IsSomeAnd, IsUtf8, Ok, Err, option_map}
use Rattle.std.specs.Option.{option_map_or}
use Rattle.std.proofs.lemmas.Option.{same_Some}
use Rattle.std.proofs.Math.Nat.{sub-zero}
use Rattle.ild_data.specs.ByteOrder.{IsInOrder, in_byte_order}
use Rattle.ild_data.specs.Data.{Data}
use Rattle.ild_data.specs.Key.{value_at}
use Rattle.ild_data.specs.Trie.{TrieSlot, node_of}
use Rattle.ild_data.specs.TrieShape.{trie_levels}
use Rattle.ild_data.specs.declared.hamt_shape.HamtShape.{HamtShape}
use Rattle.ild_edges.specs.Store.{Moment, block_at}
use Rattle.ild_hamt.specs.Descending.{IsTrailOf}
use Rattle.ild_hamt_trie.proofs.Node.{slots-node, trie-sorted}
use Rattle.ild_hamt_trie.proofs.Parts.{in_order-sorted}
use Rattle.ild_hamt_trie.specs.Way.{way}
use Rattle.ild_node_slots.proofs.Shapes.{levels_suc}
use Rattle.ild_node_slots.specs.declared.fault.HamtFault.{HamtFault}
use Rattle.ild_node_slots.specs.declared.fault.HamtFault.TheVariants as F
use Rattle.ild_open_held.specs.Held.{IsHeld}
use Rattle.ild_path_edits.proofs.RoomTests.{schemas_have_tests}
use Rattle.ild_path_edits.specs.Stop.{stopped}
use Rattle.ild_path_enter.specs.Enters.{CanEnter, EnterAnswer, EntryThere, IsValueThere}
use Rattle.ild_path_entered.specs.Entered.{IsEntered}
use Rattle.ild_path_entry.specs.declared.entry.Entry.{Entry}
use Rattle.ild_open_rows.proofs.Given.{node_form}
use Rattle.ild_path_held.proofs.Orders.{once}
use Rattle.ild_path_held.proofs.Tries.{hamts_are_tries}
use Rattle.ild_path_held.specs.Hamts.{IsTrieIn}
use Rattle.ild_path_held.specs.HeldEdits.{room_at}
use Rattle.ild_path_hops.specs.declared.hop.Hop.{Hop}
use Rattle.ild_path_inward.specs.Levels.{CanEnterAt, GoesIn, PassesTo, counts, met_on}
use Rattle.ild_path_inward.specs.declared.halt.Halt.{Halt}
use Rattle.ild_path_inward.specs.declared.level.Level.TheVariants as L
use Rattle.ild_path_inward.specs.declared.level.Stand.{Stand}
use Rattle.ild_path_room.specs.ValueSlot.{IsValueSlot}
use Rattle.ild_path_nodes.specs.NodeLaws.{IsHamt}
use Rattle.ild_schema.specs.declared.def.MapForm.TheVariants as MF
use Rattle.ild_schema.specs.declared.def.TypeDef.{TypeDef}
use Rattle.ild_schema.specs.declared.def.TypeDef.TheVariants as T
use Rattle.ild_schema.specs.declared.number.Slot.{Slot}
use Rattle.ild_schema.specs.declared.row.Row.{Row}
use Rattle.ild_schema.specs.Slots.{form_of}
use Rattle.ild_schema.specs.Value.{Pairs, Value, map, pairs_list}
use Rattle.ild_script_meaning.specs.Costs.{met_in, on_way}
use Rattle.ild_typed.specs.At.{InSlot, at, seen}
use Rattle.ild_typed.specs.Fits.{Fits, FitsPast, FormFits}
use Rattle.ild_typed.specs.Hamt.{root_map}
use Rattle.ild_typed.specs.Holder.{map_holder}
use Rattle.ild_typed.specs.Levels.{levels_of}
use Rattle.ild_typed.specs.Node.{IsRoot}
use Rattle.ild_typed.specs.Segment.{part}
use Rattle.ild_typed.specs.Slots.{element_of}
use Rattle.ild_typed_fronts.specs.Front.{in_one_block}
use Rattle.ild_view.specs.View.{slot_of}

-- a value fits where there is room for the levels of its form
pub levels_fit : (rows : List Row) (room : ℕ) (s : Slot) (ps : Pairs) (d : TypeDef) → form_of rows s ≡ Some d → Fits rows room s (map ps) → levels_of d (map ps) ≤ room
unfolding FitsPast
levels_fit rows zero s ps d is f = (subst (λ o. IsSomeAnd o (FormFits rows zero (λ over t w. ⊥) (map ps))) is f).0
levels_fit rows (suc room) s ps d is f = (subst (λ o. IsSomeAnd o (FormFits rows (suc room) (FitsPast rows room) (map ps))) is f).0

-- the slots of the root of a trie
pub some_slots : (h : List ℕ → List ℕ) (p : HamtShape) (rows : List Row) (was : List (List ℕ)) (elem : Slot) (ps : Pairs) (t : Data) (es : List (List ℕ × Data)) → IsTrieIn h p rows was elem ps t es → (slots : List TrieSlot) × IsRoot p slots t
some_slots h p rows was elem ps t es x =
    let order : IsInOrder es = subst IsInOrder (sym x.order) (in_order-sorted x.pairs) in
    let left = trie_levels p - 1 in
    let s = slots-node h p left 0 es x.node (subst (λ n. node_of h p n 0 es ≡ Some x.node) (levels_suc p) x.is_node) in
    let form = node_form h p left 0 es s.0 order x.texts s.1 in
    (s.0, record { indices = form.many; each = form.each; tree = x.root ∙ ap (root_map p) s.2 })

-- what the HAMT counts for a key
pub counts_way : (h : List ℕ → List ℕ) (rows : List Row) (was : List (List ℕ)) (s elem : Slot) (ps : Pairs) (t : Data) (es : List (List ℕ × Data)) → (is : IsHamt rows s elem) → IsTrieIn h is.3 rows was elem ps t es → (k : List ℕ)
    → counts h rows (s, map ps) k ≡ length (way h is.3 k (trie_levels is.3) 0 es)
counts_way h rows was s elem ps t es is x k =
    let tree = trie-sorted h is.3 x.pairs 0 (once x.pairs x.rises) ∙ ap (λ n. node_of h is.3 n 0 (in_byte_order x.pairs)) (sub-zero (trie_levels is.3)) ∙ sym (ap (λ xs. node_of h is.3 (trie_levels is.3) 0 xs) x.order) ∙ x.is_node in
    ap (λ (o : Option TypeDef). met_in h rows o (map ps) k) is.4
    ∙ ap (λ o. option_map_or (on_way h is.3 k) o 0) x.represents
    ∙ ap (λ (o : Option Data). cond (is_some o) (length (way h is.3 k (trie_levels is.3) 0 (in_byte_order x.pairs))) 0) tree
    ∙ ap (λ xs. length (way h is.3 k (trie_levels is.3) 0 xs)) (sym x.order)

pub part_is : (rows : List Row) (s elem : Slot) (ps : Pairs) → IsHamt rows s elem → (k : List ℕ) → part (seen rows (s, map ps)) k ≡ option_map {U = InSlot} (λ w. (elem, w)) (value_at k (pairs_list ps))
part_is rows s elem ps is k = ap (λ G. part (map_holder G ps) k) is.4

module _ (h : List ℕ → List ℕ) (rows : List Row) (was : List (List ℕ)) (limit : ℕ) (p : InSlot) (path front : List (List ℕ)) (key : List ℕ) (behind : List (List ℕ)) (halt : Halt)
    (x : CanEnterAt h rows was limit p path front key behind halt) (slot : Slot) (is : IsValueSlot rows (form_of rows (slot_of halt.view)) (Some slot)) (less : ℕ) (lower : less ≡ halt.room - 5) where
  abbrev s : Slot
  s = slot_of halt.view

  same : x.elem ≡ slot
  same = same_Some x.elem slot (sym (ap element_of x.entered.hamt.4) ∙ is.0)

  pub entered : IsEntered rows p front s slot x.ps
  entered = subst (λ e. IsEntered rows p front s e x.ps) same x.entered

  -- the shape of the HAMT
  abbrev pub shape : HamtShape
  shape = entered.hamt.3

  pub left : halt.room ≡ less + 5
  left = let five : 5 ≤ halt.room = levels_fit rows halt.room s x.ps (T.Map entered.hamt.0 entered.hamt.1 slot entered.hamt.2 (MF.Hamt shape)) entered.hamt.4 x.held.fits in omega (arith, five, lower)

  pub tries : (es : List (List ℕ × Data)) × IsTrieIn h shape rows was slot x.ps x.tree es
  tries = hamts_are_tries h rows x.schema was halt.room less x.low s slot x.tree x.ps entered.hamt left x.held

  abbrev pub es : List (List ℕ × Data)
  es = tries.0

  abbrev pub is_key : ℕ → List ℕ → Bool
  is_key = (schemas_have_tests rows x.schema).0.is_key

  abbrev pub can : CanEnter h rows is_key was s slot less x.tree x.ps es
  can = record { schema = x.schema; keys = (schemas_have_tests rows x.schema).1.keys; hamt = entered.hamt; held = subst (λ n. IsHeld (block_at was) h rows n s x.tree (map x.ps)) left x.held; trie = tries.1 }

  module _ (m n : Moment) (gets : n.gets ≤ m.gets + length (way h shape key (trie_levels shape) 0 es)) where
    abbrev After : Option InSlot → ℕ
    After o = option_map_or (λ q. met_on h rows q behind) o 0

    all_met : (o : Option InSlot) → part (seen rows (s, map x.ps)) key ≡ o → met_on h rows p path ≡ length (way h shape key (trie_levels shape) 0 es) + After o
    all_met o e = x.counts ∙ ap (λ c. c + After (part (seen rows (s, map x.ps)) key)) (counts_way h rows was s slot x.ps x.tree es entered.hamt tries.1 key) ∙ ap (λ o. length (way h shape key (trie_levels shape) 0 es) + After o) e

    within : n.gets ≤ m.gets + met_on h rows p path
    within = let all = all_met (part (seen rows (s, map x.ps)) key) refl in omega (arith, gets, all)

    pub goes_wrong : (e : HamtFault) → EnterAnswer h shape rows was slot less x.tree x.ps es key m (Err e) n → GoesIn h rows was limit p path m (Err e) n
    goes_wrong F.Store a = (a, within)
    goes_wrong F.Memory a = within
    goes_wrong (F.Block id why) a = absurd a
    goes_wrong F.Exhausted a = absurd a
    goes_wrong F.NoKey a = absurd a
    goes_wrong F.Size a = absurd a
    goes_wrong (F.Clash id kept new) a = absurd a

    none_at : (o : Option Value) → EntryThere h rows was slot less o None → o ≡ None
    none_at None a = refl
    none_at (Some w) a = absurd a

    pub goes_none : (stand : Stand) → stand.front ≡ front → stand.left.now ≡ halt.left.now → stand.room ≡ halt.room → EntryThere h rows was slot less (value_at key (pairs_list x.ps)) None → GoesIn h rows was limit p path m (Ok (L.Stops stand)) n
    goes_none stand a b c there =
        let none = part_is rows s slot x.ps entered.hamt key ∙ ap (option_map {U = InSlot} (λ w. (slot, w))) (none_at (value_at key (pairs_list x.ps)) there) in
        let all : stand.left.now ≡ key ∷ behind = b ∙ x.left in (
          (
            (s, map x.ps),
            record {
              inside = ap (λ f. in_one_block rows p f) a ∙ entered.inside;
              there = ap (at rows p) a ∙ entered.at;
              split = x.split ∙ (λ i. sym a i ++ sym all i);
              stops =
                  x.stops (s, map x.ps) entered.at ∙ ap (λ o. option_map_or (λ q. stopped rows q behind) o (record { part = (s, map x.ps); left = key ∷ behind })) none
                  ∙ ap (λ xs. record { part = (s, map x.ps); left = xs }) (sym all);
              room_is = c ∙ x.room_is ∙ ap (room_at rows limit p) (sym a);
            },
          ),
          within,
        )

    value_of_entry : (o : Option Value) (e : Entry) → EntryThere h rows was slot less o (Some e) → (w : Value) × (o ≡ Some w) × IsValueThere h rows was slot less w e
    value_of_entry None e a = absurd a
    value_of_entry (Some w) e a = (w, refl, a)

    pub goes_on : (hop : Hop) → hop.front ≡ front → IsUtf8 key → ((slots : List TrieSlot) → IsRoot shape slots x.tree → IsTrailOf h shape key slots es hop.trail) → EntryThere h rows was slot less (value_at key (pairs_list x.ps)) (Some hop.entry)
        → (rest : List (List ℕ)) → rest ≡ behind → (room : ℕ) → room ≡ less → (q : InSlot) × PassesTo h rows was limit p path hop rest q room × (n.gets + met_on h rows q rest ≤ m.gets + met_on h rows p path)
    goes_on hop a utf8 found there rest b room c =
        let v = value_of_entry (value_at key (pairs_list x.ps)) hop.entry there in
        let roots = some_slots h shape rows was slot x.ps x.tree es tries.1 in
        let k : hop.trail.key ≡ key = (found roots.0 roots.1).key in
        let there = part_is rows s slot x.ps entered.hamt key ∙ ap (option_map {U = InSlot} (λ w. (slot, w))) v.1 in
        let all = all_met (Some (slot, v.0)) there in
        let last : met_on h rows (slot, v.0) rest ≡ met_on h rows (slot, v.0) behind = ap (met_on h rows (slot, v.0)) b in (
          (slot, v.0),
          record {
            is = record {
              slot = s;
              ps = x.ps;
              es = es;
              root = x.tree;
              entered = record { inside = ap (λ f. in_one_block rows p f) a ∙ entered.inside; at = ap (at rows p) a ∙ entered.at; hamt = entered.hamt };
              left = ap (room_at rows limit p) a ∙ sym x.room_is ∙ left ∙ ap (λ i. i + 5) (sym c);
              data_is = x.held.tree;
              trie = tries.1;
              utf8 = subst IsUtf8 (sym k) utf8;
              trail = subst (λ i. (slots : List TrieSlot) → IsRoot shape slots x.tree → IsTrailOf h shape i slots es hop.trail) (sym k) found;
              value = ap (λ i. value_at i (pairs_list x.ps)) k ∙ v.1;
              there = subst (λ i. IsValueThere h rows was slot i v.0 hop.entry) (sym c) v.2;
            };
            split = x.split ∙ (λ i. sym a i ++ (sym k i ∷ sym b i));
          },
          omega (arith, gets, all, last),
        )
