-- Whether a HAMT has no trie with the part that comes to the end of a path (IPLD HashMap).
use Rattle.std.proofs.Common.{cond, ◌≡◌, ℕ, List, [], ◌∷◌, ◌++◌, append-nil, map, Bool, true, false, is_some, Option, Some, None, refl, ap, sym, ◌∙◌, subst}
use Rattle.std.specs.Prelude.{◌&&◌, is_none, not, option_and_then}
use Rattle.std.specs.FinMap.{find, put as insert}
use Rattle.std.specs.Option.{option_map_or}
use Rattle.std.proofs.Math.Nat.{sub-zero}
use Rattle.std.proofs.lemmas.Option.{none-some, same_Some}
use Rattle.ild_data.proofs.Rising.{rises_put}
use Rattle.ild_data.specs.ByteOrder.{bytewise, in_byte_order}
use Rattle.ild_data.specs.Data.{Data}
use Rattle.ild_data.specs.Key.{Rises, put, value_at}
use Rattle.ild_data.specs.Trie.{node_of, trie}
use Rattle.ild_data.specs.TrieShape.{trie_levels}
use Rattle.ild_hamt_trie.proofs.Node.{trie-sorted}
use Rattle.ild_hamt_trie.proofs.Parts.{find-sorted}
use Rattle.ild_path_edits.specs.Edit.{new_slot}
use Rattle.ild_path_edits.specs.Table.{insert_part, slot_to_insert, slot_to_set}
use Rattle.ild_path_entered.proofs.Editing.{entry_part, hamt_seen, through_at}
use Rattle.ild_path_entered.specs.Entered.{path_through, with_entry}
use Rattle.ild_path_held.proofs.Orders.{once, same_find, sorted_put}
use Rattle.ild_path_held.proofs.Tries.{put_data}
use Rattle.ild_path_held.specs.Hamts.{IsTrieIn, IsValueOf}
use Rattle.ild_path_hops.proofs.Hopping.{hops_pass}
use Rattle.ild_path_hops.specs.Hops.{AreHops, front_of, key_of, step_of}
use Rattle.ild_path_hops.specs.declared.hop.Hop.{Hop}
use Rattle.ild_path_place.specs.Places.{through}
use Rattle.ild_path_judged.proofs.Filled.{no_map}
use Rattle.ild_path_judged.proofs.Tries.{some_is, trie_put}
use Rattle.ild_path_judged.specs.Place.{bringing, exhausts_at, last_in, last_of}
use Rattle.ild_path_nodes.specs.NodeLaws.{IsHamt}
use Rattle.ild_path_place.specs.Comes.{comes}
use Rattle.ild_path_place.specs.Exhausting.{Exhausts}
use Rattle.ild_path_place.specs.Parts.{end_in, verb_in}
use Rattle.ild_path_place.specs.Places.{EndsAt, IsPlace}
use Rattle.ild_path_place.specs.Tells.{slot_in}
use Rattle.ild_path_place.specs.declared.place.End.{End}
use Rattle.ild_path_place.specs.declared.place.End.TheVariants as D
use Rattle.ild_path_place.specs.declared.place.Place.{Place}
use Rattle.ild_path_place.specs.declared.verb.Verb.{Verb}
use Rattle.ild_path_room.specs.Room.{Coming, brought, by_insert, by_set, slot_for}
use Rattle.ild_path_tells.proofs.Lasting.{Begins, begins_with, last_behind, last_step, slot_at_last, told_at, untold_at}
use Rattle.ild_path_tells.specs.Facts.{verb_of}
use Rattle.ild_schema.specs.declared.def.MapForm.TheVariants as MF
use Rattle.ild_schema.specs.declared.def.TypeDef.{TypeDef}
use Rattle.ild_schema.specs.declared.def.TypeDef.TheVariants as T
use Rattle.ild_schema.specs.declared.number.Slot.{Slot}
use Rattle.ild_schema.specs.declared.row.Row.{Row}
use Rattle.ild_schema.specs.Slots.{form_of}
use Rattle.ild_schema.specs.Value as W
use Rattle.ild_schema.specs.Value.{Pairs, Value, pairs_list, pairs_of}
use Rattle.ild_typed.specs.At.{InSlot, at, seen}
use Rattle.ild_typed.specs.Hamt.{whole}
use Rattle.ild_typed.specs.Holder.{Holder, value_of}
use Rattle.ild_typed.specs.Judged.{is_exhausted, map_exhausts}
use Rattle.ild_typed.specs.Represented.{represented, represented_pairs}
use Rattle.ild_typed.specs.Segment.{part, set_part}
use Rattle.ild_typed_fronts.proofs.Pathing.{holder_back, insert_root, pairs_back, set_root}
use Rattle.ild_typed_fronts.specs.Front.{in_one_block, is_hamt, is_root, stands_as_root}

none_not : (o : Option Data) → is_none o ≡ not (is_some o)
none_not None = refl
none_not (Some t) = refl

and_true : (a b : Bool) → b ≡ true → (a && b) ≡ a
and_true true b e = e
and_true false b e = refl

comes_so : (how : Coming) → comes (verb_of how) ≡ true
comes_so by_set = refl
comes_so by_insert = refl

-- ---- what is no HAMT has no trie to lose

map_rootless : (h : List ℕ → List ℕ) (rows : List Row) (F : Option TypeDef) (ps : Pairs) → is_hamt F ≡ false → is_exhausted h rows F (W.map ps) ≡ false
map_rootless h rows None ps e = refl
map_rootless h rows (Some (T.Map key key_at elem place (MF.Hamt shape))) ps e = absurd cc
map_rootless h rows (Some (T.Map key key_at elem place f)) ps e = refl
map_rootless h rows (Some d) ps e = refl

rootless : (h : List ℕ → List ℕ) (rows : List Row) (F : Option TypeDef) (v : Value) → stands_as_root F v ≡ false → is_exhausted h rows F v ≡ false
rootless h rows F (W.map ps) e = map_rootless h rows F ps e
rootless h rows F W.null e = no_map h rows F W.null tt
rootless h rows F (W.boolean b) e = no_map h rows F (W.boolean b) tt
rootless h rows F (W.integer n) e = no_map h rows F (W.integer n) tt
rootless h rows F (W.text s) e = no_map h rows F (W.text s) tt
rootless h rows F (W.bytes s) e = no_map h rows F (W.bytes s) tt
rootless h rows F (W.link s) e = no_map h rows F (W.link s) tt
rootless h rows F (W.list vs) e = no_map h rows F (W.list vs) tt
rootless h rows F (W.struct os) e = no_map h rows F (W.struct os) tt
rootless h rows F (W.union n v) e = no_map h rows F (W.union n v) tt
rootless h rows F (W.enum n) e = no_map h rows F (W.enum n) tt
rootless h rows F W.unit e = no_map h rows F W.unit tt
rootless h rows F (W.any d) e = no_map h rows F (W.any d) tt
rootless h rows F (W.hamt d) e = no_map h rows F (W.hamt d) tt

brought_root : (G : Option TypeDef) (how : Coming) (k : Holder) (s : List ℕ) (w : Value) → stands_as_root G (value_of k) ≡ false → stands_as_root G (value_of (brought how w k s)) ≡ false
brought_root G by_set k s w e = set_root G k s w e
brought_root G by_insert k s w e = insert_root G k s w e

plain_by : (b c : Bool) → (not b && c) ≡ true → (b ≡ false) × (c ≡ true)
plain_by true c e = absurd cc
plain_by false c e = (refl, e)

module _ (h : List ℕ → List ℕ) (rows : List Row) where
  abbrev exhausted : Option TypeDef → Value → Bool
  exhausted = is_exhausted h rows

  -- the last part of a path in one block is no HAMT
  plain_last : (ss : List (List ℕ)) (q : InSlot) (s : List ℕ) (m : InSlot × List ℕ) → in_one_block rows q (s ∷ ss) ≡ true → last_in rows q s ss ≡ Some m → is_root rows m.0 ≡ false
  plain_last [] q s m one e = ap (λ (l : InSlot × List ℕ). is_root rows l.0) (sym (same_Some (q, s) m e)) ∙ (plain_by (is_root rows q) _ one).0
  plain_last (t ∷ ss) q s m one e = by (part (seen rows q) s) (plain_by (is_root rows q) _ one).1 e (λ r inside there. plain_last ss r t m inside there) where
    by : (o : Option InSlot) → option_map_or (λ r. in_one_block rows r (t ∷ ss)) o true ≡ true → option_and_then (λ r. last_in rows r t ss) o ≡ Some m
        → ((r : InSlot) → in_one_block rows r (t ∷ ss) ≡ true → last_in rows r t ss ≡ Some m → is_root rows m.0 ≡ false) → is_root rows m.0 ≡ false
    by None inside none rest = absurd (none-some m none)
    by (Some r) inside there rest = rest r inside there

  plain_full : (how : Coming) (q : InSlot) (s : List ℕ) (w : Value) → is_root rows q ≡ false → exhausted (form_of rows q.0) (value_of (brought how w (seen rows q) s)) ≡ false
  plain_full how q s w plain =
      rootless h rows (form_of rows q.0) (value_of (brought how w (seen rows q) s))
      (brought_root (form_of rows q.0) how (seen rows q) s w (ap (stands_as_root (form_of rows q.0)) (holder_back rows q.0 q.1) ∙ plain))

  -- ---- a HAMT with an entry put

  module _ (was : List (List ℕ)) (slot elem : Slot) (ps : Pairs) (root : Data) (es : List (List ℕ × Data)) (is : IsHamt rows slot elem) (x : IsTrieIn h is.3 rows was elem ps root es) (k : List ℕ) where
    abbrev Own : InSlot
    Own = (slot, W.map ps)

    tries : (xs : List (List ℕ × Data)) → Rises xs → trie h is.3 xs 0 ≡ node_of h is.3 (trie_levels is.3) 0 (in_byte_order xs)
    tries xs up = trie-sorted h is.3 xs 0 (once xs up) ∙ ap (λ l. node_of h is.3 l 0 (in_byte_order xs)) (sub-zero (trie_levels is.3))

    -- its values' slot is that of what comes
    slot_is : (how : Coming) (u : Slot) → slot_for how (seen rows Own) k ≡ Some u → elem ≡ u
    slot_is by_set u e = same_Some elem u (sym (ap (λ K. slot_to_set K k) (hamt_seen rows slot elem ps is)) ∙ e)
    slot_is by_insert u e = by (value_at k (pairs_list ps)) (sym (ap (λ K. slot_to_insert K k) (hamt_seen rows slot elem ps is)) ∙ e) where
      by : (o : Option Value) → cond (is_some o) None (Some elem) ≡ Some u → elem ≡ u
      by None f = same_Some elem u f
      by (Some v) f = absurd (none-some u f)

    brought_is : (how : Coming) (w : Value) → value_of (brought how w (seen rows Own) k) ≡ with_entry k w ps
    brought_is by_set w = ap (λ K. value_of (set_part K k w)) (hamt_seen rows slot elem ps is)
    brought_is by_insert w = ap (λ K. value_of (insert_part K k w)) (hamt_seen rows slot elem ps is)

    module _ (w : Value) (d : Data) (new : represented (whole h) rows elem w ≡ Some d) where
      data_put : represented_pairs (whole h) rows elem (pairs_of (put k w (pairs_list ps))) ≡ Some (put k d x.pairs)
      data_put = put_data h rows elem k w d (pairs_list ps) x.pairs new (ap (represented_pairs (whole h) rows elem) (pairs_back ps) ∙ x.represents)

      by_trie : (how : Coming) → exhausted (form_of rows slot) (value_of (brought how w (seen rows Own) k)) ≡ is_none (trie h is.3 (put k d x.pairs) 0)
      by_trie how = ap (exhausted (form_of rows slot)) (brought_is how w) ∙ ap (λ F. exhausted F (with_entry k w ps)) is.4 ∙ ap (map_exhausts h (MF.Hamt is.3)) data_put

      sorted : trie h is.3 (put k d x.pairs) 0 ≡ node_of h is.3 (trie_levels is.3) 0 (insert bytewise k d es)
      sorted =
          tries (put k d x.pairs) (rises_put k d x.pairs x.rises)
          ∙ ap (node_of h is.3 (trie_levels is.3) 0) (sym (ap (insert bytewise k d) x.order ∙ sorted_put k d x.pairs))

      -- by the entries in bytewise order
      pub by_node : (how : Coming) → exhausted (form_of rows slot) (value_of (brought how w (seen rows Own) k)) ≡ not (is_some (node_of h is.3 (trie_levels is.3) 0 (insert bytewise k d es)))
      by_node how = by_trie how ∙ none_not (trie h is.3 (put k d x.pairs) 0) ∙ ap (λ o. not (is_some o)) sorted

      -- ---- an entry that was there

      tried : is_some (trie h is.3 x.pairs 0) ≡ true
      tried = ap is_some (tries x.pairs x.rises ∙ ap (node_of h is.3 (trie_levels is.3) 0) (sym x.order) ∙ x.is_node)

      data_there : (v : Value) → value_at k (pairs_list ps) ≡ Some v → (e : Data) × (value_at k x.pairs ≡ Some e)
      data_there v there = by (find bytewise k es) (subst (λ o. IsValueOf h rows elem o (find bytewise k es)) there (x.found k)) found where
        found : find bytewise k es ≡ value_at k x.pairs
        found = ap (find bytewise k) x.order ∙ find-sorted k x.pairs ∙ same_find k x.pairs

        by : (o : Option Data) → IsValueOf h rows elem (Some v) o → o ≡ value_at k x.pairs → (e : Data) × (value_at k x.pairs ≡ Some e)
        by None is e = absurd is
        by (Some t) is e = (t, sym e)

      pub replaced : (v : Value) → value_at k (pairs_list ps) ≡ Some v → (how : Coming) → exhausted (form_of rows slot) (value_of (brought how w (seen rows Own) k)) ≡ false
      replaced v there how = let e = data_there v there in by_trie how ∙ some_is (trie h is.3 (put k d x.pairs) 0) (trie_put h is.3 x.pairs x.rises tried k d e.0 e.1)

  -- ---- a path to a HAMT and its key

  module _ (was : List (List ℕ)) where
    through_begins : (hop : Hop) (hops : List Hop) → Begins (through (hop ∷ hops))
    through_begins hop hops = begins_with (front_of hop) (key_of hop ∷ through hops) (record { first = key_of hop; more = through hops; is = refl })

    through_same : (hops : List Hop) → through hops ≡ path_through (map step_of hops)
    through_same [] = refl
    through_same (hop ∷ hops) = ap (λ xs. front_of hop ++ (key_of hop ∷ xs)) (through_same hops)

    leads : (hops : List Hop) (room less : ℕ) (p q : InSlot) → AreHops h rows was room p hops q less → at rows p (through hops) ≡ Some q
    leads hops room less p q all = ap (at rows p) (through_same hops) ∙ through_at rows (map step_of hops) p q (hops_pass h rows was room less p q hops all)

    -- the last segment is the key of an entry
    record AtEntry (p : InSlot) (path : List (List ℕ)) : Type 0 where
      slot : Slot
      elem : Slot
      ps : Pairs
      root : Data
      es : List (List ℕ × Data)
      key : List ℕ
      value : Value
      hamt : IsHamt rows slot elem
      holds : IsTrieIn h hamt.3 rows was elem ps root es
      last : last_of rows p path ≡ Some ((slot, W.map ps), key)
      there : value_at key (pairs_list ps) ≡ Some value

    at_entry : (hop : Hop) (hops : List Hop) (room less : ℕ) (p q : InSlot) → AreHops h rows was room p (hop ∷ hops) q less → AtEntry p (through (hop ∷ hops))
    at_entry hop [] room less p q (mid, between, first, rest) = record {
      slot = first.slot;
      elem = mid.0;
      ps = first.ps;
      root = first.root;
      es = first.es;
      key = key_of hop;
      value = mid.1;
      hamt = first.entered.hamt;
      holds = first.trie;
      last = last_behind rows (front_of hop) (key_of hop ∷ []) (record { first = key_of hop; more = []; is = refl }) p (first.slot, W.map first.ps) first.entered.at;
      there = first.value;
    }
    at_entry hop (next ∷ hops) room less p q (mid, between, first, rest) =
        let y = at_entry next hops between less mid q rest in
        let more = through (next ∷ hops) in
        record {
          slot = y.slot;
          elem = y.elem;
          ps = y.ps;
          root = y.root;
          es = y.es;
          key = y.key;
          value = y.value;
          hamt = y.hamt;
          holds = y.holds;
          last = last_behind rows (front_of hop) (key_of hop ∷ more) (record { first = key_of hop; more = more; is = refl }) p (first.slot, W.map first.ps) first.entered.at
              ∙ last_step rows (first.slot, W.map first.ps) (key_of hop) more (through_begins next hops)
              ∙ ap (option_and_then (λ r. last_of rows r more)) (entry_part rows first.slot mid.0 first.ps first.entered.hamt (key_of hop) mid.1 first.value) ∙ y.last;
          there = y.there;
        }

    -- ---- a part that comes to a place

    module _ (p : InSlot) (path : List (List ℕ)) (u : Slot) (how : Coming) (w : Value) (d : Data) (there : new_slot rows p (bringing how path w) ≡ Some u) (new : represented (whole h) rows u w ≡ Some d) where
      -- the data of what comes, in the slot of a HAMT's values
      module _ (slot elem : Slot) (ps : Pairs) (root : Data) (es : List (List ℕ × Data)) (is : IsHamt rows slot elem) (x : IsTrieIn h is.3 rows was elem ps root es) (k : List ℕ) (last : last_of rows p path ≡ Some ((slot, W.map ps), k)) where
        of_values : represented (whole h) rows elem w ≡ Some d
        of_values =
            let same = slot_is was slot elem ps root es is x k how u (sym (slot_at_last rows how p path w ((slot, W.map ps), k) last) ∙ there) in
            ap (λ s. represented (whole h) rows s w) same ∙ new

        told : exhausts_at h rows p (bringing how path w) ≡ exhausted (form_of rows slot) (value_of (brought how w (seen rows (slot, W.map ps)) k))
        told = told_at rows exhausted p path how w ((slot, W.map ps), k) last

      -- the value of the last hop's entry
      whole_full : (hops : List Hop) (less : ℕ) (q : InSlot) → AreHops h rows was 96 p hops q less → path ≡ through hops → exhausts_at h rows p (bringing how path w) ≡ false
      whole_full [] less q all e = untold_at rows exhausted p path how w (ap (last_of rows p) e)
      whole_full (hop ∷ hops) less q all e =
          let y = at_entry hop hops 96 less p q all in
          let last : last_of rows p path ≡ Some ((y.slot, W.map y.ps), y.key) = ap (last_of rows p) e ∙ y.last in
          let made = of_values y.slot y.elem y.ps y.root y.es y.hamt y.holds y.key last in
          told y.slot y.elem y.ps y.root y.es y.hamt y.holds y.key last ∙ replaced was y.slot y.elem y.ps y.root y.es y.hamt y.holds y.key w d made y.value y.there how

      -- in a block
      block_full : (q : InSlot) (s : List ℕ) (ss : List (List ℕ)) → in_one_block rows q (s ∷ ss) ≡ true → last_of rows p path ≡ last_of rows q (s ∷ ss) → exhausts_at h rows p (bringing how path w) ≡ false
      block_full q s ss inside e = by (last_in rows q s ss) refl where
        by : (o : Option (InSlot × List ℕ)) → last_in rows q s ss ≡ o → exhausts_at h rows p (bringing how path w) ≡ false
        by None is = untold_at rows exhausted p path how w (e ∙ is)
        by (Some m) is = told_at rows exhausted p path how w m (e ∙ is) ∙ plain_full how m.0 m.1 w (plain_last ss q s m inside is)

-- of any place
module _ (h : List ℕ → List ℕ) (rows : List Row) (was : List (List ℕ)) (p : InSlot) (path : List (List ℕ)) (verb : Verb) (place : Place) (x : IsPlace h rows was p path verb place)
    (how : Coming) (w : Value) (d : Data) (is_how : verb ≡ verb_of how) (there : new_slot rows p (bringing how path w) ≡ Some (slot_in place)) (new : represented (whole h) rows (slot_in place) w ≡ Some d) where
  comes_there : comes (verb_in place) ≡ true
  comes_there = ap comes (x.verb_is ∙ is_how) ∙ comes_so how

  inner : at rows p (through place.hops.items) ≡ Some x.inner
  inner = leads h rows was place.hops.items 96 x.less p x.inner x.hops_are

  behind : (rest : List (List ℕ)) → Begins rest → x.rest ≡ rest → last_of rows p path ≡ last_of rows x.inner rest
  behind rest b e = ap (last_of rows p) (x.split ∙ ap (λ xs. through place.hops.items ++ xs) e) ∙ last_behind rows (through place.hops.items) rest b p x.inner inner

  of_end : (end : End) → EndsAt h rows was x.less x.inner x.rest end → (b : Bool) → Exhausts (verb_in place) end b → b ≡ exhausts_at h rows p (bringing how path w)
  of_end D.Whole e b is =
      let all : path ≡ through place.hops.items = x.split ∙ ap (λ xs. through place.hops.items ++ xs) e ∙ append-nil (through place.hops.items) in
      is ∙ sym (whole_full h rows was p path (slot_in place) how w d there new place.hops.items x.less x.inner x.hops_are all)
  of_end (D.InBlock inside) e b is =
      let s = (e.2).0 in
      let ss = (e.2).1 in
      let rest : x.rest ≡ s ∷ ss = (e.2).2 in
      let one : in_one_block rows x.inner (s ∷ ss) ≡ true = sym (ap (in_one_block rows x.inner) rest) ∙ e.1 in
      is ∙ sym (block_full h rows was p path (slot_in place) how w d there new x.inner s ss one (behind (s ∷ ss) (record { first = s; more = ss; is = refl }) rest))
  of_end (D.AtKey front trail entry) e b is =
      let y = e.0 in
      let key = trail.key in
      let one : Begins (key ∷ []) = record { first = key; more = []; is = refl } in
      let last : last_of rows p path ≡ Some ((y.slot, W.map y.ps), key) =
      behind (front ++ key ∷ []) (begins_with front (key ∷ []) one) e.1 ∙ last_behind rows front (key ∷ []) one x.inner (y.slot, W.map y.ps) y.entered.at in
      let made = of_values h rows was p path (slot_in place) how w d there new y.slot y.elem y.ps y.root y.es y.entered.hamt y.trie key last in
      is h rows was x.less x.inner y d ∙ and_true _ (comes (verb_in place)) comes_there
      ∙ sym (told h rows was p path (slot_in place) how w d there new y.slot y.elem y.ps y.root y.es y.entered.hamt y.trie key last ∙ by_node h rows was y.slot y.elem y.ps y.root y.es y.entered.hamt y.trie key w d made how)

  pub exhausted_is : (b : Bool) → Exhausts (verb_in place) (end_in place) b → b ≡ exhausts_at h rows p (bringing how path w)
  exhausted_is b is = of_end place.end x.ends b is
