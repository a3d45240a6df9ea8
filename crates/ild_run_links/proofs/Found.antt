-- The view of the link that stands at a place.
use Rattle.std.proofs.Common.{◌≡◌, ℕ, ◌-◌, true, List, [], ◌∷◌, ◌++◌, map, length, slice_get, Option, Some, None, option_map, IsSome, refl, sym, ap, ◌∙◌, subst}
use Rattle.std.specs.Prelude.{is_some, option_and_then}
use Rattle.std.proofs.lemmas.Option.{none-some, same_Some}
use Rattle.ild_data.specs.Data.{Data}
use Rattle.ild_data.specs.Key.{value_at}
use Rattle.ild_data.specs.declared.id.BlockId.{BlockId}
use Rattle.ild_edges.specs.Store.{block_at}
use Rattle.ild_open_held.specs.Held.{IsHeld}
use Rattle.ild_path_edits.proofs.RoomTests.{schemas_have_tests}
use Rattle.ild_path_enter.specs.Enters.{EntryThere}
use Rattle.ild_path_entered.proofs.Editing.{hamt_seen, through_at}
use Rattle.ild_path_entry.specs.Entry.{IsEntry, data_in, slot_in, table_in}
use Rattle.ild_path_entry.specs.declared.entry.Entry.{Entry}
use Rattle.ild_path_hops.proofs.Hopping.{hops_pass}
use Rattle.ild_path_hops.proofs.Linking.{at_last, none_last}
use Rattle.ild_path_hops.specs.HopLaws.{path_of_hops}
use Rattle.ild_path_hops.specs.Hops.{front_of, key_of, step_of}
use Rattle.ild_path_hops.specs.Links.{IsBehind}
use Rattle.ild_path_hops.specs.declared.hop.Hop.{Hop}
use Rattle.ild_path_inward.proofs.Inwarding.{can_go_on}
use Rattle.ild_path_inward.specs.Inwards.{CanGoOn, through}
use Rattle.ild_path_place.specs.Places.{EndsAt, IsPlace}
use Rattle.ild_path_place.specs.Rooted.{IsRootedAt}
use Rattle.ild_path_place.specs.Tells.{root_at}
use Rattle.ild_path_place.specs.Viewing.{ViewsEntry, ViewsPart}
use Rattle.ild_path_place.specs.declared.place.End.{End}
use Rattle.ild_path_place.specs.declared.place.End.TheVariants as D
use Rattle.ild_path_place.specs.declared.place.Place.{Place}
use Rattle.ild_path_place.specs.declared.verb.Verb.TheVariants as V
use Rattle.ild_path_within.proofs.Splitting.{paths_split}
use Rattle.ild_run_links.proofs.Inner.{front_link}
use Rattle.ild_run_links.specs.Links.{link_in, link_to}
use Rattle.ild_run_links.specs.inside.Ends.{named}
use Rattle.ild_schema.specs.Value as W
use Rattle.ild_schema.specs.Value.{Value, pairs_list}
use Rattle.ild_schema.specs.declared.number.Slot.{Slot}
use Rattle.ild_schema.specs.declared.number.TypeNo.{TypeNo}
use Rattle.ild_schema.specs.declared.row.Row.{Row}
use Rattle.ild_typed.specs.At.{InSlot, at, seen}
use Rattle.ild_typed.specs.Fits.{Front}
use Rattle.ild_typed.specs.Schema.{IsSchema}
use Rattle.ild_typed.specs.Segment.{part}
use Rattle.ild_typed_fronts.proofs.Pathing.{paths_of_fronts}
use Rattle.ild_typed_fronts.proofs.Representing.{fronts_are_fronts}
use Rattle.ild_typed_fronts.specs.Front.{front as front_value, front_in}
use Rattle.ild_view.proofs.Opening.{safe_is}
use Rattle.ild_view.specs.Parts.{HandsOut, IsPartView}
use Rattle.ild_view.specs.Safe.{is_safe}
use Rattle.ild_view.specs.View.{IsView, slot_of, table_of}
use Rattle.ild_view.specs.declared.view.View.{View}

through_is : (hops : List Hop) → through hops ≡ path_of_hops hops
through_is [] = refl
through_is (hop ∷ hops) = ap (λ p. front_of hop ++ (key_of hop ∷ p)) (through_is hops)

-- the view of a part's front
pub record IsFound (h : List ℕ → List ℕ) (rows : List Row) (q : InSlot) (o : Option View) : Type 0 where
  pub view : View
  pub is : o ≡ Some view
  pub shows : IsPartView rows (front_in h rows q) view

handed : (h : List ℕ → List ℕ) (rows : List Row) (q : InSlot) (o : Option View) → HandsOut rows (Some (front_in h rows q)) o → IsFound h rows q o
handed h rows q None x = absurd x
handed h rows q (Some w) x = record { view = w; is = refl; shows = x }

-- an entry's value has this front
entry_front : (h : List ℕ → List ℕ) (rows : List Row) (was : List (List ℕ)) (schema : IsSchema rows) (room : ℕ) (q : InSlot) (t : Data) (e : Entry) → IsHeld (block_at was) h rows room q.0 t q.1 → IsEntry rows q.0 room t e
    → Front (table_in e) room (slot_in e) (front_value h rows q.0 q.1) (data_in e)
entry_front h rows was schema room q t e held x =
    let safe : is_safe rows q.0 ≡ true = (λ i. is_safe (sym x.table i) (sym x.slot i)) ∙ e.safe in
    let own : Front rows room q.0 (front_value h rows q.0 q.1) t = fronts_are_fronts h rows schema room q.0 q.1 t (safe_is rows q.0 safe) held.fits held.tree in
    subst (λ d. Front (table_in e) room (slot_in e) (front_value h rows q.0 q.1) d) (sym x.tree)
    (subst (λ s. Front (table_in e) room s (front_value h rows q.0 q.1) t) (sym x.slot) (subst (λ r. Front r room q.0 (front_value h rows q.0 q.1) t) (sym x.table) own))

module _ (h : List ℕ → List ℕ) (rows : List Row) (was : List (List ℕ)) (p : InSlot) (path : List (List ℕ)) (place : Place) (rooted : IsRootedAt h rows was p place) (x : IsPlace h rows was p path V.Set place) (q : InSlot) (there : at rows p path ≡ Some q) where
  abbrev Hops : List Hop
  Hops = place.hops.items

  inner_there : at rows p (through Hops) ≡ Some x.inner
  inner_there = ap (at rows p) (through_is Hops) ∙ through_at rows (map step_of Hops) p x.inner (hops_pass h rows was 96 x.less p x.inner Hops x.hops_are)

  rest_there : at rows x.inner x.rest ≡ Some q
  rest_there = sym (ap (at rows p) x.split ∙ paths_split rows p (through Hops) x.rest ∙ ap (option_and_then (λ r. at rows r x.rest)) inner_there) ∙ there

  on : (d : Data) × CanGoOn h rows was x.less x.inner d (root_at place) Hops
  on = can_go_on h rows was Hops 96 p x.inner x.less rooted.tree (root_at place) rooted.goes x.hops_are

  -- what is so of each front of the innermost block is so of that of its value
  of_inner : (Holds : List Row → InSlot → Type 0) → IsBehind Holds (root_at place) Hops → Holds rows (front_in h rows x.inner)
  of_inner Holds behind = by (slice_get Hops (length Hops - 1)) refl where
    by : (o : Option Hop) → o ≡ slice_get Hops (length Hops - 1) → Holds rows (front_in h rows x.inner)
    by None none =
        let top = on.1.top none in
        let f = front_value h rows x.inner.0 x.inner.1 in
        subst (λ s. Holds rows (s, f)) top.slot (subst (λ r. Holds r (slot_of (root_at place), f)) top.table (behind.top (none_last Hops none) f top.view))
    by (Some hop) is =
        let e = on.1.inner hop is in
        let f = front_value h rows x.inner.0 x.inner.1 in
        let own = entry_front h rows was on.1.schema x.less x.inner on.0 hop.entry on.1.held e in
        subst (λ s. Holds rows (s, f)) e.slot (subst (λ r. Holds r (slot_in hop.entry, f)) e.table (at_last Holds (root_at place) Hops hop is behind f x.less own))

  -- a path in the innermost block
  in_block : (o : Option View) (rest : List (List ℕ)) → rest ≡ x.rest → EndsAt h rows was x.less x.inner x.rest (D.InBlock rest) → HandsOut rows (at rows (front_in h rows x.inner) rest) o → IsFound h rows q o
  in_block o rest same e shown =
      let tests = schemas_have_tests rows on.1.schema in
      let lands : at rows (front_in h rows x.inner) rest ≡ Some (front_in h rows q) =
      ap (at rows (front_in h rows x.inner)) same ∙ paths_of_fronts h rows tests.0.is_key on.1.schema tests.1.keys x.inner x.rest (x.less, on.1.held.fits) e.1 ∙ ap (option_map (front_in h rows)) rest_there in
      handed h rows q o (subst (λ z. HandsOut rows z o) lands shown)

  -- the value of an entry
  of_entry : (elem : Slot) (less : ℕ) (w : Value) (o : Option View) (entry : Option Entry) → EntryThere h rows was elem less (Some w) entry → ViewsEntry entry o → IsFound h rows (elem, w) o
  of_entry elem less w o None e shown = absurd e
  of_entry elem less w None (Some entry) e shown = absurd shown
  of_entry elem less w (Some view) (Some entry) e shown =
      let own = entry_front h rows was on.1.schema less (elem, w) e.tree entry e.held e.entry in
      record {
        view = view;
        is = refl;
        shows = record { table = shown.table ∙ e.entry.table; slot = shown.slot ∙ e.entry.slot; view = shown.fronts (front_value h rows elem w) less own };
      }

  at_key : (o : Option View) (front : List (List ℕ)) (key : List ℕ) (slot elem : Slot) (ps : W.Pairs) → at rows x.inner front ≡ Some (slot, W.map ps) → x.rest ≡ front ++ (key ∷ []) → part (seen rows (slot, W.map ps)) key ≡ option_map (λ v. (elem, v)) (value_at key (pairs_list ps))
      → (w : Value) × (value_at key (pairs_list ps) ≡ Some w) × ((elem, w) ≡ q)
  at_key o front key slot elem ps lands split parts = by (value_at key (pairs_list ps)) refl where
    whole : option_and_then (λ r. at rows r []) (option_map {U = InSlot} (λ v. (elem, v)) (value_at key (pairs_list ps))) ≡ Some q
    whole =
        sym (ap (at rows x.inner) split ∙ paths_split rows x.inner front (key ∷ []) ∙ ap (option_and_then (λ r. at rows r (key ∷ []))) lands ∙ ap (option_and_then (λ r. at rows r [])) parts) ∙ rest_there

    by : (v : Option Value) → value_at key (pairs_list ps) ≡ v → (w : Value) × (value_at key (pairs_list ps) ≡ Some w) × ((elem, w) ≡ q)
    by None is = absurd (none-some q (sym (ap (λ v. option_and_then (λ r. at rows r []) (option_map {U = InSlot} (λ v. (elem, v)) v)) is) ∙ whole))
    by (Some w) is = (w, is, same_Some (elem, w) q (sym (ap (λ v. option_and_then (λ r. at rows r []) (option_map {U = InSlot} (λ v. (elem, v)) v)) is) ∙ whole))

  of_end : (end : End) (o : Option View) → EndsAt h rows was x.less x.inner x.rest end → ViewsPart (root_at place) Hops V.Set end o → IsFound h rows q o
  of_end D.Whole o e shown =
      let same : x.inner ≡ q = same_Some x.inner q (sym (ap (at rows x.inner) e) ∙ rest_there) in
      handed h rows q o (subst (λ (r : InSlot). HandsOut rows (Some (front_in h rows r)) o) same (of_inner (λ r s. HandsOut r (Some s) o) shown))
  of_end (D.InBlock rest) o e shown = in_block o rest e.0 e (of_inner (λ r s. HandsOut r (at r s rest) o) shown)
  of_end (D.AtKey front trail entry) o e shown =
      let y = e.0 in
      let parts : part (seen rows (y.slot, W.map y.ps)) trail.key ≡ option_map (λ v. (y.elem, v)) (value_at trail.key (pairs_list y.ps)) = ap (λ k. part k trail.key) (hamt_seen rows y.slot y.elem y.ps y.entered.hamt) in
      let found = at_key o front trail.key y.slot y.elem y.ps y.entered.at e.1 parts in
      subst (λ (r : InSlot). IsFound h rows r o) found.2 (of_entry y.elem y.less found.0 o entry (subst (λ v. EntryThere h rows was y.elem y.less v entry) found.1 y.there) shown)

  pub found_there : (o : Option View) → ViewsPart (root_at place) Hops V.Set place.end o → IsFound h rows q o
  found_there o shown = of_end place.end o x.ends shown

-- a link is shown where one stands
some_named : (r : Option (TypeNo × BlockId)) → IsSome (option_map named r) → is_some r ≡ true
some_named None some = absurd (cc some)
some_named (Some l) some = refl

pub shows_link : (h : List ℕ → List ℕ) (rows : List Row) (q : InSlot) (view : View) (r : Option (TypeNo × BlockId)) → IsSome (link_to rows q) → IsPartView rows (front_in h rows q) view
    → ((f : Value) → IsView view f → option_map named r ≡ link_in (table_of view) (slot_of view) f) → is_some r ≡ true
shows_link h rows q view r some x all =
    let f = front_value h rows q.0 q.1 in
    let own : option_map named r ≡ link_to rows q = subst (λ s. option_map named r ≡ link_in rows s f) x.slot (subst (λ t. option_map named r ≡ link_in t (slot_of view) f) x.table (all f x.view)) ∙ front_link h rows q.0 q.1 in
    some_named r (subst (λ (o : Option (TypeNo × List ℕ)). IsSome o) (sym own) some)
