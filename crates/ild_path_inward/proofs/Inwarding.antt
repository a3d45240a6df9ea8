-- The HAMTs on the way of a path, one behind another.
use Rattle.std.proofs.Common.{◌≡◌, ℕ, suc, ◌+◌, ◌-◌, ◌≤◌, List, [], ◌∷◌, ◌++◌, length, slice_get, true, Option, Some, None, Result, Ok, Err, refl, ap, sym, ◌∙◌, subst, arith}
use Rattle.std.specs.Prelude.{option_and_then, option_map}
use Rattle.std.specs.Option.{option_map_or}
use Rattle.std.proofs.lemmas.Option.{none-some, same_Some}
use Rattle.ild_data.specs.Data.{Data}
use Rattle.ild_edges.specs.Store.{Moment, block_at}
use Rattle.ild_node_slots.specs.declared.fault.HamtFault.{HamtFault}
use Rattle.ild_node_slots.specs.declared.fault.HamtFault.TheVariants as F
use Rattle.ild_open_held.specs.Held.{IsHeld}
use Rattle.ild_open_parts.specs.Reads.{OnlyReads}
use Rattle.ild_path_edits.specs.Stop.{stopped}
use Rattle.ild_path_enter.specs.Enters.{IsValueThere}
use Rattle.ild_path_entry.specs.Entry.{IsEntry}
use Rattle.ild_path_hops.specs.Hops.{AreHops, IsHop, front_of, key_of}
use Rattle.ild_path_hops.specs.declared.hop.Hop.{Hop}
use Rattle.ild_path_inward.proofs.Hamts.{room_less}
use Rattle.ild_view.proofs.Opening.{safe_is}
use Rattle.ild_path_inward.specs.Inwards.{CanGoOn, GoesInward, through}
use Rattle.ild_path_inward.specs.Levels.{CanGo, GoesIn, PassesTo, met_on}
use Rattle.ild_path_inward.specs.declared.inward.Inward.{Inward}
use Rattle.ild_path_inward.specs.declared.level.Level.TheVariants as L
use Rattle.ild_path_inward.specs.declared.level.Stand.{Stand}
use Rattle.ild_schema.specs.declared.row.Row.{Row}
use Rattle.ild_schema.specs.Value.{Value, map}
use Rattle.ild_typed.specs.At.{InSlot, at, seen}
use Rattle.ild_typed.specs.Fits.{Front}
use Rattle.ild_typed.specs.Holder.{map_holder}
use Rattle.ild_typed.specs.Segment.{part}
use Rattle.ild_typed_fronts.proofs.Representing.{fronts_are_fronts}
use Rattle.ild_path_held.specs.HeldEdits.{room_at}
use Rattle.ild_typed_fronts.specs.Front.{front, front_in, in_one_block}
use Rattle.ild_view.specs.Parts.{IsPartView}
use Rattle.ild_view.specs.Safe.{is_safe}
use Rattle.ild_view.specs.View.{IsView, slot_of, table_of}
use Rattle.ild_view.specs.declared.view.View.{View}

assoc : (xs ys zs : List (List ℕ)) → (xs ++ ys) ++ zs ≡ xs ++ (ys ++ zs)
assoc [] ys zs = refl
assoc (x ∷ xs) ys zs = ap (λ ws. x ∷ ws) (assoc xs ys zs)

through_more : (hops : List Hop) (hop : Hop) (rest : List (List ℕ)) → through (hops ++ hop ∷ []) ++ rest ≡ through hops ++ (front_of hop ++ (key_of hop ∷ rest))
through_more [] hop rest = assoc (front_of hop) (key_of hop ∷ []) rest
through_more (g ∷ gs) hop rest =
    assoc (front_of g) (key_of g ∷ through (gs ++ hop ∷ [])) rest ∙ ap (λ xs. front_of g ++ (key_of g ∷ xs)) (through_more gs hop rest)
    ∙ sym (assoc (front_of g) (key_of g ∷ through gs) (front_of hop ++ (key_of hop ∷ rest)))

-- a path leads on from the part at the end of its front
pub stopped_front : (rows : List Row) (front ss : List (List ℕ)) (p q : InSlot) → at rows p front ≡ Some q → stopped rows p (front ++ ss) ≡ stopped rows q ss
stopped_front rows [] ss p q e = ap (λ r. stopped rows r ss) (same_Some p q e)
stopped_front rows (s ∷ front) ss p q e = by (part (seen rows p) s) refl (λ r own. stopped_front rows front ss r q own) where
  by : (o : Option InSlot) → part (seen rows p) s ≡ o → ((r : InSlot) → at rows r front ≡ Some q → stopped rows r (front ++ ss) ≡ stopped rows q ss)
      → stopped rows p (s ∷ front ++ ss) ≡ stopped rows q ss
  by None is rest = absurd (none-some q (ap (option_and_then (λ r. at rows r front)) (sym is) ∙ e))
  by (Some r) is rest =
      ap (λ o. option_map_or (λ r. stopped rows r (front ++ ss)) o (record { part = p; left = s ∷ front ++ ss })) is ∙ rest r (ap (option_and_then (λ r. at rows r front)) (sym is) ∙ e)

module _ (h : List ℕ → List ℕ) (rows : List Row) (was : List (List ℕ)) where
  stopped_hop : (room : ℕ) (p : InSlot) (hop : Hop) (q : InSlot) (less : ℕ) (rest : List (List ℕ)) → IsHop h rows was room p hop q less → stopped rows p (front_of hop ++ (key_of hop ∷ rest)) ≡ stopped rows q rest
  stopped_hop room p hop q less rest x =
      let there : part (seen rows (x.slot, map x.ps)) (key_of hop) ≡ Some q =
      ap (λ G. part (map_holder G x.ps) (key_of hop)) x.entered.hamt.4 ∙ ap (option_map {U = InSlot} (λ w. (q.0, w))) x.value in
      stopped_front rows (front_of hop) (key_of hop ∷ rest) p (x.slot, map x.ps) x.entered.at
      ∙ ap (λ o. option_map_or (λ r. stopped rows r rest) o (record { part = (x.slot, map x.ps); left = key_of hop ∷ rest })) there

  pub one_more : (hops : List Hop) (limit : ℕ) (p q : InSlot) (room : ℕ) (hop : Hop) (r : InSlot) (less : ℕ) → AreHops h rows was limit p hops q room → IsHop h rows was room q hop r less → AreHops h rows was limit p (hops ++ hop ∷ []) r less
  one_more [] limit p q room hop r less e x = (r, less, subst (λ n. IsHop h rows was n p hop r less) (sym e.1) (subst (λ s. IsHop h rows was room s hop r less) (sym e.0) x), (refl, refl))
  one_more (g ∷ gs) limit p q room hop r less e x = (e.0, e.1, e.2, one_more gs e.1 e.0 q room hop r less e.3 x)

  room_lower : (hops : List Hop) (limit : ℕ) (p q : InSlot) (room : ℕ) → AreHops h rows was limit p hops q room → room ≤ limit
  room_lower [] limit p q room e = let same = e.1 in omega (arith, same)
  room_lower (g ∷ gs) limit p q room e =
      let rest = room_lower gs e.1 e.0 q room e.3 in
      let le = room_less rows (front_of g) limit p in
      let own = e.2.left in
      omega (arith, rest, le, own)

  -- the last hop's entry
  record IsInner (hops : List Hop) (q : InSlot) (room : ℕ) : Type 0 where
    tree : Data
    held : IsHeld (block_at was) h rows room q.0 tree q.1
    entry : (hop : Hop) → Some hop ≡ slice_get hops (length hops - 1) → IsEntry rows q.0 room tree hop.entry
    some : None ≡ slice_get hops (length hops - 1) → ⊥

  before_last : (g k : Hop) (ks : List Hop) → slice_get (g ∷ k ∷ ks) (length (g ∷ k ∷ ks) - 1) ≡ slice_get (k ∷ ks) (length (k ∷ ks) - 1)
  before_last g k ks = ap (slice_get (g ∷ k ∷ ks)) (same (length ks)) where
    same : (n : ℕ) → suc (suc n) - 1 ≡ suc (suc n - 1)
    same n = omega arith

  only_one : (g : Hop) → slice_get (g ∷ []) (length (g ∷ []) - 1) ≡ Some g
  only_one g = refl

  inner_of : (hop : Hop) (hops : List Hop) (limit : ℕ) (p q : InSlot) (room : ℕ) → AreHops h rows was limit p (hop ∷ hops) q room → IsInner (hop ∷ hops) q room
  inner_of hop [] limit p q room e =
      let there : IsValueThere h rows was q.0 room q.1 hop.entry = subst (λ n. IsValueThere h rows was q.0 n q.1 hop.entry) e.3.1 (subst (λ (s : InSlot). IsValueThere h rows was s.0 e.1 s.1 hop.entry) e.3.0 e.2.there) in
      record {
        tree = there.tree;
        held = there.held;
        entry = λ g is. subst (λ (k : Hop). IsEntry rows q.0 room there.tree k.entry) (same_Some hop g (sym (is ∙ only_one hop))) there.entry;
        some = λ none. none-some hop (none ∙ only_one hop);
      }
  inner_of hop (k ∷ ks) limit p q room e =
      let x = inner_of k ks e.1 e.0 q room e.3 in
      record { tree = x.tree; held = x.held; entry = λ g is. x.entry g (is ∙ before_last hop k ks); some = λ none. x.some (none ∙ before_last hop k ks) }

  pub can_go_on : (hops : List Hop) (limit : ℕ) (p q : InSlot) (room : ℕ) (t : Data) (root : View) → CanGo h rows was limit p t root → AreHops h rows was limit p hops q room → (d : Data) × CanGoOn h rows was room q d root hops
  can_go_on [] limit p q room t root x e = (
    t,
    record {
      schema = x.schema;
      low = subst (λ n. n ≤ 96) e.1 x.low;
      held = subst (λ n. IsHeld (block_at was) h rows n q.0 t q.1) e.1 (subst (λ (s : InSlot). IsHeld (block_at was) h rows limit s.0 t s.1) e.0 x.held);
      top = λ none. subst (λ (s : InSlot). IsPartView rows (front_in h rows s) root) e.0 x.stands;
      inner = λ hop some. absurd (none-some hop (sym some));
    },
  )
  can_go_on (g ∷ gs) limit p q room t root x e =
      let y = inner_of g gs limit p q room e in
      let le = room_lower (g ∷ gs) limit p q room e in
      let low = x.low in (
        y.tree,
        record {
          schema = x.schema;
          low = omega (arith, le, low);
          held = y.held;
          top = λ none. absurd (y.some none);
          inner = y.entry;
        },
      )

  -- the view of an entry
  pub can_go : (room : ℕ) (q : InSlot) (d : Data) (root : View) (hops : List Hop) (on : CanGoOn h rows was room q d root hops) (hop : Hop) → Some hop ≡ slice_get hops (length hops - 1) → (view : View)
      → table_of view ≡ hop.entry.acc.now → slot_of view ≡ hop.entry.slot → ((f : Value) (n : ℕ) → Front hop.entry.acc.now n hop.entry.slot f hop.entry.item → IsView view f) → CanGo h rows was room q d view
  can_go room q d root hops on hop is view table slot stands =
      let e = on.inner hop is in
      let safe : is_safe rows q.0 ≡ true = (λ i. is_safe (sym e.table i) (sym e.slot i)) ∙ hop.entry.safe in
      let own : Front rows room q.0 (front h rows q.0 q.1) d = fronts_are_fronts h rows on.schema room q.0 q.1 d (safe_is rows q.0 safe) on.held.fits on.held.tree in
      record {
        schema = on.schema;
        low = on.low;
        held = on.held;
        stands = record {
          table = table ∙ e.table;
          slot = slot ∙ e.slot;
          view = stands (front h rows q.0 q.1) room
              (subst (λ t. Front hop.entry.acc.now room hop.entry.slot (front h rows q.0 q.1) t) (sym e.tree)
              (subst (λ s. Front hop.entry.acc.now room s (front h rows q.0 q.1) d) (sym e.slot) (subst (λ r. Front r room q.0 (front h rows q.0 q.1) d) (sym e.table) own)));
        };
      }

  -- ---- the whole way

  module _ (limit : ℕ) (p : InSlot) (hops : List Hop) (q : InSlot) (room : ℕ) (are : AreHops h rows was limit p hops q room) (path : List (List ℕ)) (m k : Moment) where
    pub stops_inward : (stand : Stand) (r : Inward) → r.hops.items ≡ hops → r.front ≡ stand.front → r.left.now ≡ stand.left.now → r.room ≡ stand.room
        → GoesIn h rows was room q path m (Ok (L.Stops stand)) k → GoesInward h rows was limit p hops q path m (Ok r) k
    stops_inward stand r a b c d x =
        let s = x.0.1 in (
          record {
            inner = q;
            less = room;
            hops_are = subst (λ gs. AreHops h rows was limit p gs q room) (sym a) are;
            holder = x.0.0;
            inside = ap (in_one_block rows q) b ∙ s.inside;
            there = ap (at rows q) b ∙ s.there;
            split = ap (λ xs. through hops ++ xs) s.split ∙ (λ i. through (sym a i) ++ (sym b i ++ sym c i));
            stops = s.stops ∙ ap (λ xs. record { part = x.0.0; left = xs }) (sym c);
            room_is = d ∙ s.room_is ∙ ap (room_at rows room q) (sym b);
          },
          x.1,
        )

    pub fails_inward : (e : HamtFault) → GoesIn h rows was room q path m (Err e) k → GoesInward h rows was limit p hops q path m (Err e) k
    fails_inward F.Store x = x
    fails_inward F.Memory x = x
    fails_inward (F.Block id why) x = absurd x
    fails_inward F.Exhausted x = absurd x
    fails_inward F.NoKey x = absurd x
    fails_inward F.Size x = absurd x
    fails_inward (F.Clash id kept new) x = absurd x

    module _ (hop : Hop) (behind : List (List ℕ)) (r : InSlot) (less : ℕ) (pass : PassesTo h rows was room q path hop behind r less) (gets : k.gets + met_on h rows r behind ≤ m.gets + met_on h rows q path) where
      -- memory is wanting for one HAMT more
      pub no_more : GoesInward h rows was limit p hops q path m (Err F.Memory) k
      no_more = omega (arith, gets)

      pub hops_more : AreHops h rows was limit p (hops ++ hop ∷ []) r less
      hops_more = one_more hops limit p q room hop r less are pass.is

      pub goes_further : (n : Moment) (result : Result Inward HamtFault) → OnlyReads m k → (more : List Hop) → more ≡ hops ++ hop ∷ [] → GoesInward h rows was limit p more r behind k result n → GoesInward h rows was limit p hops q path m result n
      goes_further n (Ok i) reads more e x = (
        record {
          inner = x.0.inner;
          less = x.0.less;
          hops_are = x.0.hops_are;
          holder = x.0.holder;
          inside = x.0.inside;
          there = x.0.there;
          split = ap (λ xs. through hops ++ xs) pass.split ∙ sym (through_more hops hop behind) ∙ ap (λ gs. through gs ++ behind) (sym e) ∙ x.0.split;
          stops = ap (stopped rows q) pass.split ∙ stopped_hop room q hop r less behind pass.is ∙ x.0.stops;
          room_is = x.0.room_is;
        },
        (let own = x.1 in omega (arith, own, gets)),
      )
      goes_further n (Err F.Store) reads more e x = ((let rose = x.0 in let le = reads.later.faults in omega (arith, rose, le)), (let own = x.1 in omega (arith, own, gets)))
      goes_further n (Err F.Memory) reads more e x = omega (arith, x, gets)
      goes_further n (Err (F.Block id why)) reads more e x = absurd x
      goes_further n (Err F.Exhausted) reads more e x = absurd x
      goes_further n (Err F.NoKey) reads more e x = absurd x
      goes_further n (Err F.Size) reads more e x = absurd x
      goes_further n (Err (F.Clash id kept new)) reads more e x = absurd x
