-- All levels outward.
use Rattle.std.proofs.Common.{◌≡◌, ◌⊎◌, inl, inr, ⊎_elim, ℕ, ◌+◌, ◌≤◌, Bool, true, List, [], ◌∷◌, ◌++◌, length, map, Option, Some, None, refl, sym, ap, ◌∙◌, subst}
use Rattle.std.specs.Prelude.{Result, Ok, Err, option_and_then}
use Rattle.std.proofs.Common.{append_assoc, append-nil}
use Rattle.std.specs.FinMap.{put as insert}
use Rattle.std.specs.List.{AllByRecursion}
use Rattle.std.proofs.lemmas.Bool.{ltb-true}
use Rattle.std.proofs.lemmas.Option.{same_Some}
use Rattle.ild_edges.specs.Gained.{AreIdsGiven}
use Rattle.ild_hamt.proofs.Going.{told as told_at}
use Rattle.ild_data.specs.Among.{AreAmong}
use Rattle.ild_data.specs.ByteOrder.{bytewise}
use Rattle.ild_data.specs.Data.{Data}
use Rattle.ild_data.specs.Limits.{longest_block}
use Rattle.ild_data.specs.Spell.{id_of, spell}
use Rattle.ild_edges.specs.Store.{Moment, Later, Keeps, StaysGiven, block_at}
use Rattle.ild_edges.specs.Told.{IfTold, BothTold}
use Rattle.ild_edges.proofs.Later.{Later-refl, Later-trans}
use Rattle.ild_bulk.specs.Build.{any_long, is_long}
use Rattle.ild_bulk.proofs.Puts.{told-same}
use Rattle.ild_schema.specs.declared.number.Slot.{Slot}
use Rattle.ild_schema.specs.declared.row.Row.{Row}
use Rattle.ild_schema.specs.Value.{Value}
use Rattle.ild_schema.specs.Value as V
use Rattle.ild_node_slots.specs.declared.fault.HamtFault.{HamtFault}
use Rattle.ild_node_slots.specs.declared.fault.HamtFault.TheVariants as F
use Rattle.ild_open_parts.proofs.Breaking.{rose_later}
use Rattle.ild_typed.specs.At.{InSlot, at, met, seen}
use Rattle.ild_typed.specs.Blocks.{nodes}
use Rattle.ild_typed.specs.Fits.{Fits}
use Rattle.ild_typed.specs.Hamt.{whole}
use Rattle.ild_typed.specs.OfType.{OfType}
use Rattle.ild_typed.specs.Represented.{represented}
use Rattle.ild_view.specs.View.{slot_of, table_of}
use Rattle.ild_view.specs.declared.view.View.{View}
use Rattle.ild_open_held.specs.Held.{IsHeld, IsHeldBlock}
use Rattle.ild_path_within.specs.Within.{with_part}
use Rattle.ild_path_within.proofs.Splitting.{parts_of_parts, paths_split, ways_split}
use Rattle.ild_typed_fronts.specs.Front.{front}
use Rattle.ild_path_nodes.proofs.Changing.{nodes_of_parts}
use Rattle.ild_path_held.specs.HeldEdits.{room_at}
use Rattle.ild_path_held.proofs.Holding.{held_parts, held_stays}
use Rattle.ild_path_entered.proofs.Editing.{sets_have_data, sets_stand, through_at, with_key, with_typed}
use Rattle.ild_path_entered.proofs.Holding.{put_typed}
use Rattle.ild_path_reroot.specs.Reroots.{AddsNodes}
use Rattle.ild_path_reroot.proofs.Coming.{IsPartOf, came_stays, came_whole}
use Rattle.ild_path_reroot.proofs.Among.{among_of, long_any, long_one}
use Rattle.ild_path_entry.specs.Entry.{IsEntry}
use Rattle.ild_path_hop.specs.Levels.{IsRootView, with_set}
use Rattle.ild_path_hops.specs.Hops.{AreHops, front_of, key_of, step_of}
use Rattle.ild_path_hops.specs.HopLaws.{IsLastHop, path_of_hops}
pub use Rattle.ild_path_hops.proofs.Linking.{none_or_last}
use Rattle.ild_path_hops.specs.declared.hop.Hop.{Hop}
use Rattle.ild_path_hops.proofs.Hopping.{hops_end, hops_leave, hops_pass, hops_stay}
use Rattle.ild_path_outward.specs.Outward.{EndAnswer, IsNewEnd, SetsEnd, with_end}
use Rattle.ild_path_sizes.specs.Long.{HasLongPart, IsDataOfPart}
use Rattle.ild_path_outward.specs.inside.Steps.{IsStep, SetsBelow, SetsIn, SetsStep}
use Rattle.std.proofs.Common.{arith}
use Rattle.ild_path_entered.specs.Entered.{with_entry}
use Rattle.ild_hamt.specs.Edits.{CausedBy, FaultCause}
use Rattle.ild_path_outward.proofs.Counting.{one_met, put_counted, put_met}
use Rattle.ild_path_way.specs.Way.{nodes_met}
use Rattle.ild_path_way.proofs.Splitting.{nodes_split, none_in_one_block}
use Rattle.ild_path_way.proofs.Staying.{blocks_stay}
use Rattle.ild_script_meaning.specs.Costs.{blocks_met, met_in}
use Rattle.std.specs.Option.{option_map_or}
use Rattle.ild_schema.specs.Slots.{form_of}
use Rattle.ild_typed.specs.Segment.{part}
use Rattle.ild_hamt_trie.specs.Way.{way}
use Rattle.ild_data.specs.TrieShape.{trie_levels}
use Rattle.ild_path_outward.proofs.Stepping.{key_stays, sets_at}

-- What is left to do: these hops lead from v to a value in the place of which w comes, with this block, so that the whole becomes c.
pub record IsUnderway (h : List ℕ → List ℕ) (rows : List Row) (room : ℕ) (s : Slot) (v : Value) (t : Data) (c : Value) (path : List (List ℕ)) (m : Moment) (hops : List Hop) (block : List ℕ) (n : Moment) : Type 0 where
  pub now : List (List ℕ)
  pub told : n.blocks ≡ Some now
  pub old : IsHeld (block_at now) h rows room s t v
  pub q : InSlot
  pub less : ℕ
  pub leads : AreHops h rows now room (s, v) hops q less
  pub around : ℕ
  pub w : Value
  pub d : Data
  pub comes : IsHeld (block_at now) h rows around q.0 d w
  pub spelled : block ≡ spell d
  pub short : length block ≤ longest_block
  pub made : with_end rows s v hops w ≡ c
  pub later : Later m n
  pub adds : BothTold m.blocks n.blocks (AddsNodes h rows s c)
  pub puts : n.puts + blocks_met h rows (s, c) (path_of_hops hops) ≤ m.puts + blocks_met h rows (s, c) path
  pub behind : List (List ℕ)
  pub split : nodes_met h rows (s, c) path ≡ nodes_met h rows (s, c) (path_of_hops hops) ++ behind
  pub given : IfTold n.given (AreIdsGiven behind)

-- ---- paths, and stores

pub path_end : (hops : List Hop) (hop : Hop) → path_of_hops (hops ++ hop ∷ []) ≡ path_of_hops hops ++ (front_of hop ++ (key_of hop ∷ []))
path_end [] hop = refl
path_end (x ∷ hops) hop = ap (λ p. front_of x ++ (key_of x ∷ p)) (path_end hops hop) ∙ sym (append_assoc (front_of x) (key_of x ∷ path_of_hops hops) (front_of hop ++ (key_of hop ∷ [])))

-- the store tells after a call what it keeps
pub told_next : (o q : Option (List (List ℕ))) (was : List (List ℕ)) → o ≡ Some was → BothTold o q Keeps → (now : List (List ℕ)) × (q ≡ Some now) × Keeps was now
told_next None q was is t = absurd cc
told_next (Some a) None was is t = absurd t
told_next (Some a) (Some b) was is t = (b, refl, subst (λ y. Keeps y b) (same_Some a was is) t)

pub told_here : {A : Type 0} (o : Option A) (a : A) (P : A → Type 0) → o ≡ Some a → P a → IfTold o P
told_here o a P is p = subst (λ q. IfTold q P) (sym is) p

-- ids that are given
none_given : (o : Option (List (List ℕ))) → IfTold o (AreIdsGiven [])
none_given None = tt
none_given (Some ids) = tt

pub given_stay : (was now : List (List ℕ)) → StaysGiven was now → (bs : List (List ℕ)) → AreIdsGiven bs was → AreIdsGiven bs now
given_stay was now stays [] all = tt
given_stay was now stays (b ∷ bs) all = (stays (id_of b) all.0, given_stay was now stays bs all.1)

given_both : (given : List (List ℕ)) (bs cs : List (List ℕ)) → AreIdsGiven bs given → AreIdsGiven cs given → AreIdsGiven (bs ++ cs) given
given_both given [] cs x y = y
given_both given (b ∷ bs) cs x y = (x.0, given_both given bs cs x.1 y)

-- by a later call, beside those that were
pub given_more : (o q : Option (List (List ℕ))) (bs cs : List (List ℕ)) → BothTold o q StaysGiven → IfTold o (AreIdsGiven cs) → IfTold q (AreIdsGiven bs) → IfTold q (AreIdsGiven (bs ++ cs))
given_more None None bs cs stays x y = tt
given_more None (Some now) bs cs stays x y = absurd stays
given_more (Some was) None bs cs stays x y = tt
given_more (Some was) (Some now) bs cs stays x y = given_both now bs cs y (given_stay was now stays cs x)

-- what comes to a store level by level
more_nodes : (h : List ℕ → List ℕ) (rows : List Row) (p q : InSlot) (was mid now : List (List ℕ)) → Keeps mid now → IsPartOf h rows p q
    → AddsNodes h rows p.0 p.1 was mid → AddsNodes h rows q.0 q.1 mid now → AddsNodes h rows p.0 p.1 was now
more_nodes h rows p q was mid now keeps part x y = record {
  came = λ id b there.
      ⊎_elim (λ before. ⊎_elim (λ old. inl old) (λ new. inr (came_stays h rows p mid now b keeps new)) (x.came id b before)) (λ new. inr (came_whole h rows p q part now b new)) (y.came id b there);
}

pub more_told : (h : List ℕ → List ℕ) (rows : List Row) (p r : InSlot) (a o q : Option (List (List ℕ))) → IsPartOf h rows p r
    → BothTold a o (AddsNodes h rows p.0 p.1) → BothTold o q Keeps → BothTold o q (AddsNodes h rows r.0 r.1) → BothTold a q (AddsNodes h rows p.0 p.1)
more_told h rows p r None None None part x k y = tt
more_told h rows p r None None (Some z) part x k y = absurd y
more_told h rows p r None (Some b) q part x k y = absurd x
more_told h rows p r (Some a) None q part x k y = absurd x
more_told h rows p r (Some a) (Some b) None part x k y = absurd y
more_told h rows p r (Some a) (Some b) (Some z) part x k y = more_nodes h rows p r a b z k part x y

pub met_one : (rows : List Row) (count : InSlot → List ℕ → ℕ) (p : InSlot) (s : List ℕ) → met rows count p (s ∷ []) ≡ count p s
met_one rows count p s = by (part (seen rows p) s) where
  by : (o : Option InSlot) → count p s + option_map_or (λ q. met rows count q []) o 0 ≡ count p s
  by None = omega arith
  by (Some q) = omega arith

-- what a later call was caused by, over every store
pub caused_later : (m n k : Moment) (e : HamtFault) → Later m n → CausedBy n (Err e) k → CausedBy m (Err e) k
caused_later m n k e before x = record { cause = by e x.cause; later = Later-trans m n k before x.later } where
  by : (e : HamtFault) → FaultCause n e k → FaultCause m e k
  by F.Store is = rose_later m.faults n.faults k.faults before.faults is
  by (F.Clash id kept new) is = is
  by (F.Block id why) is = is
  by F.Exhausted is = is
  by F.Memory is = is
  by F.NoKey is = is
  by F.Size is = is

-- ---- the whole way

module _ (h : List ℕ → List ℕ) (is_key : ℕ → List ℕ → Bool) (was : List (List ℕ)) (room : ℕ) (v w : Value) (t u : Data) (view : View) (hops : List Hop) (new : List ℕ) (m : Moment)
    (told : m.blocks ≡ Some was) (x : IsNewEnd h is_key was room v t view hops w u new) where
  abbrev Rows : List Row
  Rows = table_of view

  abbrev S : Slot
  S = slot_of view

  abbrev C : Value
  C = with_end (table_of view) (slot_of view) v hops w

  abbrev pub Underway : List Hop → List ℕ → Moment → Type 0
  Underway hs block n = IsUnderway h Rows room S v t C (path_of_hops hops) m hs block n

  pub start : Underway hops new m
  start = record {
    now = was;
    told = told;
    old = x.level.held;
    q = x.q;
    less = x.less;
    leads = x.leads;
    around = x.around;
    w = w;
    d = x.d;
    comes = x.comes;
    spelled = x.spelled;
    short = x.short;
    made = refl;
    later = Later-refl m;
    adds = told-same m.blocks m.blocks (AddsNodes h Rows S C) refl (λ a. record { came = λ id b e. inl e });
    puts = omega arith;
    behind = [];
    split = sym (append-nil (nodes_met h Rows (S, C) (path_of_hops hops)));
    given = none_given m.given;
  }

  pub finish : (block : List ℕ) (n : Moment) → Underway [] block n → SetsEnd h Rows room S C u (path_of_hops hops) m (Ok block) n
  finish block n y =
      let slot : y.q.0 ≡ S = ap (λ (r : InSlot). r.0) (sym y.leads.0) in
      let tree : represented (whole h) Rows S C ≡ Some y.d = subst (λ z. represented (whole h) Rows S z ≡ Some y.d) y.made (subst (λ r. represented (whole h) Rows r y.w ≡ Some y.d) slot y.comes.tree) in
      let same : y.d ≡ u = same_Some y.d u (sym tree ∙ x.tree) in
      let held : AllByRecursion (IsHeldBlock (block_at y.now)) (nodes h Rows S C) =
      subst (λ z. AllByRecursion (IsHeldBlock (block_at y.now)) (nodes h Rows S z)) y.made (subst (λ r. AllByRecursion (IsHeldBlock (block_at y.now)) (nodes h Rows r y.w)) slot y.comes.held) in
      record {
        answer = (y.spelled ∙ ap spell same, y.short, told_here n.blocks y.now (λ now. IsHeld (block_at now) h Rows room S u C) y.told (record { fits = x.fits; tree = x.tree; held = held }));
        later = y.later;
        adds = y.adds;
        puts = y.puts;
        given = subst (λ bs. IfTold n.given (AreIdsGiven bs)) (sym y.split) y.given;
      }

  -- ---- one level

  module _ (hs : List Hop) (hop : Hop) (block : List ℕ) (n : Moment) (y : Underway (hs ++ hop ∷ []) block n) where
    abbrev Last : IsLastHop h Rows y.now room (S, v) hs hop y.q y.less
    Last = hops_end h Rows y.now room y.less (S, v) y.q hs hop y.leads

    abbrev Mid : InSlot
    Mid = Last.mid

    abbrev Path : List (List ℕ)
    Path = path_of_hops hs

    abbrev Level : Value
    Level = with_set Rows Mid.0 Mid.1 (front_of hop) Last.last.ps (key_of hop) y.w

    typed_v : OfType Rows S v
    typed_v = (room, y.old.fits)

    at_mid : at Rows (S, v) Path ≡ Some Mid
    at_mid = through_at Rows (map step_of hs) (S, v) Mid (hops_pass h Rows y.now room Last.between (S, v) Mid hs Last.before)

    left : room_at Rows room (S, v) Path ≡ Last.between
    left = hops_leave h Rows y.now room Last.between (S, v) Mid hs Last.before

    pub mid_held : (d : Data) × IsHeld (block_at y.now) h Rows Last.between Mid.0 d Mid.1
    mid_held =
        let z = held_parts (block_at y.now) h Rows is_key x.level.schema x.level.keys room (S, v) Mid t Path y.old at_mid in
        (z.0, subst (λ k. IsHeld (block_at y.now) h Rows k Mid.0 z.0 Mid.1) left z.1)

    typed_mid : OfType Rows Mid.0 Mid.1
    typed_mid = (Last.between, mid_held.1.fits)

    typed_hamt : OfType Rows Last.last.slot (V.map Last.last.ps)
    typed_hamt =
        let z = held_parts (block_at y.now) h Rows is_key x.level.schema x.level.keys Last.between Mid (Last.last.slot, V.map Last.last.ps) mid_held.0 (front_of hop) mid_held.1 Last.last.entered.at in
        (room_at Rows Last.between Mid (front_of hop), z.1.fits)

    abbrev Map : Value
    Map = with_entry (key_of hop) y.w Last.last.ps

    typed_map : OfType Rows Last.last.slot Map
    typed_map =
        put_typed Rows is_key x.level.schema x.level.keys Last.last.slot y.q.0 Last.last.ps Last.last.entered.hamt typed_hamt (key_of hop) y.w Last.last.utf8
        (key_stays Rows is_key Last.last.slot y.q.0 Last.last.ps Last.last.entered.hamt (key_of hop) y.q.1 Last.last.value) (y.around, y.comes.fits)

    typed_level : OfType Rows Mid.0 Level
    typed_level = with_typed Rows is_key x.level.schema x.level.keys (front_of hop) Mid (Last.last.slot, V.map Last.last.ps) Map typed_mid Last.last.entered.at typed_map

    made_again : with_end Rows S v hs Level ≡ C
    made_again =
        ap (with_part Rows (S, v) Path) (sym (with_key Rows Mid (front_of hop) Last.last.slot y.q.0 Last.last.ps Last.last.entered (key_of hop) y.q.1 y.w Last.last.value))
        ∙ sym (parts_of_parts Rows (S, v) Mid Path (front_of hop ++ (key_of hop ∷ [])) y.w at_mid)
        ∙ ap (λ p. with_part Rows (S, v) p y.w) (sym (path_end hs hop))
        ∙ y.made

    pub own : (d : Data) × (represented (whole h) Rows Mid.0 Level ≡ Some d) × Fits Rows Last.between Mid.0 Level
    own =
        let z = sets_have_data h Rows is_key x.level.schema x.level.keys room (S, v) Mid Path Level u typed_v at_mid typed_level
        (subst (λ c. represented (whole h) Rows S c ≡ Some u) (sym made_again) x.tree) (subst (Fits Rows room S) (sym made_again) x.fits) in
        (z.0, z.1, subst (λ k. Fits Rows k Mid.0 Level) left z.2)

    abbrev pub step : IsStep h is_key Rows Mid.0 y.now (front_of hop) (key_of hop) hop.trail
    step = record {
      schema = x.level.schema;
      keys = x.level.keys;
      room = Last.between;
      v = Mid.1;
      t = mid_held.0;
      held = mid_held.1;
      slot = Last.last.slot;
      elem = y.q.0;
      ps = Last.last.ps;
      es = Last.last.es;
      root = Last.last.root;
      entered = Last.last.entered;
      data_is = Last.last.data_is;
      trie = Last.last.trie;
      found = Last.last.trail;
      utf8 = Last.last.utf8;
      key = key_stays Rows is_key Last.last.slot y.q.0 Last.last.ps Last.last.entered.hamt (key_of hop) y.q.1 Last.last.value;
      around = y.around;
      w = y.w;
      d = y.d;
      comes = y.comes;
      u = own.0;
      fits = own.2;
      tree = own.1;
    }

    -- the level is the root's, or the last hop's
    pub step_root : hs ≡ [] → (slot_of view ≡ Mid.0) × IsRootView view (front h Rows Mid.0 Mid.1) mid_held.0
    step_root none =
        let same : (S, v) ≡ Mid = (subst (λ zs. AreHops h Rows y.now room (S, v) zs Mid Last.between) none Last.before).0 in
        let tree : represented (whole h) Rows Mid.0 Mid.1 ≡ Some t = subst (λ (r : InSlot). represented (whole h) Rows r.0 r.1 ≡ Some t) same x.level.held.tree in
        (ap (λ (r : InSlot). r.0) same, subst (IsRootView view (front h Rows Mid.0 Mid.1)) (same_Some t mid_held.0 (sym tree ∙ mid_held.1.tree)) (subst (λ (r : InSlot). IsRootView view (front h Rows r.0 r.1) t) same x.level.root))

    pub step_entry : (before : List Hop) (above : Hop) → hs ≡ before ++ above ∷ [] → IsEntry Rows Mid.0 Last.between mid_held.0 above.entry
    step_entry before above is =
        let z = hops_end h Rows y.now room Last.between (S, v) Mid before above (subst (λ zs. AreHops h Rows y.now room (S, v) zs Mid Last.between) is Last.before) in
        subst (λ d. IsEntry Rows Mid.0 Last.between d above.entry) (same_Some z.last.there.tree mid_held.0 (sym z.last.there.held.tree ∙ mid_held.1.tree)) z.last.there.entry

    -- the new value of the level is a part of the new whole
    there : at Rows (S, C) Path ≡ Some (Mid.0, Level)
    there = subst (λ c. at Rows (S, c) Path ≡ Some (Mid.0, Level)) made_again (sets_stand Rows is_key x.level.schema x.level.keys (S, v) Mid Path Level typed_v at_mid typed_level).0

    among : AreAmong (nodes h Rows Mid.0 Level) (nodes h Rows S C)
    among = nodes_of_parts h Rows is_key x.level.schema x.level.keys (S, C) (Mid.0, Level) Path (room, x.fits) there

    -- the nodes on the way of the key are those that the path meets there
    map_data_is : (d : Data) × (represented (whole h) Rows Last.last.slot Map ≡ Some d)
    map_data_is =
        let z = sets_have_data h Rows is_key x.level.schema x.level.keys Last.between Mid (Last.last.slot, V.map Last.last.ps) (front_of hop) Map own.0 typed_mid Last.last.entered.at typed_map own.1 own.2 in
        (z.0, z.1)

    met_more : blocks_met h Rows (S, C) Path + length (way h Last.last.entered.hamt.3 (key_of hop) (trie_levels Last.last.entered.hamt.3) 0 (insert bytewise (key_of hop) y.d Last.last.es)) ≤ blocks_met h Rows (S, C) (path_of_hops (hs ++ hop ∷ []))
    met_more =
        let count : InSlot → List ℕ → ℕ = λ q s. met_in h Rows (form_of Rows q.0) q.1 s in
        let here = (sets_stand Rows is_key x.level.schema x.level.keys Mid (Last.last.slot, V.map Last.last.ps) (front_of hop) Map typed_mid Last.last.entered.at typed_map).0 in
        let all = ap (met Rows count (S, C)) (path_end hs hop) in
        let outer = ways_split Rows count (S, C) (Mid.0, Level) Path (front_of hop ++ (key_of hop ∷ [])) there in
        let inner = ways_split Rows count (Mid.0, Level) (Last.last.slot, Map) (front_of hop) (key_of hop ∷ []) here in
        let last = met_one Rows count (Last.last.slot, Map) (key_of hop) in
        let own_count = put_counted h Rows y.now Last.last.slot y.q.0 Last.last.ps Last.last.root Last.last.es Last.last.entered.hamt Last.last.trie (key_of hop) y.w y.d map_data_is.0 y.comes.tree map_data_is.1 in
        omega (arith, all, outer, inner, last, own_count)

    abbrev OwnWay : List (List ℕ)
    OwnWay = way h Last.last.entered.hamt.3 (key_of hop) (trie_levels Last.last.entered.hamt.3) 0 (insert bytewise (key_of hop) y.d Last.last.es)

    level_nodes : nodes_met h Rows (Mid.0, Level) (front_of hop ++ (key_of hop ∷ [])) ≡ OwnWay
    level_nodes =
        let held = V.map Last.last.ps in
        let here = (sets_stand Rows is_key x.level.schema x.level.keys Mid (Last.last.slot, held) (front_of hop) Map typed_mid Last.last.entered.at typed_map).0 in
        let inside = blocks_stay Rows is_key x.level.schema x.level.keys Mid (Last.last.slot, held) (front_of hop) Map typed_mid Last.last.entered.inside Last.last.entered.at typed_map in
        nodes_split h Rows (Mid.0, Level) (Last.last.slot, Map) (front_of hop) (key_of hop ∷ []) here
        ∙ ap (λ ns. ns ++ nodes_met h Rows (Last.last.slot, Map) (key_of hop ∷ [])) (none_in_one_block h Rows (Mid.0, Level) (front_of hop) inside)
        ∙ one_met h Rows (Last.last.slot, Map) (key_of hop)
        ∙ put_met h Rows y.now Last.last.slot y.q.0 Last.last.ps Last.last.root Last.last.es Last.last.entered.hamt Last.last.trie (key_of hop) y.w y.d map_data_is.0 y.comes.tree map_data_is.1

    nodes_more : nodes_met h Rows (S, C) (path_of_hops (hs ++ hop ∷ [])) ≡ nodes_met h Rows (S, C) Path ++ OwnWay
    nodes_more =
        ap (nodes_met h Rows (S, C)) (path_end hs hop)
        ∙ nodes_split h Rows (S, C) (Mid.0, Level) Path (front_of hop ++ (key_of hop ∷ [])) there
        ∙ ap (λ ns. nodes_met h Rows (S, C) Path ++ ns) level_nodes

    module _ (k : Moment) where
      abbrev Stepped : Result (List ℕ) HamtFault → Type 0
      Stepped r = SetsStep h is_key Rows Mid.0 y.now (front_of hop) (key_of hop) hop.trail step n r k

      -- by the block of the root, where no hop is left, or of the last hop's entry
      pub stepped : (r : Result (List ℕ) HamtFault) (rest : List Hop) → rest ≡ hs → (rest ≡ [] → SetsIn h Rows S view (front_of hop) hop.trail (λ d. block ≡ spell d) n r k) → SetsBelow h rest (front_of hop) hop.trail (λ d. block ≡ spell d) n r k → Stepped r
      stepped r rest same root below =
          ⊎_elim
          (λ none. let at = step_root none in sets_at h Rows Mid.0 view (front_of hop) hop.trail (λ d. block ≡ spell d) n k r refl at.0 (root (same ∙ none)) is_key y.now (key_of hop) y.told step at.1 y.spelled)
          (λ z. below is_key Rows Mid.0 y.now (key_of hop) z.0 z.1 y.told (same ∙ z.2) step (step_entry z.0 z.1 z.2) y.spelled) (none_or_last hs)

      long_part : (d : Data) → IsDataOfPart h Rows (Mid.0, Level) d → is_long (spell d) ≡ true → HasLongPart h Rows (S, C)
      long_part d part long = record {
        tree = d;
        part = record {
          path = Path ++ part.path;
          part = part.part;
          at = paths_split Rows (S, C) Path part.path ∙ ap (option_and_then (λ r. at Rows r part.path)) there ∙ part.at;
          tree = part.tree;
        };
        long = ltb-true longest_block (length (spell d)) long;
      }

      too_long : (d : Data) → IsDataOfPart h Rows (Mid.0, Level) d → any_long (spell own.0 ∷ spell d ∷ nodes h Rows Mid.0 Level) ≡ true → (any_long (nodes h Rows S C) ≡ true) ⊎ HasLongPart h Rows (S, C)
      too_long d part is =
          let z = long_one (spell own.0 ∷ spell d ∷ nodes h Rows Mid.0 Level) is in
          ⊎_elim (λ same. inr (long_part own.0 (record { path = []; part = (Mid.0, Level); at = refl; tree = own.1 }) (subst (λ b. is_long b ≡ true) same z.2)))
          (⊎_elim (λ same. inr (long_part d part (subst (λ b. is_long b ≡ true) same z.2)))
          (λ more. inl (long_any z.0 (nodes h Rows S C) (among_of z.0 (nodes h Rows Mid.0 Level) (nodes h Rows S C) among more) z.2))) z.1

      failed : (e : HamtFault) → Stepped (Err e) → EndAnswer h Rows room S C u m (Err e) k
      failed F.Size z = too_long z.hamt z.part z.answer
      failed F.Store z = rose_later m.faults n.faults k.faults y.later.faults z.answer
      failed F.Memory z = tt
      failed (F.Clash id kept more) z = (among_of more (nodes h Rows Mid.0 Level) (nodes h Rows S C) among z.answer.0, z.answer.1, z.answer.2)
      failed F.Exhausted z = absurd z.answer
      failed F.NoKey z = absurd z.answer
      failed (F.Block id why) z = absurd z.answer

      added : (r : Result (List ℕ) HamtFault) → Stepped r → BothTold m.blocks k.blocks (AddsNodes h Rows S C)
      added r z = more_told h Rows (S, C) (Mid.0, Level) m.blocks n.blocks k.blocks (record { path = Path; there = there; among = among }) y.adds z.later.keeps z.adds

      pub step_failed : (e : HamtFault) → Stepped (Err e) → SetsEnd h Rows room S C u (path_of_hops hops) m (Err e) k
      step_failed e z = record { answer = failed e z; later = Later-trans m n k y.later z.later; adds = added (Err e) z; puts = let a = z.puts in let b = y.puts in omega (arith, a, b, met_more); given = tt }

      pub step_done : (b : List ℕ) → Stepped (Ok b) → Underway hs b k
      step_done b z =
          let next = told_next n.blocks k.blocks y.now y.told z.later.keeps in
          record {
            now = next.0;
            told = next.1;
            old = held_stays h Rows y.now next.0 room S t v next.2 y.old;
            q = Mid;
            less = Last.between;
            leads = hops_stay h Rows y.now next.0 room Last.between (S, v) Mid hs next.2 Last.before;
            around = Last.between;
            w = Level;
            d = own.0;
            comes = told_at k.blocks next.0 (λ now. IsHeld (block_at now) h Rows Last.between Mid.0 own.0 Level) next.1 z.answer.2;
            spelled = z.answer.0;
            short = z.answer.1;
            made = made_again;
            later = Later-trans m n k y.later z.later;
            adds = added (Ok b) z;
            puts = let a = z.puts in let b = y.puts in omega (arith, a, b, met_more);
            behind = OwnWay ++ y.behind;
            split = y.split ∙ ap (λ ns. ns ++ y.behind) nodes_more ∙ append_assoc (nodes_met h Rows (S, C) Path) OwnWay y.behind;
            given = given_more n.given k.given OwnWay y.behind z.later.given y.given z.given;
          }
