-- A block that is refused on the way of a path is broken in the data from which the path begins.
use Rattle.std.proofs.Common.{◌≡◌, inl, inr, ℕ, zero, suc, ◌+◌, ◌-◌, ◌≤◌, List, [], ◌∷◌, ◌++◌, length, slice_get, Option, Some, Result, Ok, Err, refl, sym, ap, ◌∙◌, subst, arith}
use Rattle.std.specs.Borrow.{Bor}
use Rattle.std.specs.Prelude.{IfOk}
use Rattle.std.proofs.lemmas.Option.{none-some, same_Some}
use Rattle.ild_cbor.specs.declared.why.BlockWhy.{BlockWhy}
use Rattle.ild_path_hops.proofs.Linking.{last_there}
use Rattle.ild_data.specs.Data.{Data}
use Rattle.ild_data.specs.Limits.{deepest}
use Rattle.ild_data.specs.Spell.{id_of}
use Rattle.ild_edges.specs.Store.{Moment}
use Rattle.ild_hamt.specs.Descending.{trail_blocks}
use Rattle.ild_node_slots.specs.declared.fault.HamtFault.{HamtFault}
use Rattle.ild_node_slots.specs.declared.fault.HamtFault.TheVariants as F
use Rattle.ild_open_parts.proofs.Breaking.{broken_earlier}
use Rattle.ild_bulk_walker.specs.Standing.{IsWrongOnTree}
use Rattle.ild_open_parts.specs.Broken.{HasBrokenBlock}
use Rattle.ild_open_parts.specs.Reads.{OnlyReads}
use Rattle.ild_open_parts.specs.Sites.{HasSite, IsSite, Site}
use Rattle.ild_path_enter.specs.Enters.{MeetsEntry, MeetsSite}
use Rattle.ild_path_enter.specs.declared.lookup.Entered.{Entered}
use Rattle.ild_path_entry.specs.Entry.{IsEntry, data_in}
use Rattle.ild_path_entry.specs.declared.entry.Entry.{Entry}
use Rattle.ild_path_found.specs.Laws.{PartsStandInData}
use Rattle.ild_path_found.specs.Sites.{IsRefusedAt, IsSiteOf, RefusesBroken, end_block}
use Rattle.ild_path_hops.specs.declared.hop.Hop.{Hop}
use Rattle.ild_path_inward.proofs.Leading.{root_of_key}
use Rattle.ild_path_inward.proofs.Sited.{Reached, reached_site}
use Rattle.ild_path_inward.specs.Halts.{HaltsAt, room_stopped}
use Rattle.ild_path_inward.specs.Levels.{FrontIs, KeyIs}
use Rattle.ild_path_inward.specs.Refuses.{GoesDeeper, HaltsAtSite, IsDataBehind, LeavesRoom, MeetsHamt, MeetsLevel, PassesInto, RoomIs, block_behind}
use Rattle.ild_path_inward.specs.declared.halt.Halt.{Halt}
use Rattle.ild_path_inward.specs.declared.inward.Inward.{Inward}
use Rattle.ild_path_inward.specs.declared.level.Level.{Level}
use Rattle.ild_path_inward.specs.declared.level.Stand.{Stand}
use Rattle.ild_path_inward.specs.declared.level.Level.TheVariants as V
use Rattle.ild_path_edits.specs.Stop.{stopped}
use Rattle.ild_path_room.specs.ValueSlot.{IsValueSlot, value_in}
use Rattle.ild_schema.specs.Slots.{form_of}
use Rattle.ild_schema.specs.Value.{Value, hamt}
use Rattle.ild_schema.specs.declared.number.Slot.{Slot}
use Rattle.ild_schema.specs.declared.row.Row.{Row}
use Rattle.ild_typed.specs.At.{InSlot}
use Rattle.ild_typed.specs.Fits.{Front}
use Rattle.ild_typed.specs.Pieces.{needs}
use Rattle.ild_typed.specs.Schema.{IsSchema}
use Rattle.ild_view.specs.Roots.{root_in}
use Rattle.ild_view.specs.View.{IsView, slot_of, table_of}
use Rattle.ild_view.specs.declared.view.View.{View}

-- ---- one HAMT

module _ (rows : List Row) (halt : Halt) (block : List ℕ) (z : Site) (x : HaltsAtSite rows halt block z) (table : table_of halt.view ≡ rows) where
  pub site_of : (slot : Slot) (less : ℕ) → IsValueSlot rows (form_of rows (slot_of halt.view)) (Some slot) → (halt.room ≤ deepest → less ≡ halt.room - 5) → IsSiteOf rows slot less halt.view block z
  site_of slot less values below =
      let left = x.site.left in
      let own = below x.low in
      let same : halt.room ≡ less + 5 = omega (arith, left, own) in
      record {
        table = table;
        tree = x.tree;
        stands = x.view;
        site = subst (λ n. IsSite rows n (slot_of halt.view) x.tree z) same x.site;
        value_is = same_Some z.value slot (sym (ap value_in x.site.form) ∙ values.3);
        block_is = x.at;
      }

module _ (h : List ℕ → List ℕ) (rows : List Row) (block k : List ℕ) (z : Site) (m n : Moment) where
  pub fails_hamt : (e : HamtFault) → MeetsSite h rows block k z m (Err e) n → MeetsHamt h rows block k z m (Err e) n
  fails_hamt (F.Block id why) x = x
  fails_hamt F.Store x = tt
  fails_hamt F.Memory x = tt
  fails_hamt F.Exhausted x = tt
  fails_hamt F.NoKey x = tt
  fails_hamt F.Size x = tt
  fails_hamt (F.Clash id kept new) x = tt

  pub passes_hamt : (r : Entered) (e : Entry) (less : ℕ) → r.entry ≡ Some e → less ≡ z.room → MeetsSite h rows block k z m (Ok r) n → (less ≡ z.room) × MeetsEntry rows m.blocks z (id_of (end_block block (trail_blocks r.trail))) k e
  passes_hamt r e less there left x = (left, x e there)

-- ---- a block

module _ (law : PartsStandInData) (h : List ℕ → List ℕ) (rows : List Row) (schema : IsSchema rows) (block : List ℕ) (room : ℕ) (s : Slot) (f : Value) (t : Data) (front : Front rows room s f t) (low : room ≤ deepest)
    (path : List (List ℕ)) (halt : Halt) (halts : HaltsAt rows room (s, f) path halt) (r : Bor (List ℕ) × Bor (List (List ℕ))) (key : (g : Value) → IsView halt.view g → KeyIs (root_in g) halt.left.now (Some r)) where
  abbrev Part : InSlot
  Part = (stopped rows (s, f) path).part

  pub own_root : (tree : Data) × (Part.1 ≡ hamt tree)
  own_root = root_of_key Part.1 halt.left.now r (key Part.1 halts.view.view)

  pub reached : Reached rows room s t (room_stopped rows room (s, f) path) Part.0 own_root.0 (id_of block)
  reached = reached_site law rows schema own_root.0 (id_of block) path room (s, f) t front own_root.1

  pub halts_at_site : HaltsAtSite rows halt block reached.site
  halts_at_site =
      let le = reached.low in
      let own = halts.room_is in
      record {
        tree = own_root.0;
        view = subst (IsView halt.view) own_root.1 halts.view.view;
        site = subst (λ n. IsSite rows n (slot_of halt.view) own_root.0 reached.site) (sym halts.room_is) (subst (λ (u : Slot). IsSite rows (room_stopped rows room (s, f) path) u own_root.0 reached.site) (sym halts.view.slot) reached.is);
        low = omega (arith, le, own, low);
        at = reached.here;
      }

  module _ (m n : Moment) (k : List ℕ) where
    broken : (id : List ℕ) (why : BlockWhy) → IsRefusedAt h rows m.blocks m.lacks n.lacks reached.site id why → HasBrokenBlock h rows m.blocks m.lacks n.lacks (id_of block) room s t id why
    broken id why (inl w) = record { deep = suc zero; wrong = record { steps = reached.steps; site = reached.site; has = reached.has; here = reached.here; wrong = inl (subst (λ at. IsTreeWrong at id why) reached.here w) } } where
      IsTreeWrong : List ℕ → List ℕ → BlockWhy → Type 0
      IsTreeWrong at i y = IsWrongOnTree h reached.site.shape m.blocks reached.site.slots at m.lacks n.lacks i y
    broken id why (inr w) = record { deep = suc zero; wrong = record { steps = reached.steps; site = reached.site; has = reached.has; here = reached.here; wrong = inr (inl w) } }

    pub meets_level : (a : Result Level HamtFault) → MeetsHamt h rows block k reached.site m a n → MeetsLevel h rows block room s t m a n
    meets_level (Ok (V.Passes hop behind less)) x = record { steps = reached.steps; site = reached.site; has = reached.has; here = reached.here; left = x.0; key = k; entry = x.1 }
    meets_level (Ok (V.Stops stand)) x = tt
    meets_level (Err (F.Block id why)) x = broken id.0 why x
    meets_level (Err F.Store) x = tt
    meets_level (Err F.Memory) x = tt
    meets_level (Err F.Exhausted) x = tt
    meets_level (Err F.NoKey) x = tt
    meets_level (Err F.Size) x = tt
    meets_level (Err (F.Clash id kept new)) x = tt

-- what is told of a level in the terms of the data behind hops
pub level_in : (h : List ℕ → List ℕ) (rows now : List Row) (b block : List ℕ) (room : ℕ) (s u : Slot) (t : Data) (m n : Moment) (r : Result Level HamtFault) → rows ≡ now → b ≡ block → s ≡ u → MeetsLevel h rows b room s t m r n
    → MeetsLevel h now block room u t m r n
level_in h rows now b block room s u t m n r table at slot x =
    subst (λ (y : Slot). MeetsLevel h now block room y t m r n) slot (subst (λ y. MeetsLevel h now y room s t m r n) at (subst (λ (y : List Row). MeetsLevel h y b room s t m r n) table x))

-- the room of a site is less than that of the data in which it stands
site_low : (rows : List Row) (z : Site) (steps room : ℕ) (s : Slot) (t : Data) → HasSite rows steps room s t z → z.room ≤ room
site_low rows z zero room s t has = let left = has.left in omega (arith, left)
site_low rows z (suc steps) room s t has =
    let rest = site_low rows z steps (room - needs has.type t) has.slot has.tree has.then in
    omega (arith, rest, less room (needs has.type t))
  where
    less : (a b : ℕ) → a - b ≤ a
    less a b = omega arith

-- ---- behind hops

pub block_more : (block : List ℕ) (hops : List Hop) (hop : Hop) → block_behind block (hops ++ hop ∷ []) ≡ end_block (block_behind block hops) (trail_blocks hop.trail)
block_more block [] hop = refl
block_more block (g ∷ hops) hop = block_more (end_block block (trail_blocks g.trail)) hops hop

pub none_left : (root : View) (rows : List Row) (hops : List Hop) (room : ℕ) (t : Data) (f : Value) → hops ≡ [] → IsView root f → Front rows room (slot_of root) f t → room ≤ deepest → IsDataBehind rows root hops room (slot_of root) t f
none_left root rows hops room t f none view front low = record {
  front = front;
  low = low;
  top = λ e. (refl, view);
  inner = λ hop e. absurd (none-some hop (sym (ap (λ (gs : List Hop). slice_get gs (length gs - 1)) none) ∙ sym e));
}

module _ (h : List ℕ → List ℕ) (rows : List Row) (root : View) (block : List ℕ) (hops more : List Hop) (room : ℕ) (s : Slot) (t : Data) (f : Value) (d : IsDataBehind rows root hops room s t f) (hop : Hop) (less : ℕ) (m k : Moment)
    (x : PassesInto rows m.blocks (block_behind block hops) room s t hop less) (only : OnlyReads m k) (pushed : more ≡ hops ++ hop ∷ []) where
  abbrev pub NextSlot : Slot
  NextSlot = x.site.value

  abbrev pub NextData : Data
  NextData = data_in hop.entry

  abbrev pub NextFront : Value
  NextFront = x.entry.entry.front.value

  -- the next data are those of its entry
  pub data_next : (low : less ≤ deepest) → IsDataBehind rows root more less NextSlot NextData NextFront
  data_next low = record {
    front = subst (λ n. Front rows n NextSlot NextFront NextData) (sym x.left) x.entry.entry.front.front;
    low = low;
    top = λ e. absurd (none-some hop (e ∙ ap (λ (gs : List Hop). slice_get gs (length gs - 1)) pushed ∙ last_there hops hop));
    inner = λ g e.
        let same : hop ≡ g = same_Some hop g (sym (e ∙ ap (λ (gs : List Hop). slice_get gs (length gs - 1)) pushed ∙ last_there hops hop)) in
        subst (λ n. IsEntry rows NextSlot n NextData g.entry) (sym x.left) (subst (λ (y : Hop). IsEntry rows NextSlot x.site.room NextData y.entry) same x.entry.entry);
  }

  -- what is broken there is broken in the whole
  pub carry : (before now : ℕ) (id : List ℕ) (why : BlockWhy) → HasBrokenBlock h rows m.blocks before now (id_of (block_behind block more)) less NextSlot NextData id why
      → HasBrokenBlock h rows m.blocks before now (id_of (block_behind block hops)) room s t id why
  carry before now id why w =
      let at : block_behind block more ≡ end_block (block_behind block hops) (trail_blocks hop.trail) = ap (block_behind block) pushed ∙ block_more block hops hop in
      let y = subst (λ b. HasBrokenBlock h rows m.blocks before now (id_of b) less NextSlot NextData id why) at w in
      let v = subst (λ r. HasBrokenBlock h rows m.blocks before now (id_of (end_block (block_behind block hops) (trail_blocks hop.trail))) r NextSlot NextData id why) x.left y in
      record {
        deep = suc v.deep;
        wrong = record {
          steps = x.steps;
          site = x.site;
          has = x.has;
          here = x.here;
          wrong = inr (inr (record { block = id_of (end_block (block_behind block hops) (trail_blocks hop.trail)); key = x.key; value = NextData; entry = x.entry.there; wrong = v.wrong }));
        };
      }

  broken_next : (n : Moment) (id : List ℕ) (why : BlockWhy) → HasBrokenBlock h rows k.blocks k.lacks n.lacks (id_of (block_behind block more)) less NextSlot NextData id why
      → HasBrokenBlock h rows m.blocks m.lacks n.lacks (id_of (block_behind block hops)) room s t id why
  broken_next n id why w = carry m.lacks n.lacks id why (broken_earlier h (id_of (block_behind block more)) rows less (NextSlot, NextData) m k n id why only w)

  pub refuses_next : (A : Type 0) (n : Moment) (r : Result A HamtFault) → RefusesBroken h rows (id_of (block_behind block more)) less NextSlot NextData k r n → RefusesBroken h rows (id_of (block_behind block hops)) room s t m r n
  refuses_next A n (Ok a) w = tt
  refuses_next A n (Err (F.Block id why)) w = broken_next n id.0 why w
  refuses_next A n (Err F.Store) w = tt
  refuses_next A n (Err F.Memory) w = tt
  refuses_next A n (Err F.Exhausted) w = tt
  refuses_next A n (Err F.NoKey) w = tt
  refuses_next A n (Err F.Size) w = tt
  refuses_next A n (Err (F.Clash id kept new)) w = tt

  pub deeper_next : (r : Result Inward HamtFault) → IfOk r (GoesDeeper h rows k.blocks root block (id_of (block_behind block more)) less NextSlot NextData)
      → IfOk r (GoesDeeper h rows m.blocks root block (id_of (block_behind block hops)) room s t)
  deeper_next (Err e) y = tt
  deeper_next (Ok r) y = record {
    less = y.less;
    slot = y.slot;
    tree = y.tree;
    value = y.value;
    behind = y.behind;
    room_is = y.room_is;
    carries = λ before now id why w.
        carry before now id why (subst (λ told. HasBrokenBlock h rows told before now (id_of (block_behind block more)) less NextSlot NextData id why) only.blocks
        (y.carries before now id why (subst (λ told. HasBrokenBlock h rows told before now (id_of (block_behind block r.hops.items)) y.less y.slot y.tree id why) (sym only.blocks) w)));
  }

-- where the path stops
pub deeper_here : (h : List ℕ → List ℕ) (rows : List Row) (told : Option (List (List ℕ))) (root : View) (block : List ℕ) (hops : List Hop) (room : ℕ) (s : Slot) (t : Data) (f : Value) (r : Inward) (stand : Stand)
    → IsDataBehind rows root hops room s t f → LeavesRoom rows room (s, f) (Ok (V.Stops stand)) → r.hops.items ≡ hops → r.room ≡ stand.room → r.front ≡ stand.front → GoesDeeper h rows told root block (id_of (block_behind block hops)) room s t r
deeper_here h rows told root block hops room s t f r stand d leaves same own front = record {
  less = room;
  slot = s;
  tree = t;
  value = f;
  behind = subst (λ (gs : List Hop). IsDataBehind rows root gs room s t f) (sym same) d;
  room_is = own ∙ leaves ∙ ap (room_stopped rows room (s, f)) (sym front);
  carries = λ before now id why w. subst (λ (gs : List Hop). HasBrokenBlock h rows told before now (id_of (block_behind block gs)) room s t id why) same w;
}

-- the room where a level stops, by the halt there
pub leaves_here : (rows : List Row) (room left : ℕ) (p : InSlot) (front : List (List ℕ)) (r : Result Level HamtFault) → RoomIs left r → FrontIs front r → room_stopped rows room p front ≡ left → LeavesRoom rows room p r
leaves_here rows room left p front (Ok (V.Stops s)) is own e = is ∙ sym e ∙ ap (room_stopped rows room p) (sym own)
leaves_here rows room left p front (Ok (V.Passes hop behind less)) is own e = tt
leaves_here rows room left p front (Err e) is own f = tt

-- in the terms of the data behind hops
pub leaves_in : (rows now : List Row) (room : ℕ) (s u : Slot) (f : Value) (r : Result Level HamtFault) → rows ≡ now → s ≡ u → LeavesRoom rows room (s, f) r → LeavesRoom now room (u, f) r
leaves_in rows now room s u f r table slot x = subst (λ (y : Slot). LeavesRoom now room (y, f) r) slot (subst (λ (y : List Row). LeavesRoom y room (s, f) r) table x)

-- a level that fails
pub level_refuses : (A : Type 0) (h : List ℕ → List ℕ) (rows : List Row) (block : List ℕ) (room : ℕ) (s : Slot) (t : Data) (m n : Moment) (e : HamtFault) → MeetsLevel h rows block room s t m (Err e) n
    → RefusesBroken {A = A} h rows (id_of block) room s t m (Err e) n
level_refuses A h rows block room s t m n (F.Block id why) x = x
level_refuses A h rows block room s t m n F.Store x = tt
level_refuses A h rows block room s t m n F.Memory x = tt
level_refuses A h rows block room s t m n F.Exhausted x = tt
level_refuses A h rows block room s t m n F.NoKey x = tt
level_refuses A h rows block room s t m n F.Size x = tt
level_refuses A h rows block room s t m n (F.Clash id kept new) x = tt

-- where memory is wanting
pub memory_refuses : (A : Type 0) (h : List ℕ → List ℕ) (rows : List Row) (at : List ℕ) (room : ℕ) (s : Slot) (t : Data) (m n : Moment) (e : HamtFault) → e ≡ F.Memory → RefusesBroken {A = A} h rows at room s t m (Err e) n
memory_refuses A h rows at room s t m n e is = subst (λ f. RefusesBroken {A = A} h rows at room s t m (Err f) n) (sym is) tt

-- an entry has less room than the whole
pub pass_low : (rows : List Row) (told : Option (List (List ℕ))) (block : List ℕ) (room : ℕ) (s : Slot) (t : Data) (hop : Hop) (less : ℕ) → PassesInto rows told block room s t hop less → room ≤ deepest → less ≤ deepest
pass_low rows told block room s t hop less x low = let own = x.left in let le = site_low rows x.site x.steps room s t x.has in omega (arith, own, le, low)
