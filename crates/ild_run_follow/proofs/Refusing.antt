-- A block that is refused where a path is followed is broken, on the way or in the part.
use Rattle.std.proofs.Common.{◌≡◌, inl, inr, ⊎_elim, ℕ, ◌+◌, ◌-◌, Bool, true, false, true≢false, List, length, Some, Result, Ok, Err, refl, sym, ap, ◌∙◌, subst, arith}
use Rattle.std.proofs.lemmas.Option.{same_Some}
use Rattle.ild_cbor.specs.Nodes.{HasData}
use Rattle.ild_cbor.specs.declared.node.Node.{Node}
use Rattle.ild_cbor.specs.declared.piece.Piece.TheVariants as P
use Rattle.ild_cbor.specs.declared.why.BlockWhy.{BlockWhy}
use Rattle.ild_data.specs.Data.{Data}
use Rattle.ild_data.specs.Spell.{id_of}
use Rattle.ild_data.specs.Trie.{TrieSlot}
use Rattle.ild_data.specs.declared.hamt_shape.HamtShape.{HamtShape}
use Rattle.ild_data.specs.declared.tree.Tree.{Tree}
use Rattle.ild_edges.specs.Store.{Moment}
use Rattle.ild_hamt.specs.Descending.{Descends, trail_blocks}
use Rattle.ild_hamt.specs.Found.{FindsAtEnd, IsItemIn}
use Rattle.ild_hamt.specs.declared.trail.Trail.{Trail}
use Rattle.ild_hamt_climb.specs.Way.{slot_for}
use Rattle.ild_node_slots.specs.Views.{HasSlots}
use Rattle.ild_node_slots.specs.declared.fault.HamtFault.{HamtFault}
use Rattle.ild_node_slots.specs.declared.fault.HamtFault.TheVariants as H
use Rattle.ild_node_slots.specs.declared.view.NodeView.{NodeView}
use Rattle.ild_open.specs.Loaded as L
use Rattle.ild_open.specs.Loaded.{IsShown, Loads}
use Rattle.ild_open_parts.proofs.Breaking.{broken_earlier}
use Rattle.ild_open_parts.specs.Broken.{HasBrokenBlock, IsWrongBelow}
use Rattle.ild_open_parts.specs.Reads.{OnlyReads}
use Rattle.ild_open_parts.specs.Sites.{HasEntry, IsSite, Site}
use Rattle.ild_open_parts.specs.declared.fault.OpenFault.{OpenFault}
use Rattle.ild_open_parts.specs.declared.fault.OpenFault.TheVariants as O
use Rattle.ild_path_edits.specs.Along.{taken}
use Rattle.ild_path_found.proofs.Finding.{finds_last}
use Rattle.ild_path_found.proofs.Rooted.{AnyPart, no_hamt, site_slots}
use Rattle.ild_path_found.proofs.Walking.{descent_wrong, entry_there, entry_wrong}
use Rattle.ild_path_found.specs.Laws.{PartsStandInData}
use Rattle.ild_path_found.specs.Sites.{IsSiteOf, end_block}
use Rattle.ild_schema.specs.Slots.{form_of}
use Rattle.ild_schema.specs.Value.{Value}
use Rattle.ild_schema.specs.declared.number.Slot.{Slot}
use Rattle.ild_schema.specs.declared.row.Row.{Row}
use Rattle.ild_schema.specs.declared.val.Val.{Val}
use Rattle.ild_typed.specs.At.{InSlot, reached}
use Rattle.ild_typed.specs.Fits.{Front}
use Rattle.ild_typed.specs.Schema.{IsSchema}
use Rattle.ild_typed.specs.Slots.{element_of}
use Rattle.ild_view.specs.Body.{BodyStands}
use Rattle.ild_view.specs.Forms.{shape_in}
use Rattle.ild_view.specs.Reaches.{Reaches}
use Rattle.ild_view.specs.Roots.{RootIs}
use Rattle.ild_view.specs.View.{IsView, IsViewAt, body_of, slot_of, table_of}
use Rattle.ild_view.specs.declared.step.Step.TheVariants as S
use Rattle.ild_view.specs.declared.view.View.{View}
use Rattle.ild_view_walk.specs.Checks.{IsRefusal}
use Rattle.ild_open.proofs.Carrying.{held_piece}
use Rattle.ild_run_follow.proofs.Landing.{IsEntered, IsReached, Lands, broken_site, broken_up, entered_at, fits_at, here_is, lands, none_broken, one_data, site_there}
use Rattle.ild_run_follow.proofs.Loading.{loaded_as}
use Rattle.ild_run_follow.proofs.Shallow.{shown_part}
use Rattle.ild_run_follow.specs.inside.Enters.{ChecksEntry, RefusesEntry, WalksTrie}
use Rattle.ild_run_follow.specs.inside.Faults.{entered_as}
use Rattle.ild_run_follow.specs.Refuses.{IsBrokenSite, RefusesBlock, RefusesBroken, RefusesIn}
use Rattle.ild_run_follow.specs.inside.Rooms.{room_reached}
use Rattle.ild_run_follow.specs.Tells.{TellsNothing}
use Rattle.ild_run_follow.specs.declared.fault.ReadFault.{ReadFault}
use Rattle.ild_run_follow.specs.declared.fault.ReadFault.TheVariants as F
use Rattle.ild_run_follow.specs.declared.kind.Tell.{Tell}
use Rattle.ild_run_follow.specs.declared.kind.Tell.TheVariants as T

-- ---- whatever is said of a block that is refused

module _ (P : List ℕ → BlockWhy → Type 0) where
  refuses_more : (A : Type 0) (Q : List ℕ → BlockWhy → Type 0) → ((id : List ℕ) (why : BlockWhy) → P id why → Q id why) → (r : Result A ReadFault) → RefusesBlock P r → RefusesBlock Q r
  refuses_more A Q more (Ok a) x = tt
  refuses_more A Q more (Err F.Path) x = tt
  refuses_more A Q more (Err (F.Block id why)) x = more id.0 why x
  refuses_more A Q more (Err F.Store) x = tt
  refuses_more A Q more (Err F.Memory) x = tt

  refuses_same : (A B : Type 0) (e : ReadFault) → RefusesBlock {A = A} P (Err e) → RefusesBlock {A = B} P (Err e)
  refuses_same A B F.Path x = tt
  refuses_same A B (F.Block id why) x = x
  refuses_same A B F.Store x = tt
  refuses_same A B F.Memory x = tt

  path_refuses : (A : Type 0) (e : ReadFault) → e ≡ F.Path → RefusesBlock {A = A} P (Err e)
  path_refuses A e is = subst (λ (x : ReadFault). RefusesBlock {A = A} P (Err x)) (sym is) tt

  nothing_refuses : (tell : Tell) (r : Result Tree ReadFault) → TellsNothing tell r → RefusesBlock P r
  nothing_refuses tell (Ok tree) x = tt
  nothing_refuses T.Presence (Err e) x = absurd x
  nothing_refuses T.Shown (Err e) x = path_refuses Tree e x
  nothing_refuses T.Representation (Err e) x = path_refuses Tree e x
  nothing_refuses T.Count (Err e) x = path_refuses Tree e x
  nothing_refuses T.Parts (Err e) x = path_refuses Tree e x

-- where nothing is told
pub nothing_along : (h : List ℕ → List ℕ) (rows : List Row) (at : List ℕ) (room : ℕ) (s : Slot) (t : Data) (m n : Moment) (tell : Tell) (r : Result Tree ReadFault) → TellsNothing tell r → RefusesBroken h rows at room s t m r n
nothing_along h rows at room s t m n tell r x = nothing_refuses (λ id why. HasBrokenBlock h rows m.blocks m.lacks n.lacks at room s t id why) tell r x

pub nothing_in : (h : List ℕ → List ℕ) (rows : List Row) (z : Site) (m n : Moment) (tell : Tell) (r : Result Tree ReadFault) → TellsNothing tell r → RefusesIn h rows z m r n
nothing_in h rows z m n tell r x = nothing_refuses (λ id why. IsBrokenSite h rows m.blocks m.lacks n.lacks z id why) tell r x

-- ---- a part that is loaded

-- what is told of it fails as its loading did
pub part_fails : (h : List ℕ → List ℕ) (rows : List Row) (at : List ℕ) (room : ℕ) (s : Slot) (t : Data) (m n : Moment) (e : ReadFault) → RefusesBroken {A = Val} h rows at room s t m (Err e) n → RefusesBroken {A = Tree} h rows at room s t m (Err e) n
part_fails h rows at room s t m n e x = refuses_same (λ id why. HasBrokenBlock h rows m.blocks m.lacks n.lacks at room s t id why) Val Tree e x

pub load_refuses : (h : List ℕ → List ℕ) (room : ℕ) (view : View) (at : List ℕ) (m n : Moment) (r : Result Val OpenFault) → Loads h room view at m r n → (t : Data) → IsShown room view t
    → RefusesBroken h (table_of view) at room (slot_of view) t m (loaded_as r) n
load_refuses h room view at m n r l t shown = by r (l.answer t shown) where
  by : (q : Result Val OpenFault) → L.LoadAnswer h room view at m t q n → RefusesBroken h (table_of view) at room (slot_of view) t m (loaded_as q) n
  by (Ok val) a = tt
  by (Err (O.Block id why)) a = a.1
  by (Err O.Store) a = tt
  by (Err O.Memory) a = tt

-- ---- one HAMT

abbrev trail_in : Trail → Result Trail ReadFault → Trail
trail_in t (Ok u) = u
trail_in t (Err e) = t

abbrev is_trail : Result Trail ReadFault → Bool
is_trail (Ok t) = true
is_trail (Err e) = false

module _ (h : List ℕ → List ℕ) (p : HamtShape) (k : List ℕ) (slots : List TrieSlot) (m n : Moment) where
  walk_ok : (trail : Trail) → WalksTrie h p k slots m (Ok trail) n → Descends h p k slots m (Ok trail) n
  walk_ok trail w = by w.found w.is w.walk where
    by : (r : Result Trail HamtFault) → Ok trail ≡ entered_as r → Descends h p k slots m r n → Descends h p k slots m (Ok trail) n
    by (Ok t) e d = subst (λ (u : Trail). Descends h p k slots m (Ok u) n) (sym (ap (trail_in trail) e)) d
    by (Err f) e d = absurd (true≢false (ap is_trail e))

-- what is left to its values
pub left_of_site : (view : View) (slot : Slot) (block : List ℕ) (z : Site) (x : IsSiteOf (table_of view) slot z.room view block z) (room less n : ℕ) → room ≡ z.room + 5 → less ≡ room - n → n ≡ taken (form_of (table_of view) (slot_of view))
    → less ≡ z.room
left_of_site view slot block z x room less n whole own same =
    let five : taken (form_of (table_of view) (slot_of view)) ≡ 5 = ap taken x.site.form in
    omega (arith, whole, own, same, five)

module _ (h : List ℕ → List ℕ) (view : View) (slot : Slot) (block k : List ℕ) (z : Site) (m n : Moment) (x : IsSiteOf (table_of view) slot z.room view block z) (root : NodeView)
    (is : RootIs (shape_in (form_of (table_of view) (slot_of view))) (Some x.tree) (Some root)) where
  abbrev Rows : List Row
  Rows = table_of view

  has_slots : HasSlots z.shape root z.slots
  has_slots = site_slots Rows slot z.room view block z x root is

  abbrev Walks : Result Trail ReadFault → Type 0
  Walks r = (p : HamtShape) (slots : List TrieSlot) → HasSlots p root slots → WalksTrie h p k slots m r n

  abbrev Says : List ℕ → BlockWhy → Type 0
  Says id why = IsBrokenSite h Rows m.blocks m.lacks n.lacks z id why

  -- on the key's way
  pub stops_in : (e : ReadFault) → Walks (Err e) → RefusesIn {A = Tree} h Rows z m (Err e) n
  stops_in e walks =
      let w = walks z.shape z.slots has_slots in
      refuses_same (λ id why. Says id why) Trail Tree e (subst (λ (r : Result Trail ReadFault). RefusesBlock (λ id why. Says id why) r) (sym w.is) (by w.found w.walk))
    where
      by : (r : Result Trail HamtFault) → Descends h z.shape k z.slots m r n → RefusesBlock (λ id why. Says id why) (entered_as r)
      by (Ok t) d = tt
      by (Err (H.Block id why)) d = inl (inl (descent_wrong h z.shape m n z.slots z.block k block id why x.block_is d))
      by (Err H.Store) d = tt
      by (Err H.Memory) d = tt
      by (Err H.Exhausted) d = tt
      by (Err H.NoKey) d = tt
      by (Err H.Size) d = tt
      by (Err (H.Clash id kept new)) d = tt

  module _ (trail : Trail) (walks : Walks (Ok trail)) (item : Node) (finds : FindsAtEnd trail root (Some item)) (end : List ℕ) (ends : end ≡ end_block block (trail_blocks trail)) (less : ℕ) (lower : less ≡ z.room) where
    abbrev Walk : Descends h z.shape k z.slots m (Ok trail) n
    Walk = walk_ok h z.shape k z.slots m n trail (walks z.shape z.slots has_slots)

    abbrev Item : IsItemIn (slot_for z.shape (h k) (length Walk.bs) Walk.last) k item
    Item = (finds_last h z.shape k z.slots root trail m n has_slots Walk (Some item) finds).there item refl

    same_end : id_of end ≡ id_of (end_block block Walk.bs)
    same_end = ap id_of (ends ∙ ap (end_block block) Walk.answer.blocks)

    -- at an entry whose value is none of the HAMT's
    pub stops_at : (e : ReadFault) → ((d : Data) → HasData item d → RefusesEntry Rows less (form_of Rows (slot_of view)) end d (Err e)) → RefusesIn {A = Tree} h Rows z m (Err e) n
    stops_at F.Path says = tt
    stops_at (F.Block id why) says =
        let y = Item in
        let w = says y.value y.stands in
        let value : w.slot ≡ z.value = same_Some w.slot z.value (sym w.is ∙ ap element_of x.site.form) in
        inl (inr (entry_wrong z m.blocks (h k) k block x.block_is Walk.bs Walk.last Walk.reads.leads Walk.reads.held Rows item y id.0 why w.cause w.type (w.named ∙ same_end) w.told
        (subst (λ i. IsRefusal Rows i z.value y.value w.type w.cause) lower (subst (λ (s : Slot). IsRefusal Rows less s y.value w.type w.cause) value w.refused))))
    stops_at F.Store says = tt
    stops_at F.Memory says = tt

    only : OnlyReads m n
    only = record { later = Walk.reads.later; blocks = Walk.reads.blocks; given = Walk.reads.given; puts = Walk.reads.puts }

    -- on from the value of the entry
    pub goes_on : (part : View) (o : Moment) (r : Result Tree ReadFault) → ((d : Data) → HasData item d → ChecksEntry Rows less (form_of Rows (slot_of view)) item d (Ok part))
        → ((f : Value) (d : Data) → IsView part f → Front (table_of part) less (slot_of part) f d → RefusesBroken h (table_of part) (id_of end) less (slot_of part) d n r o) → RefusesIn h Rows z m r o
    goes_on part o r checks says =
        let y = Item in
        let c = checks y.value y.stands in
        let f = c.3 in
        let at : IsViewAt Rows c.0 (P.Node item) part = c.2 in
        let value : c.0 ≡ z.value = same_Some c.0 z.value (sym c.1 ∙ ap element_of x.site.form) in
        let front : Front (table_of part) less (slot_of part) f.0 y.value =
        subst (λ (s : Slot). Front (table_of part) less s f.0 y.value) (sym at.slot) (subst (λ (t : List Row). Front t less c.0 f.0 y.value) (sym at.table) (record { fits = f.1; tree = f.2 })) in
        let seen : IsView part f.0 = record { room = less; tree = y.value; stands = subst (λ b. BodyStands (table_of part) b y.value) (sym (held_piece (body_of part) (P.Node item) at.piece)) y.stands; front = front } in
        let own = says f.0 y.value seen front in
        let here = subst (λ (t : List Row). RefusesBroken h t (id_of end) less (slot_of part) y.value n r o) at.table own in
        let there = subst (λ i. RefusesBroken h Rows (id_of end) i z.value y.value n r o) lower (subst (λ (s : Slot). RefusesBroken h Rows (id_of end) less s y.value n r o) (at.slot ∙ value) here) in
        refuses_more (λ id why. HasBrokenBlock h Rows n.blocks n.lacks o.lacks (id_of end) z.room z.value y.value id why) Tree
        (λ id why. IsBrokenSite h Rows m.blocks m.lacks o.lacks z id why) (λ id why w. inr (behind id why w)) r there
      where
        behind : (id : List ℕ) (why : BlockWhy) → HasBrokenBlock h Rows n.blocks n.lacks o.lacks (id_of end) z.room z.value Item.value id why → IsWrongBelow m.blocks z (λ b v. HasBrokenBlock h Rows m.blocks m.lacks o.lacks b z.room z.value v id why)
        behind id why w = record {
          block = id_of end;
          key = k;
          value = Item.value;
          entry = subst (λ i. HasEntry m.blocks z i k Item.value) (sym same_end) (entry_there z m.blocks (h k) k block x.block_is Walk.bs Walk.last Walk.reads.leads Walk.reads.held item Item);
          wrong = broken_earlier h (id_of end) Rows z.room (z.value, Item.value) m n o id why only w;
        }

-- ---- in the data of a view

module _ (law : PartsStandInData) (h : List ℕ → List ℕ) (rows : List Row) (schema : IsSchema rows) (at : List ℕ) (room k : ℕ) (p : InSlot) (t : Data) (path : List (List ℕ)) (front : Front rows room p.0 p.1 t) (m n : Moment) where
  abbrev Left : ℕ
  Left = room_reached rows room p path

  abbrev Broken : ℕ → Slot → Data → List ℕ → BlockWhy → Type 0
  Broken less s d id why = HasBrokenBlock h rows m.blocks m.lacks n.lacks at less s d id why

  module _ (w : View) (y : IsReached rows (reached rows k p path) w) (id : List ℕ) (why : BlockWhy) (b : Broken Left y.part.0 y.view.view.tree id why) where
    in_part : Lands rows room p t Left y.part → Broken room p.0 t id why
    in_part l =
        broken_up h rows m.blocks m.lacks n.lacks at id why room Left p y.part t l (subst (λ d. Broken Left y.part.0 d id why) (one_data rows y.part w y.view Left l.tree l.front) b)

    in_any : AnyPart y.part → ⊥
    in_any a =
        none_broken rows schema h m.blocks m.lacks n.lacks at Left y.view.view.tree id why (subst (λ (u : Slot). Broken Left u y.view.view.tree id why) (sym (ap (λ (z : InSlot). z.0) a.1)) b)

    wrong_part : Broken room p.0 t id why
    wrong_part = ⊎_elim (λ l. in_part l) (λ a. absurd (in_any a)) (lands rows law schema k room p t path y.part front y.is)

  module _ (r : Result Tree ReadFault) where
    -- what the part's view is told, where so much room is left
    abbrev PartSays : View → ℕ → Type 0
    PartSays w less = (d : Data) → IsShown less w d → RefusesBroken h (table_of w) at less (slot_of w) d m r n

    here_in : (w : View) (y : IsReached rows (reached rows k p path) w) → PartSays w Left → RefusesBroken h rows at room p.0 t m r n
    here_in w y says =
        let x = y.view in
        let own = says x.view.tree (shown_part rows Left y.part w x (fits_at rows law schema k room p path y.part front.fits y.is)) in
        let here = subst (λ (s : Slot). RefusesBroken h rows at Left s x.view.tree m r n) x.slot (subst (λ (rs : List Row). RefusesBroken h rs at Left (slot_of w) x.view.tree m r n) x.table own) in
        refuses_more (λ id why. Broken Left y.part.0 x.view.tree id why) Tree (λ id why. Broken room p.0 t id why) (λ id why b. wrong_part w y id why b) r here

    -- the part is there
    pub refuses_here : (w : View) (less : ℕ) → less ≡ Left → Reaches rows (reached rows k p path) (Ok (S.Here w)) → PartSays w less → RefusesBroken h rows at room p.0 t m r n
    refuses_here w less same reaches says = here_in w (here_is rows (reached rows k p path) w reaches) (subst (PartSays w) same says)

    -- what the root's view is told
    abbrev RootSays : View → List ℕ → ℕ → Type 0
    RootSays w block less = (slot : Slot) (z : Site) → IsSiteOf (table_of w) slot z.room w block z → less ≡ z.room + 5 → RefusesIn h (table_of w) z m r n

    entered_in : (w : View) (block : List ℕ) → at ≡ id_of block → (y : IsEntered rows (reached rows k p path) w) → RootSays w block Left → Lands rows room p t Left y.reached.part → RefusesBroken h rows at room p.0 t m r n
    entered_in w block named y says l =
        let x = y.reached.view in
        let q = y.reached.part in
        let s = site_there rows q y.tree at y.is room Left p t l in
        let same : IsSite rows (s.site.room + 5) q.0 y.tree s.site = subst (λ (i : ℕ). IsSite rows i q.0 y.tree s.site) s.is.left s.is in
        let there : IsSite (table_of w) (s.site.room + 5) (slot_of w) y.tree s.site =
        subst (λ (u : Slot). IsSite (table_of w) (s.site.room + 5) u y.tree s.site) (sym x.slot) (subst (λ (rs : List Row). IsSite rs (s.site.room + 5) q.0 y.tree s.site) (sym x.table) same) in
        let own = says s.site.value s.site (record { table = refl; tree = y.tree; stands = subst (IsView w) y.is x.view; site = there; value_is = refl; block_is = s.here ∙ named }) s.is.left in
        refuses_more (λ id why. IsBrokenSite h rows m.blocks m.lacks n.lacks s.site id why) Tree (λ id why. Broken room p.0 t id why)
        (λ id why b. broken_site h rows m.blocks m.lacks n.lacks at id why room p.0 t Left q.0 y.tree s b) r (subst (λ (rs : List Row). RefusesIn h rs s.site m r n) x.table own)

    -- a HAMT has to be entered
    pub refuses_entered : (w : View) (j less : ℕ) (block : List ℕ) → at ≡ id_of block → less ≡ Left → Reaches rows (reached rows k p path) (Ok (S.Enter w j)) → RootSays w block less → RefusesBroken h rows at room p.0 t m r n
    refuses_entered w j less block named same reaches says =
        let y = entered_at rows k p path w j reaches in
        ⊎_elim (λ l. entered_in w block named y (subst (RootSays w block) same says) l) (λ a. absurd (no_hamt a.0 y.tree (ap (λ (z : InSlot). z.1) a.1 ∙ y.is)))
        (lands rows law schema k room p t path y.reached.part front y.reached.is)
