-- The part of a view to which segments lead, or the HAMT at which they stop, stands in the data of the view.
use Rattle.std.proofs.Common.{◌≡◌, ◌⊎◌, inl, inr, ⊎_elim, ℕ, zero, suc, Bool, true, false, true≢false, List, [], ◌∷◌, Option, Some, None, Ok, refl, sym, ap, ◌∙◌, subst}
use Rattle.std.specs.Option.{option_map_or}
use Rattle.std.proofs.lemmas.Option.{same_Some}
use Rattle.ild_cbor.specs.declared.why.BlockWhy.{BlockWhy}
use Rattle.ild_data.specs.Data.{Data}
use Rattle.ild_bulk_walker.specs.Standing.{IsWrongOnTree}
use Rattle.ild_open_parts.specs.Broken.{HasBrokenBlock, IsWrongIn}
use Rattle.ild_run_follow.specs.Refuses.{IsBrokenSite}
use Rattle.ild_open_parts.specs.Sites.{HasSite, IsPartIn, IsSite, Site}
use Rattle.ild_path_edits.specs.Along.{room_below}
use Rattle.ild_path_found.proofs.Rooted.{AnyPart, hamt_site, inner_part, of_any_part, own_data}
use Rattle.ild_path_found.specs.Laws.{PartsStandInData, is_any}
use Rattle.ild_schema.specs.Prelude.{anything}
use Rattle.ild_schema.specs.Slots.{form_of}
use Rattle.ild_schema.specs.Value as V
use Rattle.ild_schema.specs.Value.{Value, hamt}
use Rattle.ild_schema.specs.declared.def.TypeDef.{TypeDef}
use Rattle.ild_schema.specs.declared.def.TypeDef.TheVariants as D
use Rattle.ild_schema.specs.declared.number.Slot.{Slot}
use Rattle.ild_schema.specs.declared.row.Row.{Row}
use Rattle.ild_typed.specs.At.{InSlot, Reach, here, enter, no_path, or_enter, reached, seen}
use Rattle.ild_typed.specs.Fits.{Fits, Front}
use Rattle.ild_typed.specs.Hamt.{alone}
use Rattle.ild_typed.specs.Represented.{represented}
use Rattle.ild_typed.specs.Schema.{IsSchema}
use Rattle.ild_typed.specs.Segment.{part}
use Rattle.ild_value_meaning.proofs.Told.{told}
use Rattle.ild_view.specs.Parts.{IsPartView}
use Rattle.ild_view.specs.Reaches.{Reaches}
use Rattle.ild_view.specs.View.{table_of}
use Rattle.ild_view.specs.declared.step.Step.TheVariants as S
use Rattle.ild_view.specs.declared.view.View.{View}
use Rattle.ild_run_follow.proofs.Rooms.{or_part, part_in, reach_part}
use Rattle.ild_run_follow.specs.inside.Rooms.{room_reached}

-- ---- what is reached

-- what is entered is a HAMT
abbrev IsEntry : Reach → Type 0
IsEntry (enter q k) = (tree : Data) × (q.1 ≡ hamt tree)
IsEntry (here q) = Unit {0}
IsEntry (no_path k) = Unit {0}

module _ (rows : List Row) where
  entry_is_hamt : (k : ℕ) (p : InSlot) (path : List (List ℕ)) → IsEntry (reached rows k p path)
  entry_is_hamt k p [] = tt
  entry_is_hamt k p (s ∷ ss) = by (part (seen rows p) s) (λ q. entry_is_hamt (suc k) q ss) where
    by_value : (slot : Slot) (v : Value) → IsEntry (or_enter k slot v)
    by_value slot (V.hamt d) = (d, refl)
    by_value slot v = tt

    by : (o : Option InSlot) → ((q : InSlot) → IsEntry (reached rows (suc k) q ss)) → IsEntry (option_map_or (λ q. reached rows (suc k) q ss) o (or_enter k p.0 p.1))
    by None rest = by_value p.0 p.1
    by (Some q) rest = rest q

  -- a view is of the part
  pub record IsReached (r : Reach) (w : View) : Type 0 where
    pub part : InSlot
    pub is : reach_part r ≡ Some part
    pub view : IsPartView rows part w

  pub here_is : (r : Reach) (w : View) → Reaches rows r (Ok (S.Here w)) → IsReached r w
  here_is (here q) w x = record { part = q; is = refl; view = x }
  here_is (enter q k) w x = absurd x
  here_is (no_path k) w x = absurd x

  pub record IsEntered (r : Reach) (w : View) : Type 0 where
    pub reached : IsReached r w
    pub tree : Data
    pub is : reached.part.1 ≡ hamt tree

  pub enter_is : (r : Reach) (w : View) (j : ℕ) → IsEntry r → Reaches rows r (Ok (S.Enter w j)) → IsEntered r w
  enter_is (here q) w j e x = absurd x
  enter_is (enter q k) w j e x = record { reached = record { part = q; is = refl; view = x.0 }; tree = e.0; is = e.1 }
  enter_is (no_path k) w j e x = absurd x

  pub entered_at : (k : ℕ) (p : InSlot) (path : List (List ℕ)) (w : View) (j : ℕ) → Reaches rows (reached rows k p path) (Ok (S.Enter w j)) → IsEntered (reached rows k p path) w
  entered_at k p path w j x = enter_is (reached rows k p path) w j (entry_is_hamt k p path) x

  -- ---- in the data

  -- the part q nests no deeper than what is left, and what stands in its data stands in the whole's
  pub record Lands (room : ℕ) (p : InSlot) (t : Data) (less : ℕ) (q : InSlot) : Type 0 where
    pub tree : Data
    pub front : Front rows less q.0 q.1 tree
    pub up : (z : Site) (steps : ℕ) → HasSite rows steps less q.0 tree z → (n : ℕ) × HasSite rows n room p.0 t z

  at_once : (room : ℕ) (p q : InSlot) (t : Data) → Front rows room p.0 p.1 t → p ≡ q → Lands room p t room q
  at_once room p q t front e = record {
    tree = t;
    front = subst (λ (x : InSlot). Front rows room x.0 x.1 t) e front;
    up = λ z n has. (n, subst (λ (x : InSlot). HasSite rows n room x.0 t z) (sym e) has);
  }

  any_lands : (k : ℕ) (p : InSlot) (path : List (List ℕ)) (q : InSlot) → AnyPart p → reach_part (reached rows k p path) ≡ Some q → AnyPart q
  any_lands k p [] q any is = subst (λ (x : InSlot). AnyPart x) (same_Some p q is) any
  any_lands k p (s ∷ ss) q any is = by (part (seen rows p) s) refl is (λ w a at. any_lands (suc k) w ss q a at) where
    by : (o : Option InSlot) → part (seen rows p) s ≡ o → reach_part (option_map_or (λ q. reached rows (suc k) q ss) o (or_enter k p.0 p.1)) ≡ Some q
        → ((w : InSlot) → AnyPart w → reach_part (reached rows (suc k) w ss) ≡ Some q → AnyPart q) → AnyPart q
    by None e at rest = subst (λ (x : InSlot). AnyPart x) (or_part k p.0 p.1 q at) any
    by (Some w) e at rest = rest w (inner_part rows anything any.0 s w (subst (λ (x : InSlot). part (seen rows x) s ≡ Some w) (sym any.1) e)) at

  module _ (law : PartsStandInData) (schema : IsSchema rows) where
    abbrev LandsOn : ℕ → InSlot → Data → List (List ℕ) → InSlot → Type 0
    LandsOn room p t path q = Lands room p t (room_reached rows room p path) q ⊎ AnyPart q

    pub lands : (k room : ℕ) (p : InSlot) (t : Data) (path : List (List ℕ)) (q : InSlot) → Front rows room p.0 p.1 t → reach_part (reached rows k p path) ≡ Some q → LandsOn room p t path q
    lands k room p t [] q front is = inl (at_once room p q t front (same_Some p q is))
    lands k room p t (s ∷ ss) q front is = by (part (seen rows p) s) refl is (λ w d own at. lands (suc k) (room_below rows room p s) w d ss q own at) where
      through : (w : InSlot) (b : Bool) → is_any p.1 ≡ b → part (seen rows p) s ≡ Some w → reach_part (reached rows (suc k) w ss) ≡ Some q
          → ((w : InSlot) (d : Data) → Front rows (room_below rows room p s) w.0 w.1 d → reach_part (reached rows (suc k) w ss) ≡ Some q → LandsOn (room_below rows room p s) w d ss q)
          → Lands room p t (room_reached rows (room_below rows room p s) w ss) q ⊎ AnyPart q
      through w true any e at rest = inr (any_lands (suc k) w ss q (of_any_part rows p w s any e) at)
      through w false plain e at rest =
          let x = law rows schema room p w t s front plain e in
          ⊎_elim
          (λ (r : Lands (room_below rows room p s) w x.tree (room_reached rows (room_below rows room p s) w ss) q). inl (record {
            tree = r.tree;
            front = r.front;
            up = λ z n has.
                let y = r.up z n has in
                (suc y.0, record { type = x.type; form = x.form; slot = w.0; tree = x.tree; part = x.part; then = subst (λ i. HasSite rows y.0 i w.0 x.tree z) x.left y.1 });
          }))
          (λ a. inr a) (rest w x.tree x.front at)

      by : (o : Option InSlot) → part (seen rows p) s ≡ o → reach_part (option_map_or (λ q. reached rows (suc k) q ss) o (or_enter k p.0 p.1)) ≡ Some q
          → ((w : InSlot) (d : Data) → Front rows (room_below rows room p s) w.0 w.1 d → reach_part (reached rows (suc k) w ss) ≡ Some q → LandsOn (room_below rows room p s) w d ss q)
          → Lands room p t (option_map_or (λ w. room_reached rows (room_below rows room p s) w ss) o room) q ⊎ AnyPart q
      by None e at rest = inl (at_once room p q t front (or_part k p.0 p.1 q at))
      by (Some w) e at rest = through w (is_any p.1) refl e at rest

    -- the part nests no more levels than are left
    pub fits_at : (k room : ℕ) (p : InSlot) (path : List (List ℕ)) (q : InSlot) → Fits rows room p.0 p.1 → reach_part (reached rows k p path) ≡ Some q → Fits rows (room_reached rows room p path) q.0 q.1
    fits_at k room p [] q fits is = subst (λ (x : InSlot). Fits rows room x.0 x.1) (same_Some p q is) fits
    fits_at k room p (s ∷ ss) q fits is = by (part (seen rows p) s) refl is (λ w own at. fits_at (suc k) (room_below rows room p s) w ss q own at) where
      by : (o : Option InSlot) → part (seen rows p) s ≡ o → reach_part (option_map_or (λ q. reached rows (suc k) q ss) o (or_enter k p.0 p.1)) ≡ Some q
          → ((w : InSlot) → Fits rows (room_below rows room p s) w.0 w.1 → reach_part (reached rows (suc k) w ss) ≡ Some q → Fits rows (room_reached rows (room_below rows room p s) w ss) q.0 q.1)
          → Fits rows (option_map_or (λ w. room_reached rows (room_below rows room p s) w ss) o room) q.0 q.1
      by None e at rest = subst (λ (x : InSlot). Fits rows room x.0 x.1) (or_part k p.0 p.1 q at) fits
      by (Some w) e at rest = rest w (part_in rows schema room p w s fits e) at

-- ---- a HAMT there

pub record HasSiteThere (rows : List Row) (room : ℕ) (s : Slot) (t : Data) (less : ℕ) (u : Slot) (tree : Data) (at : List ℕ) : Type 0 where
  pub steps : ℕ
  pub site : Site
  pub is : IsSite rows less u tree site
  pub here : site.block ≡ at
  pub has : HasSite rows steps room s t site

pub site_there : (rows : List Row) (q : InSlot) (tree : Data) (at : List ℕ) → q.1 ≡ hamt tree → (room less : ℕ) (p : InSlot) (t : Data) → Lands rows room p t less q → HasSiteThere rows room p.0 t less q.0 tree at
site_there rows q tree at top room less p t l =
    let own : Front rows less q.0 (hamt tree) l.tree = subst (λ (v : Value). Front rows less q.0 v l.tree) top l.front in
    let y = hamt_site rows less q.0 tree l.tree own at in
    let up = l.up y.site zero (subst (λ d. IsSite rows less q.0 d y.site) (sym (own_data rows less q.0 tree l.tree own)) y.is) in
    record { steps = up.0; site = y.site; is = y.is; here = y.here; has = up.1 }

module _ (h : List ℕ → List ℕ) (rows : List Row) (blocks : Option (List (List ℕ))) (before now : ℕ) (at : List ℕ) (id : List ℕ) (why : BlockWhy) where
  -- what is broken in the part's data is broken in the whole's
  pub broken_up : (room less : ℕ) (p q : InSlot) (t : Data) (l : Lands rows room p t less q) → HasBrokenBlock h rows blocks before now at less q.0 l.tree id why → HasBrokenBlock h rows blocks before now at room p.0 t id why
  broken_up room less p q t l x = by x.deep x.wrong where
    by : (deep : ℕ) → IsWrongIn deep h rows blocks before now at less q.0 l.tree id why → HasBrokenBlock h rows blocks before now at room p.0 t id why
    by zero w = absurd w
    by (suc deep) w = let up = l.up w.site w.steps w.has in record { deep = suc deep; wrong = record { steps = up.0; site = w.site; has = up.1; here = w.here; wrong = w.wrong } }

  pub broken_site : (room : ℕ) (s : Slot) (t : Data) (less : ℕ) (u : Slot) (tree : Data) (x : HasSiteThere rows room s t less u tree at) → IsBrokenSite h rows blocks before now x.site id why
      → HasBrokenBlock h rows blocks before now at room s t id why
  broken_site room s t less u tree x (inl (inl w)) = record {
    deep = suc zero;
    wrong = record { steps = x.steps; site = x.site; has = x.has; here = x.here; wrong = inl (subst (λ b. IsWrongOnTree h x.site.shape blocks x.site.slots b before now id why) x.here w) };
  }
  broken_site room s t less u tree x (inl (inr w)) = record { deep = suc zero; wrong = record { steps = x.steps; site = x.site; has = x.has; here = x.here; wrong = inr (inl w) } }
  broken_site room s t less u tree x (inr w) = record {
    deep = suc w.wrong.deep;
    wrong = record { steps = x.steps; site = x.site; has = x.has; here = x.here; wrong = inr (inr (record { block = w.block; key = w.key; value = w.value; entry = w.entry; wrong = w.wrong.wrong })) };
  }

-- ---- none in an Any

abbrev is_map : TypeDef → Bool
is_map (D.Map key key_at value at form) = true
is_map d = false

no_site : (rows : List Row) (z : Site) (steps room : ℕ) (s : Slot) (t : Data) → form_of rows s ≡ Some D.Any → HasSite rows steps room s t z → ⊥
no_site rows z zero room s t any x = true≢false (sym (ap (λ (o : Option TypeDef). option_map_or is_map o false) (sym any ∙ x.form)))
no_site rows z (suc steps) room s t any x =
    subst (λ (d : TypeDef). IsPartIn d x.part.layer x.slot x.tree) (sym (same_Some D.Any x.type (sym any ∙ x.form))) x.part.part

pub none_broken : (rows : List Row) → IsSchema rows → (h : List ℕ → List ℕ) (blocks : Option (List (List ℕ))) (before now : ℕ) (at : List ℕ) (room : ℕ) (t : Data) (id : List ℕ) (why : BlockWhy)
    → HasBrokenBlock h rows blocks before now at room anything t id why → ⊥
none_broken rows schema h blocks before now at room t id why x = by x.deep x.wrong where
  by : (deep : ℕ) → IsWrongIn deep h rows blocks before now at room anything t id why → ⊥
  by zero w = w
  by (suc deep) w = no_site rows w.site w.steps room anything t (told rows schema).any_there w.has

-- ---- the part's own data

pub one_data : (rows : List Row) (q : InSlot) (w : View) (x : IsPartView rows q w) (less : ℕ) (t : Data) → Front rows less q.0 q.1 t → x.view.tree ≡ t
one_data rows q w x less t own =
    let there : represented alone rows q.0 q.1 ≡ Some x.view.tree =
    subst (λ (r : List Row). represented alone r q.0 q.1 ≡ Some x.view.tree) x.table (subst (λ (u : Slot). represented alone (table_of w) u q.1 ≡ Some x.view.tree) x.slot x.view.front.tree) in
    same_Some x.view.tree t (sym there ∙ own.tree)
