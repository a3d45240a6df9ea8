-- The HAMT at which a path halts stands in the data of the block.
use Rattle.std.proofs.Common.{◌≡◌, ℕ, zero, suc, ◌-◌, ◌≤◌, Bool, true, false, List, [], ◌∷◌, Option, Some, None, refl, sym, ap, ◌∙◌, subst, arith}
use Rattle.std.specs.Option.{option_map_or}
use Rattle.ild_data.specs.Data.{Data}
use Rattle.ild_open_parts.specs.Sites.{HasSite, IsSite, Site}
use Rattle.ild_path_edits.specs.Along.{room_below, taken}
use Rattle.ild_path_edits.specs.Stop.{Stop, stopped}
use Rattle.ild_path_found.proofs.Rooted.{hamt_site, inner_part, no_hamt, of_any_part, own_data}
use Rattle.ild_path_found.specs.Laws.{PartsStandInData, is_any}
use Rattle.ild_path_inward.specs.Halts.{room_stopped}
use Rattle.ild_schema.specs.Prelude.{anything}
use Rattle.ild_schema.specs.Slots.{form_of}
use Rattle.ild_schema.specs.Value.{Value, hamt}
use Rattle.ild_schema.specs.declared.number.Slot.{Slot}
use Rattle.ild_schema.specs.declared.row.Row.{Row}
use Rattle.ild_typed.specs.At.{InSlot, seen}
use Rattle.ild_typed.specs.Fits.{Front}
use Rattle.ild_typed.specs.Holder.{of_any}
use Rattle.ild_typed.specs.Schema.{IsSchema}
use Rattle.ild_typed.specs.Segment.{part}

-- ---- no HAMT is in an Any

any_never : (rows : List Row) (ss : List (List ℕ)) (u : Slot) (d tree : Data) → (stopped rows (u, of_any d) ss).part.1 ≡ hamt tree → ⊥
any_never rows [] u d tree e = no_hamt d tree e
any_never rows (s ∷ ss) u d tree e = by (λ x. any_never rows ss anything x tree) (part (seen rows (u, of_any d)) s) refl e where
  by : ((x : Data) → (stopped rows (anything, of_any x) ss).part.1 ≡ hamt tree → ⊥) → (o : Option InSlot) → part (seen rows (u, of_any d)) s ≡ o → (option_map_or (λ q. stopped rows q ss) o (record { part = (u, of_any d); left = s ∷ ss })).part.1 ≡ hamt tree → ⊥
  by rest None is f = no_hamt d tree f
  by rest (Some q) is f =
      let x = inner_part rows u d s q is in
      rest x.0 (ap (λ (r : InSlot). (stopped rows r ss).part.1) x.1 ∙ f)

from_any : (rows : List Row) (p q : InSlot) (s : List ℕ) (ss : List (List ℕ)) (tree : Data) → is_any p.1 ≡ true → part (seen rows p) s ≡ Some q → (stopped rows q ss).part.1 ≡ hamt tree → ⊥
from_any rows p q s ss tree any is e = let x = of_any_part rows p q s any is in any_never rows ss anything x.0 tree (ap (λ (r : InSlot). (stopped rows r ss).part.1) x.1 ∙ e)

-- ---- along a path

pub record Reached (rows : List Row) (room : ℕ) (s : Slot) (t : Data) (less : ℕ) (u : Slot) (tree : Data) (block : List ℕ) : Type 0 where
  pub steps : ℕ
  pub site : Site
  pub is : IsSite rows less u tree site
  pub here : site.block ≡ block
  pub has : HasSite rows steps room s t site
  pub low : less ≤ room

module _ (law : PartsStandInData) (rows : List Row) (schema : IsSchema rows) (tree : Data) (block : List ℕ) where
  -- at a root
  at_root : (room : ℕ) (p : InSlot) (t : Data) → Front rows room p.0 p.1 t → p.1 ≡ hamt tree → Reached rows room p.0 t room p.0 tree block
  at_root room p t front is =
      let own = subst (λ (v : Value). Front rows room p.0 v t) is front in
      let x = hamt_site rows room p.0 tree t own block in
      record {
        steps = zero;
        site = x.site;
        is = x.is;
        here = x.here;
        has = subst (λ (d : Data). IsSite rows room p.0 d x.site) (sym (own_data rows room p.0 tree t own)) x.is;
        low = omega arith;
      }

  abbrev ReachesFrom : ℕ → InSlot → Data → Stop → ℕ → Type 0
  ReachesFrom room p t stop less = Reached rows room p.0 t less stop.part.0 tree block

  pub reached_site : (path : List (List ℕ)) (room : ℕ) (p : InSlot) (t : Data) → Front rows room p.0 p.1 t → (stopped rows p path).part.1 ≡ hamt tree → ReachesFrom room p t (stopped rows p path) (room_stopped rows room p path)
  reached_site [] room p t front is = at_root room p t front is
  reached_site (s ∷ ss) room p t front is = by (λ q d own at. reached_site ss (room_below rows room p s) q d own at) (part (seen rows p) s) refl is where
    fewer : (n : ℕ) → room - n ≤ room
    fewer n = omega arith

    through : ((q : InSlot) (d : Data) → Front rows (room_below rows room p s) q.0 q.1 d → (stopped rows q ss).part.1 ≡ hamt tree → ReachesFrom (room_below rows room p s) q d (stopped rows q ss) (room_stopped rows (room_below rows room p s) q ss))
        → (q : InSlot) (b : Bool) → is_any p.1 ≡ b → part (seen rows p) s ≡ Some q → (stopped rows q ss).part.1 ≡ hamt tree → ReachesFrom room p t (stopped rows q ss) (room_stopped rows (room_below rows room p s) q ss)
    through rest q true any e at = absurd (from_any rows p q s ss tree any e at)
    through rest q false plain e at =
        let x = law rows schema room p q t s front plain e in
        let r = rest q x.tree x.front at in
        let le = r.low in
        let fewer_left = fewer (taken (form_of rows p.0)) in
        record {
          steps = suc r.steps;
          site = r.site;
          is = r.is;
          here = r.here;
          has = record { type = x.type; form = x.form; slot = q.0; tree = x.tree; part = x.part; then = subst (λ n. HasSite rows r.steps n q.0 x.tree r.site) x.left r.has };
          low = omega (arith, le, fewer_left);
        }

    by : ((q : InSlot) (d : Data) → Front rows (room_below rows room p s) q.0 q.1 d → (stopped rows q ss).part.1 ≡ hamt tree → ReachesFrom (room_below rows room p s) q d (stopped rows q ss) (room_stopped rows (room_below rows room p s) q ss))
        → (o : Option InSlot) → part (seen rows p) s ≡ o → (option_map_or (λ q. stopped rows q ss) o (record { part = p; left = s ∷ ss })).part.1 ≡ hamt tree
        → ReachesFrom room p t (option_map_or (λ q. stopped rows q ss) o (record { part = p; left = s ∷ ss })) (option_map_or (λ q. room_stopped rows (room_below rows room p s) q ss) o room)
    by rest None e at = at_root room p t front at
    by rest (Some q) e at = through rest q (is_any p.1) refl e at
