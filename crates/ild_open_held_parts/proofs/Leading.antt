-- Where a path leads in the front of a value that is held.
use Rattle.std.proofs.Common.{◌≡◌, ℕ, zero, suc, ◌+◌, List, [], ◌∷◌, ◌++◌, length, Bool, true, false, Option, Some, None, refl, ap, sym, ◌∙◌, subst, arith}
use Rattle.std.specs.Prelude.{option_map, option_and_then}
use Rattle.std.specs.Option.{option_map_or}
use Rattle.std.proofs.lemmas.Option.{none-some, same_Some}
use Rattle.ild_data.specs.Data.{Data}
use Rattle.ild_path_edits.proofs.RoomTests.{schemas_have_tests}
use Rattle.ild_typed_fronts.proofs.Seeing.{parts_of_fronts}
use Rattle.ild_typed_fronts.specs.Front.{front, front_in, fronts_of_pairs, is_hamt, is_root, root_of, root_or_map}
use Rattle.ild_open_held.specs.Held.{IsHeld}
use Rattle.ild_schema.specs.declared.number.Slot.{Slot}
use Rattle.ild_schema.specs.declared.row.Row.{Row}
use Rattle.ild_schema.specs.Slots.{form_of}
use Rattle.ild_schema.specs.Value as V
use Rattle.ild_schema.specs.Value.{Value}
use Rattle.ild_typed.specs.At.{InSlot, Reach, here, enter, no_path, at, met, or_enter, reached, seen}
use Rattle.ild_typed.specs.Hamt.{whole}
use Rattle.ild_typed.specs.Represented.{represented}
use Rattle.ild_typed.specs.Schema.{IsSchema}
use Rattle.ild_typed.specs.Segment.{part}
use Rattle.ild_typed.specs.Slots.{element_of}
use Rattle.ild_open_held_parts.specs.Laws.{PathsLead}
use Rattle.ild_open_held_parts.specs.Leads.{CountsHamts, IsFrontOf, Leads, LeadsHere, LeadsIn}
use Rattle.ild_open_held_parts.proofs.Parting.{parts_are_held}

-- what is no root isn't entered
no_root : (h : List ℕ → List ℕ) (rows : List Row) (k : ℕ) (s : Slot) (v : Value) → is_root rows (s, v) ≡ false → or_enter k s (front h rows s v) ≡ no_path k
no_root h rows k s V.null e = refl
no_root h rows k s (V.boolean b) e = refl
no_root h rows k s (V.integer n) e = refl
no_root h rows k s (V.text t) e = refl
no_root h rows k s (V.bytes t) e = refl
no_root h rows k s (V.link t) e = refl
no_root h rows k s (V.list vs) e = refl
no_root h rows k s (V.map ps) e = ap (λ b. or_enter k s (root_or_map b (represented (whole h) rows s (V.map ps)) (option_map_or (λ u. fronts_of_pairs h rows u ps) (element_of (form_of rows s)) ps))) e
no_root h rows k s (V.struct os) e = refl
no_root h rows k s (V.union n v) e = refl
no_root h rows k s (V.enum n) e = refl
no_root h rows k s V.unit e = refl
no_root h rows k s (V.any d) e = refl
no_root h rows k s (V.hamt d) e = absurd cc

-- a root is entered, and has no parts
is_entered : (h : List ℕ → List ℕ) (rows : List Row) (k : ℕ) (s : Slot) (v : Value) (seg : List ℕ) (ss : List (List ℕ)) → is_root rows (s, v) ≡ true
    → reached rows k (front_in h rows (s, v)) (seg ∷ ss) ≡ enter (front_in h rows (s, v)) k
is_entered h rows k s (V.map ps) seg ss e =
    by (represented (whole h) rows s (V.map ps)) (root_or_map (is_hamt (form_of rows s)) (represented (whole h) rows s (V.map ps)) (option_map_or (λ u. fronts_of_pairs h rows u ps) (element_of (form_of rows s)) ps))
    (ap (λ b. root_or_map b (represented (whole h) rows s (V.map ps)) (option_map_or (λ u. fronts_of_pairs h rows u ps) (element_of (form_of rows s)) ps)) e) where
      by : (o : Option Data) (f : Value) → f ≡ root_of o → reached rows k (s, f) (seg ∷ ss) ≡ enter (s, f) k
      by None f is = subst (λ (g : Value). reached rows k (s, g) (seg ∷ ss) ≡ enter (s, g) k) (sym is) refl
      by (Some t) f is = subst (λ (g : Value). reached rows k (s, g) (seg ∷ ss) ≡ enter (s, g) k) (sym is) refl
is_entered h rows k s (V.hamt d) seg ss e = refl
is_entered h rows k s v seg ss e = absurd cc

module _ (block : List ℕ → Option (List ℕ)) (h : List ℕ → List ℕ) (rows : List Row) (schema : IsSchema rows) (room : ℕ) where
  -- one segment more
  leads_more : (k : ℕ) (p q : InSlot) (s : List ℕ) (ss : List (List ℕ)) (r : Reach) → is_root rows p ≡ false → part (seen rows p) s ≡ Some q → Leads block h rows room (suc k) q ss r → Leads block h rows room k p (s ∷ ss) r
  leads_more k p q s ss (here f) plain is l = record {
    part = l.part;
    is = l.is;
    there = ap (λ o. option_and_then (λ (x : InSlot). at rows x ss) o) is ∙ l.there;
    free = λ count none.
        let own = none p s plain in
        let rest = ap (λ o. option_map_or (λ (x : InSlot). met rows count x ss) o 0) is in
        let free = l.free count none in
        omega (arith, own, rest, free);
  }
  leads_more k p q s ss (enter f j) plain is l =
      let x = l.2 in (
        suc l.0,
        omega (arith, l.1),
        record {
          hamt = x.hamt;
          is = x.is;
          root = x.root;
          before = s ∷ x.before;
          key = x.key;
          behind = x.behind;
          split = ap (λ xs. s ∷ xs) x.split;
          many = ap suc x.many;
          goes = ap (λ o. option_and_then (λ (y : InSlot). at rows y ss) o) is ∙ x.goes;
          counts = λ count none.
              let own = none p s plain in
              let rest = ap (λ o. option_map_or (λ (y : InSlot). met rows count y ss) o 0) is in
              let more = x.counts count none in
              omega (arith, own, rest, more);
        },
      )
  leads_more k p q s ss (no_path j) plain is l = ap (λ o. option_and_then (λ (x : InSlot). at rows x ss) o) is ∙ l

  abbrev Onward : List (List ℕ) → Type 0
  Onward ss = (k : ℕ) (q : InSlot) (t : Data) → IsHeld block h rows room q.0 t q.1 → Leads block h rows room k q ss (reached rows k (front_in h rows q) ss)

  by_part : (k : ℕ) (p : InSlot) (t : Data) (s : List ℕ) (ss : List (List ℕ)) → IsHeld block h rows room p.0 t p.1 → Onward ss → is_root rows p ≡ false → (o : Option InSlot) → part (seen rows p) s ≡ o
      → Leads block h rows room k p (s ∷ ss) (option_map_or (λ q. reached rows (suc k) q ss) (option_map (front_in h rows) o) (or_enter k p.0 (front h rows p.0 p.1)))
  by_part k p t s ss held on plain None is = subst (λ (r : Reach). Leads block h rows room k p (s ∷ ss) r) (sym (no_root h rows k p.0 p.1 plain)) (ap (λ o. option_and_then (λ (x : InSlot). at rows x ss) o) is)
  by_part k p t s ss held on plain (Some q) is =
      let d = parts_are_held block h rows schema room p q t s held is in
      leads_more k p q s ss (reached rows (suc k) (front_in h rows q) ss) plain is (on (suc k) q d.0 d.1)

  by_root : (k : ℕ) (p : InSlot) (t : Data) (s : List ℕ) (ss : List (List ℕ)) → IsHeld block h rows room p.0 t p.1 → Onward ss → (b : Bool) → is_root rows p ≡ b → Leads block h rows room k p (s ∷ ss) (reached rows k (front_in h rows p) (s ∷ ss))
  by_root k p t s ss held on true is =
      let root : LeadsIn block h rows room (front_in h rows p) p 0 (s ∷ ss) = record {
        hamt = p;
        is = record { tree = t; held = held; front = refl };
        root = is;
        before = [];
        key = s;
        behind = ss;
        split = refl;
        many = refl;
        goes = refl;
        counts = λ count none. refl;
      } in
      subst (λ (r : Reach). Leads block h rows room k p (s ∷ ss) r) (sym (is_entered h rows k p.0 p.1 s ss is)) (0, omega arith, root)
  by_root k p t s ss held on false is =
      let tests = schemas_have_tests rows schema in
      let same = parts_of_fronts h rows tests.0.is_key schema tests.1.keys p s (room, held.fits) is in
      subst (λ (o : Option InSlot). Leads block h rows room k p (s ∷ ss) (option_map_or (λ q. reached rows (suc k) q ss) o (or_enter k p.0 (front h rows p.0 p.1)))) (sym same)
      (by_part k p t s ss held on is (part (seen rows p) s) refl)

  leads : (path : List (List ℕ)) → Onward path
  leads [] = λ k p t held. record { part = p; is = record { tree = t; held = held; front = refl }; there = refl; free = λ count none. refl }
  leads (s ∷ ss) = λ k p t held. by_root k p t s ss held (leads ss) (is_root rows p) refl

pub paths_lead : PathsLead
paths_lead = λ block h rows schema room k p t path held. leads block h rows schema room path k p t held
