-- A block whose children are held at one of its places in a value is a block of the value.
use Rattle.std.proofs.Common.{◌≡◌, inl, inr, ℕ, Bool, true, false, cond, List, [], ◌∷◌, ◌++◌, map, Option, Some, None, refl, sym, subst, arith}
use Rattle.std.specs.Prelude.{Contains}
use Rattle.std.specs.List.{AllByRecursion, filter, flat_map}
use Rattle.std.specs.Option.{option_map_or}
use Rattle.std.specs.Cmp.Lexicographic.{same_text as texts_same}
use Rattle.std.proofs.lemmas.List.Elements.{Contains-append_left, Contains-append_right}
use Rattle.ild_data.specs.Data.{Data}
use Rattle.ild_data.specs.Key.{same_text}
use Rattle.ild_data.specs.Spell.{id_of}
use Rattle.ild_edges.specs.Gained.{IsWhole}
use Rattle.ild_links.specs.Carries.{IsWholeIn, blocks_in as blocks_of_trees}
use Rattle.ild_links.specs.Walk.{Entered}
use Rattle.ild_run_links.specs.Trees.{Setting as Reading, Storable, blocks_in as value_blocks, trees}
use Rattle.ild_schema.specs.Slots.{plainly}
use Rattle.ild_schema.specs.Value.{Value}
use Rattle.ild_schema.specs.declared.number.TypeNo.{TypeNo}
use Rattle.ild_schema.specs.declared.row.Row.{Row}
use Rattle.ild_typed.proofs.Rooms.{all_more}
use Rattle.ild_typed.specs.Hamt.{whole}
use Rattle.ild_typed.specs.Represented.{represented}
use Rattle.ild_typed.specs.Stands.{bare, blocks_of}
use Rattle.ild_typed_places.proofs.Joining.{down_each}
use Rattle.ild_typed_places.proofs.Listing.{all_one}
use Rattle.ild_typed_places.specs.Laws.{PlacesAreBlocks}
use Rattle.ild_typed_places.specs.Places.{Place, Places, blocks_in, children_at, children_in, down_from, each_place, tops, value_places}

-- what is so of the block of each place is so of one that stands at some place
through : (b : List ℕ) (P : List ℕ → Type 0) (f : Place → List (List ℕ)) (ids : List (List ℕ)) (qs : List Place) → AllByRecursion (λ (q : Place). P q.0) qs → Contains (map f (filter (λ (q : Place). same_text b q.0) qs)) ids → P b
through b P f ids [] all here = let none = here.1 in absurd (omega (arith, none))
through b P f ids (q ∷ qs) all here = by (λ more. through b P f ids qs all.1 more) (same_text b q.0) refl here where
  by : (Contains (map f (filter (λ (p : Place). same_text b p.0) qs)) ids → P b) → (t : Bool) → t ≡ same_text b q.0 → Contains (map f (cond t (q ∷ filter (λ (p : Place). same_text b p.0) qs) (filter (λ (p : Place). same_text b p.0) qs))) ids → P b
  by rest true is there = subst P (sym (texts_same b q.0 is)) all.0
  by rest false is there = rest there

among : (ps : Places) → AllByRecursion (λ (q : Place). Contains (blocks_in ps) q.0) (each_place ps)
among ps = all_more (λ (q : Place). AllByRecursion (Contains (blocks_in ps)) (down_from q)) (λ (q : Place). Contains (blocks_in ps) q.0) (λ q all. all.0) (each_place ps) (down_each (Contains (blocks_in ps)) ps (all_one (blocks_in ps)))

child_block : PlacesAreBlocks → (h : List ℕ → List ℕ) (rows : List Row) (ty : TypeNo) (v : Value) (held : List (List ℕ)) (b : List ℕ) → IsWhole held (children_in bare h rows ty v b) → Contains (value_blocks h rows ty v) b
child_block are h rows ty v held b w = by (represented (whole h) rows (plainly ty) v) w.place where
  by : (o : Option Data) → Contains (option_map_or (λ d. children_at (value_places bare h rows ty v d) b) o []) w.ids → Contains (option_map_or (λ d. blocks_of bare h rows ty v d) o []) b
  by None here = let none = here.1 in absurd (omega (arith, none))
  by (Some d) here = (are bare h rows ty v d b).0
      (through b (Contains (blocks_in (value_places bare h rows ty v d))) (λ q. map id_of (tops q.1)) w.ids (each_place (value_places bare h rows ty v d)) (among (value_places bare h rows ty v d)) here)

pub whole_among : PlacesAreBlocks → (r : Reading) (held : List (List ℕ)) (cs : List (Entered Value)) (b : List ℕ) → IsWholeIn (Storable r) (trees r) held cs b → Contains (blocks_of_trees (Storable r) (trees r) cs) b
whole_among are r held [] b w = absurd w
whole_among are r held (c ∷ cs) b (inl w) = Contains-append_left (value_blocks r.hash r.rows c.hop.ty c.value) (blocks_of_trees (Storable r) (trees r) cs) b (child_block are r.hash r.rows c.hop.ty c.value held b w)
whole_among are r held (c ∷ cs) b (inr w) = Contains-append_right (value_blocks r.hash r.rows c.hop.ty c.value) (blocks_of_trees (Storable r) (trees r) cs) b (whole_among are r held cs b w)

-- ---- children at more places

pub whole_wider : (held : List (List ℕ)) (few many : List (List (List ℕ))) → ((x : List (List ℕ)) → Contains few x → Contains many x) → IsWhole held few → IsWhole held many
whole_wider held few many sub w = record { ids = w.ids; place = sub w.ids w.place; children = w.children }

pub whole_in_all : (r : Reading) (held : List (List ℕ)) (cs : List (Entered Value)) (b : List ℕ) → IsWholeIn (Storable r) (trees r) held cs b → IsWhole held (flat_map (λ (c : Entered Value). children_in bare r.hash r.rows c.hop.ty c.value b) cs)
whole_in_all r held [] b w = absurd w
whole_in_all r held (c ∷ cs) b (inl w) =
    let own = children_in bare r.hash r.rows c.hop.ty c.value b in
    let rest = flat_map (λ (e : Entered Value). children_in bare r.hash r.rows e.hop.ty e.value b) cs in
    whole_wider held own (own ++ rest) (λ x here. Contains-append_left own rest x here) w
whole_in_all r held (c ∷ cs) b (inr w) =
    let own = children_in bare r.hash r.rows c.hop.ty c.value b in
    let rest = flat_map (λ (e : Entered Value). children_in bare r.hash r.rows e.hop.ty e.value b) cs in
    whole_wider held rest (own ++ rest) (λ x here. Contains-append_right own rest x here) (whole_in_all r held cs b w)
