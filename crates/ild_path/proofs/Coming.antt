-- The blocks that come with an edit, as those of the changed value's places.
use Rattle.std.proofs.Common.{◌≡◌, ⊎_elim, ℕ, ◌≤◌, Bool, true, false, cond, nat_le, List, [], ◌∷◌, length, map, filter, Option, Some, IsSome, refl, sym, ap, ◌∙◌, subst, arith, append-nil}
use Rattle.std.specs.List.{AllByRecursion}
use Rattle.std.specs.Option.{option_map_or}
use Rattle.std.specs.Prelude.{Contains}
use Rattle.std.proofs.lemmas.Bool.{le-leb}
use Rattle.ild_data.proofs.AllOf.{all_split, all_contained, contains_more}
use Rattle.ild_data.specs.Data.{Data}
use Rattle.ild_data.specs.Key.{same_text}
use Rattle.ild_data.specs.Limits.{longest_block}
use Rattle.ild_data.specs.Spell.{id_of, spell}
use Rattle.ild_edges.specs.Store.{block_at}
use Rattle.ild_open_held.specs.Held.{IsHeldBlock}
use Rattle.ild_path_ends.specs.Ends.{Came, IsRootHeld}
use Rattle.ild_schema.specs.Slots.{plainly}
use Rattle.ild_schema.specs.Value.{Value}
use Rattle.ild_schema.specs.declared.number.TypeNo.{TypeNo}
use Rattle.ild_schema.specs.declared.row.Row.{Row}
use Rattle.ild_script_meaning.specs.Lines.{short}
use Rattle.ild_script_session.specs.Step.{IsWhole}
use Rattle.ild_typed.specs.Blocks.{nodes}
use Rattle.ild_typed.specs.Hamt.{whole}
use Rattle.ild_typed.specs.Represented.{represented}
use Rattle.ild_typed.specs.Stands.{bare}
use Rattle.ild_typed.proofs.Index.{own_text}
use Rattle.ild_typed.proofs.Rooms.{all_more}
use Rattle.ild_typed_places.specs.Places.{Place, Places, nowhere, place, joined, tops, blocks_in, each_place, places_in, value_places, children_at, children_of, children_in}
use Rattle.ild_typed_places.proofs.Listing.{all_mapped, all_one}
use Rattle.ild_typed_places.proofs.Telling.{are_nodes}

-- ---- those that are not too long

pub in_short : (bs : List (List ℕ)) (b : List ℕ) → Contains bs b → length b ≤ longest_block → Contains (short bs) b
in_short bs b here less = all_contained (λ y. length y ≤ longest_block → Contains (short bs) y) bs b (kept bs) here less where
  grown : (t : Bool) (x : List ℕ) (xs : List (List ℕ)) (y : List ℕ) → Contains xs y → Contains (cond t (x ∷ xs) xs) y
  grown true x xs y here = contains_more x xs y here
  grown false x xs y here = here

  first : (x : List ℕ) (xs : List (List ℕ)) (t : Bool) → t ≡ true → Contains (cond t (x ∷ xs) xs) x
  first x xs true is = (0, omega arith, refl)
  first x xs false is = absurd cc

  kept : (xs : List (List ℕ)) → AllByRecursion (λ y. length y ≤ longest_block → Contains (short xs) y) xs
  kept [] = tt
  kept (x ∷ xs) = (
    λ fits. first x (short xs) (nat_le (length x) longest_block) (le-leb (length x) longest_block fits),
    all_more (λ y. length y ≤ longest_block → Contains (short xs) y) (λ y. length y ≤ longest_block → Contains (short (x ∷ xs)) y) (λ y is fits. grown (nat_le (length x) longest_block) x (short xs) y (is fits)) xs (kept xs),
  )

-- ---- children

joined_nowhere : (ps : Places) → joined ps nowhere ≡ ps
joined_nowhere nowhere = refl
joined_nowhere (place b beneath ps) = ap (λ qs. place b beneath qs) (joined_nowhere ps)

tops_all : (P : List ℕ → Type 0) (ps : Places) → AllByRecursion P (blocks_in ps) → AllByRecursion P (tops ps)
tops_all P nowhere all = tt
tops_all P (place b beneath ps) all = (all.0, tops_all P ps (all_split P (blocks_in beneath) (blocks_in ps) all.1).1)

is_there : (o : Option (List ℕ)) (b : List ℕ) → o ≡ Some b → IsSome o
is_there o b is = subst (λ (x : Option (List ℕ)). IsSome x) (sym is) refl

-- the ids of the children at each of some places of a block
abbrev children_there : List Place → List ℕ → List (List (List ℕ))
children_there qs b = map (λ (q : Place). map id_of (tops q.1)) (filter (λ (q : Place). same_text b q.0) qs)

module _ (h : List ℕ → List ℕ) (rows : List Row) (n : TypeNo) (c : Value) (u : Data) (tree : represented (whole h) rows (plainly n) c ≡ Some u) (now : List (List ℕ)) where
  abbrev Beneath : Places
  Beneath = places_in h rows (plainly n) c

  each_value : each_place (value_places bare h rows n c u) ≡ (spell u, Beneath) ∷ each_place Beneath
  each_value = append-nil ((spell u, joined Beneath nowhere) ∷ each_place (joined Beneath nowhere)) ∙ ap (λ (ps : Places). (spell u, ps) ∷ each_place ps) (joined_nowhere Beneath)

  children_are : (b : List ℕ) → children_there ((spell u, Beneath) ∷ each_place Beneath) b ≡ children_in bare h rows n c b
  children_are b = sym (ap (λ (o : Option Data). option_map_or (λ (d : Data). children_at (value_places bare h rows n c d) b) o []) tree ∙ ap (λ (qs : List Place). children_there qs b) each_value)

  at_root : (t : Bool) (qs : List Place) → t ≡ true → Contains (map (λ (q : Place). map id_of (tops q.1)) (cond t ((spell u, Beneath) ∷ qs) qs)) (map id_of (tops Beneath))
  at_root true qs is = (0, omega arith, refl)
  at_root false qs is = absurd cc

  below_root : (t : Bool) (qs : List Place) (ids : List (List ℕ)) → Contains (map (λ (q : Place). map id_of (tops q.1)) qs) ids → Contains (map (λ (q : Place). map id_of (tops q.1)) (cond t ((spell u, Beneath) ∷ qs) qs)) ids
  below_root true qs ids here = contains_more (map id_of (tops Beneath)) (map (λ (q : Place). map id_of (tops q.1)) qs) ids here
  below_root false qs ids here = here

  root_children : AllByRecursion (IsHeldBlock (block_at now)) (nodes h rows (plainly n) c) → AllByRecursion (λ id. IsSome (block_at now id)) (map id_of (tops Beneath))
  root_children held =
      let held_there : (b : List ℕ) → Contains (blocks_in Beneath) b → IsSome (block_at now (id_of b)) = λ b here.
      is_there (block_at now (id_of b)) b (all_contained (IsHeldBlock (block_at now)) (nodes h rows (plainly n) c) b held ((are_nodes h rows (plainly n) c b).0 here)).there in
      all_mapped (λ id. IsSome (block_at now id)) id_of (tops Beneath)
      (tops_all (λ b. IsSome (block_at now (id_of b))) Beneath (all_more (Contains (blocks_in Beneath)) (λ b. IsSome (block_at now (id_of b))) held_there (blocks_in Beneath) (all_one (blocks_in Beneath))))

  of_root : (b : List ℕ) → IsRootHeld h rows (plainly n) c u now b → IsWhole now (children_in bare h rows n c b)
  of_root b x = subst (IsWhole now) (children_are b)
      (record {
        ids = map id_of (tops Beneath);
        place = at_root (same_text b (spell u)) (filter (λ (q : Place). same_text b q.0) (each_place Beneath)) (same b (spell u) x.root);
        children = root_children x.nodes_held;
      })
    where
      same : (a b : List ℕ) → a ≡ b → same_text a b ≡ true
      same a b is = ap (same_text a) (sym is) ∙ own_text a

  of_node : (b : List ℕ) → IsWhole now (children_of h rows (plainly n, c) b) → IsWhole now (children_in bare h rows n c b)
  of_node b x = subst (IsWhole now) (children_are b)
      (record {
        ids = x.ids;
        place = below_root (same_text b (spell u)) (filter (λ (q : Place). same_text b q.0) (each_place Beneath)) x.ids x.place;
        children = x.children;
      })

  -- a block that came has its children held, as one of the value's
  pub came_whole : (b : List ℕ) → Came h rows (plainly n) c u now b → IsWhole now (children_in bare h rows n c b)
  came_whole b x = ⊎_elim (of_root b) (of_node b) x.whole
