-- What stands for a tree stands under its id, and the other way; and where a path stops in it.
use Rattle.std.proofs.Common.{◌≡◌, ℕ, suc, ◌-◌, ◌<◌, ◌≤◌, Bool, true, false, nat_lt, List, [], ◌∷◌, length, take, Option, Some, None, refl, sym, ap, ◌∙◌, subst, arith}
use Rattle.std.proofs.lemmas.Bool.{ltb-false, ltb-true}
use Rattle.std.specs.List.{AllByRecursion}
use Rattle.std.specs.Option.{option_map_or}
use Rattle.std.specs.Prelude.{if◌then◌else◌, option_and_then}
use Rattle.ild_data.specs.Data.{Data}
use Rattle.ild_data.specs.Spell.{id_of}
use Rattle.ild_edges.specs.Store.{block_at}
use Rattle.ild_links.specs.Trees.{Tree, Stands, root_of_blocks}
use Rattle.ild_path_edits.specs.Stop.{stopped}
use Rattle.ild_run_links.specs.Links.{link_to}
use Rattle.ild_run_links.specs.Trees.{Setting, Storable, blocks_in, reach_in, trees}
use Rattle.ild_run_links.specs.inside.Ends.{link_unless}
use Rattle.ild_schema.specs.Slots.{plainly}
use Rattle.ild_schema.specs.Value.{Value}
use Rattle.ild_schema.specs.declared.number.TypeNo.{TypeNo}
use Rattle.ild_schema.specs.declared.row.Row.{Row}
use Rattle.ild_typed.specs.At.{InSlot, at, seen}
use Rattle.ild_typed.specs.Hamt.{whole}
use Rattle.ild_typed.specs.Represented.{represented}
use Rattle.ild_typed.specs.Segment.{part}
use Rattle.ild_typed.specs.Stands.{Stands as StandsUnder, bare, blocks_of}

pub blocks_are : (h : List ℕ → List ℕ) (rows : List Row) (ty : TypeNo) (v : Value) (d : Data) → represented (whole h) rows (plainly ty) v ≡ Some d → blocks_in h rows ty v ≡ blocks_of bare h rows ty v d
blocks_are h rows ty v d is = ap (λ o. option_map_or (blocks_of bare h rows ty v) o []) is

module _ (w : Setting) where
  pub stands_under : (held : List (List ℕ)) (t : Tree) (v : Value) → Stands (Storable w) (trees w) held t v → StandsUnder bare (block_at held) w.hash w.rows t.ty t.id v
  stands_under held t v st =
      let is = blocks_are w.hash w.rows t.ty v st.storable.0 st.storable.1.tree in record {
        tree = st.storable.0;
        storable = st.storable.1;
        root = st.root ∙ ap root_of_blocks is;
        all = subst (AllByRecursion (λ b. block_at held (id_of b) ≡ Some b)) is st.all;
      }

  pub stands_for : (held : List (List ℕ)) (t : Tree) (v : Value) → StandsUnder bare (block_at held) w.hash w.rows t.ty t.id v → Stands (Storable w) (trees w) held t v
  stands_for held t v st =
      let is = blocks_are w.hash w.rows t.ty v st.tree st.storable.tree in record {
        storable = (st.tree, st.storable);
        root = st.root ∙ sym (ap root_of_blocks is);
        all = subst (AllByRecursion (λ b. block_at held (id_of b) ≡ Some b)) (sym is) st.all;
      }

-- ---- the link at which a path stops

module _ (rows : List Row) where
  left_short : (path : List (List ℕ)) (p : InSlot) → length (stopped rows p path).left ≤ length path
  left_short [] p = omega arith
  left_short (s ∷ ss) p = by (part (seen rows p) s) (λ q. left_short ss q) where
    by : (o : Option InSlot) → ((q : InSlot) → length (stopped rows q ss).left ≤ length ss) → length (option_map_or (λ q. stopped rows q ss) o (record { part = p; left = s ∷ ss })).left ≤ suc (length ss)
    by None rest = omega arith
    by (Some q) rest = let le = rest q in omega (arith, le)

  abbrev Left : ℕ → InSlot → List (List ℕ) → Option (TypeNo × List ℕ)
  Left n p path = if nat_lt n (length path) then option_and_then (link_to rows) (at rows p (take n path)) else None

  at_reach : (path : List (List ℕ)) (p : InSlot) → at rows p (take (reach_in rows p path) path) ≡ Some (stopped rows p path).part
  at_reach [] p = refl
  at_reach (s ∷ ss) p = by (part (seen rows p) s) refl (λ q. at_reach ss q) where
    none_gone : suc (length ss) - suc (length ss) ≡ 0
    none_gone = omega arith

    one_more : (k : ℕ) → k ≤ length ss → suc (length ss) - k ≡ suc (length ss - k)
    one_more k le = omega (arith, le)

    by : (o : Option InSlot) → part (seen rows p) s ≡ o → ((q : InSlot) → at rows q (take (reach_in rows q ss) ss) ≡ Some (stopped rows q ss).part) → at rows p (take (reach_in rows p (s ∷ ss)) (s ∷ ss)) ≡ Some (stopped rows p (s ∷ ss)).part
    by None is rest =
        let stop = ap (λ o. option_map_or (λ q. stopped rows q ss) o (record { part = p; left = s ∷ ss })) is in
        ap (λ n. at rows p (take n (s ∷ ss))) (ap (λ z. suc (length ss) - length z.left) stop ∙ none_gone) ∙ sym (ap (λ z. Some z.part) stop)
    by (Some q) is rest =
        let stop = ap (λ o. option_map_or (λ q. stopped rows q ss) o (record { part = p; left = s ∷ ss })) is in
        ap (λ n. at rows p (take n (s ∷ ss))) (ap (λ z. suc (length ss) - length z.left) stop ∙ one_more (length (stopped rows q ss).left) (left_short ss q))
        ∙ ap (option_and_then (λ r. at rows r (take (reach_in rows q ss) ss))) is ∙ rest q ∙ sym (ap (λ z. Some z.part) stop)

  below_by : (a b : ℕ) (c : Bool) → nat_lt a b ≡ c → a < b → c ≡ true
  below_by a b true is lt = refl
  below_by a b false is lt = let ge : b ≤ a = ltb-false a b is in absurd (omega (arith, ge, lt))

  above_by : (a b : ℕ) (c : Bool) → nat_lt a b ≡ c → b ≤ a → c ≡ false
  above_by a b false is le = refl
  above_by a b true is le = let lt : a < b = ltb-true a b is in absurd (omega (arith, lt, le))

  pub left_link : (path : List (List ℕ)) (p : InSlot) → link_unless (stopped rows p path).left rows (stopped rows p path).part ≡ Left (reach_in rows p path) p path
  left_link path p = by (stopped rows p path).left refl (left_short path p) where
    by : (left : List (List ℕ)) → (stopped rows p path).left ≡ left → length (stopped rows p path).left ≤ length path → link_unless (stopped rows p path).left rows (stopped rows p path).part ≡ Left (reach_in rows p path) p path
    by [] is short =
        let none = ap length is in
        let above : nat_lt (reach_in rows p path) (length path) ≡ false = above_by (reach_in rows p path) (length path) (nat_lt (reach_in rows p path) (length path)) refl (omega (arith, none)) in
        ap (λ l. link_unless l rows (stopped rows p path).part) is ∙ sym (ap (λ b. if b then option_and_then (link_to rows) (at rows p (take (reach_in rows p path) path)) else None) above)
    by (y ∷ ys) is short =
        let some = ap length is in
        let below : nat_lt (reach_in rows p path) (length path) ≡ true = below_by (reach_in rows p path) (length path) (nat_lt (reach_in rows p path) (length path)) refl (omega (arith, some, short)) in
        ap (λ l. link_unless l rows (stopped rows p path).part) is ∙ sym (ap (λ b. if b then option_and_then (link_to rows) (at rows p (take (reach_in rows p path) path)) else None) below ∙ ap (option_and_then (link_to rows)) (at_reach path p))
