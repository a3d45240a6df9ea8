-- The view of the innermost block.
use Rattle.std.proofs.Common.{◌≡◌, ⊎_elim, ℕ, Bool, List, [], ◌∷◌, ◌++◌, Some, sym, ap, ◌∙◌, subst}
use Rattle.std.proofs.lemmas.Option.{same_Some}
use Rattle.ild_data.specs.Data.{Data}
use Rattle.ild_data.specs.Limits.{deepest}
use Rattle.ild_schema.specs.declared.row.Row.{Row}
use Rattle.ild_schema.specs.Value.{Value}
use Rattle.ild_typed.specs.At.{InSlot}
use Rattle.ild_typed.specs.Hamt.{whole}
use Rattle.ild_typed.specs.Represented.{represented}
use Rattle.ild_view.specs.View.{slot_of, table_of}
use Rattle.ild_view.specs.declared.view.View.{View}
use Rattle.ild_path_block.specs.Edits.{IsRootView}
use Rattle.ild_typed_fronts.specs.Front.{front}
use Rattle.ild_path_outward.specs.Level.{IsLevel}
use Rattle.ild_path_hops.specs.Hops.{AreHops}
use Rattle.ild_path_hops.specs.declared.hop.Hop.{Hop}
use Rattle.ild_path_hops.proofs.Hopping.{hops_end}
use Rattle.ild_path_hops.proofs.Linking.{none_or_last}
use Rattle.ild_path_outward.proofs.Stepping.{entry_view}
use Rattle.ild_path_ends.specs.Steps.{IsViewOfEntry}

-- it shows the value q, which has the data d
pub record IsInner (h : List ℕ → List ℕ) (rows : List Row) (q : InSlot) (d : Data) (view : View) : Type 0 where
  pub table : table_of view ≡ rows
  pub slot : slot_of view ≡ q.0
  pub root : IsRootView view (front h rows q.0 q.1) d

module _ (h : List ℕ → List ℕ) (is_key : ℕ → List ℕ → Bool) (was : List (List ℕ)) (v : Value) (t : Data) (root : View) (hops : List Hop) (q : InSlot) (less : ℕ) (level : IsLevel h is_key was deepest v t root)
    (leads : AreHops h (table_of root) was deepest (slot_of root, v) hops q less) (d : Data) (tree : represented (whole h) (table_of root) q.0 q.1 ≡ Some d) (view : View) where
  abbrev Rows : List Row
  Rows = table_of root

  of_root : hops ≡ [] → view ≡ root → IsInner h Rows q d view
  of_root none is =
      let same : (slot_of root, v) ≡ q = (subst (λ hs. AreHops h Rows was deepest (slot_of root, v) hs q less) none leads).0 in
      let same_data : t ≡ d = same_Some t d (sym (subst (λ (r : InSlot). represented (whole h) Rows r.0 r.1 ≡ Some t) same level.held.tree) ∙ tree) in
      record {
        table = ap table_of is;
        slot = ap slot_of is ∙ ap (λ (r : InSlot). r.0) same;
        root = subst (λ y. IsRootView y (front h Rows q.0 q.1) d) (sym is) (subst (IsRootView root (front h Rows q.0 q.1)) same_data (subst (λ (r : InSlot). IsRootView root (front h Rows r.0 r.1) t) same level.root));
      }

  of_entry : (before : List Hop) (last : Hop) → hops ≡ before ++ last ∷ [] → IsViewOfEntry last.entry view → IsInner h Rows q d view
  of_entry before last is at =
      let z = hops_end h Rows was deepest less (slot_of root, v) q before last (subst (λ hs. AreHops h Rows was deepest (slot_of root, v) hs q less) is leads) in
      let y = z.last.there in
      record {
        table = at.table ∙ y.entry.table;
        slot = at.slot ∙ y.entry.slot;
        root = subst (IsRootView view (front h Rows q.0 q.1)) (same_Some y.tree d (sym y.held.tree ∙ tree))
            (entry_view h Rows q.0 less q.1 y.tree last.entry view level.schema y.held.fits y.held.tree y.entry at.table at.slot at.safe at.whole);
      }

  pub inner_view : (hops ≡ [] → view ≡ root) → ((before : List Hop) (last : Hop) → hops ≡ before ++ last ∷ [] → IsViewOfEntry last.entry view) → IsInner h Rows q d view
  inner_view top entry = ⊎_elim (λ none. of_root none (top none)) (λ z. of_entry z.0 z.1 z.2 (entry z.0 z.1 z.2)) (none_or_last hops)
