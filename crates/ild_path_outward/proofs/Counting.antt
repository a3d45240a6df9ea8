-- The nodes on the way of a key that was put, and how many a segment counts.
use Rattle.std.proofs.Common.{◌≡◌, ℕ, List, [], ◌∷◌, ◌++◌, length, Bool, true, false, Option, Some, None, refl, ap, sym, ◌∙◌, append-nil}
use Rattle.std.specs.Prelude.{cond, is_some, if◌then◌else◌}
use Rattle.std.specs.FinMap.{put as insert}
use Rattle.std.specs.Option.{option_map_or}
use Rattle.ild_data.specs.ByteOrder.{bytewise, in_byte_order}
use Rattle.ild_data.specs.Data.{Data}
use Rattle.ild_data.specs.Key.{put}
use Rattle.ild_data.specs.Trie.{trie}
use Rattle.ild_data.specs.TrieShape.{trie_levels}
use Rattle.ild_data.specs.declared.hamt_shape.HamtShape.{HamtShape}
use Rattle.ild_hamt_trie.specs.Way.{way}
use Rattle.ild_schema.specs.declared.def.MapForm.TheVariants as MF
use Rattle.ild_schema.specs.declared.def.TypeDef.{TypeDef}
use Rattle.ild_schema.specs.declared.def.TypeDef.TheVariants as D
use Rattle.ild_schema.specs.declared.number.Slot.{Slot}
use Rattle.ild_schema.specs.declared.row.Row.{Row}
use Rattle.ild_schema.specs.Slots.{form_of}
use Rattle.ild_schema.specs.Value as V
use Rattle.ild_schema.specs.Value.{Value, Pairs, pairs_of, pairs_list}
use Rattle.ild_typed.specs.At.{InSlot, seen}
use Rattle.ild_typed.specs.Hamt.{root_map, whole}
use Rattle.ild_typed.specs.Represented.{represented, represented_pairs}
use Rattle.ild_typed.specs.Segment.{part}
use Rattle.ild_typed.proofs.Basics.{map_from}
use Rattle.ild_typed_fronts.proofs.Pathing.{pairs_back}
use Rattle.ild_path_nodes.specs.NodeLaws.{IsHamt}
use Rattle.ild_path_held.specs.Hamts.{IsTrieIn}
use Rattle.ild_path_held.proofs.Orders.{sorted_put}
use Rattle.ild_path_held.proofs.Tries.{map_data, put_data}
use Rattle.ild_path_entered.specs.Entered.{with_entry}
use Rattle.ild_path_way.specs.Way.{nodes_for, nodes_in_map, nodes_met, nodes_on}
use Rattle.ild_script_meaning.specs.Costs.{met_in, met_in_map, on_way}

-- ---- counts

if_length : (b : Bool) (xs : List (List ℕ)) → (if b then length xs else 0) ≡ length (cond b xs [])
if_length true xs = refl
if_length false xs = refl

or_length : (h : List ℕ → List ℕ) (p : HamtShape) (k : List ℕ) (o : Option (List (List ℕ × Data))) → option_map_or (on_way h p k) o 0 ≡ length (option_map_or (nodes_on h p k) o [])
or_length h p k None = refl
or_length h p k (Some es) = if_length (is_some (trie h p es 0)) (way h p k (trie_levels p) 0 (in_byte_order es))

map_length : (h : List ℕ → List ℕ) (rows : List Row) (d : Option TypeDef) (ps : Pairs) (k : List ℕ) → met_in_map h rows d ps k ≡ length (nodes_in_map h rows d ps k)
map_length h rows (Some (D.Map key key_at value place (MF.Hamt p))) ps k = or_length h p k (represented_pairs (whole h) rows value ps)
map_length h rows d ps k = refl

-- a segment counts the nodes that there are for it
pub met_length : (h : List ℕ → List ℕ) (rows : List Row) (d : Option TypeDef) (v : Value) (k : List ℕ) → met_in h rows d v k ≡ length (nodes_for h rows d v k)
met_length h rows d (V.map ps) k = map_length h rows d ps k
met_length h rows d v k = refl

-- those that a path of one segment meets
pub one_met : (h : List ℕ → List ℕ) (rows : List Row) (p : InSlot) (s : List ℕ) → nodes_met h rows p (s ∷ []) ≡ nodes_for h rows (form_of rows p.0) p.1 s
one_met h rows p s = by (part (seen rows p) s) where
  by : (o : Option InSlot) → nodes_for h rows (form_of rows p.0) p.1 s ++ option_map_or (λ q. nodes_met h rows q []) o [] ≡ nodes_for h rows (form_of rows p.0) p.1 s
  by None = append-nil (nodes_for h rows (form_of rows p.0) p.1 s)
  by (Some q) = append-nil (nodes_for h rows (form_of rows p.0) p.1 s)

-- ---- a map with data in which an entry was put has for its key the nodes on the key's way in the trie of the new entries

pub put_met : (h : List ℕ → List ℕ) (rows : List Row) (held : List (List ℕ)) (s elem : Slot) (ps : Pairs) (t : Data) (es : List (List ℕ × Data)) (is : IsHamt rows s elem) → IsTrieIn h is.3 rows held elem ps t es
    → (k : List ℕ) (w : Value) (d x : Data) → represented (whole h) rows elem w ≡ Some d → represented (whole h) rows s (with_entry k w ps) ≡ Some x
    → nodes_for h rows (form_of rows s) (with_entry k w ps) k ≡ way h is.3 k (trie_levels is.3) 0 (insert bytewise k d es)
put_met h rows held s elem ps t es is tried k w d x new made =
    let xs = pairs_list ps in
    let pairs : List (List ℕ × Data) = put k d tried.pairs in
    let e : represented_pairs (whole h) rows elem (pairs_of (put k w xs)) ≡ Some pairs = put_data h rows elem k w d xs tried.pairs new (ap (represented_pairs (whole h) rows elem) (pairs_back ps) ∙ tried.represents) in
    let y = map_from (root_map is.3) (trie h is.3 pairs 0) x (sym (map_data h rows s elem is (pairs_of (put k w xs)) pairs e) ∙ made) in
    let order : insert bytewise k d es ≡ in_byte_order pairs = ap (insert bytewise k d) tried.order ∙ sorted_put k d tried.pairs in
    ap (λ (o : Option TypeDef). nodes_for h rows o (with_entry k w ps) k) is.4
    ∙ ap (λ o. option_map_or (nodes_on h is.3 k) o []) e
    ∙ ap (λ (o : Option Data). cond (is_some o) (way h is.3 k (trie_levels is.3) 0 (in_byte_order pairs)) []) y.there
    ∙ ap (λ fs. way h is.3 k (trie_levels is.3) 0 fs) (sym order)

pub put_counted : (h : List ℕ → List ℕ) (rows : List Row) (held : List (List ℕ)) (s elem : Slot) (ps : Pairs) (t : Data) (es : List (List ℕ × Data)) (is : IsHamt rows s elem) → IsTrieIn h is.3 rows held elem ps t es
    → (k : List ℕ) (w : Value) (d x : Data) → represented (whole h) rows elem w ≡ Some d → represented (whole h) rows s (with_entry k w ps) ≡ Some x
    → met_in h rows (form_of rows s) (with_entry k w ps) k ≡ length (way h is.3 k (trie_levels is.3) 0 (insert bytewise k d es))
put_counted h rows held s elem ps t es is tried k w d x new made =
    met_length h rows (form_of rows s) (with_entry k w ps) k ∙ ap (λ (bs : List (List ℕ)). length bs) (put_met h rows held s elem ps t es is tried k w d x new made)
