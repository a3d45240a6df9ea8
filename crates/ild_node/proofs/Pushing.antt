-- A row that is pushed behind lesser ones.
use Rattle.std.proofs.Common.{◌≡◌, ℕ, true, List, [], ◌∷◌, ◌++◌, refl, sym, ap, ◌∙◌, subst}
use Rattle.std.specs.Prelude.{IsUtf8}
use Rattle.std.specs.Ordering.{is_lt}
use Rattle.std.specs.FinMap.{is_sorted}
use Rattle.std.specs.FinMap.Entries.{below_all}
use Rattle.std.proofs.lemmas.Bool.{and_parts, and_from}
use Rattle.std.proofs.lemmas.List.{map-append}
use Rattle.ild_data.specs.Data.{Data}
use Rattle.ild_data.specs.ByteOrder.{bytewise}
use Rattle.ild_hamt_trie.proofs.Parts.{total}
use Rattle.ild_typed.specs.Nested.{TreeIn}
use Rattle.ild_node_slots.specs.Form.{AreTexts}
use Rattle.ild_node.specs.Rows.{row_seen, rows_seen, AreRows, AreShallow, IsAbove, deepest_value}
use Rattle.ild_node.specs.declared.row.Row.{Row}
use Rattle.ild_typed.proofs.NodeEntries.{less, T_of, true_of}

texts-pushed : (es : List (List ℕ × Data)) (e : List ℕ × Data) → AreTexts es → IsUtf8 e.0 → AreTexts (es ++ e ∷ [])
texts-pushed [] e all is = (is, tt)
texts-pushed (f ∷ es) e all is = (all.0, texts-pushed es e all.1 is)

-- a key below all of some entries, the last of which is below e, is below e too
below-pushed : (k : List ℕ) (es : List (List ℕ × Data)) (e : List ℕ × Data) → below_all bytewise k es ≡ true → is_lt (bytewise k e.0) ≡ true → below_all bytewise k (es ++ e ∷ []) ≡ true
below-pushed k [] e below is = and_from (is_lt (bytewise k e.0)) true is refl
below-pushed k (f ∷ es) e below is =
    let parts = and_parts (is_lt (bytewise k f.0)) (below_all bytewise k es) below in
    and_from (is_lt (bytewise k f.0)) (below_all bytewise k (es ++ e ∷ [])) parts.0 (below-pushed k es e parts.1 is)

-- every key is below the new one
below-new : (f : List ℕ × Data) (es : List (List ℕ × Data)) (k : List ℕ) → below_all bytewise f.0 es ≡ true → IsAbove k (f ∷ es) → is_lt (bytewise f.0 k) ≡ true
below-new f [] k below above = ap is_lt above
below-new f (g ∷ []) k below above =
    let parts = and_parts (is_lt (bytewise f.0 g.0)) true below in
    ap is_lt (total.trans f.0 g.0 k (less _ parts.0) above)
below-new f (g ∷ h ∷ es) k below above =
    let parts = and_parts (is_lt (bytewise f.0 g.0)) (below_all bytewise f.0 (h ∷ es)) below in
    below-new f (h ∷ es) k parts.1 above

above-rest : (f : List ℕ × Data) (es : List (List ℕ × Data)) (k : List ℕ) → IsAbove k (f ∷ es) → IsAbove k es
above-rest f [] k above = tt
above-rest f (g ∷ es) k above = above

order-pushed : (es : List (List ℕ × Data)) (e : List ℕ × Data) → is_sorted bytewise es ≡ true → IsAbove e.0 es → is_sorted bytewise (es ++ e ∷ []) ≡ true
order-pushed [] e order above = refl
order-pushed (f ∷ es) e order above =
    let parts = and_parts (below_all bytewise f.0 es) (is_sorted bytewise es) order in
    and_from (below_all bytewise f.0 (es ++ e ∷ [])) (is_sorted bytewise (es ++ e ∷ []))
    (below-pushed f.0 es e parts.0 (below-new f es e.0 parts.0 above)) (order-pushed es e parts.1 (above-rest f es e.0 above))

shallow-pushed : (es : List (List ℕ × Data)) (e : List ℕ × Data) → AreShallow es → TreeIn deepest_value e.1 → AreShallow (es ++ e ∷ [])
shallow-pushed [] e all is = (is, tt)
shallow-pushed (f ∷ es) e all is = (all.0, shallow-pushed es e all.1 is)

pub rows-pushed : (rows new : List Row) (r : Row) (k : List ℕ) → new ≡ rows ++ r ∷ [] → r.key ≡ k → AreRows (rows_seen rows) → IsAbove k (rows_seen rows) → IsUtf8 k → TreeIn deepest_value r.value → AreRows (rows_seen new)
rows-pushed rows new r k is key all above utf8 nested =
    subst (λ (es : List (List ℕ × Data)). AreRows es) (sym (ap rows_seen is ∙ map-append row_seen rows (r ∷ []))) (
      T_of _ (order-pushed (rows_seen rows) (row_seen r) (true_of _ all.0) (subst (λ (x : List ℕ). IsAbove x (rows_seen rows)) (sym key) above)),
      texts-pushed (rows_seen rows) (row_seen r) all.1 (subst (λ (x : List ℕ). IsUtf8 x) (sym key) utf8),
      shallow-pushed (rows_seen rows) (row_seen r) all.2 nested,
    )
