-- Hops: one more, the last one, what they pass and leave, and that they stay.
use Rattle.std.proofs.Common.{◌≡◌, ℕ, ◌+◌, ◌-◌, List, [], ◌∷◌, ◌++◌, map, Option, Some, refl, sym, ap, ◌∙◌, subst, arith}
use Rattle.std.specs.Option.{option_map_or}
use Rattle.std.proofs.lemmas.Option.{same_Some}
use Rattle.ild_data.specs.Key.{value_at}
use Rattle.ild_data.specs.TrieShape.{trie_levels}
use Rattle.ild_edges.specs.Store.{Keeps}
use Rattle.ild_hamt.proofs.Holding.{holds-later}
use Rattle.ild_schema.specs.declared.def.TypeDef.{TypeDef}
use Rattle.ild_schema.specs.declared.number.Slot.{Slot}
use Rattle.ild_schema.specs.declared.row.Row.{Row}
use Rattle.ild_schema.specs.Value.{Value, Pairs, pairs_list}
use Rattle.ild_schema.specs.Value as V
use Rattle.ild_typed.specs.At.{InSlot, at}
use Rattle.ild_path_edits.specs.Along.{room_below, taken}
use Rattle.ild_path_within.proofs.Splitting.{first_of_path}
use Rattle.ild_path_held.specs.HeldEdits.{room_at}
use Rattle.ild_path_held.proofs.Holding.{held_stays}
use Rattle.ild_path_nodes.specs.NodeLaws.{IsHamt}
use Rattle.ild_path_entered.specs.Entered.{PassesHamts}
use Rattle.ild_path_entered.proofs.Editing.{entry_part}
use Rattle.ild_path_hops.specs.Hops.{AreHops, IsHop, front_of, key_of, step_of}
use Rattle.ild_path_hops.specs.HopLaws.{HopsEnd, HopsGrow, HopsLeave, HopsPass, HopsStay, IsLastHop, path_of_hops}
use Rattle.ild_path_hops.specs.declared.hop.Hop.{Hop}

pub hops_grow : HopsGrow
hops_grow = λ h rows was room between less p mid q hops hop before last. by h rows was room between less p mid q hops hop before last where
  by : (h : List ℕ → List ℕ) (rows : List Row) (was : List (List ℕ)) (room between less : ℕ) (p mid q : InSlot) (hops : List Hop) (hop : Hop)
      → AreHops h rows was room p hops mid between → IsHop h rows was between mid hop q less → AreHops h rows was room p (hops ++ hop ∷ []) q less
  by h rows was room between less p mid q [] hop same last =
      (q, less, subst (λ n. IsHop h rows was n p hop q less) (sym same.1) (subst (λ r. IsHop h rows was between r hop q less) (sym same.0) last), (refl, refl))
  by h rows was room between less p mid q (x ∷ hops) hop (m, n, first, rest) last = (m, n, first, by h rows was n between less m mid q hops hop rest last)

pub hops_end : HopsEnd
hops_end = λ h rows was room less p q hops hop all. by h rows was room less p q hops hop all where
  by : (h : List ℕ → List ℕ) (rows : List Row) (was : List (List ℕ)) (room less : ℕ) (p q : InSlot) (hops : List Hop) (hop : Hop) → AreHops h rows was room p (hops ++ hop ∷ []) q less → IsLastHop h rows was room p hops hop q less
  by h rows was room less p q [] hop (m, n, last, same) =
      record { mid = p; between = room; before = (refl, refl); last = subst (λ r. IsHop h rows was room p hop r less) same.0 (subst (IsHop h rows was room p hop m) same.1 last) }
  by h rows was room less p q (x ∷ hops) hop (m, n, first, rest) =
      let y = by h rows was n less m q hops hop rest in
      record { mid = y.mid; between = y.between; before = (m, n, first, y.before); last = y.last }

pub hops_pass : HopsPass
hops_pass = λ h rows was room less p q hops all. by h rows was room less p q hops all where
  by : (h : List ℕ → List ℕ) (rows : List Row) (was : List (List ℕ)) (room less : ℕ) (p q : InSlot) (hops : List Hop) → AreHops h rows was room p hops q less → PassesHamts rows p (map step_of hops) q
  by h rows was room less p q [] same = same.0
  by h rows was room less p q (hop ∷ hops) (m, n, first, rest) = (first.slot, m.0, first.ps, m.1, first.entered, first.value, by h rows was n less m q hops rest)

-- ---- rooms

pub rooms_split : (rows : List Row) (room : ℕ) (p q : InSlot) (front behind : List (List ℕ)) → at rows p front ≡ Some q → room_at rows room p (front ++ behind) ≡ room_at rows (room_at rows room p front) q behind
rooms_split rows room p q [] behind e = ap (λ r. room_at rows room r behind) (same_Some p q e)
rooms_split rows room p q (s ∷ ss) behind e =
    let x = first_of_path rows p q s ss e in
    let n = room_below rows room p s in
    ap (λ o. option_map_or (λ r. room_at rows n r (ss ++ behind)) o n) x.there
    ∙ rooms_split rows n x.item q ss behind x.made
    ∙ ap (λ y. room_at rows y q behind) (sym (ap (λ o. option_map_or (λ r. room_at rows n r ss) o n) x.there))

-- at a key of a HAMT five levels go
pub room_at_key : (rows : List Row) (slot elem : Slot) (ps : Pairs) (is : IsHamt rows slot elem) (k : List ℕ) (w : Value) (less : ℕ) (rest : List (List ℕ)) → value_at k (pairs_list ps) ≡ Some w
    → room_at rows (less + 5) (slot, V.map ps) (k ∷ rest) ≡ room_at rows less (elem, w) rest
room_at_key rows slot elem ps is k w less rest e =
    let below : room_below rows (less + 5) (slot, V.map ps) k ≡ less = ap (λ (o : Option TypeDef). (less + 5) - taken o) is.4 ∙ omega arith in
    ap (λ o. option_map_or (λ q. room_at rows (room_below rows (less + 5) (slot, V.map ps) k) q rest) o (room_below rows (less + 5) (slot, V.map ps) k)) (entry_part rows slot elem ps is k w e)
    ∙ ap (λ n. room_at rows n (elem, w) rest) below

pub hops_leave : HopsLeave
hops_leave = λ h rows was room less p q hops all. by h rows was room less p q hops all where
  by : (h : List ℕ → List ℕ) (rows : List Row) (was : List (List ℕ)) (room less : ℕ) (p q : InSlot) (hops : List Hop) → AreHops h rows was room p hops q less → room_at rows room p (path_of_hops hops) ≡ less
  by h rows was room less p q [] same = same.1
  by h rows was room less p q (hop ∷ hops) (m, n, first, rest) =
      rooms_split rows room p (first.slot, V.map first.ps) (front_of hop) (key_of hop ∷ path_of_hops hops) first.entered.at
      ∙ ap (λ y. room_at rows y (first.slot, V.map first.ps) (key_of hop ∷ path_of_hops hops)) first.left
      ∙ room_at_key rows first.slot m.0 first.ps first.entered.hamt (key_of hop) m.1 n (path_of_hops hops) first.value
      ∙ by h rows was n less m q hops rest

-- ---- a store that grows

pub hop_stays : (h : List ℕ → List ℕ) (rows : List Row) (was now : List (List ℕ)) (room less : ℕ) (p q : InSlot) (hop : Hop) → Keeps was now → IsHop h rows was room p hop q less → IsHop h rows now room p hop q less
hop_stays h rows was now room less p q hop keeps x = record {
  slot = x.slot;
  ps = x.ps;
  es = x.es;
  root = x.root;
  entered = x.entered;
  left = x.left;
  data_is = x.data_is;
  trie = record {
    pairs = x.trie.pairs;
    represents = x.trie.represents;
    rises = x.trie.rises;
    order = x.trie.order;
    texts = x.trie.texts;
    node = x.trie.node;
    is_node = x.trie.is_node;
    root = x.trie.root;
    holds = holds-later h x.entered.hamt.3 was now (trie_levels x.entered.hamt.3) 0 x.es keeps x.trie.holds;
    found = x.trie.found;
  };
  utf8 = x.utf8;
  trail = x.trail;
  value = x.value;
  there = record { tree = x.there.tree; held = held_stays h rows was now less q.0 x.there.tree q.1 keeps x.there.held; entry = x.there.entry };
}

pub hops_stay : HopsStay
hops_stay = λ h rows was now room less p q hops keeps all. by h rows was now room less p q hops keeps all where
  by : (h : List ℕ → List ℕ) (rows : List Row) (was now : List (List ℕ)) (room less : ℕ) (p q : InSlot) (hops : List Hop) → Keeps was now → AreHops h rows was room p hops q less → AreHops h rows now room p hops q less
  by h rows was now room less p q [] keeps same = same
  by h rows was now room less p q (hop ∷ hops) keeps (m, n, first, rest) = (m, n, hop_stays h rows was now room n p m hop keeps first, by h rows was now n less m q hops keeps rest)
