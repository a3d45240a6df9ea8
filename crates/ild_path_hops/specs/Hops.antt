-- The HAMTs on the way of a path, from the root inward, one in the value of another's entry (IPLD HashMap).
use Rattle.std.specs.Prelude.{◌≡◌, ℕ, ◌+◌, IsUtf8, List, [], ◌∷◌, Some}
use Rattle.ild_data.specs.Data.{Data}
use Rattle.ild_data.specs.Key.{value_at}
use Rattle.ild_data.specs.Trie.{TrieSlot}
use Rattle.ild_schema.specs.declared.number.Slot.{Slot}
use Rattle.ild_schema.specs.declared.row.Row.{Row}
use Rattle.ild_schema.specs.Value.{Pairs, map, pairs_list}
use Rattle.ild_typed.specs.At.{InSlot}
use Rattle.ild_typed.specs.Hamt.{whole}
use Rattle.ild_typed.specs.Node.{IsRoot}
use Rattle.ild_typed.specs.Represented.{represented}
use Rattle.ild_hamt.specs.Descending.{IsTrailOf}
use Rattle.ild_path_held.specs.Hamts.{IsTrieIn}
use Rattle.ild_path_held.specs.HeldEdits.{room_at}
use Rattle.ild_path_entered.specs.Entered.{IsEntered}
use Rattle.ild_path_enter.specs.Enters.{IsValueThere}
use Rattle.ild_path_hops.specs.declared.hop.Hop.{Hop}

abbrev pub front_of : Hop → List (List ℕ)
front_of hop = hop.front

abbrev pub key_of : Hop → List ℕ
key_of hop = hop.trail.key

-- the path in the block to the HAMT, and its key
abbrev pub step_of : Hop → List (List ℕ) × List ℕ
step_of hop = (front_of hop, key_of hop)

-- Over a store that holds p in this room: the hop leads from p to a HAMT, five levels above the room that is left in its entries, and
-- through the entry at its key to q. The HAMT is one of these entries, all of whose nodes are held; the trail is that of the key.
pub record IsHop (h : List ℕ → List ℕ) (rows : List Row) (was : List (List ℕ)) (room : ℕ) (p : InSlot) (hop : Hop) (q : InSlot) (less : ℕ) : Type 0 where
  pub slot : Slot
  pub ps : Pairs
  pub es : List (List ℕ × Data)
  pub root : Data
  pub entered : IsEntered rows p (front_of hop) slot q.0 ps
  pub left : room_at rows room p (front_of hop) ≡ less + 5
  pub data_is : represented (whole h) rows slot (map ps) ≡ Some root
  pub trie : IsTrieIn h entered.hamt.3 rows was q.0 ps root es
  pub utf8 : IsUtf8 (key_of hop)
  pub trail : (slots : List TrieSlot) → IsRoot entered.hamt.3 slots root → IsTrailOf h entered.hamt.3 (key_of hop) slots es hop.trail
  pub value : value_at (key_of hop) (pairs_list ps) ≡ Some q.1
  pub there : IsValueThere h rows was q.0 less q.1 hop.entry

-- the hops pass from p, in this room, to q, in the room that is left for it
abbrev pub AreHops : (List ℕ → List ℕ) → List Row → List (List ℕ) → ℕ → InSlot → List Hop → InSlot → ℕ → Type 0
AreHops h rows was room p [] q less = (p ≡ q) × (room ≡ less)
AreHops h rows was room p (hop ∷ hops) q less = (mid : InSlot) × (between : ℕ) × IsHop h rows was room p hop mid between × AreHops h rows was between mid hops q less
