-- The first of the items or entries that an iterator has left, and the others.
use Rattle.std.proofs.Common.{◌≡◌, ℕ, ◌+◌, ◌-◌, ◌^◌, ◌<◌, ◌≤◌, List, [], ◌++◌, length, length-append, append_assoc, take, drop, refl, sym, ap, subst, ◌∙◌, arith}
use Rattle.std.specs.Prelude.{IsUtf8}
use Rattle.std.proofs.lemmas.List.{take_all, length-drop}
use Rattle.ild_data.specs.Data.{Data, list, map, Items, no_items, item, Members, no_members, member, items_list, members_list}
use Rattle.ild_data.specs.Spell.{head, spell, spell_text, spell_items, spell_members}
use Rattle.ild_cbor.specs.declared.node.Node.{Node}
use Rattle.ild_cbor.specs.declared.start.Start.{Start}
use Rattle.ild_cbor.specs.inside.Row.{IsRow}
use Rattle.ild_cbor.specs.inside.Shape.{StartsAs}
use Rattle.ild_cbor.specs.Spelled.{Holds, Spells, SpellsItems, SpellsMembers}
use Rattle.ild_cbor.specs.Nodes.{HasData}
use Rattle.ild_cbor.proofs.Blocks.{held_from}
use Rattle.ild_data.proofs.Shapes.{keys_and_values-spell}
use Rattle.ild_cbor.proofs.Insides.{one_row, list_if, map_if}

-- `&b[i..]` as it is seen
pub range_from : (b : List ℕ) (i : ℕ) → take (length b - i) (drop i b) ≡ drop i b
range_from b i = take_all (length b - i) (drop i b) (omega (arith, length-drop i b))

-- ---- a piece of a block that is cut in two or three

-- a piece, and where it begins
pub record Cut (block : List ℕ) (from to : ℕ) (H B rest : List ℕ) : Type 0 where
  pub fits : length rest ≤ to
  pub place : to - length rest ≡ from + length H
  pub holds : Holds block (to - length rest) B

-- a piece behind another one
pub behind_head : (block : List ℕ) (from to : ℕ) (H B rest : List ℕ) (h : Holds block from (H ++ B)) → from + length (H ++ B) ≡ to → length rest ≡ length B → Cut block from to H B rest
behind_head block from to H B rest h end same =
    let l1 = length-append H B in
    let l2 = length-append h.before H in
    let start = h.place in
    let is : block ≡ (h.before ++ H) ++ (B ++ h.after) = h.is ∙ ap (λ (x : List ℕ). h.before ++ x) (append_assoc H B h.after) ∙ sym (append_assoc h.before H (B ++ h.after)) in
    record { fits = omega arith; place = omega arith; holds = record { before = h.before ++ H; after = h.after; is = is; place = omega arith } }

-- a piece between two others, where value begins with it, and after is behind it
pub record Pieces (block : List ℕ) (from : ℕ) (P D M value after : List ℕ) : Type 0 where
  pub value_fits : length value ≤ length block
  pub fits : length after ≤ length block
  pub value_place : length block - length value ≡ from + length P
  pub place : length block - length after ≡ from + length P + length D
  pub first : Holds block (from + length P) D
  pub others : Holds block (length block - length after) M

pub pieces : (block : List ℕ) (from : ℕ) (S P D M value after : List ℕ) (h : Holds block from S) → S ++ h.after ≡ P ++ (D ++ (M ++ h.after)) → value ≡ D ++ (M ++ h.after) → after ≡ M ++ h.after → Pieces block from P D M value after
pieces block from S P D M value after h cut value_is after_is =
    let N : List ℕ = M ++ h.after in
    let start = h.place in
    let is : block ≡ h.before ++ (P ++ (D ++ N)) = h.is ∙ ap (λ (x : List ℕ). h.before ++ x) cut in
    let to_first : block ≡ (h.before ++ P) ++ (D ++ N) = is ∙ sym (append_assoc h.before P (D ++ N)) in
    let l1 : length block ≡ length ((h.before ++ P) ++ (D ++ N)) = ap length to_first in
    let l2 = length-append (h.before ++ P) (D ++ N) in
    let l3 = length-append h.before P in
    let l4 = length-append D N in
    let l5 = length-append (h.before ++ P) D in
    let l6 : length value ≡ length (D ++ N) = ap length value_is in
    let l7 : length after ≡ length N = ap length after_is in
    record {
      value_fits = omega arith;
      fits = omega arith;
      value_place = omega arith;
      place = omega arith;
      first = record { before = h.before ++ P; after = N; is = to_first; place = omega arith };
      others = record { before = (h.before ++ P) ++ D; after = h.after; is = to_first ∙ sym (append_assoc (h.before ++ P) D N); place = omega arith };
    }

pub held_at : (block piece : List ℕ) (i j : ℕ) → Holds block i piece → i ≡ j → Holds block j piece
held_at block piece i j h e = subst (λ (k : ℕ). Holds block k piece) e h

-- ---- items

pub record FirstItem (block : List ℕ) (from n : ℕ) (after : List ℕ) (ds : Items) : Type 0 where
  pub d : Data
  pub more : Items
  pub is : ds ≡ item d more
  pub fits : length after ≤ length block
  pub order : from ≤ length block - length after
  pub first : Spells block from (length block - length after) d
  pub others : SpellsItems block (length block - length after) (n - 1) more
  pub place : length block - length after ≡ from + length (spell d)

first_item_in : (block : List ℕ) (from n : ℕ) (after : List ℕ) (d : Data) (more : Items) → SpellsItems block from n (item d more) → length block < 2 ^ 64
    → ((es : Items) (x : List ℕ) → IsRow (drop from block) 1 es x → after ≡ x) → FirstItem block from n after (item d more)
first_item_in block from n after d more h short skips =
    let held = h.holds in
    let nested = h.nested in
    let sized = h.sized in
    let count = h.count in
    let M : List ℕ = spell_items more in
    let cut : (spell d ++ M) ++ held.after ≡ spell d ++ (M ++ held.after) = append_assoc (spell d) M held.after in
    let flat : drop from block ≡ spell d ++ (M ++ held.after) = held_from block (spell d ++ M) from held ∙ cut in
    let row = one_row (drop from block) d (M ++ held.after) flat h.trees.0 (omega (arith, length-drop from block)) in
    let p = pieces block from (spell d ++ M) [] (spell d) M (drop from block) after held cut flat (skips (item d no_items) (M ++ held.after) row) in
    let place = p.place in
    let fits = p.fits in
    let l1 = length-append (spell d) M in
    record {
      d = d;
      more = more;
      is = refl;
      fits = fits;
      order = omega arith;
      first = record { holds = held_at block (spell d) (from + 0) from p.first (omega arith); end = omega arith; within = record { tree = h.trees.0; nested = omega arith; sized = omega arith } };
      others = record { holds = p.others; count = omega arith; trees = h.trees.1; nested = omega arith; sized = omega arith };
      place = omega arith;
    }

pub first_item : (block : List ℕ) (from n : ℕ) (after : List ℕ) (ds : Items) → SpellsItems block from n ds → 0 < n → length block < 2 ^ 64
    → ((es : Items) (x : List ℕ) → IsRow (drop from block) 1 es x → after ≡ x) → FirstItem block from n after ds
first_item block from n after no_items h lt short skips = let c = h.count in absurd (omega arith)
first_item block from n after (item d more) h lt short skips = first_item_in block from n after d more h short skips

-- the items of a list, behind its head
pub record ItemsOf (n : Node) (rest : List ℕ) (count : ℕ) (t : Data) : Type 0 where
  pub items : Items
  pub is : t ≡ list items
  pub fits : length rest ≤ n.to
  pub spells : SpellsItems n.block.now (n.to - length rest) count items
  pub place : n.to - length rest ≡ n.from + length (head 4 (length (items_list items)))

items_of_in : (n : Node) (s : Start) (ds : Items) → HasData n (list ds) → StartsAs s (list ds) → ItemsOf n s.rest.now s.argument (list ds)
items_of_in n s ds h st =
    let w = h.within in
    let nested = w.nested in
    let sized = w.sized in
    let H : List ℕ = head 4 (length (items_list ds)) in
    let c = behind_head n.block.now n.from n.to H (spell_items ds) s.rest.now h.holds h.end (ap length st.rest_is) in
    let l1 = length-append H (spell_items ds) in
    record {
      items = ds;
      is = refl;
      fits = c.fits;
      spells = record { holds = c.holds; count = sym st.argument_is; trees = w.tree; nested = omega arith; sized = omega arith };
      place = c.place;
    }

pub items_in : (n : Node) (s : Start) (t : Data) → HasData n t → StartsAs s t → s.major ≡ 4 → ItemsOf n s.rest.now s.argument t
items_in n s t h st four =
    let l = list_if t (sym st.major_is ∙ four) in
    let P : Data → Type 0 = λ u. HasData n u → StartsAs s u → ItemsOf n s.rest.now s.argument u in
    subst P (sym l.1) (λ hl sl. items_of_in n s l.0 hl sl) h st

-- ---- entries

pub record FirstEntry (block : List ℕ) (from n : ℕ) (key value after : List ℕ) (ms : Members) : Type 0 where
  pub k : List ℕ
  pub d : Data
  pub more : Members
  pub is : ms ≡ member k d more
  pub key_is : key ≡ k
  pub utf8 : IsUtf8 key
  pub value_fits : length value ≤ length block
  pub fits : length after ≤ length block
  pub before : from ≤ length block - length after
  pub order : length block - length value ≤ length block - length after
  pub first : Spells block (length block - length value) (length block - length after) d
  pub others : SpellsMembers block (length block - length after) (n - 1) more
  pub value_place : length block - length value ≡ from + length (spell_text k)
  pub place : length block - length after ≡ from + length (spell_text k) + length (spell d)

first_entry_in : (block : List ℕ) (from n : ℕ) (key value after : List ℕ) (k : List ℕ) (d : Data) (more : Members) → SpellsMembers block from n (member k d more) → length block < 2 ^ 64
    → ((j x : List ℕ) → length j < 2 ^ 64 → drop from block ≡ spell_text j ++ x → key ≡ j) → ((j x : List ℕ) → length j < 2 ^ 64 → drop from block ≡ spell_text j ++ x → value ≡ x)
    → ((es : Items) (x : List ℕ) → IsRow value 1 es x → after ≡ x) → FirstEntry block from n key value after (member k d more)
first_entry_in block from n key value after k d more h short keys values skips =
    let held = h.holds in
    let nested = h.nested in
    let sized = h.sized in
    let count = h.count in
    let K : List ℕ = spell_text k in
    let M : List ℕ = spell_members more in
    let V : List ℕ = spell d ++ (M ++ held.after) in
    let cut : ((K ++ spell d) ++ M) ++ held.after ≡ K ++ V = append_assoc (K ++ spell d) M held.after ∙ append_assoc K (spell d) (M ++ held.after) in
    let flat : drop from block ≡ K ++ V = held_from block ((K ++ spell d) ++ M) from held ∙ cut in
    let l0 = length-drop from block in
    let l1 : length (drop from block) ≡ length (K ++ V) = ap length flat in
    let l2 = length-append K V in
    let l3 = length-append (head 3 (length k)) k in
    let l4 = length-append (K ++ spell d) M in
    let l5 = length-append K (spell d) in
    let key_is : key ≡ k = keys k V (omega arith) flat in
    let value_is : value ≡ V = values k V (omega arith) flat in
    let l6 : length value ≡ length V = ap length value_is in
    let p = pieces block from ((K ++ spell d) ++ M) K (spell d) M value after held cut value_is (skips (item d no_items) (M ++ held.after) (one_row value d (M ++ held.after) value_is h.entries.1 (omega arith))) in
    let place = p.place in
    let value_place = p.value_place in
    let IsText : List ℕ → Type 0 = λ x. IsUtf8 x in
    record {
      k = k;
      d = d;
      more = more;
      is = refl;
      key_is = key_is;
      utf8 = subst IsText (sym key_is) h.entries.0;
      value_fits = p.value_fits;
      fits = p.fits;
      before = omega arith;
      order = omega arith;
      first = record { holds = held_at block (spell d) (from + length K) (length block - length value) p.first (sym value_place); end = omega arith; within = record { tree = h.entries.1; nested = omega arith; sized = omega arith } };
      others = record { holds = p.others; count = omega arith; entries = h.entries.3; nested = omega arith; sized = omega arith };
      value_place = value_place;
      place = place;
    }

pub first_entry : (block : List ℕ) (from n : ℕ) (key value after : List ℕ) (ms : Members) → SpellsMembers block from n ms → 0 < n → length block < 2 ^ 64
    → ((j x : List ℕ) → length j < 2 ^ 64 → drop from block ≡ spell_text j ++ x → key ≡ j) → ((j x : List ℕ) → length j < 2 ^ 64 → drop from block ≡ spell_text j ++ x → value ≡ x)
    → ((es : Items) (x : List ℕ) → IsRow value 1 es x → after ≡ x) → FirstEntry block from n key value after ms
first_entry block from n key value after no_members h lt short keys values skips = let c = h.count in absurd (omega arith)
first_entry block from n key value after (member k d more) h lt short keys values skips = first_entry_in block from n key value after k d more h short keys values skips

-- the entries of a map, behind its head
pub record EntriesOf (n : Node) (rest : List ℕ) (count : ℕ) (t : Data) : Type 0 where
  pub members : Members
  pub is : t ≡ map members
  pub fits : length rest ≤ n.to
  pub spells : SpellsMembers n.block.now (n.to - length rest) count members
  pub place : n.to - length rest ≡ n.from + length (head 5 (length (members_list members)))

entries_of_in : (n : Node) (s : Start) (ms : Members) → HasData n (map ms) → StartsAs s (map ms) → EntriesOf n s.rest.now s.argument (map ms)
entries_of_in n s ms h st =
    let w = h.within in
    let nested = w.nested in
    let sized = w.sized in
    let H : List ℕ = head 5 (length (members_list ms)) in
    let c = behind_head n.block.now n.from n.to H (spell_members ms) s.rest.now h.holds h.end (ap length (st.rest_is ∙ sym (keys_and_values-spell ms))) in
    let l1 = length-append H (spell_members ms) in
    record {
      members = ms;
      is = refl;
      fits = c.fits;
      spells = record { holds = c.holds; count = sym st.argument_is; entries = w.tree; nested = omega arith; sized = omega arith };
      place = c.place;
    }

pub entries_in : (n : Node) (s : Start) (t : Data) → HasData n t → StartsAs s t → s.major ≡ 5 → EntriesOf n s.rest.now s.argument t
entries_in n s t h st five =
    let l = map_if t (sym st.major_is ∙ five) in
    let P : Data → Type 0 = λ u. HasData n u → StartsAs s u → EntriesOf n s.rest.now s.argument u in
    subst P (sym l.1) (λ hl sl. entries_of_in n s l.0 hl sl) h st

-- ---- the same of a part of the block as `&block[from..]` shows it

pub next_item : (block : List ℕ) (from n : ℕ) (after : List ℕ) (ds : Items) → SpellsItems block from n ds → 0 < n → length block < 2 ^ 64
    → ((es : Items) (x : List ℕ) → IsRow (take (length block - from) (drop from block)) 1 es x → after ≡ x) → FirstItem block from n after ds
next_item block from n after ds h lt short skips =
    let P : List ℕ → Type 0 = λ b. (es : Items) (x : List ℕ) → IsRow b 1 es x → after ≡ x in
    first_item block from n after ds h lt short (subst P (range_from block from) skips)

pub next_entry : (block : List ℕ) (from n : ℕ) (key value after : List ℕ) (ms : Members) → SpellsMembers block from n ms → 0 < n → length block < 2 ^ 64
    → ((j x : List ℕ) → length j < 2 ^ 64 → take (length block - from) (drop from block) ≡ spell_text j ++ x → key ≡ j)
    → ((j x : List ℕ) → length j < 2 ^ 64 → take (length block - from) (drop from block) ≡ spell_text j ++ x → value ≡ x)
    → ((es : Items) (x : List ℕ) → IsRow value 1 es x → after ≡ x) → FirstEntry block from n key value after ms
next_entry block from n key value after ms h lt short keys values skips =
    let P : List ℕ → Type 0 = λ b. (j x : List ℕ) → length j < 2 ^ 64 → b ≡ spell_text j ++ x → key ≡ j in
    let Q : List ℕ → Type 0 = λ b. (j x : List ℕ) → length j < 2 ^ 64 → b ≡ spell_text j ++ x → value ≡ x in
    first_entry block from n key value after ms h lt short (subst P (range_from block from) keys) (subst Q (range_from block from) values) skips
