-- A part of an item, inside the block.
use Rattle.std.proofs.Common.{◌≡◌, ℕ, zero, suc, ◌+◌, ◌-◌, ◌^◌, ◌<◌, ◌≤◌, List, [], ◌∷◌, ◌++◌, length, length-append, append_assoc, append-nil, take, drop, Option, Some, None, refl, sym, ap, subst, ◌∙◌, arith}
use Rattle.std.specs.Prelude.{slice_get, pos, negsuc, IsUtf8, true}
use Rattle.std.proofs.lemmas.List.{take_all}
use Rattle.ild_data.specs.Data.{Data, null, boolean, integer, text, bytes, list, map, link, Items, no_items, item, Members, items_list, members_list, depth, items_depth}
use Rattle.ild_data.specs.Spell.{head, spell, spell_bytes, spell_items, spell_members}
use Rattle.ild_data.specs.Tree.{IsTree, AreTrees}
use Rattle.ild_data.specs.Limits.{IsWithin}
use Rattle.ild_data.specs.Key.{value_at}
use Rattle.ild_data.specs.CidRead.{is_cid}
use Rattle.ild_data.proofs.Cids.{IsCid-is_cid, is_link_cid}
use Rattle.ild_cbor.specs.declared.node.Node.{Node}
use Rattle.ild_cbor.specs.declared.start.Start.{Start}
use Rattle.ild_cbor.specs.inside.Row.{IsRow, IsEntryRow}
use Rattle.ild_data.specs.Shape.{major_of, string_of, parts_of}
use Rattle.ild_data.proofs.Shapes.{keys_and_values-spell}
use Rattle.ild_cbor.specs.inside.Shape.{StartsAs}
use Rattle.ild_cbor.specs.Spelled.{Spells}
use Rattle.ild_cbor.specs.Nodes.{HasData, IsPart, Finds, HasPart}
use Rattle.ild_cbor.specs.Span.{items_before, values_before, before_part, place_of, item_of, key_index, index_of, entry_of}
use Rattle.ild_cbor.specs.Scalar.{text_of}
use Rattle.ild_cbor.specs.inside.OfHead.{string_in}
use Rattle.ild_cbor.specs.inside.Search.{CutsValue}
use Rattle.ild_cbor.proofs.Steps.{some_is}

-- ---- a part by the bytes that begin with it

-- rest, the end of a spelled part of a block, begins with u, and after is behind u
pub record Inside (block : List ℕ) (from to : ℕ) (front rest after : List ℕ) (u : Data) : Type 0 where
  pub rest_fits : length rest ≤ to
  pub after_fits : length after ≤ to
  pub order : to - length rest ≤ to - length after
  pub spells : Spells block (to - length rest) (to - length after) u
  pub place : to - length rest ≡ from + length front

pub inside : (block : List ℕ) (from to : ℕ) (t : Data) (front rest after : List ℕ) (u : Data) → Spells block from to t → spell t ≡ front ++ rest → rest ≡ spell u ++ after → IsWithin u → Inside block from to front rest after u
inside block from to t front rest after u h e f within =
    let held = h.holds in
    let start = held.place in
    let end = h.end in
    let l1 : length (spell t) ≡ length (front ++ rest) = ap length e in
    let l2 = length-append front rest in
    let l3 : length rest ≡ length (spell u ++ after) = ap length f in
    let l4 = length-append (spell u) after in
    let l5 = length-append held.before front in
    let is : block ≡ (held.before ++ front) ++ (spell u ++ (after ++ held.after)) =
    held.is ∙ ap (λ (x : List ℕ). held.before ++ (x ++ held.after)) (e ∙ ap (λ (x : List ℕ). front ++ x) f) ∙ ap (λ (x : List ℕ). held.before ++ x) (append_assoc front (spell u ++ after) held.after ∙ ap (λ (x : List ℕ). front ++ x) (append_assoc (spell u) after held.after))
    ∙ sym (append_assoc held.before front (spell u ++ (after ++ held.after))) in
    record {
      rest_fits = omega arith;
      after_fits = omega arith;
      order = omega arith;
      spells = record { holds = record { before = held.before ++ front; after = after ++ held.after; is = is; place = omega arith }; end = omega arith; within = within };
      place = omega arith;
    }

-- bytes that begin with the spelling of one tree are a row of it
pub one_row : (b : List ℕ) (u : Data) (after : List ℕ) → b ≡ spell u ++ after → IsTree u → length b < 2 ^ 64 → IsRow b 1 (item u no_items) after
one_row b u after e tree short = record { is = e ∙ ap (λ (x : List ℕ). x ++ after) (sym (append-nil (spell u))); count = refl; trees = (tree, tt); short = short }

pub part_inside : (n : Node) (rest after : List ℕ) (h : HasPart n rest) → ((ds : Items) (x : List ℕ) → IsRow rest 1 ds x → after ≡ x) → Inside n.block.now n.from n.to h.front rest after h.of
part_inside n rest after h skips =
    let s = h.stands in
    let w = s.within in
    let sized = w.sized in
    let l1 : length (spell h.whole) ≡ length (h.front ++ rest) = ap length h.is in
    let l2 = length-append h.front rest in
    let u = h.within in
    let same : after ≡ h.after = skips (item h.of no_items) h.after (one_row rest h.of h.after h.rest_is u.tree (omega arith)) in
    inside n.block.now n.from n.to h.whole h.front rest after h.of s h.is (h.rest_is ∙ ap (λ (x : List ℕ). spell h.of ++ x) (sym same)) u

-- ---- the item at a place of a list

pub record ItemAt (ds : Items) (i : ℕ) : Type 0 where
  pub of : Data
  pub more : Items
  pub taken : Items
  pub is : slice_get (items_list ds) i ≡ Some of
  pub parts : spell_items ds ≡ spell_items taken ++ (spell of ++ spell_items more)
  pub before : spell_items taken ≡ items_before i ds
  pub count : length (items_list taken) ≡ i
  pub trees : AreTrees taken
  pub tree : IsTree of
  pub nested : depth of ≤ items_depth ds
  pub all : length (items_list ds) ≡ i + 1 + length (items_list more)

pub cut_items : (ds : Items) (i : ℕ) → AreTrees ds → i < length (items_list ds) → ItemAt ds i
cut_items no_items i trees lt = absurd (omega arith)
cut_items (item d ds) zero trees lt = record { of = d; more = ds; taken = no_items; is = refl; parts = refl; before = refl; count = refl; trees = tt; tree = trees.0; nested = omega arith; all = omega arith }
cut_items (item d ds) (suc i) trees lt =
    let s = cut_items ds i trees.1 (omega arith) in
    record {
      of = s.of;
      more = s.more;
      taken = item d s.taken;
      is = s.is;
      parts = ap (λ (t : List ℕ). spell d ++ t) s.parts ∙ sym (append_assoc (spell d) (spell_items s.taken) (spell s.of ++ spell_items s.more));
      before = ap (λ (t : List ℕ). spell d ++ t) s.before;
      count = ap suc s.count;
      trees = (trees.0, s.trees);
      tree = s.tree;
      nested = omega (arith, s.nested);
      all = let more = s.all in omega arith;
    }

-- the part that was sought, and that it is the one
pub record HasSought (n : Node) (rest : List ℕ) (place : ℕ) (of : Option Data) : Type 0 where
  pub part : HasPart n rest
  pub is : of ≡ Some part.of
  pub at : length part.front ≡ place

-- what stands in a tree within the limits is within them
pub part_within : (t u : Data) (front after : List ℕ) → IsWithin t → spell t ≡ front ++ (spell u ++ after) → IsTree u → depth u ≤ depth t → IsWithin u
part_within t u front after w e tree nested =
    let sized = w.sized in
    let deep = w.nested in
    let l1 : length (spell t) ≡ length (front ++ (spell u ++ after)) = ap length e in
    let l2 = length-append front (spell u ++ after) in
    let l3 = length-append (spell u) after in
    record { tree = tree; nested = omega arith; sized = omega arith }

has_item_in : (n : Node) (s : Start) (i : ℕ) (rest : List ℕ) (ds : Items) → HasData n (list ds) → StartsAs s (list ds) → i < s.argument → ((es : Items) (x : List ℕ) → IsRow s.rest.now i es x → rest ≡ x)
    → HasSought n rest (place_of (list ds) i) (item_of (list ds) i)
has_item_in n s i rest ds h st lt skips =
    let argument = st.argument_is in
    let w = h.within in
    let sized = w.sized in
    let a = cut_items ds i w.tree (omega arith) in
    let H : List ℕ = head 4 (length (items_list ds)) in
    let l1 = length-append H (spell_items ds) in
    let l2 : length s.rest.now ≡ length (spell_items ds) = ap length st.rest_is in
    let row : IsRow s.rest.now i a.taken (spell a.of ++ spell_items a.more) = record { is = st.rest_is ∙ a.parts; count = a.count; trees = a.trees; short = omega arith } in
    let same : rest ≡ spell a.of ++ spell_items a.more = skips a.taken (spell a.of ++ spell_items a.more) row in
    let whole : spell (list ds) ≡ before_part (list ds) i ++ (spell a.of ++ spell_items a.more) =
    ap (λ (x : List ℕ). H ++ x) (a.parts ∙ ap (λ (x : List ℕ). x ++ (spell a.of ++ spell_items a.more)) a.before) ∙ sym (append_assoc H (items_before i ds) (spell a.of ++ spell_items a.more)) in
    let nested = a.nested in
    record {
      part = record { whole = list ds; stands = h; front = before_part (list ds) i; of = a.of; after = spell_items a.more; is = whole ∙ ap (λ (x : List ℕ). before_part (list ds) i ++ x) (sym same); rest_is = same; within = part_within (list ds) a.of (before_part (list ds) i) (spell_items a.more) w whole a.tree (omega arith) };
      is = a.is;
      at = refl;
    }

pub list_if : (t : Data) → major_of t ≡ 4 → (ds : Items) × (t ≡ list ds)
list_if null e = absurd (omega arith)
list_if (boolean b) e = absurd (omega arith)
list_if (integer (pos n)) e = absurd (omega arith)
list_if (integer (negsuc n)) e = absurd (omega arith)
list_if (text s) e = absurd (omega arith)
list_if (bytes s) e = absurd (omega arith)
list_if (list ds) e = (ds, refl)
list_if (map ms) e = absurd (omega arith)
list_if (link s) e = absurd (omega arith)

pub has_item : (n : Node) (s : Start) (i : ℕ) (rest : List ℕ) (t : Data) → HasData n t → StartsAs s t → s.major ≡ 4 → i < s.argument → ((es : Items) (x : List ℕ) → IsRow s.rest.now i es x → rest ≡ x)
    → HasSought n rest (place_of t i) (item_of t i)
has_item n s i rest t h st four lt skips =
    let l = list_if t (sym st.major_is ∙ four) in
    let P : Data → Type 0 = λ u. HasData n u → StartsAs s u → HasSought n rest (place_of u i) (item_of u i) in
    subst P (sym l.1) (λ hl sl. has_item_in n s i rest l.0 hl sl lt skips) h st

-- the part that was found is the one that was sought
pub found : (n m : Node) (rest : List ℕ) (place : ℕ) (of : Option Data) (p : HasSought n rest place of) → IsPart n m (length p.part.front) p.part.of → Finds n place of (Some m)
found n m rest place of p is =
    subst (λ (o : Option Data). Finds n place o (Some m)) (sym p.is) (subst (λ (k : ℕ). IsPart n m k p.part.of) p.at is)

-- ---- the value at a key of a map

pub map_if : (t : Data) → major_of t ≡ 5 → (ms : Members) × (t ≡ map ms)
map_if null e = absurd (omega arith)
map_if (boolean b) e = absurd (omega arith)
map_if (integer (pos n)) e = absurd (omega arith)
map_if (integer (negsuc n)) e = absurd (omega arith)
map_if (text s) e = absurd (omega arith)
map_if (bytes s) e = absurd (omega arith)
map_if (list ds) e = absurd (omega arith)
map_if (map ms) e = (ms, refl)
map_if (link s) e = absurd (omega arith)

map_rows : (n : Node) (s : Start) (ms : Members) → HasData n (map ms) → StartsAs s (map ms) → IsEntryRow s.rest.now s.argument ms []
map_rows n s ms h st =
    let w = h.within in
    let sized = w.sized in
    let is : s.rest.now ≡ spell_members ms = st.rest_is ∙ sym (keys_and_values-spell ms) in
    let l1 = length-append (head 5 (length (members_list ms))) (spell_members ms) in
    let l2 : length s.rest.now ≡ length (spell_members ms) = ap length is in
    record { is = is ∙ sym (append-nil (spell_members ms)); count = sym st.argument_is; entries = w.tree; short = omega arith }

has_entry_in : (n : Node) (s : Start) (value key : List ℕ) (ms : Members) → HasData n (map ms) → StartsAs s (map ms) → ((ms : Members) → IsEntryRow s.rest.now s.argument ms [] → CutsValue s.rest.now value key ms)
    → HasSought n value (place_of (map ms) (index_of key (map ms))) (entry_of (map ms) key)
has_entry_in n s value key ms h st cuts =
    let w = h.within in
    let c = cuts ms (map_rows n s ms h st) in
    let H : List ℕ = head 5 (length (members_list ms)) in
    let B : List ℕ = values_before (key_index key ms) ms in
    let body : spell_members ms ≡ B ++ value = keys_and_values-spell ms ∙ sym st.rest_is ∙ c.before in
    let whole : spell (map ms) ≡ (H ++ B) ++ value = ap (λ (x : List ℕ). H ++ x) body ∙ sym (append_assoc H B value) in
    let nested = c.nested in
    record {
      part = record { whole = map ms; stands = h; front = H ++ B; of = c.of; after = c.after; is = whole; rest_is = c.behind; within = part_within (map ms) c.of (H ++ B) c.after w (whole ∙ ap (λ (x : List ℕ). (H ++ B) ++ x) c.behind) c.tree (omega arith) };
      is = c.is;
      at = refl;
    }

pub has_entry : (n : Node) (s : Start) (value key : List ℕ) (t : Data) → HasData n t → StartsAs s t → s.major ≡ 5 → ((ms : Members) → IsEntryRow s.rest.now s.argument ms [] → CutsValue s.rest.now value key ms)
    → HasSought n value (place_of t (index_of key t)) (entry_of t key)
has_entry n s value key t h st five cuts =
    let m = map_if t (sym st.major_is ∙ five) in
    let P : Data → Type 0 = λ u. HasData n u → StartsAs s u → HasSought n value (place_of u (index_of key u)) (entry_of u key) in
    subst P (sym m.1) (λ hm sm. has_entry_in n s value key m.0 hm sm cuts) h st

pub no_entry : (n : Node) (s : Start) (key : List ℕ) (t : Data) → HasData n t → StartsAs s t → s.major ≡ 5 → ((ms : Members) → IsEntryRow s.rest.now s.argument ms [] → value_at key (members_list ms) ≡ None)
    → entry_of t key ≡ None
no_entry n s key t h st five none =
    let m = map_if t (sym st.major_is ∙ five) in
    let P : Data → Type 0 = λ u. HasData n u → StartsAs s u → entry_of u key ≡ None in
    subst P (sym m.1) (λ hm sm. none m.0 (map_rows n s m.0 hm sm)) h st

-- ---- texts and links

pub text_same : (t : Data) → string_in 3 (major_of t) (string_of t ++ spell_items (parts_of t)) ≡ text_of t
text_same null = refl
text_same (boolean b) = refl
text_same (integer (pos n)) = refl
text_same (integer (negsuc n)) = refl
text_same (text s) = ap Some (append-nil s)
text_same (bytes s) = refl
text_same (list ds) = refl
text_same (map ms) = refl
text_same (link s) = refl

text_utf8 : (t : Data) (b : List ℕ) → IsTree t → text_of t ≡ Some b → IsUtf8 b
text_utf8 null b tree e = absurd cc
text_utf8 (boolean v) b tree e = absurd cc
text_utf8 (integer n) b tree e = absurd cc
text_utf8 (text s) b tree e = let P : List ℕ → Type 0 = λ x. IsUtf8 x in subst P (some_is s b e) tree
text_utf8 (bytes s) b tree e = absurd cc
text_utf8 (list ds) b tree e = absurd cc
text_utf8 (map ms) b tree e = absurd cc
text_utf8 (link s) b tree e = absurd cc

-- the text that an item begins with is UTF-8
pub start_utf8 : (s : Start) (t : Data) (b : List ℕ) → IsTree t → StartsAs s t → Some b ≡ string_in 3 s.major s.rest.now → IsUtf8 b
start_utf8 s t b tree st e =
    let p : string_in 3 s.major s.rest.now ≡ string_in 3 (major_of t) s.rest.now = ap (λ (m : ℕ). string_in 3 m s.rest.now) st.major_is in
    let q : string_in 3 (major_of t) s.rest.now ≡ string_in 3 (major_of t) (string_of t ++ spell_items (parts_of t)) = ap (string_in 3 (major_of t)) st.rest_is in
    text_utf8 t b tree (sym (e ∙ p ∙ q ∙ text_same t))

pub record LinkIs (t : Data) (string : List ℕ) : Type 0 where
  pub cid : List ℕ
  pub is : t ≡ link cid
  pub string_is : string ≡ 0 ∷ cid

pub link_if : (n : Node) (s : Start) (string : List ℕ) (t : Data) → HasData n t → StartsAs s t → s.major ≡ 6 → ((major m : ℕ) (x : List ℕ) → m < 2 ^ 64 → s.rest.now ≡ head major m ++ x → string ≡ x) → LinkIs t string
link_if n s string t h st six opened = go t (h.within) (st.rest_is) (sym st.major_is ∙ six)
  where
    go : (t : Data) → IsWithin t → s.rest.now ≡ string_of t ++ spell_items (parts_of t) → major_of t ≡ 6 → LinkIs t string
    go null w r e = absurd (omega arith)
    go (boolean b) w r e = absurd (omega arith)
    go (integer (pos n)) w r e = absurd (omega arith)
    go (integer (negsuc n)) w r e = absurd (omega arith)
    go (text x) w r e = absurd (omega arith)
    go (bytes x) w r e = absurd (omega arith)
    go (list ds) w r e = absurd (omega arith)
    go (map ms) w r e = absurd (omega arith)
    go (link x) w r e =
        let sized = w.sized in
        let l1 = length-append (head 2 (length (0 ∷ x))) (0 ∷ x) in
        let flat : s.rest.now ≡ head 2 (length (0 ∷ x)) ++ (0 ∷ x) = r ∙ append-nil (spell_bytes (0 ∷ x)) in
        record { cid = x; is = refl; string_is = opened 2 (length (0 ∷ x)) (0 ∷ x) (omega arith) flat }

-- the CID of a link in a tree is one
pub link_form : (t : Data) (cid : List ℕ) → IsTree t → t ≡ link cid → is_cid cid ≡ true
link_form t cid tree is = IsCid-is_cid cid (is_link_cid cid (subst (λ (u : Data). IsTree u) is tree))

pub behind_first : (b cid : List ℕ) → b ≡ 0 ∷ cid → take (length b - 1) (drop 1 b) ≡ cid
behind_first b cid e =
    subst (λ (x : List ℕ). take (length x - 1) (drop 1 x) ≡ cid) (sym e) (take_all (length (0 ∷ cid) - 1) cid (omega arith))

pub not_empty : (b cid : List ℕ) → b ≡ 0 ∷ cid → length b ≡ 0 → ⊥
not_empty b cid e z =
    let len : length b ≡ length (0 ∷ cid) = ap length e in
    omega arith
