-- What a piece stands for: keys that rise, and the parts of its node.
use Rattle.std.proofs.Common.{◌≡◌, ℕ, true, false, cond, List, Option, Some, None, sym, ◌∙◌, ap, subst, option_map}
use Rattle.std.proofs.lemmas.Option.{same_Some}
use Rattle.std.specs.Borrow.{Bor}
use Rattle.std.specs.Option.{option_and_then}
use Rattle.ild_typed.proofs.WalkTotal.{keys_rise}
use Rattle.ild_data.specs.Data as T
use Rattle.ild_data.specs.Data.{Data, Members, members_list, members_of}
use Rattle.ild_data.specs.Key.{Rises, value_at, without}
use Rattle.ild_data.specs.Tree.{AreEntries}
use Rattle.ild_data.proofs.Lists.{items_of-items_list, members_list-members_of}
use Rattle.ild_data.proofs.Rising.{rises_without}
use Rattle.ild_cbor.specs.declared.node.Node.{Node}
use Rattle.ild_cbor.specs.declared.items.Items.{Items}
use Rattle.ild_cbor.specs.declared.piece.Piece.{Piece}
use Rattle.ild_cbor.specs.declared.piece.Piece.TheVariants as P
use Rattle.ild_cbor.specs.declared.pairs.Pairs.{Pairs}
use Rattle.ild_cbor.specs.Nodes.{Finds, HasData}
use Rattle.ild_cbor.specs.Span.{entry_of}
use Rattle.ild_cbor.specs.Steps.{HasItems, HasEntries, FindsItems, FindsEntries, items_of, members_of as entries_of}
use Rattle.ild_schema.specs.declared.row.Row.{Row}
use Rattle.ild_typed.specs.Named.{items_in}
use Rattle.ild_typed.specs.Strings.{map_data, members_in}
use Rattle.ild_typed.proofs.Rising.{value_without}
use Rattle.ild_typed.specs.WhyLaws.{KeysRise}
use Rattle.ild_layer_piece.specs.Entries.{Found, HasLeft, Lists, Maps}
use Rattle.ild_layer_piece.specs.Pieces.{IsWithout, StandsFor, is_key}

pub rises_members : (ms : Members) → AreEntries ms → Rises (members_list ms)
rises_members T.no_members all = tt
rises_members (T.member k d ms) all = (all.2, rises_members ms all.3)

-- the keys of what a piece stands for rise
pub piece_rises : (rows : List Row) (p : Piece) (t : Data) → StandsFor rows p t → KeysRise t
piece_rises rows (P.Node n) t h = keys_rise t h.within.tree
piece_rises rows (P.Text s) t h = subst KeysRise (sym h) tt
piece_rises rows (P.Bytes s) t h = subst KeysRise (sym h) tt
piece_rises rows (P.Inline n u) t h =
    let up : Rises (without h.key (members_list h.entries)) = rises_without h.key (members_list h.entries) (rises_members h.entries h.stands.within.tree) in
    subst KeysRise (sym h.rest) (subst Rises (sym (members_list-members_of (without h.key (members_list h.entries)))) up)

-- the items of a node
pub lists_items : (n : Node) (t : Data) (r : Option Items) → FindsItems n (items_of t) r → Lists (items_in t) r
lists_items n T.null None h = tt
lists_items n (T.boolean b) None h = tt
lists_items n (T.integer i) None h = tt
lists_items n (T.text s) None h = tt
lists_items n (T.bytes s) None h = tt
lists_items n (T.list ds) (Some s) h = subst (λ (x : T.Items). HasItems s x) (sym (items_of-items_list ds)) h.left
lists_items n (T.map ms) None h = tt
lists_items n (T.link s) None h = tt
lists_items n T.null (Some s) h = h
lists_items n (T.boolean b) (Some s) h = h
lists_items n (T.integer i) (Some s) h = h
lists_items n (T.text x) (Some s) h = h
lists_items n (T.bytes x) (Some s) h = h
lists_items n (T.list ds) None h = h
lists_items n (T.map ms) (Some s) h = h
lists_items n (T.link x) (Some s) h = h

-- the members of a map of entries
members_back : (es : List (List ℕ × Data)) → members_in (map_data es) ≡ Some es
members_back es = ap Some (members_list-members_of es)

-- an entry is looked up as in the node
pub finds_entry : (n : Node) (place : ℕ) (key : List ℕ) (t : Data) (r : Option Node) → Finds n place (entry_of t key) r → Found (option_and_then (value_at key) (members_in t)) r
finds_entry n place key T.null None h = tt
finds_entry n place key (T.boolean b) None h = tt
finds_entry n place key (T.integer i) None h = tt
finds_entry n place key (T.text s) None h = tt
finds_entry n place key (T.bytes s) None h = tt
finds_entry n place key (T.list ds) None h = tt
finds_entry n place key (T.link s) None h = tt
finds_entry n place key T.null (Some m) h = h
finds_entry n place key (T.boolean b) (Some m) h = h
finds_entry n place key (T.integer i) (Some m) h = h
finds_entry n place key (T.text s) (Some m) h = h
finds_entry n place key (T.bytes s) (Some m) h = h
finds_entry n place key (T.list ds) (Some m) h = h
finds_entry n place key (T.link s) (Some m) h = h
finds_entry n place key (T.map ms) r h = by (value_at key (members_list ms)) r h where
  by : (o : Option Data) (r : Option Node) → Finds n place o r → Found o r
  by None None h = tt
  by None (Some m) h = h
  by (Some d) None h = h
  by (Some d) (Some m) h = h.stands

-- what is left of a map without an entry
left_members : (passed : Option (List ℕ)) (n : Node) (t : Data) (h : IsWithout passed n t) → members_in t ≡ Some (without h.key (members_list h.entries))
left_members passed n t h = ap members_in h.rest ∙ members_back (without h.key (members_list h.entries))

pub left_maps : (passed : Option (List ℕ)) (n : Node) (t : Data) (p : Pairs) (k : Option (Bor (List ℕ))) → option_map (λ (b : Bor (List ℕ)). b.now) k ≡ passed
    → ((d : Data) → HasData n d → FindsEntries n (entries_of d) (Some p)) → IsWithout passed n t → Maps (members_in t) (Some (record { pairs = p; passed = k }))
left_maps passed n t p None is found h = absurd (let e : None ≡ Some h.key = is ∙ h.key_is in cc)
left_maps passed n t p (Some k) is found h =
    let same : k.now ≡ h.key = same_Some k.now h.key (is ∙ h.key_is) in
    let left : HasEntries p h.entries = (found (T.map h.entries) h.stands).left in
    let all : HasLeft (record { pairs = p; passed = Some k }) (without h.key (members_list h.entries)) =
    record { entries = h.entries; left = left; is = ap (λ q. without q (members_list h.entries)) (sym same) } in
    subst (λ o. Maps o (Some (record { pairs = p; passed = Some k }))) (sym (left_members passed n t h)) all

-- a map has entries
pub has_maps : (passed : Option (List ℕ)) (n : Node) (t : Data) → ((d : Data) → HasData n d → FindsEntries n (entries_of d) None) → IsWithout passed n t → ⊥
has_maps passed n t found h = found (T.map h.entries) h.stands

left_value : (passed : Option (List ℕ)) (n : Node) (t : Data) (key : List ℕ)
    → (h : IsWithout passed n t) → option_and_then (value_at key) (members_in t) ≡ cond (is_key key passed) None (value_at key (members_list h.entries))
left_value passed n t key h =
    ap (option_and_then (value_at key)) (left_members passed n t h)
    ∙ value_without key h.key (members_list h.entries) (rises_members h.entries h.stands.within.tree)
    ∙ ap (λ o. cond (is_key key o) None (value_at key (members_list h.entries))) (sym h.key_is)

-- the discriminant is passed over
pub passed_none : (passed : Option (List ℕ)) (n : Node) (t : Data) (key : List ℕ) → is_key key passed ≡ true → IsWithout passed n t → Found (option_and_then (value_at key) (members_in t)) None
passed_none passed n t key at h =
    let none : option_and_then (value_at key) (members_in t) ≡ None =
    left_value passed n t key h ∙ ap (λ b. cond b None (value_at key (members_list h.entries))) at in
    subst (λ o. Found o None) (sym none) tt

-- and no other entry is
pub passed_other : (passed : Option (List ℕ)) (n : Node) (t : Data) (key : List ℕ) (r : Option Node) → is_key key passed ≡ false
    → ((d : Data) → HasData n d → Found (option_and_then (value_at key) (members_in d)) r) → IsWithout passed n t → Found (option_and_then (value_at key) (members_in t)) r
passed_other passed n t key r at found h =
    let same : option_and_then (value_at key) (members_in t) ≡ value_at key (members_list h.entries) =
    left_value passed n t key h ∙ ap (λ b. cond b None (value_at key (members_list h.entries))) at in
    subst (λ o. Found o r) (sym same) (found (T.map h.entries) h.stands)
