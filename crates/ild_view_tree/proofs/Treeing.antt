-- The tree for which an item stands, part by part.
use Rattle.std.proofs.Common.{◌≡◌, ℕ, ◌+◌, ◌-◌, ◌≤◌, List, [], ◌∷◌, ◌++◌, append_assoc, append-nil, Bool, Some, None, Less, Greater, refl, sym, ◌∙◌, ap, subst, arith}
use Rattle.std.specs.Borrow.{Bor}
use Rattle.std.specs.Ordering.{ordering_reverse}
use Rattle.std.specs.Prelude.{IfOk, Result, Ok, Err, max}
use Rattle.std.proofs.lemmas.Option.{same_Some, none-some}
use Rattle.ild_cbor.specs.Nodes.{HasData}
use Rattle.ild_cbor.specs.Scalar.{boolean_of, bytes_of, int_of, link_of, text_of}
use Rattle.ild_cbor.specs.Steps.{EntriesGive, FindsEntries, FindsItems, HasEntries, HasItems, ItemsGive, items_of, members_of}
use Rattle.ild_cbor.specs.declared.items.Items.{Items as ItemsLeft}
use Rattle.ild_cbor.specs.declared.node.Node.{Node}
use Rattle.ild_cbor.specs.declared.pairs.Pairs.{Pairs}
use Rattle.ild_data.specs.Data as T
use Rattle.ild_data.specs.Data.{Data, Items, Members, depth, items_depth, items_list, members_depth, members_list}
use Rattle.ild_data.specs.Key.{IsBelow, Rises, key_cmp, put}
use Rattle.ild_data.specs.Tree.{AreEntries}
use Rattle.ild_data.proofs.Lists.{items_of-items_list, members_of-members_list}
use Rattle.ild_data.proofs.Rising.{key_cmp_total}
use Rattle.ild_layer_piece.specs.Entries.{EntriesGive as PieceGives, HasLeft, Maps}
use Rattle.ild_data.specs.Seen.{data_of}
use Rattle.ild_data.specs.declared.tree.Tree.{Tree}
use Rattle.ild_typed.specs.Strings.{map_data, members_in}
use Rattle.ild_typed.specs.WhyLaws.{KeysRise}
use Rattle.ild_layer_piece.specs.declared.walk.MapEntries.{MapEntries}

-- ---- scalars

pub int_tree : (t : Data) (n : _) → Some n ≡ int_of t → T.integer n ≡ t
int_tree (T.integer m) n e = ap T.integer (same_Some n m e)
int_tree t n e = absurd (none-some n (sym e))

pub text_tree : (t : Data) (s : List ℕ) → Some s ≡ text_of t → T.text s ≡ t
text_tree (T.text r) s e = ap T.text (same_Some s r e)
text_tree t s e = absurd (none-some s (sym e))

pub bytes_tree : (t : Data) (s : List ℕ) → Some s ≡ bytes_of t → T.bytes s ≡ t
bytes_tree (T.bytes r) s e = ap T.bytes (same_Some s r e)
bytes_tree t s e = absurd (none-some s (sym e))

pub boolean_tree : (t : Data) (b : Bool) → Some b ≡ boolean_of t → T.boolean b ≡ t
boolean_tree (T.boolean c) b e = ap T.boolean (same_Some b c e)
boolean_tree t b e = absurd (none-some b (sym e))

pub link_tree : (t : Data) (s : List ℕ) → Some s ≡ link_of t → T.link s ≡ t
link_tree (T.link r) s e = ap T.link (same_Some s r e)
link_tree t s e = absurd (none-some s (sym e))

pub null_tree : (t : Data) → items_of t ≡ None → members_of t ≡ None → None ≡ int_of t → None ≡ text_of t → None ≡ bytes_of t → None ≡ boolean_of t → None ≡ link_of t → T.null ≡ t
null_tree T.null a b c d e f g = refl
null_tree (T.boolean x) a b c d e f g = absurd (none-some x f)
null_tree (T.integer x) a b c d e f g = absurd (none-some x c)
null_tree (T.text x) a b c d e f g = absurd (none-some x d)
null_tree (T.bytes x) a b c d e f g = absurd (none-some x e)
null_tree (T.list x) a b c d e f g = absurd (none-some x (sym a))
null_tree (T.map x) a b c d e f g = absurd (none-some x (sym b))
null_tree (T.link x) a b c d e f g = absurd (none-some x g)

pub no_items_found : (n : Node) (t : Data) → FindsItems n (items_of t) None → items_of t ≡ None
no_items_found n (T.list ds) h = absurd h
no_items_found n t h = refl

pub no_members_found : (n : Node) (t : Data) → FindsEntries n (members_of t) None → members_of t ≡ None
no_members_found n (T.map ms) h = absurd h
no_members_found n t h = refl

-- ---- a list

pub no_room_items : (n : Node) (t : Data) (s : ItemsLeft) → FindsItems n (items_of t) (Some s) → depth t ≤ 0 → ⊥
no_room_items n (T.list ds) s h deep = omega (arith, deep)
no_room_items n t s h deep = absurd h

-- the items that were read, and those that are left, of a list that nests within a level more
pub record ItemsRead (t : Data) (room : ℕ) (done : Items) (left : ItemsLeft) : Type 0 where
  pub all : Items
  pub is : t ≡ T.list all
  pub rest : Items
  pub has : HasItems left rest
  pub deep : items_depth rest ≤ room
  pub whole : items_list all ≡ items_list done ++ items_list rest

pub items_begin : (n : Node) (t : Data) (room : ℕ) (s : ItemsLeft) → FindsItems n (items_of t) (Some s) → depth t ≤ room → ItemsRead t (room - 1) T.no_items s
items_begin n (T.list ds) room s h deep = record { all = ds; is = refl; rest = ds; has = h.left; deep = less (items_depth ds) room deep; whole = refl } where
  less : (a b : ℕ) → a + 1 ≤ b → a ≤ b - 1
  less a b k = omega (arith, k)
items_begin n t room s h deep = absurd h

max_first : (a b r : ℕ) → max a b ≤ r → a ≤ r
max_first a b r h = grind (arith)

max_second : (a b r : ℕ) → max a b ≤ r → b ≤ r
max_second a b r h = grind (arith)

module _ (t : Data) (room : ℕ) (old : Items) (s after : ItemsLeft) (h : ItemsRead t room old s) where
  pub items_on : (n : Node) (new : Items) (d : Data) → ItemsGive s (Some n) after → ((e : Data) → HasData n e → depth e ≤ room → d ≡ e) → items_list new ≡ items_list old ++ d ∷ [] → ItemsRead t room new after
  items_on n new d gives read more = by h.rest h.has h.deep h.whole where
    by : (ds : Items) → HasItems s ds → items_depth ds ≤ room → items_list h.all ≡ items_list old ++ items_list ds → ItemsRead t room new after
    by T.no_items has deep whole = absurd (gives T.no_items has)
    by (T.item e ds) has deep whole =
        let x = gives (T.item e ds) has in
        let same : d ≡ e = read e x.stands (max_first (depth e) (items_depth ds) room deep) in
        let added : items_list old ++ e ∷ [] ≡ items_list new = ap (λ y. items_list old ++ y ∷ []) (sym same) ∙ sym more in
        record {
          all = h.all;
          is = h.is;
          rest = ds;
          has = x.left;
          deep = max_second (depth e) (items_depth ds) room deep;
          whole = whole ∙ sym (append_assoc (items_list old) (e ∷ []) (items_list ds)) ∙ ap (λ xs. xs ++ items_list ds) added;
        }

  pub items_end : ItemsGive s None after → T.list old ≡ t
  items_end gives = by h.rest h.has h.whole where
    by : (ds : Items) → HasItems s ds → items_list h.all ≡ items_list old ++ items_list ds → T.list old ≡ t
    by T.no_items has whole =
        ap T.list (sym (items_of-items_list old) ∙ ap T.items_of (sym (append-nil (items_list old)) ∙ sym whole) ∙ items_of-items_list h.all) ∙ sym h.is
    by (T.item e ds) has whole = absurd (gives (T.item e ds) has)

-- ---- a map

below_middle : {V : Type 0} (k : List ℕ) (xs : List (List ℕ × V)) (y : List ℕ × V) (ys : List (List ℕ × V)) → IsBelow k (xs ++ y ∷ ys) → Rises (xs ++ y ∷ ys) → key_cmp k y.0 ≡ Less
below_middle k [] y ys below up = below
below_middle k (x ∷ xs) y ys below up = key_cmp_total.trans k x.0 y.0 below (below_middle x.0 xs y ys up.0 up.1)

-- a key behind all others is put last
put_last : {V : Type 0} (xs : List (List ℕ × V)) (y : List ℕ × V) (ys : List (List ℕ × V)) → Rises (xs ++ y ∷ ys) → put y.0 y.1 xs ≡ xs ++ y ∷ []
put_last [] y ys up = refl
put_last (x ∷ xs) y ys up =
    let above : key_cmp y.0 x.0 ≡ Greater = key_cmp_total.antisymm y.0 x.0 ∙ ap ordering_reverse (below_middle x.0 xs y ys up.0 up.1) in
    rw above (ap (λ zs. x ∷ zs) (put_last xs y ys up.1))

entries_rise : (ms : Members) → AreEntries ms → Rises (members_list ms)
entries_rise T.no_members all = tt
entries_rise (T.member k d ms) all = (all.2, entries_rise ms all.3)

pub no_room_members : (n : Node) (t : Data) (s : Pairs) → FindsEntries n (members_of t) (Some s) → depth t ≤ 0 → ⊥
no_room_members n (T.map ms) s h deep = omega (arith, deep)
no_room_members n t s h deep = absurd h

pub record MembersRead (t : Data) (room : ℕ) (done : Members) (left : Pairs) : Type 0 where
  pub all : Members
  pub is : t ≡ T.map all
  pub rises : Rises (members_list all)
  pub rest : Members
  pub has : HasEntries left rest
  pub deep : members_depth rest ≤ room
  pub whole : members_list all ≡ members_list done ++ members_list rest

pub members_begin : (n : Node) (t : Data) (room : ℕ) (s : Pairs) → FindsEntries n (members_of t) (Some s) → depth t ≤ room → MembersRead t (room - 1) T.no_members s
members_begin n (T.map ms) room s h deep =
    record { all = ms; is = refl; rises = entries_rise ms h.left.entries; rest = ms; has = h.left; deep = less (members_depth ms) room deep; whole = refl } where
      less : (a b : ℕ) → a + 1 ≤ b → a ≤ b - 1
      less a b k = omega (arith, k)
members_begin n t room s h deep = absurd h

module _ (t : Data) (room : ℕ) (old : Members) (s after : Pairs) (h : MembersRead t room old s) where
  pub members_on : (x : Bor (List ℕ) × Node) (new : Members) (k : List ℕ) (d : Data) → EntriesGive s (Some x) after → k ≡ x.0.now → ((e : Data) → HasData x.1 e → depth e ≤ room → d ≡ e)
      → members_list new ≡ put k d (members_list old) → MembersRead t room new after
  members_on x new k d gives name read more = by h.rest h.has h.deep h.whole where
    by : (ms : Members) → HasEntries s ms → members_depth ms ≤ room → members_list h.all ≡ members_list old ++ members_list ms → MembersRead t room new after
    by T.no_members has deep whole = absurd (gives T.no_members has)
    by (T.member l e ms) has deep whole =
        let y = gives (T.member l e ms) has in
        let key : k ≡ l = name ∙ y.key_is in
        let same : d ≡ e = read e y.stands (max_first (depth e) (members_depth ms) room deep) in
        let up : Rises (members_list old ++ (l, e) ∷ members_list ms) = subst (λ (zs : List (List ℕ × Data)). Rises zs) whole h.rises in
        let added : members_list old ++ (l, e) ∷ [] ≡ members_list new =
        sym (put_last (members_list old) (l, e) (members_list ms) up) ∙ ap (λ z. put z e (members_list old)) (sym key) ∙ ap (λ z. put k z (members_list old)) (sym same) ∙ sym more in
        record {
          all = h.all;
          is = h.is;
          rises = h.rises;
          rest = ms;
          has = y.left;
          deep = max_second (depth e) (members_depth ms) room deep;
          whole = whole ∙ sym (append_assoc (members_list old) ((l, e) ∷ []) (members_list ms)) ∙ ap (λ xs. xs ++ members_list ms) added;
        }

  pub members_end : EntriesGive s None after → T.map old ≡ t
  members_end gives = by h.rest h.has h.whole where
    by : (ms : Members) → HasEntries s ms → members_list h.all ≡ members_list old ++ members_list ms → T.map old ≡ t
    by T.no_members has whole =
        ap T.map (sym (members_of-members_list old) ∙ ap T.members_of (sym (append-nil (members_list old)) ∙ sym whole) ∙ members_of-members_list h.all) ∙ sym h.is
    by (T.member l e ms) has whole = absurd (gives (T.member l e ms) has)

-- ---- the entries of a map of which one may be passed over

pub record EntriesRead (es : List (List ℕ × Data)) (done : Members) (left : MapEntries) : Type 0 where
  pub rest : List (List ℕ × Data)
  pub has : HasLeft left rest
  pub whole : es ≡ members_list done ++ rest

pub entries_begin : (es : List (List ℕ × Data)) (s : MapEntries) → HasLeft s es → EntriesRead es T.no_members s
entries_begin es s h = record { rest = es; has = h; whole = refl }

module _ (es : List (List ℕ × Data)) (rises : Rises es) (old : Members) (s after : MapEntries) (h : EntriesRead es old s) where
  pub entries_on : (x : Bor (List ℕ) × Node) (new : Members) (k : List ℕ) (d : Data) → PieceGives s (Some x) after → k ≡ x.0.now → ((e : Data) → HasData x.1 e → d ≡ e)
      → members_list new ≡ put k d (members_list old) → EntriesRead es new after
  entries_on x new k d gives name read more = by h.rest h.has h.whole where
    by : (rest : List (List ℕ × Data)) → HasLeft s rest → es ≡ members_list old ++ rest → EntriesRead es new after
    by [] has whole = absurd (gives [] has)
    by (e ∷ rest) has whole =
        let y = gives (e ∷ rest) has in
        let key : k ≡ e.0 = name ∙ y.key_is in
        let same : d ≡ e.1 = read e.1 y.stands in
        let up : Rises (members_list old ++ e ∷ rest) = subst (λ (zs : List (List ℕ × Data)). Rises zs) whole rises in
        let added : members_list old ++ e ∷ [] ≡ members_list new =
        sym (put_last (members_list old) e rest up) ∙ ap (λ z. put z e.1 (members_list old)) (sym key) ∙ ap (λ z. put k z (members_list old)) (sym same) ∙ sym more in
        record { rest = rest; has = y.left; whole = whole ∙ sym (append_assoc (members_list old) (e ∷ []) rest) ∙ ap (λ xs. xs ++ rest) added }

  pub entries_end : PieceGives s None after → members_list old ≡ es
  entries_end gives = by h.rest h.has h.whole where
    by : (rest : List (List ℕ × Data)) → HasLeft s rest → es ≡ members_list old ++ rest → members_list old ≡ es
    by [] has whole = sym (append-nil (members_list old)) ∙ sym whole
    by (e ∷ rest) has whole = absurd (gives (e ∷ rest) has)

pub entries_made : (es : List (List ℕ × Data)) (found : Members) → members_list found ≡ es → T.map found ≡ map_data es
entries_made es found e = ap T.map (sym (members_of-members_list found) ∙ ap T.members_of e)

inline_made : (s : MapEntries) (d : Data) (t : Data) → KeysRise t → Maps (members_in t) (Some s) → ((es : List (List ℕ × Data)) → HasLeft s es → Rises es → d ≡ map_data es) → d ≡ t
inline_made s d (T.map ms) rises has read = read (members_list ms) has rises ∙ ap T.map (members_of-members_list ms)
inline_made s d t rises has read = absurd has

pub inline_tree : {E : Type 0} (s : MapEntries) (r : Result Tree E) (t : Data) → KeysRise t → Maps (members_in t) (Some s) → IfOk r (λ d. (es : List (List ℕ × Data)) → HasLeft s es → Rises es → data_of d ≡ map_data es) → IfOk r (λ d. data_of d ≡ t)
inline_tree s (Ok d) t rises has read = inline_made s (data_of d) t rises has read
inline_tree s (Err e) t rises has read = tt

pub if_made : {E : Type 0} (P : Data → Type 0) (r : Result Tree E) → ((t : Data) → P t → IfOk r (λ d. data_of d ≡ t)) → IfOk r (λ d. (t : Data) → P t → data_of d ≡ t)
if_made P (Ok d) h = λ t p. h t p
if_made P (Err e) h = tt
