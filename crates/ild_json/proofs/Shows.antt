-- The tokens of a list's items and of a map's entries, part by part, and maps with the only key `/`.
use Rattle.std.proofs.Common.{◌≡◌, ℕ, ◌+◌, ◌<◌, ◌≤◌, List, [], ◌∷◌, ◌++◌, length, get_or, take, map, Bool, true, false, ◌||◌, refl, sym, ap, ◌∙◌, arith, append_assoc, append-nil, Bor, IsPermutation, Ordering, Less, Equal, Greater, nat_cmp, subst}
use Rattle.std.proofs.lemmas.List.{take_more, take_all, length-map, get_or-map, map-append}
use Rattle.std.proofs.lemmas.List.Folds.{list_any_more, list_any_at}
use Rattle.std.proofs.lemmas.List.Sorted.{All-permutation, IsPermutation-map, list_any-IsPermutation}
use Rattle.std.proofs.lemmas.List.Elements.{All-from_recursion}
use Rattle.std.proofs.lemmas.Map.Lookups.{exact_bytes}
use Rattle.std.specs.Cmp.Lexicographic.{slice_cmp}
use Rattle.std.specs.List.{flat_map, list_any, AllByRecursion}
use Rattle.std.specs.List.Sorted.{IsSortedByKey}
use Rattle.std.specs.Ordering.{match_ordering, is_lt}
use Rattle.std.proofs.lemmas.Bool.{or_from, or_right}
use Rattle.json.specs.Token.{Token, key, begin_array, end_array, begin_object, end_object}
use Rattle.json.specs.Tree.{members_tokens}
use Rattle.json.specs.Written.{Written}
use Rattle.serde_json.specs.Data as json
use Rattle.serde_json.specs.Written.{members_outline}
use Rattle.ild_data.proofs.Lists.{taken_more}
use Rattle.ild_data.specs.ByteOrder.{bytewise}
use Rattle.ild_data.specs.Key.{Rises}
use Rattle.ild_data.specs.Data.{Data, null, map as map_of, Items, no_items, item, Members, no_members, member, items_list, members_list, depth, members_depth}
use Rattle.ild_data.specs.Seen.{data_of, pair_of}
use Rattle.ild_data.specs.declared.tree.Tree.{Tree}
use Rattle.ild_json.specs.Printing.{json_of, members_json, put_members, has_reserved, is_slash_alone, items_have_reserved, members_have_reserved}
use Rattle.ild_json.specs.Tokens.{Appends, AreBytewise, data_tokens, list_tokens, entries_seen}
use Rattle.ild_json.proofs.Bytewise.{sorted_put}
use Rattle.ild_json.proofs.Order.{put_bytewise, put_all_bytewise}

-- ---- tokens behind others

pub appends_none : (w : Written) → Appends w w []
appends_none w = record { before = refl; tokens = sym (append-nil w.tokens) }

pub appends_both : (a b c : Written) (xs ys : List Token) → Appends a b xs → Appends b c ys → Appends a c (xs ++ ys)
appends_both a b c xs ys first second = record {
  before = second.before ∙ first.before;
  tokens = second.tokens ∙ ap (λ ts. ts ++ ys) first.tokens ∙ append_assoc a.tokens xs ys;
}

pub appends_as : (a b : Written) (xs ys : List Token) → xs ≡ ys → Appends a b xs → Appends a b ys
appends_as a b xs ys same done = subst (Appends a b) same done

flat_map-push : {X : Type 0} (f : X → List Token) (xs : List X) (x : X) → flat_map f (xs ++ x ∷ []) ≡ flat_map f xs ++ f x
flat_map-push f [] x = append-nil (f x)
flat_map-push f (y ∷ ys) x = ap (λ ts. f y ++ ts) (flat_map-push f ys x) ∙ sym (append_assoc (f y) (flat_map f ys) (f x))

-- one part more
pub appends_more : {X : Type 0} (f : X → List Token) (front : List Token) (a b c : Written) (xs : List X) (i : ℕ) (x : X) → i < length xs → x ≡ get_or xs i x
    → Appends a b (front ++ flat_map f (take i xs)) → Appends b c (f x) → Appends a c (front ++ flat_map f (take (i + 1) xs))
appends_more f front a b c xs i x lt is first second =
    let taken : flat_map f (take (i + 1) xs) ≡ flat_map f (take i xs) ++ f x =
    ap (flat_map f) (take_more xs i x lt) ∙ flat_map-push f (take i xs) _ ∙ ap (λ y. flat_map f (take i xs) ++ f y) (sym is) in
    appends_as a c _ _ (append_assoc front (flat_map f (take i xs)) (f x) ∙ ap (λ ts. front ++ ts) (sym taken))
    (appends_both a b c (front ++ flat_map f (take i xs)) (f x) first second)

-- ---- the items of a list

abbrev pub tree_tokens : Tree → List Token
tree_tokens t = data_tokens (data_of t)

items_by_parts : (ds : Items) → list_tokens ds ≡ flat_map data_tokens (items_list ds) ++ end_array ∷ []
items_by_parts no_items = refl
items_by_parts (item d ds) = ap (λ ts. data_tokens d ++ ts) (items_by_parts ds) ∙ sym (append_assoc (data_tokens d) (flat_map data_tokens (items_list ds)) (end_array ∷ []))

flat_map-seen : {X Y : Type 0} (g : X → Y) (f : Y → List Token) (xs : List X) → flat_map f (map g xs) ≡ flat_map (λ x. f (g x)) xs
flat_map-seen g f [] = refl
flat_map-seen g f (x ∷ xs) = ap (λ ts. f (g x) ++ ts) (flat_map-seen g f xs)

pub items_written : (ts : List Tree) (ds : Items) (i : ℕ) (a b c : Written) → map data_of ts ≡ items_list ds → length ts ≤ i
    → Appends a b (begin_array ∷ flat_map tree_tokens (take i ts)) → Appends b c (end_array ∷ []) → Appends a c (begin_array ∷ list_tokens ds)
items_written ts ds i a b c seen le first second =
    let parts : flat_map tree_tokens (take i ts) ≡ flat_map data_tokens (items_list ds) =
    ap (flat_map tree_tokens) (take_all i ts le) ∙ sym (flat_map-seen data_of data_tokens ts) ∙ ap (flat_map data_tokens) seen in
    appends_as a c _ _ (ap (λ us. begin_array ∷ (us ++ end_array ∷ [])) parts ∙ ap (λ us. begin_array ∷ us) (sym (items_by_parts ds)))
    (appends_both a b c (begin_array ∷ flat_map tree_tokens (take i ts)) (end_array ∷ []) first second)

-- ---- the members of an object

pub entry_tokens : List ℕ × Data → List Token
entry_tokens e = key e.0 ∷ data_tokens e.1

abbrev pub as_members : List (List ℕ × Data) → json.Members
as_members [] = json.no_members
as_members (e ∷ es) = json.member e.0 (json_of e.1) (as_members es)

members_by_parts : (es : List (List ℕ × Data)) → members_tokens (members_outline (as_members es)) ≡ flat_map entry_tokens es ++ end_object ∷ []
unfolding entry_tokens
members_by_parts [] = refl
members_by_parts (e ∷ es) =
    ap (λ ts. key e.0 ∷ (data_tokens e.1 ++ ts)) (members_by_parts es) ∙ ap (λ ts. key e.0 ∷ ts) (sym (append_assoc (data_tokens e.1) (flat_map entry_tokens es) (end_object ∷ [])))

put_as_at : (o : Ordering) (k : List ℕ) (d : Data) (e : List ℕ × Data) (es later : List (List ℕ × Data)) → slice_cmp nat_cmp k e.0 ≡ o
    → match_ordering o (json.member k (json_of d) (as_members (e ∷ es))) (json.member e.0 (json_of d) (as_members es)) (json.member e.0 (json_of e.1) (as_members later))
    ≡ as_members (match_ordering o ((k, d) ∷ e ∷ es) ((k, d) ∷ es) (e ∷ later))
put_as_at Less k d e es later is = refl
put_as_at Equal k d e es later is = ap (λ l. json.member l (json_of d) (as_members es)) (sym (exact_bytes k e.0 is))
put_as_at Greater k d e es later is = refl

pub put_as : (k : List ℕ) (d : Data) (es : List (List ℕ × Data)) → json.put k (json_of d) (as_members es) ≡ as_members (put_bytewise k d es)
put_as k d [] = refl
put_as k d (e ∷ es) =
    let o = slice_cmp nat_cmp k e.0 in
    ap (λ ms. match_ordering o (json.member k (json_of d) (as_members (e ∷ es))) (json.member e.0 (json_of d) (as_members es)) (json.member e.0 (json_of e.1) ms)) (put_as k d es)
    ∙ put_as_at o k d e es (put_bytewise k d es) refl

pub put_all_as : (ms : Members) (found : List (List ℕ × Data)) → put_members (members_json ms) (as_members found) ≡ as_members (put_all_bytewise (members_list ms) found)
put_all_as no_members found = refl
put_all_as (member k d ms) found = ap (put_members (members_json ms)) (put_as k d found) ∙ put_all_as ms (put_bytewise k d found)

object_members : (ms : Members) (es : List (List ℕ × Data)) → AreBytewise ms es → put_members (members_json ms) json.no_members ≡ as_members es
object_members ms es order = put_all_as ms [] ∙ ap as_members (sorted_put ([], null) (members_list ms) es order.rises order.same order.order)

pub entry_written : (a b c : Written) (e : List ℕ × Data) → Appends a b (key e.0 ∷ []) → Appends b c (data_tokens e.1) → Appends a c (entry_tokens e)
unfolding entry_tokens
entry_written a b c e first second = appends_both a b c (key e.0 ∷ []) (data_tokens e.1) first second

-- entries that are borrowed
abbrev pub Held : Type 0
Held = Bor (List ℕ × Tree)

abbrev pub held_tokens : Held → List Token
held_tokens p = entry_tokens (pair_of p.now)

pub members_written : (ps : List Held) (ms : Members) (i : ℕ) (a b c : Written) → AreBytewise ms (entries_seen ps) → length ps ≤ i
    → Appends a b (begin_object ∷ flat_map held_tokens (take i ps)) → Appends b c (end_object ∷ []) → Appends a c (data_tokens (map_of ms))
members_written ps ms i a b c order le first second =
    let parts : flat_map held_tokens (take i ps) ≡ flat_map entry_tokens (entries_seen ps) =
    ap (flat_map held_tokens) (take_all i ps le) ∙ sym (flat_map-seen (λ (p : Held). pair_of p.now) entry_tokens ps) in
    let whole : members_tokens (members_outline (put_members (members_json ms) json.no_members)) ≡ flat_map entry_tokens (entries_seen ps) ++ end_object ∷ [] =
    ap (λ os. members_tokens (members_outline os)) (object_members ms (entries_seen ps) order) ∙ members_by_parts (entries_seen ps) in
    appends_as a c _ _ (ap (λ us. begin_object ∷ (us ++ end_object ∷ [])) parts ∙ ap (λ us. begin_object ∷ us) (sym whole))
    (appends_both a b c (begin_object ∷ flat_map held_tokens (take i ps)) (end_object ∷ []) first second)

pub held_depth : (ps : List Held) (ms : Members) (i : ℕ) (p : Held) → AreBytewise ms (entries_seen ps) → i < length ps → p ≡ get_or ps i p → depth (data_of p.now.1) ≤ members_depth ms
held_depth ps ms i p order lt is =
    let P : List ℕ × Data → Type 0 = λ e. depth e.1 ≤ members_depth ms in
    let seen : Held → List ℕ × Data = λ q. pair_of q.now in
    let all = All-permutation P (members_list ms) (entries_seen ps) order.same (All-from_recursion P (members_list ms) (each ms (members_depth ms) (omega arith))) in
    let at = all i (seen p) (omega (arith, length-map ps seen)) in
    subst P (get_or-map seen ps i p (seen p) lt ∙ ap seen (sym is)) at
  where
    each : (ns : Members) (n : ℕ) → members_depth ns ≤ n → AllByRecursion (λ (e : List ℕ × Data). depth e.1 ≤ n) (members_list ns)
    each no_members n le = tt
    each (member k d ns) n le = (omega arith, each ns n (omega arith))

sorted_at : (ps : List Held) → IsSortedByKey (λ (p : Held). p.now.0) bytewise ps → IsSortedByKey (λ (e : List ℕ × Data). e.0) bytewise (entries_seen ps)
sorted_at [] up k d low high = absurd (omega (arith, high))
sorted_at (p ∷ ps) up k d low high =
    let seen : Held → List ℕ × Data = λ q. pair_of q.now in
    let inside : k + 1 < length (p ∷ ps) = omega (arith, high, length-map (p ∷ ps) seen) in
    let here : get_or (entries_seen (p ∷ ps)) k d ≡ seen (get_or (p ∷ ps) k p) = get_or-map seen (p ∷ ps) k p d (omega (arith, inside)) in
    let next : get_or (entries_seen (p ∷ ps)) (k + 1) d ≡ seen (get_or (p ∷ ps) (k + 1) p) = get_or-map seen (p ∷ ps) (k + 1) p d inside in
    (λ i. is_lt (bytewise (next i).0 (here i).0)) ∙ up k p low inside

-- entries that were borrowed one after another, and then sorted
pub sorted_held : (xs : List (List ℕ × Tree)) (old new : List Held) (ms : Members) (i : ℕ) → Rises (members_list ms) → map pair_of xs ≡ members_list ms → length xs ≤ i
    → entries_seen old ≡ map pair_of (take i xs) → IsPermutation old new → IsSortedByKey (λ (p : Held). p.now.0) bytewise new → AreBytewise ms (entries_seen new)
sorted_held xs old new ms i up seen le all moved order = record {
  rises = up;
  same = subst (λ (es : List (List ℕ × Data)). IsPermutation es (entries_seen new)) (all ∙ ap (map pair_of) (take_all i xs le) ∙ seen) (IsPermutation-map (λ (p : Held). pair_of p.now) old new moved);
  order = sorted_at new order;
}

pub held_more : (xs : List (List ℕ × Tree)) (old new : List Held) (i : ℕ) (p : Held) → i < length xs → p.now ≡ get_or xs i p.now → entries_seen old ≡ map pair_of (take i xs) → new ≡ old ++ p ∷ []
    → entries_seen new ≡ map pair_of (take (i + 1) xs)
held_more xs old new i p lt is all pushed =
    ap entries_seen pushed ∙ map-append (λ (q : Held). pair_of q.now) old (p ∷ []) ∙ ap (λ es. es ++ pair_of p.now ∷ []) all ∙ sym (taken_more pair_of xs i p.now lt is)

-- ---- maps with the only key `/`

pub not_first : (a b : Bool) → a || b ≡ false → a ≡ false
not_first false b none = refl
not_first true b none = absurd cc

pub not_second : (a b : Bool) → a || b ≡ false → b ≡ false
not_second false b none = none
not_second true b none = absurd cc

items_by_any : (ds : Items) → items_have_reserved ds ≡ list_any has_reserved (items_list ds)
items_by_any no_items = refl
items_by_any (item d ds) = ap (λ b. has_reserved d || b) (items_by_any ds)

abbrev entry_reserved : List ℕ × Data → Bool
entry_reserved e = has_reserved e.1

members_by_any : (ms : Members) → members_have_reserved ms ≡ list_any entry_reserved (members_list ms)
members_by_any no_members = refl
members_by_any (member k d ms) = ap (λ b. has_reserved d || b) (members_by_any ms)

any_seen : {X Y : Type 0} (g : X → Y) (p : Y → Bool) (xs : List X) → list_any p (map g xs) ≡ list_any (λ x. p (g x)) xs
any_seen g p [] = refl
any_seen g p (x ∷ xs) = ap (λ b. p (g x) || b) (any_seen g p xs)

abbrev pub tree_reserved : Tree → Bool
tree_reserved t = has_reserved (data_of t)

abbrev pub held_reserved : Held → Bool
held_reserved p = has_reserved (data_of p.now.1)

items_any : (ts : List Tree) (ds : Items) → map data_of ts ≡ items_list ds → items_have_reserved ds ≡ list_any tree_reserved ts
items_any ts ds seen = items_by_any ds ∙ ap (list_any has_reserved) (sym seen) ∙ any_seen data_of has_reserved ts

members_any : (ps : List Held) (ms : Members) → AreBytewise ms (entries_seen ps) → members_have_reserved ms ≡ list_any held_reserved ps
members_any ps ms order =
    members_by_any ms ∙ list_any-IsPermutation entry_reserved (members_list ms) (entries_seen ps) order.same ∙ any_seen (λ (p : Held). pair_of p.now) entry_reserved ps

pub any_more : {X : Type 0} (p : X → Bool) (xs : List X) (i : ℕ) (x : X) → i < length xs → x ≡ get_or xs i x → list_any p (take i xs) ≡ false → p x ≡ false → list_any p (take (i + 1) xs) ≡ false
any_more p xs i x lt is none one = list_any_more p xs i x lt ∙ or_from (list_any p (take i xs)) (p (get_or xs i x)) none (ap p (sym is) ∙ one)

pub items_free : (ts : List Tree) (ds : Items) (i : ℕ) → map data_of ts ≡ items_list ds → length ts ≤ i → list_any tree_reserved (take i ts) ≡ false → items_have_reserved ds ≡ false
items_free ts ds i seen le none = items_any ts ds seen ∙ ap (list_any tree_reserved) (sym (take_all i ts le)) ∙ none

pub item_reserved : (ts : List Tree) (ds : Items) (i : ℕ) (t : Tree) → map data_of ts ≡ items_list ds → i < length ts → t ≡ get_or ts i t → has_reserved (data_of t) ≡ true → items_have_reserved ds ≡ true
item_reserved ts ds i t seen lt is one = items_any ts ds seen ∙ list_any_at tree_reserved ts i t lt (ap tree_reserved (sym is) ∙ one)

pub members_free : (ps : List Held) (ms : Members) (i : ℕ) → AreBytewise ms (entries_seen ps) → length ps ≤ i → list_any held_reserved (take i ps) ≡ false → is_slash_alone ms ≡ false → is_slash_alone ms || members_have_reserved ms ≡ false
members_free ps ms i order le none apart =
    or_from (is_slash_alone ms) (members_have_reserved ms) apart (members_any ps ms order ∙ ap (list_any held_reserved) (sym (take_all i ps le)) ∙ none)

pub member_reserved : (ps : List Held) (ms : Members) (i : ℕ) (p : Held) → AreBytewise ms (entries_seen ps) → i < length ps → p ≡ get_or ps i p → has_reserved (data_of p.now.1) ≡ true
    → is_slash_alone ms || members_have_reserved ms ≡ true
member_reserved ps ms i p order lt is one =
    or_right (is_slash_alone ms) (members_have_reserved ms) (members_any ps ms order ∙ list_any_at held_reserved ps i p lt (ap held_reserved (sym is) ∙ one))
