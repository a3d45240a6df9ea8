-- Steps of going over pairs and entries and telling them.
use Rattle.std.proofs.Common.{◌≡◌, ℕ, suc, ◌+◌, ◌-◌, ◌<◌, ◌&&◌, Bool, true, false, List, [], ◌∷◌, ◌++◌, length, drop, Option, Some, None, option_map, option_and_then, refl, sym, ap, ◌∙◌, subst, arith, append_assoc}
use Rattle.std.specs.Prelude.{IsUtf8}
use Rattle.std.specs.Borrow.{Bor}
use Rattle.std.proofs.lemmas.Bool.{false≢true}
use Rattle.std.proofs.lemmas.List.{length-append, drop_at}
use Rattle.ild_data.specs.Data.{Data, bytes, list, Items, no_items, item, items_list}
use Rattle.ild_data.specs.Spell.{head, spell}
use Rattle.ild_cbor.specs.Chain.{chain}
use Rattle.ild_cbor.specs.Nodes.{HasData, start_of}
use Rattle.ild_cbor.specs.Scalar.{bytes_of}
use Rattle.ild_cbor.specs.Spelled.{Holds}
use Rattle.ild_cbor.specs.Steps.{HasItems, ItemsGive, Unfolded, UnfoldStep, Unfolds, items_of}
use Rattle.ild_cbor.specs.declared.node.Node.{Node}
use Rattle.ild_cbor.specs.declared.items.Items.{Items as ItemsLeft}
use Rattle.ild_typed.specs.NodeReading.{text_in, two_of, key_in, pair_in, entry_in, entry_of_pair, rises, goes_on, are_entries}
use Rattle.ild_node_slots.specs.Told.{PairTold, PairNext, EntryTold, EntryNext, Told}
use Rattle.ild_typed.proofs.NodeEntries.{text-taken}

some_same : {A : Type 0} (a b : A) → ◌≡◌ {A = Option A} (Some a) (Some b) → a ≡ b
some_same a b is = cc

-- ---- pairs

pair_of_items : (d : Data) → pair_in d ≡ option_and_then (λ es. two_of (items_list es)) (items_of d)
pair_of_items (list ds) = refl
pair_of_items d = refl

none_by : (s t u : ItemsLeft) (ds : Items) (o : Option Items) → UnfoldStep s ds o None t → PairNext s ds (option_and_then (λ es. two_of (items_list es)) o) None u
none_by s t u ds None is = tt
none_by s t u ds (Some es) is = absurd is

pub pair-none : (s t u : ItemsLeft) (d : Data) (ds : Items) → HasItems s (item d ds) → Unfolds s None t → PairNext s ds (pair_in d) None u
pair-none s t u d ds left gives = subst (λ (o : Option (Data × Data)). PairNext s ds o None u) (sym (pair_of_items d)) (none_by s t u ds (items_of d) (gives (item d ds) left))

not_two : (es : List Data) → (length es ≡ 2 → ⊥) → two_of es ≡ None
not_two [] other = refl
not_two (a ∷ []) other = refl
not_two (a ∷ b ∷ []) other = absurd (other refl)
not_two (a ∷ b ∷ c ∷ es) other = refl

other_by : (s t u : ItemsLeft) (ds : Items) (n : ℕ) (o : Option Items) → UnfoldStep s ds o (Some n) t → (n ≡ 2 → ⊥) → PairNext s ds (option_and_then (λ es. two_of (items_list es)) o) None u
other_by s t u ds n None is other = absurd is
other_by s t u ds n (Some es) is other =
    let count = is.count in
    subst (λ (o : Option (Data × Data)). PairNext s ds o None u) (sym (not_two (items_list es) (λ two. other (omega arith)))) tt

pub pair-other : (s t u : ItemsLeft) (d : Data) (ds : Items) (n : ℕ) → HasItems s (item d ds) → Unfolds s (Some n) t → (n ≡ 2 → ⊥) → PairNext s ds (pair_in d) None u
pair-other s t u d ds n left gives other = subst (λ (o : Option (Data × Data)). PairNext s ds o None u) (sym (pair_of_items d)) (other_by s t u ds n (items_of d) (gives (item d ds) left) other)

-- what a list of two has inside
record HasTwo (s t : ItemsLeft) (d : Data) (ds : Items) : Type 0 where
  pub a : Data
  pub b : Data
  pub pair : pair_in d ≡ Some (a, b)
  pub left : HasItems t (item a (item b ds))
  pub same_block : t.block.now ≡ s.block.now

two_in : (s t : ItemsLeft) (d : Data) (es ds : Items) → items_of d ≡ Some es → Unfolded s es ds 2 t → HasTwo s t d ds
two_in s t d no_items ds is u = let c = u.count in absurd (omega arith)
two_in s t d (item a no_items) ds is u = let c = u.count in absurd (omega arith)
two_in s t d (item a (item b no_items)) ds is u = record {
  a = a;
  b = b;
  pair = pair_of_items d ∙ ap (option_and_then (λ es. two_of (items_list es))) is;
  left = u.left;
  same_block = u.same_block;
}
two_in s t d (item a (item b (item c es))) ds is u = let l = u.count in absurd (omega arith)

two_by : (s t : ItemsLeft) (d : Data) (ds : Items) (o : Option Items) → items_of d ≡ o → UnfoldStep s ds o (Some 2) t → HasTwo s t d ds
two_by s t d ds None is u = absurd u
two_by s t d ds (Some es) is u = two_in s t d es ds is u

two : (s t : ItemsLeft) (d : Data) (ds : Items) → HasItems s (item d ds) → Unfolds s (Some 2) t → HasTwo s t d ds
two s t d ds left gives = two_by s t d ds (items_of d) refl (gives (item d ds) left)

-- the two items are there
pub pair-first : (s t u : ItemsLeft) (d : Data) (ds : Items) → HasItems s (item d ds) → Unfolds s (Some 2) t → ItemsGive t None u → ⊥
pair-first s t u d ds left gives first = let p = two s t d ds left gives in first (item p.a (item p.b ds)) p.left

pub pair-second : (s t u w : ItemsLeft) (d : Data) (ds : Items) (y : Node) → HasItems s (item d ds) → Unfolds s (Some 2) t → ItemsGive t (Some y) u → ItemsGive u None w → ⊥
pair-second s t u w d ds y left gives first second =
    let p = two s t d ds left gives in
    second (item p.b ds) (first (item p.a (item p.b ds)) p.left).left

pub pair-told : (s t u w : ItemsLeft) (d : Data) (ds : Items) (y z : Node) → HasItems s (item d ds) → Unfolds s (Some 2) t → ItemsGive t (Some y) u → ItemsGive u (Some z) w → PairNext s ds (pair_in d) (Some (y, z)) w
pair-told s t u w d ds y z left gives first second =
    let p = two s t d ds left gives in
    let f = first (item p.a (item p.b ds)) p.left in
    let g = second (item p.b ds) f.left in
    subst (λ (o : Option (Data × Data)). PairNext s ds o (Some (y, z)) w) (sym p.pair) (record {
      first = f.stands;
      second = g.stands;
      first_block = f.block_is ∙ p.same_block;
      second_block = g.block_is ∙ f.same_block ∙ p.same_block;
      place = g.start_is ∙ f.place ∙ ap (λ (k : ℕ). k + length (spell p.a)) (sym f.start_is);
      left = g.left;
      same_block = g.same_block ∙ f.same_block ∙ p.same_block;
    })

-- ---- entries

no_pair : (s t u : ItemsLeft) (ds : Items) (o : Option (Data × Data)) → PairNext s ds o None t → EntryNext s ds (option_and_then entry_of_pair o) None u
no_pair s t u ds None is = tt
no_pair s t u ds (Some x) is = absurd is

pub entry-no_pair : (s t u : ItemsLeft) (d : Data) (ds : Items) → PairNext s ds (pair_in d) None t → EntryNext s ds (entry_in d) None u
entry-no_pair s t u d ds is = no_pair s t u ds (pair_in d) is

no_key : (a : Data) → None ≡ bytes_of a → key_in a ≡ None
no_key (bytes k) is = absurd cc
no_key a is = refl

no_bytes : (s t u : ItemsLeft) (ds : Items) (y : Node × Node) (o : Option (Data × Data)) → PairNext s ds o (Some y) t → ((a : Data) → HasData y.0 a → None ≡ bytes_of a) → EntryNext s ds (option_and_then entry_of_pair o) None u
no_bytes s t u ds y None is keys = absurd is
no_bytes s t u ds y (Some x) is keys =
    subst (λ (m : Option (List ℕ)). EntryNext s ds (option_map (λ k. (k, x.1)) m) None u) (sym (no_key x.0 (keys x.0 is.first))) tt

pub entry-no_bytes : (s t u : ItemsLeft) (d : Data) (ds : Items) (y : Node × Node) → PairNext s ds (pair_in d) (Some y) t → ((a : Data) → HasData y.0 a → None ≡ bytes_of a) → EntryNext s ds (entry_in d) None u
entry-no_bytes s t u d ds y is keys = no_bytes s t u ds y (pair_in d) is keys

-- a piece of a block, and what stands right behind it
follows : (block x y : List ℕ) (from at : ℕ) (hx : Holds block from x) (hy : Holds block at y) → at ≡ from + length x → block ≡ hx.before ++ (x ++ (y ++ hy.after))
follows block x y from at hx hy place =
    let start = hx.place in
    let long : length (hx.before ++ x) ≡ at = length-append hx.before x ∙ (λ k. start k + length x) ∙ sym place in
    let behind : hx.after ≡ y ++ hy.after =
    sym (drop_at (hx.before ++ x) hx.after at long) ∙ ap (drop at) (append_assoc hx.before x hx.after ∙ sym hx.is ∙ hy.is) ∙ drop_at hy.before (y ++ hy.after) at hy.place in
    hx.is ∙ ap (λ z. hx.before ++ (x ++ z)) behind

key_before : (before : List ℕ) (k : List ℕ) (at place : ℕ) → length before ≡ at → place ≡ at + length (head 2 (length k) ++ k) → length (before ++ head 2 (length k)) + length k ≡ place
key_before before k at place start is = omega (arith, length-append before (head 2 (length k)), length-append (head 2 (length k)) k, start, is)

entry_at : (s t : ItemsLeft) (ds : Items) (y : Node × Node) (k : List ℕ) (b : Data) (z : Bor (List ℕ)) → PairTold s ds (bytes k, b) y t → z.now ≡ k → IsUtf8 k → EntryTold s ds (k, b) (z, y.1) t
entry_at s t ds y k b z p key text =
    let hx = subst (λ (block : List ℕ). Holds block (start_of y.0) (spell (bytes k))) p.first_block p.first.holds in
    let hy = subst (λ (block : List ℕ). Holds block (start_of y.1) (spell b)) p.second_block p.second.holds in
    record {
      key = key;
      text = text;
      value = p.second;
      front = hx.before ++ head 2 (length k);
      after = hy.after;
      here = follows s.block.now (spell (bytes k)) (spell b) (start_of y.0) (start_of y.1) hx hy p.place
          ∙ ap (λ (x : List ℕ). hx.before ++ x) (append_assoc (head 2 (length k)) k (spell b ++ hy.after)) ∙ sym (append_assoc hx.before (head 2 (length k)) (k ++ (spell b ++ hy.after)));
      place = key_before hx.before k (start_of y.0) (start_of y.1) hx.place p.place;
      left = p.left;
      same_block = p.same_block;
    }

entry_made : (s t : ItemsLeft) (ds : Items) (y : Node × Node) (k : List ℕ) (b : Data) (m : Option (List ℕ)) (r : Option (Bor (List ℕ))) → text_in k ≡ m → PairTold s ds (bytes k, b) y t → option_map (λ s. s.now) r ≡ m
    → EntryNext s ds (option_map (λ k. (k, b)) m) (option_map (λ s. (s, y.1)) r) t
entry_made s t ds y k b None None read p is = tt
entry_made s t ds y k b None (Some z) read p is = absurd cc
entry_made s t ds y k b (Some j) None read p is = absurd cc
entry_made s t ds y k b (Some j) (Some z) read p is =
    let taken = text-taken k j read in
    entry_at s t ds y j b z (subst (λ (i : List ℕ). PairTold s ds (bytes i, b) y t) taken.0 p) (some_same z.now j is) taken.1

entry_of : (s t : ItemsLeft) (ds : Items) (y : Node × Node) (a b : Data) (ones : List ℕ) (r : Option (Bor (List ℕ))) → PairTold s ds (a, b) y t → Some ones ≡ bytes_of a → option_map (λ s. s.now) r ≡ text_in ones
    → EntryNext s ds (option_map (λ k. (k, b)) (key_in a)) (option_map (λ s. (s, y.1)) r) t
entry_of s t ds y (bytes k) b ones r p is text = entry_made s t ds y k b (text_in k) r refl p (text ∙ ap text_in (some_same ones k is))
entry_of s t ds y a b ones r p is text = absurd cc

entry_by : (s t : ItemsLeft) (ds : Items) (y : Node × Node) (ones : List ℕ) (r : Option (Bor (List ℕ))) (o : Option (Data × Data)) → PairNext s ds o (Some y) t → ((a : Data) → HasData y.0 a → Some ones ≡ bytes_of a)
    → option_map (λ s. s.now) r ≡ text_in ones → EntryNext s ds (option_and_then entry_of_pair o) (option_map (λ s. (s, y.1)) r) t
entry_by s t ds y ones r None is keys text = absurd is
entry_by s t ds y ones r (Some x) is keys text = entry_of s t ds y x.0 x.1 ones r is (keys x.0 is.first) text

pub entry-told : (s t : ItemsLeft) (d : Data) (ds : Items) (y : Node × Node) (ones : List ℕ) (r : Option (Bor (List ℕ))) → PairNext s ds (pair_in d) (Some y) t → ((a : Data) → HasData y.0 a → Some ones ≡ bytes_of a)
    → option_map (λ s. s.now) r ≡ text_in ones → EntryNext s ds (entry_in d) (option_map (λ s. (s, y.1)) r) t
entry-told s t d ds y ones r is keys text = entry_by s t ds y ones r (pair_in d) is keys text

-- ---- the entries of a bucket

-- the iterator stands before the entries that are left, behind a key
pub record EntriesAhead (s : ItemsLeft) (es ds : Items) (last : Option (List ℕ)) (left : ℕ) : Type 0 where
  pub more : Items
  pub here : HasItems s (chain more ds)
  pub count : length (items_list more) ≡ left
  pub same : are_entries es None ≡ are_entries more last

pub entries-ahead : (s : ItemsLeft) (es ds : Items) (left : ℕ) → HasItems s (chain es ds) → length (items_list es) ≡ left → EntriesAhead s es ds None left
entries-ahead s es ds left here count = record { more = es; here = here; count = count; same = refl }

abbrev pub GivesEntry : ItemsLeft → Option (Bor (List ℕ) × Node) → ItemsLeft → Type 0
GivesEntry s r t = (d : Data) (ds : Items) → HasItems s (item d ds) → EntryNext s ds (entry_in d) r t

goes : (s : ItemsLeft) (last : Option (List ℕ)) (ds : Items) (r : Bor (List ℕ) × Node) (t : ItemsLeft) (rest : Option (List ℕ) → Bool) (o : Option (List ℕ × Data)) → EntryNext s ds o (Some r) t → rises last r.0.now ≡ true
    → (goes_on last o rest ≡ rest (Some r.0.now)) × HasItems t ds
goes s last ds r t rest None is up = absurd is
goes s last ds r t rest (Some e) is up =
    let key = is.key in
    let above : rises last e.0 ≡ true = ap (rises last) (sym key) ∙ up in
    ((λ i. above i && rest (Some (sym key i))), is.left)

falls : (s : ItemsLeft) (last : Option (List ℕ)) (ds : Items) (r : Bor (List ℕ) × Node) (t : ItemsLeft) (rest : Option (List ℕ) → Bool) (o : Option (List ℕ × Data)) → EntryNext s ds o (Some r) t → rises last r.0.now ≡ false
    → goes_on last o rest ≡ false
falls s last ds r t rest None is down = refl
falls s last ds r t rest (Some e) is down = ap (λ b. b && rest (Some e.0)) (ap (rises last) (sym is.key) ∙ down)

misses : (s : ItemsLeft) (last : Option (List ℕ)) (ds : Items) (t : ItemsLeft) (rest : Option (List ℕ) → Bool) (o : Option (List ℕ × Data)) → EntryNext s ds o None t → goes_on last o rest ≡ false
misses s last ds t rest None is = refl
misses s last ds t rest (Some e) is = absurd is

step_in : (s t : ItemsLeft) (es ds more : Items) (last : Option (List ℕ)) (left : ℕ) (r : Bor (List ℕ) × Node) → HasItems s (chain more ds) → length (items_list more) ≡ suc left → are_entries es None ≡ are_entries more last
    → GivesEntry s (Some r) t → rises last r.0.now ≡ true → EntriesAhead t es ds (Some r.0.now) left
step_in s t es ds no_items last left r here count same gives up = absurd (omega arith)
step_in s t es ds (item d more) last left r here count same gives up =
    let g = goes s last (chain more ds) r t (are_entries more) (entry_in d) (gives d (chain more ds) here) up in
    record { more = more; here = g.1; count = omega arith; same = same ∙ g.0 }

pub entries-step : (s t : ItemsLeft) (es ds : Items) (last : Option (List ℕ)) (left : ℕ) (r : Bor (List ℕ) × Node) → EntriesAhead s es ds last left → 0 < left → GivesEntry s (Some r) t → rises last r.0.now ≡ true
    → EntriesAhead t es ds (Some r.0.now) (left - 1)
entries-step s t es ds last left r l lt gives up =
    let count = l.count in
    step_in s t es ds l.more last (left - 1) r l.here (omega arith) l.same gives up

fall_in : (s t : ItemsLeft) (es ds more : Items) (last : Option (List ℕ)) (r : Bor (List ℕ) × Node) → HasItems s (chain more ds) → 0 < length (items_list more) → are_entries es None ≡ are_entries more last
    → GivesEntry s (Some r) t → rises last r.0.now ≡ false → Told (are_entries es None) ds false t
fall_in s t es ds no_items last r here some same gives down = absurd (omega arith)
fall_in s t es ds (item d more) last r here some same gives down = record {
  same = sym (same ∙ falls s last (chain more ds) r t (are_entries more) (entry_in d) (gives d (chain more ds) here) down);
  left = λ said. absurd (false≢true said);
}

pub entries-fall : (s t : ItemsLeft) (es ds : Items) (last : Option (List ℕ)) (left : ℕ) (r : Bor (List ℕ) × Node) → EntriesAhead s es ds last left → 0 < left → GivesEntry s (Some r) t → rises last r.0.now ≡ false
    → Told (are_entries es None) ds false t
entries-fall s t es ds last left r l lt gives down = let count = l.count in fall_in s t es ds l.more last r l.here (omega arith) l.same gives down

miss_in : (s t : ItemsLeft) (es ds more : Items) (last : Option (List ℕ)) → HasItems s (chain more ds) → 0 < length (items_list more) → are_entries es None ≡ are_entries more last
    → GivesEntry s None t → Told (are_entries es None) ds false t
miss_in s t es ds no_items last here some same gives = absurd (omega arith)
miss_in s t es ds (item d more) last here some same gives = record {
  same = sym (same ∙ misses s last (chain more ds) t (are_entries more) (entry_in d) (gives d (chain more ds) here));
  left = λ said. absurd (false≢true said);
}

pub entries-miss : (s t : ItemsLeft) (es ds : Items) (last : Option (List ℕ)) (left : ℕ) → EntriesAhead s es ds last left → 0 < left → GivesEntry s None t → Told (are_entries es None) ds false t
entries-miss s t es ds last left l lt gives = let count = l.count in miss_in s t es ds l.more last l.here (omega arith) l.same gives

done_in : (s : ItemsLeft) (es ds more : Items) (last : Option (List ℕ)) → HasItems s (chain more ds) → length (items_list more) ≡ 0 → are_entries es None ≡ are_entries more last → Told (are_entries es None) ds true s
done_in s es ds no_items last here none same = record { same = sym same; left = λ said. here }
done_in s es ds (item d more) last here none same = absurd (omega arith)

pub entries-done : (s : ItemsLeft) (es ds : Items) (last : Option (List ℕ)) (left : ℕ) → EntriesAhead s es ds last left → left ≡ 0 → Told (are_entries es None) ds true s
entries-done s es ds last left l none = let count = l.count in done_in s es ds l.more last l.here (omega arith) l.same
