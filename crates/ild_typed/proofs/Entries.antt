-- Data of lists, of pairs and of texts tell what is in them; a look-up in sorted pairs.
use Rattle.std.proofs.Common.{◌≡◌, ℕ, List, [], ◌∷◌, map, true, cond, Option, Some, None, option_map, refl, sym, ◌∙◌, ap}
use Rattle.std.proofs.lemmas.Option.{same_Some, none-some}
use Rattle.ild_data.specs.Data as T
use Rattle.ild_data.specs.Data.{Data}
use Rattle.ild_data.specs.Key.{same_text, value_at}
use Rattle.ild_data.proofs.Rising.{key_equal, agrees}
pub use Rattle.ild_schema.proofs.Puts.{swap, value_put}
use Rattle.ild_typed.specs.Strings.{text_in, bytes_in, cons_both, texts_in, text_pairs, in_key_order, map_data, pair_data, listpairs}
use Rattle.ild_typed.proofs.Basics.{map_from}

-- ---- lists and pairs

items_back : (ds : List Data) → T.items_list (T.items_of ds) ≡ ds
items_back [] = refl
items_back (d ∷ ds) = ap (λ es. d ∷ es) (items_back ds)

members_back : (ms : List (List ℕ × Data)) → T.members_list (T.members_of ms) ≡ ms
members_back [] = refl
members_back (m ∷ ms) = ap (λ es. m ∷ es) (members_back ms)

abbrev list_inside : Data → List Data
list_inside (T.list ds) = T.items_list ds
list_inside d = []

abbrev map_inside : Data → List (List ℕ × Data)
map_inside (T.map ms) = T.members_list ms
map_inside d = []

pub list_tells : (ds es : List Data) → T.list (T.items_of ds) ≡ T.list (T.items_of es) → ds ≡ es
list_tells ds es e = sym (items_back ds) ∙ ap list_inside e ∙ items_back es

pub map_tells : (ps qs : List (List ℕ × Data)) → map_data ps ≡ map_data qs → ps ≡ qs
map_tells ps qs e = sym (members_back ps) ∙ ap map_inside e ∙ members_back qs

abbrev text_inside : Data → List ℕ
text_inside (T.text s) = s
text_inside d = []

abbrev key_inside : List Data → List ℕ
key_inside (d ∷ ds) = text_inside d
key_inside ds = []

abbrev value_inside : Data → List Data → Data
value_inside z (d ∷ e ∷ ds) = e
value_inside z ds = z

pair_tells : (p q : List ℕ × Data) → pair_data p ≡ pair_data q → p ≡ q
pair_tells p q e = λ i. (ap (λ d. key_inside (list_inside d)) e i, ap (λ d. value_inside p.1 (list_inside d)) e i)

pair_lists : (ps qs : List (List ℕ × Data)) → map pair_data ps ≡ map pair_data qs → ps ≡ qs
pair_lists [] [] e = refl
pair_lists [] (q ∷ qs) e = absurd cc
pair_lists (p ∷ ps) [] e = absurd cc
pair_lists (p ∷ ps) (q ∷ qs) e = λ i. pair_tells p q (ap (first (pair_data p)) e) i ∷ pair_lists ps qs (ap others e) i
  where
    first : Data → List Data → Data
    first z [] = z
    first z (d ∷ ds) = d

    others : List Data → List Data
    others [] = []
    others (d ∷ ds) = ds

pub listpairs_tell : (ps qs : List (List ℕ × Data)) → listpairs ps ≡ listpairs qs → ps ≡ qs
listpairs_tell ps qs e = pair_lists ps qs (list_tells (map pair_data ps) (map pair_data qs) e)

-- ---- texts

pub record Both {A : Type 0} (o : Option A) (os : Option (List A)) (xs : List A) : Type 0 where
  pub item : A
  pub items : List A
  pub first : o ≡ Some item
  pub rest : os ≡ Some items
  pub all : item ∷ items ≡ xs

pub both_from : {A : Type 0} (o : Option A) (os : Option (List A)) (xs : List A) → cons_both o os ≡ Some xs → Both o os xs
both_from None os xs e = absurd (none-some xs e)
both_from (Some a) None xs e = absurd (none-some xs e)
both_from (Some a) (Some ys) xs e = record { item = a; items = ys; first = refl; rest = refl; all = same_Some (a ∷ ys) xs e }

pub only_text_data : (d : Data) (s : List ℕ) → text_in d ≡ Some s → d ≡ T.text s
only_text_data (T.text a) s e = ap T.text (same_Some a s e)
only_text_data d s e = absurd (none-some s e)

pub only_bytes_data : (d : Data) (s : List ℕ) → bytes_in d ≡ Some s → d ≡ T.bytes s
only_bytes_data (T.bytes a) s e = ap T.bytes (same_Some a s e)
only_bytes_data d s e = absurd (none-some s e)

list_nil : {A : Type 0} (a : A) (xs ys : List A) → ys ≡ [] → a ∷ xs ≡ ys → ⊥
list_nil a xs ys e k = absurd cc

abbrev head_like : {A : Type 0} → A → List A → A
head_like z [] = z
head_like z (x ∷ xs) = x

abbrev tail_like : {A : Type 0} → List A → List A
tail_like [] = []
tail_like (x ∷ xs) = xs

-- a list of parts, each of which tells, tells
pub all_tell : {A B : Type 0} (f : A → Option B) (read : List A → Option (List B)) → read [] ≡ Some [] → ((a : A) (xs : List A) → read (a ∷ xs) ≡ cons_both (f a) (read xs))
    → ((a b : A) (c : B) → f a ≡ Some c → f b ≡ Some c → a ≡ b)
    → (xs ys : List A) (zs : List B) → read xs ≡ Some zs → read ys ≡ Some zs → xs ≡ ys
all_tell f read none some one [] [] zs e k = refl
all_tell f read none some one [] (y ∷ ys) zs e k =
    let b = both_from (f y) (read ys) zs (sym (some y ys) ∙ k) in
    absurd (list_nil b.item b.items zs (same_Some zs [] (sym e ∙ none)) b.all)
all_tell f read none some one (x ∷ xs) [] zs e k =
    let b = both_from (f x) (read xs) zs (sym (some x xs) ∙ e) in
    absurd (list_nil b.item b.items zs (same_Some zs [] (sym k ∙ none)) b.all)
all_tell f read none some one (x ∷ xs) (y ∷ ys) zs e k =
    let b = both_from (f x) (read xs) zs (sym (some x xs) ∙ e) in
    let c = both_from (f y) (read ys) zs (sym (some y ys) ∙ k) in
    let first = one x y b.item b.first (c.first ∙ ap Some (ap (head_like b.item) (c.all ∙ sym b.all))) in
    let rest = all_tell f read none some one xs ys b.items b.rest (c.rest ∙ ap Some (ap tail_like (c.all ∙ sym b.all))) in
    λ i. first i ∷ rest i

pub texts_tell : (ds es : List Data) (ts : List (List ℕ)) → texts_in ds ≡ Some ts → texts_in es ≡ Some ts → ds ≡ es
texts_tell = all_tell text_in texts_in refl (λ d ds. refl) (λ d e s h k. only_text_data d s h ∙ sym (only_text_data e s k))

text_pair : (p q : List ℕ × Data) (s : List ℕ × List ℕ) → option_map (λ t. (p.0, t)) (text_in p.1) ≡ Some s → option_map (λ t. (q.0, t)) (text_in q.1) ≡ Some s → p ≡ q
text_pair p q s h k =
    let x = map_from (λ t. (p.0, t)) (text_in p.1) s h in
    let y = map_from (λ t. (q.0, t)) (text_in q.1) s k in
    let same : (p.0, x.item) ≡ (q.0, y.item) = same_Some (p.0, x.item) s x.made ∙ sym (same_Some (q.0, y.item) s y.made) in
    let datum : p.1 ≡ q.1 = only_text_data p.1 x.item x.there ∙ ap (λ (r : List ℕ × List ℕ). T.text r.1) same ∙ sym (only_text_data q.1 y.item y.there) in
    λ i. (ap (λ (r : List ℕ × List ℕ). r.0) same i, datum i)

pub text_pairs_tell : (ps qs : List (List ℕ × Data)) (ts : List (List ℕ × List ℕ)) → text_pairs ps ≡ Some ts → text_pairs qs ≡ Some ts → ps ≡ qs
text_pairs_tell = all_tell (λ (p : List ℕ × Data). option_map (λ t. (p.0, t)) (text_in p.1)) text_pairs refl (λ d ds. refl) text_pair

-- ---- look-ups

pub value_sorted : (q : List ℕ) (ps : List (List ℕ × Data)) → value_at q (in_key_order ps) ≡ value_at q ps
value_sorted q [] = refl
value_sorted q (p ∷ ps) = value_put q p.0 p.1 (in_key_order ps) ∙ ap (cond (same_text q p.0) (Some p.1)) (value_sorted q ps)

pub same_text_self : (k : List ℕ) → same_text k k ≡ true
same_text_self k = agrees k k (same_text k k) refl (key_equal k)

pub value_first : {V : Type 0} (k : List ℕ) (v : V) (ms : List (List ℕ × V)) → value_at k ((k, v) ∷ ms) ≡ Some v
value_first k v ms = ap (λ b. cond b (Some v) (value_at k ms)) (same_text_self k)
