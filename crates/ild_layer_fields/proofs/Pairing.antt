-- The pairs of a list, one after another.
use Rattle.std.proofs.Common.{◌≡◌, ℕ, suc, List, [], ◌∷◌, ◌++◌, append_assoc, length, map, Bool, true, false, cond, ◌||◌, not, Option, Some, None, refl, sym, ◌∙◌, ap, subst, arith, ◌⊎◌, inl, inr}
use Rattle.std.specs.Borrow.{Bor}
use Rattle.std.specs.List.{list_any}
use Rattle.std.specs.Prelude.{nat_eq}
use Rattle.std.proofs.lemmas.Bool.{eqb-true}
use Rattle.std.proofs.lemmas.List.Folds.{list_any-append}
use Rattle.std.proofs.lemmas.Option.{same_Some, none-some}
use Rattle.ild_data.specs.Data as T
use Rattle.ild_data.specs.Data.{Data}
use Rattle.ild_data.specs.Key.{same_text, value_at}
use Rattle.ild_cbor.specs.Nodes.{HasData}
use Rattle.ild_cbor.specs.Scalar.{text_of as text_found}
use Rattle.ild_cbor.specs.Steps.{HasItems, ItemsGive, FindsItems, items_of}
use Rattle.ild_cbor.specs.declared.items.Items.{Items}
use Rattle.ild_cbor.specs.declared.node.Node.{Node}
use Rattle.ild_schema.specs.declared.def.Field.{Field}
use Rattle.ild_typed.specs.Named.{entry_of, is_pair, is_two, items_or, name_of, pair_entries, pair_names}
use Rattle.ild_typed.specs.Strings.{pair_data}
use Rattle.ild_layer_piece.specs.Entries.{Found}
use Rattle.ild_layer_fields.specs.Causes.{Noted, PairsNoted}
use Rattle.ild_layer_fields.specs.Pairs.{IsPairOf}
use Rattle.ild_layer_fields.specs.declared.notes.Notes.{Notes}
use Rattle.ild_layer_fields.specs.declared.pair.Pair.{Pair}
use Rattle.ild_layer_fields.specs.declared.pair.Pair.TheVariants as P
use Rattle.ild_layer_fields.proofs.Noting.{any_more}
use Rattle.ild_layer_fields.proofs.Surveying.{none_behind}

-- ---- steps over items

pub record ListOf (d : Data) (s : Items) : Type 0 where
  pub items : T.Items
  pub is : d ≡ T.list items
  pub left : HasItems s items

pub list_of : (n : Node) (d : Data) (s : Items) → FindsItems n (items_of d) (Some s) → ListOf d s
list_of n (T.list ds) s h = record { items = ds; is = refl; left = h.left }
list_of n d s h = absurd h

pub record Item (ds : T.Items) (n : Node) (t : Items) : Type 0 where
  pub one : Data
  pub rest : T.Items
  pub is : ds ≡ T.item one rest
  pub stands : HasData n one
  pub left : HasItems t rest

pub item_step : (s : Items) (ds : T.Items) (n : Node) (t : Items) → ItemsGive s (Some n) t → HasItems s ds → Item ds n t
item_step s T.no_items n t gives left = absurd (gives T.no_items left)
item_step s (T.item d ds) n t gives left =
    let x = gives (T.item d ds) left in
    record { one = d; rest = ds; is = refl; stands = x.stands; left = x.left }

pub item_end : (s : Items) (ds : T.Items) (t : Items) → ItemsGive s None t → HasItems s ds → ds ≡ T.no_items
item_end s T.no_items t gives left = refl
item_end s (T.item d ds) t gives left = absurd (gives (T.item d ds) left)

pub text_is : (d : Data) (k : List ℕ) → Some k ≡ text_found d → d ≡ T.text k
text_is (T.text s) k e = ap T.text (sym (same_Some k s e))
text_is d k e = absurd (none-some k (sym e))

-- ---- one pair

module _ (n : Node) (d : Data) (s t : Items) (first : Node) (k : List ℕ)
    (list : FindsItems n (items_of d) (Some s)) (one : ItemsGive s (Some first) t) (text : (e : Data) → HasData first e → Some k ≡ text_found e)
  where
    named : ListOf d s
    named = list_of n d s list

    head : Item named.items first t
    head = item_step s named.items first t one named.left

    name_is : head.one ≡ T.text k
    name_is = text_is head.one k (text head.one head.stands)

    whole : d ≡ T.list (T.item (T.text k) head.rest)
    whole = named.is ∙ ap T.list head.is ∙ ap (λ e. T.list (T.item e head.rest)) name_is

    pub pair_alone : (u : Items) → ItemsGive t None u → (is_pair d ≡ true) × (is_two d ≡ false) × (name_of (items_or d) ≡ k ∷ []) × (entry_of (items_or d) ≡ [])
    pair_alone u no_more =
        let none = item_end t head.rest u no_more head.left in
        let is : d ≡ T.list (T.item (T.text k) T.no_items) = whole ∙ ap (λ ds. T.list (T.item (T.text k) ds)) none in
        (ap is_pair is, ap is_two is, ap (λ e. name_of (items_or e)) is, ap (λ e. entry_of (items_or e)) is)

    module _ (second : Node) (u : Items) (two : ItemsGive t (Some second) u) where
      next : Item head.rest second u
      next = item_step t head.rest second u two head.left

      both : d ≡ T.list (T.item (T.text k) (T.item next.one next.rest))
      both = whole ∙ ap (λ ds. T.list (T.item (T.text k) ds)) next.is

      pub pair_whole : (v : Items) → ItemsGive u None v → (e : Data) × (d ≡ pair_data (k, e)) × HasData second e
      pair_whole v no_more = (next.one, both ∙ ap (λ ds. T.list (T.item (T.text k) (T.item next.one ds))) (item_end u next.rest v no_more next.left), next.stands)

      pub pair_long : (third : Node) (v : Items) → ItemsGive u (Some third) v → (is_pair d ≡ true) × (is_two d ≡ false) × (name_of (items_or d) ≡ k ∷ []) × (entry_of (items_or d) ≡ [])
      pair_long third v more =
          let x = item_step u next.rest third v more next.left in
          let is : d ≡ T.list (T.item (T.text k) (T.item next.one (T.item x.one x.rest))) = both ∙ ap (λ ds. T.list (T.item (T.text k) (T.item next.one ds))) x.is in
          let many : nat_eq (suc (suc (suc (length (T.items_list x.rest))))) 2 ≡ false = not_two (length (T.items_list x.rest)) in
          (ap is_pair is, ap is_two is ∙ many, ap (λ e. name_of (items_or e)) is, ap (λ e. entry_of (items_or e)) is)
        where
          not_two : (m : ℕ) → nat_eq (suc (suc (suc m))) 2 ≡ false
          not_two m = by (nat_eq (suc (suc (suc m))) 2) refl where
            by : (b : Bool) → nat_eq (suc (suc (suc m))) 2 ≡ b → b ≡ false
            by true e = absurd (omega (arith, eqb-true (suc (suc (suc m))) 2 e))
            by false e = refl

-- ---- what is noted of a pair

module _ (fs : List Field) (d : Data) (ks : List (List ℕ)) (es : List (List ℕ × Data)) (new : Notes) where
  pub name_noted : (k : Bor (List ℕ)) → IsPairOf d (P.Name k) → Noted fs (ks ++ k.now ∷ []) es new → (false ≡ is_two d) × Noted fs (ks ++ name_of (items_or d)) (es ++ entry_of (items_or d)) new
  name_noted k h noted =
      let names : Noted fs (ks ++ name_of (items_or d)) es new = subst (λ xs. Noted fs (ks ++ xs) es new) (sym h.2) noted in
      let same : es ≡ es ++ entry_of (items_or d) = sym (none_behind es) ∙ ap (λ xs. es ++ xs) (sym h.3) in
      (sym h.1, subst (λ xs. Noted fs (ks ++ name_of (items_or d)) xs new) same names)

  pub entry_noted : (k : Bor (List ℕ)) (n : Node) → IsPairOf d (P.Entry k n) → ((v : Data) → HasData n v → Noted fs (ks ++ k.now ∷ []) (es ++ (k.now, v) ∷ []) new)
      → (true ≡ is_two d) × Noted fs (ks ++ name_of (items_or d)) (es ++ entry_of (items_or d)) new
  entry_noted k n h noted =
      subst (λ e. (true ≡ is_two e) × Noted fs (ks ++ name_of (items_or e)) (es ++ entry_of (items_or e)) new) (sym h.1) (refl, noted h.0 h.2)

-- ---- the pairs

abbrev pub is_odd : Data → Bool
is_odd d = not (is_pair d)

abbrev pub is_miscounted : Data → Bool
is_miscounted d = not (is_two d)

pub record Pairing (fs : List Field) (ds : T.Items) (s : Items) (notes : Notes) (miscounted : Bool) : Type 0 where
  pub done : List Data
  pub rest : T.Items
  pub is : T.items_list ds ≡ done ++ T.items_list rest
  pub left : HasItems s rest
  pub fine : list_any is_odd done ≡ false
  pub counted : miscounted ≡ list_any is_miscounted done
  pub noted : Noted fs (pair_names done) (pair_entries done) notes

names_more : (ds : List Data) (d : Data) → pair_names (ds ++ d ∷ []) ≡ pair_names ds ++ name_of (items_or d)
names_more [] d = none_behind (name_of (items_or d))
names_more (e ∷ ds) d = ap (λ ks. name_of (items_or e) ++ ks) (names_more ds d) ∙ sym (append_assoc (name_of (items_or e)) (pair_names ds) (name_of (items_or d)))

entries_more : (ds : List Data) (d : Data) → pair_entries (ds ++ d ∷ []) ≡ pair_entries ds ++ entry_of (items_or d)
entries_more [] d = none_behind (entry_of (items_or d))
entries_more (e ∷ ds) d = ap (λ es. entry_of (items_or e) ++ es) (entries_more ds d) ∙ sym (append_assoc (entry_of (items_or e)) (pair_entries ds) (entry_of (items_or d)))

-- whether a pair is one
pub pair_kind : (d : Data) (pair : Pair) → IsPairOf d pair → (pair ≡ P.Odd → ⊥) → is_pair d ≡ true
pair_kind d P.Odd h not_odd = absurd (not_odd refl)
pair_kind d P.Empty h not_odd = ap is_pair h
pair_kind d (P.Name k) h not_odd = h.0
pair_kind d (P.Entry k n) h not_odd = ap is_pair h.1

module _ (fs : List Field) (ds : T.Items) (s t : Items) (old : Notes) (miscounted : Bool) (h : Pairing fs ds s old miscounted) (n : Node) where
  pub pairing_on : (new : Notes) (pair : Pair) (two : Bool) → ItemsGive s (Some n) t → ((d : Data) → HasData n d → IsPairOf d pair) → (pair ≡ P.Odd → ⊥)
      → ((d : Data) → IsPairOf d pair → is_pair d ≡ true → (ks : List (List ℕ)) (es : List (List ℕ × Data)) → Noted fs ks es old
      → (two ≡ is_two d) × Noted fs (ks ++ name_of (items_or d)) (es ++ entry_of (items_or d)) new)
      → Pairing fs ds t new (miscounted || not two)
  pairing_on new pair two gives found not_odd more =
      let x = item_step s h.rest n t gives h.left in
      let d = x.one in
      let p = found d x.stands in
      let even = pair_kind d pair p not_odd in
      let noted = more d p even (pair_names h.done) (pair_entries h.done) h.noted in
      let behind : T.items_list h.rest ≡ d ∷ T.items_list x.rest = ap T.items_list x.is in
      record {
        done = h.done ++ d ∷ [];
        rest = x.rest;
        is = h.is ∙ ap (λ xs. h.done ++ xs) behind ∙ sym (append_assoc h.done (d ∷ []) (T.items_list x.rest));
        left = x.left;
        fine = any_more is_odd h.done d ∙ ap (λ b. b || is_odd d) h.fine ∙ ap not even;
        counted = ap (λ b. b || not two) h.counted ∙ ap (λ b. list_any is_miscounted h.done || not b) noted.0 ∙ sym (any_more is_miscounted h.done d);
        noted = subst (λ ks. Noted fs ks (pair_entries (h.done ++ d ∷ [])) new) (sym (names_more h.done d))
            (subst (λ es. Noted fs (pair_names h.done ++ name_of (items_or d)) es new) (sym (entries_more h.done d)) noted.1);
      }

  pub pairing_odd : (pair : Pair) → ItemsGive s (Some n) t → ((d : Data) → HasData n d → IsPairOf d pair) → pair ≡ P.Odd → list_any is_odd (T.items_list ds) ≡ true
  pairing_odd pair gives found odd =
      let x = item_step s h.rest n t gives h.left in
      let bad : is_pair x.one ≡ false = subst (IsPairOf x.one) odd (found x.one x.stands) in
      let behind : T.items_list h.rest ≡ x.one ∷ T.items_list x.rest = ap T.items_list x.is in
      ap (list_any is_odd) (h.is ∙ ap (λ xs. h.done ++ xs) behind) ∙ list_any-append is_odd h.done (x.one ∷ T.items_list x.rest)
      ∙ ap (λ b. list_any is_odd h.done || (not b || list_any is_odd (T.items_list x.rest))) bad ∙ or_true (list_any is_odd h.done)
    where
      or_true : (b : Bool) → (b || true) ≡ true
      or_true true = refl
      or_true false = refl

pub pairing_end : (fs : List Field) (ds : T.Items) (s t : Items) (notes : Notes) (miscounted : Bool) → Pairing fs ds s notes miscounted → ItemsGive s None t
    → PairsNoted fs (T.items_list ds) (Some (notes, miscounted))
pairing_end fs ds s t notes miscounted h gives =
    let all : T.items_list ds ≡ h.done = h.is ∙ ap (λ xs. h.done ++ T.items_list xs) (item_end s h.rest t gives h.left) ∙ none_behind h.done in
    subst (λ xs. PairsNoted fs xs (Some (notes, miscounted))) (sym all) (h.fine, h.counted, h.noted)

-- ---- a value by its name

pub record Seeking (key : List ℕ) (es : List (List ℕ × Data)) (s : Items) : Type 0 where
  pub rest : List (List ℕ × Data)
  pub same : value_at key es ≡ value_at key rest
  pub left : HasItems s (T.items_of (map pair_data rest))

module _ (key : List ℕ) (es : List (List ℕ × Data)) (s t : Items) (n : Node) (h : Seeking key es s) (gives : ItemsGive s (Some n) t) where
  pub seek_found : (r : Node) → ((e : List ℕ × Data) → HasData n (pair_data e) → Found (value_at key (e ∷ [])) (Some r)) → Found (value_at key es) (Some r)
  seek_found r told = subst (λ o. Found o (Some r)) (sym h.same) (by h.rest h.left) where
    here : (b : Bool) (d : Data) (rest : List (List ℕ × Data)) → Found (cond b (Some d) None) (Some r) → Found (cond b (Some d) (value_at key rest)) (Some r)
    here true d rest k = k
    here false d rest k = absurd k

    by : (rest : List (List ℕ × Data)) → HasItems s (T.items_of (map pair_data rest)) → Found (value_at key rest) (Some r)
    by [] left = absurd (gives T.no_items left)
    by (e ∷ rest) left =
        let x = gives (T.items_of (map pair_data (e ∷ rest))) left in
        here (same_text key e.0) e.1 rest (told e x.stands)

  pub seek_on : ((e : List ℕ × Data) → HasData n (pair_data e) → Found (value_at key (e ∷ [])) None) → Seeking key es t
  seek_on told = by h.rest h.same h.left where
    past : (b : Bool) (d : Data) (o : Option Data) → Found (cond b (Some d) None) None → cond b (Some d) o ≡ o
    past true d o k = absurd k
    past false d o k = refl

    by : (rest : List (List ℕ × Data)) → value_at key es ≡ value_at key rest → HasItems s (T.items_of (map pair_data rest)) → Seeking key es t
    by [] same left = absurd (gives T.no_items left)
    by (e ∷ rest) same left =
        let x = gives (T.items_of (map pair_data (e ∷ rest))) left in
        record { rest = rest; same = same ∙ past (same_text key e.0) e.1 (value_at key rest) (told e x.stands); left = x.left }

pub seek_end : (key : List ℕ) (es : List (List ℕ × Data)) (s t : Items) → Seeking key es s → ItemsGive s None t → Found (value_at key es) None
seek_end key es s t h gives = subst (λ o. Found o None) (sym h.same) (by h.rest h.left) where
  by : (rest : List (List ℕ × Data)) → HasItems s (T.items_of (map pair_data rest)) → Found (value_at key rest) None
  by [] left = tt
  by (e ∷ rest) left = absurd (gives (T.items_of (map pair_data (e ∷ rest))) left)

-- ---- of one pair

name_inside : Data → List ℕ
name_inside (T.list (T.item (T.text k) ds)) = k
name_inside d = []

value_inside : Data → Data → Data
value_inside z (T.list (T.item k (T.item v ds))) = v
value_inside z d = z

-- a pair's name and value
pub pair_of : (e : List ℕ × Data) (k : Bor (List ℕ)) (n : Node) → IsPairOf (pair_data e) (P.Entry k n) → (k.now ≡ e.0) × HasData n e.1
unfolding name_inside value_inside
pair_of e k n h = (sym (ap name_inside h.1), subst (HasData n) (sym (ap (value_inside e.1) h.1)) h.2)

-- what is no name with a value is no pair
pub no_pair_of : (e : List ℕ × Data) (pair : Pair) → IsPairOf (pair_data e) pair → (pair ≡ P.Odd) ⊎ ((pair ≡ P.Empty) ⊎ ((k : Bor (List ℕ)) × (pair ≡ P.Name k))) → ⊥
no_pair_of e pair h (inl is) = let bad : true ≡ false = subst (IsPairOf (pair_data e)) is h in cc
no_pair_of e pair h (inr (inl is)) = let bad : pair_data e ≡ T.list T.no_items = subst (IsPairOf (pair_data e)) is h in cc
no_pair_of e pair h (inr (inr named)) = let bad : true ≡ false = (subst (IsPairOf (pair_data e)) named.1 h).1 in cc

module _ (key : List ℕ) (e : List ℕ × Data) where
  pub value_there : (k : Bor (List ℕ)) (n : Node) → IsPairOf (pair_data e) (P.Entry k n) → same_text key k.now ≡ true → Found (value_at key (e ∷ [])) (Some n)
  unfolding name_inside value_inside
  value_there k n h same =
      let name : e.0 ≡ k.now = ap name_inside h.1 in
      let value : e.1 ≡ h.0 = ap (value_inside e.1) h.1 in
      let here : same_text key e.0 ≡ true = ap (same_text key) name ∙ same in
      subst (λ b. Found (cond b (Some e.1) None) (Some n)) (sym here) (subst (HasData n) (sym value) h.2)

  pub value_other : (k : Bor (List ℕ)) (n : Node) → IsPairOf (pair_data e) (P.Entry k n) → same_text key k.now ≡ false → Found (value_at key (e ∷ [])) None
  unfolding name_inside
  value_other k n h other =
      let name : e.0 ≡ k.now = ap name_inside h.1 in
      subst (λ b. Found (cond b (Some e.1) None) None) (sym (ap (same_text key) name ∙ other)) tt

  pub value_none : (pair : Pair) → IsPairOf (pair_data e) pair → (pair ≡ P.Odd) ⊎ ((pair ≡ P.Empty) ⊎ ((k : Bor (List ℕ)) × (pair ≡ P.Name k))) → Found (value_at key (e ∷ [])) None
  value_none pair h other = absurd (no_pair_of e pair h other)
