-- What is looked up for fields, entry by entry.
use Rattle.std.proofs.Common.{◌≡◌, ℕ, zero, suc, ◌+◌, List, [], ◌∷◌, ◌++◌, append_assoc, append-nil, length, Bool, true, false, cond, is_none, Option, Some, None, refl, sym, ap, ◌∙◌, subst, arith}
use Rattle.std.specs.Borrow.{Bor}
use Rattle.std.specs.Cmp.Lexicographic.{same_text as text_same}
use Rattle.std.specs.List.{AllByRecursion}
use Rattle.std.specs.Option.{option_or}
use Rattle.std.specs.Prelude.{◌<◌, ◌≤◌, get_or, replicate, slice_set}
use Rattle.ild_cbor.specs.Nodes.{HasData}
use Rattle.ild_cbor.specs.Steps.{HasItems, ItemsGive}
use Rattle.ild_cbor.specs.declared.items.Items.{Items}
use Rattle.ild_cbor.specs.declared.node.Node.{Node}
use Rattle.ild_data.specs.Data as T
use Rattle.ild_data.specs.Data.{Data}
use Rattle.ild_data.specs.Key.{same_text, value_at}
use Rattle.ild_layer_fields.proofs.Pairing.{item_end, item_step}
use Rattle.ild_layer_piece.proofs.Walking.{first_left, none_left}
use Rattle.ild_layer_piece.specs.Entries.{EntriesGive, Found, HasLeft}
use Rattle.ild_layer_piece.specs.declared.walk.MapEntries.{MapEntries}
use Rattle.ild_open_held.specs.Splits.{field_parts}
use Rattle.ild_schema.specs.Clear.{AreNamesApart}
use Rattle.ild_schema.specs.Marks.{field_text}
use Rattle.ild_schema.specs.declared.def.Field.{Field}
use Rattle.ild_typed.specs.Named.{entry_of, items_or, pair_entries}
use Rattle.ild_typed.specs.StructWhy.{is_name_of, place_of}
use Rattle.ild_beneath.specs.Parts.{named_part, named_parts}
use Rattle.ild_beneath_read.specs.inside.Fields.{AllFound, first_kept, is_free, looked_up, noted}
use Rattle.ild_beneath_read.specs.inside.Pairs.{IsNamed}

-- ---- places

pub set_noted : (i : ℕ) (n : Node) (ns : List (Option Node)) → is_free ns i ≡ true → slice_set ns i (Some n) ≡ noted i n ns
set_noted i n [] free = refl
set_noted zero n (None ∷ ns) free = refl
set_noted zero n (Some m ∷ ns) free = absurd (let e : false ≡ true = free in cc)
set_noted (suc i) n (o ∷ ns) free = ap (λ ms. o ∷ ms) (set_noted i n ns free)

pub kept_noted : (i : ℕ) (n : Node) (ns : List (Option Node)) → is_free ns i ≡ false → ns ≡ noted i n ns
kept_noted i n [] taken = refl
kept_noted zero n (None ∷ ns) taken = absurd (let e : true ≡ false = taken in cc)
kept_noted zero n (Some m ∷ ns) taken = refl
kept_noted (suc i) n (o ∷ ns) taken = ap (λ ms. o ∷ ms) (kept_noted i n ns taken)

pub free_there : (ns : List (Option Node)) (i : ℕ) (o : Option Node) → i < length ns → o ≡ get_or ns i o → is_none o ≡ is_free ns i
free_there [] i o less e = absurd (omega arith)
free_there (n ∷ ns) zero o less e = ap is_none e
free_there (n ∷ ns) (suc i) o less e = free_there ns i o (omega (arith, less)) e

pub free_past : (ns : List (Option Node)) (i : ℕ) → length ns ≤ i → false ≡ is_free ns i
free_past [] i past = refl
free_past (n ∷ ns) zero past = absurd (omega arith)
free_past (n ∷ ns) (suc i) past = free_past ns i (omega (arith, past))

pub free_within : (ns : List (Option Node)) (i : ℕ) → is_free ns i ≡ true → i < length ns
free_within [] i free = absurd (let e : false ≡ true = free in cc)
free_within (n ∷ ns) zero free = omega arith
free_within (n ∷ ns) (suc i) free = let less = free_within ns i free in omega (arith, less)

pub replicate_more : {A : Type 0} (x : A) (n : ℕ) → replicate (n + 1) x ≡ replicate n x ++ x ∷ []
replicate_more x zero = refl
replicate_more x (suc n) = let same : suc n + 1 ≡ suc (n + 1) = omega arith in ap (λ k. replicate k x) same ∙ ap (λ xs. x ∷ xs) (replicate_more x n)

pub nothing_yet : (fs : List Field) → AllFound (looked_up fs []) (replicate (length fs) None)
nothing_yet [] = tt
nothing_yet (f ∷ fs) = (tt, nothing_yet fs)

-- ---- one entry more

value_more : (q k : List ℕ) (d : Data) (es : List (List ℕ × Data)) → value_at q (es ++ (k, d) ∷ []) ≡ option_or (value_at q es) (cond (same_text q k) (Some d) None)
value_more q k d [] = refl
value_more q k d (e ∷ es) = by (same_text q e.0) (value_more q k d es) where
  by : (b : Bool) → value_at q (es ++ (k, d) ∷ []) ≡ option_or (value_at q es) (cond (same_text q k) (Some d) None)
      → cond b (Some e.1) (value_at q (es ++ (k, d) ∷ [])) ≡ option_or (cond b (Some e.1) (value_at q es)) (cond (same_text q k) (Some d) None)
  by true rest = refl
  by false rest = rest

module _ (es : List (List ℕ × Data)) (k : List ℕ) (d : Data) where
  abbrev more : List (List ℕ × Data)
  more = es ++ (k, d) ∷ []

  or_none : (o : Option Data) → option_or o None ≡ o
  or_none None = refl
  or_none (Some x) = refl

  named_other : (q : List ℕ) (m : Option Node) → same_text q k ≡ false → Found (value_at q es) m → Found (value_at q more) m
  named_other q m other h =
      subst (λ o. Found o m) (sym (value_more q k d es ∙ ap (λ b. option_or (value_at q es) (cond b (Some d) None)) other ∙ or_none (value_at q es))) h

  kept : (o : Option Data) (m : Option Node) (n : Node) → Found o m → HasData n d → Found (option_or o (Some d)) (first_kept m n)
  kept None None n h stands = stands
  kept None (Some m) n h stands = absurd h
  kept (Some x) None n h stands = absurd h
  kept (Some x) (Some m) n h stands = h

  named_here : (q : List ℕ) (m : Option Node) (n : Node) → same_text q k ≡ true → Found (value_at q es) m → HasData n d → Found (value_at q more) (first_kept m n)
  named_here q m n here h stands =
      subst (λ o. Found o (first_kept m n)) (sym (value_more q k d es ∙ ap (λ b. option_or (value_at q es) (cond b (Some d) None)) here)) (kept (value_at q es) m n h stands)

  others_kept : (fs : List Field) (ns : List (Option Node)) → AllByRecursion (λ g. same_text (field_text g) k ≡ false) fs → AllFound (looked_up fs es) ns → AllFound (looked_up fs more) ns
  others_kept [] [] all h = tt
  others_kept [] (n ∷ ns) all h = absurd h
  others_kept (f ∷ fs) [] all h = absurd h
  others_kept (f ∷ fs) (n ∷ ns) all h = (named_other (field_text f) n all.0 h.0, others_kept fs ns all.1 h.1)

  other_name : (f g : Field) → (field_text f ≡ field_text g → ⊥) → same_text (field_text f) k ≡ true → same_text (field_text g) k ≡ false
  other_name f g apart is = by (same_text (field_text g) k) refl where
    by : (b : Bool) → same_text (field_text g) k ≡ b → b ≡ false
    by true same = absurd (apart (text_same (field_text f) k (sym is) ∙ sym (text_same (field_text g) k (sym same))))
    by false same = refl

  other_names : (f : Field) → same_text (field_text f) k ≡ true → (gs : List Field) → AllByRecursion (λ g. field_text f ≡ field_text g → ⊥) gs → AllByRecursion (λ g. same_text (field_text g) k ≡ false) gs
  other_names f is [] all = tt
  other_names f is (g ∷ gs) all = (other_name f g all.0 is, other_names f is gs all.1)

  looked_more : (fs : List Field) (n : Node) (ns : List (Option Node)) → AreNamesApart fs → HasData n d → AllFound (looked_up fs es) ns → AllFound (looked_up fs more) (noted (place_of fs k) n ns)
  looked_more [] n [] apart stands h = tt
  looked_more [] n (m ∷ ns) apart stands h = absurd h
  looked_more (f ∷ fs) n [] apart stands h = absurd h
  looked_more (f ∷ fs) n (m ∷ ns) apart stands h = by (is_name_of k f) refl (looked_more fs n ns apart.1 stands h.1) where
    by : (b : Bool) → is_name_of k f ≡ b → AllFound (looked_up fs more) (noted (place_of fs k) n ns) → AllFound (looked_up (f ∷ fs) more) (noted (cond b zero (suc (place_of fs k))) n (m ∷ ns))
    by true is rest = (named_here (field_text f) m n is h.0 stands, others_kept fs ns (other_names f is fs apart.0) h.1)
    by false is rest = (named_other (field_text f) m is h.0, rest)

-- ---- a pass over the entries of a map

pub record Looking (fs : List Field) (es : List (List ℕ × Data)) (s : MapEntries) (ns : List (Option Node)) : Type 0 where
  pub done : List (List ℕ × Data)
  pub rest : List (List ℕ × Data)
  pub is : es ≡ done ++ rest
  pub left : HasLeft s rest
  pub found : AllFound (looked_up fs done) ns

pub look_first : (fs : List Field) (es : List (List ℕ × Data)) (s : MapEntries) (ns : List (Option Node)) → AllFound (looked_up fs []) ns → HasLeft s es → Looking fs es s ns
look_first fs es s ns none left = record { done = []; rest = es; is = refl; left = left; found = none }

pub look_on : (fs : List Field) (es : List (List ℕ × Data)) (s t : MapEntries) (x : Bor (List ℕ) × Node) (place : ℕ) (ns ms : List (Option Node)) → AreNamesApart fs → EntriesGive s (Some x) t → place ≡ place_of fs x.0.now
    → ms ≡ noted place x.1 ns → Looking fs es s ns → Looking fs es t ms
look_on fs es s t x place ns ms apart gives at new h =
    let y = first_left s t x h.rest gives h.left in
    let one : List (List ℕ × Data) = (x.0.now, y.value) ∷ [] in
    record {
      done = h.done ++ one;
      rest = y.rest;
      is = h.is ∙ ap (λ gs. h.done ++ gs) y.is ∙ sym (append_assoc h.done one y.rest);
      left = y.left;
      found = subst (AllFound (looked_up fs (h.done ++ one))) (sym (new ∙ ap (λ i. noted i x.1 ns) at)) (looked_more h.done x.0.now y.value fs x.1 ns apart y.stands h.found);
    }

pub look_over : (fs : List Field) (es : List (List ℕ × Data)) (s t : MapEntries) (ns : List (Option Node)) → EntriesGive s None t → Looking fs es s ns → AllFound (looked_up fs es) ns
look_over fs es s t ns gives h =
    let all : es ≡ h.done = h.is ∙ ap (λ gs. h.done ++ gs) (none_left s t h.rest gives h.left) ∙ append-nil h.done in
    subst (λ gs. AllFound (looked_up fs gs) ns) (sym all) h.found

-- ---- a pass over the pairs of a list

pub record Searching (fs : List Field) (ds : T.Items) (s : Items) (ns : List (Option Node)) : Type 0 where
  pub done : List (List ℕ × Data)
  pub rest : T.Items
  pub is : pair_entries (T.items_list ds) ≡ done ++ pair_entries (T.items_list rest)
  pub left : HasItems s rest
  pub found : AllFound (looked_up fs done) ns

pub search_first : (fs : List Field) (ds : T.Items) (s : Items) (ns : List (Option Node)) → AllFound (looked_up fs []) ns → HasItems s ds → Searching fs ds s ns
search_first fs ds s ns none left = record { done = []; rest = ds; is = refl; left = left; found = none }

module _ (fs : List Field) (ds : T.Items) (s t : Items) (n : Node) (ns : List (Option Node)) (gives : ItemsGive s (Some n) t) (h : Searching fs ds s ns) where
  pub search_past : ((d : Data) → HasData n d → IsNamed (entry_of (items_or d)) None) → Searching fs ds t ns
  search_past none =
      let x = item_step s h.rest n t gives h.left in
      let empty : pair_entries (T.items_list h.rest) ≡ pair_entries (T.items_list x.rest)
      = ap (λ es. pair_entries (T.items_list es)) x.is ∙ ap (λ gs. gs ++ pair_entries (T.items_list x.rest)) (by (entry_of (items_or x.one)) (none x.one x.stands)) in
      record { done = h.done; rest = x.rest; is = h.is ∙ ap (λ gs. h.done ++ gs) empty; left = x.left; found = h.found }
    where
      by : (es : List (List ℕ × Data)) → IsNamed es None → es ≡ []
      by [] none = refl
      by (e ∷ es) none = absurd none

  pub search_on : (k : Bor (List ℕ)) (v : Node) (place : ℕ) (ms : List (Option Node)) → AreNamesApart fs → ((d : Data) → HasData n d → IsNamed (entry_of (items_or d)) (Some (k, v))) → place ≡ place_of fs k.now
      → ms ≡ noted place v ns → Searching fs ds t ms
  search_on k v place ms apart named at new =
      let x = item_step s h.rest n t gives h.left in
      let y = by (entry_of (items_or x.one)) (named x.one x.stands) in
      let one : List (List ℕ × Data) = (k.now, y.0) ∷ [] in
      let here : pair_entries (T.items_list h.rest) ≡ one ++ pair_entries (T.items_list x.rest)
      = ap (λ es. pair_entries (T.items_list es)) x.is ∙ ap (λ gs. gs ++ pair_entries (T.items_list x.rest)) y.1 in
      record {
        done = h.done ++ one;
        rest = x.rest;
        is = h.is ∙ ap (λ gs. h.done ++ gs) here ∙ sym (append_assoc h.done one (pair_entries (T.items_list x.rest)));
        left = x.left;
        found = subst (AllFound (looked_up fs (h.done ++ one))) (sym (new ∙ ap (λ i. noted i v ns) at)) (looked_more h.done k.now y.0 fs v ns apart y.2 h.found);
      }
    where
      by : (es : List (List ℕ × Data)) → IsNamed es (Some (k, v)) → (d : Data) × (es ≡ (k.now, d) ∷ []) × HasData v d
      by [] named = absurd named
      by (e ∷ es) named = (e.1, ap (λ gs. e ∷ gs) named.0 ∙ ap (λ (q : List ℕ). (q, e.1) ∷ []) (sym named.1), named.2)

pub search_over : (fs : List Field) (ds : T.Items) (s t : Items) (ns : List (Option Node)) → ItemsGive s None t → Searching fs ds s ns → AllFound (looked_up fs (pair_entries (T.items_list ds))) ns
search_over fs ds s t ns gives h =
    let all : pair_entries (T.items_list ds) ≡ h.done = h.is ∙ ap (λ es. h.done ++ pair_entries (T.items_list es)) (item_end s h.rest t gives h.left) ∙ append-nil h.done in
    subst (λ gs. AllFound (looked_up fs gs) ns) (sym all) h.found

-- ---- the parts

pub named_is : (fs : List Field) (es : List (List ℕ × Data)) → named_parts fs es ≡ field_parts fs (looked_up fs es)
named_is [] es = refl
named_is (f ∷ fs) es = by (value_at (field_text f) es) (named_is fs es) where
  by : (o : Option Data) → named_parts fs es ≡ field_parts fs (looked_up fs es) → named_part f o ++ named_parts fs es ≡ field_parts (f ∷ fs) (o ∷ looked_up fs es)
  by None rest = rest
  by (Some d) rest = ap (λ ps. (f.slot, d) ∷ ps) rest
