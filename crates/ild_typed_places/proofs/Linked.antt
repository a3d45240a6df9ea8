-- Each place beneath the block of a value is that of a node, whose child links lead to the blocks beneath it.
use Rattle.std.proofs.Common.{◌≡◌, ◌⊎◌, inl, inr, ℕ, zero, suc, ◌+◌, ◌^◌, nat_le, Bool, true, false, cond, List, [], ◌∷◌, ◌++◌, length, map, Option, Some, None, refl, sym, ap, ◌∙◌, subst, arith, append_assoc}
use Rattle.std.specs.Prelude.{is_some, Contains}
use Rattle.std.specs.List.{AllByRecursion, filter, range_with_len}
use Rattle.std.specs.Option.{option_map_or}
use Rattle.std.proofs.lemmas.Bool.{lt-leb}
use Rattle.ild_data.proofs.AllOf.{all_append, all_filter, contains_more}
use Rattle.ild_data.specs.ByteOrder.{in_byte_order}
use Rattle.ild_data.specs.Data.{Data}
use Rattle.ild_data.specs.Key.{same_text}
use Rattle.ild_data.specs.Spell.{spell, id_of}
use Rattle.ild_data.specs.Trie.{TrieSlot, part, slot_of, all_some, node_of, at_depth, trie}
use Rattle.ild_data.specs.declared.hamt_shape.HamtShape.{HamtShape}
use Rattle.ild_data.specs.TrieShape.{trie_levels}
use Rattle.ild_schema.specs.declared.number.Slot.{Slot}
use Rattle.ild_schema.specs.declared.def.TypeDef.{TypeDef}
use Rattle.ild_schema.specs.declared.def.TypeDef.TheVariants as D
use Rattle.ild_schema.specs.declared.def.MapForm.TheVariants as MF
use Rattle.ild_schema.specs.declared.def.Field.{Field}
use Rattle.ild_schema.specs.declared.row.Row.{Row}
use Rattle.ild_schema.specs.Slots.{form_of}
use Rattle.ild_schema.specs.Value as V
use Rattle.ild_schema.specs.Value.{Value, Values, Pairs, Optionals}
use Rattle.ild_hamt_trie.proofs.Node.{slots-node, no_node}
use Rattle.ild_hamt_trie.proofs.Slots.{all_some-cons}
use Rattle.ild_typed.specs.Hamt.{whole}
use Rattle.ild_typed.specs.Represented.{represented_pairs}
use Rattle.ild_typed.specs.Slots.{element_of, fields_of, member_of}
use Rattle.ild_typed.proofs.TrieTells.{SlotWay, nothing, few, many, slot_way}
use Rattle.ild_typed_places.specs.Places.{Places, nowhere, place, Place, joined, places_over, tops, each_place, node_place, bucket_or_node, places_beneath, at_key, map_places, places_in, places_in_values, places_in_pairs, places_in_fields}
use Rattle.ild_typed_places.specs.Links.{LinksTo, IsNodePlace, PlacesAreOfNodes}
use Rattle.ild_typed_places.proofs.Listing.{all_from}

-- ---- blocks at the top

abbrev Top : List ℕ → Places → Type 0
Top id nowhere = ⊥
Top id (place b beneath ps) = (id_of b ≡ id) ⊎ Top id ps

top_left : (id : List ℕ) (ps qs : Places) → Top id ps → Top id (joined ps qs)
top_left id nowhere qs t = absurd t
top_left id (place b beneath ps) qs (inl e) = inl e
top_left id (place b beneath ps) qs (inr t) = inr (top_left id ps qs t)

top_right : (id : List ℕ) (ps qs : Places) → Top id qs → Top id (joined ps qs)
top_right id nowhere qs t = t
top_right id (place b beneath ps) qs t = inr (top_right id ps qs t)

top_id : (id : List ℕ) (ps : Places) → Top id ps → Contains (map id_of (tops ps)) id
top_id id nowhere t = absurd t
top_id id (place b beneath ps) (inl e) = (zero, omega arith, e)
top_id id (place b beneath ps) (inr t) = contains_more (id_of b) (map id_of (tops ps)) id (top_id id ps t)

-- ---- all places are so

abbrev AllNodes : Places → Type 0
AllNodes ps = AllByRecursion IsNodePlace (each_place ps)

pub each_joined : (ps qs : Places) → each_place (joined ps qs) ≡ each_place ps ++ each_place qs
each_joined nowhere qs = refl
each_joined (place b beneath ps) qs =
    ap (λ (xs : List Place). (b, beneath) ∷ (each_place beneath ++ xs)) (each_joined ps qs) ∙ ap (λ (xs : List Place). (b, beneath) ∷ xs) (sym (append_assoc (each_place beneath) (each_place ps) (each_place qs)))

both_nodes : (ps qs : Places) → AllNodes ps → AllNodes qs → AllNodes (joined ps qs)
both_nodes ps qs a b = subst (AllByRecursion IsNodePlace) (sym (each_joined ps qs)) (all_append IsNodePlace (each_place ps) (each_place qs) a b)

over_nodes : {X : Type 0} (f : X → Places) (xs : List X) → AllByRecursion (λ x. AllNodes (f x)) xs → AllNodes (places_over f xs)
over_nodes f [] all = tt
over_nodes f (x ∷ xs) all = both_nodes (f x) (places_over f xs) all.0 (over_nodes f xs all.1)

-- ---- the links of a node

module _ (inner : List ℕ → Places) where
  link_in : (most : ℕ) (below : List (List ℕ × Data) → Option Data) (beneath : List (List ℕ × Data) → Places) (es : List (List ℕ × Data)) (z : TrieSlot) (all : Places)
      → ((id : List ℕ) → Top id (bucket_or_node (nat_le (length es) most) inner below beneath es) → Top id all) → SlotWay most below es z → LinksTo all z
  link_in most below beneath es z all sub (nothing a is) = subst (λ (y : TrieSlot). LinksTo all y) (sym is) tt
  link_in most below beneath es z all sub (few is) = subst (λ (y : TrieSlot). LinksTo all y) (sym is) tt
  link_in most below beneath es z all sub (many n long has is) =
      let stands : bucket_or_node (nat_le (length es) most) inner below beneath es ≡ place (spell n) (beneath es) nowhere
      = ap (λ b. bucket_or_node b inner below beneath es) (lt-leb (length es) most long) ∙ ap (λ o. node_place o (beneath es)) has in
      subst (λ (y : TrieSlot). LinksTo all y) (sym is) (top_id (id_of (spell n)) all (sub (id_of (spell n)) (subst (Top (id_of (spell n))) (sym stands) (inl refl))))

  links_in : (most : ℕ) (at : List ℕ → ℕ) (below : List (List ℕ × Data) → Option Data) (beneath : List (List ℕ × Data) → Places) (es : List (List ℕ × Data)) (js : List ℕ) (slots : List TrieSlot) (all : Places)
      → all_some (map (λ i. slot_of most below (part at es i)) js) ≡ Some slots
      → ((id : List ℕ) → Top id (places_over (λ i. bucket_or_node (nat_le (length (part at es i)) most) inner below beneath (part at es i)) js) → Top id all)
      → AllByRecursion (LinksTo all) slots
  links_in most at below beneath es [] slots all is sub = let none : [] ≡ slots = cc in subst (λ (ss : List TrieSlot). AllByRecursion (LinksTo all) ss) none tt
  links_in most at below beneath es (j ∷ js) slots all is sub =
      let parts = all_some-cons (slot_of most below (part at es j)) (map (λ i. slot_of most below (part at es i)) js) slots is in
      let here = bucket_or_node (nat_le (length (part at es j)) most) inner below beneath (part at es j) in
      let more = places_over (λ i. bucket_or_node (nat_le (length (part at es i)) most) inner below beneath (part at es i)) js in
      subst (λ (ss : List TrieSlot). AllByRecursion (LinksTo all) ss) (sym parts.4) (
        link_in most below beneath (part at es j) parts.0 all (λ id t. sub id (top_left id here more t)) (slot_way most below (part at es j) parts.0 parts.2),
        links_in most at below beneath es js parts.1 all parts.3 (λ id t. sub id (top_right id here more t)),
      )

  module _ (h : List ℕ → List ℕ) (p : HamtShape) where
    is_node : (left depth : ℕ) (es : List (List ℕ × Data)) (n : Data) → node_of h p left depth es ≡ Some n → IsNodePlace (spell n, places_beneath inner h p left depth es)
    unfolding places_beneath
    is_node zero depth es n is = absurd (let e : None ≡ Some n = sym (no_node h p depth es) ∙ is in cc)
    is_node (suc left) depth es n is =
        let x = slots-node h p left depth es n is in
        record {
          slots = x.0;
          is = ap spell x.2;
          links = links_in p.bucket (at_depth h p depth) (node_of h p left (depth + 1)) (places_beneath inner h p left (depth + 1)) es (range_with_len 0 (2 ^ p.width)) x.0
              (places_over (λ i. bucket_or_node (nat_le (length (part (at_depth h p depth) es i)) p.bucket) inner (node_of h p left (depth + 1)) (places_beneath inner h p left (depth + 1)) (part (at_depth h p depth) es i)) (range_with_len 0 (2 ^ p.width)))
              x.1 (λ id t. t);
        }

    placed : (o : Option Data) (ps : Places) → ((n : Data) → o ≡ Some n → IsNodePlace (spell n, ps)) → AllNodes ps → AllNodes (node_place o ps)
    placed None ps f all = all
    placed (Some n) ps f all = (f n refl, all_append IsNodePlace (each_place ps) [] all tt)

    pub nodes_beneath_are : ((k : List ℕ) → AllNodes (inner k)) → (left depth : ℕ) (es : List (List ℕ × Data)) → AllNodes (places_beneath inner h p left depth es)
    unfolding places_beneath
    nodes_beneath_are each zero depth es = over_nodes (λ e. inner e.0) es (all_from (λ e. AllNodes (inner e.0)) (λ e. each e.0) es)
    nodes_beneath_are each (suc left) depth es =
        over_nodes (λ i. bucket_or_node (nat_le (length (part (at_depth h p depth) es i)) p.bucket) inner (node_of h p left (depth + 1)) (places_beneath inner h p left (depth + 1)) (part (at_depth h p depth) es i)) (range_with_len 0 (2 ^ p.width))
        (all_from (λ i. AllNodes (bucket_or_node (nat_le (length (part (at_depth h p depth) es i)) p.bucket) inner (node_of h p left (depth + 1)) (places_beneath inner h p left (depth + 1)) (part (at_depth h p depth) es i)))
        (λ i. by (part (at_depth h p depth) es i) (nat_le (length (part (at_depth h p depth) es i)) p.bucket) (nodes_beneath_are each left (depth + 1) (part (at_depth h p depth) es i))) (range_with_len 0 (2 ^ p.width)))
      where
        by : (fs : List (List ℕ × Data)) (b : Bool) → AllNodes (places_beneath inner h p left (depth + 1) fs) → AllNodes (bucket_or_node b inner (node_of h p left (depth + 1)) (places_beneath inner h p left (depth + 1)) fs)
        by fs true all = over_nodes (λ e. inner e.0) fs (all_from (λ e. AllNodes (inner e.0)) (λ e. each e.0) fs)
        by fs false all = placed (node_of h p left (depth + 1) fs) (places_beneath inner h p left (depth + 1) fs) (λ n e. is_node left (depth + 1) fs n e) all

-- ---- values

module _ (h : List ℕ → List ℕ) (rows : List Row) where
  abbrev Each : List (List ℕ × Places) → Type 0
  Each ts = AllByRecursion (λ t. AllNodes t.1) ts

  flat : (ts : List (List ℕ × Places)) → Each ts → AllNodes (places_over (λ t. t.1) ts)
  flat ts all = over_nodes (λ t. t.1) ts all

  at_each : (ts : List (List ℕ × Places)) → Each ts → (k : List ℕ) → AllNodes (at_key ts k)
  at_each ts all k = over_nodes (λ t. t.1) (filter (λ t. same_text k t.0) ts) (all_filter (λ t. AllNodes t.1) (λ t. same_text k t.0) ts all)

  hamt : (p : HamtShape) (b : Bool) (es : List (List ℕ × Data)) (ts : List (List ℕ × Places)) → Each ts
      → AllNodes (cond b (places_beneath (at_key ts) h p (trie_levels p) 0 (in_byte_order es)) (places_over (λ t. t.1) ts))
  hamt p true es ts all = nodes_beneath_are (at_key ts) h p (at_each ts all) (trie_levels p) 0 (in_byte_order es)
  hamt p false es ts all = flat ts all

  of_map : (d : Option TypeDef) (o : Option (List (List ℕ × Data))) (ts : List (List ℕ × Places)) → Each ts → AllNodes (map_places h d o ts)
  of_map (Some (D.Map key key_at value at (MF.Hamt p))) (Some es) ts all = hamt p (is_some (trie h p es 0)) es ts all
  of_map (Some (D.Map key key_at value at (MF.Hamt p))) None ts all = flat ts all
  of_map (Some (D.Map key key_at value at MF.Map)) o ts all = flat ts all
  of_map (Some (D.Map key key_at value at MF.ListPairs)) o ts all = flat ts all
  of_map (Some (D.Map key key_at value at (MF.StringPairs i e))) o ts all = flat ts all
  of_map d o ts all = flat ts all

  if_some : (o : Option Slot) (ps : Slot → Places) → ((u : Slot) → AllNodes (ps u)) → AllNodes (option_map_or ps o nowhere)
  if_some None ps f = tt
  if_some (Some u) ps f = f u

  mutual
    pub of_value : (s : Slot) (v : Value) → AllNodes (places_in h rows s v)
    of_value s (V.list vs) = if_some (element_of (form_of rows s)) (λ u. places_in_values h rows u vs) (λ u. of_values u vs)
    of_value s (V.map ps) =
        if_some (element_of (form_of rows s)) (λ u. map_places h (form_of rows s) (represented_pairs (whole h) rows u ps) (places_in_pairs h rows u ps))
        (λ u. of_map (form_of rows s) (represented_pairs (whole h) rows u ps) (places_in_pairs h rows u ps) (of_pairs u ps))
    of_value s (V.struct os) = of_fields (fields_of (form_of rows s)) os
    of_value s (V.union n v) = if_some (member_of (form_of rows s) n) (λ u. places_in h rows u v) (λ u. of_value u v)
    of_value s v = tt

    of_values : (u : Slot) (vs : Values) → AllNodes (places_in_values h rows u vs)
    of_values u V.no_values = tt
    of_values u (V.value v vs) = both_nodes (places_in h rows u v) (places_in_values h rows u vs) (of_value u v) (of_values u vs)

    of_pairs : (u : Slot) (ps : Pairs) → Each (places_in_pairs h rows u ps)
    of_pairs u V.no_pairs = tt
    of_pairs u (V.pair k v ps) = (of_value u v, of_pairs u ps)

    of_fields : (fs : List Field) (os : Optionals) → AllNodes (places_in_fields h rows fs os)
    of_fields fs V.no_optionals = tt
    of_fields [] (V.absent os) = tt
    of_fields [] (V.present v os) = tt
    of_fields (f ∷ fs) (V.absent os) = of_fields fs os
    of_fields (f ∷ fs) (V.present v os) = both_nodes (places_in h rows f.slot v) (places_in_fields h rows fs os) (of_value f.slot v) (of_fields fs os)

pub linked : PlacesAreOfNodes
linked h rows s v = of_value h rows s v
