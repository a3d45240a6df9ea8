-- The places of a HAMT of which the entry of one key is another, or has come or gone: off the key's way they are as they were.
use Rattle.std.proofs.Common.{◌≡◌, ◌≢◌, ⊎_elim, ℕ, zero, suc, ◌+◌, ◌^◌, ◌<◌, ◌≤◌, ◌==◌, nat_le, Bool, true, false, cond, List, [], ◌∷◌, ◌++◌, length, refl, sym, ap, ◌∙◌, subst, arith}
use Rattle.std.specs.List.{AllByRecursion, range_with_len}
use Rattle.std.proofs.lemmas.Bool.{lt-leb, le-leb, cases_eq, cases_lt, eqb-true}
use Rattle.ild_data.proofs.AllOf.{all_split, all_filter}
use Rattle.ild_data.specs.Data.{Data}
use Rattle.ild_data.specs.Spell.{spell}
use Rattle.ild_data.specs.declared.hamt_shape.HamtShape.{HamtShape}
use Rattle.ild_data.specs.Trie.{part, node_of, at_depth}
use Rattle.ild_data.specs.TrieBlocks.{none_or, block_of}
use Rattle.ild_hamt_trie.specs.Way.{way}
use Rattle.ild_hamt_trie.proofs.Fold.{length-part}
use Rattle.ild_hamt_trie.proofs.Way.{way_is}
use Rattle.ild_typed.proofs.Rooms.{all_more}
use Rattle.ild_typed_places.specs.Places.{Place, Places, joined, places_over, node_place, bucket_or_node, places_beneath}
use Rattle.ild_typed_places.proofs.Listing.{all_from}
use Rattle.ild_hamt_climb.specs.Rewriting.{DiffersAt}
use Rattle.ild_hamt_climb.proofs.Differing.{part-differs, part-others}
use Rattle.ild_path_passed.proofs.Joined.{Each, over_each, each_over, of_node, to_node}

module _ (Q : Place → Type 0) (h : List ℕ → List ℕ) (p : HamtShape) where
  abbrev Part : ℕ → List (List ℕ × Data) → ℕ → List (List ℕ × Data)
  Part depth es i = part (at_depth h p depth) es i

  abbrev On : List ℕ → ℕ → List (List ℕ × Data) → List (List ℕ × Data)
  On k depth es = part (at_depth h p depth) es (at_depth h p depth k)

  -- what stands beneath a slot of these entries
  abbrev Under : (List ℕ → Places) → ℕ → ℕ → List (List ℕ × Data) → Places
  Under inner left depth gs = bucket_or_node (nat_le (length gs) p.bucket) inner (node_of h p left (depth + 1)) (places_beneath inner h p left (depth + 1)) gs

  under_few : (inner : List ℕ → Places) (left depth : ℕ) (gs : List (List ℕ × Data)) → length gs ≤ p.bucket → Under inner left depth gs ≡ places_over (λ e. inner e.0) gs
  under_few inner left depth gs few = ap (λ b. bucket_or_node b inner (node_of h p left (depth + 1)) (places_beneath inner h p left (depth + 1)) gs) (le-leb (length gs) p.bucket few)

  under_many : (inner : List ℕ → Places) (left depth : ℕ) (gs : List (List ℕ × Data)) → p.bucket < length gs
      → Under inner left depth gs ≡ node_place (node_of h p left (depth + 1) gs) (places_beneath inner h p left (depth + 1) gs)
  under_many inner left depth gs lots = ap (λ b. bucket_or_node b inner (node_of h p left (depth + 1)) (places_beneath inner h p left (depth + 1)) gs) (lt-leb (length gs) p.bucket lots)

  -- ---- where all places in the values are so

  module _ (inner : List ℕ → Places) (each : (q : List ℕ) → Each Q (inner q)) where
    in_bucket : (gs : List (List ℕ × Data)) → Each Q (places_over (λ e. inner e.0) gs)
    in_bucket gs = over_each Q (λ e. inner e.0) gs (all_from (λ e. Each Q (inner e.0)) (λ e. each e.0) gs)

    -- few entries have no node
    few_places : (left depth : ℕ) (es : List (List ℕ × Data)) → length es ≤ p.bucket → Each Q (places_beneath inner h p left depth es)
    unfolding places_beneath
    few_places zero depth es few = in_bucket es
    few_places (suc left) depth es few =
        over_each Q (λ i. Under inner left depth (Part depth es i)) (range_with_len 0 (2 ^ p.width))
        (all_from (λ i. Each Q (Under inner left depth (Part depth es i)))
        (λ i.
        let less = length-part (at_depth h p depth) es i in
        subst (Each Q) (sym (under_few inner left depth (Part depth es i) (omega (arith, less, few)))) (in_bucket (Part depth es i))) (range_with_len 0 (2 ^ p.width)))

    beneath_slot : (left depth : ℕ) (gs : List (List ℕ × Data)) → Each Q (Under inner left depth gs) → Each Q (places_beneath inner h p left (depth + 1) gs)
    beneath_slot left depth gs all =
        ⊎_elim (λ lots. of_node Q (node_of h p left (depth + 1) gs) (places_beneath inner h p left (depth + 1) gs) (subst (Each Q) (under_many inner left depth gs lots) all))
        (λ few. few_places left (depth + 1) gs few) (cases_lt p.bucket (length gs))

  -- ---- where the places in the values of the keys are the same

  module _ (f g : List ℕ → Places) where
    abbrev Alike : List (List ℕ × Data) → Type 0
    Alike es = AllByRecursion (λ e. f e.0 ≡ g e.0) es

    over_alike : {X : Type 0} (a b : X → Places) (xs : List X) → AllByRecursion (λ x. a x ≡ b x) xs → places_over a xs ≡ places_over b xs
    over_alike a b [] same = refl
    over_alike a b (x ∷ xs) same = λ i. joined (same.0 i) (over_alike a b xs same.1 i)

    slot_alike : (left depth : ℕ) (gs : List (List ℕ × Data)) (b : Bool) → Alike gs → places_beneath f h p left (depth + 1) gs ≡ places_beneath g h p left (depth + 1) gs
        → bucket_or_node b f (node_of h p left (depth + 1)) (places_beneath f h p left (depth + 1)) gs ≡ bucket_or_node b g (node_of h p left (depth + 1)) (places_beneath g h p left (depth + 1)) gs
    slot_alike left depth gs true same rest = over_alike (λ e. f e.0) (λ e. g e.0) gs same
    slot_alike left depth gs false same rest = ap (node_place (node_of h p left (depth + 1) gs)) rest

    beneath_alike : (left depth : ℕ) (es : List (List ℕ × Data)) → Alike es → places_beneath f h p left depth es ≡ places_beneath g h p left depth es
    unfolding places_beneath
    beneath_alike zero depth es same = over_alike (λ e. f e.0) (λ e. g e.0) es same
    beneath_alike (suc left) depth es same =
        over_alike (λ i. Under f left depth (Part depth es i)) (λ i. Under g left depth (Part depth es i)) (range_with_len 0 (2 ^ p.width))
        (all_from (λ i. Under f left depth (Part depth es i) ≡ Under g left depth (Part depth es i))
        (λ i.
        let mine : Alike (Part depth es i) = all_filter (λ e. f e.0 ≡ g e.0) (λ e. at_depth h p depth e.0 == i) es same in
        slot_alike left depth (Part depth es i) (nat_le (length (Part depth es i)) p.bucket) mine (beneath_alike left (depth + 1) (Part depth es i) mine)) (range_with_len 0 (2 ^ p.width)))

  -- ---- old and new entries that differ at a key, where the nodes on its way are given

  module _ (old new : List ℕ → Places) (each_old : (q : List ℕ) → Each Q (old q)) (each_new : (q : List ℕ) → Each Q (new q)) (k : List ℕ) (others : (q : List ℕ) → q ≢ k → new q ≡ old q)
      (Given : List ℕ → Type 0) (gives : (b : List ℕ) (ps : Places) → Given b → Q (b, ps)) where
    apart_alike : (at : List ℕ → ℕ) (i : ℕ) (es : List (List ℕ × Data)) → at k ≢ i → Alike new old (part at es i)
    apart_alike at i [] apart = tt
    apart_alike at i (e ∷ es) apart = by (at e.0 == i) refl (apart_alike at i es apart) where
      by : (b : Bool) → (at e.0 == i) ≡ b → Alike new old (part at es i) → Alike new old (cond b (e ∷ part at es i) (part at es i))
      by true is rest = (others e.0 (λ same. apart (ap at (sym same) ∙ eqb-true (at e.0) i is)), rest)
      by false is rest = rest

    off_way : (left depth i : ℕ) (es fs : List (List ℕ × Data)) → DiffersAt k es fs → at_depth h p depth k ≢ i → Each Q (Under old left depth (Part depth es i)) → Each Q (Under new left depth (Part depth fs i))
    off_way left depth i es fs d apart all =
        let gs : List (List ℕ × Data) = Part depth es i in
        let alike = apart_alike (at_depth h p depth) i es apart in
        subst (λ xs. Each Q (Under new left depth xs)) (sym (part-others (at_depth h p depth) k i es fs d apart))
        (subst (Each Q) (sym (slot_alike new old left depth gs (nat_le (length gs) p.bucket) alike (beneath_alike new old left (depth + 1) gs alike))) all)

    way_many : (left depth : ℕ) (fs : List (List ℕ × Data)) → p.bucket < length (On k depth fs)
        → way h p k (suc left) depth fs ≡ block_of (node_of h p left (depth + 1) (On k depth fs)) ++ way h p k left (depth + 1) (On k depth fs)
    way_many left depth fs lots =
        way_is h p k left depth fs
        ∙ ap (λ b. none_or b (λ gs. block_of (node_of h p left (depth + 1) gs) ++ way h p k left (depth + 1) gs) (On k depth fs)) (lt-leb (length (On k depth fs)) p.bucket lots)

    on_way : (left depth : ℕ) (fs : List (List ℕ × Data)) → AllByRecursion Given (way h p k (suc left) depth fs)
        → (AllByRecursion Given (way h p k left (depth + 1) (On k depth fs)) → Each Q (places_beneath new h p left (depth + 1) (On k depth fs))) → Each Q (Under new left depth (On k depth fs))
    on_way left depth fs given rest =
        let gs : List (List ℕ × Data) = On k depth fs in
        ⊎_elim
        (λ lots.
        let both = all_split Given (block_of (node_of h p left (depth + 1) gs)) (way h p k left (depth + 1) gs) (subst (AllByRecursion Given) (way_many left depth fs lots) given) in
        subst (Each Q) (sym (under_many new left depth gs lots))
        (to_node Q (node_of h p left (depth + 1) gs) (places_beneath new h p left (depth + 1) gs)
        (λ n is. gives (spell n) (places_beneath new h p left (depth + 1) gs) (subst (λ o. AllByRecursion Given (block_of o)) is both.0).0) (rest both.1)))
        (λ few. subst (Each Q) (sym (under_few new left depth gs few)) (in_bucket new each_new gs))
        (cases_lt p.bucket (length gs))

    pub passes : (left depth : ℕ) (es fs : List (List ℕ × Data)) → DiffersAt k es fs → Each Q (places_beneath old h p left depth es) → AllByRecursion Given (way h p k left depth fs)
        → Each Q (places_beneath new h p left depth fs)
    unfolding places_beneath
    passes zero depth es fs d all given = in_bucket new each_new fs
    passes (suc left) depth es fs d all given =
        let js : List ℕ = range_with_len 0 (2 ^ p.width) in
        over_each Q (λ i. Under new left depth (Part depth fs i)) js
        (all_more (λ i. Each Q (Under old left depth (Part depth es i))) (λ i. Each Q (Under new left depth (Part depth fs i)))
        (λ i mine.
        ⊎_elim
        (λ same.
        subst (λ j. Each Q (Under new left depth (Part depth fs j))) same
        (on_way left depth fs given
        (passes left (depth + 1) (On k depth es) (On k depth fs) (part-differs (at_depth h p depth) k (at_depth h p depth k) es fs d)
        (beneath_slot old each_old left depth (On k depth es) (subst (λ j. Each Q (Under old left depth (Part depth es j))) (sym same) mine)))))
        (λ apart. off_way left depth i es fs d apart mine)
        (cases_eq (at_depth h p depth k) i))
        js (each_over Q (λ i. Under old left depth (Part depth es i)) js all))
