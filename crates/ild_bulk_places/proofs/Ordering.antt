-- The plan of a HAMT follows its places.
use Rattle.std.proofs.Common.{◌≡◌, ℕ, zero, suc, ◌+◌, ◌^◌, ◌==◌, ◌<◌, nat_le, Bool, true, false, List, [], ◌∷◌, ◌++◌, length, flat_map, Option, Some, None, refl, sym, ap, subst, arith, append_assoc, append-nil}
use Rattle.std.specs.Prelude.{Contains, slice_index_or}
use Rattle.std.specs.List.{AllByRecursion, range_with_len}
use Rattle.ild_bulk.specs.Planned.{planned, slot_plan}
use Rattle.ild_data.proofs.AllOf.{contains_more, all_append, all_filter}
use Rattle.ild_data.specs.Among.{AreAmong}
use Rattle.ild_data.specs.Data.{Data}
use Rattle.ild_data.specs.Spell.{spell}
use Rattle.ild_data.specs.Trie.{part, node_of, at_depth}
use Rattle.ild_data.specs.TrieBlocks.{block_of, none_or}
use Rattle.ild_data.specs.declared.hamt_shape.HamtShape.{HamtShape}
use Rattle.ild_typed.proofs.Rooms.{all_more}
use Rattle.ild_typed_places.specs.Places.{Places, nowhere, place, Place, joined, places_over, tops, each_place, node_place, bucket_or_node, places_beneath}
use Rattle.ild_typed_places.proofs.Linked.{each_joined}
use Rattle.ild_bulk_places.specs.Following.{FollowsIn, PlansFollowPlaces}

-- ---- members of lists

pub contains_right : {X : Type 0} (xs ys : List X) (x : X) → Contains ys x → Contains (xs ++ ys) x
contains_right [] ys x here = here
contains_right (z ∷ xs) ys x here = contains_more z (xs ++ ys) x (contains_right xs ys x here)

pub contains_left : {X : Type 0} (xs ys : List X) (x : X) → Contains xs x → Contains (xs ++ ys) x
contains_left [] ys x here = let none = here.1 in absurd (omega (arith, none))
contains_left (z ∷ xs) ys x here = by (λ more. contains_left xs ys x more) here.0 here.1 here.2 where
  by : (Contains xs x → Contains (xs ++ ys) x) → (k : ℕ) → k < length (z ∷ xs) → slice_index_or (z ∷ xs) k x ≡ x → Contains (z ∷ (xs ++ ys)) x
  by later zero lt is = (zero, omega arith, is)
  by later (suc k) lt is = contains_more z (xs ++ ys) x (later (k, omega (arith, lt), is))

are_more : (bs before after : List (List ℕ)) → AreAmong bs before → AreAmong bs (before ++ after)
are_more bs before after all = all_more (Contains before) (Contains (before ++ after)) (λ b is. contains_left before after b is) bs all

-- ---- places among others

abbrev pub Lies : Places → Places → Type 0
Lies ps home = (q : Place) → Contains (each_place ps) q → Contains (each_place home) q

lies_left : (ps qs home : Places) → Lies (joined ps qs) home → Lies ps home
lies_left ps qs home lies q here = lies q (subst (λ (xs : List Place). Contains xs q) (sym (each_joined ps qs)) (contains_left (each_place ps) (each_place qs) q here))

lies_right : (ps qs home : Places) → Lies (joined ps qs) home → Lies qs home
lies_right ps qs home lies q here = lies q (subst (λ (xs : List Place). Contains xs q) (sym (each_joined ps qs)) (contains_right (each_place ps) (each_place qs) q here))

tops_joined : (ps qs : Places) → tops (joined ps qs) ≡ tops ps ++ tops qs
tops_joined nowhere qs = refl
tops_joined (place b beneath ps) qs = ap (λ (bs : List (List ℕ)). b ∷ bs) (tops_joined ps qs)

both_tops : (bs : List (List ℕ)) (ps qs : Places) → AreAmong (tops ps) bs → AreAmong (tops qs) bs → AreAmong (tops (joined ps qs)) bs
both_tops bs ps qs a b = subst (λ (ts : List (List ℕ)). AreAmong ts bs) (sym (tops_joined ps qs)) (all_append (Contains bs) (tops ps) (tops qs) a b)

over_tops : {X : Type 0} (bs : List (List ℕ)) (f : X → Places) (xs : List X) → AllByRecursion (λ x. AreAmong (tops (f x)) bs) xs → AreAmong (tops (places_over f xs)) bs
over_tops bs f [] all = tt
over_tops bs f (x ∷ xs) all = both_tops bs (f x) (places_over f xs) all.0 (over_tops bs f xs all.1)

-- ---- blocks behind their children

follows_both : (home : Places) (before xs ys : List (List ℕ)) → FollowsIn home before xs → FollowsIn home (before ++ xs) ys → FollowsIn home before (xs ++ ys)
follows_both home before [] ys first second = subst (λ (bs : List (List ℕ)). FollowsIn home bs ys) (append-nil before) second
follows_both home before (x ∷ xs) ys first second =
    (first.0, follows_both home (before ++ x ∷ []) xs ys first.1 (subst (λ (bs : List (List ℕ)). FollowsIn home bs ys) (sym (append_assoc before (x ∷ []) xs)) second))

module _ (inner : List ℕ → Places) (home : Places) where
  -- what stands in the values of entries stands before
  abbrev pub Ready : List (List ℕ) → List (List ℕ × Data) → Type 0
  Ready before es = AllByRecursion (λ e. AreAmong (tops (inner e.0)) before) es

  ready_more : (before after : List (List ℕ)) (es : List (List ℕ × Data)) → Ready before es → Ready (before ++ after) es
  ready_more before after es all = all_more (λ e. AreAmong (tops (inner e.0)) before) (λ e. AreAmong (tops (inner e.0)) (before ++ after)) (λ e all. are_more (tops (inner e.0)) before after all) es all

  -- what planning the entries of a node gives: their blocks follow, and the tops are among them
  pub record Follow (before bs : List (List ℕ)) (qs : Places) : Type 0 where
    pub follows : Lies qs home → FollowsIn home before bs
    pub there : AreAmong (tops qs) (before ++ bs)

  module _ (below : List (List ℕ × Data) → Option Data) (plan : List (List ℕ × Data) → List (List ℕ)) (ps : List (List ℕ × Data) → Places) where
    with_node : (o : Option Data) (before bs : List (List ℕ)) (qs : Places) → Follow before bs qs → Follow before (bs ++ block_of o) (node_place o qs)
    with_node None before bs qs x = record {
      follows = λ lies. subst (FollowsIn home before) (sym (append-nil bs)) (x.follows lies);
      there = subst (λ cs. AreAmong (tops qs) (before ++ cs)) (sym (append-nil bs)) x.there;
    }
    with_node (Some n) before bs qs x = record {
      follows = λ lies. follows_both home before bs (spell n ∷ []) (x.follows (λ q here. lies q (contains_more (spell n, qs) (each_place qs ++ []) q (contains_left (each_place qs) [] q here))))
          (record { at = (spell n, qs); among = lies (spell n, qs) (zero, omega arith, refl); is = refl; children = x.there }, tt);
      there = (contains_right before (bs ++ spell n ∷ []) (spell n) (contains_right bs (spell n ∷ []) (spell n) (zero, omega arith, refl)), tt);
    }

    of_slot : (es : List (List ℕ × Data)) (b : Bool) (before : List (List ℕ)) → Ready before es → Follow before (plan es) (ps es)
        → Follow before (none_or b (λ fs. plan fs ++ block_of (below fs)) es) (bucket_or_node b inner below ps es)
    of_slot es true before ready x = record { follows = λ lies. tt; there = are_more (tops (places_over (λ e. inner e.0) es)) before [] (over_tops before (λ e. inner e.0) es ready) }
    of_slot es false before ready x = with_node (below es) before (plan es) (ps es) x

    of_slots : (most : ℕ) (at : List ℕ → ℕ) (es : List (List ℕ × Data)) → ((fs : List (List ℕ × Data)) (before : List (List ℕ)) → Ready before fs → Follow before (plan fs) (ps fs))
        → (js : List ℕ) (before : List (List ℕ)) → Ready before es
        → Follow before (flat_map (λ i. slot_plan most below plan (part at es i)) js) (places_over (λ i. bucket_or_node (nat_le (length (part at es i)) most) inner below ps (part at es i)) js)
    of_slots most at es each [] before ready = record { follows = λ lies. tt; there = tt }
    of_slots most at es each (j ∷ js) before ready =
        let fs : List (List ℕ × Data) = part at es j in
        let mine : Ready before fs = all_filter (λ e. AreAmong (tops (inner e.0)) before) (λ e. at e.0 == j) es ready in
        let bs = slot_plan most below plan fs in
        let more = flat_map (λ i. slot_plan most below plan (part at es i)) js in
        let here = bucket_or_node (nat_le (length fs) most) inner below ps fs in
        let others = places_over (λ i. bucket_or_node (nat_le (length (part at es i)) most) inner below ps (part at es i)) js in
        let x = of_slot fs (nat_le (length fs) most) before mine (each fs before mine) in
        let y = of_slots most at es each js (before ++ bs) (ready_more before bs es ready) in
        record {
          follows = λ lies. follows_both home before bs more (x.follows (lies_left here others home lies)) (y.follows (lies_right here others home lies));
          there = subst (AreAmong (tops (joined here others))) (append_assoc before bs more) (both_tops ((before ++ bs) ++ more) here others (are_more (tops here) (before ++ bs) more x.there) y.there);
        }

  module _ (h : List ℕ → List ℕ) (p : HamtShape) where
    pub of_plan : (left depth : ℕ) (es : List (List ℕ × Data)) (before : List (List ℕ)) → Ready before es → Follow before (planned h p left depth es) (places_beneath inner h p left depth es)
    unfolding planned places_beneath
    of_plan zero depth es before ready = record { follows = λ lies. tt; there = are_more (tops (places_over (λ e. inner e.0) es)) before [] (over_tops before (λ e. inner e.0) es ready) }
    of_plan (suc left) depth es before ready =
        let x = of_slots (node_of h p left (depth + 1)) (planned h p left (depth + 1)) (places_beneath inner h p left (depth + 1)) p.bucket (at_depth h p depth) es (λ fs bs mine. of_plan left (depth + 1) fs bs mine) (range_with_len 0 (2 ^ p.width)) before ready in
        record { follows = x.follows; there = x.there }

pub plans : PlansFollowPlaces
plans inner h p left depth es before ready = (of_plan inner (places_beneath inner h p left depth es) h p left depth es before ready).follows (λ q here. here)
