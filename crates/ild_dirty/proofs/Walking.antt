-- Places that a walk reaches.
use Rattle.std.proofs.Common.{◌≡◌, ◌⊎◌, inl, inr, ⊎_elim, ℕ, suc, ◌+◌, ◌≤◌, ◌<◌, List, [], ◌∷◌, ◌++◌, length, get_or, Bool, true, false, cond, nat_eq, not, ◌-◌, Option, Some, None, refl, sym, ap, subst, ◌∙◌, arith}
use Rattle.std.proofs.lemmas.List.Elements.{filter_map-append}
use Rattle.std.proofs.lemmas.Option.{same_Some, none-some}
use Rattle.std.proofs.lemmas.Bool.{and_parts, eqb-true}
use Rattle.std.proofs.lemmas.List.{append_assoc, append-nil}
use Rattle.std.specs.HashSet.{HashSet, contains}
use Rattle.std.specs.List.{position_from, find, list_any}
use Rattle.ild_data.specs.Key.{same_text}
use Rattle.ild_data.specs.Spell.{id_of}
use Rattle.ild_edges.specs.Store.{block_at}
use Rattle.ild_edges.proofs.Held.{block_at_id}
use Rattle.ild_edges.specs.Among.{IsIn}
use Rattle.ild_edges.proofs.Among.{IsIn-left, IsIn-right, IsIn-append, IsIn-one}
use Rattle.ild_dirty.specs.Own.{index_at}
use Rattle.ild_dirty.specs.Beneath.{Place, Places, place, no_places, beside, block_of, place_kind, IsTree, AreTrees, HasPlace, HasPlaceBelow, AgreesWith, blocks_in, blocks_below}
use Rattle.ild_dirty.specs.inside.Walk.{IsOwn, own_block, IsOneOf, Grows, AreSeen, same_spot, own_numbers}

-- ---- one place more

of_one : (own : List (List ℕ)) (c : List ℕ × ℕ) (s : ℕ × ℕ) → IsOneOf own (c ∷ []) s → (index_at own c.0 ≡ Some s.0) × (c.1 ≡ s.1)
of_one own c s one =
    let is : one.child ≡ c = IsIn-one one.child c one.among in
    (subst (λ (x : List ℕ × ℕ). index_at own x.0 ≡ Some s.0) is one.found, subst (λ (x : List ℕ × ℕ). x.1 ≡ s.1) is one.kind)

pub grows_none : (own : List (List ℕ)) (c : List ℕ × ℕ) (old : List (ℕ × ℕ)) → None ≡ index_at own c.0 → Grows own (c ∷ []) old old
grows_none own c old none = record {
  more = [];
  is = sym (append-nil old);
  leads = λ s one. absurd (none-some s.0 (none ∙ (of_one own c s one).0));
  only = λ s is. absurd is;
}

one_is : (own : List (List ℕ)) (c : List ℕ × ℕ) (i : ℕ) (s : ℕ × ℕ) → Some i ≡ index_at own c.0 → IsOneOf own (c ∷ []) s → s ≡ (i, c.1)
one_is own c i (j, k) found one =
    let both : (index_at own c.0 ≡ Some j) × (c.1 ≡ k) = of_one own c (j, k) one in
    let same : i ≡ j = same_Some i j (found ∙ both.0) in
    rw (same, both.1) refl

pub grows_there : (own : List (List ℕ)) (c : List ℕ × ℕ) (i : ℕ) (old : List (ℕ × ℕ)) → Some i ≡ index_at own c.0 → IsIn (i, c.1) old → Grows own (c ∷ []) old old
grows_there own c i old found there = record {
  more = [];
  is = sym (append-nil old);
  leads = λ s one. subst (λ (x : ℕ × ℕ). IsIn x old) (sym (one_is own c i s found one)) there;
  only = λ s is. absurd is;
}

pub grows_new : (own : List (List ℕ)) (c : List ℕ × ℕ) (i : ℕ) (old new : List (ℕ × ℕ)) → Some i ≡ index_at own c.0 → new ≡ old ++ (i, c.1) ∷ [] → Grows own (c ∷ []) old new
grows_new own c i old new found is = record {
  more = (i, c.1) ∷ [];
  is = is;
  leads = λ s one. rw (is, one_is own c i s found one) (IsIn-right (i, c.1) old ((i, c.1) ∷ []) (inl refl));
  only = λ s among. record { child = c; among = inl refl; found = sym found ∙ ap (λ (x : ℕ × ℕ). Some x.0) (sym (IsIn-one s (i, c.1) among)); kind = ap (λ (x : ℕ × ℕ). x.1) (sym (IsIn-one s (i, c.1) among)) };
}

-- an empty set has none
pub none_seen : {S : Type 0} (set : HashSet (ℕ × ℕ) S) (spots : List (ℕ × ℕ)) → set.keys ≡ [] → AreSeen (contains same_spot set) spots
none_seen set spots empty s told = absurd (let bad : false ≡ true = ap (λ ks. list_any (same_spot s) ks) (sym empty) ∙ told in cc)

one_spot : (s t : ℕ × ℕ) → same_spot s t ≡ true → s ≡ t
one_spot (i, j) (k, l) same =
    let both : (nat_eq i k ≡ true) × (nat_eq j l ≡ true) = and_parts (nat_eq i k) (nat_eq j l) same in
    rw (eqb-true i k both.0, eqb-true j l both.1) refl

seen_by : (has now : ℕ × ℕ → Bool) (spot s : ℕ × ℕ) (spots : List (ℕ × ℕ)) (t : Bool) → same_spot spot s ≡ t → now s ≡ cond t true (has s) → IsIn spot spots → (has s ≡ true → IsIn s spots) → now s ≡ true → IsIn s spots
seen_by has now spot s spots true same put here others told = subst (λ (x : ℕ × ℕ). IsIn x spots) (one_spot spot s same) here
seen_by has now spot s spots false apart put here others told = others (sym put ∙ told)

-- one place more in a set
pub seen_more : (has now : ℕ × ℕ → Bool) (spot : ℕ × ℕ) (old new : List (ℕ × ℕ)) → AreSeen has old → ((s : ℕ × ℕ) → now s ≡ cond (same_spot spot s) true (has s)) → IsIn spot new → ((s : ℕ × ℕ) → IsIn s old → IsIn s new) → AreSeen now new
seen_more has now spot old new seen put here stays s told = seen_by has now spot s new (same_spot spot s) refl (put s) here (λ was. stays s (seen s was)) told

-- a place that the set had
pub seen_there : (has now : ℕ × ℕ → Bool) (spot : ℕ × ℕ) (old : List (ℕ × ℕ)) → AreSeen has old → ((s : ℕ × ℕ) → now s ≡ cond (same_spot spot s) true (has s)) → has spot ≡ true → AreSeen now old
seen_there has now spot old seen put was = seen_more has now spot old old seen put (seen spot was) (λ s is. is)

-- a place that came
pub seen_new : (has now : ℕ × ℕ → Bool) (spot : ℕ × ℕ) (old new : List (ℕ × ℕ)) → AreSeen has old → ((s : ℕ × ℕ) → now s ≡ cond (same_spot spot s) true (has s)) → new ≡ old ++ spot ∷ [] → AreSeen now new
seen_new has now spot old new seen put is = rw is (seen_more has now spot old (old ++ spot ∷ []) seen put (IsIn-right spot old (spot ∷ []) (inl refl)) (λ s was. IsIn-left s old (spot ∷ []) was))

pub not_not : (b t : Bool) → t ≡ not b → t ≡ false → b ≡ true
not_not true t is e = refl
not_not false t is e = absurd (let bad : true ≡ false = sym is ∙ e in cc)

-- ---- places of many children

one_more : (own : List (List ℕ)) (cs ds : List (List ℕ × ℕ)) (s : ℕ × ℕ) → IsOneOf own (cs ++ ds) s → IsOneOf own cs s ⊎ IsOneOf own ds s
one_more own cs ds s one = ⊎_elim (λ first. inl (record { child = one.child; among = first; found = one.found; kind = one.kind })) (λ last. inr (record { child = one.child; among = last; found = one.found; kind = one.kind })) (IsIn-append one.child cs ds one.among)

pub grows_then : (own : List (List ℕ)) (cs ds : List (List ℕ × ℕ)) (old mid new : List (ℕ × ℕ)) → Grows own cs old mid → Grows own ds mid new → Grows own (cs ++ ds) old new
grows_then own cs ds old mid new first last = record {
  more = first.more ++ last.more;
  is = last.is ∙ ap (λ xs. xs ++ last.more) first.is ∙ append_assoc old first.more last.more;
  leads = λ s one. ⊎_elim (λ in_first. subst (λ (xs : List (ℕ × ℕ)). IsIn s xs) (sym last.is) (IsIn-left s mid last.more (first.leads s in_first))) (λ in_last. last.leads s in_last) (one_more own cs ds s one);
  only = λ s among. ⊎_elim
      (λ came. let one : IsOneOf own cs s = first.only s came in record { child = one.child; among = IsIn-left one.child cs ds one.among; found = one.found; kind = one.kind })
      (λ came. let one : IsOneOf own ds s = last.only s came in record { child = one.child; among = IsIn-right one.child cs ds one.among; found = one.found; kind = one.kind })
      (IsIn-append s first.more last.more among);
}

-- the numbers of one child more
pub numbers_more : (own : List (List ℕ)) (cs ds all : List (List ℕ × ℕ)) (old new : List ℕ) → cs ++ ds ≡ all → old ≡ own_numbers own cs → new ≡ old ++ own_numbers own ds → new ≡ own_numbers own all
numbers_more own cs ds all old new together was is = is ∙ ap (λ ns. ns ++ own_numbers own ds) was ∙ sym (filter_map-append (λ c. index_at own c.0) cs ds) ∙ ap (own_numbers own) together

pub grows_no : (own : List (List ℕ)) (old : List (ℕ × ℕ)) → Grows own [] old old
grows_no own old = record { more = []; is = sym (append-nil old); leads = λ s one. absurd one.among; only = λ s is. absurd is }

-- ---- trees of places

block_by : (p : List ℕ → Bool) (t : Bool) (k i : ℕ) (x : List ℕ) (xs : List (List ℕ)) → cond t (Some k) (position_from p (k + 1) xs) ≡ Some i
    → (position_from p (k + 1) xs ≡ Some i → (k + 1 ≤ i) × (i < k + 1 + length xs) × (find p xs ≡ Some (get_or xs (i - (k + 1)) []))) → (k ≤ i) × (i < k + length (x ∷ xs)) × (cond t (Some x) (find p xs) ≡ Some (get_or (x ∷ xs) (i - k) []))
block_by p true k i x xs e rest =
    let same : k ≡ i = same_Some k i e in
    let none : i - k ≡ 0 = omega (arith, same) in
    (omega (arith, same), omega (arith, same), ap (λ n. Some (get_or (x ∷ xs) n [])) (sym none))
block_by p false k i x xs e rest =
    let more : (k + 1 ≤ i) × (i < k + 1 + length xs) × (find p xs ≡ Some (get_or xs (i - (k + 1)) [])) = rest e in
    let at_least : k + 1 ≤ i = more.0 in
    let at_most : i < k + 1 + length xs = more.1 in
    let next : i - k ≡ suc (i - (k + 1)) = omega (arith, at_least) in
    (omega (arith, at_least), omega (arith, at_most), more.2 ∙ ap (λ n. Some (get_or (x ∷ xs) n [])) (sym next))

block_from : (p : List ℕ → Bool) (k i : ℕ) (xs : List (List ℕ)) → position_from p k xs ≡ Some i → (k ≤ i) × (i < k + length xs) × (find p xs ≡ Some (get_or xs (i - k) []))
block_from p k i [] e = absurd (none-some i e)
block_from p k i (x ∷ xs) e = block_by p (p x) k i x xs e (block_from p (k + 1) i xs)

-- an id that has a place is that of the block there
pub index_found : (own : List (List ℕ)) (id : List ℕ) (i : ℕ) → index_at own id ≡ Some i → (i < length own) × (block_at own id ≡ Some (own_block own i))
index_found own id i e =
    let all : (0 ≤ i) × (i < 0 + length own) × (block_at own id ≡ Some (get_or own (i - 0) [])) = block_from (λ b. same_text (id_of b) id) 0 i own e in
    let zero_off : i - 0 ≡ i = omega arith in
    let lt : i < 0 + length own = all.1 in
    (omega (arith, lt), all.2 ∙ ap (λ n. Some (get_or own n [])) zero_off)

-- and its id leads there
pub own_found : (own : List (List ℕ)) (id : List ℕ) (i : ℕ) → index_at own id ≡ Some i → IsOwn own i
own_found own id i e =
    let there : (i < length own) × (block_at own id ≡ Some (own_block own i)) = index_found own id i e in
    record { within = there.0; found = ap (index_at own) (block_at_id own id (own_block own i) there.1) ∙ e }

pub agrees_left : (own xs ys : List (List ℕ)) → AgreesWith own (xs ++ ys) → AgreesWith own xs
agrees_left own [] ys all = tt
agrees_left own (x ∷ xs) ys all = (all.0, agrees_left own xs ys all.1)

pub agrees_right : (own xs ys : List (List ℕ)) → AgreesWith own (xs ++ ys) → AgreesWith own ys
agrees_right own [] ys all = all
agrees_right own (x ∷ xs) ys all = agrees_right own xs ys all.1

agrees_top : (own : List (List ℕ)) (t : Place) → AgreesWith own (blocks_in t) → (block_at own (id_of (block_of t)) ≡ None) ⊎ (block_at own (id_of (block_of t)) ≡ Some (block_of t))
agrees_top own (place b k ts) all = all.0

-- the top of a tree is its first place
pub has_top : (t : Place) → HasPlace t (block_of t) (place_kind t)
has_top (place b k ts) = inl (refl, refl)

agreed : (o : Option (List ℕ)) (c b : List ℕ) → (o ≡ None) ⊎ (o ≡ Some c) → o ≡ Some b → c ≡ b
agreed o c b (inl none) e = absurd (none-some b (sym none ∙ e))
agreed o c b (inr some) e = same_Some c b (sym some ∙ e)

-- the block of the batch's own under the id of a tree's top is that top
pub top_is : (own : List (List ℕ)) (t : Place) (id b : List ℕ) → AgreesWith own (blocks_in t) → id_of (block_of t) ≡ id → block_at own id ≡ Some b → block_of t ≡ b
top_is own t id b agrees top found = agreed (block_at own (id_of (block_of t))) (block_of t) b (agrees_top own t agrees) (ap (block_at own) top ∙ found)

child_below : (children : ℕ → List ℕ → List (List ℕ × ℕ)) (own : List (List ℕ)) (cs : List (List ℕ × ℕ)) (ts : Places) → AreTrees children cs ts → (c : List ℕ × ℕ) → IsIn c cs → (b : List ℕ) → AgreesWith own (blocks_below ts) → block_at own c.0 ≡ Some b → HasPlaceBelow ts b c.1
child_below children own [] ts trees c is b agrees found = absurd is
child_below children own (d ∷ cs) no_places trees c is b agrees found = absurd trees
child_below children own (d ∷ cs) (beside t ts) trees c (inl same) b agrees found =
    let top : block_of t ≡ b = top_is own t c.0 b (agrees_left own (blocks_in t) (blocks_below ts) agrees) (trees.0 ∙ ap (λ (x : List ℕ × ℕ). x.0) (sym same)) found in
    let kind : place_kind t ≡ c.1 = trees.1 ∙ ap (λ (x : List ℕ × ℕ). x.1) (sym same) in
    inl (rw (← top, ← kind) (has_top t))
child_below children own (d ∷ cs) (beside t ts) trees c (inr more) b agrees found = inr (child_below children own cs ts trees.3 c more b (agrees_right own (blocks_in t) (blocks_below ts) agrees) found)

mutual
  -- where a block has a place, its children have places too
  pub child_place : (children : ℕ → List ℕ → List (List ℕ × ℕ)) (own : List (List ℕ)) (t : Place) → IsTree children t → AgreesWith own (blocks_in t) → (b : List ℕ) (k : ℕ) → HasPlace t b k
      → (c : List ℕ × ℕ) → IsIn c (children k b) → (d : List ℕ) → block_at own c.0 ≡ Some d → HasPlace t d c.1
  child_place children own (place a j ts) tree agrees b k (inl here) c is d found =
      let same : children k b ≡ children j a = rw (here.0, here.1) refl in
      inr (child_below children own (children j a) ts tree c (subst (λ (cs : List (List ℕ × ℕ)). IsIn c cs) same is) d agrees.1 found)
  child_place children own (place a j ts) tree agrees b k (inr below) c is d found = inr (child_places children own (children j a) ts tree agrees.1 b k below c is d found)

  child_places : (children : ℕ → List ℕ → List (List ℕ × ℕ)) (own : List (List ℕ)) (cs : List (List ℕ × ℕ)) (ts : Places) → AreTrees children cs ts → AgreesWith own (blocks_below ts) → (b : List ℕ) (k : ℕ) → HasPlaceBelow ts b k
      → (c : List ℕ × ℕ) → IsIn c (children k b) → (d : List ℕ) → block_at own c.0 ≡ Some d → HasPlaceBelow ts d c.1
  child_places children own cs no_places trees agrees b k below c is d found = absurd below
  child_places children own [] (beside t ts) trees agrees b k below c is d found = absurd trees
  child_places children own (e ∷ cs) (beside t ts) trees agrees b k (inl here) c is d found = inl (child_place children own t trees.2 (agrees_left own (blocks_in t) (blocks_below ts) agrees) b k here c is d found)
  child_places children own (e ∷ cs) (beside t ts) trees agrees b k (inr there) c is d found = inr (child_places children own cs ts trees.3 (agrees_right own (blocks_in t) (blocks_below ts) agrees) b k there c is d found)
