-- What puts in a plan's order leave of a tree.
use Rattle.std.proofs.Common.{◌≡◌, ◌≢◌, ◌⊎◌, inl, inr, ⊎_elim, ℕ, zero, suc, Bool, true, false, ◌||◌, nat_eq, cond, List, [], ◌∷◌, ◌++◌, length, ◌≤◌, map, take, Option, Some, None, Result, Ok, Err, refl, sym, ap, ◌∙◌, subst, arith}
use Rattle.std.specs.Prelude.{Contains, IsSome}
use Rattle.std.specs.List.{AllByRecursion}
use Rattle.std.specs.Option.{option_map_or}
use Rattle.std.proofs.lemmas.Option.{none-some}
use Rattle.std.proofs.lemmas.Bool.{eqb-true, and_from, and_parts}
use Rattle.std.proofs.lemmas.List.{map-append, length-map}
use Rattle.std.specs.Cmp.Lexicographic.{nat_list_eq_equiv}
use Rattle.ild_data.specs.Key.{same_text}
use Rattle.ild_data.specs.Spell.{id_of}
use Rattle.ild_edges.specs.Gained.{AreHeld, CameFrom}
use Rattle.ild_edges.specs.Store.{Moment, Later, Keeps, block_at}
use Rattle.ild_edges.proofs.Held.{block_at_id}
use Rattle.ild_edges.specs.Among.{IsIn}
use Rattle.ild_edges.proofs.Among.{IsIn-at, IsIn-left, IsIn-right, IsIn-contains, IsIn-of}
use Rattle.ild_dirty.specs.Own.{index_at}
use Rattle.ild_dirty.specs.Beneath.{Place, Places, place, no_places, beside, block_of, place_kind, IsTree, AreTrees, HasPlace, HasPlaceBelow, IsTreeAt, AgreesWith, blocks_in, blocks_below, places_in, places_below}
use Rattle.ild_dirty.specs.inside.Walk.{own_block, Leads, LeadOn, is_in, is_done, are_done, is_ready, HasReady, Follows, AreStuck, IsPlan}
use Rattle.ild_dirty.specs.Flush.{Asks, PutsAnswer, PutsAll, StopsAfter, AreCarried, ClashAnswer, IsWholeIn, CameWholeIn, FlushAnswer, Flushes}
use Rattle.ild_dirty.specs.declared.fault.FlushFault.{FlushFault}
use Rattle.ild_dirty.specs.declared.fault.FlushFault.TheVariants as F
use Rattle.ild_dirty.proofs.Indexed.{block_at-none}
use Rattle.ild_dirty.proofs.Walking.{index_found, top_is, agrees_left, agrees_right}
use Rattle.ild_dirty.proofs.Counting.{fits_in}
use Rattle.ild_dirty.proofs.Puts.{told-map, told-both, held-push, held-keeps, kept_held}

-- ---- lists

all_left : (P : List ℕ × List (List ℕ) → Type 0) (xs ys : List (List ℕ × List (List ℕ))) → AllByRecursion P (xs ++ ys) → AllByRecursion P xs
all_left P [] ys all = tt
all_left P (x ∷ xs) ys all = (all.0, all_left P xs ys all.1)

all_right : (P : List ℕ × List (List ℕ) → Type 0) (xs ys : List (List ℕ × List (List ℕ))) → AllByRecursion P (xs ++ ys) → AllByRecursion P ys
all_right P [] ys all = all
all_right P (x ∷ xs) ys all = all_right P xs ys all.1

held_both : (held xs ys : List (List ℕ)) → AreHeld xs held → AreHeld ys held → AreHeld (xs ++ ys) held
held_both held [] ys first last = last
held_both held (x ∷ xs) ys first last = (first.0, held_both held xs ys first.1 last)

is_in-or : (i j : ℕ) (order : List ℕ) (t : Bool) → nat_eq i j ≡ t → (t || is_in j order) ≡ true → (i ≡ j) ⊎ (is_in j order ≡ true)
is_in-or i j order true is e = inl (eqb-true i j is)
is_in-or i j order false is e = inr e

-- what stands in an order that was put is held
pub held_at : (own held : List (List ℕ)) (order : List ℕ) (j : ℕ) → AreHeld (map (own_block own) order) held → is_in j order ≡ true → block_at held (id_of (own_block own j)) ≡ Some (own_block own j)
held_at own held [] j all e = absurd (let bad : true ≡ false = sym e in cc)
held_at own held (i ∷ order) j all e = ⊎_elim (λ same. subst (λ (k : ℕ). block_at held (id_of (own_block own k)) ≡ Some (own_block own k)) same all.0) (λ more. held_at own held order j all.1 more) (is_in-or i j order (nat_eq i j) refl e)

-- ---- what the batch holds of its own

found_by : (t : Bool) (x b : List ℕ) (rest : Option (List ℕ)) → t ≡ same_text (id_of x) (id_of b) → (x ≡ b) ⊎ (rest ≢ None) → cond t (Some x) rest ≢ None
found_by true x b rest is either = λ e. none-some x (sym e)
found_by false x b rest is (inl same) = absurd (let bad : false ≡ true = is ∙ ap (λ (y : List ℕ). same_text (id_of y) (id_of b)) same ∙ nat_list_eq_equiv.refl (id_of b) in cc)
found_by false x b rest is (inr more) = more

contained : (own : List (List ℕ)) (b : List ℕ) → Contains own b → block_at own (id_of b) ≢ None
contained [] b is = absurd (omega (arith, is.1))
contained (x ∷ own) b (zero, lt, is) = found_by (same_text (id_of x) (id_of b)) x b (block_at own (id_of b)) refl (inl is)
contained (x ∷ own) b (suc k, lt, is) = found_by (same_text (id_of x) (id_of b)) x b (block_at own (id_of b)) refl (inr (contained own b (k, omega (arith, lt), is)))

-- a block that the batch doesn't hold of its own is carried by the store
carried_by : (own held : List (List ℕ)) (b : List ℕ) (blocks : List (List ℕ)) → index_at own (id_of b) ≡ None → Contains own b ⊎ AreHeld blocks held → AreHeld blocks held
carried_by own held b blocks none either = ⊎_elim (λ has. absurd (contained own b has (block_at-none own (id_of b) none))) (λ there. there) either

-- ---- all that is reached stands in the order

done_by : (order : List ℕ) (o : Option ℕ) → ((j : ℕ) → o ≡ Some j → is_in j order ≡ true) → option_map_or (λ j. is_in j order) o true ≡ true
done_by order None each = refl
done_by order (Some j) each = each j refl

mutual
  in_order : (own : List (List ℕ)) (children : ℕ → List ℕ → List (List ℕ × ℕ)) (spots : List (ℕ × ℕ)) (order : List ℕ) → LeadOn own children spots spots → AreStuck own children order spots
      → (t : Place) → IsTree children t → AgreesWith own (blocks_in t) → (i : ℕ) → index_at own (id_of (block_of t)) ≡ Some i → IsIn (i, place_kind t) spots → is_in i order ≡ true
  in_order own children spots order closed stuck (place b k ts) tree agrees i found reached =
      let top : b ≡ own_block own i = top_is own (place b k ts) (id_of b) (own_block own i) agrees refl (index_found own (id_of b) i found).1 in
      let same : children k (own_block own i) ≡ children k b = ap (children k) (sym top) in
      let leads : Leads own (children k b) spots = subst (λ (cs : List (List ℕ × ℕ)). Leads own cs spots) same (closed (i, k) reached) in
      let ready : is_ready own children order (i, k) ≡ true = ap (are_done own order) same ∙ all_in_order own children spots order closed stuck (children k b) ts tree agrees.1 leads in
      ⊎_elim (λ yes. yes) (λ no. absurd (let bad : true ≡ false = sym ready ∙ no in cc)) (stuck (i, k) reached)

  all_in_order : (own : List (List ℕ)) (children : ℕ → List ℕ → List (List ℕ × ℕ)) (spots : List (ℕ × ℕ)) (order : List ℕ) → LeadOn own children spots spots → AreStuck own children order spots
      → (cs : List (List ℕ × ℕ)) (ts : Places) → AreTrees children cs ts → AgreesWith own (blocks_below ts) → Leads own cs spots → are_done own order cs ≡ true
  all_in_order own children spots order closed stuck [] ts trees agrees leads = refl
  all_in_order own children spots order closed stuck (c ∷ cs) no_places trees agrees leads = absurd trees
  all_in_order own children spots order closed stuck (c ∷ cs) (beside t ts) trees agrees leads =
      and_from (is_done own order c) (are_done own order cs)
      (done_by order (index_at own c.0) (λ j e. in_order own children spots order closed stuck t trees.2 (agrees_left own (blocks_in t) (blocks_below ts) agrees) j (ap (index_at own) trees.0 ∙ e)
      (subst (λ (k : ℕ). IsIn (j, k) spots) (sym trees.1) (leads (j, c.1) (record { child = c; among = inl refl; found = e; kind = refl })))))
      (all_in_order own children spots order closed stuck cs ts trees.3 (agrees_right own (blocks_in t) (blocks_below ts) agrees) (λ s one. leads s (record { child = one.child; among = inr one.among; found = one.found; kind = one.kind })))

-- ---- what is held at the end

tree_by : (own was now : List (List ℕ)) (b : List ℕ) (rest : List (List ℕ)) (o : Option ℕ) → index_at own (id_of b) ≡ o → Contains own b ⊎ AreHeld (b ∷ rest) was → Keeps was now
    → ((i : ℕ) → index_at own (id_of b) ≡ Some i → (block_at now (id_of b) ≡ Some b) × AreHeld rest now) → AreHeld (b ∷ rest) now
tree_by own was now b rest None none carried keeps each = held-keeps (b ∷ rest) was now (carried_by own was b (b ∷ rest) none carried) keeps
tree_by own was now b rest (Some i) found carried keeps each = each i found

mutual
  pub tree_held : (own was now : List (List ℕ)) (children : ℕ → List ℕ → List (List ℕ × ℕ)) (spots : List (ℕ × ℕ)) (order : List ℕ) → LeadOn own children spots spots → AreStuck own children order spots → AreHeld (map (own_block own) order) now → Keeps was now
      → (t : Place) → IsTree children t → AgreesWith own (blocks_in t) → AreCarried was own (places_in t) → ((i : ℕ) → index_at own (id_of (block_of t)) ≡ Some i → IsIn (i, place_kind t) spots) → AreHeld (blocks_in t) now
  tree_held own was now children spots order closed stuck put keeps (place b k ts) tree agrees carried reached = tree_by own was now b (blocks_below ts) (index_at own (id_of b)) refl carried.0 keeps (λ i found.
      let top : b ≡ own_block own i = top_is own (place b k ts) (id_of b) (own_block own i) agrees refl (index_found own (id_of b) i found).1 in
      let here : block_at now (id_of (own_block own i)) ≡ Some (own_block own i) = held_at own now order i put (in_order own children spots order closed stuck (place b k ts) tree agrees i found (reached i found)) in
      let same : children k (own_block own i) ≡ children k b = ap (children k) (sym top) in
      let leads : Leads own (children k b) spots = subst (λ (cs : List (List ℕ × ℕ)). Leads own cs spots) same (closed (i, k) (reached i found)) in
      (subst (λ (c : List ℕ). block_at now (id_of c) ≡ Some c) (sym top) here, trees_held own was now children spots order closed stuck put keeps (children k b) ts tree agrees.1 carried.1 leads))

  trees_held : (own was now : List (List ℕ)) (children : ℕ → List ℕ → List (List ℕ × ℕ)) (spots : List (ℕ × ℕ)) (order : List ℕ) → LeadOn own children spots spots → AreStuck own children order spots → AreHeld (map (own_block own) order) now → Keeps was now
      → (cs : List (List ℕ × ℕ)) (ts : Places) → AreTrees children cs ts → AgreesWith own (blocks_below ts) → AreCarried was own (places_below ts) → Leads own cs spots → AreHeld (blocks_below ts) now
  trees_held own was now children spots order closed stuck put keeps cs no_places trees agrees carried leads = tt
  trees_held own was now children spots order closed stuck put keeps [] (beside t ts) trees agrees carried leads = absurd trees
  trees_held own was now children spots order closed stuck put keeps (c ∷ cs) (beside t ts) trees agrees carried leads = held_both now (blocks_in t) (blocks_below ts)
      (tree_held own was now children spots order closed stuck put keeps t trees.2 (agrees_left own (blocks_in t) (blocks_below ts) agrees) (all_left (λ p. Contains own p.0 ⊎ AreHeld p.1 was) (places_in t) (places_below ts) carried)
      (λ i e. subst (λ (k : ℕ). IsIn (i, k) spots) (sym trees.1) (leads (i, c.1) (record { child = c; among = inl refl; found = ap (index_at own) (sym trees.0) ∙ e; kind = refl }))))
      (trees_held own was now children spots order closed stuck put keeps cs ts trees.3 (agrees_right own (blocks_in t) (blocks_below ts) agrees) (all_right (λ p. Contains own p.0 ⊎ AreHeld p.1 was) (places_in t) (places_below ts) carried)
      (λ s one. leads s (record { child = one.child; among = inr one.among; found = one.found; kind = one.kind })))

-- ---- what came

-- a block of a tree that has a place is one of its blocks
mutual
  pub place_block : (t : Place) (b : List ℕ) (k : ℕ) → HasPlace t b k → IsIn b (blocks_in t)
  place_block (place a j ts) b k (inl here) = inl (sym here.0)
  place_block (place a j ts) b k (inr below) = inr (place_below ts b k below)

  place_below : (ts : Places) (b : List ℕ) (k : ℕ) → HasPlaceBelow ts b k → IsIn b (blocks_below ts)
  place_below no_places b k below = absurd below
  place_below (beside t ts) b k (inl here) = IsIn-left b (blocks_in t) (blocks_below ts) (place_block t b k here)
  place_below (beside t ts) b k (inr there) = IsIn-right b (blocks_in t) (blocks_below ts) (place_below ts b k there)

-- a block of the order, and a front in which its children stand
pub record Stood (own : List (List ℕ)) (children : ℕ → List ℕ → List (List ℕ × ℕ)) (spots : List (ℕ × ℕ)) (now : List (List ℕ)) (b : List ℕ) : Type 0 where
  pub number : ℕ
  pub block : own_block own number ≡ b
  pub front : List ℕ
  pub ready : HasReady own children spots front number
  pub held : AreHeld (map (own_block own) front) now

stood_at : (own : List (List ℕ)) (children : ℕ → List ℕ → List (List ℕ × ℕ)) (spots : List (ℕ × ℕ)) (now : List (List ℕ)) (before order : List ℕ) (k : ℕ) → Follows own children spots before order → AreHeld (map (own_block own) before) now → AreHeld (take k (map (own_block own) order)) now
    → (b : List ℕ) → IsIn b (take (suc k) (map (own_block own) order)) → Stood own children spots now b
stood_at own children spots now before [] k follows held put b is = absurd is
stood_at own children spots now before (i ∷ order) k follows held put b (inl same) = record { number = i; block = sym same; front = before; ready = follows.1; held = held }
stood_at own children spots now before (i ∷ order) zero follows held put b (inr none) = absurd none
stood_at own children spots now before (i ∷ order) (suc k) follows held put b (inr more) = stood_at own children spots now (before ++ i ∷ []) order k follows.2
    (subst (λ (bs : List (List ℕ)). AreHeld bs now) (sym (map-append (own_block own) before (i ∷ []))) (held-push (map (own_block own) before) now (own_block own i) held put.0)) put.1 b more

some_is : (o : Option (List ℕ)) (x : List ℕ) → o ≡ Some x → IsSome o
some_is None x e = absurd (none-some x e)
some_is (Some y) x e = refl

child_some : (own now : List (List ℕ)) (front : List ℕ) (id : List ℕ) (o : Option ℕ) → index_at own id ≡ o → option_map_or (λ j. is_in j front) o true ≡ true → AreHeld (map (own_block own) front) now
    → (index_at own id ≡ None → IsSome (block_at now id)) → IsSome (block_at now id)
child_some own now front id None e done held none = none e
child_some own now front id (Some j) e done held none =
    let found : block_at own id ≡ Some (own_block own j) = (index_found own id j e).1 in
    let at : id_of (own_block own j) ≡ id = block_at_id own id (own_block own j) found in
    some_is (block_at now id) (own_block own j) (ap (block_at now) (sym at) ∙ held_at own now front j held done)

all_some : (own now : List (List ℕ)) (front : List ℕ) (cs : List (List ℕ × ℕ)) → are_done own front cs ≡ true → AreHeld (map (own_block own) front) now → ((c : List ℕ × ℕ) → IsIn c cs → index_at own c.0 ≡ None → IsSome (block_at now c.0))
    → AllByRecursion (λ (c : List ℕ × ℕ). IsSome (block_at now c.0)) cs
all_some own now front [] done held none = tt
all_some own now front (c ∷ cs) done held none =
    let both : (is_done own front c ≡ true) × (are_done own front cs ≡ true) = and_parts (is_done own front c) (are_done own front cs) done in
    (child_some own now front c.0 (index_at own c.0) refl both.0 held (none c (inl refl)), all_some own now front cs both.1 held (λ d is. none d (inr is)))

top_carried : (own was : List (List ℕ)) (t : Place) (id : List ℕ) → AreCarried was own (places_in t) → id_of (block_of t) ≡ id → index_at own id ≡ None → block_at was id ≡ Some (block_of t)
top_carried own was (place b k ts) id carried at none =
    let here : index_at own (id_of b) ≡ None = ap (index_at own) at ∙ none in
    ap (block_at was) (sym at) ∙ (carried_by own was b (b ∷ blocks_below ts) here carried.0).0

tops_carried : (own was : List (List ℕ)) (children : ℕ → List ℕ → List (List ℕ × ℕ)) (cs : List (List ℕ × ℕ)) (ts : Places) → AreTrees children cs ts → AreCarried was own (places_below ts) → (c : List ℕ × ℕ) → IsIn c cs → index_at own c.0 ≡ None
    → (d : List ℕ) × (block_at was c.0 ≡ Some d)
tops_carried own was children [] ts trees carried c is none = absurd is
tops_carried own was children (e ∷ cs) no_places trees carried c is none = absurd trees
tops_carried own was children (e ∷ cs) (beside t ts) trees carried c (inl same) none =
    (block_of t, top_carried own was t c.0 (all_left (λ p. Contains own p.0 ⊎ AreHeld p.1 was) (places_in t) (places_below ts) carried) (trees.0 ∙ ap (λ (x : List ℕ × ℕ). x.0) (sym same)) none)
tops_carried own was children (e ∷ cs) (beside t ts) trees carried c (inr more) none = tops_carried own was children cs ts trees.3 (all_right (λ p. Contains own p.0 ⊎ AreHeld p.1 was) (places_in t) (places_below ts) carried) c more none

mutual
  child_carried : (own was : List (List ℕ)) (children : ℕ → List ℕ → List (List ℕ × ℕ)) (t : Place) → IsTree children t → AreCarried was own (places_in t) → (b : List ℕ) (k : ℕ) → HasPlace t b k → (c : List ℕ × ℕ) → IsIn c (children k b) → index_at own c.0 ≡ None
      → (d : List ℕ) × (block_at was c.0 ≡ Some d)
  child_carried own was children (place a j ts) tree carried b k (inl here) c is none =
      let same : children k b ≡ children j a = rw (here.0, here.1) refl in
      tops_carried own was children (children j a) ts tree carried.1 c (subst (λ (cs : List (List ℕ × ℕ)). IsIn c cs) same is) none
  child_carried own was children (place a j ts) tree carried b k (inr below) c is none = children_carried own was children (children j a) ts tree carried.1 b k below c is none

  children_carried : (own was : List (List ℕ)) (children : ℕ → List ℕ → List (List ℕ × ℕ)) (cs : List (List ℕ × ℕ)) (ts : Places) → AreTrees children cs ts → AreCarried was own (places_below ts) → (b : List ℕ) (k : ℕ) → HasPlaceBelow ts b k → (c : List ℕ × ℕ) → IsIn c (children k b) → index_at own c.0 ≡ None
      → (d : List ℕ) × (block_at was c.0 ≡ Some d)
  children_carried own was children cs no_places trees carried b k below c is none = absurd below
  children_carried own was children [] (beside t ts) trees carried b k below c is none = absurd trees
  children_carried own was children (e ∷ cs) (beside t ts) trees carried b k (inl here) c is none = child_carried own was children t trees.2 (all_left (λ p. Contains own p.0 ⊎ AreHeld p.1 was) (places_in t) (places_below ts) carried) b k here c is none
  children_carried own was children (e ∷ cs) (beside t ts) trees carried b k (inr there) c is none = children_carried own was children cs ts trees.3 (all_right (λ p. Contains own p.0 ⊎ AreHeld p.1 was) (places_in t) (places_below ts) carried) b k there c is none

-- a block that came has its children held
whole_of : (own was now : List (List ℕ)) (children : ℕ → List ℕ → List (List ℕ × ℕ)) (spots : List (ℕ × ℕ)) (t : Place) → IsTree children t → AreCarried was own (places_in t) → Keeps was now → ((s : ℕ × ℕ) → IsIn s spots → HasPlace t (own_block own s.0) s.1)
    → (b : List ℕ) → Stood own children spots now b → IsWholeIn children t now b
whole_of own was now children spots t tree carried keeps places b stood =
    let here : HasPlace t b stood.ready.kind = subst (λ (x : List ℕ). HasPlace t x stood.ready.kind) stood.block (places (stood.number, stood.ready.kind) stood.ready.reached) in
    let ready : are_done own stood.front (children stood.ready.kind b) ≡ true = ap (λ (x : List ℕ). are_done own stood.front (children stood.ready.kind x)) (sym stood.block) ∙ stood.ready.ready in
    record {
      kind = stood.ready.kind;
      place = here;
      children_held = all_some own now stood.front (children stood.ready.kind b) ready stood.held (λ c is none.
          let there : (d : List ℕ) × (block_at was c.0 ≡ Some d) = child_carried own was children t tree carried b stood.ready.kind here c is none in
          some_is (block_at now c.0) there.0 (keeps c.0 there.0 there.1));
    }

in_take : (b : List ℕ) (k : ℕ) (bs : List (List ℕ)) → IsIn b (take k bs) → IsIn b bs
in_take b zero bs is = absurd is
in_take b (suc k) [] is = absurd is
in_take b (suc k) (c ∷ bs) (inl same) = inl same
in_take b (suc k) (c ∷ bs) (inr more) = inr (in_take b k bs more)

ordered_in : (own : List (List ℕ)) (children : ℕ → List ℕ → List (List ℕ × ℕ)) (spots : List (ℕ × ℕ)) (before order : List ℕ) (blocks : List (List ℕ)) → Follows own children spots before order → ((i k : ℕ) → IsIn (i, k) spots → IsIn (own_block own i) blocks)
    → (b : List ℕ) → IsIn b (map (own_block own) order) → IsIn b blocks
ordered_in own children spots before [] blocks follows each b is = absurd is
ordered_in own children spots before (i ∷ order) blocks follows each b (inl same) = subst (λ (x : List ℕ). IsIn x blocks) (sym same) (each i follows.1.kind follows.1.reached)
ordered_in own children spots before (i ∷ order) blocks follows each b (inr more) = ordered_in own children spots (before ++ i ∷ []) order blocks follows.2 each b more

answered : (own : List (List ℕ)) (bs : List (List ℕ)) (t : Place) (m : Moment) (result : Result (Unit {0}) FlushFault) (n : Moment) → Later m n → ((b : List ℕ) → IsIn b bs → IsIn b (blocks_in t))
    → ((was now : List (List ℕ)) → AreHeld bs now → Keeps was now → AreCarried was own (places_in t) → AreHeld (blocks_in t) now) → PutsAnswer m bs result n → FlushAnswer own t m result n
answered own bs t m (Ok u) n later inside all answer = told-both m.blocks n.blocks (λ was now. AreHeld bs now) Keeps (λ was now. AreCarried was own (places_in t) → AreHeld (blocks_in t) now) (λ was now put keeps. all was now put keeps) answer later.keeps
answered own bs t m (Err F.Store) n later inside all answer = answer
answered own bs t m (Err (F.Clash id kept new)) n later inside all answer = (inside new answer.0, answer.1, answer.2, answer.3)
answered own bs t m (Err F.Memory) n later inside all answer = tt

-- ---- over every store

-- each block of the order is one of the batch's own
ordered_own : (own : List (List ℕ)) (children : ℕ → List ℕ → List (List ℕ × ℕ)) (id : List ℕ) (kind : ℕ) (order : List ℕ) → IsPlan own children id kind order → (b : List ℕ) → IsIn b (map (own_block own) order) → IsIn b own
ordered_own own children id kind order plan = ordered_in own children plan.spots [] order own plan.follows (λ i k is. IsIn-at own i (own_block own i) [] (plan.reached.inside (i, k) is).within refl)

clashed : (own bs : List (List ℕ)) (m : Moment) (result : Result (Unit {0}) FlushFault) (n : Moment) → ((b : List ℕ) → IsIn b bs → IsIn b own) → PutsAnswer m bs result n → ClashAnswer own result n
clashed own bs m (Ok u) n inside answer = tt
clashed own bs m (Err F.Store) n inside answer = tt
clashed own bs m (Err (F.Clash id kept new)) n inside answer =
    record { kept = kept; new = new; held = kept_held n.blocks kept (id_of new) answer.3; among = IsIn-contains new own (inside new answer.0); collide = answer.2 }
clashed own bs m (Err F.Memory) n inside answer = tt

pub asked : (own : List (List ℕ)) (children : ℕ → List ℕ → List (List ℕ × ℕ)) (id : List ℕ) (kind : ℕ) (order : List ℕ) (m : Moment) (result : Result (Unit {0}) FlushFault) (n : Moment) → IsPlan own children id kind order → PutsAll m (map (own_block own) order) result n
    → Asks own m result n
asked own children id kind order m result n plan puts = record {
  later = puts.later;
  gets = puts.gets;
  puts = let most = plan.most in let few = puts.puts in omega (arith, most, few, length-map order (own_block own));
  failed = λ e. subst (λ (r : Result (Unit {0}) FlushFault). PutsAnswer m (map (own_block own) order) r n) e puts.answer;
  clashed = clashed own (map (own_block own) order) m result n (ordered_own own children id kind order plan) puts.answer;
}

-- ---- of a tree

-- what puts in a plan's order leave
pub flushed : (own : List (List ℕ)) (children : ℕ → List ℕ → List (List ℕ × ℕ)) (id : List ℕ) (kind : ℕ) (order : List ℕ) (m : Moment) (result : Result (Unit {0}) FlushFault) (n : Moment) → IsPlan own children id kind order → PutsAll m (map (own_block own) order) result n
    → (t : Place) → IsTreeAt children id kind t → AgreesWith own (blocks_in t) → Flushes own children t m result n
flushed own children id kind order m result n plan puts t tree agrees =
    let places : (s : ℕ × ℕ) → IsIn s plan.spots → HasPlace t (own_block own s.0) s.1 = plan.reached.sound t tree agrees in
    let inside : (b : List ℕ) → IsIn b (map (own_block own) order) → IsIn b (blocks_in t) = ordered_in own children plan.spots [] order (blocks_in t) plan.follows (λ i k is. place_block t (own_block own i) k (places (i, k) is)) in
    let root : (i : ℕ) → index_at own (id_of (block_of t)) ≡ Some i → IsIn (i, place_kind t) plan.spots =
    λ i e. subst (λ (k : ℕ). IsIn (i, k) plan.spots) (sym tree.same_kind) (plan.reached.rooted (i, kind) (record { child = (id, kind); among = inl refl; found = ap (index_at own) (sym tree.top) ∙ e; kind = refl })) in
    record {
      puts = λ blocks among.
          let most : length order ≤ length blocks = fits_in own children plan.spots [] order blocks plan.reached.inside plan.follows (λ j k is free. among (own_block own j) (place_block t (own_block own j) k (places (j, k) is))) in
          omega (arith, most, puts.puts, length-map order (own_block own));
      answer = answered own (map (own_block own) order) t m result n puts.later inside (λ was now put keeps carried. tree_held own was now children plan.spots order plan.reached.closed plan.stuck put keeps t tree.tree agrees carried root) puts.answer;
      adds = told-map m.blocks n.blocks (StopsAfter (map (own_block own) order) puts.stops.0) (CameFrom (blocks_in t))
          (λ was now stops id b held. ⊎_elim (λ before. inl before) (λ among. inr (IsIn-contains b (blocks_in t) (inside b (in_take b (suc puts.stops.0) (map (own_block own) order) (IsIn-of b (take (suc puts.stops.0) (map (own_block own) order)) among))))) (stops.adds id b held)) puts.stops.1;
      whole = told-both m.blocks n.blocks (StopsAfter (map (own_block own) order) puts.stops.0) Keeps (λ was now. AreCarried was own (places_in t) → CameWholeIn children t was now)
          (λ was now stops keeps carried id b held. ⊎_elim (λ before. inl before)
          (λ among. inr (whole_of own was now children plan.spots t tree.tree carried keeps places b (stood_at own children plan.spots now [] order puts.stops.0 plan.follows tt stops.held b (IsIn-of b (take (suc puts.stops.0) (map (own_block own) order)) among)))) (stops.adds id b held)) puts.stops.1 puts.later.keeps;
    }
