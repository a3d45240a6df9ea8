-- How far a walk has come.
use Rattle.std.proofs.Common.{◌≡◌, ⊎_elim, ℕ, ◌+◌, ◌≤◌, ◌<◌, List, [], ◌∷◌, ◌++◌, length, map, take, get_or, Some, sym, ap, subst, ◌∙◌, arith}
use Rattle.std.proofs.lemmas.List.{map-append, take_more, take_all, take-append-le}
use Rattle.ild_edges.specs.Among.{IsIn}
use Rattle.ild_edges.proofs.Among.{IsIn-left, IsIn-append, IsIn-one, IsIn-at}
use Rattle.ild_dirty.specs.Own.{index_at}
use Rattle.ild_dirty.specs.Beneath.{Place, HasPlace, IsTreeAt, AgreesWith, blocks_in, block_of, place_kind}
use Rattle.ild_dirty.specs.inside.Walk.{own_block, IsOneOf, Leads, Grows, LeadOn, ArePlaces, AreInside, AreBelow, AreReached, numbers_of}
use Rattle.ild_dirty.proofs.Walking.{index_found, own_found, child_place, top_is, has_top}

-- the children of so many places lead on
pub record Walked (own : List (List ℕ)) (children : ℕ → List ℕ → List (List ℕ × ℕ)) (id : List ℕ) (kind : ℕ) (passed : ℕ) (spots : List (ℕ × ℕ)) : Type 0 where
  pub rooted : Leads own ((id, kind) ∷ []) spots
  pub on : LeadOn own children (take passed spots) spots
  pub inside : AreInside own spots
  pub sound : (t : Place) → IsTreeAt children id kind t → AgreesWith own (blocks_in t) → ArePlaces own t spots

same_tree_place : (children : ℕ → List ℕ → List (List ℕ × ℕ)) (own : List (List ℕ)) (id : List ℕ) (kind : ℕ) (t : Place) → IsTreeAt children id kind t → AgreesWith own (blocks_in t) → (s : ℕ × ℕ) → IsOneOf own ((id, kind) ∷ []) s → HasPlace t (own_block own s.0) s.1
same_tree_place children own id kind t tree agrees s one =
    let is : one.child ≡ (id, kind) = IsIn-one one.child (id, kind) one.among in
    let found : index_at own id ≡ Some s.0 = subst (λ (x : List ℕ × ℕ). index_at own x.0 ≡ Some s.0) is one.found in
    let sort : kind ≡ s.1 = subst (λ (x : List ℕ × ℕ). x.1 ≡ s.1) is one.kind in
    let top : block_of t ≡ own_block own s.0 = top_is own t id (own_block own s.0) agrees tree.top (index_found own id s.0 found).1 in
    let sorts : place_kind t ≡ s.1 = tree.same_kind ∙ sort in
    rw (← top, ← sorts) (has_top t)

-- a walk begins at its root
pub walked_none : (own : List (List ℕ)) (children : ℕ → List ℕ → List (List ℕ × ℕ)) (id : List ℕ) (kind : ℕ) (spots : List (ℕ × ℕ)) → Grows own ((id, kind) ∷ []) [] spots → Walked own children id kind 0 spots
walked_none own children id kind spots grows = record {
  rooted = grows.leads;
  on = λ s none. absurd none;
  inside = λ s is. let one : IsOneOf own ((id, kind) ∷ []) s = grows.only s (subst (λ (xs : List (ℕ × ℕ)). IsIn s xs) grows.is is) in own_found own one.child.0 s.0 one.found;
  sound = λ t tree agrees s is. same_tree_place children own id kind t tree agrees s (grows.only s (subst (λ (xs : List (ℕ × ℕ)). IsIn s xs) grows.is is));
}

-- the places that were passed, and one more
passed_more : (passed : ℕ) (old new more : List (ℕ × ℕ)) (s : ℕ × ℕ) → passed < length old → s ≡ get_or old passed s → new ≡ old ++ more → take (passed + 1) new ≡ take passed old ++ s ∷ []
passed_more passed old new more s lt at is = ap (take (passed + 1)) is ∙ take-append-le (passed + 1) old more (omega (arith, lt)) ∙ take_more old passed s lt ∙ ap (λ x. take passed old ++ x ∷ []) (sym at)

-- the numbers that are noted of one place more
pub below_more : (own : List (List ℕ)) (children : ℕ → List ℕ → List (List ℕ × ℕ)) (passed : ℕ) (old new : List (ℕ × ℕ)) (s : ℕ × ℕ) (was now : List (List ℕ)) (ns : List ℕ) → passed < length old → s ≡ get_or old passed s → Grows own (children s.1 (own_block own s.0)) old new
    → AreBelow own children (take passed old) was → ns ≡ numbers_of own children s → now ≡ was ++ ns ∷ [] → AreBelow own children (take (passed + 1) new) now
below_more own children passed old new s was now ns lt at grows before is pushed =
    pushed ∙ ap (λ xs. was ++ xs ∷ []) is ∙ ap (λ xs. xs ++ numbers_of own children s ∷ []) before ∙ sym (map-append (numbers_of own children) (take passed old) (s ∷ []))
    ∙ ap (map (numbers_of own children)) (sym (passed_more passed old new grows.more s lt at grows.is))

-- the children of one place more
pub walked_more : (own : List (List ℕ)) (children : ℕ → List ℕ → List (List ℕ × ℕ)) (id : List ℕ) (kind passed : ℕ) (old new : List (ℕ × ℕ)) (s : ℕ × ℕ) → passed < length old → s ≡ get_or old passed s
    → Walked own children id kind passed old → Grows own (children s.1 (own_block own s.0)) old new → Walked own children id kind (passed + 1) new
walked_more own children id kind passed old new s lt at walked grows =
    let front : take (passed + 1) new ≡ take passed old ++ s ∷ [] = passed_more passed old new grows.more s lt at grows.is in
    record {
      rooted = λ r one. subst (λ (xs : List (ℕ × ℕ)). IsIn r xs) (sym grows.is) (IsIn-left r old grows.more (walked.rooted r one));
      on = λ r among. ⊎_elim
          (λ before. λ c one. subst (λ (xs : List (ℕ × ℕ)). IsIn c xs) (sym grows.is) (IsIn-left c old grows.more (walked.on r before c one)))
          (λ last. λ c one. grows.leads c (subst (λ (x : ℕ × ℕ). IsOneOf own (children x.1 (own_block own x.0)) c) (IsIn-one r s last) one))
          (IsIn-append r (take passed old) (s ∷ []) (subst (λ (xs : List (ℕ × ℕ)). IsIn r xs) front among));
      inside = λ r among. ⊎_elim (λ before. walked.inside r before) (λ came. let one : IsOneOf own (children s.1 (own_block own s.0)) r = grows.only r came in own_found own one.child.0 r.0 one.found)
          (IsIn-append r old grows.more (subst (λ (xs : List (ℕ × ℕ)). IsIn r xs) grows.is among));
      sound = λ t tree agrees r among. ⊎_elim
          (λ before. walked.sound t tree agrees r before)
          (λ came.
          let one : IsOneOf own (children s.1 (own_block own s.0)) r = grows.only r came in
          let here : HasPlace t (own_block own s.0) s.1 = walked.sound t tree agrees s (IsIn-at old passed s s lt at) in
          let place : HasPlace t (own_block own r.0) one.child.1 = child_place children own t tree.tree agrees (own_block own s.0) s.1 here one.child one.among (own_block own r.0) (index_found own one.child.0 r.0 one.found).1 in
          subst (λ (k : ℕ). HasPlace t (own_block own r.0) k) one.kind place)
          (IsIn-append r old grows.more (subst (λ (xs : List (ℕ × ℕ)). IsIn r xs) grows.is among));
    }

-- a walk ends where all have been passed
pub walked_all : (own : List (List ℕ)) (children : ℕ → List ℕ → List (List ℕ × ℕ)) (id : List ℕ) (kind passed : ℕ) (spots : List (ℕ × ℕ)) → length spots ≤ passed → Walked own children id kind passed spots → AreReached own children id kind spots
walked_all own children id kind passed spots le walked = record {
  rooted = walked.rooted;
  closed = subst (λ (xs : List (ℕ × ℕ)). LeadOn own children xs spots) (take_all passed spots le) walked.on;
  inside = walked.inside;
  sound = walked.sound;
}
