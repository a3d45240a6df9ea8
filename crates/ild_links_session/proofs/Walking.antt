-- Walks in two contents that hold the same under each id.
use Rattle.std.proofs.Common.{◌≡◌, ◌⊎◌, inl, inr, ℕ, zero, suc, ◌+◌, List, [], ◌∷◌, Bool, drop, Option, Some, None, refl, sym, ap, ◌∙◌, subst}
use Rattle.std.specs.List.{AllByRecursion}
use Rattle.std.proofs.lemmas.Option.{none-some}
use Rattle.std.specs.Prelude.{Contains}
use Rattle.ild_data.specs.Spell.{id_of}
use Rattle.ild_edges.specs.Gained.{CameFrom}
use Rattle.ild_edges.specs.Store.{Keeps, Moment, block_at}
use Rattle.ild_edges.specs.Told.{BothTold}
use Rattle.ild_links.specs.Trees.{HasNone, Meaning, Stands, Tree}
use Rattle.ild_links.specs.Walk.{Walk, Walked, linked_tree}
use Rattle.ild_links_session.proofs.Twice.{LeavesAsIs, none_among}
use Rattle.ild_schema.specs.declared.number.TypeNo.{TypeNo}
use Rattle.ild_script.specs.declared.reply.Reply.{Reply}
use Rattle.ild_script_session.specs.Batch.{beside, together}
use Rattle.ild_script_session.specs.Session.{Due, Meaning as LineMeaning, Stage, State}
use Rattle.ild_script_session.specs.Step.{Replies, StaysTogether}
use Rattle.std.specs.Prelude.{IfSome}

-- under each id the same block is held
abbrev pub HoldSame : List (List ℕ) → List (List ℕ) → Type 0
HoldSame was now = (id : List ℕ) → block_at was id ≡ block_at now id

-- ---- walks

module _ {V : Type 0} (S : Bool → TypeNo → V → Type 0) (M : Meaning V) where
  all_same : (was now : List (List ℕ)) → HoldSame was now → (bs : List (List ℕ)) → AllByRecursion (λ b. block_at was (id_of b) ≡ Some b) bs → AllByRecursion (λ b. block_at now (id_of b) ≡ Some b) bs
  all_same was now same [] all = tt
  all_same was now same (b ∷ bs) all = (sym (same (id_of b)) ∙ all.0, all_same was now same bs all.1)

  stands_same : (was now : List (List ℕ)) → HoldSame was now → (t : Tree) (v : V) → Stands S M was t v → Stands S M now t v
  stands_same was now same t v s = record { storable = s.storable; root = s.root; all = all_same was now same (M.blocks t.first t.ty v) s.all }

  none_same : (was now : List (List ℕ)) → HoldSame was now → (t : Tree) → HasNone S M was t → HasNone S M now t
  none_same was now same t none v s = none v (stands_same now was (λ id. sym (same id)) t v s)

  pub walk_same : (was now : List (List ℕ)) → HoldSame was now → (path : List (List ℕ)) (n : ℕ) (t : Tree) (v : V) (from : ℕ) (w : Walked V) → Walk S M was path n t v from w → Walk S M now path n t v from w
  unfolding Walk
  walk_same was now same path zero t v from w (inl e) = inl (record { link = e.link; is = e.is })
  walk_same was now same path zero t v from w (inr e) = inr (record { to = e.to; link = e.link; is = e.is })
  walk_same was now same path (suc n) t v from w (inl e) = inl (record { link = e.link; is = e.is })
  walk_same was now same path (suc n) t v from w (inr (inl e)) = inr (inl (record { to = e.to; link = e.link; none = none_same was now same (linked_tree e.to) e.none; is = e.is }))
  walk_same was now same path (suc n) t v from w (inr (inr e)) = inr (inr (record {
    to = e.to;
    link = e.link;
    value = e.value;
    stands = stands_same was now same (linked_tree e.to) e.value e.stands;
    rest = e.rest;
    walk = walk_same was now same path n (linked_tree e.to) e.value (from + M.reach t.ty v (drop from path)) e.rest e.walk;
    is = e.is;
  }))

-- ---- what is held together, where nothing came

came_same : (adds was now : List (List ℕ)) → adds ≡ [] → Keeps was now → CameFrom adds was now → HoldSame was now
came_same adds was now none keeps came id = by (block_at was id) (block_at now id) refl refl where
  back : (b : List ℕ) → (block_at was id ≡ Some b) ⊎ Contains adds b → block_at was id ≡ Some b
  back b (inl there) = there
  back b (inr new) = absurd (none_among adds b none new)

  by : (a b : Option (List ℕ)) → block_at was id ≡ a → block_at now id ≡ b → block_at was id ≡ block_at now id
  by a (Some c) was_is now_is = back c (came id c now_is) ∙ sym now_is
  by None None was_is now_is = was_is ∙ sym now_is
  by (Some c) None was_is now_is = absurd (none-some c (sym now_is ∙ keeps id c was_is))

told_same : (adds : List (List ℕ)) (a b : Option (List (List ℕ))) → adds ≡ [] → BothTold a b Keeps → BothTold a b (CameFrom adds) → BothTold a b HoldSame
told_same adds None None none keeps came = tt
told_same adds None (Some y) none keeps came = absurd keeps
told_same adds (Some x) None none keeps came = absurd keeps
told_same adds (Some x) (Some y) none keeps came = came_same adds x y none keeps came

same_told : (a b : Option (List (List ℕ))) → b ≡ a → BothTold a b HoldSame
same_told None b is = subst (λ (o : Option (List (List ℕ))). BothTold None o HoldSame) (sym is) tt
same_told (Some x) b is = subst (λ (o : Option (List (List ℕ))). BothTold (Some x) o HoldSame) (sym is) (λ id. refl)

-- a content beside which another holds the same
pub record SameHeld (was : List (List ℕ)) (o : Option (List (List ℕ))) : Type 0 where
  pub now : List (List ℕ)
  pub is : o ≡ Some now
  pub same : HoldSame was now

of_told : (was : List (List ℕ)) (a b : Option (List (List ℕ))) → a ≡ Some was → BothTold a b HoldSame → SameHeld was b
of_told was a b is both = by b (subst (λ (o : Option (List (List ℕ))). BothTold o b HoldSame) is both) where
  by : (b : Option (List (List ℕ))) → BothTold (Some was) b HoldSame → SameHeld was b
  by None both = absurd both
  by (Some now) both = record { now = now; is = refl; same = both }

module _ {V : Type 0} (M : LineMeaning V) (m n : Moment) (s t : Stage V) (d : Due V) (q : Option Reply) (as_is : LeavesAsIs d s.state) (r : Replies M m s d q n t) (state : t.state ≡ s.state) where
  both_same : (o : Option V) → t.state.begun ≡ o → IfSome o (λ v. StaysTogether m s d n t) → BothTold (together m s).blocks (together n t).blocks HoldSame
  both_same None begun stays =
      let outside : (together m s).blocks ≡ m.blocks = ap (λ o. (beside o s.own m).blocks) (sym (ap (λ (x : State V). x.begun) state) ∙ begun) in
      let then : (together n t).blocks ≡ n.blocks = ap (λ o. (beside o t.own n).blocks) begun in
      same_told (together m s).blocks (together n t).blocks (then ∙ r.still as_is.puts ∙ sym outside)
  both_same (Some v) begun stays = told_same d.adds (together m s).blocks (together n t).blocks as_is.adds stays.keeps stays.gained.adds

  -- what is held together is the same then
  pub held_then : (held : List (List ℕ)) → (together m s).blocks ≡ Some held → SameHeld held (together n t).blocks
  held_then held is = of_told held (together m s).blocks (together n t).blocks is (both_same t.state.begun refl r.stays)
