-- The tree in which a walk ends.
use Rattle.std.proofs.Common.{◌≡◌, inl, inr, ℕ, zero, suc, ◌+◌, ◌-◌, ◌<◌, ◌≤◌, Bool, List, [], ◌∷◌, length, drop, Some, None, refl, sym, ap, ◌∙◌, subst, arith}
use Rattle.std.specs.List.{slice_get}
use Rattle.std.proofs.lemmas.Option.{none-some, same_Some}
use Rattle.ild_links.proofs.Walks.{walk_first}
use Rattle.ild_links.specs.Follows.{AreTyped, hops_of}
use Rattle.ild_links.specs.Trees.{Meaning, Stands, Tree, tree_of}
use Rattle.ild_links.specs.Walk.{Entered, Walk, Walked, entered, linked_tree}
use Rattle.ild_links.specs.declared.hop.Hop.{Hop}
use Rattle.ild_links_lines.specs.Lines.{last_tree}
use Rattle.ild_links_walk.specs.Last.{crossed, last_hop}
use Rattle.ild_schema.specs.Value.{Value}
use Rattle.ild_schema.specs.declared.number.TypeNo.{TypeNo}

-- ---- hops

last_at : (h : Hop) (hs : List Hop) → slice_get (h ∷ hs) (length hs) ≡ Some (last_hop h hs)
last_at h [] = refl
last_at h (k ∷ hs) = last_at k hs

pub crossed_at : (hs : List Hop) → 2 ≤ length hs → slice_get hs (length hs - 1) ≡ crossed hs
crossed_at [] some = absurd (omega (arith, some))
crossed_at (h ∷ []) some = absurd (omega (arith, some))
crossed_at (h ∷ k ∷ hs) some = let one : length (h ∷ k ∷ hs) - 1 ≡ suc (length hs) = omega arith in ap (slice_get (h ∷ k ∷ hs)) one ∙ last_at k hs

pub none_crossed : (hs : List Hop) → length hs < 2 → crossed hs ≡ None
none_crossed [] few = refl
none_crossed (h ∷ []) few = refl
none_crossed (h ∷ k ∷ hs) few = absurd (omega (arith, few))

last_typed : (types : ℕ) (h : Hop) (hs : List Hop) → AreTyped types (h ∷ hs) → (last_hop h hs).ty.0 < types
last_typed types h [] all = all.0
last_typed types h (k ∷ hs) all = last_typed types k hs all.1

pub crossed_typed : (types : ℕ) (hs : List Hop) (hop : Hop) → AreTyped types hs → crossed hs ≡ Some hop → hop.ty.0 < types
crossed_typed types [] hop all is = absurd (none-some hop is)
crossed_typed types (h ∷ []) hop all is = absurd (none-some hop is)
crossed_typed types (h ∷ k ∷ hs) hop all is = subst (λ (x : Hop). x.ty.0 < types) (same_Some (last_hop k hs) hop is) (last_typed types k hs all.1)

-- the hop of the last tree
pub last_is : (e : Entered Value) (es : List (Entered Value)) → last_hop e.hop (hops_of es) ≡ (last_tree e es).hop
last_is e [] = refl
last_is e (f ∷ es) = last_is f es

-- ---- what stands there

module _ (Storable : Bool → TypeNo → Value → Type 0) (M : Meaning Value) (held : List (List ℕ)) (path : List (List ℕ)) where
  abbrev In : Entered Value → Type 0
  In e = Stands Storable M held (tree_of e.hop) e.value

  abbrev LastIn : List (Entered Value) → Type 0
  LastIn [] = Unit {0}
  LastIn (e ∷ es) = In (last_tree e es)

  more_in : (e : Entered Value) (es : List (Entered Value)) → 0 < length es → LastIn es → LastIn (e ∷ es)
  more_in e [] some all = absurd (omega (arith, some))
  more_in e (f ∷ es) some all = all

  -- a value stands for the last tree of a walk
  last_in : (n : ℕ) (t : Tree) (v : Value) (from : ℕ) (w : Walked Value) → Stands Storable M held t v → Walk Storable M held path n t v from w → LastIn w.trees
  unfolding Walk
  last_in zero t v from w stands (inl e) = subst (λ (x : Walked Value). LastIn x.trees) (sym e.is) stands
  last_in zero t v from w stands (inr e) = subst (λ (x : Walked Value). LastIn x.trees) (sym e.is) stands
  last_in (suc n) t v from w stands (inl e) = subst (λ (x : Walked Value). LastIn x.trees) (sym e.is) stands
  last_in (suc n) t v from w stands (inr (inl e)) = subst (λ (x : Walked Value). LastIn x.trees) (sym e.is) stands
  last_in (suc n) t v from w stands (inr (inr e)) =
      let rest = last_in n (linked_tree e.to) e.value (from + M.reach t.ty v (drop from path)) e.rest e.stands e.walk in
      let f = walk_first Storable M held path n (linked_tree e.to) e.value (from + M.reach t.ty v (drop from path)) e.rest e.walk in
      let some = ap length f.is in
      subst (λ (x : Walked Value). LastIn x.trees) (sym e.is) (more_in (entered Storable M held path t v from) e.rest.trees (omega (arith, some)) rest)

  pub last_stands : (n : ℕ) (t : Tree) (v : Value) (from : ℕ) (w : Walked Value) (e : Entered Value) (es : List (Entered Value)) → w.trees ≡ e ∷ es → Stands Storable M held t v → Walk Storable M held path n t v from w → In (last_tree e es)
  last_stands n t v from w e es are stands walk = subst (λ (x : List (Entered Value)). LastIn x) are (last_in n t v from w stands walk)
