-- What is said of the segments of a path that are followed in one block.
use Rattle.std.proofs.Common.{◌≡◌, ℕ, zero, suc, ◌+◌, List, [], ◌∷◌, length, drop, Option, Some, None, Err, refl, sym, ap, subst, arith}
use Rattle.std.specs.Option.{option_map_or}
use Rattle.std.specs.Prelude.{MatchOption}
use Rattle.ild_data.specs.Data.{Data}
use Rattle.ild_data.specs.Spell.{spell}
use Rattle.ild_inclusion.specs.Says.{Ends, Enters, Follows}
use Rattle.ild_inclusion.specs.declared.answer.Answer.{Answer}
use Rattle.ild_inclusion.specs.declared.answer.Answer.TheVariants as A
use Rattle.ild_inclusion_prove.specs.inside.Adds.{FollowsSome, IsAnswer}
use Rattle.ild_path_edits.specs.Along.{room_below}
use Rattle.ild_path_edits.specs.Stop.{stopped}
use Rattle.ild_path_inward.specs.Halts.{room_stopped}
use Rattle.ild_schema.specs.declared.number.Slot.{Slot}
use Rattle.ild_schema.specs.declared.row.Row.{Row}
use Rattle.ild_typed.specs.At.{InSlot, seen}
use Rattle.ild_typed.specs.Hamt.{alone}
use Rattle.ild_typed.specs.Represented.{represented}
use Rattle.ild_typed.specs.Segment.{part}
use Rattle.ild_view.specs.Parts.{IsPartView}
use Rattle.ild_view.specs.Roots.{root_in}
use Rattle.ild_view.specs.View.{table_of}
use Rattle.ild_view.specs.declared.view.View.{View}

module _ (h : List ℕ → List ℕ) (rows : List Row) (room : ℕ) (p : InSlot) (s : List ℕ) (ss bs : List (List ℕ)) (k i : ℕ) (a : Answer) where
  -- where a segment leads to no part in the block
  abbrev pub AtRoot : Option Data → Type 0
  AtRoot d =
      Enters rows (h s) s (room_below rows room p s) p.0 i bs (λ j q cs. Follows h rows (IsAnswer a) (room_below rows room p s) (k + 1) j q ss cs) (λ j cs. Ends (IsAnswer a) j cs (A.Absent k)) (λ r. IsAnswer a (Err r)) d

  -- a segment, by the part to which it leads
  abbrev pub ByPart : Option InSlot → Type 0
  ByPart o = MatchOption o (AtRoot (root_in p.1)) (λ q. Follows h rows (IsAnswer a) (room_below rows room p s) (k + 1) i q ss bs)

module _ (h : List ℕ → List ℕ) (rows : List Row) where
  goes_to : (room : ℕ) (p q : InSlot) (s : List ℕ) (ss bs : List (List ℕ)) → part (seen rows p) s ≡ Some q → FollowsSome h rows (room_below rows room p s) q ss bs → FollowsSome h rows room p (s ∷ ss) bs
  goes_to room p q s ss bs is on = λ k i.
      let y = on (k + 1) i in
      (y.0, subst (λ (o : Option InSlot). ByPart h rows room p s ss bs k i y.0 o) (sym is) y.1)

  -- as far as the path leads in one block
  pub stops_as : (path : List (List ℕ)) (room : ℕ) (p : InSlot) (bs : List (List ℕ)) → FollowsSome h rows (room_stopped rows room p path) (stopped rows p path).part (stopped rows p path).left bs → FollowsSome h rows room p path bs
  stops_as [] room p bs x = x
  stops_as (s ∷ ss) room p bs x = by (part (seen rows p) s) refl x (λ q. stops_as ss (room_below rows room p s) q bs) where
    by : (o : Option InSlot) → part (seen rows p) s ≡ o
        → FollowsSome h rows (option_map_or (λ q. room_stopped rows (room_below rows room p s) q ss) o room) (option_map_or (λ q. stopped rows q ss) o (record { part = p; left = s ∷ ss })).part
        (option_map_or (λ q. stopped rows q ss) o (record { part = p; left = s ∷ ss })).left bs
        → ((q : InSlot) → FollowsSome h rows (room_stopped rows (room_below rows room p s) q ss) (stopped rows q ss).part (stopped rows q ss).left bs → FollowsSome h rows (room_below rows room p s) q ss bs)
        → FollowsSome h rows room p (s ∷ ss) bs
    by None e y on = y
    by (Some q) e y on = goes_to room p q s ss bs e (on q y)

  -- at its end
  pub ends_here : (room : ℕ) (q : InSlot) (w : View) → IsPartView rows q w → FollowsSome h rows room q [] []
  ends_here room q w x = λ k i. (
    A.Here (spell x.view.tree),
    record {
      tree = x.view.tree;
      shown = subst (λ (r : List Row). represented alone r q.0 q.1 ≡ Some x.view.tree) x.table (subst (λ (u : Slot). represented alone (table_of w) u q.1 ≡ Some x.view.tree) x.slot x.view.front.tree);
      ends = refl;
    },
  )

  -- where it leads nowhere
  pub ends_nowhere : (room : ℕ) (q : InSlot) (s : List ℕ) (ss : List (List ℕ)) → part (seen rows q) s ≡ None → root_in q.1 ≡ None → FollowsSome h rows room q (s ∷ ss) []
  ends_nowhere room q s ss none plain = λ k i. (
    A.Absent k,
    subst (λ (o : Option InSlot). ByPart h rows room q s ss [] k i (A.Absent k) o) (sym none) (subst (λ (d : Option Data). AtRoot h rows room q s ss [] k i (A.Absent k) d) (sym plain) refl),
  )

-- ---- the segments that are left

abbrev head_or : List ℕ → List (List ℕ) → List ℕ
head_or x [] = x
head_or x (y ∷ ys) = y

module _ (rows : List Row) where
  -- the first leads to no part
  pub left_nowhere : (path : List (List ℕ)) (p : InSlot) (s : List ℕ) (ss : List (List ℕ)) → (stopped rows p path).left ≡ s ∷ ss → part (seen rows (stopped rows p path).part) s ≡ None
  left_nowhere [] p s ss e = absurd cc
  left_nowhere (t ∷ ts) p s ss e = by (part (seen rows p) t) refl e (λ q. left_nowhere ts q s ss) where
    by : (o : Option InSlot) → part (seen rows p) t ≡ o → (option_map_or (λ q. stopped rows q ts) o (record { part = p; left = t ∷ ts })).left ≡ s ∷ ss
        → ((q : InSlot) → (stopped rows q ts).left ≡ s ∷ ss → part (seen rows (stopped rows q ts).part) s ≡ None) → part (seen rows (option_map_or (λ q. stopped rows q ts) o (record { part = p; left = t ∷ ts })).part) s ≡ None
    by None own is on = subst (λ (x : List ℕ). part (seen rows p) x ≡ None) (ap (head_or t) is) own
    by (Some q) own is on = on q is

  -- they are the end of the path
  pub record IsEndOf (path left : List (List ℕ)) : Type 0 where
    pub before : ℕ
    pub many : before + length left ≡ length path
    pub is : drop before path ≡ left

  pub left_ends : (path : List (List ℕ)) (p : InSlot) → IsEndOf path (stopped rows p path).left
  left_ends [] p = record { before = zero; many = refl; is = refl }
  left_ends (s ∷ ss) p = by (part (seen rows p) s) (λ q. left_ends ss q) where
    by : (o : Option InSlot) → ((q : InSlot) → IsEndOf ss (stopped rows q ss).left) → IsEndOf (s ∷ ss) (option_map_or (λ q. stopped rows q ss) o (record { part = p; left = s ∷ ss })).left
    by None on = record { before = zero; many = omega arith; is = refl }
    by (Some q) on = let x = on q in record { before = suc x.before; many = (let e = x.many in omega (arith, e)); is = x.is }
