-- What is known of a place without a store: what its end lets be done, and that its HAMTs stand one in the block of another's entry.
use Rattle.std.specs.Prelude.{Bool, true, false, List, Option, Some, None, ℕ}
use Rattle.ild_path_hops.specs.Links.{AreLinked, IsPartAt, IsRootAt, RootBehind}
use Rattle.ild_path_hops.specs.declared.hop.Hop.{Hop}
use Rattle.ild_path_place.specs.declared.place.End.{End}
use Rattle.ild_path_place.specs.declared.place.End.TheVariants as D
use Rattle.ild_path_place.specs.declared.verb.Verb.{Verb}
use Rattle.ild_path_place.specs.declared.verb.Verb.TheVariants as V
use Rattle.ild_schema.specs.Value.{Value}
use Rattle.ild_schema.specs.declared.row.Row.{Row}
use Rattle.ild_typed.specs.At.{InSlot}
use Rattle.ild_view.specs.View.{IsView, slot_of, table_of}
use Rattle.ild_view.specs.declared.view.View.{View}

-- the whole of a value is set alone
abbrev pub may_be : End → Verb → Bool
may_be D.Whole V.Set = true
may_be D.Whole V.Ins = false
may_be D.Whole V.Del = false
may_be (D.InBlock path) verb = true
may_be (D.AtKey front trail entry) verb = true

abbrev pub is_whole : End → Bool
is_whole D.Whole = true
is_whole (D.InBlock path) = false
is_whole (D.AtKey front trail entry) = false

-- the segments to the HAMT at whose key it is
abbrev pub front_at : End → Option (List (List ℕ))
front_at D.Whole = None
front_at (D.InBlock path) = None
front_at (D.AtKey front trail entry) = Some front

-- they lead to the root of a HAMT
abbrev pub EndLeads : List Row → InSlot → End → Type 0
EndLeads rows p D.Whole = Unit {0}
EndLeads rows p (D.InBlock path) = Unit {0}
EndLeads rows p (D.AtKey front trail entry) = IsRootAt rows p front

-- where these segments lead to a part
abbrev pub EndFollows : View → List (List ℕ) → End → Type 0
EndFollows view front end = (f : Value) → IsView view f → IsPartAt (table_of view) (slot_of view, f) front → EndLeads (table_of view) (slot_of view, f) end

abbrev pub EndBehind : View → List Hop → End → Type 0
EndBehind root hops D.Whole = Unit {0}
EndBehind root hops (D.InBlock path) = Unit {0}
EndBehind root hops (D.AtKey front trail entry) = RootBehind root hops front

pub record IsLinked (root : View) (hops : List Hop) (end : End) : Type 0 where
  pub hops_are : AreLinked root hops
  pub leads : EndBehind root hops end
