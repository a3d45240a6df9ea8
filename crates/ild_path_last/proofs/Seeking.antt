-- The first of the pairs of a list, by its key.
use Rattle.std.proofs.Common.{◌≡◌, ℕ, List, [], ◌∷◌, Bool, true, false, map, Some, None, sym, ◌∙◌}
use Rattle.ild_cbor.specs.Nodes.{HasData}
use Rattle.ild_cbor.specs.Steps.{ItemsGive}
use Rattle.ild_cbor.specs.declared.items.Items.{Items}
use Rattle.ild_cbor.specs.declared.node.Node.{Node}
use Rattle.ild_data.specs.Data as T
use Rattle.ild_data.specs.Data.{Data}
use Rattle.ild_data.specs.Key.{same_text}
use Rattle.ild_typed.specs.Strings.{pair_data}
use Rattle.ild_path_last.specs.inside.Seats.{SeatIsBehind}
use Rattle.ild_path_steps.specs.Seats.{HasPairs}

module _ (k : List ℕ) (s t : Items) (item : Node) (b : Bool) (gives : ItemsGive s (Some item) t) (keyed : (e : List ℕ × Data) → HasData item (pair_data e) → b ≡ same_text k e.0) where
  pub passed : b ≡ true → (es : List (List ℕ × Data)) → HasPairs s es → SeatIsBehind k es (Some t)
  passed is [] h = absurd (gives T.no_items h)
  passed is (e ∷ es) h =
      let step = gives (T.item (pair_data e) (T.items_of (map pair_data es))) h in
      (sym (keyed e step.stands) ∙ is, step.left)

  pub not_passed : b ≡ false → (es : List (List ℕ × Data)) → HasPairs s es → SeatIsBehind k es None
  not_passed is [] h = absurd (gives T.no_items h)
  not_passed is (e ∷ es) h = let step = gives (T.item (pair_data e) (T.items_of (map pair_data es))) h in sym (keyed e step.stands) ∙ is

pub none_passed : (k : List ℕ) (s t : Items) → ItemsGive s None t → (es : List (List ℕ × Data)) → HasPairs s es → SeatIsBehind k es None
none_passed k s t gives [] h = tt
none_passed k s t gives (e ∷ es) h = absurd (gives (T.item (pair_data e) (T.items_of (map pair_data es))) h)
