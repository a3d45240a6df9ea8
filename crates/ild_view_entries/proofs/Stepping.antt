-- Steps over the entries of a map: the first that is left, and those behind it.
use Rattle.std.proofs.Common.{ℕ, List, [], ◌∷◌, map, Some, None}
use Rattle.std.specs.Borrow.{Bor}
use Rattle.ild_data.specs.Data as T
use Rattle.ild_data.specs.Data.{Data}
use Rattle.ild_cbor.specs.Nodes.{HasData}
use Rattle.ild_cbor.specs.Steps.{HasItems, ItemsGive}
use Rattle.ild_cbor.specs.declared.items.Items.{Items as ItemsLeft}
use Rattle.ild_cbor.specs.declared.node.Node.{Node}
use Rattle.ild_cbor.specs.declared.piece.Piece.TheVariants as Q
use Rattle.ild_view_entries.specs.Left.{FirstStep, IsPairOf}
use Rattle.ild_view_entries.specs.declared.left.EntriesLeft.TheVariants as R
use Rattle.ild_layer_piece.specs.Entries.{EntriesGive, HasLeft}
use Rattle.ild_layer_piece.specs.declared.walk.MapEntries.{MapEntries}
use Rattle.ild_typed.specs.Strings.{pair_data}

-- ---- entries, form by form

pub map_first : (s after : MapEntries) (k : Bor (List ℕ)) (n : Node) → EntriesGive s (Some (k, n)) after → (es : List (List ℕ × Data)) → HasLeft s es → FirstStep es (Some (k, Q.Node n, R.Map after))
map_first s after k n gives [] left = absurd (gives [] left)
map_first s after k n gives (e ∷ es) left = let x = gives (e ∷ es) left in record { key = x.key_is; stands = λ rows. x.stands; left = x.left }

pub map_none : (s after : MapEntries) → EntriesGive s None after → (es : List (List ℕ × Data)) → HasLeft s es → FirstStep es None
map_none s after gives [] left = tt
map_none s after gives (e ∷ es) left = absurd (gives (e ∷ es) left)

pub pair_first : (s after : ItemsLeft) (item : Node) (k : Bor (List ℕ)) (n : Node) → ItemsGive s (Some item) after → ((e : List ℕ × Data) → HasData item (pair_data e) → IsPairOf e (Some (k, n)))
    → (es : List (List ℕ × Data)) → HasItems s (T.items_of (map pair_data es)) → FirstStep es (Some (k, Q.Node n, R.ListPairs after))
pair_first s after item k n gives read [] left = absurd (gives T.no_items left)
pair_first s after item k n gives read (e ∷ es) left =
    let x = gives (T.items_of (map pair_data (e ∷ es))) left in
    let p = read e x.stands in
    record { key = p.0; stands = λ rows. p.1; left = x.left }

pub pair_odd : (s after : ItemsLeft) (item : Node) → ItemsGive s (Some item) after → ((e : List ℕ × Data) → HasData item (pair_data e) → IsPairOf e None)
    → (es : List (List ℕ × Data)) → HasItems s (T.items_of (map pair_data es)) → FirstStep es None
pair_odd s after item gives read [] left = tt
pair_odd s after item gives read (e ∷ es) left = absurd (read e (gives (T.items_of (map pair_data (e ∷ es))) left).stands)

pub pair_none : (s after : ItemsLeft) → ItemsGive s None after → (es : List (List ℕ × Data)) → HasItems s (T.items_of (map pair_data es)) → FirstStep es None
pair_none s after gives [] left = tt
pair_none s after gives (e ∷ es) left = absurd (gives (T.items_of (map pair_data (e ∷ es))) left)
