-- The first of the parts that are left, by the form of the struct.
use Rattle.std.proofs.Common.{◌≡◌, ℕ, List, [], ◌∷◌, map, Some, None, refl, ◌∙◌, ap, ◌⊎◌}
use Rattle.std.specs.Borrow.{Bor}
use Rattle.ild_data.specs.Data as T
use Rattle.ild_data.specs.Data.{Data}
use Rattle.ild_cbor.specs.Nodes.{HasData}
use Rattle.ild_cbor.specs.Steps.{HasItems, ItemsGive}
use Rattle.ild_cbor.specs.declared.items.Items.{Items}
use Rattle.ild_cbor.specs.declared.node.Node.{Node}
use Rattle.ild_cbor.specs.declared.piece.Piece.TheVariants as C
use Rattle.ild_schema.specs.Clear.{AreNamesApart}
use Rattle.ild_schema.specs.declared.def.Field.{Field}
use Rattle.ild_typed.specs.Strings.{pair_data}
use Rattle.ild_typed.specs.StructWhy.{place_of}
use Rattle.ild_layer_piece.specs.Entries.{EntriesGive, HasLeft}
use Rattle.ild_layer_piece.specs.declared.walk.MapEntries.{MapEntries}
use Rattle.ild_layer_fields.specs.Pairs.{IsPairOf}
use Rattle.ild_layer_fields.specs.Entries.{by_place}
use Rattle.ild_struct.specs.inside.Stepping.{TakesField}
use Rattle.ild_struct.specs.declared.left.Left.TheVariants as L
use Rattle.ild_layer_fields.specs.declared.pair.Pair.{Pair}
use Rattle.ild_layer_fields.specs.declared.pair.Pair.TheVariants as P
use Rattle.ild_layer_fields.proofs.Pairing.{pair_of, no_pair_of}

-- ---- entries of a map

pub no_entry : (fs : List Field) (es : List (List ℕ × Data)) (s t : MapEntries) → EntriesGive s None t → HasLeft s es → TakesField fs (by_place fs es) None
no_entry fs [] s t gives left = tt
no_entry fs (e ∷ es) s t gives left = absurd (gives (e ∷ es) left)

pub entry_first : (fs : List Field) (es : List (List ℕ × Data)) (s t : MapEntries) (k : Bor (List ℕ)) (n : Node) (place guess : ℕ) → EntriesGive s (Some (k, n)) t → HasLeft s es → AreNamesApart fs → place ≡ place_of fs k.now
    → TakesField fs (by_place fs es) (Some (place, C.Node n, L.Map t guess))
entry_first fs [] s t k n place guess gives left apart is = absurd (gives [] left)
entry_first fs (e ∷ es) s t k n place guess gives left apart is =
    let x = gives (e ∷ es) left in
    record { number = is ∙ ap (place_of fs) x.key_is; stands = λ rows. x.stands; left = (apart, es, x.left, refl) }

-- ---- pairs of a list

pub no_pair : (fs : List Field) (es : List (List ℕ × Data)) (s t : Items) → ItemsGive s None t → HasItems s (T.items_of (map pair_data es)) → TakesField fs (by_place fs es) None
no_pair fs [] s t gives left = tt
no_pair fs (e ∷ es) s t gives left = absurd (gives (T.items_of (map pair_data (e ∷ es))) left)

pub pair_first : (fs : List Field) (es : List (List ℕ × Data)) (s t : Items) (item : Node) (k : Bor (List ℕ)) (n : Node) (place : ℕ) → ItemsGive s (Some item) t → HasItems s (T.items_of (map pair_data es))
    → ((d : Data) → HasData item d → IsPairOf d (P.Entry k n)) → AreNamesApart fs → place ≡ place_of fs k.now
    → TakesField fs (by_place fs es) (Some (place, C.Node n, L.ListPairs t))
pair_first fs [] s t item k n place gives left read apart is = absurd (gives T.no_items left)
pair_first fs (e ∷ es) s t item k n place gives left read apart is =
    let x = gives (T.items_of (map pair_data (e ∷ es))) left in
    let p = pair_of e k n (read (pair_data e) x.stands) in
    record { number = is ∙ ap (place_of fs) p.0; stands = λ rows. p.1; left = (apart, es, x.left, refl) }

-- what is no name with a value doesn't come
pub odd_pair : (fs : List Field) (es : List (List ℕ × Data)) (s t : Items) (item : Node) (pair : Pair) → ItemsGive s (Some item) t → HasItems s (T.items_of (map pair_data es))
    → ((d : Data) → HasData item d → IsPairOf d pair) → (pair ≡ P.Odd) ⊎ ((pair ≡ P.Empty) ⊎ ((k : Bor (List ℕ)) × (pair ≡ P.Name k)))
    → TakesField fs (by_place fs es) None
odd_pair fs [] s t item pair gives left read other = tt
odd_pair fs (e ∷ es) s t item pair gives left read other = no_pair_of e pair (read (pair_data e) (gives (T.items_of (map pair_data (e ∷ es))) left).stands) other
