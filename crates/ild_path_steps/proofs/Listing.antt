-- Elements of a list in a block, by their segments.
use Rattle.std.proofs.Common.{◌≡◌, ◌<◌, ◌^◌, ℕ, List, [], ◌∷◌, length, Option, Some, sym, ap, subst, arith}
use Rattle.std.specs.Prelude.{option_and_then, slice_get}
use Rattle.std.specs.Option.{option_map_or}
use Rattle.ild_cbor.specs.Scalar.{kind_of}
use Rattle.ild_cbor.specs.declared.kind.Kind.TheVariants as K
use Rattle.ild_cbor.specs.declared.piece.Piece.{Piece}
use Rattle.ild_cbor.specs.declared.piece.Piece.TheVariants as Q
use Rattle.ild_splice_changes.specs.TreeChange.{nth, unchanged}
use Rattle.ild_view.proofs.Reaching.{list_short}
use Rattle.ild_data.proofs.Options.{chain_some, map_some}
use Rattle.ild_data.proofs.Gets.{got_below}
use Rattle.ild_data.specs.Data as T
use Rattle.ild_data.specs.Data.{Data, Items, items_list}
use Rattle.ild_path_changes.specs.Lift.{lift_in, lift_within}
use Rattle.ild_layer_piece.specs.Pieces.{StandsFor}
use Rattle.ild_schema.specs.Prelude.{anything}
use Rattle.ild_schema.specs.declared.row.Row.{Row}
use Rattle.ild_typed.specs.At.{InSlot}
use Rattle.ild_typed.specs.Holder.{any_elements, any_holder, of_any}
use Rattle.ild_typed.specs.Segment.{index_of, part}
use Rattle.ild_path_steps.specs.Steps.{Lifts, LiftsAlways}
use Rattle.ild_path_steps.specs.declared.steps.PartSteps.{PartSteps}
use Rattle.ild_path_steps.specs.declared.steps.PartSteps.TheVariants as P

pub items_few : (rows : List Row) (p : Piece) (ds : Items) → StandsFor rows p (T.list ds) → length (items_list ds) < 2 ^ 64
items_few rows (Q.Node n) ds h = list_short ds h.within.sized
items_few rows (Q.Text s) ds h = absurd cc
items_few rows (Q.Bytes s) ds h = absurd cc
items_few rows (Q.Inline n u) ds h = let e = h.rest in absurd cc

-- inside an Any
pub inside_list : (rows : List Row) (p : Piece) (t : Data) (s : List ℕ) (q : InSlot) (r : Option PartSteps) → StandsFor rows p t → K.List ≡ kind_of t → part (any_holder t) s ≡ Some q
    → ((i : ℕ) → index_of s ≡ Some i → i < 2 ^ 64 → r ≡ Some (P.Item i)) → LiftsAlways (any_holder t) s r
inside_list rows p (T.list ds) s q r stands is there found =
    let x = map_some {Y = InSlot} (λ d. (anything, of_any d)) (option_and_then (λ i. slice_get (items_list ds) i) (index_of s)) q there in
    let y = chain_some (λ i. slice_get (items_list ds) i) (index_of s) x.0 x.1 in
    let few = items_few rows p ds stands in
    let less = got_below (items_list ds) y.0 x.0 y.2 in
    let steps : r ≡ Some (P.Item y.0) = found y.0 y.1 (omega (arith, few, less)) in
    λ d f c. subst (λ o. Lifts (λ w e. lift_in d f (any_elements (items_list ds)) s c w e) o) (sym steps) (λ w e. ap (λ o. option_map_or (λ i. lift_within (nth i ∷ []) e) o unchanged) y.1)
inside_list rows p T.null s q r stands is there found = absurd cc
inside_list rows p (T.boolean b) s q r stands is there found = absurd cc
inside_list rows p (T.integer n) s q r stands is there found = absurd cc
inside_list rows p (T.text x) s q r stands is there found = absurd cc
inside_list rows p (T.bytes x) s q r stands is there found = absurd cc
inside_list rows p (T.map ms) s q r stands is there found = absurd cc
inside_list rows p (T.link x) s q r stands is there found = absurd cc
