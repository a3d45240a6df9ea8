-- The two items of a list of two, by its start.
use Rattle.std.proofs.Common.{◌≡◌, ℕ, ◌<◌, List, Some, None, sym, ap, ◌∙◌, arith}
use Rattle.ild_data.specs.Data.{Data, list, Items, no_items, item}
use Rattle.ild_data.specs.Shape.{major_of, argument_of}
use Rattle.ild_cbor.specs.Nodes.{HasData}
use Rattle.ild_cbor.specs.Pairing.{FindsPair}
use Rattle.ild_cbor.specs.inside.Row.{IsRow}
use Rattle.ild_cbor.specs.Scalar.{count_of}
use Rattle.ild_cbor.specs.inside.Shape.{StartsAs}
use Rattle.ild_cbor.specs.Span.{place_of, item_of}
use Rattle.ild_cbor.specs.declared.node.Node.{Node}
use Rattle.ild_cbor.specs.declared.start.Start.{Start}
use Rattle.ild_cbor.proofs.Insides.{HasSought, has_item, list_if}

-- where nothing is passed over
none_passed : (b : List ℕ) (es : Items) (x : List ℕ) → IsRow b 0 es x → b ≡ x
none_passed b no_items x row = row.is
none_passed b (item d es) x row = let c = row.count in absurd (omega arith)

pub has_first : (n : Node) (s : Start) (t : Data) → HasData n t → StartsAs s t → s.major ≡ 4 → 0 < s.argument → HasSought n s.rest.now (place_of t 0) (item_of t 0)
has_first n s t h st four some = has_item n s 0 s.rest.now t h st four some (λ es x row. none_passed s.rest.now es x row)

pub two_there : (s : Start) (t : Data) → StartsAs s t → s.major ≡ 4 → s.argument ≡ 2 → count_of t ≡ Some 2
two_there s t st four two =
    let l = list_if t (sym st.major_is ∙ four) in
    let many : argument_of (list l.0) ≡ 2 = ap argument_of (sym l.1) ∙ sym st.argument_is ∙ two in
    ap count_of l.1 ∙ ap Some many

pub no_two : (n : Node) (s : Start) (t : Data) → StartsAs s t → (s.major ≡ 4 → s.argument ≡ 2 → ⊥) → FindsPair n t None
no_two n s t st other ds is two = other (st.major_is ∙ ap major_of is) (st.argument_is ∙ ap argument_of is ∙ two)
