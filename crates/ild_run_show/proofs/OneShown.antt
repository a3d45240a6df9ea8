-- Where a value stands under a root, it is the one that is shown.
use Rattle.std.proofs.Common.{◌≡◌, ℕ, List, Option, Some, ap, ◌∙◌, arith}
use Rattle.ild_cbor.specs.declared.why.BlockWhy.{BlockWhy}
use Rattle.ild_edges.proofs.Reading.{from_more, from_told}
use Rattle.ild_edges.specs.Gained.{FromBlocks}
use Rattle.ild_edges.specs.Store.{Moment, block_at}
use Rattle.ild_json.specs.Printing.{json_text}
use Rattle.ild_schema.specs.Slots.{plainly}
use Rattle.ild_schema.specs.Value.{Value}
use Rattle.ild_schema.specs.declared.number.TypeNo.{TypeNo}
use Rattle.ild_schema.specs.declared.row.Row.{Row}
use Rattle.ild_typed.specs.Schema.{IsSchema}
use Rattle.ild_typed.specs.Shown.{shown}
use Rattle.ild_typed.specs.Stands.{bare, IsFrame, Stands}
use Rattle.ild_typed.proofs.TreeKept.{one_stands}
use Rattle.ild_open.specs.Opened.{StandsInBlock}
use Rattle.ild_run_show.specs.Shows.{IsOpened, HasShown, NotOpened}

-- a value in its block stands
pub is_opened : (h : List ℕ → List ℕ) (rows : List Row) (n : TypeNo) (id : List ℕ) (k : Moment) (block : List ℕ) (v : Value) → FromBlocks k (λ held. StandsInBlock h rows n id held block v) → IsOpened h rows n id k v
is_opened h rows n id k block v x = from_more k (λ held. StandsInBlock h rows n id held block v) (λ held. Stands bare (block_at held) h rows n id v) (λ held a. a.stands) x

-- a value that was opened and has this JSON, or none
pub has_shown : (h : List ℕ → List ℕ) (rows : List Row) (n : TypeNo) (id : List ℕ) (k : Moment) (v : Value) (json : Option (List ℕ)) → IsOpened h rows n id k v → json_text (shown rows (plainly n) v) ≡ json → HasShown h rows n id k json
has_shown h rows n id k v json opened printed = record { value = v; opened = opened; printed = printed }

bare_is_frame : IsFrame bare
bare_is_frame = record { less = omega arith; apart = λ c d same. same; fits = λ d fits. fits; blocks = tt }

pub shown_stands : (h : List ℕ → List ℕ) (rows : List Row) → IsSchema rows → (n : TypeNo) (id : List ℕ) (v : Value) (k : Moment) (json : Option (List ℕ)) (held : List (List ℕ)) → k.blocks ≡ Some held
    → Stands bare (block_at held) h rows n id v → HasShown h rows n id k json → json_text (shown rows (plainly n) v) ≡ json
shown_stands h rows schema n id v k json held told stands has =
    let other : Stands bare (block_at held) h rows n id has.value = from_told k (λ held. Stands bare (block_at held) h rows n id has.value) has.opened held told in
    let same : v ≡ has.value = one_stands bare bare_is_frame (block_at held) h rows schema n id v has.value stands other in
    ap (λ (x : Value). json_text (shown rows (plainly n) x)) same ∙ has.printed

pub none_refused : (h : List ℕ → List ℕ) (rows : List Row) (n : TypeNo) (id : List ℕ) (v : Value) (m k : Moment) (at : List ℕ) (why : BlockWhy) (held : List (List ℕ)) → m.blocks ≡ Some held
    → Stands bare (block_at held) h rows n id v → NotOpened h rows n id m at why k → ⊥
none_refused h rows n id v m k at why held told stands refused = refused.none held v told stands
