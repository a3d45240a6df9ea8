use Rattle.std.proofs.Common.{List, Ok, Err, sym, subst}
use Rattle.std.proofs.Math.Logic.{∥∥₁_elim}
use Rattle.std.proofs.Props.{props}
use Rattle.ild_cbor.specs.declared.why.BlockWhy.TheVariants as B
use Rattle.ild_schema.specs.Slots.{form_of}
use Rattle.ild_schema.specs.declared.row.Row.{Row}
use Rattle.ild_typed.specs.Schema.{IsSchema}
use Rattle.ild_view.specs.View.{slot_of}
use Rattle.ild_run_follow.specs.declared.fault.ReadFault.TheVariants as F
use Rattle.ild_run_follow.specs.inside.Enters.{ChecksEntry, RefusesEntry}
use Rattle.ild_run_follow.proofs.Tracing.{checks_refused, checks_view, hamt_valued, refuses_entry}
use Rattle.ild_inclusion_prove.proofs.entry.entry_view.Goals as goal

pub returns-in-Ok-clause-checks : goal.returns-in-Ok-clause-checks
returns-in-Ok-clause-checks c = λ d stands.
    let rows = c.schema-acc.result.now in
    let form = form_of rows (slot_of c.args.hamt.now) in
    let schema : IsSchema rows = record { table = c.recall.ensures.table; accepted = c.recall.ensures.accepted } in
    subst (λ (r : List Row). ChecksEntry r c.args.room (form_of r (slot_of c.args.hamt.now)) c.args.node d (Ok c.in-Ok.view)) c.schema-acc.ensures
    (checks_view rows c.args.room schema c.refused_have_no_front.ensures form c.args.node c.in-Some.slot c.in-Some.ensures d c.in-Ok.view (c.in-Ok.ensures.views d stands))

pub unreachable-requires : goal.unreachable-requires
unreachable-requires c = ∥∥₁_elim c.requires (hlevel props) (λ x. hamt_valued c.schema-acc.result.now c.args.hamt.now (sym c.schema-acc.ensures) x.0 x.1 c.in_default.ensures)

pub returns-in-Err-Shape-clause-refused : goal.returns-in-Err-Shape-clause-refused
returns-in-Err-Shape-clause-refused c = λ d stands.
    let rows = c.schema-acc.result.now in
    let form = form_of rows (slot_of c.args.hamt.now) in
    subst (λ (r : List Row). RefusesEntry r c.args.room (form_of r (slot_of c.args.hamt.now)) c.args.block.now d (Err (F.Block c.block_id.result (B.Shape c.in-Err-Shape.why)))) c.schema-acc.ensures
    (refuses_entry rows c.args.room form c.in-Some.slot c.in-Some.ensures c.args.block.now d c.block_id.result c.in-Err-Shape.why c.in-Err-Shape.field-0-0 c.block_id.ensures (rw c.in-Err-Shape.field-0-is at c.in-Err-Shape.ensures.views d stands))

pub returns-in-Err-Shape-clause-checks : goal.returns-in-Err-Shape-clause-checks
returns-in-Err-Shape-clause-checks c = λ d stands.
    let rows = c.schema-acc.result.now in
    let form = form_of rows (slot_of c.args.hamt.now) in
    let schema : IsSchema rows = record { table = c.recall.ensures.table; accepted = c.recall.ensures.accepted } in
    subst (λ (r : List Row). ChecksEntry r c.args.room (form_of r (slot_of c.args.hamt.now)) c.args.node d (Err (F.Block c.block_id.result (B.Shape c.in-Err-Shape.why)))) c.schema-acc.ensures
    (checks_refused rows c.args.room schema c.refused_have_no_front.ensures form c.args.node c.in-Some.slot c.in-Some.ensures d c.block_id.result (B.Shape c.in-Err-Shape.why) c.in-Err-Shape.field-0-0 c.in-Err-Shape.why (rw c.in-Err-Shape.field-0-is at c.in-Err-Shape.ensures.views d stands))
