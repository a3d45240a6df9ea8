use Rattle.std.proofs.Common.{◌≡◌, ◌-◌, ℕ, suc, length, ap, subst, arith}
use Rattle.std.proofs.lemmas.Result.{err_from_is_err_and}
use Rattle.std.specs.Prelude.{Err, Ok}
use Rattle.ild_data.specs.Spell.{spell}
use Rattle.ild_path_block.proofs.Allowing.{view_of}
use Rattle.ild_path_edit.proofs.Making.{above_done, down_to, failed, last_done}
use Rattle.ild_path_edit.specs.Holders.{IsMade}
use Rattle.ild_path_edit.specs.inside.Items.{ChangesHolder, SetsPart}
use Rattle.ild_schema.specs.Accept.{IsAccepted}
use Rattle.ild_schema.specs.Table.{IsTable}
use Rattle.ild_typed.specs.Schema.{IsSchema}
use Rattle.ild_view.specs.View.{slot_of, table_of}
use Rattle.ild_path_edit.proofs.item.item_at.Goals as goal

pub returns-in_err-item : goal.returns-in_err-item
returns-in_err-item c = λ is_key f w x t u d e made.
    let rows = table_of c.args.root.now in
    let path = c.args.path.now in
    let edit = c.args.edit.now in
    let schema : IsSchema rows = record { table = subst IsTable c.schema.ensures c.recall.ensures.table; accepted = subst IsAccepted c.schema.ensures c.recall.ensures.accepted } in
    let views = c.in_ok-views.ensures f (view_of c.args.root.now f t e.root) in
    let count : length c.as_slice-segments.result.now ≡ length path = ap length c.as_slice-segments.ensures in
    let last : ℕ = length c.as_slice-segments.result.now - 1 in
    let before = made.before in
    let end : suc last ≡ length path = omega (arith, count, before) in
    let y = down_to rows is_key schema e.keys edit w (slot_of c.args.root.now, f) path c.are_texts.ensures c.args.from last d (omega (arith, count, before)) (omega (arith, end)) made in
    let clause = subst (λ xs. ChangesHolder xs path last edit (Err c.in_err-item.field-0.0)) c.deref.ensures.value (subst (λ xs. ChangesHolder c.deref.result.now xs last edit (Err c.in_err-item.field-0.0)) c.as_slice-segments.ensures c.in_err-item.ensures) in
    let r = err_from_is_err_and c.from_residual-in_err-item.result c.from_residual-in_err-item.ensures.1 in
    rw (r.1, r.2) (failed (spell y.0) (spell d) c.in_err-item.field-0.0 y.2 (last_done rows is_key schema e.keys edit w (slot_of c.args.root.now, f) path c.are_texts.ensures c.in_ok-views.views.items views last y.0 (Err c.in_err-item.field-0.0) end y.1 clause))

pub changed-requires : goal.changed-requires
changed-requires c = omega (arith, ap length c.as_slice-segments.ensures, c.requires)

pub loop-k-init : goal.loop-k-init
loop-k-init c = (
  omega (arith, ap length c.as_slice-segments.ensures, c.requires),
  λ less. omega (arith, ap length c.as_slice-segments.ensures, less),
  λ is_key f w x t u d e made.
      let rows = table_of c.args.root.now in
      let path = c.args.path.now in
      let edit = c.args.edit.now in
      let schema : IsSchema rows = record { table = subst IsTable c.schema.ensures c.recall.ensures.table; accepted = subst IsAccepted c.schema.ensures c.recall.ensures.accepted } in
      let views = c.in_ok-views.ensures f (view_of c.args.root.now f t e.root) in
      let count : length c.as_slice-segments.result.now ≡ length path = ap length c.as_slice-segments.ensures in
      let last : ℕ = length c.as_slice-segments.result.now - 1 in
      let before = made.before in
      let end : suc last ≡ length path = omega (arith, count, before) in
      let clause = subst (λ xs. ChangesHolder xs path last edit (Ok c.in_ok-item.item)) c.deref.ensures.value (subst (λ xs. ChangesHolder c.deref.result.now xs last edit (Ok c.in_ok-item.item)) c.as_slice-segments.ensures c.in_ok-item.ensures) in
      last_done rows is_key schema e.keys edit w (slot_of c.args.root.now, f) path c.are_texts.ensures c.in_ok-views.views.items views last d (Ok c.in_ok-item.item) end made clause,
)

pub returns-in_err-item-2 : goal.returns-in_err-item-2
returns-in_err-item-2 c = λ is_key f w x t u d e made.
    let rows = table_of c.args.root.now in
    let path = c.args.path.now in
    let edit = c.args.edit.now in
    let schema : IsSchema rows = record { table = subst IsTable c.schema.ensures c.recall.ensures.table; accepted = subst IsAccepted c.schema.ensures c.recall.ensures.accepted } in
    let views = c.in_ok-views.ensures f (view_of c.args.root.now f t e.root) in
    let k : ℕ = c.loop-k.k - 1 in
    let more = c.loop-k-test.true in
    let below = c.loop-k.invariant.0 in
    let next : suc k ≡ c.loop-k.k = omega (arith, more) in
    let y = down_to rows is_key schema e.keys edit w (slot_of c.args.root.now, f) path c.are_texts.ensures c.args.from k d (omega (arith, more)) (omega (arith, below)) made in
    let clause = subst (λ xs. SetsPart xs path k c.loop-k.item (Err c.in_err-item-2.field-0.0)) c.deref-in-loop-k.ensures.value (subst (λ xs. SetsPart c.deref-in-loop-k.result.now xs k c.loop-k.item (Err c.in_err-item-2.field-0.0)) c.as_slice-segments.ensures c.in_err-item-2.ensures) in
    let r = err_from_is_err_and c.from_residual-in_err-item-2.result c.from_residual-in_err-item-2.ensures.1 in
    rw (r.1, r.2) (failed (spell y.0) (spell d) c.in_err-item-2.field-0.0 y.2
    (above_done rows is_key schema e.keys edit w (slot_of c.args.root.now, f) path c.are_texts.ensures c.in_ok-views.views.items views k y.0 (Err c.in_err-item-2.field-0.0) c.loop-k.item (omega (arith, below, next)) y.1
    (λ z known. c.loop-k.invariant.2 is_key f w x t u z e (subst (λ (j : ℕ). IsMade rows is_key edit w (slot_of c.args.root.now, f) path j z) next known)) clause))

pub loop-k-preserved : goal.loop-k-preserved
loop-k-preserved c = (
  omega (arith, c.loop-k.invariant.0),
  λ less. omega (arith, c.loop-k-test.true),
  λ is_key f w x t u d e made.
      let rows = table_of c.args.root.now in
      let path = c.args.path.now in
      let edit = c.args.edit.now in
      let schema : IsSchema rows = record { table = subst IsTable c.schema.ensures c.recall.ensures.table; accepted = subst IsAccepted c.schema.ensures c.recall.ensures.accepted } in
      let views = c.in_ok-views.ensures f (view_of c.args.root.now f t e.root) in
      let k : ℕ = c.loop-k.k - 1 in
      let more = c.loop-k-test.true in
      let below = c.loop-k.invariant.0 in
      let next : suc k ≡ c.loop-k.k = omega (arith, more) in
      let clause = subst (λ xs. SetsPart xs path k c.loop-k.item (Ok c.in_ok-item-2.item)) c.deref-in-loop-k.ensures.value (subst (λ xs. SetsPart c.deref-in-loop-k.result.now xs k c.loop-k.item (Ok c.in_ok-item-2.item)) c.as_slice-segments.ensures c.in_ok-item-2.ensures) in
      above_done rows is_key schema e.keys edit w (slot_of c.args.root.now, f) path c.are_texts.ensures c.in_ok-views.views.items views k d (Ok c.in_ok-item-2.item) c.loop-k.item (omega (arith, below, next)) made
      (λ z known. c.loop-k.invariant.2 is_key f w x t u z e (subst (λ (j : ℕ). IsMade rows is_key edit w (slot_of c.args.root.now, f) path j z) next known)) clause,
)

pub returns : goal.returns
returns c = λ is_key f w x t u d e made.
    let least = c.loop-k.invariant.1 made.before in
    let same : c.args.from ≡ c.loop-k.k = omega (arith, least, c.loop-k-test.false) in
    c.loop-k.invariant.2 is_key f w x t u d e (subst (λ (j : ℕ). IsMade (table_of c.args.root.now) is_key c.args.edit.now w (slot_of c.args.root.now, f) c.args.path.now j d) same made)
