use Rattle.std.proofs.Common.{◌≡◌, ◌<◌, ◌-◌, ◌∙◌, ℕ, Some, suc, length, ap, refl, subst, sym, arith}
use Rattle.std.specs.Prelude.{Bool, IfOk, Result}
use Rattle.std.specs.declared.alloc.AllocError.{AllocError}
use Rattle.ild_path_delimiter.proofs.Climbing.{Changed, Claim, LevelClause, above_done, broken_root, free_root, is_nil, last_done, not_empty, not_free, root_free, text_root}
use Rattle.ild_path_delimiter.proofs.Reaching.{Makes}
use Rattle.ild_path_delimiter.specs.TextEdits.{TextIs}
use Rattle.ild_path_delimiter.specs.declared.level.Level.TheVariants as V
use Rattle.ild_path_item.specs.Texts.{borrowed_text}
use Rattle.ild_schema.specs.Value.{Value}
use Rattle.ild_schema.specs.Accept.{IsAccepted}
use Rattle.ild_schema.specs.Table.{IsTable}
use Rattle.ild_typed.specs.At.{InSlot}
use Rattle.ild_typed.specs.Judged.{breaks_delimiter}
use Rattle.ild_typed.specs.Schema.{IsSchema}
use Rattle.ild_view.specs.View.{slot_of, table_of}
use Rattle.ild_path_delimiter.proofs.along.breaks.Goals as goal
use Rattle.ild_path_delimiter.proofs.along.breaks.Goals.{in-Free-at, in-Broken-at, in-Text-at}

pub returns-then-is_empty : goal.returns-then-is_empty
returns-then-is_empty c = λ has is_key f x w keys view free brings makes.
    let rows = table_of c.args.root.now in
    let none = sym c.as_slice-segments.ensures ∙ is_nil c.as_slice-segments.result.now (sym c.is_empty.ensures ∙ c.if-is_empty.true) in
    sym (root_free rows is_key c.args.edit (slot_of c.args.root.now, f) w x (subst (λ ys. TextIs rows (slot_of c.args.root.now, f) ys c.args.edit w) none brings) (subst (λ ys. Makes rows is_key c.args.edit w (slot_of c.args.root.now, f) ys x) none makes))

pub loop-k-init : goal.loop-k-init
loop-k-init c = (
  omega (arith, ap length c.as_slice-segments.ensures, not_empty c.as_slice-segments.result.now (sym c.is_empty.ensures ∙ c.if-is_empty.false)),
  λ has is_key f w x keys view m.
      let rows = table_of c.args.root.now in
      let path = c.args.path.now in
      let edit = c.args.edit in
      let p : InSlot = (slot_of c.args.root.now, f) in
      let schema : IsSchema rows = record { table = subst IsTable c.schema.ensures c.recall.ensures.table; accepted = subst IsAccepted c.schema.ensures c.recall.ensures.accepted } in
      let texts = c.are_texts.ensures in
      let views = has f view in
      let count : length c.as_slice-segments.result.now ≡ length path = ap length c.as_slice-segments.ensures in
      let n : ℕ = length c.as_slice-segments.result.now - 1 in
      let before = m.before in
      let told = subst (λ xs. LevelClause c.args.views.now xs n (borrowed_text c.text_of.result) c.in_ok-at.at) c.as_slice-segments.ensures c.in_ok-at.ensures in
      let clause = subst (λ t. LevelClause c.args.views.now path n t c.in_ok-at.at) c.text_of.ensures told in
      last_done rows is_key schema keys edit w p path texts c.args.views.now views n x m c.in_ok-at.at (omega (arith, count, before)) clause,
)

pub loop-k-preserved : goal.loop-k-preserved
loop-k-preserved c = (
  omega (arith, c.loop-k.invariant.0),
  λ has is_key f w x keys view m.
      let rows = table_of c.args.root.now in
      let path = c.args.path.now in
      let edit = c.args.edit in
      let p : InSlot = (slot_of c.args.root.now, f) in
      let schema : IsSchema rows = record { table = subst IsTable c.schema.ensures c.recall.ensures.table; accepted = subst IsAccepted c.schema.ensures c.recall.ensures.accepted } in
      let texts = c.are_texts.ensures in
      let views = has f view in
      let n : ℕ = c.loop-k.k - 1 in
      let less = c.loop-k.invariant.0 in
      let more = c.loop-k-test.true in
      let next : c.loop-k.k ≡ suc n = omega (arith, more) in
      let known = subst (λ (k : ℕ). (u : Value) (d : Changed rows is_key edit w p path k u) → Claim rows is_key edit w p path k u d (V.Text c.in-Text.text)) next (λ u d. rw c.in-Text.is at (c.loop-k.invariant.1 has is_key f w u keys view d)) in
      let told = subst (λ xs. LevelClause c.args.views.now xs n (Some c.as_str.result.now) c.in_ok-at-2.at) c.as_slice-segments.ensures c.in_ok-at-2.ensures in
      let clause = subst (λ t. LevelClause c.args.views.now path n (Some t) c.in_ok-at-2.at) c.as_str.ensures.same told in
      above_done rows is_key schema keys edit w p path texts c.args.views.now views n x m c.in_ok-at-2.at c.in-Text.text (omega (arith, less, next)) known clause,
)

pub returns-in-Free : goal.returns-in-Free
returns-in-Free c = λ has is_key f x w keys view free brings makes.
    let rows = table_of c.args.root.now in
    let path = c.args.path.now in
    let edit = c.args.edit in
    let p : InSlot = (slot_of c.args.root.now, f) in
    let schema : IsSchema rows = record { table = subst IsTable c.schema.ensures c.recall.ensures.table; accepted = subst IsAccepted c.schema.ensures c.recall.ensures.accepted } in
    let texts = c.are_texts.ensures in
    let root : (0 < length path) → Changed rows is_key edit w p path 0 x = λ less. record { holder = p; before = less; leads = refl; typed = (view.room, view.front.fits); free = free; old = view.tree; was = view.front.tree; brings = brings; makes = makes } in
    let k = c.loop-k.k in
    sym (free_root rows is_key schema keys edit w p path texts k x (root (omega (arith, c.loop-k.invariant.0))) c.loop-k.invariant.0 (λ u d. rw c.in-Free.is at (c.loop-k.invariant.1 has is_key f w u keys view d)))

pub returns-in-Broken : goal.returns-in-Broken
returns-in-Broken c = λ has is_key f x w keys view free brings makes.
    let rows = table_of c.args.root.now in
    let path = c.args.path.now in
    let edit = c.args.edit in
    let p : InSlot = (slot_of c.args.root.now, f) in
    let schema : IsSchema rows = record { table = subst IsTable c.schema.ensures c.recall.ensures.table; accepted = subst IsAccepted c.schema.ensures c.recall.ensures.accepted } in
    let texts = c.are_texts.ensures in
    let root : (0 < length path) → Changed rows is_key edit w p path 0 x = λ less. record { holder = p; before = less; leads = refl; typed = (view.room, view.front.fits); free = free; old = view.tree; was = view.front.tree; brings = brings; makes = makes } in
    let k = c.loop-k.k in
    not_free (breaks_delimiter rows p.0 x) (broken_root rows is_key schema keys edit w p path texts k x (root (omega (arith, c.loop-k.invariant.0))) c.loop-k.invariant.0 (λ u d. rw c.in-Broken.is at (c.loop-k.invariant.1 has is_key f w u keys view d)))

pub returns : goal.returns
returns c = λ has is_key f x w keys view free brings makes.
    let rows = table_of c.args.root.now in
    let path = c.args.path.now in
    let edit = c.args.edit in
    let p : InSlot = (slot_of c.args.root.now, f) in
    let schema : IsSchema rows = record { table = subst IsTable c.schema.ensures c.recall.ensures.table; accepted = subst IsAccepted c.schema.ensures c.recall.ensures.accepted } in
    let texts = c.are_texts.ensures in
    let root : (0 < length path) → Changed rows is_key edit w p path 0 x = λ less. record { holder = p; before = less; leads = refl; typed = (view.room, view.front.fits); free = free; old = view.tree; was = view.front.tree; brings = brings; makes = makes } in
    let k = c.loop-k.k in
    let less = c.loop-k.invariant.0 in
    let start = root (omega (arith, less)) in
    let zero_is : k ≡ 0 = omega (arith, c.loop-k-test.false) in
    let Tells : Result Bool AllocError → Type 0 = λ r. IfOk r (λ b. b ≡ breaks_delimiter rows p.0 x) in
    elim c.match-at-2.branch [
      | in-Free-at a ↦ subst Tells (sym a.result-is) (sym (free_root rows is_key schema keys edit w p path texts k x start less (λ u d. rw a.in-Free-at.is at (c.loop-k.invariant.1 has is_key f w u keys view d))))
      | in-Broken-at a ↦ subst Tells (sym a.result-is) (not_free (breaks_delimiter rows p.0 x) (broken_root rows is_key schema keys edit w p path texts k x start less (λ u d. rw a.in-Broken-at.is at (c.loop-k.invariant.1 has is_key f w u keys view d))))
      | in-Text-at a ↦ subst Tells (sym a.result-is) (sym (text_root rows is_key schema keys edit w p path texts k x start a.in-Text-at.field-0 zero_is (λ u d. rw a.in-Text-at.is at (c.loop-k.invariant.1 has is_key f w u keys view d))))
    ]
