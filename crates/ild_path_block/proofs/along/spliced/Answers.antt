use Rattle.std.proofs.Common.{◌≡◌, ◌-◌, None, Some, length, refl, ap, sym, ◌∙◌, subst, arith}
use Rattle.std.specs.Prelude.{slice_get}
use Rattle.ild_data.specs.Spell.{spell}
use Rattle.ild_path_block.proofs.Allowing.{last_allowed, made_ready, no_last, root_at, root_set, some_last, view_of}
use Rattle.ild_path_block.proofs.Beneath.{never_held, on_path}
use Rattle.ild_path_block.proofs.Replacing.{block_answers}
use Rattle.ild_path_block.specs.Changes.{Allows, IsChange, in_last, node_of}
use Rattle.ild_path_holder.specs.Along.{LeadAlong, last_of}
use Rattle.ild_schema.specs.Accept.{IsAccepted}
use Rattle.ild_schema.specs.Table.{IsTable}
use Rattle.ild_typed.specs.At.{seen}
use Rattle.ild_typed.specs.Schema.{IsSchema}
use Rattle.ild_view.specs.View.{slot_of, table_of}
use Rattle.ild_path_block.proofs.along.spliced.Goals as goal

pub returns-in_default-last-clause-answers : goal.returns-in_default-last-clause-answers
returns-in_default-last-clause-answers c = λ is_key f w d t u e.
    let v = c.args.root.now in
    let path = c.args.path.now in
    let edit = c.args.edit.now in
    let none = no_last path (subst (λ y. None ≡ slice_get y (length y - 1)) c.as_slice.ensures c.in_default-last.ensures.value) in
    let at = root_at v f t c.in-Some-Node.node e.root (rw c.in-Some-Node.field-0-is at c.in-Some-Node.ensures) c.nodes_are_at_places.ensures.root in
    block_answers (table_of v) is_key edit w (slot_of v, f) path t u (spell u) c.at_root.result refl (c.at_root.ensures.set t u at (root_set v is_key path edit f w d t u e none))

pub returns-in_default-2-clause-answers : goal.returns-in_default-2-clause-answers
returns-in_default-2-clause-answers c = λ is_key f w d t u e.
    let v = c.args.root.now in
    let path = c.args.path.now in
    let edit = c.args.edit.now in
    let x = some_last path c.in-Some.segment.now (subst (λ y. Some c.in-Some.segment.now ≡ slice_get y (length y - 1)) c.as_slice.ensures c.in-Some.ensures.value) in
    let a = last_allowed v is_key path edit f w d t u e x.0 x.1 x.2 in
    rw c.in_default-2.is at (c.in_ok-last.ensures f x.0 x.1 a.last (view_of v f t e.root) x.2 a.at a.holds)

pub returns-in-Some-change_of-clause-answers : goal.returns-in-Some-change_of-clause-answers
returns-in-Some-change_of-clause-answers c = λ is_key f w d t u e.
    let v = c.args.root.now in
    let rows = table_of v in
    let path = c.args.path.now in
    let edit = c.args.edit.now in
    let x = some_last path c.in-Some.segment.now (subst (λ y. Some c.in-Some.segment.now ≡ slice_get y (length y - 1)) c.as_slice.ensures c.in-Some.ensures.value) in
    let a = last_allowed v is_key path edit f w d t u e x.0 x.1 x.2 in
    let at = root_at v f t c.in-Some-Node.node e.root (rw c.in-Some-Node.field-0-is at c.in-Some-Node.ensures) c.nodes_are_at_places.ensures.root in
    let last = rw c.in-Some-2.is at (c.in_ok-last.ensures f x.0 x.1 a.last (view_of v f t e.root) x.2 a.at a.holds) in
    let segment : c.as_str.result.now ≡ last_of x.0 x.1 = c.as_str.ensures.same ∙ x.3 in
    let change = c.in-Some-change_of.ensures rows a.last w last.view a.holds (subst (λ y. Allows rows edit (seen rows a.last) y w) (sym segment) a.allows) in
    let there = subst (λ y. IsChange rows (in_last edit w) a.last y (node_of edit) c.in-Some-change_of.change) segment change in
    let there_too = subst (λ o. IsChange rows (in_last edit w) a.last (last_of x.0 x.1) o c.in-Some-change_of.change) (sym c.node_of.ensures) there in
    let schema : IsSchema rows = record { table = subst IsTable c.schema.ensures c.recall.ensures.table; accepted = subst IsAccepted c.schema.ensures c.recall.ensures.accepted } in
    let lead = subst (λ y. LeadAlong rows (slot_of v, f) x.0 x.1 y) (sym c.deref.ensures.value) last.lead in
    c.told.ensures rows is_key edit w (slot_of v, f) path t u at
    (made_ready v is_key path edit f w d t u e x.0 x.1 x.2 c.are_texts.ensures c.edits_are_edited.ensures.changes schema a.last a.at c.deref.result.now lead c.in-Some-change_of.change c.node_of.result there_too)

pub returns-clause-answers : goal.returns-clause-answers
returns-clause-answers c = λ is_key f w d t u e.
    let v = c.args.root.now in
    let rows = table_of v in
    let path = c.args.path.now in
    let edit = c.args.edit.now in
    let x = some_last path c.in-Some.segment.now (subst (λ y. Some c.in-Some.segment.now ≡ slice_get y (length y - 1)) c.as_slice.ensures c.in-Some.ensures.value) in
    let a = last_allowed v is_key path edit f w d t u e x.0 x.1 x.2 in
    let last = rw c.in-Some-2.is at (c.in_ok-last.ensures f x.0 x.1 a.last (view_of v f t e.root) x.2 a.at a.holds) in
    let segment : c.as_str.result.now ≡ last_of x.0 x.1 = c.as_str.ensures.same ∙ x.3 in
    c.in-None.ensures rows a.last w last.view a.holds (subst (λ y. Allows rows edit (seen rows a.last) y w) (sym segment) a.allows)

-- a holder is replaced only on a path with segments
pub returns-in_default-last-clause-beneath : goal.returns-in_default-last-clause-beneath
returns-in_default-last-clause-beneath c = never_held c.args.path.now c.at_root.result c.at_root.ensures.beneath

pub returns-in-Some-change_of-clause-beneath : goal.returns-in-Some-change_of-clause-beneath
returns-in-Some-change_of-clause-beneath c =
    let path = c.args.path.now in
    let x = some_last path c.in-Some.segment.now (subst (λ y. Some c.in-Some.segment.now ≡ slice_get y (length y - 1)) c.as_slice.ensures c.in-Some.ensures.value) in
    on_path path c.told.result (let long = ap length x.2 in omega (arith, long))
