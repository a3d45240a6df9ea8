use Rattle.std.proofs.Common.{◌≡◌, ◌++◌, ◌∙◌, refl, sym, subst, map}
use Rattle.ild_bulk.specs.Keyed.{AreMarked, mark_in}
use Rattle.ild_data.specs.Data.{Data}
use Rattle.ild_data.specs.Spell.{spell}
use Rattle.ild_typed.specs.Hamt.{root_map}
use Rattle.ild_build_entries.proofs.Roots.{root_added, root_missing}
use Rattle.ild_build_entries.proofs.Marked.{in_order, ok_by}
use Rattle.ild_build_entries.proofs.hamt.add_root.Goals as goal

pub returns-in-Ok-clause-ok : goal.returns-in-Ok-clause-ok
returns-in-Ok-clause-ok c = λ h es are one texts shallow.
    let b = c.args.entries.out in
    let x = in_order h b es c.args.entries.marks.items c.sort_marks.new.marks.items are c.sort_marks.ensures.same c.sort_marks.ensures.order one in
    let marked = subst (λ ks. AreMarked h b x.to (map mark_in ks)) (sym c.deref.ensures.value) x.marked in
    let plans = c.in-Ok.ensures h x.to (subst (λ o. AreMarked h o x.to (map mark_in c.deref.result.now)) (sym (c.as_slice.ensures.same ∙ c.finish-bytes.ensures)) marked) (x.rows texts shallow) in
    ok_by {A = (node : Data) × (c.as_slice-in-Ok.result.now ≡ spell node)} c.add_root_map.result (λ p. c.add_root_map.new.out ≡ c.args.out.now ++ spell (root_map c.args.shape p.0)) _ (λ p. c.add_root_map.ensures.ok p.0 p.1)
    (λ f. root_added h c.args.shape es x.to x.is one c.args.out.now c.add_root_map.new.out c.args.nodes.now _ c.in-Ok.root _ c.plan_marked.new.blocks.items plans c.new-blocks.ensures.items
    c.in_ok-append-in-Ok.ensures.items refl refl c.add_root_map.ensures.grown (λ node e. f (node, c.as_slice-in-Ok.ensures.same ∙ e)))

pub returns-in-Err-Exhausted-clause-ok : goal.returns-in-Err-Exhausted-clause-ok
returns-in-Err-Exhausted-clause-ok c = λ h es are one texts shallow.
    let b = c.args.entries.out in
    let x = in_order h b es c.args.entries.marks.items c.sort_marks.new.marks.items are c.sort_marks.ensures.same c.sort_marks.ensures.order one in
    let marked = subst (λ ks. AreMarked h b x.to (map mark_in ks)) (sym c.deref.ensures.value) x.marked in
    root_missing h c.args.shape es x.to x.is one c.args.out.now c.args.out.now c.args.nodes.now _
    (rw c.in-Err-Exhausted.field-0-is at (c.in-Err-Exhausted.ensures h x.to (subst (λ o. AreMarked h o x.to (map mark_in c.deref.result.now)) (sym (c.as_slice.ensures.same ∙ c.finish-bytes.ensures)) marked) (x.rows texts shallow))) refl refl refl refl
