use Rattle.std.proofs.Common.{ℕ, List, ◌++◌, ◌∷◌, [], ◌||◌, refl, subst, length, ◌∙◌, ap}
use Rattle.ild_layer_fields.specs.Notes.{IsNoted, implicit_at}
use Rattle.ild_layer_fields.specs.declared.notes.Notes.{Notes}
use Rattle.ild_layer_fields.proofs.Causing.{entry_more}
use Rattle.ild_layer_fields.proofs.notes.Notes.note_placed.Goals as goal

pub returns : goal.returns
returns c = λ apart k is rows d stands ks es h.
    let fs = c.args.fields.now.def.now.fields in
    let mid : Notes = record c.args.self.now { needless = c.args.self.now.needless || c.is_implicit_at.result } in
    let step : (ns : List ℕ) → IsNoted (length fs) mid ns → IsNoted (length fs) c.note.new.self (ns ++ c.args.place ∷ [])
    = subst (λ (n : ℕ). (ns : List ℕ) → IsNoted n mid ns → IsNoted n c.note.new.self (ns ++ c.args.place ∷ [])) c.len.ensures c.note.ensures.noted in
    entry_more fs k c.args.place is c.args.self.now mid c.note.new.self c.is_implicit_at.result d apart
    (c.is_implicit_at.ensures rows d stands ∙ ap (λ gs. implicit_at gs c.args.place d) c.as_slice.ensures) refl step c.note.ensures.same ks es h
