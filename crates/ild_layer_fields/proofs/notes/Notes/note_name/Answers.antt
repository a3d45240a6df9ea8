use Rattle.std.proofs.Common.{ℕ, List, ◌++◌, ◌∷◌, [], length, subst}
use Rattle.ild_layer_fields.specs.Notes.{IsNoted}
use Rattle.ild_layer_fields.proofs.Causing.{name_more}
use Rattle.ild_layer_fields.proofs.notes.Notes.note_name.Goals as goal

pub returns : goal.returns
returns c = λ apart ks es h.
    let fs = c.args.fields.now.def.now.fields in
    let step : (ns : List ℕ) → IsNoted (length fs) c.args.self.now ns → IsNoted (length fs) c.note.new.self (ns ++ c.place_left-place.result ∷ [])
    = subst (λ (n : ℕ). (ns : List ℕ) → IsNoted n c.args.self.now ns → IsNoted n c.note.new.self (ns ++ c.place_left-place.result ∷ [])) c.len.ensures c.note.ensures.noted in
    name_more fs c.args.name.now c.place_left-place.result (c.place_left-place.ensures.place apart) c.args.self.now c.note.new.self step c.note.ensures.same ks es h
