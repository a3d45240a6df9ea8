use Rattle.std.proofs.Common.{rules, Some, sym, ◌∙◌, ap, string_bytes}
use Rattle.ild_data.specs.Data.{text}
use Rattle.ild_schema.specs.ValueSeen.{value_of}
use Rattle.ild_build.proofs.PartFits.{text_there, text_whole, text_made}
use Rattle.ild_build.proofs.joined.text_of.Goals as goal

pub returns : goal.returns
returns c = λ h.
    let rows = c.args.acc.now in
    let v = value_of c.args.val.now in
    let x = text_there rows c.recall.ensures.legible.made c.args.slot v c.requires.typed c.requires.form c.requires.hole c.requires.delimiter in
    let made = text_made rows c.args.slot v x.text x.is (string_bytes c.new-out.result) (string_bytes c.add_text.new.out) c.in_ok-add_text.field-0 (search rules) c.in_ok-add_text.ensures in
    text_whole h rows c.args.slot v x.text x.is ∙ ap (λ k. Some (text k)) (sym made ∙ sym c.from_string.ensures)
