use Rattle.std.proofs.Common.{◌≡◌, IsUtf8, ap, ◌∙◌, rules}
use Rattle.json.specs.Lex.{tokens}
use Rattle.ild_json.proofs.Documents.{text_read}
use Rattle.ild_json.proofs.reading.read_sound.Goals as goal

pub returns-in-None : goal.returns-in-None
returns-in-None c =
    let same : c.in-Ok.text.now ≡ c.args.bytes.now = search rules in
    let utf8 : IsUtf8 c.args.bytes.now = search rules in
    text_read c.args.bytes.now c.in-Ok-new.reader c.read.new.reader c.in-Ok-read.value c.tree_of.result utf8 (c.in-Ok-new.ensures.ok ∙ ap tokens same) c.in-Ok-read.ensures.ok c.in-None.ensures.value.0 c.tree_of.ensures
