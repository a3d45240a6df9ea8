use Rattle.std.proofs.Common.{◌≡◌, length, ◌<◌, true, sym, ◌∙◌, subst}
use Rattle.std.specs.Prelude.{◌↔◌, IfOk}
use Rattle.ild_path_rules.proofs.Allowing.{key_there, key_told}
use Rattle.ild_schema.specs.declared.row.Row.{Row}
use Rattle.std.specs.Prelude.{List}
use Rattle.ild_typed.specs.Fits.{IsTextOf}
use Rattle.ild_typed.specs.At.{seen}
use Rattle.ild_view.specs.View.{slot_of, table_of}
use Rattle.ild_path_rules.proofs.key.is_there_or_fits.Goals as goal

pub is_text-requires : goal.is_text-requires
is_text-requires c = subst (λ (rows : List Row). c.args.key.0 < length rows) (sym c.schema.ensures) c.requires

pub returns-then-is_there : goal.returns-then-is_there
returns-then-is_there c = λ own f is_key x tests.
    let v = c.args.view.now in
    let s = c.args.segment.now in
    let h = seen (table_of v) (slot_of v, f) in
    key_there (table_of v) is_key tests s c.args.key.0 h (own f x) (sym (c.is_there.ensures f x) ∙ c.if-is_there.true)

pub returns-else-is_there : goal.returns-else-is_there
returns-else-is_there c = λ own.
    let v = c.args.view.now in
    let s = c.args.segment.now in
    key_told v s c.args.key c.is_there.result c.is_text.result c.if-is_there.false own c.is_there.ensures c.utf8.segment
    (subst (λ (rows : List Row). IfOk c.is_text.result (λ b. (b ≡ true) ↔ IsTextOf rows c.args.key s)) c.schema.ensures c.is_text.ensures)
