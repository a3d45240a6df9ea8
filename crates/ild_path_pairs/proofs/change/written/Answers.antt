use Rattle.std.proofs.Common.{[], ◌∙◌, ap, refl, sym}
use Rattle.std.specs.Prelude.{option_map}
use Rattle.ild_data.specs.Data as T
use Rattle.ild_path_changes.specs.Places.{left_out, written}
use Rattle.ild_path_pairs.proofs.Placing.{is_written, not_written}
use Rattle.ild_path_pairs.proofs.change.written.Goals as goal
use Rattle.ild_path_pairs.specs.Pairs.{borrowed_text}

pub returns-then-implicit : goal.returns-then-implicit
returns-then-implicit c =
    not_written c.args.field.now (T.text c.in_ok-text.text.now) c.is_implicit-implicit.result (c.is_implicit-implicit.ensures [] (T.text c.in_ok-text.text.now) refl) c.if-implicit.true
    ∙ ap (λ o. written left_out c.args.field.now (option_map T.text (borrowed_text o))) (sym c.in_ok-text.was)

pub returns-else-implicit : goal.returns-else-implicit
returns-else-implicit c =
    is_written c.args.field.now (T.text c.in_ok-text.text.now) c.is_implicit-implicit.result (c.is_implicit-implicit.ensures [] (T.text c.in_ok-text.text.now) refl) c.if-implicit.false
    ∙ ap (λ o. written left_out c.args.field.now (option_map T.text (borrowed_text o))) (sym c.in_ok-text.was)
