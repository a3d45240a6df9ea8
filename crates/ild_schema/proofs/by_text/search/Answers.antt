use Rattle.std.proofs.Common.{[], rules}
use Rattle.std.specs.Option.{unwrap_or}
use Rattle.std.proofs.lemmas.Fn.{always_returns_same}
use Rattle.ild_data.specs.Key.{key_cmp}
use Rattle.ild_schema.specs.Indexed.{labels, text_at}
use Rattle.ild_schema.proofs.Seats.{seat_searched}
use Rattle.ild_schema.proofs.by_text.search.Goals as goal

pub returns : goal.returns
returns c =
    seat_searched (labels c.args.label c.args.def.now) c.args.text.now c.args.numbers.now c.binary_search_by.result c.requires c.binary_search_by.ensures.bound
    (c.binary_search_by.ensures.position (λ n. key_cmp (unwrap_or (text_at (labels c.args.label c.args.def.now) n) []) c.args.text.now) (always_returns_same _ _ _ (λ a r g called. search rules)))
