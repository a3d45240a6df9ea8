use Rattle.std.proofs.Common.{ap, refl, ◌++◌, ◌∙◌}
use Rattle.ild_path_text.proofs.Keys.{key_tested}
use Rattle.ild_path_text.proofs.pair.ends_at_delimiter.Goals as goal

pub returns : goal.returns
returns c =
    key_tested c.args.inner.now c.args.key.now c.as_str.result.now _ _ c.requires
    (c.as_str.ensures.value ∙ c.in_ok-push_str-2.ensures.bytes ∙ ap (λ s. s ++ c.args.inner.now) (c.in_ok-push_str.ensures.bytes ∙ ap (λ s. s ++ c.args.key.now) c.new-front.ensures.bytes))
    refl c.is_parted.ensures
