use Rattle.std.proofs.Common.{option_map, sym, ap, ◌∙◌}
use Rattle.serde_json.specs.View.{view, members_view}
use Rattle.serde_json.proofs.Views.{view_of_ref, view-lookup, members_len-members_view}
use Rattle.ild_json.proofs.Slashes.{only_member-one, only_member-others}
use Rattle.ild_json.proofs.object.only_member.Goals as goal

pub returns-then-len-eq1 : goal.returns-then-len-eq1
returns-then-len-eq1 c =
    let es = c.args.members.now.entries in
    view_of_ref c.get.result ∙ ap (option_map view) c.get.ensures.value ∙ view-lookup c.args.key.now es
    ∙ sym (only_member-one c.args.key.now (members_view es) (members_len-members_view es ∙ sym c.len.ensures.len ∙ c.if-len-eq1.true))

pub returns-else-len-eq1 : goal.returns-else-len-eq1
returns-else-len-eq1 c =
    let es = c.args.members.now.entries in
    sym (only_member-others c.args.key.now (members_view es) (λ one. c.if-len-eq1.false (c.len.ensures.len ∙ sym (members_len-members_view es) ∙ one)))
