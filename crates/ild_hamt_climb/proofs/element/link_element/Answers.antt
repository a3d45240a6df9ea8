use Rattle.std.proofs.Common.{◌++◌, ap, ◌∙◌, rules}
use Rattle.ild_data.specs.Spell.{cid_of, spell_link}
use Rattle.ild_hamt_climb.proofs.Replaced.{link_spelled}
use Rattle.ild_hamt_climb.proofs.element.link_element.Goals as goal

pub returns : goal.returns
returns c = λ p.
    link_spelled p c.args.id.now.0 c.finish.result (search rules) c.are_bytes.ensures
    (c.finish.ensures ∙ c.in_ok-block_link.ensures.ok ∙ ap (λ b. b ++ spell_link (cid_of c.args.id.now.0)) c.in_ok-out.ensures)
