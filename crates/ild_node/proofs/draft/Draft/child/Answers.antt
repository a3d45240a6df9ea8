use Rattle.std.proofs.Common.{◌++◌, refl, sym, ap, ◌∙◌, append-nil, arith, rules}
use Rattle.ild_data.specs.Spell.{spell, cid_of}
use Rattle.ild_data.specs.Data.{link}
use Rattle.ild_data.specs.Trie.{child}
use Rattle.ild_node.proofs.Drafting.{written-more}
use Rattle.ild_node.proofs.Nodes.{child-sound}
use Rattle.ild_node.proofs.draft.Draft.child.Goals as goal

pub returns : goal.returns
returns c = λ p slots was at lt.
    written-more p c.args.self.now _ slots (child c.args.id.now.0) c.args.i refl was at lt c.set_bit.ensures (λ few. omega (arith, few)) refl refl
    (c.in_ok-block_link.ensures.ok ∙ ap (λ s. c.args.self.now.elements ++ s) (sym (append-nil (spell (link (cid_of c.args.id.now.0))))))
    (child-sound p c.args.id.now.0 (search rules) c.are_bytes.ensures)
