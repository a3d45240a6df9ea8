use Rattle.std.proofs.Common.{◌++◌, refl, sym, ap, ◌∙◌, append-nil, arith}
use Rattle.ild_data.specs.Spell.{spell}
use Rattle.ild_data.specs.Trie.{bucket}
use Rattle.ild_node_slots.specs.Form.{bucket_data}
use Rattle.ild_node.proofs.Drafting.{written-more, bucket-sound}
use Rattle.ild_node.proofs.draft.Draft.bucket.Goals as goal

pub returns : goal.returns
returns c = λ p h es are fills slots was at lt.
    written-more p c.args.self.now _ slots (bucket es) c.args.i refl was at lt c.set_bit.ensures (λ few. omega (arith, few)) refl refl
    (c.in_ok-add_entries.ensures h es are ∙ ap (λ s. c.args.self.now.elements ++ s) (sym (append-nil (spell (bucket_data es))))) (bucket-sound p es fills)
