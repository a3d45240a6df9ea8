use Rattle.ild_bulk_walker.proofs.Regiven.{trie-is-given}
use Rattle.ild_bulk_walker.proofs.Tried.{given-is-trie}
use Rattle.ild_bulk_walker.proofs.laws.given_is_trie.Goals as goal

pub returns : goal.returns
returns c = λ h p held slots es form. (given-is-trie p h held slots es form, trie-is-given p h held slots es form)
