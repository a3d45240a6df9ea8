use Rattle.std.proofs.Common.{sym, subst}
use Rattle.std.specs.Prelude.{IsUtf8}
use Rattle.std.proofs.lemmas.Str.{IsUtf8-from_is_utf8}
use Rattle.ild_bulk_walker.specs.Steps.{entry_key}
use Rattle.ild_bulk_walker.proofs.step.Entry.row.Goals as goal

pub known_text-requires : goal.known_text-requires
known_text-requires c = subst IsUtf8 (sym c.key.ensures) (IsUtf8-from_is_utf8 (entry_key c.args.self.now) c.args.self.now.text)
