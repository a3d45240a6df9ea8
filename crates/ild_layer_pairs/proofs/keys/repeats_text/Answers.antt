use Rattle.std.proofs.Common.{sym, ◌∙◌, ap}
use Rattle.ild_layer_fields.specs.Entries.{text_entries}
use Rattle.ild_text.specs.Parts.{pairs_in}
use Rattle.ild_typed.specs.Named.{names}
use Rattle.ild_layer_pairs.proofs.Meeting.{meeting_begins, meeting_ends, meeting_on, meeting_twice, not_false, not_true}
use Rattle.ild_layer_pairs.proofs.keys.repeats_text.Goals as goal

pub loop-key-init : goal.loop-key-init
loop-key-init c = meeting_begins (names (text_entries (pairs_in c.args.split.now))) _ c.new-seen.ensures.empty

pub loop-key-preserved : goal.loop-key-preserved
loop-key-preserved c =
    meeting_on (names (text_entries (pairs_in c.args.split.now))) (names (text_entries (pairs_in c.loop-key.left))) (names (text_entries (pairs_in c.in-Some.behind))) c.in-Some.key.now c.loop-key.seen
    c.loop-key.invariant (ap (λ ps. names (text_entries ps)) c.in-Some.ensures) c.is_new.new.seen (not_true _ (sym c.if-not-new.false ∙ c.in-Ok.ensures.known)) c.in-Ok.ensures.more

pub returns-then-not-new : goal.returns-then-not-new
returns-then-not-new c =
    meeting_twice (names (text_entries (pairs_in c.args.split.now))) (names (text_entries (pairs_in c.loop-key.left))) (names (text_entries (pairs_in c.in-Some.behind))) c.in-Some.key.now c.loop-key.seen
    c.loop-key.invariant (ap (λ ps. names (text_entries ps)) c.in-Some.ensures) (not_false _ (sym c.if-not-new.true ∙ c.in-Ok.ensures.known))

pub returns : goal.returns
returns c =
    meeting_ends (names (text_entries (pairs_in c.args.split.now))) (names (text_entries (pairs_in c.loop-key.left))) c.loop-key.seen c.loop-key.invariant
    (ap (λ ps. names (text_entries ps)) c.in_default.ensures)
