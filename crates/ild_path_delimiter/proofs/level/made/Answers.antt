use Rattle.std.proofs.Common.{Some, None}
use Rattle.ild_path_delimiter.proofs.Making.{text_becomes}
use Rattle.ild_path_delimiter.proofs.level.made.Goals as goal
use Rattle.ild_path_item.specs.Texts.{borrowed_text}

pub returns-then-stands_free : goal.returns-then-stands_free
returns-then-stands_free c = λ rows q view holds. c.stands_free.ensures.free c.if-stands_free.true rows q view

pub returns-in-Some : goal.returns-in-Some
returns-in-Some c = λ rows q view holds.
    text_becomes rows q c.args.view.now c.args.segment.now (borrowed_text c.args.new) (Some c.in-Some.text) view (rw c.in-Some.is at c.in_ok-text.ensures) holds (c.stands_free.ensures.text c.if-stands_free.false rows q view holds)

pub returns-in-None : goal.returns-in-None
returns-in-None c = λ rows q view holds.
    text_becomes rows q c.args.view.now c.args.segment.now (borrowed_text c.args.new) None view (rw c.in-None.is at c.in_ok-text.ensures) holds (c.stands_free.ensures.text c.if-stands_free.false rows q view holds)
