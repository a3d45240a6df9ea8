use Rattle.std.proofs.Common.{ap, Ok}
use Rattle.ild_accept_rules.proofs.Prefixing.{prefix_found, prefix_next, prefix_seen}
use Rattle.ild_accept_rules.proofs.prefix.prefix_again.Goals as goal

pub returns-then-branch : goal.returns-then-branch
returns-then-branch c =
    prefix_found c.args.form.now c.args.members.now c.loop-member.member-index c.member-item.result c.loop-member.seen.items c.in_ok-meets.field-0 _ c.loop-member-test.true c.member-item.is
    c.loop-member.invariant.so_far c.loop-member.invariant.seen c.in_ok-meets.ensures.answer c.if-branch.true

pub loop-member-preserved : goal.loop-member-preserved
loop-member-preserved c = record {
  so_far =
      prefix_next c.args.form.now c.args.members.now c.loop-member.member-index c.member-item.result c.loop-member.seen.items c.in_ok-meets.field-0 _ c.loop-member-test.true c.member-item.is
      c.loop-member.invariant.so_far c.loop-member.invariant.seen c.in_ok-meets.ensures.answer c.if-branch.false;
  apart = c.in_ok-meets.ensures.apart;
  seen = prefix_seen c.args.form.now c.args.members.now c.loop-member.member-index c.member-item.result c.loop-member.seen.items c.meets.new.seen.items c.loop-member-test.true c.member-item.is c.loop-member.invariant.seen (c.in_ok-meets.ensures.seen (ap Ok c.if-branch.false));
}
