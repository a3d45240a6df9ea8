use Rattle.std.proofs.Common.{subst, sym, List}
use Rattle.ild_lex.specs.declared.token.Token.{Token}
use Rattle.ild_lex.specs.Lex.{all_read, wrong_char, unended_text}
use Rattle.ild_lex.proofs.First.{SoFar, SoFar-none, SoFar-more, SoFar-end, left_smaller}
use Rattle.ild_lex.proofs.lex.lexed.Goals as goal

pub loop-token-init : goal.loop-token-init
loop-token-init c = subst (λ (found : List Token). SoFar c.args.bytes.now c.args.bytes.now found) (sym c.new-found.ensures) (SoFar-none c.args.bytes.now)

pub loop-token-smaller : goal.loop-token-smaller
loop-token-smaller c = left_smaller c.args.bytes.now c.loop-token.left.now c.in-Token.after.now c.loop-token.found c.in-Token.token c.loop-token.invariant c.in-Token.ensures

pub loop-token-preserved : goal.loop-token-preserved
loop-token-preserved c =
    subst (λ (found : List Token). SoFar c.args.bytes.now c.in-Token.after.now found) (sym c.in_ok-push-in-Token.ensures.ok)
    (SoFar-more c.args.bytes.now c.loop-token.left.now c.in-Token.after.now c.loop-token.found c.in-Token.token c.loop-token.invariant c.in-Token.ensures)

pub returns-in-End : goal.returns-in-End
returns-in-End c = SoFar-end c.args.bytes.now c.loop-token.left.now c.loop-token.found all_read c.loop-token.invariant c.in-End.ensures

pub returns-in-Char : goal.returns-in-Char
returns-in-Char c = (c.loop-token.found, SoFar-end c.args.bytes.now c.loop-token.left.now c.loop-token.found (wrong_char c.in-Char.at) c.loop-token.invariant c.in-Char.ensures)

pub returns-in-Unended : goal.returns-in-Unended
returns-in-Unended c = (c.loop-token.found, SoFar-end c.args.bytes.now c.loop-token.left.now c.loop-token.found (unended_text c.in-Unended.at) c.loop-token.invariant c.in-Unended.ensures)
