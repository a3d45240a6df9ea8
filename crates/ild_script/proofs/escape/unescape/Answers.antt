use Rattle.std.proofs.Common.{Some, None, rules, sym, ap, ◌∙◌, lit<}
use Rattle.std.proofs.lemmas.Str.Pattern.{split_once_first}
use Rattle.ild_script.proofs.Escapes.{so_far_start, so_far_more, so_far_stop, so_far_end, behind_ascii}
use Rattle.ild_script.proofs.escape.unescape.Goals as goal

pub loop-plain-init : goal.loop-plain-init
loop-plain-init c = record { utf8 = c.utf8.segment; so_far = rw c.new-text.ensures.bytes (so_far_start c.args.segment.now) }

pub returns-in_default-behind_tilde : goal.returns-in_default-behind_tilde
returns-in_default-behind_tilde c =
    let cut = split_once_first 126 c.loop-plain.rest.now (Some (c.in-Some.plain, c.in-Some.escape)) c.in-Some.ensures.cases (lit< tt) in
    so_far_stop c.args.segment.now _ c.loop-plain.rest.now c.in-Some.plain.now c.in-Some.escape.now c.loop-plain.invariant.so_far cut.0 cut.1 cut.2 (sym c.in_default-behind_tilde.ensures)

pub loop-plain-preserved : goal.loop-plain-preserved
loop-plain-preserved c =
    let cut = split_once_first 126 c.loop-plain.rest.now (Some (c.in-Some.plain, c.in-Some.escape)) c.in-Some.ensures.cases (lit< tt) in
    let behind = sym c.in-Some-behind_tilde.ensures in
    let ascii = behind_ascii c.in-Some.escape.now c.in-Some-behind_tilde.after.now c.in-Some-behind_tilde.meant behind in
    let more = so_far_more c.args.segment.now _ c.loop-plain.rest.now c.in-Some.plain.now c.in-Some.escape.now c.in-Some-behind_tilde.after.now c.in-Some-behind_tilde.meant c.loop-plain.invariant.so_far cut.0 cut.1 cut.2 behind in
    record { utf8 = search rules; so_far = rw (c.in_ok-push.ensures.bytes, c.in_ok-push.ensures.ascii ascii, c.in_ok-push_str.ensures.bytes) more }

pub returns : goal.returns
returns c =
    let last = split_once_first 126 c.loop-plain.rest.now None c.in_default.ensures.cases (lit< tt) in
    so_far_end c.args.segment.now _ c.loop-plain.rest.now c.loop-plain.invariant.so_far last ∙ ap Some (sym (c.from_string.ensures ∙ c.in_ok-push_str-2.ensures.bytes))
