use Rattle.std.proofs.Common.{Some, None, rules, sym, ap, ◌∙◌, lit<}
use Rattle.std.proofs.lemmas.Str.Pattern.{split_once_first}
use Rattle.std.proofs.lemmas.Result.{err_from_is_err_and}
use Rattle.ild_script.specs.Escape.{unescaped}
use Rattle.ild_script.specs.Path.{segments_of}
use Rattle.ild_script.proofs.Segments.{so_far_more, so_far_stop, so_far_last, refused}
use Rattle.ild_script.proofs.path.segments_of.Goals as goal

pub returns-in_err-unescape : goal.returns-in_err-unescape
returns-in_err-unescape c =
    let cut = split_once_first 47 c.loop-segment.rest.now (Some (c.in-Some.segment, c.in-Some.after)) c.in-Some.ensures.cases (lit< tt) in
    let p = err_from_is_err_and c.from_residual.result c.from_residual.ensures.1 in
    rw (p.1, p.2) (refused c.in_err-unescape.field-0.0 (unescaped c.in-Some.segment.now) (segments_of c.args.text.now) c.in_err-unescape.ensures
    (so_far_stop c.args.text.now _ c.loop-segment.rest.now c.in-Some.segment.now c.in-Some.after.now c.loop-segment.invariant.so_far cut.0 cut.1 cut.2))

pub loop-segment-preserved : goal.loop-segment-preserved
loop-segment-preserved c =
    let cut = split_once_first 47 c.loop-segment.rest.now (Some (c.in-Some.segment, c.in-Some.after)) c.in-Some.ensures.cases (lit< tt) in
    record {
      utf8 = search rules;
      so_far = rw c.in_ok-push.ensures.ok (so_far_more c.args.text.now _ c.loop-segment.rest.now c.in-Some.segment.now c.in-Some.after.now _ c.loop-segment.invariant.so_far cut.0 cut.1 cut.2 c.in_ok-unescape.ensures);
    }

pub returns-in_err-unescape-2 : goal.returns-in_err-unescape-2
returns-in_err-unescape-2 c =
    let last = split_once_first 47 c.loop-segment.rest.now None c.in_default.ensures.cases (lit< tt) in
    let p = err_from_is_err_and c.from_residual-in_err-unescape-2.result c.from_residual-in_err-unescape-2.ensures.1 in
    rw (p.1, p.2) (refused c.in_err-unescape-2.field-0.0 (unescaped c.loop-segment.rest.now) (segments_of c.args.text.now) c.in_err-unescape-2.ensures
    (λ none. so_far_last c.args.text.now _ c.loop-segment.rest.now _ c.loop-segment.invariant.so_far last none))

pub returns : goal.returns
returns c =
    let last = split_once_first 47 c.loop-segment.rest.now None c.in_default.ensures.cases (lit< tt) in
    so_far_last c.args.text.now _ c.loop-segment.rest.now _ c.loop-segment.invariant.so_far last c.in_ok-unescape-2.ensures ∙ ap Some (sym c.in_ok-push-2.ensures.ok)
