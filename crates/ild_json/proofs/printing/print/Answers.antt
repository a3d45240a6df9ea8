use Rattle.std.proofs.Common.{◌≡◌, ◌++◌, Some, string_bytes, ap, sym, ◌∙◌, arith}
use Rattle.std.proofs.lemmas.Result.{err_from_is_err_and}
use Rattle.json.specs.Print.{print}
use Rattle.serde_json.proofs.Texts.{print-outline}
use Rattle.ild_data.specs.Seen.{data_of}
use Rattle.ild_json.specs.Printing.{json_of}
use Rattle.ild_json.specs.Tokens.{data_tokens}
use Rattle.ild_json.proofs.Back.{back}
use Rattle.ild_json.proofs.Depths.{json_depth}
use Rattle.ild_json.proofs.Texts.{json_text-some, json_text-none, json_read-some}
use Rattle.ild_json.proofs.Written.{tokens_back}
use Rattle.ild_json.proofs.printing.print.Goals as goal

pub returns-in_err-write-clause-reserved : goal.returns-in_err-write-clause-reserved
returns-in_err-write-clause-reserved c =
    let p = err_from_is_err_and c.from_residual-in_err-write.result c.from_residual-in_err-write.ensures.1 in
    rw (p.1, p.2) (λ is. json_text-none (data_of c.args.tree.now) (c.in_err-write.ensures.reserved is))

pub returns-clause-ok : goal.returns-clause-ok
returns-clause-ok c =
    let d = data_of c.args.tree.now in
    let written : c.write.new.out.tokens ≡ data_tokens d = c.in_ok-write.ensures.ok.tokens ∙ ap (λ ts. ts ++ data_tokens d) c.new-out.ensures.tokens in
    json_text-some d c.in_ok-write.ensures.free ∙ ap Some (sym (c.from_string.ensures ∙ c.text_of-text.ensures.text ∙ ap print written ∙ print-outline (json_of d)))

pub returns-clause-back : goal.returns-clause-back
returns-clause-back c = λ allowed.
    let d = data_of c.args.tree.now in
    let written : c.write.new.out.tokens ≡ data_tokens d = c.in_ok-write.ensures.ok.tokens ∙ ap (λ ts. ts ++ data_tokens d) c.new-out.ensures.tokens in
    let s = string_bytes c.text_of-text.result in
    let tree = c.well_formed-2.ensures in
    rw c.from_string.ensures (json_read-some s (json_of d) c.text_of-text.ensures.utf8 (tokens_back d s tree (c.text_of-text.ensures.reads_back ∙ written) allowed) ∙ back d tree c.in_ok-write.ensures.free)

pub returns-clause-block : goal.returns-clause-block
returns-clause-block c = λ shallow. let deeper = json_depth (data_of c.args.tree.now) in returns-clause-back c (omega (arith, shallow, deeper))
