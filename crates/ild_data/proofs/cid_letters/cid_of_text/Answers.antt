use Rattle.std.proofs.Common.{◌≡◌, ◌≤◌, ℕ, List, length, get_or, refl, arith, sym, ◌∙◌, ap}
use Rattle.std.specs.Prelude.{Ok, Result}
use Rattle.ild_data.specs.declared.fault.TextErr.{TextErr}
use Rattle.ild_data.specs.CidTextRead.{read_cid_text}
use Rattle.ild_data.proofs.Texts.{text_begins, cid_text-read}
use Rattle.ild_data.proofs.cid_letters.cid_of_text.Goals as goal

pub returns-in-Ok-clause-read : goal.returns-in-Ok-clause-read
returns-in-Ok-clause-read c =
    let e : get_or c.as_bytes.result.now 0 0 ≡ 98 = omega arith in
    let le : 1 ≤ length c.as_bytes.result.now = omega arith in
    let ok : List ℕ → Result (List ℕ) TextErr = λ s. Ok s in
    ap read_cid_text (sym c.as_bytes.ensures.value) ∙ text_begins c.as_bytes.result.now c.in_ok-bytes.bytes.items le e c.in_ok-bytes.ensures.bytes (c.in-Ok.ensures.form.0 refl) ∙ ap ok (sym c.in-Ok.ensures.whole)

pub returns-in-Ok-clause-spelled : goal.returns-in-Ok-clause-spelled
returns-in-Ok-clause-spelled c = (cid_text-read c.args.text.now c.in-Ok.cid (returns-in-Ok-clause-read c)).1
