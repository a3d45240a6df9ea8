use Rattle.std.proofs.Common.{◌++◌, ◌||◌, ◌∙◌, ap, append_assoc, refl, rules, sym}
use Rattle.std.proofs.lemmas.List.{length-append}
use Rattle.ild_bulk.specs.Keyed.{entry_front}
use Rattle.ild_build_entries.proofs.Marked.{adds_entry, fits_entry}
use Rattle.ild_build_entries.proofs.hamt.end_entry.Goals as goal

pub returns : goal.returns
returns g c = λ before value is at value_at fits.
    let key = c.args.key.now in
    let long = c.is_value_long.ensures (before ++ entry_front key) value (is ∙ sym (append_assoc before (entry_front key) value)) (value_at ∙ sym (length-append before (entry_front key))) in
    let e = c.in_ok-from.ensures before value is at (fits_entry value c.args.nodes.now _ refl (ap (λ b. c.args.nodes.now.long || b) long) fits) in
    adds_entry g.H.KeyHash.hash_of key value c.end_of_entry.new.out c.args.nodes.now _ c.args.entries.now _ c.in_ok-from.from _ e refl c.in_ok-push.ensures.items refl
    (c.mark_of-mark.ensures g.H.KeyHash.hash_of (key, e.of) e.front e.is e.at (search rules)) refl refl (ap (λ b. c.args.nodes.now.long || b) long)
