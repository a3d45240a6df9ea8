use Rattle.std.proofs.Common.{◌++◌, ◌∙◌, ap}
use Rattle.ild_data.specs.Hex.{bytes_of_hex}
use Rattle.ild_build_entries.proofs.Marked.{on_ok}
use Rattle.ild_build_pass.proofs.fronts.add_behind_prefix.Goals as goal

pub returns-clause-ok : goal.returns-clause-ok
returns-clause-ok c =
    on_ok c.bytes.result _ _
    (λ e. record {
      bytes = c.deref.result.now;
      is = e;
      read = λ front rest known spelled.
          let tail = c.behind_head.ensures rest spelled in
          let first = c.in_ok-add_hex.ensures front (ap bytes_of_hex c.as_bytes.ensures.value ∙ known) ∙ ap (λ x. x ++ front) c.new-bytes.ensures.items in
          c.deref.ensures.value ∙ c.in_ok-extend_from_slice.ensures.items ∙ ap (λ x. x ++ c.behind_head.result.now) first ∙ ap (λ x. front ++ x) tail;
    }) c.bytes.ensures.ok
