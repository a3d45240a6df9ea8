-- A row whose definition comes after the rows behind it.
use Rattle.std.proofs.Common.{◌≡◌, ℕ, List, ◌∷◌, ◌++◌, length, slice_set, get_or, ap, sym, ◌∙◌}
use Rattle.std.proofs.Math.Seq.{set-append_seam, get_or-append_seam}
use Rattle.ild_schema.specs.declared.row.Row.{Row}
use Rattle.ild_schema.specs.declared.def.TypeDef.{TypeDef}

pub define-between : (rows front after : List Row) (r s : Row) (n : ℕ) (d : TypeDef) → s ≡ get_or rows n s → length front ≡ n → rows ≡ front ++ r ∷ after
    → slice_set rows n (record s { def = d }) ≡ front ++ record r { def = d } ∷ after
define-between rows front after r s n d here size is =
    let same : s ≡ r = here ∙ ap (λ xs. get_or xs n s) is ∙ ap (λ k. get_or (front ++ r ∷ after) k s) (sym size) ∙ get_or-append_seam front r after s in
    ap (λ xs. slice_set xs n (record s { def = d })) is ∙ ap (λ k. slice_set (front ++ r ∷ after) k (record s { def = d })) (sym size)
    ∙ set-append_seam front r after (record s { def = d }) ∙ ap (λ (t : Row). front ++ record t { def = d } ∷ after) same
