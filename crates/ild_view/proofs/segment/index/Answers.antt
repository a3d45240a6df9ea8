use Rattle.std.proofs.Common.{◌≡◌, ◌≤◌, ◌^◌, ℕ, sym, ◌∙◌, ap, subst}
use Rattle.ild_data.specs.Decimal.{digits_value}
use Rattle.ild_data.proofs.Digits.{value_is, value_large}
use Rattle.ild_view.proofs.Indexing.{index_found, index_large, index_other}
use Rattle.ild_view.proofs.segment.index.Goals as goal

pub returns-then-is_decimal : goal.returns-then-is_decimal
returns-then-is_decimal c =
    let is = value_is _ c.in-Some.n c.in-Some.ensures in
    index_found c.args.segment.now c.in-Some.n (is ∙ ap (digits_value 0) c.as_bytes.ensures.value) (sym c.is_decimal.ensures ∙ c.if-is_decimal.true)

pub returns-else-is_decimal : goal.returns-else-is_decimal
returns-else-is_decimal c =
    let is = value_is _ c.in-Some.n c.in-Some.ensures in
    index_other c.args.segment.now c.in-Some.n (is ∙ ap (digits_value 0) c.as_bytes.ensures.value) (sym c.is_decimal.ensures ∙ c.if-is_decimal.false)

pub returns-in-None : goal.returns-in-None
returns-in-None c =
    index_large c.args.segment.now (let P : ℕ → Type 0 = λ n. 2 ^ 64 ≤ n in subst P (ap (digits_value 0) c.as_bytes.ensures.value) (value_large _ c.in-None.ensures))
