-- Resolving a syntax tree has one result.
use Rattle.std.proofs.Common.{◌≡◌, ℕ, List, Some, None, Result, Ok, Err, inl, inr, refl, ap, sym, ◌∙◌, subst}
use Rattle.std.specs.Prelude.{◌⊎◌}
use Rattle.std.proofs.lemmas.Bool.{cases_order}
use Rattle.std.proofs.lemmas.Option.{none-some, same_Some}
use Rattle.ild_parse_grammar.specs.declared.ast.Ast.{Ast}
use Rattle.ild_schema.specs.Table.{place_at}
use Rattle.ild_schema.specs.Copies.{NoneIsCircular, FirstIsCircular}
use Rattle.ild_schema.specs.declared.row.Row.{Row}
use Rattle.ild_resolve.specs.Events.{events_of}
use Rattle.ild_resolve.specs.Faults.{fault_in}
use Rattle.ild_resolve.specs.Table.{rows_of, IsCopyCycle, IsOfCopies, IsFault, Resolves}
use Rattle.ild_resolve.specs.declared.error.ResolveErr.{ResolveErr}
use Rattle.ild_resolve.specs.declared.error.ResolveErr.TheVariants as E

pub same_first : (rows : List Row) (m n : ℕ) → FirstIsCircular rows m → FirstIsCircular rows n → m ≡ n
same_first rows m n h k =
    elim (cases_order m n) [ inl same ↦ same | inr (inl lt) ↦ absurd (k.1 m lt h.0) | inr (inr lt) ↦ absurd (h.1 n lt k.0) ]

pub same_place : (rows : List Row) (a b : ℕ) → IsCopyCycle rows a → IsCopyCycle rows b → a ≡ b
same_place rows a b h k =
    same_Some a b (sym h.2 ∙ ap (λ n. place_at rows n) (same_first rows h.0 k.0 h.1 k.1) ∙ k.2)

-- a fault of the text, or a copy of itself where the text has none
pub record IsCycle (ast : Ast) (e : ResolveErr) : Type 0 where
  pub at : ℕ
  pub is : e ≡ E.CopyCycle at
  pub clean : fault_in (events_of ast) ≡ None
  pub cycle : IsCopyCycle (rows_of ast) at

of_copies : (ast : Ast) (e : ResolveErr) → fault_in (events_of ast) ≡ None → IsOfCopies (rows_of ast) e → IsCycle ast e
of_copies ast (E.CopyCycle at) clean cycle = record { at = at; is = refl; clean = clean; cycle = cycle }
of_copies ast (E.Twice at) clean cycle = absurd cycle
of_copies ast (E.Unknown at) clean cycle = absurd cycle
of_copies ast (E.Float at) clean cycle = absurd cycle
of_copies ast (E.Advanced at) clean cycle = absurd cycle
of_copies ast (E.Many at) clean cycle = absurd cycle
of_copies ast E.Memory clean cycle = absurd cycle

pub fault_or_cycle : (ast : Ast) (e : ResolveErr) → IsFault ast e → (fault_in (events_of ast) ≡ Some e) ⊎ IsCycle ast e
fault_or_cycle ast e (inl fault) = inl fault
fault_or_cycle ast e (inr h) = inr (of_copies ast e h.0 h.1)

not_both : (ast : Ast) (rows : List Row) (e : ResolveErr) → Resolves ast (Ok rows) → IsFault ast e → ⊥
not_both ast rows e h k =
    elim (fault_or_cycle ast e k) [
      | inl fault ↦ none-some e (sym h.0 ∙ fault)
      | inr c ↦ subst NoneIsCircular h.2 h.1 c.cycle.0 c.cycle.1.0
    ]

same_fault : (ast : Ast) (d e : ResolveErr) → IsFault ast d → IsFault ast e → d ≡ e
same_fault ast d e h k = go (fault_or_cycle ast d h) (fault_or_cycle ast e k)
  where
    go : (fault_in (events_of ast) ≡ Some d) ⊎ IsCycle ast d → (fault_in (events_of ast) ≡ Some e) ⊎ IsCycle ast e → d ≡ e
    go (inl p) (inl q) = same_Some d e (sym p ∙ q)
    go (inl p) (inr c) = absurd (none-some d (sym c.clean ∙ p))
    go (inr c) (inl q) = absurd (none-some e (sym c.clean ∙ q))
    go (inr b) (inr c) = b.is ∙ ap E.CopyCycle (same_place (rows_of ast) b.at c.at b.cycle c.cycle) ∙ sym c.is

pub one_result_lem : (ast : Ast) (r s : Result (List Row) ResolveErr) → Resolves ast r → Resolves ast s → r ≡ s
one_result_lem ast (Ok r) (Ok s) h k = ap Ok (h.2 ∙ sym k.2)
one_result_lem ast (Ok r) (Err e) h k = absurd (not_both ast r e h k)
one_result_lem ast (Err d) (Ok s) h k = absurd (not_both ast s d k h)
one_result_lem ast (Err d) (Err e) h k = ap Err (same_fault ast d e h k)
