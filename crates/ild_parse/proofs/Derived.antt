-- An answer is derived, and what is derived is answered.
use Rattle.std.proofs.Common.{◌≡◌, ℕ, List, Result, Ok, Err, refl, sym, ◌∙◌, subst, inl, inr}
use Rattle.std.specs.Prelude.{◌⊎◌, IfOk, IfErr}
use Rattle.ild_lex.specs.declared.token.Token.{Token}
use Rattle.ild_parse_grammar.specs.declared.ast.Ast.{Ast}
use Rattle.ild_parse_grammar.specs.DerivePart.{Derives}
use Rattle.ild_parse_grammar.proofs.Stream.{stream}
use Rattle.ild_parse_grammar.proofs.Grammar.{schema_at}
use Rattle.ild_parse_grammar.proofs.Results.{no_value}
use Rattle.ild_parse_grammar.proofs.CompleteParts.{schema-complete}
use Rattle.ild_parse_grammar.proofs.OneTree.{IsTold, schema_told}
use Rattle.ild_parse.specs.declared.error.ParseErr.{ParseErr}
use Rattle.ild_parse.specs.declared.error.ParseErr.TheVariants as E
use Rattle.ild_parse.specs.inside.Seen.{Gives}
use Rattle.ild_parse.specs.Wrong.{IsWrong}

-- what the readers gave for the bytes and the tokens that they were handed
abbrev IsRead : List ℕ → List Token → Result Ast ParseErr → Type 0
IsRead src ts answer = Gives (λ a. a) answer (schema_at (stream src ts))

handed : (src bytes : List ℕ) (ts slice : List Token) (answer : Result Ast ParseErr) → bytes ≡ src → slice ≡ ts → IsRead bytes slice answer → IsRead src ts answer
handed src bytes ts slice answer same_bytes same_tokens h =
    subst (λ (us : List Token). IsRead src us answer) same_tokens (subst (λ (b : List ℕ). IsRead b slice answer) same_bytes h)

pub answer_derived : (src bytes : List ℕ) (ts slice : List Token) (answer : Result Ast ParseErr) → bytes ≡ src → slice ≡ ts → IsRead bytes slice answer → IfOk answer (Derives src ts)
answer_derived src bytes ts slice (Ok tree) same_bytes same_tokens h = subst (IsTold src ts) (handed src bytes ts slice (Ok tree) same_bytes same_tokens h) (schema_told src ts)
answer_derived src bytes ts slice (Err e) same_bytes same_tokens h = tt

pub fault_wrong : (src bytes : List ℕ) (ts slice : List Token) (answer : Result Ast ParseErr) → bytes ≡ src → slice ≡ ts → IsRead bytes slice answer → IfErr answer (IsWrong src ts)
fault_wrong src bytes ts slice (Ok tree) same_bytes same_tokens h = tt
fault_wrong src bytes ts slice (Err E.Memory) same_bytes same_tokens h = tt
fault_wrong src bytes ts slice (Err (E.Syntax at)) same_bytes same_tokens h =
    subst (IsTold src ts) (handed src bytes ts slice (Err (E.Syntax at)) same_bytes same_tokens h) (schema_told src ts)

only_that : (tree : Ast) (answer : Result Ast ParseErr) (read : Result Ast ℕ) → read ≡ Ok tree → Gives (λ a. a) answer read → (answer ≡ Ok tree) ⊎ (answer ≡ Err E.Memory)
only_that tree (Ok other) read e h = inl cc
only_that tree (Err E.Memory) read e h = inr refl
only_that tree (Err (E.Syntax at)) read e h = absurd (no_value at tree (sym h ∙ e))

pub derived_answered : (src bytes : List ℕ) (ts slice : List Token) (answer : Result Ast ParseErr) → bytes ≡ src → slice ≡ ts → IsRead bytes slice answer
    → (tree : Ast) → Derives src ts tree → (answer ≡ Ok tree) ⊎ (answer ≡ Err E.Memory)
derived_answered src bytes ts slice answer same_bytes same_tokens h tree d =
    only_that tree answer (schema_at (stream src ts)) (schema-complete src ts tree d) (handed src bytes ts slice answer same_bytes same_tokens h)
