-- The bytes of a schema have one accepted table or one first fault.
use Rattle.std.proofs.Common.{◌≡◌, ◌⊎◌, ℕ, List, [], length, Result, Ok, Err, refl, sym, ap, subst, ◌∙◌, inl, inr, arith}
use Rattle.std.specs.Prelude.{IsUtf8}
use Rattle.std.specs.Str.Lossy.{utf8_valid_len}
use Rattle.ild_lex.specs.declared.token.Token.{Token}
use Rattle.ild_lex.specs.Lex.{Stop, Lexes, all_read, wrong_char, unended_text}
use Rattle.ild_lex.proofs.Once.{one_reading}
use Rattle.ild_parse_grammar.specs.declared.ast.Ast.{Ast}
use Rattle.ild_parse_grammar.specs.DerivePart.{Derives}
use Rattle.ild_parse_grammar.specs.Fault.{IsWrongAt}
use Rattle.ild_parse_grammar.proofs.OnePlace.{one_wrong_place_lem, tree_or_place_lem}
use Rattle.ild_parse_grammar.proofs.OneTree.{one_tree_lem}
use Rattle.ild_schema.specs.declared.row.Row.{Row}
use Rattle.ild_schema.specs.declared.rule.Rule.{Rule}
use Rattle.ild_schema.specs.Accept.{Fault, IsAccepted, IsFirstFault}
use Rattle.ild_accept.proofs.Verdicts.{one_fault, no_fault}
use Rattle.ild_resolve.specs.Table.{Resolves}
use Rattle.ild_resolve.specs.declared.error.ResolveErr.{ResolveErr}
use Rattle.ild_resolve.specs.declared.error.ResolveErr.TheVariants as R
use Rattle.ild_resolve.proofs.Results.{one_result_lem}
use Rattle.ild_compile.specs.declared.error.Flaw.{Flaw}
use Rattle.ild_compile.specs.declared.error.Flaw.TheVariants as F
use Rattle.ild_compile.specs.Compile.{Verdict, table, faulty, HasTree, HasWrongName, FailsRule, IsUngrammatical, IsFlaw, Compiles}

-- ---- each verdict by the stage that gives it

abbrev lexing_verdict : Stop → Verdict
lexing_verdict all_read = table []
lexing_verdict (wrong_char at) = faulty (record { flaw = F.Char; at = at })
lexing_verdict (unended_text at) = faulty (record { flaw = F.Unended; at = at })

abbrev Stops : Stop → Type 0
Stops all_read = ⊥
Stops stop = Unit {0}

abbrev naming_verdict : ResolveErr → Verdict
naming_verdict (R.Twice at) = faulty (record { flaw = F.Twice; at = at })
naming_verdict (R.Unknown at) = faulty (record { flaw = F.Unknown; at = at })
naming_verdict (R.Float at) = faulty (record { flaw = F.Float; at = at })
naming_verdict (R.CopyCycle at) = faulty (record { flaw = F.CopyCycle; at = at })
naming_verdict (R.Advanced at) = faulty (record { flaw = F.Advanced; at = at })
naming_verdict (R.Many at) = faulty (record { flaw = F.Many; at = at })
naming_verdict R.Memory = table []

-- of a table, by the rules
abbrev ruling_verdict : Fault → Verdict
ruling_verdict f = faulty (record { flaw = F.Rule f.rule; at = f.at })

abbrev Judged : Verdict → Result (List Row) ResolveErr → Type 0
Judged v (Ok rows) = (IsAccepted rows × (v ≡ table rows)) ⊎ ((f : Fault) × IsFirstFault rows f × (v ≡ ruling_verdict f))
Judged v (Err e) = v ≡ naming_verdict e

abbrev NoText : List ℕ → Verdict → Type 0
NoText src v = (IsUtf8 src → ⊥) × (v ≡ faulty (record { flaw = F.Char; at = utf8_valid_len src }))

record NoTokens (src : List ℕ) (v : Verdict) : Type 0 where
  pub text : IsUtf8 src
  pub tokens : List Token
  pub stop : Stop
  pub lexed : Lexes 0 src tokens stop
  pub stops : Stops stop
  pub is : v ≡ lexing_verdict stop

abbrev NoTree : List ℕ → Verdict → Type 0
NoTree src v = (at : ℕ) × IsUngrammatical src at × (v ≡ faulty (record { flaw = F.Syntax; at = at }))

record Resolved (src : List ℕ) (v : Verdict) : Type 0 where
  pub ast : Ast
  pub tree : HasTree src ast
  pub result : Result (List Row) ResolveErr
  pub resolves : Resolves ast result
  pub judged : Judged v result

abbrev Staged : List ℕ → Verdict → Type 0
Staged src v = NoText src v ⊎ (NoTokens src v ⊎ (NoTree src v ⊎ Resolved src v))

misnamed : (src : List ℕ) (v : Verdict) (e : ResolveErr) → HasWrongName src e → v ≡ naming_verdict e → Staged src v
misnamed src v e h is = inr (inr (inr (record { ast = h.ast; tree = h.tree; result = Err e; resolves = h.resolves; judged = is })))

ruled : (src : List ℕ) (rule : Rule) (at : ℕ) → FailsRule src rule at → Staged src (faulty (record { flaw = F.Rule rule; at = at }))
ruled src rule at h = inr (inr (inr (record {
  ast = h.table.ast;
  tree = h.table.tree;
  result = Ok h.rows;
  resolves = h.table.resolves;
  judged = inr (h.fault, h.first, λ i. faulty (record { flaw = F.Rule (sym h.same_rule i); at = sym h.same_place i }));
})))

staged_flaw : (src : List ℕ) (flaw : Flaw) (at : ℕ) → IsFlaw src flaw at → Staged src (faulty (record { flaw = flaw; at = at }))
staged_flaw src F.Char at (inl h) = inl (h.0, ap (λ n. faulty (record { flaw = F.Char; at = n })) h.1)
staged_flaw src F.Char at (inr h) = inr (inl (record { text = h.0; tokens = h.1.0; stop = wrong_char at; lexed = h.1.1; stops = tt; is = refl }))
staged_flaw src F.Unended at h = inr (inl (record { text = h.0; tokens = h.1.0; stop = unended_text at; lexed = h.1.1; stops = tt; is = refl }))
staged_flaw src F.Syntax at h = inr (inr (inl (at, h, refl)))
staged_flaw src F.Twice at h = misnamed src _ (R.Twice at) h refl
staged_flaw src F.Unknown at h = misnamed src _ (R.Unknown at) h refl
staged_flaw src F.Float at h = misnamed src _ (R.Float at) h refl
staged_flaw src F.CopyCycle at h = misnamed src _ (R.CopyCycle at) h refl
staged_flaw src F.Advanced at h = misnamed src _ (R.Advanced at) h refl
staged_flaw src F.Many at h = misnamed src _ (R.Many at) h refl
staged_flaw src (F.Rule rule) at h = ruled src rule at h

staged : (src : List ℕ) (v : Verdict) → Compiles src v → Staged src v
staged src (table rows) h = inr (inr (inr (record { ast = h.table.ast; tree = h.table.tree; result = Ok rows; resolves = h.table.resolves; judged = inl (h.accepted, refl) })))
staged src (faulty f) h = staged_flaw src f.flaw f.at h

-- ---- one reading, one tree, one result

one_lexing : (src : List ℕ) (ts us : List Token) (s r : Stop) → Lexes 0 src ts s → Lexes 0 src us r → (ts ≡ us) × (s ≡ r)
one_lexing src ts us s r p q = one_reading (length src) 0 src ts us s r (omega arith) p q

never : (stop : Stop) → stop ≡ all_read → Stops stop → ⊥
never stop e h = subst Stops e h

no_tokens_twice : (src : List ℕ) (v w : Verdict) → NoTokens src v → NoTokens src w → v ≡ w
no_tokens_twice src v w p q = p.is ∙ ap lexing_verdict (one_lexing src p.tokens q.tokens p.stop q.stop p.lexed q.lexed).1 ∙ sym q.is

all_or_some : (src : List ℕ) (v : Verdict) (ts : List Token) → Lexes 0 src ts all_read → NoTokens src v → ⊥
all_or_some src v ts lexed p = never p.stop (one_lexing src p.tokens ts p.stop all_read p.lexed lexed).1 p.stops

no_tree_twice : (src : List ℕ) (v w : Verdict) → NoTree src v → NoTree src w → v ≡ w
no_tree_twice src v w p q =
    let same = (one_lexing src p.1.tokens q.1.tokens all_read all_read p.1.lexed q.1.lexed).0 in
    let place = one_wrong_place_lem src p.1.tokens p.0 q.0 p.1.wrong (subst (λ (ts : List Token). IsWrongAt src ts q.0) (sym same) q.1.wrong) in
    p.2 ∙ ap (λ n. faulty (record { flaw = F.Syntax; at = n })) place ∙ sym q.2

tree_or_none : (src : List ℕ) (at : ℕ) (ast : Ast) → IsUngrammatical src at → HasTree src ast → ⊥
tree_or_none src at ast p h =
    let same = (one_lexing src p.tokens h.tokens all_read all_read p.lexed h.lexed).0 in
    tree_or_place_lem src p.tokens ast at (subst (λ (ts : List Token). Derives src ts ast) (sym same) h.derived) p.wrong

one_tree : (src : List ℕ) (a b : Ast) → HasTree src a → HasTree src b → a ≡ b
one_tree src a b p q =
    let same = (one_lexing src p.tokens q.tokens all_read all_read p.lexed q.lexed).0 in
    one_tree_lem src p.tokens a b p.derived (subst (λ (ts : List Token). Derives src ts b) (sym same) q.derived)

judged_once : (v w : Verdict) (r : Result (List Row) ResolveErr) → Judged v r → Judged w r → v ≡ w
judged_once v w (Ok rows) (inl p) (inl q) = p.1 ∙ sym q.1
judged_once v w (Ok rows) (inl p) (inr q) = absurd (no_fault rows p.0 q.0 q.1)
judged_once v w (Ok rows) (inr p) (inl q) = absurd (no_fault rows q.0 p.0 p.1)
judged_once v w (Ok rows) (inr p) (inr q) = p.2 ∙ ap ruling_verdict (one_fault rows p.0 q.0 p.1 q.1) ∙ sym q.2
judged_once v w (Err e) p q = p ∙ sym q

resolved_twice : (src : List ℕ) (v w : Verdict) → Resolved src v → Resolved src w → v ≡ w
resolved_twice src v w p q =
    let same = one_tree src p.ast q.ast p.tree q.tree in
    let result = one_result_lem q.ast p.result q.result (subst (λ (a : Ast). Resolves a p.result) same p.resolves) q.resolves in
    judged_once v w q.result (subst (Judged v) result p.judged) q.judged

one_staged : (src : List ℕ) (v w : Verdict) → Staged src v → Staged src w → v ≡ w
one_staged src v w (inl p) (inl q) = p.1 ∙ sym q.1
one_staged src v w (inl p) (inr (inl q)) = absurd (p.0 q.text)
one_staged src v w (inl p) (inr (inr (inl q))) = absurd (p.0 q.1.text)
one_staged src v w (inl p) (inr (inr (inr q))) = absurd (p.0 q.tree.text)
one_staged src v w (inr (inl p)) (inl q) = absurd (q.0 p.text)
one_staged src v w (inr (inr (inl p))) (inl q) = absurd (q.0 p.1.text)
one_staged src v w (inr (inr (inr p))) (inl q) = absurd (q.0 p.tree.text)
one_staged src v w (inr (inl p)) (inr (inl q)) = no_tokens_twice src v w p q
one_staged src v w (inr (inl p)) (inr (inr (inl q))) = absurd (all_or_some src v q.1.tokens q.1.lexed p)
one_staged src v w (inr (inl p)) (inr (inr (inr q))) = absurd (all_or_some src v q.tree.tokens q.tree.lexed p)
one_staged src v w (inr (inr (inl p))) (inr (inl q)) = absurd (all_or_some src w p.1.tokens p.1.lexed q)
one_staged src v w (inr (inr (inr p))) (inr (inl q)) = absurd (all_or_some src w p.tree.tokens p.tree.lexed q)
one_staged src v w (inr (inr (inl p))) (inr (inr (inl q))) = no_tree_twice src v w p q
one_staged src v w (inr (inr (inl p))) (inr (inr (inr q))) = absurd (tree_or_none src p.0 q.ast p.1 q.tree)
one_staged src v w (inr (inr (inr p))) (inr (inr (inl q))) = absurd (tree_or_none src q.0 p.ast q.1 p.tree)
one_staged src v w (inr (inr (inr p))) (inr (inr (inr q))) = resolved_twice src v w p q

pub one_verdict_lem : (src : List ℕ) (v w : Verdict) → Compiles src v → Compiles src w → v ≡ w
one_verdict_lem src v w p q = one_staged src v w (staged src v p) (staged src w q)
