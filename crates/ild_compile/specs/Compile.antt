-- What the bytes of a schema are compiled to: the accepted table of its types, or its first fault, stage after stage.
use Rattle.std.specs.Prelude.{◌≡◌, ◌⊎◌, ℕ, List, Result, Ok, Err, IsUtf8}
use Rattle.std.specs.Str.Lossy.{utf8_valid_len}
use Rattle.ild_lex.specs.declared.token.Token.{Token}
use Rattle.ild_lex.specs.Lex.{Lexes, AreTokens, wrong_char, unended_text}
use Rattle.ild_parse_grammar.specs.declared.ast.Ast.{Ast}
use Rattle.ild_parse_grammar.specs.DerivePart.{Derives}
use Rattle.ild_parse_grammar.specs.Fault.{IsWrongAt}
use Rattle.ild_schema.specs.declared.row.Row.{Row}
use Rattle.ild_schema.specs.declared.rule.Rule.{Rule}
use Rattle.ild_schema.specs.Accept.{Fault, IsAccepted, IsFirstFault}
use Rattle.ild_resolve.specs.Table.{Resolves}
use Rattle.ild_resolve.specs.declared.error.ResolveErr.{ResolveErr}
use Rattle.ild_resolve.specs.declared.error.ResolveErr.TheVariants as R
use Rattle.ild_compile.specs.declared.error.Flaw.{Flaw}
use Rattle.ild_compile.specs.declared.error.Flaw.TheVariants as F
use Rattle.ild_compile.specs.declared.error.SchemaFault.{SchemaFault}
use Rattle.ild_compile.specs.declared.error.CompileErr.{CompileErr}
use Rattle.ild_compile.specs.declared.error.CompileErr.TheVariants as E

-- what is said of a schema
pub data Verdict : Type 0 where
  table : List Row → Verdict
  faulty : SchemaFault → Verdict

-- the bytes are a text of the grammar, with this tree
pub record HasTree (src : List ℕ) (ast : Ast) : Type 0 where
  pub text : IsUtf8 src
  pub tokens : List Token
  pub lexed : AreTokens src tokens
  pub derived : Derives src tokens ast

-- they are a text that isn't one of the grammar: with the token at this place no text of the grammar goes on
pub record IsUngrammatical (src : List ℕ) (at : ℕ) : Type 0 where
  pub text : IsUtf8 src
  pub tokens : List Token
  pub lexed : AreTokens src tokens
  pub wrong : IsWrongAt src tokens at

-- they stop being UTF-8 at this place, or they are a text in which no token begins there
abbrev pub IsWrongChar : List ℕ → ℕ → Type 0
IsWrongChar src at = ((IsUtf8 src → ⊥) × (at ≡ utf8_valid_len src)) ⊎ (IsUtf8 src × ((ts : List Token) × Lexes 0 src ts (wrong_char at)))

-- they are a text of the grammar, and these are the rows of its table
pub record HasTable (src : List ℕ) (rows : List Row) : Type 0 where
  pub ast : Ast
  pub tree : HasTree src ast
  pub resolves : Resolves ast (Ok rows)

-- they are a text of the grammar, whose names have this first fault
pub record HasWrongName (src : List ℕ) (e : ResolveErr) : Type 0 where
  pub ast : Ast
  pub tree : HasTree src ast
  pub resolves : Resolves ast (Err e)

-- they have a table of which none of the rules fails
pub record HasAccepted (src : List ℕ) (rows : List Row) : Type 0 where
  pub table : HasTable src rows
  pub accepted : IsAccepted rows

-- they have a table, and this rule is the first that fails, at this place
pub record FailsRule (src : List ℕ) (rule : Rule) (at : ℕ) : Type 0 where
  pub rows : List Row
  pub table : HasTable src rows
  pub fault : Fault
  pub first : IsFirstFault rows fault
  pub same_rule : fault.rule ≡ rule
  pub same_place : fault.at ≡ at

-- the first fault of the bytes is this one
abbrev pub IsFlaw : List ℕ → Flaw → ℕ → Type 0
IsFlaw src F.Char at = IsWrongChar src at
IsFlaw src F.Unended at = IsUtf8 src × ((ts : List Token) × Lexes 0 src ts (unended_text at))
IsFlaw src F.Syntax at = IsUngrammatical src at
IsFlaw src F.Twice at = HasWrongName src (R.Twice at)
IsFlaw src F.Unknown at = HasWrongName src (R.Unknown at)
IsFlaw src F.Float at = HasWrongName src (R.Float at)
IsFlaw src F.CopyCycle at = HasWrongName src (R.CopyCycle at)
IsFlaw src F.Advanced at = HasWrongName src (R.Advanced at)
IsFlaw src F.Many at = HasWrongName src (R.Many at)
IsFlaw src (F.Rule rule) at = FailsRule src rule at

abbrev pub Compiles : List ℕ → Verdict → Type 0
Compiles src (table rows) = HasAccepted src rows
Compiles src (faulty f) = IsFlaw src f.flaw f.at

-- what an answer says of the bytes
abbrev pub Answers : List ℕ → Result (List Row) CompileErr → Type 0
Answers src (Ok rows) = Compiles src (table rows)
Answers src (Err E.Memory) = Unit {0}
Answers src (Err (E.Fault f)) = Compiles src (faulty f)

-- bytes have one verdict
abbrev pub OneVerdict : Type 0
OneVerdict = (src : List ℕ) (v w : Verdict) → Compiles src v → Compiles src w → v ≡ w
