-- Where a source stops being one: the first token with which no text of the grammar goes on.
use Rattle.std.specs.Prelude.{◌≡◌, ℕ, List, [], ◌∷◌, ◌++◌, length}
use Rattle.ild_lex.specs.declared.token.Token.{Token}
use Rattle.ild_parse_grammar.specs.declared.ast.Ast.{Ast}
use Rattle.ild_parse_grammar.specs.Sign.{Sign, signs_of, place_of}
use Rattle.ild_parse_grammar.specs.Derive.{AreParts}
use Rattle.ild_parse_grammar.specs.DerivePart.{IsDecl}

-- with some tokens behind them, these are a text of the grammar
abbrev pub BeginText : List Sign → Type 0
BeginText xs = (more : List Sign) × (tree : Ast) × AreParts IsDecl tree.decls (xs ++ more) []

-- they are no text of the grammar, or the next of them is one with which none begins
abbrev pub IsDead : List Sign → List Sign → Type 0
IsDead before [] = (tree : Ast) → AreParts IsDecl tree.decls before [] → ⊥
IsDead before (t ∷ after) = BeginText (before ++ t ∷ []) → ⊥

-- the tokens before this place begin a text of the grammar, and none has the token, or the end, that stands there behind them
abbrev pub IsWrongAt : List ℕ → List Token → ℕ → Type 0
IsWrongAt src ts at =
    (before after : List Sign) × (signs_of src ts ≡ before ++ after) × (at ≡ place_of (length src) after) × BeginText before × IsDead before after
