-- Laws of the grammar: tokens derive one tree, or have one place at which they stop being a text of it, and not both.
use Rattle.std.specs.Prelude.{◌≡◌, ◌⊎◌, ℕ, List, ◌++◌}
use Rattle.ild_lex.specs.declared.token.Token.{Token}
use Rattle.ild_parse_grammar.specs.declared.ast.Ast.{Ast}
use Rattle.ild_parse_grammar.specs.Sign.{Sign}
use Rattle.ild_parse_grammar.specs.DerivePart.{Derives}
use Rattle.ild_parse_grammar.specs.Fault.{BeginText, IsWrongAt}

-- tokens derive no second tree
abbrev pub OneTree : Type 0
OneTree = (src : List ℕ) (ts : List Token) (tree other : Ast) → Derives src ts tree → Derives src ts other → tree ≡ other

-- nor have they a second wrong place
abbrev pub OneWrongPlace : Type 0
OneWrongPlace = (src : List ℕ) (ts : List Token) (at other : ℕ) → IsWrongAt src ts at → IsWrongAt src ts other → at ≡ other

-- nor a wrong place where they derive a tree
abbrev pub TreeOrPlace : Type 0
TreeOrPlace = (src : List ℕ) (ts : List Token) (tree : Ast) (at : ℕ) → Derives src ts tree → IsWrongAt src ts at → ⊥

-- one of the two there is
abbrev pub SomeTreeOrPlace : Type 0
SomeTreeOrPlace = (src : List ℕ) (ts : List Token) → ((tree : Ast) × Derives src ts tree) ⊎ ((at : ℕ) × IsWrongAt src ts at)

-- what begins what begins a text begins one
abbrev pub FrontsBegin : Type 0
FrontsBegin = (front rest : List Sign) → BeginText (front ++ rest) → BeginText front
